use Rattle.std.proofs.Common.{◌<◌, ℕ, List, [], length, take, get_or, arith, Bor}
use Rattle.v_small.proofs.MetNames.{texts, distinct_push, not_distinct, one_more, was_met, was_new}
use Rattle.v_small.proofs.distinct.is_distinct.Goals as goal

no_name : Bor (List ℕ)
no_name = record { ref_ptr = (0, 0); now = [] }

pub returns-then-not-branch : goal.returns-then-not-branch
unfolding no_name
returns-then-not-branch c =
    let names = c.args.names.now in
    let i = c.loop-name.name-index in
    let within : i < length names = omega arith in
    let key = get_or names i no_name in
    let answer = c.in_ok-meet.ensures (texts (take i names)) c.loop-name.invariant.met in
    let met = (c.is_among_decides.ensures key.now (texts (take i names))).0 (was_met _ _ answer.0 c.if-not-branch.true) in
    (λ h. absurd (cc h), λ distinct. absurd (not_distinct names i no_name within met distinct))

pub loop-name-preserved : goal.loop-name-preserved
unfolding no_name
loop-name-preserved c =
    let names = c.args.names.now in
    let i = c.loop-name.name-index in
    let key = get_or names i no_name in
    let within : i < length names = omega arith in
    let answer = c.in_ok-meet.ensures (texts (take i names)) c.loop-name.invariant.met in
    record {
      distinct = rw (one_more names i no_name within)
          (distinct_push (texts (take i names)) key.now c.loop-name.invariant.distinct
          (λ among. was_new _ _ answer.0 c.if-not-branch.false ((c.is_among_decides.ensures key.now (texts (take i names))).1 among)));
      met = rw (one_more names i no_name within) answer.1;
    }
