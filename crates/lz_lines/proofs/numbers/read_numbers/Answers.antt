use Rattle.std.proofs.Common.{◌≡◌, ◌+◌, ◌∷◌, [], ◌∙◌, List, ℕ, Err, true, false, length, arith, ap, sym, subst}
use Rattle.std.proofs.lemmas.List.{length-append}
use Rattle.std.proofs.lemmas.Result.{err_from_is_err_and}
use Rattle.lz_lines.specs.Fields.{AreNumbers, AllUpTo, number}
use Rattle.lz_lines.specs.Forms.{EndNumbers}
use Rattle.lz_lines.specs.Readers.{begins_field, wants_number}
use Rattle.lz_lines.proofs.Counted.{AreMore, more_broken, more_read, more_end, wants_room, wants_many, small_more, numbers_more}
use Rattle.lz_lines.proofs.Forms.{After, obtains_err}
use Rattle.lz_lines.proofs.numbers.read_numbers.Goals as goal

pub returns-in_err-number-clause-reads : goal.returns-in_err-number-clause-reads
returns-in_err-number-clause-reads c =
    let w : wants_number (length c.loop-left.numbers.items) c.args.low c.args.high c.loop-left.left.now ≡ true = cc (c.wants_number.ensures, c.len.ensures, c.loop-left-test.true) in
    let room = wants_room (length c.loop-left.numbers.items) c.args.low c.args.high c.loop-left.left.now w c.requires in
    let p = err_from_is_err_and c.from_residual.result c.from_residual.ensures.1 in
    obtains_err _ _ _ _ _ c.from_residual.result _ (p.1 ∙ ap Err p.2) (more_broken c.args.low c.args.high c.args.most c.loop-left.numbers.items c.requires room w c.loop-left.invariant.after c.in_err-number.ensures.reads)

pub loop-left-preserved : goal.loop-left-preserved
loop-left-preserved c =
    let read = c.loop-left.numbers.items in
    let w : wants_number (length read) c.args.low c.args.high c.loop-left.left.now ≡ true = cc (c.wants_number.ensures, c.len.ensures, c.loop-left-test.true) in
    let room = wants_room (length read) c.args.low c.args.high c.loop-left.left.now w c.requires in
    let pushed = c.in_ok-push.ensures.items in
    let n = c.in_ok-number.number in
    let less : length c.loop-left.left.now ≡ length (number n) + length c.in_ok-number.rest.now = ap (λ (l : List ℕ). length l) c.in_ok-number.ensures.found.2 ∙ length-append (number n) c.in_ok-number.rest.now in
    record {
      few = omega (arith, room, ap (λ (l : List ℕ). length l) pushed, length-append read (n ∷ []));
      small = subst (λ (l : List ℕ). AllUpTo c.args.most l) (sym pushed) (small_more c.args.most read n c.loop-left.invariant.small c.in_ok-number.ensures.found.1);
      split = rw pushed (numbers_more read n _ _ _ c.loop-left.invariant.split c.in_ok-number.ensures.found.2);
      within = omega (arith, c.loop-left.invariant.within, less);
      after = subst (λ (l : List ℕ). After (AreNumbers c.args.low c.args.high c.args.most) (EndNumbers c.args.high) c.args.bytes.now (AreMore c.args.low c.args.high c.args.most l) c.in_ok-number.rest.now) (sym pushed)
          (more_read c.args.low c.args.high c.args.most read n w c.loop-left.invariant.after c.in_ok-number.ensures.reads);
    }

pub returns-clause-reads : goal.returns-clause-reads
returns-clause-reads c =
    let read = c.loop-left.numbers.items in
    let w : wants_number (length read) c.args.low c.args.high c.loop-left.left.now ≡ false = cc (c.wants_number.ensures, c.len.ensures, c.loop-left-test.false) in
    more_end c.args.low c.args.high c.args.most read (wants_many (length read) c.args.low c.args.high (begins_field c.loop-left.left.now) w) c.loop-left.invariant.few w c.loop-left.invariant.after
