use Rattle.std.proofs.Common.{sym, subst, ap, ◌∙◌, Some}
use Rattle.v_meaning.specs.declared.names.Entry.{Entry}
use Rattle.v_names.specs.Words.{IsWord}
use Rattle.v_typed.proofs.CopiedNames.{one_more, words_push, all_taken, fewer_left}
use Rattle.v_typed.proofs.copying.copy_of.Goals as goal

pub loop-entry-preserved : goal.loop-entry-preserved
loop-entry-preserved c = (
  one_more c.args.names.now c.loop-entry.copy _ c.loop-entry.number c.in_ok-one.one
      (sym c.in-Some.ensures.entry ∙ ap (λ (x : Entry). Some x) (sym c.in_ok-one.ensures)) c.in_ok-push.ensures.ok c.loop-entry.invariant.0,
  words_push c.loop-entry.copy _ c.in_ok-one.one c.in_ok-push.ensures.ok (subst IsWord (sym c.in_ok-one.ensures) c.in-Some.ensures.word) c.loop-entry.invariant.1,
)

pub loop-entry-smaller : goal.loop-entry-smaller
loop-entry-smaller c = fewer_left c.args.names.now c.loop-entry.number _ (sym c.in-Some.ensures.entry)

pub returns : goal.returns
returns c = record {
  copy = all_taken c.args.names.now c.loop-entry.copy c.loop-entry.number (sym c.in_default.ensures.entry) c.loop-entry.invariant.0;
  words = c.loop-entry.invariant.1;
}
