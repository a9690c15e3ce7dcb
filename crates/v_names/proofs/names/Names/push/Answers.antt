use Rattle.std.proofs.Common.{◌∙◌, sym, arith}
use Rattle.v_names.proofs.Maps.{names_new, names_again, one_longer}
use Rattle.v_names.proofs.WordLaws.{words_push}
use Rattle.v_names.proofs.names.Names.push.Goals as goal

pub invariant_of-self-then-contains_key : goal.invariant_of-self-then-contains_key
invariant_of-self-then-contains_key c =
    rw c.in_ok-push.ensures.ok (
      record {
        found = names_again c.self.inside.numbers _ c.args.entry (sym c.contains_key.ensures ∙ c.if-contains_key.true) c.self.invariant.0.found;
        few = omega (arith, one_longer c.self.inside.entries c.args.entry, c.len-count.ensures, c.if-count.false);
      },
      words_push c.self.inside.entries c.args.entry c.self.invariant.1 c.requires.word,
    )

pub invariant_of-self-in-Ok : goal.invariant_of-self-in-Ok
invariant_of-self-in-Ok c =
    rw c.in_ok-push-2.ensures.ok (
      record {
        found = names_new c.self.inside.numbers c.insert.new.self _ c.args.entry _ _ c.in_ok-name.ensures.cases c.len-count.ensures (sym c.contains_key.ensures ∙ c.if-contains_key.false)
            c.in-Ok.ensures.updates c.self.invariant.0.found;
        few = omega (arith, one_longer c.self.inside.entries c.args.entry, c.len-count.ensures, c.if-count.false);
      },
      words_push c.self.inside.entries c.args.entry c.self.invariant.1 c.requires.word,
    )
