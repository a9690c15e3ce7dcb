use Rattle.std.proofs.Common.{◌≡◌, ℕ, List, Bor, Option, None, Some}
use Rattle.std.specs.Prelude.{slice_get, IfSome}
use Rattle.std.specs.Option.{option_copied}
use Rattle.v_meaning.specs.declared.names.Entry.{Entry}
use Rattle.v_names.specs.Words.{IsWord, AreWords}
use Rattle.v_names.proofs.WordLaws.{word_at}
use Rattle.v_names.proofs.names.Names.entry.Goals as goal

word_if : (es : List Entry) (i : ℕ) (r : Option (Bor Entry)) → AreWords es → option_copied r ≡ slice_get es i → IfSome r (λ (e : Bor Entry). IsWord e.now)
word_if es i None h is = tt
word_if es i (Some e) h is = word_at es i e.now h is

pub returns-clause-word : goal.returns-clause-word
returns-clause-word c = word_if c.self.inside.entries c.args.number c.get.result c.self.invariant.1 c.get.ensures.value
