-- A machine can be made of a module that breaks no rule.
use Rattle.std.proofs.Common.{◌≡◌, ap, sym, ◌∙◌, subst, ℕ, List, [], None}
use Rattle.v_syntax.specs.declared.module.Module.{Module}
use Rattle.v_meaning.specs.Broken.{places_of, first_fault, process_rules, typing_rules}
use Rattle.v_meaning.specs.Declarations.{names_of}
use Rattle.v_meaning.specs.Designs.{Design}
use Rattle.v_meaning.specs.Modules.{design_of}
use Rattle.v_meaning.specs.ProcessRules.{combinational_of}
use Rattle.v_meaning.specs.Uses.{uses_of}
use Rattle.v_core.specs.declared.modules.Core.{Core}
use Rattle.v_core.specs.Cores.{design_in}
use Rattle.v_order.specs.Numbered.{AreNumbered}
use Rattle.v_order.specs.Apart.{AreApart, Owners}
use Rattle.v_order.specs.Settling.{Settles}
use Rattle.v_order.specs.Steady.{AtOnce, IsSteady}
use Rattle.v_machine.specs.Runnable.{CanRun, KeepsWords}
use Rattle.v_machine.proofs.NumberedWords.{numbered_fit}

-- what is known of such modules
abbrev HaveNoCombinational : Type 0
HaveNoCombinational = (m : Module) → combinational_of (uses_of (names_of m) m) ≡ [] → (design_of m).combinational ≡ []

abbrev HaveApart : Type 0
HaveApart =
    (m : Module) → first_fault (places_of m) typing_rules ≡ None → first_fault (places_of m) process_rules ≡ None → combinational_of (uses_of (names_of m) m) ≡ [] →
    (order : List ℕ) → Settles (design_of m) order → (b : AtOnce) × (o : Owners) × IsSteady (design_of m) order b × AreApart (design_of m) b o

pub can_run : HaveNoCombinational → HaveApart → ((m : Module) → AreNumbered [] (names_of m)) → (m : Module) (c : Core) (order : List ℕ) →
    first_fault (places_of m) typing_rules ≡ None → first_fault (places_of m) process_rules ≡ None → combinational_of (uses_of (names_of m) m) ≡ [] →
    c.names ≡ names_of m → design_in c ≡ design_of m → Settles (design_of m) order → KeepsWords c → CanRun c order
can_run clocked apart numbered m c order typed kept alone names design settles words = record {
  formed = words.formed;
  sited = words.sited;
  named = numbered_fit c (subst (AreNumbered []) (sym names) (numbered m)) words.parameters;
  words = words.words;
  places = words.places;
  measured = words.measured;
  clocked = ap (λ (d : Design). d.combinational) design ∙ clocked m alone;
  settles = subst (λ (d : Design). Settles d order) (sym design) settles;
  apart = subst (λ (d : Design). (b : AtOnce) × (o : Owners) × IsSteady d order b × AreApart d b o) (sym design) (apart m typed kept alone order settles);
}
