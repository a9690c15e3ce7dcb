-- The first broken rule of some rules, by the rules of each part of them.
use Rattle.std.proofs.Common.{◌≡◌, ap, ◌∙◌, sym, subst, refl, ℕ, List, [], ◌∷◌, ◌++◌, Option, None, Some, Result, Ok, Err}
use Rattle.std.specs.Prelude.{IfOk}
use Rattle.std.specs.Result.{IsErrAnd}
use Rattle.std.proofs.lemmas.Result.{err_from_is_err_and}
use Rattle.lz_base.specs.Answers.{IfFault}
use Rattle.lz_base.specs.declared.fault.Stop.{Stop}
use Rattle.lz_base.specs.declared.fault.Stop.TheVariants as stop
use Rattle.lz_base.specs.declared.rule.Rule.{Rule}
use Rattle.lz_base.specs.declared.rule.Rule.TheVariants as r
use Rattle.lz_base.specs.declared.fault.Fault.{Fault}
use Rattle.v_meaning.specs.Broken.{first_fault, fault_or, typing_rules}
use Rattle.v_scope.specs.Scope.{scope_rules}
use Rattle.v_usage.specs.Usage.{usage_rules}

-- what the first rule finds, or what the others do
or_more : (rule : Rule) (at : List ℕ) (x y : Option Fault) (f : Fault) → fault_or rule at x ≡ Some f → (x ≡ Some f → y ≡ Some f) → fault_or rule at y ≡ Some f
or_more rule [] x y f is more = more is
or_more rule (at ∷ places) x y f is more = is

or_later : (rule : Rule) (at : List ℕ) (x y : Option Fault) → fault_or rule at x ≡ None → fault_or rule at y ≡ y
or_later rule [] x y is = refl
or_later rule (at ∷ places) x y is = absurd (cc)

pub found_before : (places : Rule → List ℕ) (rules more : List Rule) (f : Fault) → first_fault places rules ≡ Some f → first_fault places (rules ++ more) ≡ Some f
found_before places [] more f is = absurd (cc)
found_before places (rule ∷ rules) more f is =
    or_more rule (places rule) (first_fault places rules) (first_fault places (rules ++ more)) f is (found_before places rules more f)

rest_none : (rule : Rule) (at : List ℕ) (x : Option Fault) → fault_or rule at x ≡ None → x ≡ None
rest_none rule [] x is = is
rest_none rule (at ∷ places) x is = absurd (cc)

pub found_behind : (places : Rule → List ℕ) (rules more : List Rule) → first_fault places rules ≡ None → first_fault places (rules ++ more) ≡ first_fault places more
found_behind places [] more is = refl
found_behind places (rule ∷ rules) more is =
    or_later rule (places rule) (first_fault places rules) (first_fault places (rules ++ more)) is
    ∙ found_behind places rules more (rest_none rule (places rule) (first_fault places rules) is)

-- the first of these rules that is broken
abbrev pub Finds : (Rule → List ℕ) → List Rule → Fault → Type 0
Finds places rules f = first_fault places rules ≡ Some f

-- the rules of names first
pub scope_refuses : (places : Rule → List ℕ) (f : Fault) → first_fault places scope_rules ≡ Some f → first_fault places typing_rules ≡ Some f
scope_refuses places f = found_before places scope_rules (r.E7 ∷ usage_rules) f

behind_scope : (places : Rule → List ℕ) → first_fault places scope_rules ≡ None →
    first_fault places typing_rules ≡ fault_or r.E7 (places r.E7) (first_fault places usage_rules)
behind_scope places = found_behind places scope_rules (r.E7 ∷ usage_rules)

-- then that of constants
pub constants_refuse : (places : Rule → List ℕ) (f : Fault) → first_fault places scope_rules ≡ None → f.rule ≡ r.E7 → places r.E7 ≡ f.at ∷ [] →
    first_fault places typing_rules ≡ Some f
constants_refuse places f kept rule at =
    behind_scope places kept ∙ ap (λ (here : List ℕ). fault_or r.E7 here (first_fault places usage_rules)) at
    ∙ ap (λ (x : Rule). Some (record { rule = x; at = f.at })) (sym rule)

-- then those of use
pub then_usage : (places : Rule → List ℕ) → first_fault places scope_rules ≡ None → places r.E7 ≡ [] →
    first_fault places typing_rules ≡ first_fault places usage_rules
then_usage places kept proper = behind_scope places kept ∙ ap (λ (here : List ℕ). fault_or r.E7 here (first_fault places usage_rules)) proper

-- ---- what is handed on

fault_case : (S T : Type 0) (P Q : Fault → Type 0) (e : Stop) → IfFault {X = S} (Err e) P → ((f : Fault) → P f → Q f) → IfFault {X = T} (Err e) Q
fault_case S T P Q (stop.Fault fault) h more = more fault h
fault_case S T P Q stop.OutOfMemory h more = tt

pub handed : (S : Type 0) {T : Type 0} (P Q : Fault → Type 0) (answer : Result T Stop) (e : Stop) → IsErrAnd answer (λ d. d ≡ e) → IfFault {X = S} (Err e) P →
    ((f : Fault) → P f → Q f) → IfFault answer Q
handed S {T = T} P Q answer e is h more = let p = err_from_is_err_and answer is in
    subst (λ (a : Result T Stop). IfFault a Q) (sym (p.1 ∙ ap Err p.2)) (fault_case S T P Q e h more)

pub never_ok : {T : Type 0} (Q : T → Type 0) (answer : Result T Stop) (e : Stop) → IsErrAnd answer (λ d. d ≡ e) → IfOk answer Q
never_ok Q (Ok x) e is = elim is [ ]
never_ok Q (Err d) e is = tt
