-- The first rule that a module breaks, by what each of the judges of its rules says.
use Rattle.std.proofs.Common.{◌≡◌, ◌∙◌, ap, sym, subst, refl, List, [], ◌∷◌, Bool, false, Option, None, Some, Result, Err}
use Rattle.std.specs.Prelude.{◌↔◌, IsTrue}
use Rattle.std.specs.Result.{IsErrAnd}
use Rattle.std.proofs.lemmas.Result.{err_from_is_err_and}
use Rattle.lz_base.specs.Answers.{IfFault}
use Rattle.lz_base.specs.declared.fault.Fault.{Fault}
use Rattle.lz_base.specs.declared.fault.Stop.{Stop}
use Rattle.lz_base.specs.declared.fault.Stop.TheVariants as stop
use Rattle.lz_base.specs.declared.rule.Rule.TheVariants.{U1}
use Rattle.v_syntax.specs.declared.module.Module.{Module}
use Rattle.v_meaning.specs.Declarations.{names_of}
use Rattle.v_meaning.specs.ProcessRules.{combinational_of}
use Rattle.v_meaning.specs.Uses.{ProcessUse, uses_of}
use Rattle.s_flow.specs.FirstBroken.{or_later, unread, mistyped, misused, first_broken}

-- no process of a module is combinational
abbrev pub IsClocked : Module → Type 0
IsClocked m = combinational_of (uses_of (names_of m) m) ≡ []

unread_some : (ps : List ProcessUse) → (ps ≡ [] → ⊥) → unread ps ≡ Some (record { rule = U1; at = 0 })
unread_some [] some = absurd (some refl)
unread_some (p ∷ more) some = refl

pub unread_is : (m : Module) (clocked : Bool) → mistyped m ≡ None → IsTrue clocked ↔ IsClocked m → clocked ≡ false → first_broken m ≡ Some (record { rule = U1; at = 0 })
unread_is m clocked kept is h =
    let c : List ProcessUse = combinational_of (uses_of (names_of m) m) in
    let some : c ≡ [] → ⊥ = λ none. absurd (cc (h, is.1 none)) in
    ap (λ x. or_later x (or_later (unread c) (misused m))) kept ∙ ap (λ x. or_later x (misused m)) (unread_some c some)

-- a module that keeps the rules of declarations and expressions, all of whose processes are clocked
pub misused_is : (m : Module) → mistyped m ≡ None → IsClocked m → first_broken m ≡ misused m
misused_is m kept none = ap (λ x. or_later x (or_later (unread (combinational_of (uses_of (names_of m) m))) (misused m))) kept ∙ ap (λ c. or_later (unread c) (misused m)) none

or_later_none : (a b : Option Fault) → or_later a b ≡ None → (a ≡ None) × (b ≡ None)
or_later_none None b h = (refl, h)
or_later_none (Some fault) b h = absurd (cc h)

unread_none : (ps : List ProcessUse) → unread ps ≡ None → ps ≡ []
unread_none [] h = refl
unread_none (p ∷ more) h = absurd (cc h)

-- a module that breaks no rule breaks none of the first ones, none of the later ones, and has clocked processes alone
pub kept_parts : (m : Module) → first_broken m ≡ None → (mistyped m ≡ None) × (misused m ≡ None) × IsClocked m
kept_parts m kept =
    let c : List ProcessUse = combinational_of (uses_of (names_of m) m) in
    let outer = or_later_none (mistyped m) (or_later (unread c) (misused m)) kept in
    let inner = or_later_none (unread c) (misused m) outer.1 in
    (outer.0, inner.1, unread_none c inner.0)

-- ---- what is handed on

fault_case : (S T : Type 0) (P Q : Fault → Type 0) (e : Stop) → IfFault {X = S} (Err e) P → ((f : Fault) → P f → Q f) → IfFault {X = T} (Err e) Q
fault_case S T P Q (stop.Fault fault) h more = more fault h
fault_case S T P Q stop.OutOfMemory h more = tt

pub handed : (S : Type 0) {T : Type 0} (P Q : Fault → Type 0) (answer : Result T Stop) (e : Stop) → IsErrAnd answer (λ d. d ≡ e) → IfFault {X = S} (Err e) P →
    ((f : Fault) → P f → Q f) → IfFault answer Q
handed S {T = T} P Q answer e is h more =
    let p = err_from_is_err_and answer is in
    subst (λ (a : Result T Stop). IfFault a Q) (sym (p.1 ∙ ap Err p.2)) (fault_case S T P Q e h more)
