-- The marks of a module that keeps the rules of numbers, bounds and concatenations: each of them keeps these rules.
use Rattle.std.proofs.Common.{◌≡◌, ℕ, List, [], ◌∷◌, ◌++◌, flat_map, Bool, true, false, not, Option, None, refl, sym, ◌∙◌}
use Rattle.std.specs.Prelude.{⊤}
use Rattle.std.proofs.lemmas.List.Concat.{flat_map-cons}
use Rattle.lz_base.specs.declared.rule.Rule.{Rule}
use Rattle.lz_base.specs.declared.rule.Rule.TheVariants as r
use Rattle.lz_base.specs.declared.fault.Fault.{Fault}
use Rattle.v_syntax.specs.declared.module.Module.{Module}
use Rattle.v_meaning.specs.declared.names.Entry.{Entry}
use Rattle.v_meaning.specs.Literals.{is_wrong_number}
use Rattle.v_meaning.specs.Names.{entry_of}
use Rattle.v_meaning.specs.Proper.{is_between_1_and_128, is_part}
use Rattle.v_meaning.specs.Declarations.{names_of}
use Rattle.v_meaning.specs.Marks.{Bare, Indexed, PartOf, Mark, Declares, Valued, Used, Digits, UnsizedPart, Joined, Again, module_marks}
use Rattle.v_meaning.specs.MarkRules.{place_if, wrong_number, wrong_part, unsized_part, too_wide}
use Rattle.v_meaning.specs.Broken.{places_of, first_fault, fault_or, typing_rules}

-- a mark that breaks none of these rules
abbrev pub IsKept : List Entry → Mark → Type 0
IsKept names (Used (PartOf msb lsb) n) = is_part (entry_of names n.name) msb lsb ≡ true
IsKept names (Digits item n) = not (is_wrong_number n.spelling) ≡ true
IsKept names (UnsizedPart at) = ⊥
IsKept names (Joined width brace) = is_between_1_and_128 width ≡ true
IsKept names _ = ⊤

abbrev pub AreKept : List Entry → List Mark → Type 0
AreKept names [] = ⊤
AreKept names (m ∷ marks) = IsKept names m × AreKept names marks

pub kept_left : (names : List Entry) (xs ys : List Mark) → AreKept names (xs ++ ys) → AreKept names xs
kept_left names [] ys h = tt
kept_left names (m ∷ xs) ys h = (h.0, kept_left names xs ys h.1)

pub kept_right : (names : List Entry) (xs ys : List Mark) → AreKept names (xs ++ ys) → AreKept names ys
kept_right names [] ys h = h
kept_right names (m ∷ xs) ys h = kept_right names xs ys h.1

-- ---- from the places of each rule

-- where nothing is found, the rules behind the first one find nothing
rest_none : (rule : Rule) (at : List ℕ) (x : Option Fault) → fault_or rule at x ≡ None → x ≡ None
rest_none rule [] x is = is
rest_none rule (at ∷ places) x is = absurd (cc)

no_first : (xs ys : List ℕ) → xs ++ ys ≡ [] → xs ≡ []
no_first [] ys h = refl
no_first (x ∷ xs) ys h = absurd (cc h)

no_rest : (xs ys : List ℕ) → xs ++ ys ≡ [] → ys ≡ []
no_rest [] ys h = h
no_rest (x ∷ xs) ys h = absurd (cc h)

no_place : (b : Bool) (at : ℕ) → place_if (not b) at ≡ [] → b ≡ true
no_place true at h = refl
no_place false at h = absurd (cc h)

no_wrong_place : (b : Bool) (at : ℕ) → place_if b at ≡ [] → not b ≡ true
no_wrong_place true at h = absurd (cc h)
no_wrong_place false at h = refl

is_kept : (names : List Entry) (m : Mark) → wrong_number m ≡ [] → wrong_part names m ≡ [] → unsized_part m ≡ [] → too_wide m ≡ [] → IsKept names m
is_kept names (Declares n) a b c d = tt
is_kept names (Valued n) a b c d = tt
is_kept names (Used Bare n) a b c d = tt
is_kept names (Used Indexed n) a b c d = tt
is_kept names (Used (PartOf msb lsb) n) a b c d = no_place (is_part (entry_of names n.name) msb lsb) n.at b
is_kept names (Digits item n) a b c d = no_wrong_place (is_wrong_number n.spelling) n.at a
is_kept names (UnsizedPart at) a b c d = cc c
is_kept names (Joined width brace) a b c d = no_place (is_between_1_and_128 width) brace d
is_kept names (Again at) a b c d = tt

-- no mark has a place
abbrev Clear : (Mark → List ℕ) → List Mark → Type 0
Clear places marks = flat_map places marks ≡ []

here : (places : Mark → List ℕ) (m : Mark) (marks : List Mark) → Clear places (m ∷ marks) → places m ≡ []
here places m marks h = no_first (places m) (flat_map places marks) (sym (flat_map-cons places m marks) ∙ h)

behind : (places : Mark → List ℕ) (m : Mark) (marks : List Mark) → Clear places (m ∷ marks) → Clear places marks
behind places m marks h = no_rest (places m) (flat_map places marks) (sym (flat_map-cons places m marks) ∙ h)

are_kept : (names : List Entry) (marks : List Mark) → Clear wrong_number marks → Clear (wrong_part names) marks → Clear unsized_part marks → Clear too_wide marks → AreKept names marks
are_kept names [] a b c d = tt
are_kept names (m ∷ marks) a b c d = (
  is_kept names m (here wrong_number m marks a) (here (wrong_part names) m marks b) (here unsized_part m marks c) (here too_wide m marks d),
  are_kept names marks (behind wrong_number m marks a) (behind (wrong_part names) m marks b) (behind unsized_part m marks c) (behind too_wide m marks d),
)

-- ---- from the first fault

here_none : (rule : Rule) (at : List ℕ) (x : Option Fault) → fault_or rule at x ≡ None → at ≡ []
here_none rule [] x h = refl
here_none rule (at ∷ places) x h = absurd (cc h)

-- a rule among others of which none is broken
unbroken : (places : Rule → List ℕ) (before : List Rule) (rule : Rule) (after : List Rule) → first_fault places (before ++ rule ∷ after) ≡ None → places rule ≡ []
unbroken places [] rule after h = here_none rule (places rule) (first_fault places after) h
unbroken places (other ∷ before) rule after h =
    unbroken places before rule after (rest_none other (places other) (first_fault places (before ++ rule ∷ after)) h)

-- the rules of numbers, bounds and concatenations
record Unbroken (places : Rule → List ℕ) : Type 0 where
  numbers : places r.E6 ≡ []
  parts : places r.E9 ≡ []
  unsized : places r.E10 ≡ []
  wide : places r.E11 ≡ []

none_broken : (places : Rule → List ℕ) → first_fault places typing_rules ≡ None → Unbroken places
none_broken places h = record {
  numbers = unbroken places (r.E4 ∷ r.E5 ∷ []) r.E6 (r.E7 ∷ r.E8 ∷ r.E9 ∷ r.E10 ∷ r.E11 ∷ r.E12 ∷ r.E13 ∷ []) h;
  parts = unbroken places (r.E4 ∷ r.E5 ∷ r.E6 ∷ r.E7 ∷ r.E8 ∷ []) r.E9 (r.E10 ∷ r.E11 ∷ r.E12 ∷ r.E13 ∷ []) h;
  unsized = unbroken places (r.E4 ∷ r.E5 ∷ r.E6 ∷ r.E7 ∷ r.E8 ∷ r.E9 ∷ []) r.E10 (r.E11 ∷ r.E12 ∷ r.E13 ∷ []) h;
  wide = unbroken places (r.E4 ∷ r.E5 ∷ r.E6 ∷ r.E7 ∷ r.E8 ∷ r.E9 ∷ r.E10 ∷ []) r.E11 (r.E12 ∷ r.E13 ∷ []) h;
}

pub module_kept : (m : Module) → first_fault (places_of m) typing_rules ≡ None → AreKept (names_of m) (module_marks (names_of m) m)
module_kept m h =
    let u = none_broken (places_of m) h in
    are_kept (names_of m) (module_marks (names_of m) m) (no_first _ _ u.numbers) (no_first _ _ u.parts) (no_first _ _ u.unsized) (no_first _ _ u.wide)
