-- Which rules a module breaks, and where; and the first of them.
use Rattle.std.specs.Prelude.{ℕ, List, [], ◌∷◌, ◌++◌, flat_map, min, nat_lt, Option, None, Some}
use Rattle.lz_base.specs.declared.rule.Rule.{Rule}
use Rattle.lz_base.specs.declared.rule.Rule.TheVariants as r
use Rattle.lz_base.specs.declared.fault.Fault.{Fault}
use Rattle.v_syntax.specs.declared.module.Module.{Module}
use Rattle.v_meaning.specs.declared.names.Entry.{Entry}
use Rattle.v_meaning.specs.Declarations.{names_of}
use Rattle.v_meaning.specs.Marks.{Mark, module_marks}
use Rattle.v_meaning.specs.MarkRules.{place_if, declared_twice, used_early, declared_in, valued_in, wrong_number, wrong_form, wrong_part, unsized_part, too_wide, second_default, wrong_z}
use Rattle.v_meaning.specs.ConstantRules.{improper}
use Rattle.v_meaning.specs.Uses.{Uses, uses_of}
use Rattle.v_meaning.specs.ProcessRules.{wrong_clock, wrong_target, written_again, mixed_kinds, writes_of_process, read_elsewhere, clocked_of, wrong_assigns, circular, read_through, latching, read_early}
use Rattle.v_meaning.specs.Weights.{weight_of}

-- the places of the marks that break a rule of names and expressions
abbrev pub mark_places : Rule → List Entry → List Mark → List ℕ
mark_places r.E4 names marks = declared_twice [] marks
mark_places r.E5 names marks = used_early (declared_in marks) (valued_in marks) [] marks
mark_places r.E6 names marks = flat_map wrong_number marks
mark_places r.E8 names marks = flat_map (wrong_form names) marks
mark_places r.E9 names marks = flat_map (wrong_part names) marks
mark_places r.E10 names marks = flat_map unsized_part marks
mark_places r.E11 names marks = flat_map too_wide marks
mark_places r.E12 names marks = flat_map second_default marks
mark_places r.E13 names marks = flat_map wrong_z marks
mark_places _ names marks = []

-- the places that break a rule of processes and nets
abbrev pub use_places : Rule → Uses → List ℕ
use_places r.P1 u = wrong_clock u
use_places r.P2 u = wrong_target u
use_places r.P3 u = written_again [] u.processes
use_places r.P4 u = mixed_kinds [] (flat_map writes_of_process u.processes)
use_places r.P5 u = read_elsewhere [] (clocked_of u)
use_places r.P6 u = wrong_assigns u
use_places r.P7 u = circular u
use_places r.P8 u = read_through u
use_places r.P9 u = latching u
use_places r.P10 u = read_early u
use_places _ u = []

-- a module heavier than 524288 breaks W1, at its name
abbrev pub too_heavy : ℕ → ℕ → List ℕ
too_heavy weight at = place_if (nat_lt 524288 weight) at

-- Each rule is meant of modules that break none of the rules before it.
abbrev pub places_of : Module → Rule → List ℕ
places_of m r.E7 = improper m
places_of m r.W1 = too_heavy (weight_of (names_of m) m.items) m.name.at
places_of m rule = mark_places rule (names_of m) (module_marks (names_of m) m) ++ use_places rule (uses_of (names_of m) m)

-- the rules in their order: those of declarations and expressions, and those of processes, nets and weight
abbrev pub typing_rules : List Rule
typing_rules = r.E4 ∷ r.E5 ∷ r.E6 ∷ r.E7 ∷ r.E8 ∷ r.E9 ∷ r.E10 ∷ r.E11 ∷ r.E12 ∷ r.E13 ∷ []

abbrev pub process_rules : List Rule
process_rules = r.P1 ∷ r.P2 ∷ r.P3 ∷ r.P4 ∷ r.P5 ∷ r.P6 ∷ r.P7 ∷ r.P8 ∷ r.P9 ∷ r.P10 ∷ r.W1 ∷ []

abbrev pub least_of : ℕ → List ℕ → ℕ
least_of at [] = at
least_of at (other ∷ places) = least_of (min at other) places

abbrev pub fault_or : Rule → List ℕ → Option Fault → Option Fault
fault_or rule [] more = more
fault_or rule (at ∷ places) more = Some (record { rule = rule; at = least_of at places })

-- The first broken one of these rules, at its least place.
abbrev pub first_fault : (Rule → List ℕ) → List Rule → Option Fault
first_fault places [] = None
first_fault places (rule ∷ rules) = fault_or rule (places rule) (first_fault places rules)
