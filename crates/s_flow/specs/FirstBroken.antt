-- The first rule that a module breaks.
use Rattle.std.specs.Prelude.{List, [], ◌∷◌, Option, None, Some}
use Rattle.lz_base.specs.declared.fault.Fault.{Fault}
use Rattle.lz_base.specs.declared.rule.Rule.TheVariants.{U1}
use Rattle.v_syntax.specs.declared.module.Module.{Module}
use Rattle.v_meaning.specs.Broken.{places_of, first_fault, typing_rules, process_rules}
use Rattle.v_meaning.specs.Declarations.{names_of}
use Rattle.v_meaning.specs.ProcessRules.{combinational_of}
use Rattle.v_meaning.specs.Uses.{ProcessUse, uses_of}

-- the fault of the earlier rules, or else that of the later ones
abbrev pub or_later : Option Fault → Option Fault → Option Fault
or_later None later = later
or_later (Some fault) later = Some fault

-- U1, which has no place, where some process is combinational
abbrev pub unread : List ProcessUse → Option Fault
unread [] = None
unread (p ∷ more) = Some (record { rule = U1; at = 0 })

-- the first of the rules of declarations and expressions (E4 to E13) that a module breaks, at its least place
abbrev pub mistyped : Module → Option Fault
mistyped m = first_fault (places_of m) typing_rules

-- the same of the rules of processes, nets and weight (P1 to P10, and W1)
abbrev pub misused : Module → Option Fault
misused m = first_fault (places_of m) process_rules

-- Combinational processes are not read yet: a module with one that breaks none of E4 to E13 is refused with U1, before
-- the rules of processes are judged.
abbrev pub first_broken : Module → Option Fault
first_broken m = or_later (mistyped m) (or_later (unread (combinational_of (uses_of (names_of m) m))) (misused m))
