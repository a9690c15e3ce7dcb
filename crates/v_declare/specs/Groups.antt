-- The faults of groups of names, and the names behind them.
use Rattle.std.specs.Prelude.{ℕ, List, [], ◌∷◌, ◌++◌, flat_map, fold, Bool, Option}
use Rattle.v_syntax.specs.declared.expr.Range.{Range}
use Rattle.v_syntax.specs.declared.module.Setting.{Setting}
use Rattle.v_syntax.specs.declared.module.Declared.{Declared}
use Rattle.v_syntax.specs.declared.module.Variable.{Variable}
use Rattle.v_meaning.specs.declared.names.Entry.{Entry}
use Rattle.v_meaning.specs.Declarations.{Roles, wire_entry, variable_entry}
use Rattle.v_meaning.specs.ConstantRules.{expr_faults, wire_faults, vector_faults, variable_faults}

abbrev pub net_faults : List Entry → Declared → List ℕ
net_faults names net = wire_faults names net.value

abbrev pub setting_faults : List Entry → Setting → List ℕ
setting_faults names setting = expr_faults names setting.value.expr

abbrev pub wires_faults : List Entry → Option Range → List Declared → List ℕ
wires_faults names range nets = vector_faults names range ++ flat_map (net_faults names) nets

abbrev pub regs_faults : List Entry → Option Range → List Variable → List ℕ
regs_faults names range variables = vector_faults names range ++ flat_map (variable_faults names) variables

abbrev pub behind_wires : List Entry → Bool → Option Range → List Declared → List Entry
behind_wires names signed range nets = fold (λ names d. names ++ wire_entry names signed range d ∷ []) names nets

abbrev pub behind_regs : Roles → List Entry → Bool → Option Range → List Variable → List Entry
behind_regs roles names signed range variables = fold (λ names d. names ++ variable_entry roles names signed range d ∷ []) names variables
