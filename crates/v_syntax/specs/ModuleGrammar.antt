-- The grammar of declarations and modules. From IEEE Std 1364-2005, annexes A.1 and A.2.
use Rattle.std.specs.Prelude.{false, List, [], None}
use Rattle.v_syntax.specs.declared.token.Ident.{Ident}
use Rattle.v_syntax.specs.declared.token.Token.{Token}
use Rattle.v_syntax.specs.declared.token.Mark.TheVariants as m
use Rattle.v_syntax.specs.declared.token.Keyword.TheVariants as k
use Rattle.v_syntax.specs.declared.expr.Placed.{Placed}
use Rattle.v_syntax.specs.declared.module.Setting.{Setting}
use Rattle.v_syntax.specs.declared.module.Declared.{Declared}
use Rattle.v_syntax.specs.declared.module.Variable.{Variable}
use Rattle.v_syntax.specs.declared.module.Variable.TheVariants as v
use Rattle.v_syntax.specs.declared.module.ParameterGroup.{ParameterGroup}
use Rattle.v_syntax.specs.declared.module.PortGroup.{PortGroup}
use Rattle.v_syntax.specs.declared.module.PortKind.{PortKind}
use Rattle.v_syntax.specs.declared.module.PortKind.TheVariants as p
use Rattle.v_syntax.specs.declared.module.Event.{Event}
use Rattle.v_syntax.specs.declared.module.Event.TheVariants as events
use Rattle.v_syntax.specs.declared.module.Item.{Item}
use Rattle.v_syntax.specs.declared.module.Item.TheVariants as i
use Rattle.v_syntax.specs.declared.module.Module.{Module}
use Rattle.v_syntax.specs.Rule.{Rule, ◌>>=◌, ◌>>◌, ◌<|>◌, yields, mark, word, ident, optional, flag, many, listed, DerivesBy, IsViableBy}
use Rattle.v_syntax.specs.Grammar.{inner_levels, placed, IsRange}
use Rattle.v_syntax.specs.StmtGrammar.{IsWhole, IsStmt}

-- "=" expr
abbrev pub IsValue : Rule Placed
IsValue = mark m.Equal >> placed IsWhole

-- ID "=" expr
abbrev pub IsSetting : Rule Setting
IsSetting = ident >>= λ name. IsValue >>= λ value. yields (record { name = name; value = value })

-- ID [ "=" expr ]
abbrev pub IsDeclared : Rule Declared
IsDeclared = ident >>= λ name. optional IsValue >>= λ value. yields (record { name = name; value = value })

-- ID
abbrev pub IsBare : Rule Declared
IsBare = ident >>= λ name. yields (record { name = name; value = None })

-- ID ( range | [ "=" expr ] )
abbrev pub IsVariable : Rule Variable
IsVariable = ident >>= λ name. (
    (IsRange IsWhole >>= λ range. yields (v.Memory name range))
    <|> (optional IsValue >>= λ value. yields (v.Plain (record { name = name; value = value }))))

-- [ "signed" ] [ range ] pset { "," pset }
abbrev pub IsSettings : Rule ParameterGroup
IsSettings = do
  signed ← flag k.Signed
  range ← optional (IsRange IsWhole)
  settings ← listed IsSetting
  yields (record { signed = signed; range = range; settings = settings })

-- "parameter" [ "signed" ] [ range ] pset { "," pset }
abbrev pub IsParameterGroup : Rule ParameterGroup
IsParameterGroup = word k.Parameter >> IsSettings

-- "input" [ "wire" ] | "output" ( "reg" | [ "wire" ] )
abbrev pub IsPortKind : Rule PortKind
IsPortKind =
    (word k.Input >> (flag k.Wire >> yields p.Input))
    <|> (word k.Output >> ((word k.Reg >> yields p.OutputReg) <|> (flag k.Wire >> yields p.Output)))

-- only an output reg may have a value
abbrev pub IsPort : PortKind → Rule Declared
IsPort p.Input = IsBare
IsPort p.Output = IsBare
IsPort p.OutputReg = IsDeclared

abbrev pub IsPortGroup : Rule PortGroup
IsPortGroup = do
  kind ← IsPortKind
  signed ← flag k.Signed
  range ← optional (IsRange IsWhole)
  ports ← listed (IsPort kind)
  yields (record { kind = kind; signed = signed; range = range; ports = ports })

-- [ "#" "(" pgroup { "," pgroup } ")" ]
abbrev pub IsParameters : Rule (List ParameterGroup)
IsParameters =
    (mark m.Hash >>= λ _. mark m.OpenParen >>= λ _. listed IsParameterGroup >>= λ groups. mark m.CloseParen >>= λ _. yields groups)
    <|> yields []

-- [ group { "," group } ] ")"
abbrev pub IsPortList : Rule (List PortGroup)
IsPortList =
    (mark m.CloseParen >>= λ _. yields [])
    <|> (listed IsPortGroup >>= λ groups. mark m.CloseParen >>= λ _. yields groups)

-- [ "(" [ group { "," group } ] ")" ]
abbrev pub IsPorts : Rule (List PortGroup)
IsPorts = (mark m.OpenParen >>= λ _. IsPortList) <|> yields []

abbrev pub IsParameterItem : Rule Item
IsParameterItem = do
  word k.Parameter
  group ← IsSettings
  mark m.Semicolon
  yields (i.Parameters group)

abbrev pub IsLocalParameterItem : Rule Item
IsLocalParameterItem = do
  word k.Localparam
  group ← IsSettings
  mark m.Semicolon
  yields (i.LocalParameters group)

abbrev pub IsWireItem : Rule Item
IsWireItem = do
  word k.Wire
  signed ← flag k.Signed
  range ← optional (IsRange IsWhole)
  nets ← listed IsDeclared
  mark m.Semicolon
  yields (i.Wires signed range nets)

abbrev pub IsRegItem : Rule Item
IsRegItem = do
  word k.Reg
  signed ← flag k.Signed
  range ← optional (IsRange IsWhole)
  variables ← listed IsVariable
  mark m.Semicolon
  yields (i.Regs signed range variables)

abbrev pub IsAssignItem : Rule Item
IsAssignItem = do
  word k.Assign
  settings ← listed IsSetting
  mark m.Semicolon
  yields (i.Assigns settings)

-- "*" (9.7.5)
abbrev pub IsAnyEvent : Rule Event
IsAnyEvent = mark m.Star >> yields events.Any

-- "posedge" ID
abbrev pub IsPosedge : Rule Event
IsPosedge = word k.Posedge >> (ident >>= λ name. yields (events.Posedge name))

-- "(" ( "*" | "posedge" ID ) ")"
abbrev pub IsEventGroup : Rule Event
IsEventGroup = do
  mark m.OpenParen
  event ← IsAnyEvent <|> IsPosedge
  mark m.CloseParen
  yields event

-- "always" "@" ( "*" | "(" "*" ")" | "(" "posedge" ID ")" ) stmt
abbrev pub IsAlwaysItem : Rule Item
IsAlwaysItem = do
  word k.Always
  mark m.At
  event ← IsAnyEvent <|> IsEventGroup
  body ← IsStmt inner_levels false
  yields (i.Always event body)

abbrev pub IsItem : Rule Item
IsItem = IsParameterItem <|> IsLocalParameterItem <|> IsWireItem <|> IsRegItem <|> IsAssignItem <|> IsAlwaysItem

-- A module over what its items are, which is made of its name, parameters, ports and items.
abbrev pub IsModuleOf : {I M : Type 0} → Rule I → (Ident → List ParameterGroup → List PortGroup → List I → M) → Rule M
IsModuleOf item made = do
  word k.Module
  name ← ident
  parameters ← IsParameters
  ports ← IsPorts
  mark m.Semicolon
  items ← many item
  word k.Endmodule
  yields (made name parameters ports items)

abbrev pub IsModule : Rule Module
IsModule = IsModuleOf IsItem (λ name parameters ports items. record { name = name; parameters = parameters; ports = ports; items = items })

-- all of the tokens are the module's
abbrev pub Derives : List Token → Module → Type 0
Derives = DerivesBy IsModule

-- some module's tokens begin with these
abbrev pub IsViable : List Token → Type 0
IsViable = IsViableBy IsModule
