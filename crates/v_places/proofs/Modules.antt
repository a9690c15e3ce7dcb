-- The openings of a module are at its tokens, one behind another.
use Rattle.std.proofs.Common.{false, List, [], refl}
use Rattle.v_syntax.specs.declared.token.Token.{Token}
use Rattle.v_syntax.specs.declared.module.Setting.{Setting}
use Rattle.v_syntax.specs.declared.module.Declared.{Declared}
use Rattle.v_syntax.specs.declared.module.PortKind.{PortKind}
use Rattle.v_syntax.specs.declared.module.PortKind.TheVariants as p
use Rattle.v_syntax.specs.declared.module.Module.{Module}
use Rattle.v_syntax.specs.Rule.{optional}
use Rattle.v_syntax.specs.Grammar.{inner_levels, IsRange}
use Rattle.v_syntax.specs.StmtGrammar.{IsWhole}
use Rattle.v_syntax.specs.ModuleGrammar.{IsValue, IsSetting, IsDeclared, IsBare, IsVariable, IsSettings, IsParameterGroup, IsPortKind, IsPort, IsPortGroup, IsParameters, IsPortList, IsPorts, IsAnyEvent, IsPosedge, IsEventGroup, IsItem, IsModule, Derives}
use Rattle.v_meaning.specs.declared.names.Entry.{Entry}
use Rattle.v_meaning.specs.Sites.{Site}
use Rattle.v_places.specs.Openings.{openings_of, value_openings, item_openings, module_openings}
use Rattle.v_places.proofs.Spans.{Takes, Within, within_whole, behind_bind, behind_then, behind_yields, behind_or, behind_nothing, within_or, within_none, within_token, within_ident, within_yields, within_many, within_listed, within_optional, within_flag}
use Rattle.v_places.proofs.Exprs.{within_placed, within_range}
use Rattle.v_places.proofs.Stmts.{within_whole_expr, within_stmt}

module _ (names : List Entry) where
  abbrev setting_openings : Setting → List Site
  setting_openings s = openings_of names s.value.expr

  abbrev net_openings : Declared → List Site
  net_openings d = value_openings names d.value

  within_value : Within IsValue (λ x. openings_of names x.expr)
  within_value = within_whole (behind_then within_token λ _. behind_nothing (within_placed names (within_whole_expr names)))

  within_setting : Within IsSetting setting_openings
  within_setting = within_whole (behind_then within_ident λ name. behind_bind within_value λ value. behind_yields refl)

  within_value_option : Within (optional IsValue) (value_openings names)
  within_value_option = within_optional within_value (λ x. refl) refl

  within_declared : Within IsDeclared net_openings
  within_declared = within_whole (behind_then within_ident λ name. behind_bind within_value_option λ value. behind_yields refl)

  -- ---- constants, which hold no site

  within_range_option : Within (optional (IsRange IsWhole)) (λ _. [])
  within_range_option = within_optional (within_range names (within_whole_expr names)) (λ r. refl) refl

  within_bare : Within IsBare (λ _. [])
  within_bare = within_whole (behind_then within_ident λ name. behind_yields refl)

  within_variable : Within IsVariable (λ _. [])
  within_variable = within_whole (behind_then within_ident λ name. behind_or
      (behind_then (within_range names (within_whole_expr names)) λ range. behind_yields refl)
      (behind_then (within_none within_value_option) λ value. behind_yields refl))

  within_settings : Within IsSettings (λ _. [])
  within_settings = within_whole
      (behind_then within_flag λ signed. behind_then within_range_option λ range. behind_then (within_none (within_listed within_setting)) λ settings. behind_yields refl)

  within_parameter_group : Within IsParameterGroup (λ _. [])
  within_parameter_group = within_whole (behind_then within_token λ _. behind_nothing within_settings)

  within_kind : Within IsPortKind (λ _. [])
  within_kind = within_or
      (within_whole (behind_then within_token λ _. behind_then within_flag λ _. behind_yields refl))
      (within_whole (behind_then within_token λ _. behind_or (behind_then within_token λ _. behind_yields refl) (behind_then within_flag λ _. behind_yields refl)))

  within_port : (kind : PortKind) → Within (IsPort kind) (λ _. [])
  within_port p.Input = within_bare
  within_port p.Output = within_bare
  within_port p.OutputReg = within_none within_declared

  within_port_group : Within IsPortGroup (λ _. [])
  within_port_group = within_whole
      (behind_then within_kind λ kind. behind_then within_flag λ signed. behind_then within_range_option λ range.
      behind_then (within_none (within_listed (within_port kind))) λ ports. behind_yields refl)

  within_parameters : Within IsParameters (λ _. [])
  within_parameters = within_or
      (within_whole
      (behind_then within_token λ _. behind_then within_token λ _. behind_then (within_none (within_listed within_parameter_group)) λ groups.
      behind_then within_token λ _. behind_yields refl))
      (within_yields refl)

  within_port_list : Within IsPortList (λ _. [])
  within_port_list = within_or
      (within_whole (behind_then within_token λ _. behind_yields refl))
      (within_whole (behind_then (within_none (within_listed within_port_group)) λ groups. behind_then within_token λ _. behind_yields refl))

  within_ports : Within IsPorts (λ _. [])
  within_ports = within_or (within_whole (behind_then within_token λ _. behind_nothing within_port_list)) (within_yields refl)

  -- ---- items

  within_any : Within IsAnyEvent (λ _. [])
  within_any = within_whole (behind_then within_token λ _. behind_yields refl)

  within_posedge : Within IsPosedge (λ _. [])
  within_posedge = within_whole (behind_then within_token λ _. behind_then within_ident λ name. behind_yields refl)

  within_event : Within IsEventGroup (λ _. [])
  within_event = within_whole (behind_then within_token λ _. behind_then (within_or within_any within_posedge) λ event. behind_then within_token λ _. behind_yields refl)

  within_item : Within IsItem (item_openings names)
  within_item = within_or
      (within_whole (behind_then within_token λ _. behind_then within_settings λ group. behind_then within_token λ _. behind_yields refl))
      (within_or
      (within_whole (behind_then within_token λ _. behind_then within_settings λ group. behind_then within_token λ _. behind_yields refl))
      (within_or
      (within_whole
      (behind_then within_token λ _. behind_then within_flag λ signed. behind_then within_range_option λ range. behind_bind (within_listed within_declared) λ nets.
      behind_then within_token λ _. behind_yields refl))
      (within_or
      (within_whole
      (behind_then within_token λ _. behind_then within_flag λ signed. behind_then within_range_option λ range.
      behind_then (within_none (within_listed within_variable)) λ variables. behind_then within_token λ _. behind_yields refl))
      (within_or
      (within_whole (behind_then within_token λ _. behind_bind (within_listed within_setting) λ settings. behind_then within_token λ _. behind_yields refl))
      (within_whole
      (behind_then within_token λ _. behind_then within_token λ _. behind_then (within_or within_any within_event) λ event.
      behind_bind (within_stmt names inner_levels false) λ body. behind_yields refl))))))

  within_module : Within IsModule (λ (m : Module). module_openings names m.items)
  within_module = within_whole
      (behind_then within_token λ _. behind_then within_ident λ name. behind_then within_parameters λ parameters. behind_then within_ports λ ports.
      behind_then within_token λ _. behind_bind (within_many within_item) λ items. behind_then within_token λ _. behind_yields refl)

  pub takes_module : (tokens : List Token) (m : Module) → Derives tokens m → Takes tokens [] (module_openings names m.items)
  takes_module tokens m d = within_module.takes tokens [] m d
