-- The readers of declarations and modules read the grammar's declarations and modules.
use Rattle.std.proofs.Common.{◌≡◌, ℕ, Bool, true, false, ◌||◌, get_or, List, [], ◌∷◌, Option, None, Some, Err, refl, sym, ap, subst, ◌∙◌, inl, inr, arith}
use Rattle.v_syntax.specs.declared.token.Token.{Token}
use Rattle.v_syntax.specs.declared.token.Ident.{Ident}
use Rattle.v_syntax.specs.declared.token.Mark.TheVariants as m
use Rattle.v_syntax.specs.declared.token.Keyword.{Keyword}
use Rattle.v_syntax.specs.declared.token.Keyword.TheVariants as k
use Rattle.v_syntax.specs.declared.module.Variable.{Variable}
use Rattle.v_syntax.specs.declared.module.Variable.TheVariants as v
use Rattle.v_syntax.specs.declared.module.ParameterGroup.{ParameterGroup}
use Rattle.v_syntax.specs.declared.module.PortGroup.{PortGroup}
use Rattle.v_syntax.specs.declared.module.PortKind.{PortKind}
use Rattle.v_syntax.specs.declared.module.PortKind.TheVariants as p
use Rattle.v_syntax.specs.declared.module.Event.TheVariants as events
use Rattle.v_syntax.specs.declared.module.Item.{Item}
use Rattle.v_syntax.specs.declared.module.Item.TheVariants as i
use Rattle.v_syntax.specs.Rule as r
use Rattle.v_syntax.specs.Rule.{Rule, ◌>>=◌, ◌>>◌, ◌<|>◌, yields, token, mark, word, ident, here, many, listed, several, optional, flag}
use Rattle.v_syntax.specs.Grammar.{inner_levels, IsRange}
use Rattle.v_syntax.specs.StmtGrammar.{IsWhole}
use Rattle.v_syntax.specs.ModuleGrammar.{IsValue, IsSetting, IsDeclared, IsBare, IsVariable, IsSettings, IsParameterGroup, IsPortKind, IsPort, IsPortGroup, IsParameters, IsPorts, IsParameterItem, IsLocalParameterItem, IsWireItem, IsRegItem, IsAssignItem, IsAnyEvent, IsPosedge, IsEventGroup, IsAlwaysItem, IsItem, IsModule}
use Rattle.v_parser.specs.Reading as read
use Rattle.v_parser.specs.Reading.{Reader, then_read, gives, choose, mark_code, word_code, kind, next, next_in, among, mark_at, word_at, repeated, is_comma, more_at, listed_at}
use Rattle.v_parser.specs.Exprs.{identifiers, only}
use Rattle.v_parser.specs.Modules.{these, flag_at, range_option_at, value_at, value_option_at, setting_at, declared_at, bare_at, variable_at, settings_at, input_at, output_at, port_kind_at, port_at, parameter_words, port_words, parameter_group_at, port_group_at, parameter_groups_at, port_groups_at, parameters_at, port_list_at, ports_at, parameter_item_at, local_parameter_item_at, wire_item_at, reg_item_at, assign_item_at, any_event_at, posedge_at, inner_event_at, event_group_at, event_at, always_item_at, item_at, not_endmodule, enclosed_items_at, body_at, module_at}
use Rattle.v_parser.proofs.Exact.{Reads, Begins, Differs, reads_bind, reads_then, reads_yields, reads_choose, reads_same, leads_yields, leads_bind, reads_led, reads_looser, reads_closed, begins_bind, begins_or, begins_among, none, apart, opens, silent, others, nothing, next_or, next_fewer, passes, only_end}
use Rattle.v_parser.proofs.Single.{reads_mark, reads_word, reads_ident}
use Rattle.v_parser.proofs.Many.{Repeats, reads_many, reads_listed, list_goes}
use Rattle.v_parser.proofs.Primaries.{begins_mark, begins_ident, operand_goes, binary_goes, expr_goes, reads_placed, reads_range}
use Rattle.v_parser.proofs.TargetRules.{begins_word, reads_whole}
use Rattle.std.specs.Prelude.{nat_le}
use Rattle.v_parser.specs.Exprs.{ranks}
use Rattle.v_parser.specs.Stmts.{elses}
use Rattle.lz_base.specs.declared.rule.Rule.TheVariants.{E3}
use Rattle.v_parser.specs.Refusal.{IsRefused, first_place}
use Rattle.v_parser.proofs.Refused.{refused_stopped}
use Rattle.v_parser.proofs.Nearest.{reads_stmt}
use Rattle.v_parser.proofs.GroupRules.{Named, Between, names_goes, groups_goes, reads_names, reads_groups, names_to, names_from, list_to, list_from, closes, closed_here}

-- ---- tests on what stands behind

abbrev value_goes : ℕ → Bool
value_goes x = among x (13 ∷ []) || expr_goes x

no_equal : (rest : List Token) → next value_goes rest ≡ false → next_in (13 ∷ []) rest ≡ false
no_equal rest fin = (next_or (λ x. among x (13 ∷ [])) expr_goes rest fin).0

no_expr : (rest : List Token) → next value_goes rest ≡ false → next expr_goes rest ≡ false
no_expr rest fin = (next_or (λ x. among x (13 ∷ [])) expr_goes rest fin).1

no_bracket : (rest : List Token) → next value_goes rest ≡ false → next_in (2 ∷ []) rest ≡ false
no_bracket rest fin = next_fewer (2 ∷ []) (2 ∷ 62 ∷ []) rest refl (first_part rest (second_part rest (no_expr rest fin)))
  where
    second_part : (l : List Token) → next expr_goes l ≡ false → next (binary_goes 10) l ≡ false
    second_part l e = (next_or (λ x. among x (12 ∷ [])) (binary_goes 10) l e).1

    first_part : (l : List Token) → next (binary_goes 10) l ≡ false → next operand_goes l ≡ false
    first_part l e = (next_or operand_goes (λ x. nat_le (get_or ranks x 99) 10) l e).0

begins_option : {A B : Type 0} {P : Rule A} {Q : Option A → Rule B} {kinds : List ℕ} → Begins P kinds → ((o : Option A) → Begins (Q o) kinds) → Begins (r.◌>>=◌ (optional P) Q) kinds
begins_option {kinds = kinds} p q = record {
  first = λ before after b h. elim h.2 [
    | inl y ↦ p.first before y.0 y.1 y.2
    | inr y ↦ ap (next_in kinds) y.0 ∙ (q h.1).first h.0 after b h.3
  ];
}

begins_flag : {B : Type 0} {Q : Bool → Rule B} {kinds : List ℕ} (word_of : Keyword) → Begins (word word_of) kinds → ((b : Bool) → Begins (Q b) kinds) → Begins (r.◌>>=◌ (flag word_of) Q) kinds
begins_flag {kinds = kinds} word_of p q = record {
  first = λ before after b h. elim h.2 [
    | inl y ↦ p.first before y.0 y.1 y.2
    | inr y ↦ ap (next_in kinds) y.0 ∙ (q h.1).first h.0 after b h.3
  ];
}

-- ---- flags, ranges, values

reads_flag : (y : Keyword) → Reads (flag y) (λ x. among x (these y)) 0 (flag_at y)
unfolding flag_at
reads_flag y = reads_choose 0 (these y)
    (reads_then (reads_word none y) λ _. reads_yields (λ x. among x (these y)) true) (reads_yields (λ x. among x (these y)) false) (omega arith) (omega arith)
    (begins_bind (begins_word y)) (nothing (these y) (λ rest fin. fin))

reads_range_option : Reads (optional (IsRange IsWhole)) (λ x. among x (only m.OpenBracket)) 0 range_option_at
unfolding range_option_at
reads_range_option = reads_choose 0 (only m.OpenBracket)
    (reads_then (reads_range reads_whole) λ range. reads_yields (λ x. among x (only m.OpenBracket)) (Some range)) (reads_yields (λ x. among x (only m.OpenBracket)) None) (omega arith) (omega arith)
    (begins_bind (begins_bind (begins_mark m.OpenBracket))) (nothing (only m.OpenBracket) (λ rest fin. fin))

begins_range : Begins (IsRange IsWhole) (2 ∷ [])
begins_range = begins_bind (begins_mark m.OpenBracket)

reads_value : Reads IsValue expr_goes 1 value_at
unfolding value_at
reads_value = reads_then (reads_mark none m.Equal) λ _. reads_placed reads_whole

reads_value_option : Reads (optional IsValue) value_goes 0 value_option_at
unfolding value_option_at
reads_value_option = reads_choose {j = 1} {k = 0} 0 (only m.Equal)
    (reads_bind (reads_looser reads_value no_expr (omega arith)) (λ value. reads_yields value_goes (Some value)) (silent value_goes))
    (reads_yields value_goes None) (omega arith) (omega arith)
    (begins_bind (begins_bind (begins_mark m.Equal))) (nothing (only m.Equal) no_equal)

-- ---- names and what they are given

reads_setting : Reads IsSetting expr_goes 1 setting_at
unfolding setting_at
reads_setting = reads_then (reads_ident none) λ name. reads_bind reads_value (λ value. reads_yields expr_goes (record { name = name; value = value })) (silent expr_goes)

begins_setting : Begins IsSetting identifiers
begins_setting = begins_bind begins_ident

reads_declared : Reads IsDeclared value_goes 1 declared_at
unfolding declared_at
reads_declared = reads_then (reads_ident none) λ name. reads_bind reads_value_option (λ value. reads_yields value_goes (record { name = name; value = value })) (silent value_goes)

reads_bare : Reads IsBare value_goes 1 bare_at
unfolding bare_at
reads_bare = reads_then (reads_ident none) λ name. reads_yields value_goes (record { name = name; value = None })

abbrev PlainForm : Ident → Rule Variable
PlainForm name = optional IsValue >>= λ value. yields (v.Plain (record { name = name; value = value }))

plain_differs : (name : Ident) → Differs (PlainForm name) value_goes (2 ∷ [])
plain_differs name = record {
  clear = λ before after x h fin. elim h.2 [
    | inl y ↦ apart (λ z. among z (2 ∷ [])) (13 ∷ []) before refl ((begins_mark m.Equal).first before y.2.0 y.2.1 y.2.2)
    | inr y ↦ ap (next_in (2 ∷ [])) (y.0 ∙ h.3.0) ∙ no_bracket after fin
  ];
}

reads_variable : Reads IsVariable value_goes 1 variable_at
unfolding variable_at
reads_variable = reads_then (reads_ident none) λ name. reads_choose 0 (only m.OpenBracket)
    (reads_then (reads_range reads_whole) λ range. reads_yields value_goes (v.Memory name range))
    (reads_bind reads_value_option (λ value. reads_yields value_goes (v.Plain (record { name = name; value = value }))) (silent value_goes))
    (omega arith) (omega arith) (begins_bind begins_range) (plain_differs name)

begins_variable : Begins IsVariable identifiers
begins_variable = begins_bind begins_ident

-- ---- groups of settings

reads_settings : Reads IsSettings (list_goes expr_goes) 0 settings_at
unfolding settings_at
reads_settings =
    reads_bind (reads_flag k.Signed) (λ signed.
    reads_bind reads_range_option (λ range.
    reads_bind (reads_listed expr_goes refl reads_setting) (λ settings. reads_yields (list_goes expr_goes) (record { signed = signed; range = range; settings = settings })) (silent (list_goes expr_goes)))
    (opens (λ x. among x (only m.OpenBracket)) identifiers refl (λ range. begins_bind (begins_bind begins_setting))))
    (opens (λ x. among x (these k.Signed)) (2 ∷ 60 ∷ []) refl (λ signed.
    begins_option (begins_among (2 ∷ []) (2 ∷ 60 ∷ []) refl begins_range) (λ range. begins_among identifiers (2 ∷ 60 ∷ []) refl (begins_bind (begins_bind begins_setting)))))

abbrev ParameterForm : Rule ParameterGroup
ParameterForm = word k.Parameter >> (flag k.Signed >>= λ signed. optional (IsRange IsWhole) >>= λ range. several (Named parameter_words IsSetting) >>= λ settings.
    yields (record { signed = signed; range = range; settings = settings }))

reads_parameter_form : Reads ParameterForm (names_goes expr_goes) 1 parameter_group_at
unfolding parameter_group_at
reads_parameter_form =
    reads_then (reads_word none k.Parameter) λ _.
    reads_bind (reads_flag k.Signed) (λ signed.
    reads_bind reads_range_option (λ range.
    reads_bind (reads_names parameter_words refl refl begins_setting reads_setting) (λ settings. reads_yields (names_goes expr_goes) (record { signed = signed; range = range; settings = settings })) (silent (names_goes expr_goes)))
    (opens (λ x. among x (only m.OpenBracket)) identifiers refl (λ range. begins_bind (begins_bind (begins_bind begins_setting)))))
    (opens (λ x. among x (these k.Signed)) (2 ∷ 60 ∷ []) refl (λ signed.
    begins_option (begins_among (2 ∷ []) (2 ∷ 60 ∷ []) refl begins_range) (λ range. begins_among identifiers (2 ∷ 60 ∷ []) refl (begins_bind (begins_bind (begins_bind begins_setting))))))

parameter_to : (before after : List Token) (x : ParameterGroup) → ParameterForm before after x → (n : List Token) × IsParameterGroup before n x × Between parameter_words n after
parameter_to before after x (n, at, h, (n2, signed, hs, (n3, range, hr, (n4, settings, hset, (ends, is))))) =
    let l = names_to parameter_words begins_setting n3 n4 settings hset in
    (l.0, (n, at, h, (n2, signed, hs, (n3, range, hr, (l.0, settings, l.1, (refl, is))))), subst (λ rest. Between parameter_words l.0 rest) ends l.2)

parameter_from : (before n after : List Token) (x : ParameterGroup) → IsParameterGroup before n x → Between parameter_words n after → ParameterForm before after x
parameter_from before rest after x (n, at, h, (n2, signed, hs, (n3, range, hr, (n4, settings, hset, (ends, is))))) sep =
    (n, at, h, (n2, signed, hs, (n3, range, hr, (after, settings, names_from parameter_words begins_setting n3 n4 after settings hset (subst (λ l. Between parameter_words l after) (sym ends) sep), (refl, is)))))

begins_parameter_form : Begins ParameterForm parameter_words
begins_parameter_form = begins_bind (begins_word k.Parameter)

abbrev ParametersForm : Rule (List ParameterGroup)
ParametersForm = (mark m.Hash >>= λ _. mark m.OpenParen >>= λ _. several ParameterForm >>= λ groups. mark m.CloseParen >>= λ _. yields groups) <|> yields []

goes_parameter : (before after : List Token) (x : ParameterGroup) → ParameterForm before after x → next_in (60 ∷ parameter_words) before ≡ true
goes_parameter before after x h = (begins_among parameter_words (60 ∷ parameter_words) refl begins_parameter_form).first before after x h

goes_parameter_group : (before after : List Token) (x : ParameterGroup) → IsParameterGroup before after x → next_in (60 ∷ parameter_words) before ≡ true
goes_parameter_group before after x h = (begins_among parameter_words (60 ∷ parameter_words) refl (begins_word k.Parameter)).first before h.0 h.1 h.2

parameters_to : (before after : List Token) (x : List ParameterGroup) → ParametersForm before after x → IsParameters before after x
parameters_to before after x (inr h) = inr h
parameters_to before after x (inl (n, a1, h1, (n2, a2, h2, (n3, groups, hg, (n4, a3, h3, rest))))) =
    let l = list_to {E = ParameterForm} {P = IsParameterGroup} parameter_words parameter_to goes_parameter n2 n3 groups hg in
    let same = closes parameter_words l.0 n3 n4 a3 refl h3 l.2 in
    inl (n, a1, h1, (n2, a2, h2, (n3, groups, subst (λ y. listed IsParameterGroup n2 y groups) same l.1, (n4, a3, h3, rest))))

parameters_from : (before after : List Token) (x : List ParameterGroup) → IsParameters before after x → ParametersForm before after x
parameters_from before after x (inr h) = inr h
parameters_from before after x (inl (n, a1, h1, (n2, a2, h2, (n3, groups, hg, (n4, a3, h3, rest))))) =
    inl (
      n,
      a1,
      h1,
      (
        n2,
        a2,
        h2,
        (
          n3,
          groups,
          list_from {E = ParameterForm} {P = IsParameterGroup} parameter_words parameter_from goes_parameter_group n2 n3 n3 groups hg (closed_here parameter_words n3 n4 a3 refl h3),
          (n4, a3, h3, rest),
        ),
      ),
    )

reads_parameters : Reads IsParameters (λ x. among x (only m.Hash)) 0 parameters_at
unfolding parameters_at parameter_groups_at
reads_parameters = reads_same
    (reads_choose 0 (only m.Hash)
    (reads_then (reads_mark none m.Hash) λ _. reads_then (reads_mark none m.OpenParen) λ _.
    reads_bind (reads_groups parameter_words refl begins_parameter_form reads_parameter_form)
    (λ groups. reads_then (reads_mark none m.CloseParen) λ _. reads_yields (λ x. among x (only m.Hash)) groups)
    (opens (groups_goes parameter_words (names_goes expr_goes)) (1 ∷ []) refl (λ groups. begins_bind (begins_mark m.CloseParen))))
    (reads_yields (λ x. among x (only m.Hash)) []) (omega arith) (omega arith)
    (begins_bind (begins_mark m.Hash)) (nothing (only m.Hash) (λ rest fin. fin)))
    parameters_to parameters_from

-- ---- ports

abbrev InputForm : Rule PortKind
InputForm = word k.Input >> (flag k.Wire >> yields p.Input)

abbrev OutputForm : Rule PortKind
OutputForm = word k.Output >> ((word k.Reg >> yields p.OutputReg) <|> (flag k.Wire >> yields p.Output))

abbrev wire_goes : ℕ → Bool
wire_goes x = among x (44 ∷ 45 ∷ [])

only_wire : (rest : List Token) → next wire_goes rest ≡ false → next_in (44 ∷ []) rest ≡ false
only_wire rest fin = next_fewer (44 ∷ []) (44 ∷ 45 ∷ []) rest refl fin

reads_wire : (x : PortKind) → Reads (flag k.Wire >> yields x) wire_goes 0 (read.◌>>◌ (flag_at k.Wire) (gives x))
reads_wire x = reads_bind (reads_looser (reads_flag k.Wire) only_wire (omega arith)) (λ _. reads_yields wire_goes x) (silent wire_goes)

wire_differs : Differs (flag k.Wire >> yields p.Output) wire_goes (these k.Reg)
wire_differs = record {
  clear = λ before after x h fin. elim h.2 [
    | inl y ↦ apart (λ z. among z (these k.Reg)) (44 ∷ []) before refl ((begins_word k.Wire).first before y.0 y.1 y.2)
    | inr y ↦ ap (next_in (these k.Reg)) (y.0 ∙ h.3.0) ∙ next_fewer (45 ∷ []) (44 ∷ 45 ∷ []) after refl fin
  ];
}

reads_input : Reads InputForm wire_goes 1 input_at
unfolding input_at
reads_input = reads_then (reads_word none k.Input) λ _. reads_wire p.Input

reads_output : Reads OutputForm wire_goes 1 output_at
unfolding output_at
reads_output = reads_then (reads_word none k.Output) λ _. reads_choose 0 (these k.Reg)
    (reads_then (reads_word none k.Reg) λ _. reads_yields wire_goes p.OutputReg) (reads_wire p.Output) (omega arith) (omega arith)
    (begins_bind (begins_word k.Reg)) wire_differs

reads_kind : Reads IsPortKind wire_goes 1 port_kind_at
unfolding port_kind_at
reads_kind = reads_choose 1 (these k.Input) reads_input reads_output (omega arith) (omega arith)
    (begins_bind (begins_word k.Input)) (others (these k.Input) (43 ∷ []) refl (begins_bind (begins_word k.Output)))

begins_kind : Begins IsPortKind port_words
begins_kind = begins_or (begins_among (42 ∷ []) port_words refl (begins_bind (begins_word k.Input))) (begins_among (43 ∷ []) port_words refl (begins_bind (begins_word k.Output)))

reads_port : (kind_of : PortKind) → Reads (IsPort kind_of) value_goes 1 (port_at kind_of)
reads_port p.Input = reads_bare
reads_port p.Output = reads_bare
reads_port p.OutputReg = reads_declared

begins_port : (kind_of : PortKind) → Begins (IsPort kind_of) identifiers
begins_port p.Input = begins_bind begins_ident
begins_port p.Output = begins_bind begins_ident
begins_port p.OutputReg = begins_bind begins_ident

abbrev PortForm : Rule PortGroup
PortForm = IsPortKind >>= λ kind_of. flag k.Signed >>= λ signed. optional (IsRange IsWhole) >>= λ range. several (Named port_words (IsPort kind_of)) >>= λ ports.
    yields (record { kind = kind_of; signed = signed; range = range; ports = ports })

reads_port_form : Reads PortForm (names_goes value_goes) 1 port_group_at
unfolding port_group_at
reads_port_form =
    reads_bind reads_kind (λ kind_of.
    reads_bind (reads_flag k.Signed) (λ signed.
    reads_bind reads_range_option (λ range.
    reads_bind (reads_names port_words refl refl (begins_port kind_of) (reads_port kind_of)) (λ ports. reads_yields (names_goes value_goes) (record { kind = kind_of; signed = signed; range = range; ports = ports })) (silent (names_goes value_goes)))
    (opens (λ x. among x (only m.OpenBracket)) identifiers refl (λ range. begins_bind (begins_bind (begins_bind (begins_port kind_of))))))
    (opens (λ x. among x (these k.Signed)) (2 ∷ 60 ∷ []) refl (λ signed.
    begins_option (begins_among (2 ∷ []) (2 ∷ 60 ∷ []) refl begins_range) (λ range. begins_among identifiers (2 ∷ 60 ∷ []) refl (begins_bind (begins_bind (begins_bind (begins_port kind_of))))))))
    (opens wire_goes (46 ∷ 2 ∷ 60 ∷ []) refl (λ kind_of.
    begins_flag k.Signed (begins_among (46 ∷ []) (46 ∷ 2 ∷ 60 ∷ []) refl (begins_word k.Signed)) (λ signed.
    begins_option (begins_among (2 ∷ []) (46 ∷ 2 ∷ 60 ∷ []) refl begins_range) (λ range. begins_among identifiers (46 ∷ 2 ∷ 60 ∷ []) refl (begins_bind (begins_bind (begins_bind (begins_port kind_of))))))))

port_to : (before after : List Token) (x : PortGroup) → PortForm before after x → (n : List Token) × IsPortGroup before n x × Between port_words n after
port_to before after x (n, kind_of, h, (n2, signed, hs, (n3, range, hr, (n4, ports, hp, (ends, is))))) =
    let l = names_to port_words (begins_port kind_of) n3 n4 ports hp in
    (l.0, (n, kind_of, h, (n2, signed, hs, (n3, range, hr, (l.0, ports, l.1, (refl, is))))), subst (λ rest. Between port_words l.0 rest) ends l.2)

port_from : (before n after : List Token) (x : PortGroup) → IsPortGroup before n x → Between port_words n after → PortForm before after x
port_from before rest after x (n, kind_of, h, (n2, signed, hs, (n3, range, hr, (n4, ports, hp, (ends, is))))) sep =
    (n, kind_of, h, (n2, signed, hs, (n3, range, hr, (after, ports, names_from port_words (begins_port kind_of) n3 n4 after ports hp (subst (λ l. Between port_words l after) (sym ends) sep), (refl, is)))))

begins_port_form : Begins PortForm port_words
begins_port_form = begins_bind begins_kind

goes_port : (before after : List Token) (x : PortGroup) → PortForm before after x → next_in (60 ∷ port_words) before ≡ true
goes_port before after x h = (begins_among port_words (60 ∷ port_words) refl begins_port_form).first before after x h

goes_port_group : (before after : List Token) (x : PortGroup) → IsPortGroup before after x → next_in (60 ∷ port_words) before ≡ true
goes_port_group before after x h = (begins_among port_words (60 ∷ port_words) refl begins_kind).first before h.0 h.1 h.2

abbrev PortListForm : Rule (List PortGroup)
PortListForm = (mark m.CloseParen >>= λ _. yields []) <|> (several PortForm >>= λ groups. mark m.CloseParen >>= λ _. yields groups)

abbrev PortsForm : Rule (List PortGroup)
PortsForm = (mark m.OpenParen >>= λ _. PortListForm) <|> yields []

ports_to : (before after : List Token) (x : List PortGroup) → PortsForm before after x → IsPorts before after x
ports_to before after x (inr h) = inr h
ports_to before after x (inl (n, a1, h1, inl rest)) = inl (n, a1, h1, inl rest)
ports_to before after x (inl (n, a1, h1, inr (n3, groups, hg, (n4, a3, h3, rest)))) =
    let l = list_to {E = PortForm} {P = IsPortGroup} port_words port_to goes_port n n3 groups hg in
    let same = closes port_words l.0 n3 n4 a3 refl h3 l.2 in
    inl (n, a1, h1, inr (n3, groups, subst (λ y. listed IsPortGroup n y groups) same l.1, (n4, a3, h3, rest)))

ports_from : (before after : List Token) (x : List PortGroup) → IsPorts before after x → PortsForm before after x
ports_from before after x (inr h) = inr h
ports_from before after x (inl (n, a1, h1, inl rest)) = inl (n, a1, h1, inl rest)
ports_from before after x (inl (n, a1, h1, inr (n3, groups, hg, (n4, a3, h3, rest)))) =
    inl (
      n,
      a1,
      h1,
      inr (
        n3,
        groups,
        list_from {E = PortForm} {P = IsPortGroup} port_words port_from goes_port_group n n3 n3 groups hg (closed_here port_words n3 n4 a3 refl h3),
        (n4, a3, h3, rest),
      ),
    )

reads_port_list : Reads PortListForm none 1 port_list_at
unfolding port_list_at port_groups_at
reads_port_list = reads_choose 1 (only m.CloseParen)
    (reads_then (reads_mark none m.CloseParen) λ _. reads_yields none [])
    (reads_bind (reads_groups port_words refl begins_port_form reads_port_form)
    (λ groups. reads_then (reads_mark none m.CloseParen) λ _. reads_yields none groups)
    (opens (groups_goes port_words (names_goes value_goes)) (1 ∷ []) refl (λ groups. begins_bind (begins_mark m.CloseParen))))
    (omega arith) (omega arith) (begins_bind (begins_mark m.CloseParen)) (others (only m.CloseParen) port_words refl (begins_bind (begins_bind begins_port_form)))

reads_ports : Reads IsPorts (λ x. among x (only m.OpenParen)) 0 ports_at
unfolding ports_at
reads_ports = reads_same
    (reads_choose 0 (only m.OpenParen)
    (reads_then (reads_mark none m.OpenParen) λ _. reads_closed (λ x. among x (only m.OpenParen)) reads_port_list)
    (reads_yields (λ x. among x (only m.OpenParen)) []) (omega arith) (omega arith)
    (begins_bind (begins_mark m.OpenParen)) (nothing (only m.OpenParen) (λ rest fin. fin)))
    ports_to ports_from

-- ---- items

abbrev end_goes : ℕ → Bool
end_goes x = among x elses

reads_parameter_item : Reads IsParameterItem none 1 parameter_item_at
unfolding parameter_item_at
reads_parameter_item = reads_then (reads_word none k.Parameter) λ _.
    reads_bind reads_settings (λ group. reads_then (reads_mark none m.Semicolon) λ _. reads_yields none (i.Parameters group))
    (opens (list_goes expr_goes) (6 ∷ []) refl (λ group. begins_bind (begins_mark m.Semicolon)))

reads_local_item : Reads IsLocalParameterItem none 1 local_parameter_item_at
unfolding local_parameter_item_at
reads_local_item = reads_then (reads_word none k.Localparam) λ _.
    reads_bind reads_settings (λ group. reads_then (reads_mark none m.Semicolon) λ _. reads_yields none (i.LocalParameters group))
    (opens (list_goes expr_goes) (6 ∷ []) refl (λ group. begins_bind (begins_mark m.Semicolon)))

reads_wire_item : Reads IsWireItem none 1 wire_item_at
unfolding wire_item_at
reads_wire_item = reads_then (reads_word none k.Wire) λ _.
    reads_bind (reads_flag k.Signed) (λ signed.
    reads_bind reads_range_option (λ range.
    reads_bind (reads_listed value_goes refl reads_declared) (λ nets. reads_then (reads_mark none m.Semicolon) λ _. reads_yields none (i.Wires signed range nets))
    (opens (list_goes value_goes) (6 ∷ []) refl (λ nets. begins_bind (begins_mark m.Semicolon))))
    (opens (λ x. among x (only m.OpenBracket)) identifiers refl (λ range. begins_bind (begins_bind (begins_bind begins_ident)))))
    (opens (λ x. among x (these k.Signed)) (2 ∷ 60 ∷ []) refl (λ signed.
    begins_option (begins_among (2 ∷ []) (2 ∷ 60 ∷ []) refl begins_range) (λ range. begins_among identifiers (2 ∷ 60 ∷ []) refl (begins_bind (begins_bind (begins_bind begins_ident))))))

reads_reg_item : Reads IsRegItem none 1 reg_item_at
unfolding reg_item_at
reads_reg_item = reads_then (reads_word none k.Reg) λ _.
    reads_bind (reads_flag k.Signed) (λ signed.
    reads_bind reads_range_option (λ range.
    reads_bind (reads_listed value_goes refl reads_variable) (λ variables. reads_then (reads_mark none m.Semicolon) λ _. reads_yields none (i.Regs signed range variables))
    (opens (list_goes value_goes) (6 ∷ []) refl (λ variables. begins_bind (begins_mark m.Semicolon))))
    (opens (λ x. among x (only m.OpenBracket)) identifiers refl (λ range. begins_bind (begins_bind begins_variable))))
    (opens (λ x. among x (these k.Signed)) (2 ∷ 60 ∷ []) refl (λ signed.
    begins_option (begins_among (2 ∷ []) (2 ∷ 60 ∷ []) refl begins_range) (λ range. begins_among identifiers (2 ∷ 60 ∷ []) refl (begins_bind (begins_bind begins_variable)))))

reads_assign_item : Reads IsAssignItem none 1 assign_item_at
unfolding assign_item_at
reads_assign_item = reads_then (reads_word none k.Assign) λ _.
    reads_bind (reads_listed expr_goes refl reads_setting) (λ settings. reads_then (reads_mark none m.Semicolon) λ _. reads_yields none (i.Assigns settings))
    (opens (list_goes expr_goes) (6 ∷ []) refl (λ settings. begins_bind (begins_mark m.Semicolon)))

reads_any_event : Reads IsAnyEvent none 1 any_event_at
unfolding any_event_at
reads_any_event = reads_then (reads_mark none m.Star) λ _. reads_yields none events.Any

reads_posedge : Reads IsPosedge none 1 posedge_at
unfolding posedge_at
reads_posedge = reads_then (reads_word none k.Posedge) λ _. reads_then (reads_ident none) λ name. reads_yields none (events.Posedge name)

reads_inner_event : Reads (IsAnyEvent <|> IsPosedge) none 1 inner_event_at
unfolding inner_event_at
reads_inner_event = reads_choose 1 (only m.Star) reads_any_event reads_posedge (omega arith) (omega arith)
    (begins_bind (begins_mark m.Star)) (others (only m.Star) (51 ∷ []) refl (begins_bind (begins_word k.Posedge)))

reads_event_group : Reads IsEventGroup none 1 event_group_at
unfolding event_group_at
reads_event_group = reads_then (reads_mark none m.OpenParen) λ _. reads_then reads_inner_event λ event. reads_then (reads_mark none m.CloseParen) λ _. reads_yields none event

reads_event : Reads (IsAnyEvent <|> IsEventGroup) none 1 event_at
unfolding event_at
reads_event = reads_choose 1 (only m.Star) reads_any_event reads_event_group (omega arith) (omega arith)
    (begins_bind (begins_mark m.Star)) (others (only m.Star) (0 ∷ []) refl (begins_bind (begins_mark m.OpenParen)))

reads_always_item : Reads IsAlwaysItem end_goes 1 always_item_at
unfolding always_item_at
reads_always_item = reads_then (reads_word none k.Always) λ _. reads_then (reads_mark none m.At) λ _. reads_then reads_event λ event.
    reads_bind (reads_stmt inner_levels).read_open (λ body. reads_yields end_goes (i.Always event body)) (silent end_goes)

abbrev item_kinds : List ℕ
item_kinds = 47 ∷ 48 ∷ 44 ∷ 45 ∷ 49 ∷ 50 ∷ []

begins_last : Begins (IsAssignItem <|> IsAlwaysItem) (49 ∷ 50 ∷ [])
begins_last = begins_or (begins_among (49 ∷ []) (49 ∷ 50 ∷ []) refl (begins_bind (begins_word k.Assign))) (begins_among (50 ∷ []) (49 ∷ 50 ∷ []) refl (begins_bind (begins_word k.Always)))

begins_reg : Begins (IsRegItem <|> (IsAssignItem <|> IsAlwaysItem)) (45 ∷ 49 ∷ 50 ∷ [])
begins_reg = begins_or (begins_among (45 ∷ []) (45 ∷ 49 ∷ 50 ∷ []) refl (begins_bind (begins_word k.Reg))) (begins_among (49 ∷ 50 ∷ []) (45 ∷ 49 ∷ 50 ∷ []) refl begins_last)

begins_wire : Begins (IsWireItem <|> (IsRegItem <|> (IsAssignItem <|> IsAlwaysItem))) (44 ∷ 45 ∷ 49 ∷ 50 ∷ [])
begins_wire = begins_or (begins_among (44 ∷ []) (44 ∷ 45 ∷ 49 ∷ 50 ∷ []) refl (begins_bind (begins_word k.Wire))) (begins_among (45 ∷ 49 ∷ 50 ∷ []) (44 ∷ 45 ∷ 49 ∷ 50 ∷ []) refl begins_reg)

begins_local : Begins (IsLocalParameterItem <|> (IsWireItem <|> (IsRegItem <|> (IsAssignItem <|> IsAlwaysItem)))) (48 ∷ 44 ∷ 45 ∷ 49 ∷ 50 ∷ [])
begins_local = begins_or (begins_among (48 ∷ []) (48 ∷ 44 ∷ 45 ∷ 49 ∷ 50 ∷ []) refl (begins_bind (begins_word k.Localparam))) (begins_among (44 ∷ 45 ∷ 49 ∷ 50 ∷ []) (48 ∷ 44 ∷ 45 ∷ 49 ∷ 50 ∷ []) refl begins_wire)

begins_item : Begins IsItem item_kinds
begins_item = begins_or (begins_among (47 ∷ []) item_kinds refl (begins_bind (begins_word k.Parameter))) (begins_among (48 ∷ 44 ∷ 45 ∷ 49 ∷ 50 ∷ []) item_kinds refl begins_local)

reads_item : Reads IsItem end_goes 1 item_at
unfolding item_at
reads_item = reads_choose 1 (these k.Parameter) (reads_closed end_goes reads_parameter_item)
    (reads_choose 1 (these k.Localparam) (reads_closed end_goes reads_local_item)
    (reads_choose 1 (these k.Wire) (reads_closed end_goes reads_wire_item)
    (reads_choose 1 (these k.Reg) (reads_closed end_goes reads_reg_item)
    (reads_choose 1 (these k.Assign) (reads_closed end_goes reads_assign_item) reads_always_item (omega arith) (omega arith)
    (begins_bind (begins_word k.Assign)) (others (these k.Assign) (50 ∷ []) refl (begins_bind (begins_word k.Always))))
    (omega arith) (omega arith) (begins_bind (begins_word k.Reg)) (others (these k.Reg) (49 ∷ 50 ∷ []) refl begins_last))
    (omega arith) (omega arith) (begins_bind (begins_word k.Wire)) (others (these k.Wire) (45 ∷ 49 ∷ 50 ∷ []) refl begins_reg))
    (omega arith) (omega arith) (begins_bind (begins_word k.Localparam)) (others (these k.Localparam) (44 ∷ 45 ∷ 49 ∷ 50 ∷ []) refl begins_wire))
    (omega arith) (omega arith) (begins_bind (begins_word k.Parameter)) (others (these k.Parameter) (48 ∷ 44 ∷ 45 ∷ 49 ∷ 50 ∷ []) refl begins_local)

-- ---- modules

item_loop : Repeats IsItem end_goes not_endmodule not_endmodule
item_loop = record {
  begins = λ before after x h. passes not_endmodule item_kinds before refl (begins_item.first before after x h);
  parted = λ before after x h. apart end_goes item_kinds before refl (begins_item.first before after x h);
  ends = λ rest fin. fin;
  fits = λ rest fin. only_end 41 end_goes rest refl fin;
}

begins_ports : {B : Type 0} {Q : List PortGroup → Rule B} → ((groups : List PortGroup) → Begins (Q groups) (6 ∷ [])) → Begins (r.◌>>=◌ IsPorts Q) (0 ∷ 6 ∷ [])
begins_ports q = record {
  first = λ before after b h. elim h.2 [
    | inl y ↦ (begins_among (0 ∷ []) (0 ∷ 6 ∷ []) refl (begins_mark m.OpenParen)).first before y.0 y.1 y.2
    | inr y ↦ ap (next_in (0 ∷ 6 ∷ [])) y.0 ∙ (begins_among (6 ∷ []) (0 ∷ 6 ∷ []) refl (q h.1)).first h.0 after b h.3
  ];
}

abbrev EnclosedItems : Rule (List Item)
EnclosedItems = mark m.Semicolon >> (many IsItem >>= λ items. word k.Endmodule >> yields items)

reads_items : Reads EnclosedItems none 1 enclosed_items_at
unfolding enclosed_items_at
reads_items =
    reads_then (reads_mark none m.Semicolon) λ _.
    reads_bind (reads_many reads_item item_loop) (λ items. reads_then (reads_word none k.Endmodule) λ _. reads_yields none items)
    (opens not_endmodule (41 ∷ []) refl (λ items. begins_bind (begins_word k.Endmodule)))

pub reads_module : Reads IsModule none 1 module_at
unfolding module_at body_at
reads_module =
    reads_then (reads_word none k.Module) λ _. reads_then (reads_ident none) λ name.
    reads_bind reads_parameters (λ parameters.
    reads_bind reads_ports (λ ports.
    reads_led (leads_bind λ _. leads_bind λ _. leads_bind λ _. leads_yields)
    (reads_then reads_items λ items. reads_yields none (record { name = name; parameters = parameters; ports = ports; items = items })))
    (opens (λ x. among x (only m.OpenParen)) (6 ∷ []) refl (λ ports. begins_bind (begins_mark m.Semicolon))))
    (opens (λ x. among x (only m.Hash)) (0 ∷ 6 ∷ []) refl (λ parameters. begins_ports (λ ports. begins_bind (begins_mark m.Semicolon))))

-- ---- what is no module is refused where the reader stops

pub stopped_refused : (tokens at : List Token) (end : ℕ) → module_at tokens ≡ Err at → IsRefused tokens end (record { rule = E3; at = first_place at end })
stopped_refused tokens at end e = refused_stopped reads_module tokens at end e
