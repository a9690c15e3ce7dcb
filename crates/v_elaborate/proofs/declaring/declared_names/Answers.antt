use Rattle.std.proofs.Common.{◌≡◌, ◌∙◌, refl, [], ◌∷◌}
use Rattle.std.specs.Prelude.{⊤}
use Rattle.lz_base.specs.declared.rule.Rule.{Rule}
use Rattle.lz_base.specs.declared.rule.Rule.TheVariants as r
use Rattle.lz_base.specs.declared.fault.Fault.{Fault}
use Rattle.v_meaning.specs.Broken.{places_of, first_fault, typing_rules}
use Rattle.v_meaning.specs.ConstantRules.{improper}
use Rattle.v_scope.specs.Scope.{scope_rules}
use Rattle.v_usage.specs.Usage.{usage_rules}
use Rattle.v_elaborate.proofs.InOrder.{scope_refuses, constants_refuse, then_usage, handed, never_ok, Finds}
use Rattle.v_elaborate.proofs.declaring.declared_names.Goals as goal

pub returns-in_err-scope-clause-refused : goal.returns-in_err-scope-clause-refused
returns-in_err-scope-clause-refused c =
    let places = places_of c.args.module.now in
    handed ⊤ (Finds places scope_rules) (Finds places typing_rules) _ _ c.from_residual.ensures.1 c.in_err-scope.ensures.refused (scope_refuses places)

pub returns-in_err-names-clause-refused : goal.returns-in_err-names-clause-refused
returns-in_err-names-clause-refused c =
    let places = places_of c.args.module.now in
    handed ⊤ (λ f. (f.rule ≡ r.E7) × (places r.E7 ≡ f.at ∷ [])) (Finds places typing_rules) _ _ c.from_residual-in_err-names.ensures.1 c.in_err-names.ensures.refused
    (λ f h. constants_refuse places f c.in_ok-scope.ensures.accepted h.0 h.1)

pub usage-requires : goal.usage-requires
usage-requires c = record { declared = c.in_ok-names.ensures.accepted.1 }

pub returns-in_err-usage-clause-refused : goal.returns-in_err-usage-clause-refused
returns-in_err-usage-clause-refused c =
    let places = places_of c.args.module.now in
    handed ⊤ (Finds places usage_rules) (Finds places typing_rules) _ _ c.from_residual-in_err-usage.ensures.1 c.in_err-usage.ensures.refused
    (λ f h. then_usage places c.in_ok-scope.ensures.accepted c.in_ok-names.ensures.accepted.0 ∙ h)

pub same-names : goal.same-names
same-names c = refl

pub returns-in_err-scope-clause-accepted : goal.returns-in_err-scope-clause-accepted
returns-in_err-scope-clause-accepted c = never_ok _ _ _ c.from_residual.ensures.1

pub returns-in_err-names-clause-accepted : goal.returns-in_err-names-clause-accepted
returns-in_err-names-clause-accepted c = never_ok _ _ _ c.from_residual-in_err-names.ensures.1

pub returns-in_err-usage-clause-accepted : goal.returns-in_err-usage-clause-accepted
returns-in_err-usage-clause-accepted c = never_ok _ _ _ c.from_residual-in_err-usage.ensures.1

pub returns-clause-accepted : goal.returns-clause-accepted
returns-clause-accepted c =
    let places = places_of c.args.module.now in
    (then_usage places c.in_ok-scope.ensures.accepted c.in_ok-names.ensures.accepted.0 ∙ c.in_ok-usage.ensures.accepted, c.in_ok-names.ensures.accepted.1)
