-- The rules of names and numbers that need no value, in their order.
use Rattle.std.specs.Prelude.{List, [], ◌∷◌}
use Rattle.lz_base.specs.declared.rule.Rule.{Rule}
use Rattle.lz_base.specs.declared.rule.Rule.TheVariants as r

abbrev pub scope_rules : List Rule
scope_rules = r.E4 ∷ r.E5 ∷ r.E6 ∷ []
