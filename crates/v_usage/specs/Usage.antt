-- The rules of how names, numbers and concatenations are used, in their order.
use Rattle.std.specs.Prelude.{List, [], ◌∷◌}
use Rattle.lz_base.specs.declared.rule.Rule.{Rule}
use Rattle.lz_base.specs.declared.rule.Rule.TheVariants as r

abbrev pub usage_rules : List Rule
usage_rules = r.E8 ∷ r.E9 ∷ r.E10 ∷ r.E11 ∷ r.E12 ∷ r.E13 ∷ []
