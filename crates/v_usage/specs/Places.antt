-- The places where one mark breaks each rule of the use of names. No public clause names them.
use Rattle.std.specs.Prelude.{ℕ, List, [], ◌∷◌, flat_map, Option, None, Some}
use Rattle.lz_base.specs.declared.rule.Rule.{Rule}
use Rattle.lz_base.specs.declared.rule.Rule.TheVariants as r
use Rattle.v_meaning.specs.declared.names.Entry.{Entry}
use Rattle.v_meaning.specs.Marks.{Mark}
use Rattle.v_meaning.specs.MarkRules.{wrong_form, wrong_part, unsized_part, too_wide, second_default, wrong_z}

-- the place, where there is one
abbrev pub as_list : Option ℕ → List ℕ
as_list None = []
as_list (Some at) = at ∷ []

abbrev pub broken_by : Rule → List Entry → Mark → List ℕ
broken_by r.E8 names = wrong_form names
broken_by r.E9 names = wrong_part names
broken_by r.E10 names = unsized_part
broken_by r.E11 names = too_wide
broken_by r.E12 names = second_default
broken_by r.E13 names = wrong_z
broken_by _ names = λ mark. []

-- the places where marks break a rule
abbrev pub usage_places : List Entry → List Mark → Rule → List ℕ
usage_places names marks rule = flat_map (broken_by rule names) marks
