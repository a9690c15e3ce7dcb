-- What the steps of a walk add to the sites that were found before them.
use Rattle.std.specs.Prelude.{◌≡◌, List, ◌++◌, map, Bool, true, ◌&&◌}
use Rattle.v_syntax.specs.declared.expr.Expr.{Expr}
use Rattle.v_syntax.specs.declared.expr.BinaryOperator.{BinaryOperator}
use Rattle.v_syntax.specs.declared.stmt.Arm.{Arm}
use Rattle.v_syntax.specs.declared.module.Setting.{Setting}
use Rattle.v_syntax.specs.declared.module.Declared.{Declared}
use Rattle.v_meaning.specs.declared.names.Entry.{Entry}
use Rattle.v_meaning.specs.Sites.{Site, sites_of, items_sites, stmt_sites, value_sites}
use Rattle.v_meaning.specs.Statements.{label_items}
use Rattle.v_meaning.specs.Proper.{is_sound}
use Rattle.v_core.specs.declared.modules.TypedSite.{TypedSite}
use Rattle.v_typing.specs.Sound.{all_sound, is_sound_stmt, is_sound_value}
use Rattle.v_sites.specs.Found.{site_in, are_words}

-- If what is walked over is sound, these are its sites, and they stand behind those that were found before.
-- These have 1 to 128 bits.
pub record Adds (sound : Bool) (old new : List TypedSite) (sites : List Site) : Type 0 where
  pub added : sound ≡ true → map site_in new ≡ map site_in old ++ sites
  pub words : are_words new ≡ are_words old

-- ---- the sites of what stands in lists, and whether it can be typed

-- an operand behind the first one of a chain
abbrev pub link_sites : List Entry → BinaryOperator × Expr → List Site
link_sites names link = sites_of names link.1

abbrev pub is_sound_link : List Entry → BinaryOperator × Expr → Bool
is_sound_link names link = is_sound names link.1

abbrev pub arm_sites : List Entry → Arm → List Site
arm_sites names arm = items_sites names arm.label ++ stmt_sites names arm.body

abbrev pub is_sound_arm : List Entry → Arm → Bool
is_sound_arm names arm = all_sound names (label_items arm.label) && is_sound_stmt names arm.body

-- what a net is assigned where it is declared
abbrev pub net_sites : List Entry → Declared → List Site
net_sites names net = value_sites names net.value

abbrev pub is_sound_net : List Entry → Declared → Bool
is_sound_net names net = is_sound_value names net.value

abbrev pub setting_sites : List Entry → Setting → List Site
setting_sites names s = sites_of names s.value.expr

abbrev pub is_sound_setting : List Entry → Setting → Bool
is_sound_setting names s = is_sound names s.value.expr
