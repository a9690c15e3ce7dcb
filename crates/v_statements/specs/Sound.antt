-- Which arms of a case can be typed: the items of their labels, and their bodies.
use Rattle.std.specs.Prelude.{List, Bool, ◌&&◌}
use Rattle.v_syntax.specs.declared.stmt.Arm.{Arm}
use Rattle.v_meaning.specs.declared.names.Entry.{Entry}
use Rattle.v_meaning.specs.Statements.{label_items}
use Rattle.v_typing.specs.Sound.{all_sound, is_sound_stmt}

abbrev pub is_sound_arm : List Entry → Arm → Bool
is_sound_arm names arm = all_sound names (label_items arm.label) && is_sound_stmt names arm.body
