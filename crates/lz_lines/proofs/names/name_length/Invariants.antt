use Rattle.std.proofs.Common.{◌≡◌, true, take}
use Rattle.std.specs.List.{list_all}
use Rattle.lz_base.specs.Names.{is_name_byte}
use Rattle.lz_lines.proofs.names.name_length.Given as goal

abbrev pub invariant-loop-i : goal.invariant-loop-i
invariant-loop-i l = list_all is_name_byte (take l.i l.bytes) ≡ true
