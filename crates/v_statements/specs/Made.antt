-- What typed targets and statements do that are made of parts (1364-2005, 9).
use Rattle.std.specs.Prelude.{ℕ, List, map, Bool}
use Rattle.v_meaning.specs.Targets.{TargetSense, place_of, write_bits, selected_target, parts_width, parts_writes}
use Rattle.v_meaning.specs.Acts.{Acts}
use Rattle.v_meaning.specs.declared.names.Entry.{Entry}
use Rattle.v_core.specs.declared.typed.Typed.{Typed}
use Rattle.v_core.specs.declared.statement.TypedTarget.{TypedTarget}
use Rattle.v_core.specs.declared.statement.TypedStmt.{TypedStmt}
use Rattle.v_core.specs.Values.{entry_at, index_in, typed_value}
use Rattle.v_core.specs.Statements.{TargetIn, target_in, acts_in}

abbrev pub part_in : ℕ → ℕ → ℕ → TargetIn
part_in name low width names =
    record { width = width; writes = λ v value. write_bits (place_of (entry_at names name).kind) low width value }

abbrev pub select_in : ℕ → ℕ → ℕ → Bool → Typed → TargetIn
select_in name bits width signed index names = record {
  width = bits;
  writes = (selected_target (entry_at names name).kind (entry_at names name) (λ v. index_in width signed (typed_value index names v))).writes;
}

abbrev pub part_senses : List TypedTarget → List Entry → List TargetSense
part_senses parts names = map (λ (t : TypedTarget). target_in t names) parts

abbrev pub joined_in : List TypedTarget → TargetIn
joined_in parts names = record { width = parts_width (part_senses parts names); writes = parts_writes (part_senses parts names) }

abbrev pub body_acts : List TypedStmt → List Entry → List Acts
body_acts body names = map (λ (t : TypedStmt). acts_in t names) body
