-- What an assignment in a process writes (1364-2005, 9.2).
use Rattle.std.specs.Prelude.{ℕ, ◌+◌, ◌-◌, ◌/◌, ◌%◌, ◌^◌, List, [], ◌∷◌, ◌++◌, Option, None, Some}
use Rattle.v_syntax.specs.declared.stmt.Target.{Target}
use Rattle.v_syntax.specs.declared.stmt.Target.TheOpen.{Target-F}
use Rattle.v_syntax.specs.declared.stmt.Target.TheOpen as o
use Rattle.v_syntax.specs.declared.stmt.Target.TheFolds.{fold-Target}
use Rattle.v_meaning.specs.Views.{View, Place, Write}
use Rattle.v_meaning.specs.Views as p
use Rattle.v_meaning.specs.Senses.{constant, index_of}
use Rattle.v_meaning.specs.declared.names.Kind.{Kind}
use Rattle.v_meaning.specs.declared.names.Kind.TheVariants.{Memory, Combinational, Variable}
use Rattle.v_meaning.specs.declared.names.Entry.{Entry}
use Rattle.v_meaning.specs.Names.{entry_of, within, or_zero, span}
use Rattle.v_meaning.specs.Expressions.{sense_of}

-- How many bits a target has, and the writes that a value of so many bits becomes; the indices are evaluated in the view
-- (9.2.1 and 9.2.2).
pub record TargetSense : Type 0 where
  pub width : ℕ
  pub writes : View → ℕ → List Write

-- where the bits of a variable are
abbrev pub place_of : Kind → Option Place
place_of (Combinational k) = Some (p.Net k)
place_of (Variable k) = Some (p.Variable k)
place_of _ = None

-- these bits of a place; nothing where there is no such place
abbrev pub write_bits : Option Place → ℕ → ℕ → ℕ → List Write
write_bits None low width value = []
write_bits (Some place) low width value = record { place = place; low = low; width = width; value = value } ∷ []

-- one bit; nothing where the index is out of range (5.2.1)
abbrev pub write_bit : Option Place → Option ℕ → ℕ → List Write
write_bit place None value = []
write_bit place (Some i) value = write_bits place i 1 value

-- a word of a memory; nothing where the address is out of range (5.2.2)
abbrev pub write_word : ℕ → ℕ → Option ℕ → ℕ → List Write
write_word k width None value = []
write_word k width (Some i) value = write_bits (Some (p.Word k i)) 0 width value

abbrev pub selected_target : Kind → Entry → (View → Option ℕ) → TargetSense
selected_target (Memory k low count) e index = record { width = e.width; writes = λ v value. write_word k e.width (within low count (index v)) value }
selected_target kind e index = record { width = 1; writes = λ v value. write_bit (place_of kind) (within e.low e.width (index v)) value }

-- The bits of parts together; the leftmost part is the most significant (9.2.1).
abbrev pub parts_width : List TargetSense → ℕ
parts_width [] = 0
parts_width (t ∷ ts) = t.width + parts_width ts

-- parts are written from left to right
abbrev pub parts_writes : List TargetSense → View → ℕ → List Write
parts_writes [] v value = []
parts_writes (t ∷ ts) v value = t.writes v (value / 2 ^ parts_width ts) ++ parts_writes ts v (value % 2 ^ parts_width ts)

abbrev pub whole_target : Entry → TargetSense
whole_target e = record { width = e.width; writes = λ v value. write_bits (place_of e.kind) 0 e.width value }

abbrev pub part_target : Entry → ℕ → ℕ → TargetSense
part_target e msb lsb = record { width = span msb lsb; writes = λ v value. write_bits (place_of e.kind) (lsb - e.low) (span msb lsb) value }

abbrev pub target_step : List Entry → List ℕ → Target-F TargetSense → TargetSense
target_step names sites (o.Name n) = whole_target (entry_of names n.name)
target_step names sites (o.Select n bracket index) =
    selected_target (entry_of names n.name).kind (entry_of names n.name) (index_of (sense_of names sites index))
target_step names sites (o.Part n range) = part_target (entry_of names n.name)
    (or_zero (constant (sense_of names sites range.msb.expr))) (or_zero (constant (sense_of names sites range.lsb.expr)))
target_step names sites (o.Concat brace parts) = record { width = parts_width parts; writes = parts_writes parts }

abbrev pub target_of : List Entry → List ℕ → Target → TargetSense
target_of names sites = fold-Target TargetSense (target_step names sites)
