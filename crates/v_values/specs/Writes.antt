-- What writes are, and which keep to the words that they go to.
use Rattle.std.specs.Prelude.{ℕ, ◌+◌, ◌^◌, List, map, Bool, ◌&&◌, nat_le, nat_lt, slice_index, Option, None, Some}
use Rattle.std.specs.List.{list_all}
use Rattle.v_meaning.specs.Views as view
use Rattle.v_values.specs.declared.writing.Place.{Place}
use Rattle.v_values.specs.declared.writing.Place.TheVariants as p
use Rattle.v_values.specs.declared.writing.Write.{Write}
use Rattle.v_values.specs.Moments.{Shape}

abbrev pub place_in : Place → view.Place
place_in (p.Net k) = view.Net k
place_in (p.Variable k) = view.Variable k
place_in (p.Word k i) = view.Word k i

abbrev pub place_or : Option Place → Option view.Place
place_or None = None
place_or (Some place) = Some (place_in place)

abbrev pub write_in : Write → view.Write
write_in w = record { place = place_in w.place; low = w.low; width = w.width; value = w.value }

abbrev pub writes_in : List Write → List view.Write
writes_in ws = map write_in ws

-- how many bits a place has
abbrev pub place_width : Shape → view.Place → ℕ
place_width s (view.Net k) = slice_index s.nets k
place_width s (view.Variable k) = slice_index s.variables k
place_width s (view.Word k i) = slice_index s.memories k

-- a write of one bit at least, within its place, whose value has no more bits
abbrev pub write_fits : Shape → view.Write → Bool
write_fits s w = nat_le 1 w.width && nat_le (w.low + w.width) (place_width s w.place) && nat_lt w.value (2 ^ w.width)

abbrev pub all_fit : Shape → List view.Write → Bool
all_fit s ws = list_all (write_fits s) ws
