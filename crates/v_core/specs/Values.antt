-- What typed expressions mean (1364-2005, 5).
use Rattle.std.specs.Prelude.{ℕ, ◌+◌, ◌*◌, ◌/◌, ◌%◌, ◌^◌, ◌==◌, List, [], ◌∷◌, Bool, ◌&&◌, if◌then◌else◌, slice_get, slice_index, Option, None, Some}
use Rattle.lz_base.specs.Bits.{is_negative}
use Rattle.v_meaning.specs.Views.{View}
use Rattle.v_meaning.specs.Literals.{literal_value}
use Rattle.v_meaning.specs.Senses.{extended, operation, operation_before, copies}
use Rattle.v_meaning.specs.declared.names.Kind.{Kind}
use Rattle.v_meaning.specs.declared.names.Kind.TheVariants.{Memory}
use Rattle.v_meaning.specs.declared.names.Entry.{Entry}
use Rattle.v_meaning.specs.Names.{entry_or, word_of, words_of, within, at_index}
use Rattle.v_core.specs.declared.typed.Link.{Link}
use Rattle.v_core.specs.declared.typed.Typed.{Typed}
use Rattle.v_core.specs.declared.typed.Typed.TheOpen.{Typed-F}
use Rattle.v_core.specs.declared.typed.Typed.TheOpen as t
use Rattle.v_core.specs.declared.typed.Typed.TheFolds.{fold-Typed}

-- a value over the declared names, in a view
abbrev pub Value : Type 0
Value = List Entry → View → ℕ

-- the declared name of a number
abbrev pub entry_at : List Entry → ℕ → Entry
entry_at names n = entry_or (slice_get names n)

-- the number that an index of this width and sign stands for; None where it is negative
abbrev pub index_in : ℕ → Bool → ℕ → Option ℕ
index_in width signed n = if signed && is_negative width n then None else Some n

-- a word of a memory, or a bit of a vector; other bits where the index is out of range (5.2.1 and 5.2.2)
abbrev pub selected_value : Kind → Entry → Option ℕ → ℕ → View → ℕ
selected_value (Memory k low count) e i free v = at_index (slice_index (words_of k v)) free (within low count i)
selected_value kind e i free v = at_index (λ bit. word_of kind v / 2 ^ bit % 2) free (within e.low e.width i)

-- operators from the left (5.1.2)
abbrev pub chain_value : ℕ → List (Link × Value) → List Entry → View → ℕ
chain_value n [] names v = n
chain_value n (link ∷ links) names v =
    chain_value (operation link.0.operator link.0.width link.0.signed n (link.1 names v)) links names v

-- operands side by side behind others (5.1.14)
abbrev pub concat_value : ℕ → List (ℕ × Value) → List Entry → View → ℕ
concat_value n [] names v = n
concat_value n (part ∷ parts) names v = concat_value (n * 2 ^ part.0 + part.1 names v) parts names v

abbrev pub typed_step : Typed-F Value → List Entry → View → ℕ
typed_step (t.Constant width value) names v = value
typed_step (t.Number l site) names v = literal_value l (slice_index v.sites site)
typed_step (t.Name name at) names v = word_of (entry_at names name).kind v
typed_step (t.Select name at site width signed index) names v =
    selected_value (entry_at names name).kind (entry_at names name) (index_in width signed (index names v)) (slice_index v.sites site) v
typed_step (t.Part name at low width) names v = word_of (entry_at names name).kind v / 2 ^ low % 2 ^ width
typed_step (t.Extend from to signed x) names v = extended from (x names v) to signed
typed_step (t.Unary op width x) names v = operation_before op width (x names v)
typed_step (t.Chain x links) names v = chain_value (x names v) links names v
typed_step (t.Choice width c x y) names v = if c names v == 0 then y names v else x names v
typed_step (t.Concat parts) names v = concat_value 0 parts names v
typed_step (t.Copies count width x) names v = copies count width (x names v)

abbrev pub typed_value : Typed → List Entry → View → ℕ
typed_value = fold-Typed Value typed_step

-- the values of the operands behind the first one, and of operands side by side
abbrev pub link_values : List (Link × Typed) → List (Link × Value)
link_values [] = []
link_values (link ∷ links) = (link.0, typed_value link.1) ∷ link_values links

abbrev pub part_values : List (ℕ × Typed) → List (ℕ × Value)
part_values [] = []
part_values (part ∷ parts) = (part.0, typed_value part.1) ∷ part_values parts
