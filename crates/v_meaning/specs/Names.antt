-- The declared names, and what reading them gives (1364-2005, 4, 5.2).
use Rattle.std.specs.Prelude.{ℕ, ◌+◌, ◌-◌, ◌/◌, ◌%◌, ◌^◌, List, [], get_or, slice_index, false, ◌&&◌, if◌then◌else◌, nat_le, nat_lt, Option, None, Some, bytes_eq, find}
use Rattle.v_meaning.specs.declared.names.Kind.{Kind}
use Rattle.v_meaning.specs.declared.names.Kind.TheVariants.{Parameter, Clock, Input, Net, Combinational, Variable, Memory}
use Rattle.v_meaning.specs.declared.names.Entry.{Entry}
use Rattle.v_meaning.specs.Views.{View}
use Rattle.v_meaning.specs.Senses.{Sense, leaf, index_of}

-- what stands for a name that is declared nowhere: it is no parameter, and reads 0
abbrev pub undeclared : Entry
undeclared = record { name = []; at = 0; kind = Clock; width = 1; signed = false; low = 0; is_vector = false; first = None }

abbrev pub entry_or : Option Entry → Entry
entry_or None = undeclared
entry_or (Some e) = e

abbrev pub found : List Entry → List ℕ → Option Entry
found names name = find (λ e. bytes_eq e.name name) names

abbrev pub entry_of : List Entry → List ℕ → Entry
entry_of names name = entry_or (found names name)

-- the word of a name
abbrev pub word_of : Kind → View → ℕ
word_of (Parameter value) v = value
word_of Clock v = 0
word_of (Input k) v = slice_index v.inputs k
word_of (Net k) v = slice_index v.nets k
word_of (Combinational k) v = slice_index v.nets k
word_of (Variable k) v = slice_index v.store.variables k
word_of (Memory k low count) v = 0

-- the words of a memory
abbrev pub words_of : ℕ → View → List ℕ
words_of k v = get_or v.store.memories k []

-- The number from 0 of an index, among so many that begin with the lowest; None where it is out of range.
abbrev pub within : ℕ → ℕ → Option ℕ → Option ℕ
within low count None = None
within low count (Some i) = if nat_le low i && nat_lt i (low + count) then Some (i - low) else None

-- the indices of a vector's bits, or of a memory's words (5.2.1 and 5.2.2)
abbrev pub within_kind : Kind → Entry → Option ℕ → Option ℕ
within_kind (Memory k low count) e i = within low count i
within_kind kind e i = within e.low e.width i

abbrev pub within_entry : Entry → Option ℕ → Option ℕ
within_entry e i = within_kind e.kind e i

-- a name by itself
abbrev pub read : Entry → Sense
read e = leaf e.width e.signed (word_of e.kind)

-- where the index is out of range the bits are open
abbrev pub at_index : (ℕ → ℕ) → ℕ → Option ℕ → ℕ
at_index f free None = free
at_index f free (Some i) = f i

-- A word of a memory, or a bit of a vector; the bits of the site where it is out of range (5.2.1 and 5.2.2: x).
abbrev pub read_selected : Kind → Entry → Sense → (View → ℕ) → Sense
read_selected (Memory k low count) e index free =
    leaf e.width e.signed (λ v. at_index (slice_index (words_of k v)) (free v) (within low count (index_of index v)))
read_selected kind e index free =
    leaf 1 false (λ v. at_index (λ i. word_of kind v / 2 ^ i % 2) (free v) (within e.low e.width (index_of index v)))

abbrev pub selected : Entry → Sense → (View → ℕ) → Sense
selected e = read_selected e.kind e

abbrev pub or_zero : Option ℕ → ℕ
or_zero None = 0
or_zero (Some n) = n

-- how many bits there are from the most to the least significant one
abbrev pub span : ℕ → ℕ → ℕ
span msb lsb = msb + 1 - lsb

-- name[msb:lsb] (5.2.1)
abbrev pub read_part : Entry → ℕ → ℕ → Sense
read_part e msb lsb = leaf (span msb lsb) false (λ v. word_of e.kind v / 2 ^ (lsb - e.low) % 2 ^ span msb lsb)
