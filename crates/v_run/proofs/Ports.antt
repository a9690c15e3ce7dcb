-- How many bits the words at the ports of a module have.
use Rattle.std.proofs.Common.{◌≡◌, ◌≤◌, refl, arith, ℕ, zero, suc, List, [], ◌∷◌, Bool, true, false, ◌&&◌}
use Rattle.std.specs.Prelude.{if◌then◌else◌, nat_le}
use Rattle.std.specs.List.{list_all}
use Rattle.std.proofs.lemmas.Bool.{leb-true}
use Rattle.t_trace.specs.Widths.{AreWidths}
use Rattle.v_meaning.specs.Declarations.{is_input}
use Rattle.v_meaning.specs.Modules.{inputs_among}
use Rattle.v_meaning.specs.declared.names.Kind.{Kind}
use Rattle.v_meaning.specs.declared.names.Kind.TheVariants as k
use Rattle.v_meaning.specs.declared.names.Entry.{Entry}
use Rattle.v_core.specs.Values.{entry_at}
use Rattle.v_core.specs.Formed.{is_width}
use Rattle.v_machine.specs.Runnable.{is_word, port_widths}

of_kind : (kind : Kind) (e : Entry) (names : List Entry) →
    port_widths (inputs_among (record e { kind = kind } ∷ names)) ≡ (if is_input kind then e.width ∷ port_widths (inputs_among names) else port_widths (inputs_among names))
of_kind (k.Parameter value) e names = refl
of_kind k.Clock e names = refl
of_kind (k.Input n) e names = refl
of_kind (k.Net n) e names = refl
of_kind (k.Combinational n) e names = refl
of_kind (k.Variable n) e names = refl
of_kind (k.Memory n low count) e names = refl

-- the widths of the inputs, one name more
pub inputs_next : (e : Entry) (names : List Entry) →
    port_widths (inputs_among (e ∷ names)) ≡ (if is_input e.kind then e.width ∷ port_widths (inputs_among names) else port_widths (inputs_among names))
inputs_next e names = of_kind e.kind e names

-- ---- words

first_of : (a b : Bool) → (a && b) ≡ true → a ≡ true
first_of true b h = refl
first_of false b h = absurd (cc h)

second_of : (a b : Bool) → (a && b) ≡ true → b ≡ true
second_of true b h = h
second_of false b h = absurd (cc h)

-- a name that is a word has 1 to 128 bits
pub word_keeps : (e : Entry) → is_word e ≡ true → (1 ≤ e.width) × (e.width ≤ 128)
word_keeps e h =
    let width : is_width e.width ≡ true = first_of (is_width e.width) _ h in
    (leb-true 1 e.width (first_of (nat_le 1 e.width) (nat_le e.width 128) width), leb-true e.width 128 (second_of (nat_le 1 e.width) (nat_le e.width 128) width))

-- the name of a number has 1 to 128 bits, also where there are not so many
pub word_at : (names : List Entry) (n : ℕ) → list_all is_word names ≡ true → (1 ≤ (entry_at names n).width) × ((entry_at names n).width ≤ 128)
word_at [] n h = (omega arith, omega arith)
word_at (e ∷ names) zero h = word_keeps e (first_of (is_word e) (list_all is_word names) h)
word_at (e ∷ names) (suc n) h = word_at names n (second_of (is_word e) (list_all is_word names) h)

widths_of_kind : (kind : Kind) (e : Entry) (names : List Entry) → (1 ≤ e.width) × (e.width ≤ 128) → AreWidths (port_widths (inputs_among names)) → AreWidths (port_widths (inputs_among (record e { kind = kind } ∷ names)))
widths_of_kind (k.Parameter value) e names keeps are = are
widths_of_kind k.Clock e names keeps are = are
widths_of_kind (k.Input n) e names keeps are = (keeps.0, keeps.1, are)
widths_of_kind (k.Net n) e names keeps are = are
widths_of_kind (k.Combinational n) e names keeps are = are
widths_of_kind (k.Variable n) e names keeps are = are
widths_of_kind (k.Memory n low count) e names keeps are = are

-- the inputs of a module whose names are words have widths of words
pub are_widths : (names : List Entry) → list_all is_word names ≡ true → AreWidths (port_widths (inputs_among names))
are_widths [] h = tt
are_widths (e ∷ names) h =
    widths_of_kind e.kind e names (word_keeps e (first_of (is_word e) (list_all is_word names) h)) (are_widths names (second_of (is_word e) (list_all is_word names) h))
