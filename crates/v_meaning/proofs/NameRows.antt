-- Worked rows of declared names, reads and writes.
use Rattle.std.proofs.Common.{◌≡◌, refl, ℕ, List, [], ◌∷◌, Bool, true, false, Option, None, Some, codes}
use Rattle.v_syntax.specs.declared.expr.Spelling.TheVariants as s
use Rattle.v_meaning.specs.Views.{View, no_view, applied}
use Rattle.v_meaning.specs.Literals.{literal_of, literal_value}
use Rattle.v_meaning.specs.Senses.{Sense, leaf, own, assigned, extended}
use Rattle.v_meaning.specs.declared.names.Kind.{Kind}
use Rattle.v_meaning.specs.declared.names.Entry.{Entry}
use Rattle.v_meaning.specs.Names.{read, read_part, selected}
use Rattle.v_meaning.specs.declared.names.Kind.TheVariants as k
use Rattle.v_meaning.specs.Targets.{whole_target, selected_target, part_target, parts_writes}
use Rattle.v_meaning.specs.Statements.{agree}
use Rattle.v_meaning.specs.Designs.{Given, Open, Words}
use Rattle.v_meaning.specs.Modules.{firsts_among, inputs_among}
use Rattle.v_meaning.specs.Declarations.{parameter_over}

abbrev word : ℕ → Bool → ℕ → Sense
word width signed value = leaf width signed (λ v. value)

abbrev entry : List ℕ → Kind → ℕ → Bool → ℕ → Option ℕ → Entry
entry name kind width signed low first =
    record { name = name; at = 0; kind = kind; width = width; signed = signed; low = low; is_vector = true; first = first }

-- ---- parameters and first values

-- localparam signed P = 4'd15 has the width of its value, and is signed: -1
abbrev signed_parameter : Entry
signed_parameter = parameter_over [] (record { signed = true; range = None; settings = [] }) (record { name = codes "P"; at = 3 }) (word 4 false 15)

parameter_is : assigned 8 (read signed_parameter) no_view ≡ 255
parameter_is = refl

-- localparam P = -4'sd1 has the sign of its value
abbrev plain_parameter : Entry
plain_parameter = parameter_over [] (record { signed = false; range = None; settings = [] }) (record { name = codes "P"; at = 3 }) (word 4 true 15)

plain_is_signed : plain_parameter.signed ≡ true
plain_is_signed = refl

-- A combinational variable has no first bits, and its initialiser is without effect.
firsts : firsts_among
    (entry (codes "a") (k.Combinational 0) 4 false 0 (Some 1) ∷ entry (codes "b") (k.Variable 0) 4 false 0 (Some 1)
    ∷ entry (codes "m") (k.Memory 0 2 3) 8 false 0 None ∷ entry (codes "c") (k.Variable 1) 4 false 0 None ∷ [])
    ≡ Given 1 ∷ Words 3 8 ∷ Open 4 ∷ []
firsts = refl

-- the clock is no input of the machine
ports : inputs_among (entry (codes "clk") k.Clock 1 false 0 None ∷ entry (codes "a") (k.Input 0) 4 false 0 None ∷ []) ≡ record { name = codes "a"; width = 4 } ∷ []
ports = refl

-- ---- reads

abbrev view : View
view = record { inputs = 177 ∷ []; nets = []; store = record { variables = 6 ∷ []; memories = (8 ∷ 3 ∷ []) ∷ [] }; sites = [] }

-- reg signed [3:0] m [0:1]: a word of a signed memory is extended by its sign, also where it comes from the site
word_read : assigned 8 (selected (entry (codes "m") (k.Memory 0 0 2) 4 true 0 None) (word 2 false 0) (λ v. 5)) view ≡ 248
word_read = refl

word_open : assigned 8 (selected (entry (codes "m") (k.Memory 0 0 2) 4 true 0 None) (word 2 false 3) (λ v. 8)) view ≡ 248
word_open = refl

-- input signed [11:4] a of 1011_0001: a[11], a[9:4], which is unsigned, and a[3], which is out of range
top_bit : own (selected (entry (codes "a") (k.Input 0) 8 true 4 None) (word 4 false 11) (λ v. 0)) view ≡ 1
top_bit = refl

some_part : assigned 8 (read_part (entry (codes "a") (k.Input 0) 8 true 4 None) 9 4) view ≡ 49
some_part = refl

below : own (selected (entry (codes "a") (k.Input 0) 8 true 4 None) (word 4 false 3) (λ v. 1)) view ≡ 1
below = refl

-- ---- writes

abbrev register : Entry
register = entry (codes "a") (k.Variable 0) 4 false 0 None

-- {a, a} = 8'h12: the right part is written last
last_part : (applied view (parts_writes (whole_target register ∷ whole_target register ∷ []) view 18)).store.variables ≡ 2 ∷ []
last_part = refl

-- a[2:1] of 0110 takes 01
part_written : (applied view ((part_target register 2 1).writes view 1)).store.variables ≡ 2 ∷ []
part_written = refl

-- a[4] is out of range: nothing is written
not_written : (selected_target register.kind register (λ v. Some 4)).writes view 1 ≡ []
not_written = refl

-- m[1] takes a word, and m[3] of [0:1] nothing
word_written : (applied view ((selected_target (k.Memory 0 0 2) (entry (codes "m") (k.Memory 0 0 2) 4 true 0 None) (λ v. Some 1)).writes view 9)).store.memories
    ≡ (8 ∷ 9 ∷ []) ∷ []
word_written = refl

-- ---- 2'bxz as an item of a casez: its x is a site and is compared, its z is not
open_item : agree (extended 2 1 2 false) 2 (literal_value (literal_of (s.Sized (codes "2") (codes "'bxz"))) 1) ≡ true
open_item = refl

other_item : agree (extended 2 1 2 false) 1 (literal_value (literal_of (s.Sized (codes "2") (codes "'bxz"))) 1) ≡ false
other_item = refl
