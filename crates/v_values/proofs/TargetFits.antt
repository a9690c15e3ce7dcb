-- The writes of a target fit the words that they go to.
use Rattle.std.proofs.Common.{◌≡◌, ◌≤◌, ◌<◌, ◌+◌, ◌-◌, ap, sym, subst, ◌∙◌, refl, arith, ℕ, List, [], ◌∷◌, Bool, true, false, ◌&&◌}
use Rattle.std.specs.Prelude.{◌^◌, ◌==◌, nat_le, nat_lt, if◌then◌else◌, Option, None, Some}
use Rattle.std.proofs.lemmas.Bool.{leb-true, ltb-true, eqb-true, le-leb, lt-ltb}
use Rattle.v_meaning.specs.Views.{View, Place, Net, Variable, Word, Write}
use Rattle.v_meaning.specs.Names.{within}
use Rattle.v_meaning.specs.Targets.{TargetSense, place_of, selected_target, write_bit, write_bits, write_word}
use Rattle.v_meaning.specs.declared.names.Kind.{Kind}
use Rattle.v_meaning.specs.declared.names.Kind.TheVariants as k
use Rattle.v_meaning.specs.declared.names.Entry.{Entry}
use Rattle.v_core.specs.declared.typed.Typed.{Typed}
use Rattle.v_core.specs.declared.statement.TypedTarget.{TypedTarget}
use Rattle.v_core.specs.declared.statement.TypedTarget.TheVariants as t
use Rattle.v_core.specs.Values.{entry_at, index_in, typed_value}
use Rattle.v_core.specs.Formed.{is_width, selected_width}
use Rattle.v_core.specs.Statements.{target_in}
use Rattle.v_values.specs.Kept.{is_kept_target}
use Rattle.v_values.specs.Moments.{Shape, has_width}
use Rattle.v_values.specs.Writes.{all_fit, place_width}
use Rattle.v_values.proofs.Tests.{first_of, second_of, has_bit}
use Rattle.v_values.proofs.TargetLaws.{part_means, select_means, part_keeps, select_keeps}

-- a write of so many bits
abbrev write_of : Place → ℕ → ℕ → ℕ → Write
write_of place low w value = record { place = place; low = low; width = w; value = value }

one_fits : (s : Shape) (place : Place) (low w value : ℕ) → 1 ≤ w → low + w ≤ place_width s place → value < 2 ^ w → all_fit s (write_of place low w value ∷ []) ≡ true
one_fits s place low w value h k b = λ i. ((le-leb 1 w h i && le-leb (low + w) (place_width s place) k i) && lt-ltb value (2 ^ w) b i) && true

-- a word that has as many bits as its name
same_width : (n low w width : ℕ) → (n == width) ≡ true → low + w ≤ width → low + w ≤ n
same_width n low w width e h = omega (arith, h, eqb-true n width e)

bits_fit : (s : Shape) (kind : Kind) (low w width value : ℕ) → has_width s kind width ≡ true → 1 ≤ w → low + w ≤ width → value < 2 ^ w →
    all_fit s (write_bits (place_of kind) low w value) ≡ true
bits_fit s (k.Parameter n) low w width value e h f b = refl
bits_fit s k.Clock low w width value e h f b = refl
bits_fit s (k.Input n) low w width value e h f b = refl
bits_fit s (k.Net n) low w width value e h f b = refl
bits_fit s (k.Combinational n) low w width value e h f b = one_fits s (Net n) low w value h (same_width _ low w width e f) b
bits_fit s (k.Variable n) low w width value e h f b = one_fits s (Variable n) low w value h (same_width _ low w width e f) b
bits_fit s (k.Memory n from count) low w width value e h f b = refl

pub part_fits : (x : TypedTarget) (name at low w : ℕ) (names : List Entry) (sites : List ℕ) (s : Shape) (v : View) (value : ℕ) → x ≡ t.Part name at low w →
    is_kept_target x names sites ≡ true → has_width s (entry_at names name).kind (entry_at names name).width ≡ true → value < 2 ^ (target_in x names).width →
    all_fit s ((target_in x names).writes v value) ≡ true
part_fits x name at low w names sites s v value is h e b =
    let means = part_means x name at low w names is in
    let kept = part_keeps x name at low w names sites is h in
    ap (λ (m : TargetSense). all_fit s (m.writes v value)) means
    ∙ bits_fit s (entry_at names name).kind low w (entry_at names name).width value e (has_bit w (first_of (is_width w) (nat_le (low + w) (entry_at names name).width) kept))
    (leb-true (low + w) (entry_at names name).width (second_of (is_width w) (nat_le (low + w) (entry_at names name).width) kept))
    (subst (λ (m : TargetSense). value < 2 ^ m.width) means b)

-- ---- selects

-- an index within range is less than the count
within_below : (low count j i : ℕ) (b : Bool) → (nat_le low j && nat_lt j (low + count)) ≡ b → (if b then Some (j - low) else None) ≡ Some i → i < count
within_below low count j i true test is =
    let above : low ≤ j = leb-true low j (first_of (nat_le low j) (nat_lt j (low + count)) test) in
    let below : j < low + count = ltb-true j (low + count) (second_of (nat_le low j) (nat_lt j (low + count)) test) in
    let same : j - low ≡ i = cc is in
    omega (arith, above, below, same)
within_below low count j i false test is = absurd (cc is)

index_below : (low count : ℕ) (o : Option ℕ) (i : ℕ) → within low count o ≡ Some i → i < count
index_below low count None i is = absurd (cc is)
index_below low count (Some j) i is = within_below low count j i (nat_le low j && nat_lt j (low + count)) refl is

nowhere_fits : (s : Shape) (o : Option ℕ) (value : ℕ) → all_fit s (write_bit None o value) ≡ true
nowhere_fits s None value = refl
nowhere_fits s (Some i) value = refl

bit_fits : (s : Shape) (place : Place) (width value : ℕ) (o : Option ℕ) → ((i : ℕ) → o ≡ Some i → i < width) → (place_width s place == width) ≡ true → value < 2 ^ 1 →
    all_fit s (write_bit (Some place) o value) ≡ true
bit_fits s place width value None h e b = refl
bit_fits s place width value (Some i) h e b = one_fits s place i 1 value (omega arith) (same_width _ i 1 width e (omega (arith, h i refl))) b

word_fits : (s : Shape) (n width value : ℕ) (o : Option ℕ) → (place_width s (Word n 0) == width) ≡ true → 1 ≤ width → value < 2 ^ width →
    all_fit s (write_word n width o value) ≡ true
word_fits s n width value None e h b = refl
word_fits s n width value (Some i) e h b = one_fits s (Word n i) 0 width value h (same_width _ 0 width width e (omega arith)) b

selected_fits : (s : Shape) (kind : Kind) (e : Entry) (f : View → Option ℕ) (v : View) (value : ℕ) → has_width s kind e.width ≡ true → 1 ≤ e.width →
    value < 2 ^ selected_width kind e.width → all_fit s ((selected_target kind e f).writes v value) ≡ true
selected_fits s (k.Parameter n) e f v value is h b = nowhere_fits s (within e.low e.width (f v)) value
selected_fits s k.Clock e f v value is h b = nowhere_fits s (within e.low e.width (f v)) value
selected_fits s (k.Input n) e f v value is h b = nowhere_fits s (within e.low e.width (f v)) value
selected_fits s (k.Net n) e f v value is h b = nowhere_fits s (within e.low e.width (f v)) value
selected_fits s (k.Combinational n) e f v value is h b = bit_fits s (Net n) e.width value (within e.low e.width (f v)) (λ i. index_below e.low e.width (f v) i) is b
selected_fits s (k.Variable n) e f v value is h b = bit_fits s (Variable n) e.width value (within e.low e.width (f v)) (λ i. index_below e.low e.width (f v) i) is b
selected_fits s (k.Memory n low count) e f v value is h b = word_fits s n e.width value (within low count (f v)) is h b

pub select_fits : (x : TypedTarget) (name at bits w : ℕ) (sign : Bool) (index : Typed) (names : List Entry) (sites : List ℕ) (s : Shape) (v : View) (value : ℕ) →
    x ≡ t.Select name at bits w sign index → is_kept_target x names sites ≡ true → has_width s (entry_at names name).kind (entry_at names name).width ≡ true →
    value < 2 ^ (target_in x names).width → all_fit s ((target_in x names).writes v value) ≡ true
select_fits x name at bits w sign index names sites s v value is h e b =
    let means = select_means x name at bits w sign index names is in
    let kept = select_keeps x name at bits w sign index names sites is h in
    ap (λ (m : TargetSense). all_fit s (m.writes v value)) means
    ∙ selected_fits s (entry_at names name).kind (entry_at names name) (λ u. index_in w sign (typed_value index names u)) v value e (has_bit _ kept.word)
    (subst (λ (n : ℕ). value < 2 ^ n) kept.bits_are (subst (λ (m : TargetSense). value < 2 ^ m.width) means b))

-- an index that is evaluated before selects what it selects in the view
at_view : (kind : Kind) (e : Entry) (f : View → Option ℕ) (v : View) (value : ℕ) → (selected_target kind e (λ u. f v)).writes v value ≡ (selected_target kind e f).writes v value
at_view (k.Parameter n) e f v value = refl
at_view k.Clock e f v value = refl
at_view (k.Input n) e f v value = refl
at_view (k.Net n) e f v value = refl
at_view (k.Combinational n) e f v value = refl
at_view (k.Variable n) e f v value = refl
at_view (k.Memory n low count) e f v value = refl

pub select_writes : (x : TypedTarget) (name at bits w : ℕ) (sign : Bool) (index : Typed) (names : List Entry) (v : View) (value : ℕ) (kind : Kind) (i : Option ℕ) →
    x ≡ t.Select name at bits w sign index → kind ≡ (entry_at names name).kind → i ≡ index_in w sign (typed_value index names v) →
    (selected_target kind (entry_at names name) (λ u. i)).writes v value ≡ (target_in x names).writes v value
select_writes x name at bits w sign index names v value kind i is p q =
    (λ j. (selected_target (p j) (entry_at names name) (λ (u : View). q j)).writes v value)
    ∙ at_view (entry_at names name).kind (entry_at names name) (λ u. index_in w sign (typed_value index names u)) v value
    ∙ sym (ap (λ (m : TargetSense). m.writes v value) (select_means x name at bits w sign index names is))
