-- Names, selects and numbers as leaves.
use Rattle.std.proofs.Common.{◌≡◌, ap, sym, ◌∙◌, refl, ℕ, zero, suc, ◌+◌, ◌*◌, List, Bool, false, ◌-◌, arith}
use Rattle.std.specs.Prelude.{◌/◌, ◌%◌, ◌^◌, ◌&&◌, if◌then◌else◌, slice_get, slice_index}
use Rattle.std.proofs.Math.Path.{fun_ext}
use Rattle.v_meaning.specs.Views.{View}
use Rattle.v_meaning.specs.declared.literal.Literal.{Literal}
use Rattle.v_meaning.specs.Literals.{literal_value, spread}
use Rattle.v_meaning.specs.Senses.{Sense, own, leaf, index_of}
use Rattle.v_meaning.specs.declared.names.Kind.{Kind}
use Rattle.v_meaning.specs.declared.names.Kind.TheVariants.{Parameter, Clock, Input, Net, Combinational, Variable, Memory}
use Rattle.v_meaning.specs.declared.names.Entry.{Entry}
use Rattle.v_meaning.specs.Names.{entry_or, word_of, read, read_part, read_selected, selected, span}
use Rattle.v_meaning.specs.Expressions.{open_at, number_of_place}
use Rattle.v_core.specs.declared.typed.Typed.{Typed}
use Rattle.v_core.specs.declared.open.Open.{Open}
use Rattle.v_core.specs.Values.{Value, typed_value, entry_at, index_in, selected_value}
use Rattle.v_core.specs.Bodies.{sense_in}
use Rattle.v_typing.specs.Meanings.{is_memory}
use Rattle.v_typing.proofs.OperatorLaws.{Meaning}

pub name_is : (names : List Entry) (e : Entry) (o : Open) (t : Typed) (n w : ℕ) (s : Bool) →
    sense_in o ≡ (λ names. leaf w s (typed_value t names)) → typed_value t ≡ (λ names v. word_of (entry_at names n).kind v) →
    entry_or (slice_get names n) ≡ e → w ≡ e.width → s ≡ e.signed → sense_in o names ≡ read e
name_is names e o t n w s is p q width sign =
    ap (λ (f : Meaning). f names) is ∙ ap (λ (f : Value). leaf w s (f names)) p ∙ ap (λ (x : Entry). leaf w s (λ v. word_of x.kind v)) q
    ∙ ap (λ (u : ℕ). leaf u s (λ v. word_of e.kind v)) width ∙ ap (λ (b : Bool). leaf e.width b (λ v. word_of e.kind v)) sign

-- a select as one leaf, whatever is selected from
select_leaf : (kind : Kind) (e : Entry) (index : Sense) (free : View → ℕ) →
    leaf (if is_memory kind then e.width else 1) (is_memory kind && e.signed) (λ v. selected_value kind e (index_of index v) (free v) v) ≡ read_selected kind e index free
select_leaf (Parameter value) e index free = refl
select_leaf Clock e index free = refl
select_leaf (Input k) e index free = refl
select_leaf (Net k) e index free = refl
select_leaf (Combinational k) e index free = refl
select_leaf (Variable k) e index free = refl
select_leaf (Memory k low count) e index free = refl

-- the value of a select at an index of this width and sign
abbrev pub select_value : ℕ → ℕ → Bool → Value → ℕ → List Entry → View → ℕ
select_value n w s index site names v =
    selected_value (entry_at names n).kind (entry_at names n) (index_in w s (index names v)) (slice_index v.sites site) v

pub selected_is : (names : List Entry) (sites : List ℕ) (at : ℕ) (e : Entry) (index o : Open) (t x : Typed) (n site w kw : ℕ) (s ks : Bool) (kind : Kind) →
    sense_in o ≡ (λ names. leaf w s (typed_value t names)) → typed_value t ≡ select_value n index.width index.signed (typed_value x) site →
    typed_value x ≡ (λ names. own (sense_in index names)) → entry_or (slice_get names n) ≡ e → site ≡ number_of_place sites at →
    w ≡ (if is_memory kind then kw else 1) → s ≡ (is_memory kind && ks) → kind ≡ e.kind → kw ≡ e.width → ks ≡ e.signed →
    sense_in o names ≡ selected e (sense_in index names) (open_at sites at)
selected_is names sites at e index o t x n site w kw s ks kind is p q entry place width sign of_kind of_width of_sign =
    ap (λ (f : Meaning). f names) is
    ∙ ap (λ (f : Value). leaf w s (f names)) (p ∙ ap (λ (f : Value). select_value n index.width index.signed f site) q)
    ∙ ap (λ (f : Entry). leaf w s (λ v. selected_value f.kind f (index_of (sense_in index names) v) (slice_index v.sites site) v)) entry
    ∙ ap (λ (k : ℕ). leaf w s (λ v. selected_value e.kind e (index_of (sense_in index names) v) (slice_index v.sites k) v)) place
    ∙ ap (λ (u : ℕ). leaf u s (λ v. selected_value e.kind e (index_of (sense_in index names) v) (open_at sites at v) v))
    (width ∙ ap (λ (k : Kind). if is_memory k then kw else 1) of_kind ∙ ap (λ (u : ℕ). if is_memory e.kind then u else 1) of_width)
    ∙ ap (λ (b : Bool). leaf (if is_memory e.kind then e.width else 1) b (λ v. selected_value e.kind e (index_of (sense_in index names) v) (open_at sites at v) v))
    (sign ∙ ap (λ (k : Kind). is_memory k && ks) of_kind ∙ ap (λ (b : Bool). is_memory e.kind && b) of_sign)
    ∙ select_leaf e.kind e (sense_in index names) (open_at sites at)

-- ---- numbers

no_bits : (width bits : ℕ) → spread width 0 bits ≡ 0
no_bits zero bits = refl
no_bits (suc width) bits = ap (λ n. 2 * n) (no_bits width bits)

pub plain : (l : Literal) (free : View → ℕ) (t : Typed) → typed_value t ≡ (λ names v. l.ones) → l.unknown ≡ 0 → typed_value t ≡ (λ names v. literal_value l (free v))
plain l free t p h =
    p
    ∙ sym (fun_ext (λ names. fun_ext (λ v.
    ap (λ mask. l.ones + spread l.width mask (free v)) h ∙ ap (λ n. l.ones + n) (no_bits l.width (free v)) ∙ (let e : l.ones + 0 ≡ l.ones = omega arith in e))))

pub open_is : (l : Literal) (sites : List ℕ) (at site : ℕ) (t : Typed) → typed_value t ≡ (λ names v. literal_value l (slice_index v.sites site)) → site ≡ number_of_place sites at →
    typed_value t ≡ (λ names v. literal_value l (open_at sites at v))
open_is l sites at site t p place = p ∙ ap {B = Value} (λ (k : ℕ) (names : List Entry) (v : View). literal_value l (slice_index v.sites k)) place

-- ---- parts

pub part_is : (names : List Entry) (e : Entry) (o : Open) (t : Typed) (n w low msb lsb : ℕ) →
    sense_in o ≡ (λ names. leaf w false (typed_value t names)) → typed_value t ≡ (λ names v. word_of (entry_at names n).kind v / 2 ^ low % 2 ^ w) →
    entry_or (slice_get names n) ≡ e → w ≡ span msb lsb → low ≡ lsb - e.low → sense_in o names ≡ read_part e msb lsb
part_is names e o t n w low msb lsb is p q width offset =
    ap (λ (f : Meaning). f names) is ∙ ap (λ (f : Value). leaf w false (f names)) p ∙ ap (λ (x : Entry). leaf w false (λ v. word_of x.kind v / 2 ^ low % 2 ^ w)) q
    ∙ ap (λ (u : ℕ). leaf u false (λ v. word_of e.kind v / 2 ^ low % 2 ^ u)) width
    ∙ ap (λ (k : ℕ). leaf (span msb lsb) false (λ v. word_of e.kind v / 2 ^ k % 2 ^ span msb lsb)) offset
