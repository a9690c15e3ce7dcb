-- How open expressions keep to their widths, where their operands do.
use Rattle.std.proofs.Common.{◌≡◌, ◌≤◌, ◌<◌, ◌+◌, ◌*◌, ap, sym, subst, ◌∙◌, refl, ℕ, zero, suc, List, [], ◌∷◌, ◌++◌, Bool, true, false, max, arith}
use Rattle.std.specs.Prelude.{◌&&◌, ◌==◌, ◌-◌, ◌^◌, nat_le, nat_lt, if◌then◌else◌}
use Rattle.std.proofs.lemmas.Bool.{leb-true, leb-false, le-leb, lt-ltb, eqb-true, eq-eqb}
use Rattle.v_syntax.specs.declared.expr.UnaryOperator.{UnaryOperator}
use Rattle.v_syntax.specs.declared.expr.BinaryOperator.{BinaryOperator}
use Rattle.v_meaning.specs.Senses.{Sense, leaf, Class, Shared, Compared, Shifted, Logical, class_of, is_through}
use Rattle.v_meaning.specs.Names.{span}
use Rattle.v_meaning.specs.declared.literal.Literal.{Literal}
use Rattle.v_meaning.specs.declared.names.Kind.{Kind}
use Rattle.v_meaning.specs.declared.names.Kind.TheVariants.{Parameter, Clock, Input, Net, Combinational, Variable, Memory}
use Rattle.v_numbers.specs.Fit.{IsFit}
use Rattle.v_meaning.specs.declared.names.Entry.{Entry}
use Rattle.v_core.specs.declared.typed.Link.{Link}
use Rattle.v_core.specs.declared.typed.Typed.{Typed}
use Rattle.v_core.specs.declared.open.Open.{Open}
use Rattle.v_core.specs.declared.open.Body.{Body}
use Rattle.v_core.specs.declared.open.Body.TheVariants as e
use Rattle.v_core.specs.declared.open.Body.TheOpen as o
use Rattle.v_core.specs.declared.open.Body.TheFolds.{fold-roll-Body}
use Rattle.v_core.specs.Values.{entry_at, typed_value}
use Rattle.v_core.specs.Bodies.{sense_in}
use Rattle.v_core.specs.Formed.{Formed, FormedIn, formed, formed_parts, has, has_at_most, is_width, keeps_literal, linked_by, part_forms, selected_width, within_words}
use Rattle.v_core.specs.OpenForms.{FixedForm, Keeps, OpenFormed, body_form, body_form_step, chosen_form, extended_form, linked_form, prefixed_form}
use Rattle.v_typing.specs.Meanings.{is_memory}
use Rattle.v_typing.proofs.SoundLaws.{first_of, second_of}

pub both : {a b : Bool} → a ≡ true → b ≡ true → (a && b) ≡ true
both p q = λ i. p i && q i

pub is_word : (w : ℕ) → 1 ≤ w → w ≤ 128 → is_width w ≡ true
is_word w p q = both (le-leb 1 w p) (le-leb w 128 q)

pub has_bit : (w : ℕ) → is_width w ≡ true → 1 ≤ w
has_bit w h = leb-true 1 w (first_of (nat_le 1 w) (nat_le w 128) h)

pub few : (w : ℕ) → is_width w ≡ true → w ≤ 128
few w h = leb-true w 128 (second_of (nat_le 1 w) (nat_le w 128) h)

pub width_of : (w : ℕ) (x : Formed) → has w x ≡ true → x.width ≡ w
width_of w x h = eqb-true x.width w (first_of (x.width == w) x.kept h)

pub kept_of : (w : ℕ) (x : Formed) → has w x ≡ true → x.kept ≡ true
kept_of w x h = second_of (x.width == w) x.kept h

pub has_of : (w : ℕ) (x : Formed) → x.width ≡ w → x.kept ≡ true → has w x ≡ true
has_of w x p q = both (eq-eqb x.width w p) q

-- of as many bits as are said
itself : (w : ℕ) {kept : Bool} → kept ≡ true → has w (record { width = w; kept = kept }) ≡ true
itself w p = both (eq-eqb w w refl) p

at_most : (w : ℕ) (x : Formed) → has w x ≡ true → has_at_most w x ≡ true
at_most w x h = both (le-leb x.width w (omega (arith, width_of w x h))) (kept_of w x h)

-- ---- by final widths

leaf_keeps : (width : ℕ) (x : Formed) → is_width width ≡ true → has width x ≡ true → Keeps width (λ w s. extended_form width x w)
leaf_keeps width x word h = record { word = word; at = λ w s above top. by_test w above top (nat_le w width) refl }
  where
    by_test : (w : ℕ) → width ≤ w → w ≤ 128 → (b : Bool) → nat_le w width ≡ b →
        has w (if b then x else record { width = w; kept = nat_lt width w && is_width w && has width x }) ≡ true
    by_test w above top true p = has_of w x (omega (arith, width_of width x h, above, leb-true w width p)) (kept_of width x h)
    by_test w above top false p =
        itself w (both (both (lt-ltb width w (leb-false w width p)) (is_word w (omega (arith, has_bit width word, above)) top)) h)

wide : (a b : ℕ) → is_width a ≡ true → is_width b ≡ true → is_width (max a b) ≡ true
wide a b p q = is_word (max a b) (omega (arith, has_bit a p)) (omega (arith, few a p, few b q))

-- an operator between operands at a final width and sign
abbrev pub between : BinaryOperator → (ℕ → Bool → Formed) → (ℕ → Bool → Formed) → ℕ → Bool → Formed
between op f g w s = linked_form (record { operator = op; width = w; signed = s }) (f w s) (g w s)

shared_keeps : (op : BinaryOperator) (a b : ℕ) (f g : ℕ → Bool → Formed) → class_of op ≡ Shared → Keeps a f → Keeps b g → Keeps (max a b) (between op f g)
shared_keeps op a b f g is p q = record {
  word = wide a b p.word q.word;
  at = λ w s above top.
      ap (λ (c : Class). has w (linked_by c (record { operator = op; width = w; signed = s }) (f w s) (g w s))) is
      ∙ itself w (both (both (is_word w (omega (arith, has_bit a p.word, above)) top) (at_most w (f w s) (p.at w s (omega (arith, above)) top))) (q.at w s (omega (arith, above)) top));
}

shifted_keeps : (op : BinaryOperator) (a : ℕ) (f g : ℕ → Bool → Formed) → class_of op ≡ Shifted → Keeps a f → ((w : ℕ) (s : Bool) → (g w s).kept ≡ true) → Keeps a (between op f g)
shifted_keeps op a f g is p q = record {
  word = p.word;
  at = λ w s above top.
      ap (λ (c : Class). has w (linked_by c (record { operator = op; width = w; signed = s }) (f w s) (g w s))) is
      ∙ itself w (both (both (is_word w (omega (arith, has_bit a p.word, above)) top) (at_most w (f w s) (p.at w s above top))) (q w s));
}

chosen_keeps : (a b : ℕ) (c : Formed) (f g : ℕ → Bool → Formed) → c.kept ≡ true → Keeps a f → Keeps b g → Keeps (max a b) (λ w s. chosen_form w c (f w s) (g w s))
chosen_keeps a b c f g h p q = record {
  word = wide a b p.word q.word;
  at = λ w s above top. itself w (both (both h (p.at w s (omega (arith, above)) top)) (q.at w s (omega (arith, above)) top));
}

through_keeps : (op : UnaryOperator) (a : ℕ) (f : ℕ → Bool → Formed) → is_through op ≡ true → Keeps a f → Keeps a (λ w s. prefixed_form op w (f w s))
through_keeps op a f h p = record {
  word = p.word;
  at = λ w s above top.
      ap (λ (b : Bool). has w (record { width = if b then w else 1; kept = has w (f w s) })) h ∙ itself w (p.at w s above top);
}

-- ---- of open expressions

pub leaf_formed : (width : ℕ) (x : Typed) (names : List Entry) → is_width width ≡ true → has width (formed x names) ≡ true →
    Keeps width (λ w s. body_form (e.Leaf width x) w s names)
leaf_formed width x names word h =
    subst (λ (f : FixedForm). Keeps width (λ w s. f w s names))
    (sym (ap body_form (sym (e.rolls-Leaf width x)) ∙ fold-roll-Body FixedForm body_form_step (o.Leaf width x)))
    (leaf_keeps width (formed x names) word h)

-- at its own width
pub own_formed : (x : Open) (t : Typed) (names : List Entry) → formed t ≡ body_form x.body x.width x.signed → OpenFormed x names → has x.width (formed t names) ≡ true
own_formed x t names p h = ap (λ (f : FormedIn). has x.width (f names)) p ∙ h.at x.width x.signed (omega arith) (few x.width h.word)

pub shared_formed : (op : BinaryOperator) (x y : Open) (b : Body) (w : ℕ) (names : List Entry) →
    body_form b ≡ (λ w s names. linked_form (record { operator = op; width = w; signed = s }) (body_form x.body w s names) (body_form y.body w s names)) →
    w ≡ max x.width y.width → class_of op ≡ Shared → OpenFormed x names → OpenFormed y names → Keeps w (λ w s. body_form b w s names)
shared_formed op x y b w names p width is h k =
    subst (λ (u : ℕ). Keeps u (λ w s. body_form b w s names)) (sym width)
    (subst (λ (f : FixedForm). Keeps (max x.width y.width) (λ w s. f w s names)) (sym p)
    (shared_keeps op x.width y.width (λ w s. body_form x.body w s names) (λ w s. body_form y.body w s names) is h k))

pub shifted_formed : (op : BinaryOperator) (x y : Open) (b own : Body) (t : Typed) (names : List Entry) →
    body_form b ≡ (λ w s names. linked_form (record { operator = op; width = w; signed = s }) (body_form x.body w s names) (body_form own w s names)) →
    body_form own ≡ (λ width signed. formed t) → (OpenFormed y names → has y.width (formed t names) ≡ true) →
    class_of op ≡ Shifted → OpenFormed x names → OpenFormed y names → Keeps x.width (λ w s. body_form b w s names)
shifted_formed op x y b own t names p q r is h k =
    subst (λ (f : FixedForm). Keeps x.width (λ w s. f w s names)) (sym p)
    (shifted_keeps op x.width (λ w s. body_form x.body w s names) (λ w s. body_form own w s names) is h
    (λ w s. ap (λ (f : FixedForm). (f w s names).kept) q ∙ kept_of y.width (formed t names) (r k)))

pub compared_has : (op : BinaryOperator) (x y : Open) (w : ℕ) (s : Bool) (t left right : Typed) (names : List Entry) →
    formed t ≡ (λ names. linked_form (record { operator = op; width = w; signed = s }) (formed left names) (formed right names)) →
    (has w (body_form x.body w s names) ≡ true → has_at_most w (formed left names) ≡ true) → formed right ≡ body_form y.body w s → w ≡ max x.width y.width →
    class_of op ≡ Compared → OpenFormed x names → OpenFormed y names → has 1 (formed t names) ≡ true
compared_has op x y w s t left right names p l r width is h k =
    let word : is_width w ≡ true = ap is_width width ∙ wide x.width y.width h.word k.word in
    ap (λ (f : FormedIn). has 1 (f names)) p
    ∙ ap (λ (c : Class). has 1 (linked_by c (record { operator = op; width = w; signed = s }) (formed left names) (formed right names))) is
    ∙ both (both word (l (h.at w s (omega (arith, width)) (few w word)))) (ap (λ (f : FormedIn). has w (f names)) r ∙ k.at w s (omega (arith, width)) (few w word))

pub logical_has : (op : BinaryOperator) (x y : Open) (t left right : Typed) (names : List Entry) →
    formed t ≡ (λ names. linked_form (record { operator = op; width = 1; signed = false }) (formed left names) (formed right names)) →
    (has x.width (body_form x.body x.width x.signed names) ≡ true → has_at_most x.width (formed left names) ≡ true) →
    (OpenFormed y names → has y.width (formed right names) ≡ true) →
    class_of op ≡ Logical → OpenFormed x names → OpenFormed y names → has 1 (formed t names) ≡ true
logical_has op x y t left right names p l r is h k =
    ap (λ (f : FormedIn). has 1 (f names)) p
    ∙ ap (λ (c : Class). has 1 (linked_by c (record { operator = op; width = 1; signed = false }) (formed left names) (formed right names))) is
    ∙ both (second_of (nat_le (formed left names).width x.width) (formed left names).kept (l (h.at x.width x.signed (omega arith) (few x.width h.word))))
    (kept_of y.width (formed right names) (r k))

pub chosen_formed : (x y c : Open) (t : Typed) (a b : Body) (w : ℕ) (names : List Entry) → w ≡ max x.width y.width → (OpenFormed c names → has c.width (formed t names) ≡ true) → a ≡ x.body → b ≡ y.body →
    OpenFormed c names → OpenFormed x names → OpenFormed y names → Keeps w (λ w s. body_form (e.Choice t a b) w s names)
chosen_formed x y c t a b w names width q p r j h k =
    subst (λ (u : ℕ). Keeps u (λ w s. body_form (e.Choice t a b) w s names)) (sym width)
    (subst (λ (f : FixedForm). Keeps (max x.width y.width) (λ w s. f w s names))
    (sym
    (ap body_form ((λ i. e.Choice t (p i) (r i)) ∙ sym (e.rolls-Choice t x.body y.body)) ∙ fold-roll-Body FixedForm body_form_step (o.Choice t x.body y.body)))
    (chosen_keeps x.width y.width (formed t names) (λ w s. body_form x.body w s names) (λ w s. body_form y.body w s names) (kept_of c.width (formed t names) (q j)) h k))

pub through_formed : (op : UnaryOperator) (x : Open) (a : Body) (names : List Entry) → a ≡ x.body → is_through op ≡ true →
    OpenFormed x names → Keeps x.width (λ w s. body_form (e.Unary op a) w s names)
through_formed op x a names p is h =
    subst (λ (f : FixedForm). Keeps x.width (λ w s. f w s names))
    (sym (ap body_form (ap (e.Unary op) p ∙ sym (e.rolls-Unary op x.body)) ∙ fold-roll-Body FixedForm body_form_step (o.Unary op x.body)))
    (through_keeps op x.width (λ w s. body_form x.body w s names) is h)

pub prefixed_has : (op : UnaryOperator) (x : Open) (t operand : Typed) (names : List Entry) → formed t ≡ (λ names. prefixed_form op x.width (formed operand names)) →
    (OpenFormed x names → has x.width (formed operand names) ≡ true) → is_through op ≡ false → OpenFormed x names → has 1 (formed t names) ≡ true
prefixed_has op x t operand names p q is h =
    ap (λ (f : FormedIn). has 1 (f names)) p ∙ ap (λ (b : Bool). has 1 (record { width = if b then x.width else 1; kept = has x.width (formed operand names) })) is ∙ q h

pub copied_has : (n : ℕ) (x : Open) (t operand : Typed) (names : List Entry) →
    formed t ≡ (λ names. within_words (record { width = n * x.width; kept = has x.width (formed operand names) })) →
    (OpenFormed x names → has x.width (formed operand names) ≡ true) → is_width (n * x.width) ≡ true → OpenFormed x names → has (n * x.width) (formed t names) ≡ true
copied_has n x t operand names p q word h = ap (λ (f : FormedIn). has (n * x.width) (f names)) p ∙ itself (n * x.width) (both word (q h))

pub copies_word : (n width : ℕ) → 1 ≤ n → n * width ≤ 128 → is_width width ≡ true → is_width (n * width) ≡ true
copies_word n width some fit h = is_word (n * width) (nonzero n some) fit
  where
    nonzero : (n : ℕ) → 1 ≤ n → 1 ≤ n * width
    nonzero zero p = absurd (omega (arith, p))
    nonzero (suc n) p = omega (arith, has_bit width h)

-- ---- names, selects, parts and numbers

pub name_has : (names : List Entry) (e : Entry) (t : Typed) (n w : ℕ) →
    formed t ≡ (λ names. record { width = (entry_at names n).width; kept = is_width (entry_at names n).width }) → entry_at names n ≡ e → w ≡ e.width → is_width w ≡ true →
    has w (formed t names) ≡ true
name_has names e t n w p q width word =
    let same : (entry_at names n).width ≡ w = ap (λ (f : Entry). f.width) q ∙ sym width in
    ap (λ (f : FormedIn). has w (f names)) p ∙ both (eq-eqb (entry_at names n).width w same) (ap is_width same ∙ word)

-- a word of a memory or a bit, as the code and the definition have it
pub selected_bits : (kind : Kind) (w : ℕ) → (if is_memory kind then w else 1) ≡ selected_width kind w
selected_bits (Parameter value) w = refl
selected_bits Clock w = refl
selected_bits (Input k) w = refl
selected_bits (Net k) w = refl
selected_bits (Combinational k) w = refl
selected_bits (Variable k) w = refl
selected_bits (Memory k low count) w = refl

pub selected_word : (kind : Kind) (w : ℕ) → is_width w ≡ true → is_width (selected_width kind w) ≡ true
selected_word (Parameter value) w h = refl
selected_word Clock w h = refl
selected_word (Input k) w h = refl
selected_word (Net k) w h = refl
selected_word (Combinational k) w h = refl
selected_word (Variable k) w h = refl
selected_word (Memory k low count) w h = h

pub select_bits : (e : Entry) (kind : Kind) (w kw : ℕ) → w ≡ (if is_memory kind then kw else 1) → kind ≡ e.kind → kw ≡ e.width → w ≡ selected_width e.kind e.width
select_bits e kind w kw p q r = p ∙ (λ i. if is_memory (q i) then r i else 1) ∙ selected_bits e.kind e.width

pub select_has : (names : List Entry) (e : Entry) (index : Open) (t x : Typed) (n w kw : ℕ) →
    formed t ≡ (λ names. record {
      width = selected_width (entry_at names n).kind (entry_at names n).width;
      kept = is_width (entry_at names n).width && has index.width (formed x names);
    }) →
    has index.width (formed x names) ≡ true → entry_at names n ≡ e → w ≡ selected_width e.kind e.width → kw ≡ e.width → is_width kw ≡ true → has w (formed t names) ≡ true
select_has names e index t x n w kw p h q width of word =
    ap (λ (f : FormedIn). has w (f names)) p
    ∙ both (eq-eqb _ w (ap (λ (f : Entry). selected_width f.kind f.width) q ∙ sym width))
    (both (ap is_width (ap (λ (f : Entry). f.width) q ∙ sym of) ∙ word) h)

pub part_has : (names : List Entry) (e : Entry) (t : Typed) (n w low : ℕ) →
    formed t ≡ (λ names. record { width = w; kept = is_width w && nat_le (low + w) (entry_at names n).width }) → entry_at names n ≡ e → is_width w ≡ true → low + w ≤ e.width →
    has w (formed t names) ≡ true
part_has names e t n w low p q word fit =
    ap (λ (f : FormedIn). has w (f names)) p ∙ ap (λ (f : Entry). has w (record { width = w; kept = is_width w && nat_le (low + w) f.width })) q
    ∙ itself w (both word (le-leb (low + w) e.width fit))

pub number_is_word : (l : Literal) → IsFit l → is_width l.width ≡ true
number_is_word l h = is_word l.width h.has_bit h.within

pub plain_has : (l : Literal) (t : Typed) (names : List Entry) → formed t ≡ (λ names. record { width = l.width; kept = is_width l.width && nat_lt l.ones (2 ^ l.width) }) → IsFit l →
    has l.width (formed t names) ≡ true
plain_has l t names p h =
    ap (λ (f : FormedIn). has l.width (f names)) p ∙ itself l.width (both (number_is_word l h) (lt-ltb l.ones (2 ^ l.width) (omega (arith, h.together))))

pub open_has : (l : Literal) (t : Typed) (names : List Entry) → formed t ≡ (λ names. record { width = l.width; kept = keeps_literal l }) → IsFit l → has l.width (formed t names) ≡ true
open_has l t names p h =
    ap (λ (f : FormedIn). has l.width (f names)) p ∙ itself l.width (both (number_is_word l h) (lt-ltb (l.ones + l.unknown + l.impedance) (2 ^ l.width) h.together))

-- ---- operands side by side

-- one more keeps to its own width
pub has_push : (typed : List (ℕ × Typed)) (p : ℕ × Typed) (names : List Entry) (w : ℕ) → has w (formed_parts (part_forms typed) names) ≡ true → has p.0 (formed p.1 names) ≡ true →
    has (w + p.0) (formed_parts (part_forms (typed ++ p ∷ [])) names) ≡ true
has_push typed p names w h k =
    has_of (w + p.0) _ (sum typed ∙ ap (λ (n : ℕ). n + p.0) (width_of w _ h)) (all typed (kept_of w _ h))
  where
    sum : (typed : List (ℕ × Typed)) → (formed_parts (part_forms (typed ++ p ∷ [])) names).width ≡ (formed_parts (part_forms typed) names).width + p.0
    sum [] = omega arith
    sum (x ∷ xs) = let more = sum xs in omega (arith, more)

    all : (typed : List (ℕ × Typed)) → (formed_parts (part_forms typed) names).kept ≡ true → (formed_parts (part_forms (typed ++ p ∷ [])) names).kept ≡ true
    all [] q = both k refl
    all (x ∷ xs) q =
        both (first_of (has x.0 (formed x.1 names)) (formed_parts (part_forms xs) names).kept q) (all xs (second_of (has x.0 (formed x.1 names)) (formed_parts (part_forms xs) names).kept q))

pub next_has : (names : List Entry) (typed more : List (ℕ × Typed)) (t : Typed) (o : Open) (w : ℕ) → more ≡ typed ++ (o.width, t) ∷ [] → OpenFormed o names →
    (OpenFormed o names → has o.width (formed t names) ≡ true) → has w (formed_parts (part_forms typed) names) ≡ true → has (w + o.width) (formed_parts (part_forms more) names) ≡ true
next_has names typed more t o w p h own before =
    ap (λ (r : List (ℕ × Typed)). has (w + o.width) (formed_parts (part_forms r) names)) p ∙ has_push typed (o.width, t) names w before (own h)

pub concat_has : (names : List Entry) (typed : List (ℕ × Typed)) (t : Typed) (w : ℕ) → formed t ≡ (λ names. within_words (formed_parts (part_forms typed) names)) →
    is_width w ≡ true → has w (formed_parts (part_forms typed) names) ≡ true → has w (formed t names) ≡ true
concat_has names typed t w p word h =
    let width = width_of w (formed_parts (part_forms typed) names) h in
    ap (λ (f : FormedIn). has w (f names)) p
    ∙ both (eq-eqb _ w width) (both (ap is_width width ∙ word) (kept_of w (formed_parts (part_forms typed) names) h))

pub joined_word : (names : List Entry) (o : Open) (t : Typed) (w : ℕ) (whole : Sense) → sense_in o ≡ (λ names. leaf w false (typed_value t names)) → sense_in o names ≡ whole →
    nat_le whole.width 128 ≡ true → 1 ≤ o.width → is_width w ≡ true
joined_word names o t w whole is done fit some =
    let same : o.width ≡ w = ap (λ (f : List Entry → Sense). (f names).width) is in
    let all : o.width ≡ whole.width = ap (λ (s : Sense). s.width) done in
    is_word w (omega (arith, same, some)) (omega (arith, same, all, leb-true whole.width 128 fit))

pub select_is_word : (e : Entry) (w kw : ℕ) → w ≡ selected_width e.kind e.width → kw ≡ e.width → is_width kw ≡ true → is_width w ≡ true
select_is_word e w kw p q h = ap is_width p ∙ selected_word e.kind e.width (ap is_width (sym q) ∙ h)

pub part_fits : (e : Entry) (i j low w kw : ℕ) → w ≡ span i j → low ≡ j - e.low → kw ≡ e.width → kw ≤ 128 → e.low ≤ j → j ≤ i → i < e.low + e.width →
    (is_width w ≡ true) × (low + w ≤ e.width)
part_fits e i j low w kw p q width few above descends within =
    (is_word w (omega (arith, p, descends)) (omega (arith, p, width, few, above, within)), omega (arith, p, q, above, descends, within))
