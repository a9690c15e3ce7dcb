-- Of all nets an expression looks only at those that it reads.
use Rattle.std.proofs.Common.{◌≡◌, ℕ, List, [], ◌∷◌, ◌++◌, map, flat_map, get_or, Bool, true, false, refl, sym, ap, subst, ◌∙◌, inl, inr, ◌⊎◌}
use Rattle.std.specs.Prelude.{⊤, ◌==◌, ◌-◌, ◌/◌, ◌%◌, ◌^◌, slice_index}
use Rattle.std.proofs.lemmas.Bool.{eq-eqb, or_cases, or_left, or_right}
use Rattle.v_syntax.specs.declared.expr.Expr.{Expr}
use Rattle.v_syntax.specs.declared.expr.Expr.TheOpen.{Expr-F}
use Rattle.v_syntax.specs.declared.expr.Expr.TheOpen as o
use Rattle.v_syntax.specs.declared.expr.Expr.TheFolds.{map-Expr, fold-roll-Expr, para-roll-Expr, ind-Expr}
use Rattle.v_syntax.specs.declared.expr.UnaryOperator.{UnaryOperator}
use Rattle.v_syntax.specs.declared.expr.BinaryOperator.{BinaryOperator}
use Rattle.v_meaning.specs.Views.{Store, View}
use Rattle.v_meaning.specs.Senses.{Sense, Class, Shared, Compared, Shifted, Logical, class_of, by_class, operated, chained, is_through, through, prefixed, chosen, beside, joined_behind, leaf, replicated, constant, recast, index_of, assigned}
use Rattle.v_meaning.specs.declared.names.Kind.{Kind}
use Rattle.v_meaning.specs.declared.names.Kind.TheVariants.{Parameter, Clock, Input, Net, Combinational, Variable, Memory}
use Rattle.v_meaning.specs.declared.names.Entry.{Entry}
use Rattle.v_meaning.specs.Names.{entry_of, word_of, words_of, within, at_index, span, read_selected, or_zero}
use Rattle.v_meaning.specs.Literals.{literal_of, literal_value}
use Rattle.v_meaning.specs.Expressions.{number_of_place, open_at, sense_step, sense_of}
use Rattle.v_meaning.specs.Uses.{Access, Read, Write, Reading, read_step, reads_of}
use Rattle.v_meaning.specs.ProcessRules.{reads_in}
use Rattle.v_depends.specs.Nodes.{is_in}
use Rattle.v_order.specs.Reads.{nets_of_kind, nets_among, nets_read}
use Rattle.v_order.specs.Settling.{AgreeOn, LooksOnlyAt}
use Rattle.v_order.proofs.Settled.{Each}

-- ---- lists

pub each_left : {A : Type 0} (P : A → Type 0) (xs ys : List A) → Each P (xs ++ ys) → Each P xs
each_left P [] ys h = tt
each_left P (x ∷ xs) ys h = (h.0, each_left P xs ys h.1)

pub each_right : {A : Type 0} (P : A → Type 0) (xs ys : List A) → Each P (xs ++ ys) → Each P ys
each_right P [] ys h = h
each_right P (x ∷ xs) ys h = each_right P xs ys h.1

pub in_left : (n : ℕ) (xs ys : List ℕ) → is_in n xs ≡ true → is_in n (xs ++ ys) ≡ true
in_left n [] ys h = absurd (cc h)
in_left n (x ∷ xs) ys h = elim (or_cases (x == n) (is_in n xs) h) [
  | inl same ↦ or_left (x == n) (is_in n (xs ++ ys)) same
  | inr there ↦ or_right (x == n) (is_in n (xs ++ ys)) (in_left n xs ys there)
]

pub in_right : (n : ℕ) (xs ys : List ℕ) → is_in n ys ≡ true → is_in n (xs ++ ys) ≡ true
in_right n [] ys h = h
in_right n (x ∷ xs) ys h = or_right (x == n) (is_in n (xs ++ ys)) (in_right n xs ys h)

pub in_cases : (n : ℕ) (xs ys : List ℕ) → is_in n (xs ++ ys) ≡ true → (is_in n xs ≡ true) ⊎ (is_in n ys ≡ true)
in_cases n [] ys h = inr h
in_cases n (x ∷ xs) ys h = elim (or_cases (x == n) (is_in n (xs ++ ys)) h) [
  | inl same ↦ inl (or_left (x == n) (is_in n xs) same)
  | inr there ↦ (elim (in_cases n xs ys there) [
    | inl front ↦ inl (or_right (x == n) (is_in n xs) front)
    | inr behind ↦ inr behind
  ])
]

-- ---- a meaning in one view

-- what a meaning is in this view, whatever else is looked at
abbrev pub seen : View → Sense → Sense
seen v x = record { width = x.width; signed = x.signed; at = λ w s u. x.at w s v }

seen_through : (v : View) (b : Bool) (op : UnaryOperator) (x : Sense) → seen v (through b op x) ≡ through b op (seen v x)
seen_through v true op x = refl
seen_through v false op x = refl

seen_by_class : (v : View) (c : Class) (op : BinaryOperator) (x y : Sense) → seen v (by_class c op x y) ≡ by_class c op (seen v x) (seen v y)
seen_by_class v Shared op x y = refl
seen_by_class v Compared op x y = refl
seen_by_class v Shifted op x y = refl
seen_by_class v Logical op x y = refl

-- what a kind of name has is the same in two views
abbrev pub IsSame : View → View → Kind → Type 0
IsSame v w (Memory k low count) = words_of k v ≡ words_of k w
IsSame v w kind = word_of kind v ≡ word_of kind w

same_word : (v w : View) (kind : Kind) → IsSame v w kind → word_of kind v ≡ word_of kind w
same_word v w (Parameter value) h = h
same_word v w Clock h = h
same_word v w (Input k) h = h
same_word v w (Net k) h = h
same_word v w (Combinational k) h = h
same_word v w (Variable k) h = h
same_word v w (Memory k low count) h = refl

-- a name that is read has the same in two views
abbrev pub ReadsSame : View → View → List Entry → Access → Type 0
ReadsSame v w names (Read n bits) = IsSame v w (entry_of names n.name).kind
ReadsSame v w names (Write n kind bits) = ⊤

-- ---- two views with the same sites

module _ (v w : View) (places : v.sites ≡ w.sites) where
  abbrev Same : Sense → Type 0
  Same x = seen v x ≡ seen w x

  same_operated : (op : BinaryOperator) (x y : Sense) → Same x → Same y → Same (operated op x y)
  same_operated op x y p q = seen_by_class v (class_of op) op x y ∙ (λ i. operated op (p i) (q i)) ∙ sym (seen_by_class w (class_of op) op x y)

  same_prefixed : (op : UnaryOperator) (x : Sense) → Same x → Same (prefixed op x)
  same_prefixed op x p = seen_through v (is_through op) op x ∙ ap (prefixed op) p ∙ sym (seen_through w (is_through op) op x)

  same_leaf : (width : ℕ) (signed : Bool) (f : View → ℕ) → f v ≡ f w → Same (leaf width signed f)
  same_leaf width signed f h = λ i. leaf width signed (λ u. h i)

  open_same : (sites : List ℕ) (at : ℕ) → open_at sites at v ≡ open_at sites at w
  open_same sites at = ap (λ (words : List ℕ). slice_index words (number_of_place sites at)) places

  -- a bit of a word
  same_bit : (word : View → ℕ) (e : Entry) (index : Sense) (free : View → ℕ) → Same index → free v ≡ free w → word v ≡ word w →
      Same (leaf 1 false (λ u. at_index (λ j. word u / 2 ^ j % 2) (free u) (within e.low e.width (index_of index u))))
  same_bit word e index free p q r = λ i. leaf 1 false (λ u. at_index (λ j. r i / 2 ^ j % 2) (q i) (within e.low e.width (index_of (p i) u)))

  same_selected : (kind : Kind) (e : Entry) (index : Sense) (free : View → ℕ) → Same index → free v ≡ free w → IsSame v w kind →
      Same (read_selected kind e index free)
  same_selected (Parameter value) e index free p q r = same_bit (word_of (Parameter value)) e index free p q r
  same_selected Clock e index free p q r = same_bit (word_of Clock) e index free p q r
  same_selected (Input k) e index free p q r = same_bit (word_of (Input k)) e index free p q r
  same_selected (Net k) e index free p q r = same_bit (word_of (Net k)) e index free p q r
  same_selected (Combinational k) e index free p q r = same_bit (word_of (Combinational k)) e index free p q r
  same_selected (Variable k) e index free p q r = same_bit (word_of (Variable k)) e index free p q r
  same_selected (Memory k low count) e index free p q r =
      λ i. leaf e.width e.signed (λ u. at_index (slice_index (r i)) (q i) (within low count (index_of (p i) u)))

  -- ---- expressions whose names have the same

  module _ (names : List Entry) (sites : List ℕ) where
    abbrev SameRead : Access → Type 0
    SameRead = ReadsSame v w names

    abbrev Frames : Expr → Type 0
    Frames x = Each SameRead (reads_of names x) → Same (sense_of names sites x)

    -- an expression beside that fact
    abbrev Framed : Type 0
    Framed = (x : Expr) × Frames x

    abbrev plain : Framed → Expr
    plain x = x.0

    abbrev reading : Expr → Reading
    reading x = (x, reads_of names x)

    abbrev plain_links : List (BinaryOperator × Framed) → List (BinaryOperator × Expr)
    plain_links links = map (λ (l : BinaryOperator × Framed). (l.0, plain l.1)) links

    abbrev link_reads : List (BinaryOperator × Expr) → List Access
    link_reads links = flat_map (λ (link : BinaryOperator × Reading). link.1.1) (map (λ (l : BinaryOperator × Expr). (l.0, reading l.1)) links)

    abbrev link_senses : List (BinaryOperator × Expr) → List (BinaryOperator × Sense)
    link_senses links = map (λ (l : BinaryOperator × Expr). (l.0, sense_of names sites l.1)) links

    same_chained : (x : Sense) → Same x → (links : List (BinaryOperator × Framed)) → Each SameRead (link_reads (plain_links links)) → Same (chained x (link_senses (plain_links links)))
    same_chained x p [] h = p
    same_chained x p (l ∷ ls) h =
        same_chained (operated l.0 x (sense_of names sites l.1.0))
        (same_operated l.0 x (sense_of names sites l.1.0) p (l.1.1 (each_left SameRead (reads_of names l.1.0) (link_reads (plain_links ls)) h)))
        ls (each_right SameRead (reads_of names l.1.0) (link_reads (plain_links ls)) h)

    abbrev part_reads : List Expr → List Access
    part_reads parts = flat_map (λ (x : Reading). x.1) (map reading parts)

    same_joined : (x : Sense) → Same x → (parts : List Framed) → Each SameRead (part_reads (map plain parts)) → Same (joined_behind x (map (sense_of names sites) (map plain parts)))
    same_joined x p [] h = p
    same_joined x p (y ∷ ys) h =
        let q : Same (sense_of names sites y.0) = y.1 (each_left SameRead (reads_of names y.0) (part_reads (map plain ys)) h) in
        same_joined (beside x (sense_of names sites y.0)) (λ i. beside (p i) (q i)) ys (each_right SameRead (reads_of names y.0) (part_reads (map plain ys)) h)

    -- one level, of what is so below
    abbrev Layer : Expr-F Expr → Type 0
    Layer y = Each SameRead (read_step names (map-Expr Expr Reading reading y)) → Same (sense_step names sites (map-Expr Expr Sense (sense_of names sites) y))

    same_conditional : (c x y : Framed) → Each SameRead (reads_of names c.0 ++ reads_of names x.0 ++ reads_of names y.0) →
        Same (chosen (sense_of names sites c.0) (sense_of names sites x.0) (sense_of names sites y.0))
    same_conditional c x y h =
        let front : List Access = reads_of names c.0 ++ reads_of names x.0 in
        let k : Each SameRead front = each_left SameRead front (reads_of names y.0) h in
        let p : Same (sense_of names sites c.0) = c.1 (each_left SameRead (reads_of names c.0) (reads_of names x.0) k) in
        let q : Same (sense_of names sites x.0) = x.1 (each_right SameRead (reads_of names c.0) (reads_of names x.0) k) in
        let r : Same (sense_of names sites y.0) = y.1 (each_right SameRead front (reads_of names y.0) h) in
        λ i. chosen (p i) (q i) (r i)

    layer : (y : Expr-F Framed) → Layer (map-Expr Framed Expr plain y)
    layer (o.Number n) h = same_leaf (literal_of n.spelling).width (literal_of n.spelling).signed (λ u. literal_value (literal_of n.spelling) (open_at sites n.at u))
        (ap (literal_value (literal_of n.spelling)) (open_same sites n.at))
    layer (o.Name n) h = same_leaf (entry_of names n.name).width (entry_of names n.name).signed (word_of (entry_of names n.name).kind) (same_word v w (entry_of names n.name).kind h.0)
    layer (o.Select n bracket index) h =
        same_selected (entry_of names n.name).kind (entry_of names n.name) (sense_of names sites index.0) (open_at sites n.at) (index.1 h.1) (open_same sites n.at) h.0
    layer (o.Part n bracket msb_at msb lsb_at lsb) h =
        let e : Entry = entry_of names n.name in
        let high : ℕ = or_zero (constant (sense_of names sites msb.0)) in
        let low : ℕ = or_zero (constant (sense_of names sites lsb.0)) in
        let same : word_of e.kind v ≡ word_of e.kind w = same_word v w e.kind h.0 in
        λ i. leaf (span high low) false (λ u. same i / 2 ^ (low - e.low) % 2 ^ span high low)
    layer (o.Unary op x) h = same_prefixed op (sense_of names sites x.0) (x.1 h)
    layer (o.Chain x links) h =
        let rest : List Access = link_reads (plain_links links) in
        same_chained (sense_of names sites x.0) (x.1 (each_left SameRead (reads_of names x.0) rest h)) links (each_right SameRead (reads_of names x.0) rest h)
    layer (o.Conditional c x y) h = same_conditional c x y h
    layer (o.Concat brace parts) h = same_joined (leaf 0 false (λ u. 0)) refl parts h
    layer (o.Replicate brace at count inner parts) h =
        λ i. replicated (or_zero (constant (sense_of names sites count.0))) (same_joined (leaf 0 false (λ u. 0)) refl parts h i)
    layer (o.Cast sign x) h = λ i. recast sign (x.1 h i)

    pub frames : (x : Expr) → Frames x
    frames = ind-Expr Frames (λ x y is h.
        ap (seen v) (fold-roll-Expr Sense (sense_step names sites) x)
        ∙ subst Layer is (layer y) (subst (Each SameRead) (para-roll-Expr (List Access) (read_step names) x) h)
        ∙ sym (ap (seen w) (fold-roll-Expr Sense (sense_step names sites) x)))

-- ---- views that agree on nets

pub agree_kind : (nets : List ℕ) (v w : View) → AgreeOn nets v w → (kind : Kind) → ((net : ℕ) → is_in net (nets_of_kind kind) ≡ true → is_in net nets ≡ true) → IsSame v w kind
agree_kind nets v w agree (Parameter value) h = refl
agree_kind nets v w agree Clock h = refl
agree_kind nets v w agree (Input k) h = ap (λ (words : List ℕ). slice_index words k) agree.inputs
agree_kind nets v w agree (Net k) h = agree.words k (h k (or_left (k == k) false (eq-eqb k k refl)))
agree_kind nets v w agree (Combinational k) h = agree.words k (h k (or_left (k == k) false (eq-eqb k k refl)))
agree_kind nets v w agree (Variable k) h = ap (λ (s : Store). slice_index s.variables k) agree.store
agree_kind nets v w agree (Memory k low count) h = ap (λ (s : Store). get_or s.memories k []) agree.store

pub same_reads : (names : List Entry) (nets : List ℕ) (v w : View) → AgreeOn nets v w → (accesses : List Access) →
    ((net : ℕ) → is_in net (nets_among names (reads_in accesses)) ≡ true → is_in net nets ≡ true) → Each (ReadsSame v w names) accesses
same_reads names nets v w agree [] h = tt
same_reads names nets v w agree (Read n bits ∷ more) h =
    let own : List ℕ = nets_of_kind (entry_of names n.name).kind in
    let rest : List ℕ = nets_among names (reads_in more) in (
      agree_kind nets v w agree (entry_of names n.name).kind (λ net there. h net (in_left net own rest there)),
      same_reads names nets v w agree more (λ net there. h net (in_right net own rest there)),
    )
same_reads names nets v w agree (Write n kind bits ∷ more) h = (tt, same_reads names nets v w agree more h)

same_seen : (names : List Entry) (sites : List ℕ) (x : Expr) (v w : View) → AgreeOn (nets_read names x) v w → seen v (sense_of names sites x) ≡ seen w (sense_of names sites x)
same_seen names sites x v w agree =
    frames v w agree.sites names sites x (same_reads names (nets_read names x) v w agree (reads_of names x) (λ net there. there))

pub value_frame : (names : List Entry) (sites : List ℕ) (x : Expr) (width : ℕ) (signed : Bool) → LooksOnlyAt (nets_read names x) ((sense_of names sites x).at width signed)
value_frame names sites x width signed v w agree = ap (λ (s : Sense). s.at width signed v) (same_seen names sites x v w agree)

pub assigned_same : (names : List Entry) (sites : List ℕ) (x : Expr) (width : ℕ) (v w : View) → v.sites ≡ w.sites → Each (ReadsSame v w names) (reads_of names x) →
    assigned width (sense_of names sites x) v ≡ assigned width (sense_of names sites x) w
assigned_same names sites x width v w places h = ap (λ (s : Sense). assigned width s v) (frames v w places names sites x h)

pub assigned_frame : (names : List Entry) (sites : List ℕ) (x : Expr) (width : ℕ) → LooksOnlyAt (nets_read names x) (assigned width (sense_of names sites x))
assigned_frame names sites x width v w agree = ap (λ (s : Sense). assigned width s v) (same_seen names sites x v w agree)
