-- Lists of words in which one is changed.
use Rattle.std.proofs.Common.{◌≡◌, ◌≤◌, ◌<◌, ◌+◌, refl, ap, sym, ◌∙◌, arith, ℕ, zero, suc, length, get_or, take, List, [], ◌∷◌, ◌++◌, map}
use Rattle.std.proofs.lemmas.List.{get_or-map, length-map, take_more, take_more_set}
use Rattle.std.specs.Prelude.{slice_set, slice_index}
use Rattle.lz_base.specs.WordValue.{WordValue}
use Rattle.v_meaning.specs.Views.{View, Place, Word, changed_at, written_at}
use Rattle.v_values.specs.Moments.{MomentValue}
use Rattle.v_values.specs.Seen.{values_of, widths_of}

-- what a list shows, where one element becomes another
pub map_set : {A B : Type 0} (g : A → B) (f : B → B) (xs : List A) (i : ℕ) (x d : A) → i < length xs → g x ≡ f (g (get_or xs i d)) →
    map g (slice_set xs i x) ≡ changed_at f (map g xs) i
map_set g f [] i x d h is = absurd (omega arith)
map_set g f (y ∷ ys) zero x d h is = ap (λ z. z ∷ map g ys) is
map_set g f (y ∷ ys) (suc i) x d h is = ap (λ zs. g y ∷ zs) (map_set g f ys i x d (omega arith) is)

pub map_set_same : {A B : Type 0} (g : A → B) (xs : List A) (i : ℕ) (x d : A) → i < length xs → g x ≡ g (get_or xs i d) → map g (slice_set xs i x) ≡ map g xs
map_set_same g [] i x d h is = absurd (omega arith)
map_set_same g (y ∷ ys) zero x d h is = ap (λ z. z ∷ map g ys) is
map_set_same g (y ∷ ys) (suc i) x d h is = ap (λ zs. g y ∷ zs) (map_set_same g ys i x d (omega arith) is)

pub values_set : (f : ℕ → ℕ) (ws : List WordValue) (i : ℕ) (w d : WordValue) → i < length ws → w.value ≡ f (get_or ws i d).value →
    values_of (slice_set ws i w) ≡ changed_at f (values_of ws) i
values_set f ws i w d h is = map_set (λ (w : WordValue). w.value) f ws i w d h is

pub widths_set : (ws : List WordValue) (i : ℕ) (w d : WordValue) → i < length ws → w.width ≡ (get_or ws i d).width → widths_of (slice_set ws i w) ≡ widths_of ws
widths_set ws i w d h is = map_set_same (λ (w : WordValue). w.width) ws i w d h is

pub width_at : (ws : List WordValue) (i : ℕ) (d : WordValue) → i < length ws → slice_index (widths_of ws) i ≡ (get_or ws i d).width
width_at [] i d h = absurd (omega arith)
width_at (x ∷ xs) zero d h = refl
width_at (x ∷ xs) (suc i) d h = width_at xs i d (omega arith)

-- elements of two lists that show the same, and those that are copied one after another
length_same : {A : Type 0} (g : A → ℕ) (xs ys : List A) → map g xs ≡ map g ys → length xs ≡ length ys
length_same g xs ys same = sym (length-map xs g) ∙ ap (λ (ns : List ℕ). length ns) same ∙ length-map ys g

pub same_at : {A : Type 0} (g : A → ℕ) (xs ys : List A) (i : ℕ) (d e : A) → i < length xs → map g xs ≡ map g ys → g (get_or xs i d) ≡ g (get_or ys i e)
same_at g xs ys i d e h same =
    sym (get_or-map g xs i d 0 h) ∙ ap (λ (ns : List ℕ). get_or ns i 0) same ∙ get_or-map g ys i e 0 (omega (arith, h, length_same g xs ys same))

pub copied_next : {A : Type 0} (g : A → ℕ) (xs ys : List A) (i : ℕ) (x d : A) → i < length xs → map g xs ≡ map g ys → x ≡ get_or ys i d → take i xs ≡ take i ys →
    take (i + 1) (slice_set xs i x) ≡ take (i + 1) ys
copied_next g xs ys i x d h same is before =
    take_more_set xs i x h ∙ (λ j. before j ++ is j ∷ []) ∙ sym (take_more ys i d (omega (arith, h, length_same g xs ys same)))

pub copied_same : {A : Type 0} (g : A → ℕ) (xs ys : List A) (i : ℕ) (x d : A) → i < length xs → map g xs ≡ map g ys → x ≡ get_or ys i d → map g (slice_set xs i x) ≡ map g ys
copied_same g xs ys i x d h same is = map_set_same g xs i x d h (ap g is ∙ sym (same_at g xs ys i d d h same)) ∙ same

-- beyond the list nothing changes
pub change_out : (f : ℕ → ℕ) (xs : List ℕ) (i : ℕ) → length xs ≤ i → changed_at f xs i ≡ xs
change_out f [] i h = refl
change_out f (x ∷ xs) zero h = absurd (omega arith)
change_out f (x ∷ xs) (suc i) h = ap (λ (ns : List ℕ). x ∷ ns) (change_out f xs i (omega arith))

pub values_out : (f : ℕ → ℕ) (ws : List WordValue) (i : ℕ) → length ws ≤ i → changed_at f (values_of ws) i ≡ values_of ws
values_out f [] i h = refl
values_out f (x ∷ xs) zero h = absurd (omega arith)
values_out f (x ∷ xs) (suc i) h = ap (λ (ns : List ℕ). x.value ∷ ns) (values_out f xs i (omega arith))

-- a word that becomes another
pub change_set : (f : ℕ → ℕ) (xs : List ℕ) (i n d : ℕ) → i < length xs → n ≡ f (get_or xs i d) → slice_set xs i n ≡ changed_at f xs i
change_set f [] i n d h is = absurd (omega arith)
change_set f (x ∷ xs) zero n d h is = ap (λ (k : ℕ). k ∷ xs) is
change_set f (x ∷ xs) (suc i) n d h is = ap (λ (ns : List ℕ). x ∷ ns) (change_set f xs i n d (omega arith) is)

-- where all words are below a bound, and the new one is
pub set_below : (ws : List ℕ) (k n i b : ℕ) → slice_index ws i < b → n < b → slice_index (slice_set ws k n) i < b
set_below [] k n i b h below = h
set_below (x ∷ xs) zero n zero b h below = below
set_below (x ∷ xs) zero n (suc i) b h below = h
set_below (x ∷ xs) (suc k) n zero b h below = h
set_below (x ∷ xs) (suc k) n (suc i) b h below = set_below xs k n i b h below

-- ---- moments

pub memory_written : (now seen : MomentValue) (place : Place) (k i : ℕ) (f : ℕ → ℕ) (ms : List (List ℕ)) → seen ≡ now → place ≡ Word k i →
    ms ≡ changed_at (λ words. changed_at f words i) seen.view.store.memories k →
    record { inputs = seen.view.inputs; nets = seen.view.nets; store = record { variables = seen.view.store.variables; memories = ms }; sites = seen.view.sites } ≡ written_at place f now.view
memory_written now seen place k i f ms e p q =
    ap {B = View} (λ (m : List (List ℕ)). record { inputs = seen.view.inputs; nets = seen.view.nets; store = record { variables = seen.view.store.variables; memories = m }; sites = seen.view.sites }) q
    ∙ (λ j. written_at (sym p j) f (e j).view)

pub memories_shaped : (now seen : MomentValue) (ws ns : List ℕ) → seen ≡ now → ws ≡ seen.shape.memories → ns ≡ seen.shape.counts →
    record { inputs = seen.shape.inputs; nets = seen.shape.nets; variables = seen.shape.variables; memories = ws; counts = ns; sites = seen.shape.sites } ≡ now.shape
memories_shaped now seen ws ns e q r =
    (λ i. record { inputs = seen.shape.inputs; nets = seen.shape.nets; variables = seen.shape.variables; memories = q i; counts = r i; sites = seen.shape.sites })
    ∙ ap (λ (m : MomentValue). m.shape) e
