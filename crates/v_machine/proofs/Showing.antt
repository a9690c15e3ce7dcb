-- Words that are shown one after another.
use Rattle.std.proofs.Common.{◌≡◌, ◌≤◌, ◌<◌, ◌+◌, ap, sym, ◌∙◌, refl, arith, ℕ, zero, suc, length, get_or, take, ◌++◌, List, [], ◌∷◌, map}
use Rattle.std.specs.Prelude.{slice_set}
use Rattle.std.proofs.lemmas.List.{take_more_set, map-append, map_more, length-map, take_all}
use Rattle.lz_base.specs.WordValue.{WordValue}
use Rattle.v_values.specs.Seen.{values_of, widths_of}

-- words that have as many bits as is said for each
pub width_at : (f : ℕ → ℕ) (ws : List WordValue) (ns : List ℕ) (i e : ℕ) (d : WordValue) → i < length ws → widths_of ws ≡ map f ns → (get_or ws i d).width ≡ f (get_or ns i e)
width_at f [] ns i e d h is = absurd (omega arith)
width_at f (w ∷ ws) [] i e d h is = absurd (cc is)
width_at f (w ∷ ws) (n ∷ ns) zero e d h is = cc is
width_at f (w ∷ ws) (n ∷ ns) (suc i) e d h is = let left : widths_of ws ≡ map f ns = cc is in width_at f ws ns i e d (omega arith) left

pub as_many : (f : ℕ → ℕ) (ws : List WordValue) (ns : List ℕ) → widths_of ws ≡ map f ns → length ws ≡ length ns
as_many f ws ns is = sym (length-map ws (λ (w : WordValue). w.width)) ∙ ap length is ∙ length-map ns f

pub shown_next : (f : ℕ → ℕ) (ws : List WordValue) (ns : List ℕ) (i e : ℕ) (w : WordValue) → i < length ws → i < length ns → w.value ≡ f (get_or ns i e) →
    values_of (take i ws) ≡ map f (take i ns) → values_of (take (i + 1) (slice_set ws i w)) ≡ map f (take (i + 1) ns)
shown_next f ws ns i e w h k is before =
    ap values_of (take_more_set ws i w h) ∙ map-append (λ (w : WordValue). w.value) (take i ws) (w ∷ []) ∙ (λ j. before j ++ is j ∷ []) ∙ sym (map_more f ns i e k)

pub shown_last : (f : ℕ → ℕ) (ws : List WordValue) (ns : List ℕ) (i : ℕ) → length ws ≤ i → length ws ≡ length ns → values_of (take i ws) ≡ map f (take i ns) →
    values_of ws ≡ map f ns
shown_last f ws ns i h many before = sym (ap values_of (take_all i ws h)) ∙ before ∙ ap (map f) (take_all i ns (omega arith))

pub width_kept : (ws : List WordValue) (i : ℕ) (w d : WordValue) → i < length ws → w.width ≡ (get_or ws i d).width → widths_of (slice_set ws i w) ≡ widths_of ws
width_kept [] i w d h is = refl
width_kept (x ∷ xs) zero w d h is = ap (λ (n : ℕ). n ∷ widths_of xs) is
width_kept (x ∷ xs) (suc i) w d h is = ap (λ (ns : List ℕ). x.width ∷ ns) (width_kept xs i w d (omega arith) is)
