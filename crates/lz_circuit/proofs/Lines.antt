-- What one more line keeps, and how many bits words have that fit ports.
use Rattle.std.proofs.Common.{◌≡◌, ◌≤◌, ◌+◌, ◌/◌, ℕ, zero, suc, List, [], ◌∷◌, ◌++◌, ◌≢◌, length, Option, IsSome, arith, refl, sym, ap, length-append}
use Rattle.lz_base.specs.declared.name.Port.{Port}
use Rattle.lz_base.specs.Bits.{low_bits, words_bits}
use Rattle.lz_base.specs.Names.{IsNew, AreDistinct}
use Rattle.lz_base.specs.Ports.{FitPorts}
use Rattle.lz_base.specs.WordValue.{WordValue}
use Rattle.lz_circuit.specs.Lines.{port_bits, HaveWidths, HasClock}

pub widths_more : (ps : List Port) (p : Port) → HaveWidths ps → 1 ≤ p.width → p.width ≤ 128 → HaveWidths (ps ++ p ∷ [])
widths_more [] p h low high = (low, high, tt)
widths_more (q ∷ ps) p h low high = (h.0, h.1, widths_more ps p h.2 low high)

pub bits_more : (ps : List Port) (p : Port) → port_bits (ps ++ p ∷ []) ≡ port_bits ps + p.width
bits_more [] p = omega arith
bits_more (q ∷ ps) p = omega (arith, bits_more ps p)

pub clocked_more : {F : Type 0} → (clock : Option (List ℕ)) (fs : List F) (f : F) → IsSome clock → HasClock clock (fs ++ f ∷ [])
clocked_more clock [] f h = h
clocked_more clock (g ∷ fs) f h = h

new_more : (ns : List (List ℕ)) (n x : List ℕ) → IsNew n ns → n ≢ x → IsNew n (ns ++ x ∷ [])
new_more [] n x h ne = (ne, tt)
new_more (m ∷ ns) n x h ne = (h.0, new_more ns n x h.1 ne)

-- distinct names stay so with a new one
pub distinct_more : (ns : List (List ℕ)) (x : List ℕ) → AreDistinct ns → IsNew x ns → AreDistinct (ns ++ x ∷ [])
distinct_more [] x h fresh = (tt, tt)
distinct_more (n ∷ ns) x h fresh = (new_more ns n x h.0 (λ e. fresh.0 (sym e)), distinct_more ns x h.1 fresh.1)

pub length_bits : (width value : ℕ) → length (low_bits width value) ≡ width
length_bits zero value = refl
length_bits (suc width) value = ap suc (length_bits width (value / 2))

-- words that fit ports have as many bits as these
pub bits_fit : (ps : List Port) (ws : List WordValue) → FitPorts ps ws → length (words_bits ws) ≡ port_bits ps
bits_fit [] [] h = refl
bits_fit [] (w ∷ ws) h = absurd h
bits_fit (p ∷ ps) [] h = absurd h
bits_fit (p ∷ ps) (w ∷ ws) h = omega (arith, length-append (low_bits w.width w.value) (words_bits ws), length_bits w.width w.value, bits_fit ps ws h.2, h.0)
