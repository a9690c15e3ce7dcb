-- Strings and vectors as files, and what the first file of a name holds.
use Rattle.std.proofs.Common.{◌≡◌, ◌<◌, ℕ, zero, suc, List, [], ◌∷◌, length, drop, get_or, Some, true, arith, String, Vec, string_bytes, ◌==◌, sym, ap, refl}
use Rattle.std.specs.declared.alloc.Global.{Global}
use lib.Pointwise.{pointwise}
use Rattle.lz_base.specs.MemoryFiles.{content_of, files_of, bytes_at}

-- a file of the asked name is the first one among the files from it on
pub content_found : (fs : List (String Global × Vec ℕ Global)) (i : ℕ) (f : String Global × Vec ℕ Global) (name : List ℕ)
    → i < length fs → f ≡ get_or fs i f → pointwise ◌==◌ (string_bytes f.0) name ≡ true
    → content_of (files_of (drop i fs)) name ≡ Some (bytes_at (files_of fs) i)
content_found [] i f name within is same = absurd (omega arith)
content_found (g ∷ fs) zero f name within is same =
    let same_g : pointwise ◌==◌ (string_bytes g.0) name ≡ true = rw (← is) same in
    rw same_g refl
content_found (g ∷ fs) (suc i) f name within is same = content_found fs i f name (omega arith) is same

-- there are as many files as pairs
pub length_files_of : (fs : List (String Global × Vec ℕ Global)) → length (files_of fs) ≡ length fs
length_files_of [] = refl
length_files_of (f ∷ fs) = omega (arith, length_files_of fs)

-- the bytes of a file are those of its vector
pub bytes_at_is : (fs : List (String Global × Vec ℕ Global)) (i : ℕ) (f : String Global × Vec ℕ Global)
    → i < length (files_of fs) → f ≡ get_or fs i f → (i < length fs) × (bytes_at (files_of fs) i ≡ f.1.items)
bytes_at_is [] i f within is = absurd (omega arith)
bytes_at_is (g ∷ fs) zero f within is = (omega arith, ap (λ (h : String Global × Vec ℕ Global). h.1.items) (sym is))
bytes_at_is (g ∷ fs) (suc i) f within is = let more = bytes_at_is fs i f (omega arith) is in (omega (arith, more.0), more.1)
