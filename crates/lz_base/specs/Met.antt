-- The names that a set has met.
use Rattle.std.specs.Prelude.{◌≡◌, ℕ, List}
use Rattle.std.specs.Borrow.{Bor}
use Rattle.std.specs.Ordering.{nat_cmp}
use Rattle.std.specs.Cmp.Lexicographic.{slice_cmp}
use Rattle.std.specs.BTreeSet.{BTreeSet, contains}
use Rattle.lz_base.specs.Names.{is_among}

abbrev pub Met : BTreeSet (Bor (List ℕ)) → List (List ℕ) → Type 0
Met set names = (q : Bor (List ℕ)) → contains (λ x y. slice_cmp nat_cmp x.now y.now) set q ≡ is_among q.now names
