-- How many bits choices have, one name after another.
use Rattle.std.proofs.Common.{◌≡◌, ◌+◌, arith, List, [], ◌∷◌, map}
use Rattle.v_meaning.specs.Designs.{open_bits_of, total}
use Rattle.v_meaning.specs.Modules.{firsts_among}
use Rattle.v_meaning.specs.declared.names.Kind.{Kind}
use Rattle.v_meaning.specs.declared.names.Kind.TheVariants as k
use Rattle.v_meaning.specs.declared.names.Entry.{Entry}

-- the names behind one more
pub first_next : (e : Entry) (names : List Entry) → total (map open_bits_of (firsts_among (e ∷ names))) ≡ total (map open_bits_of (firsts_among (e ∷ []))) + total (map open_bits_of (firsts_among names))
first_next e names = by_kind e.kind e names
  where
    by_kind : (kind : Kind) (e : Entry) (names : List Entry) → total (map open_bits_of (firsts_among (record e { kind = kind } ∷ names))) ≡ total (map open_bits_of (firsts_among (record e { kind = kind } ∷ []))) + total (map open_bits_of (firsts_among names))
    by_kind (k.Parameter value) e names = omega arith
    by_kind k.Clock e names = omega arith
    by_kind (k.Input n) e names = omega arith
    by_kind (k.Net n) e names = omega arith
    by_kind (k.Combinational n) e names = omega arith
    by_kind (k.Variable n) e names = omega arith
    by_kind (k.Memory n low count) e names = omega arith
