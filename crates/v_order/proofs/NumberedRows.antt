-- Declared names, their numbers and their first values, worked out by hand.
use Rattle.std.proofs.Common.{◌≡◌, [], ◌∷◌, map, true, false, None, Some, refl}
use Rattle.v_meaning.specs.declared.names.Kind.{Kind}
use Rattle.v_meaning.specs.declared.names.Kind.TheVariants.{Parameter, Clock, Input, Net, Combinational, Variable, Memory}
use Rattle.v_meaning.specs.declared.names.Entry.{Entry}
use Rattle.v_order.specs.Firsts.{fits_first}
use Rattle.v_order.specs.Numbered.{AreNumbered}

abbrev of_kind : Kind → Entry
of_kind kind = record { name = []; at = 0; kind = kind; width = 1; signed = false; low = 0; is_vector = false; first = None }

-- each kind has numbers of its own; a net and a combinational variable share theirs
are_numbered : AreNumbered [] (map of_kind (Clock ∷ Input 0 ∷ Net 0 ∷ Input 1 ∷ Parameter 9 ∷ Variable 0 ∷ Memory 0 3 4 ∷ Combinational 1 ∷ Variable 1 ∷ Net 2 ∷ Memory 1 0 8 ∷ []))
are_numbered = (tt, (refl, (refl, (refl, (tt, (refl, (refl, (refl, (refl, (refl, (refl, tt)))))))))))

-- a number is left out
are_not : AreNumbered [] (map of_kind (Variable 0 ∷ Net 0 ∷ Variable 2 ∷ [])) → ⊥
are_not h = cc h.1.1.0

-- a first value of four bits, or none
are_fit : (fits_first 4 (Some 15) ∷ fits_first 4 None ∷ fits_first 4 (Some 16) ∷ []) ≡ true ∷ true ∷ false ∷ []
are_fit = refl
