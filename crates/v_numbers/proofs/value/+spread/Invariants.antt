-- The width falls.
use Rattle.v_numbers.proofs.value.+spread.Given as goal

abbrev pub decreases-spread : goal.decreases-spread
decreases-spread l = l.width
