use Rattle.std.proofs.Common.{◌≡◌, ◌+◌, drop}
use Rattle.s_flow.specs.Made.{place_of, names_in}
use Rattle.s_flow.proofs.making.place_of.Given as goal

abbrev pub invariant-loop-place : goal.invariant-loop-place
invariant-loop-place l = place_of (names_in l.names) l.name ≡ l.place + place_of (names_in (drop l.place l.names)) l.name
