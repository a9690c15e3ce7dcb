use Rattle.std.proofs.Common.{◌≡◌, ℕ, List, drop, Bool}
use Rattle.v_meaning.specs.ProcessRules.{places_if}
use Rattle.v_scope.specs.Firsts.{least_from}
use Rattle.v_rules.specs.Groups.{idents_in, Tests}
use Rattle.v_rules.proofs.places.first_among.Given as goal

abbrev pub invariant-loop-ident : goal.invariant-loop-ident
invariant-loop-ident g l =
    (passes : List ℕ → Bool) → Tests (goal.F-post g l.test) passes → least_from l.first (places_if passes (idents_in (drop l.ident-index l.idents))) ≡ least_from l.initial.first (places_if passes (idents_in l.idents))
