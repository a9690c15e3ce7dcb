use Rattle.std.proofs.Common.{◌≡◌, map, take}
use Rattle.v_core.specs.declared.modules.TypedSite.{TypedSite}
use Rattle.v_typed.proofs.copying.site_places.Given as goal

abbrev pub invariant-loop-site : goal.invariant-loop-site
invariant-loop-site l = l.places ≡ map (λ (s : TypedSite). s.at) (take l.site-index l.found)
