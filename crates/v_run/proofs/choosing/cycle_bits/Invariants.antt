use Rattle.std.proofs.Common.{◌≡◌, ◌+◌, drop, map}
use Rattle.v_meaning.specs.Designs.{total}
use Rattle.v_core.specs.declared.modules.TypedSite.{TypedSite}
use Rattle.v_run.proofs.choosing.cycle_bits.Given as goal

abbrev pub invariant-loop-site : goal.invariant-loop-site
invariant-loop-site l = l.bits + total (map (λ (s : TypedSite). s.width) (drop l.site-index l.site-items)) ≡ total (map (λ (s : TypedSite). s.width) l.site-items)
