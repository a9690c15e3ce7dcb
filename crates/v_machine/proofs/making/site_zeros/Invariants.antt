use Rattle.std.proofs.Common.{◌≡◌, take, map}
use Rattle.v_core.specs.declared.modules.TypedSite.{TypedSite}
use Rattle.v_values.specs.Seen.{widths_of}
use Rattle.v_machine.proofs.making.site_zeros.Given as goal

abbrev pub invariant-loop-site : goal.invariant-loop-site
invariant-loop-site l = widths_of l.words.items ≡ map (λ (s : TypedSite). s.width) (take l.site-index l.sites)
