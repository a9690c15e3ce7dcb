use Rattle.std.proofs.Common.{◌≡◌, ◌+◌, ◌<◌, ◌++◌, drop, length, map, take, arith}
use Rattle.g_text.specs.Raw.{begun}
use Rattle.g_text.proofs.Filling.{below_next, flips_made, set_count}
use Rattle.g_text.proofs.making.set_flips.Goals as goal

pub loop-i-preserved : goal.loop-i-preserved
loop-i-preserved c =
    let first = c.args.network.now in
    let fs = c.args.flips.now in
    let i = c.loop-i.i in
    let bound : i < length fs = omega arith in
    let made : c.set_flip.new.self ≡ record first { flips = take (i + 1) fs ++ map begun (drop (i + 1) fs) } = flips_made first c.loop-i.network c.set_flip.new.self fs i _ bound c.loop-i.invariant.made c.set_flip.ensures in
    record { made = made; count = set_count first c.set_flip.new.self fs (i + 1) c.requires.begun made; there = below_next _ fs i c.loop-i.invariant.there }
