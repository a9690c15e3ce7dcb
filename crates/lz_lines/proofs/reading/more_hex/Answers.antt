use Rattle.std.proofs.Common.{◌≡◌, ◌∙◌, ◌<◌, ◌+◌, ◌*◌, ◌-◌, arith, ap, sym}
use Rattle.lz_lines.specs.Digits.{more_hex}
use Rattle.lz_lines.proofs.Hex.{room_step, room_fits}
use Rattle.lz_lines.proofs.reading.more_hex.Goals as goal

pub overflow_mul-read : goal.overflow_mul-read
overflow_mul-read c =
    let k = c.args.count - c.loop.counter in
    omega (arith, room_fits k c.loop.read 0 (omega arith) (omega arith) c.loop.invariant.room (omega arith))

pub overflow_add-read : goal.overflow_add-read
overflow_add-read c =
    let k = c.args.count - c.loop.counter in
    let small : c.from.result < 16 = omega (arith, c.from.ensures, c.in-Some.ensures.digit) in
    omega (arith, room_fits k c.loop.read c.from.result (omega arith) (omega arith) c.loop.invariant.room small)

pub loop-preserved : goal.loop-preserved
loop-preserved c =
    let k = c.args.count - c.loop.counter in
    let after = c.args.count - (c.loop.counter + 1) in
    let one : k ≡ after + 1 = omega arith in
    let same : k - 1 ≡ after = omega arith in
    let small : c.from.result < 16 = omega (arith, c.from.ensures, c.in-Some.ensures.digit) in
    record {
      same = ap (λ d. more_hex after (c.loop.read * 16 + d) c.in-Some.rest.now) c.from.ensures ∙ sym (c.in-Some.ensures.found after c.loop.read)
          ∙ ap (λ j. more_hex j c.loop.read c.loop.left.now) (sym one) ∙ c.loop.invariant.same;
      room = rw (← same) (room_step k c.loop.read c.from.result (omega arith) (omega arith) c.loop.invariant.room small);
      within = omega (arith, c.loop.invariant.within, c.in-Some.ensures.shorter);
    }
