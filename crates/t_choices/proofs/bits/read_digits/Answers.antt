use Rattle.std.proofs.Common.{◌≡◌, ◌<◌, ◌∷◌, [], List, Bool, length, arith, ap, sym, subst}
use Rattle.std.proofs.lemmas.List.{length-append}
use Rattle.lz_lines.specs.Forms.{Anything}
use Rattle.lz_lines.proofs.Forms.{After}
use Rattle.lz_lines.proofs.Standing.{hand_broken}
use Rattle.t_choices.specs.Bits.{AnyBit, digit}
use Rattle.t_choices.specs.Repeated.{Exactly}
use Rattle.t_choices.proofs.Repeated.{StillCome, come_read, come_broken, come_end}
use Rattle.t_choices.proofs.bits.read_digits.Goals as goal

pub returns-in_err-bit : goal.returns-in_err-bit
returns-in_err-bit c =
    let room : length c.digits.bits.items < c.args.count = omega arith in
    hand_broken _ _ _ _ _ c.from_residual.result _ c.from_residual.ensures.1 (come_broken digit AnyBit c.args.count c.digits.bits.items room c.digits.invariant.after c.in_err-bit.ensures)

pub digits-preserved : goal.digits-preserved
digits-preserved c =
    let read = c.digits.bits.items in
    let bit = c.in_ok-bit.bit in
    let room : length read < c.args.count = omega arith in
    let pushed = c.in_ok-push.ensures.items in
    record {
      few = omega (arith, room, ap (λ (l : List Bool). length l) pushed, length-append read (bit ∷ []));
      after = subst (λ (l : List Bool). After (Exactly digit AnyBit c.args.count) Anything c.args.bytes.now (StillCome digit AnyBit c.args.count l) c.in_ok-bit.rest.now) (sym pushed)
          (come_read digit AnyBit c.args.count read bit room c.digits.invariant.after c.in_ok-bit.ensures);
    }

pub returns : goal.returns
returns c =
    let full : length c.digits.bits.items ≡ c.args.count = omega (arith, c.digits.invariant.few) in
    rw c.from_vec.ensures (come_end digit AnyBit c.args.count c.digits.bits.items full c.digits.invariant.after)
