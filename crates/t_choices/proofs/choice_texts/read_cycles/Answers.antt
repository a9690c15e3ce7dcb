use Rattle.std.proofs.Common.{◌≡◌, ◌<◌, ◌∷◌, [], List, Bool, length, arith, ap, sym, subst}
use Rattle.std.specs.Prelude.{codes}
use Rattle.std.proofs.lemmas.List.{length-append}
use Rattle.lz_lines.specs.Forms.{Anything}
use Rattle.lz_lines.proofs.Forms.{After}
use Rattle.lz_lines.proofs.Standing.{hand_on}
use Rattle.t_choices.specs.Bits.{HasBits}
use Rattle.t_choices.specs.ChoiceTexts.{choice_line}
use Rattle.t_choices.specs.Repeated.{Exactly}
use Rattle.t_choices.proofs.Repeated.{StillCome, come_read, come_broken, come_end}
use Rattle.t_choices.proofs.choice_texts.read_cycles.Goals as goal

pub returns-in_err-bits : goal.returns-in_err-bits
returns-in_err-bits c =
    let room : length c.cycles.cycles.items < c.args.count = omega arith in
    hand_on _ _ _ _ _ _ _ _ _ _ c.from_residual.result c.read_line.result _ c.from_residual.ensures.1 c.in_err-bits.was c.read_line.ensures
    (λ l b. come_broken (choice_line (codes "cycle")) (HasBits c.args.cycle_bits) c.args.count c.cycles.cycles.items room c.cycles.invariant.after b)

pub cycles-preserved : goal.cycles-preserved
cycles-preserved c =
    let read = c.cycles.cycles.items in
    let bits = c.in_ok-bits.bits in
    let room : length read < c.args.count = omega arith in
    let pushed = c.in_ok-push.ensures.items in
    record {
      few = omega (arith, room, ap (λ (l : List (List Bool)). length l) pushed, length-append read (bits ∷ []));
      after = subst (λ (l : List (List Bool)). After (Exactly (choice_line (codes "cycle")) (HasBits c.args.cycle_bits) c.args.count) Anything c.args.bytes.now (StillCome (choice_line (codes "cycle")) (HasBits c.args.cycle_bits) c.args.count l) c.in_ok-bits.rest.now) (sym pushed)
          (come_read (choice_line (codes "cycle")) (HasBits c.args.cycle_bits) c.args.count read bits room c.cycles.invariant.after c.in_ok-bits.ensures);
    }

pub returns : goal.returns
returns c =
    let full : length c.cycles.cycles.items ≡ c.args.count = omega (arith, c.cycles.invariant.few) in
    rw c.from_vec.ensures (come_end (choice_line (codes "cycle")) (HasBits c.args.cycle_bits) c.args.count c.cycles.cycles.items full c.cycles.invariant.after)
