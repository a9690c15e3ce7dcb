use Rattle.std.proofs.Common.{◌≡◌, ◌&&◌, Bool, true, false, ap, sym, refl, ◌∙◌}
use mathlib.Core.Bool.{xor}
use Rattle.lz_circuit.specs.Values.{value_at}
use Rattle.n_sim.proofs.making.known.Goals as goal

no_change : (b x : Bool) → b ≡ xor b (false && x)
unfolding xor
no_change false x = refl
no_change true x = refl

not_by : (b x : Bool) → b ≡ xor b (x && false)
unfolding xor
not_by false false = refl
not_by false true = refl
not_by true false = refl
not_by true true = refl

by_alone : (x : Bool) → x ≡ xor false (true && x)
unfolding xor
by_alone false = refl
by_alone true = refl

change_alone : (x : Bool) → x ≡ xor false (x && true)
unfolding xor
change_alone false = refl
change_alone true = refl

pub returns-then-step-eq0-clause-value : goal.returns-then-step-eq0-clause-value
returns-then-step-eq0-clause-value c = λ values zero one.
    let v = value_at values in
    no_change (v c.args.step.base) (v c.args.step.by) ∙ ap (λ b. xor (v c.args.step.base) (b && v c.args.step.by)) (sym zero ∙ ap v (sym c.if-step-eq0.true))

pub returns-then-step-eq0-2-clause-value : goal.returns-then-step-eq0-2-clause-value
returns-then-step-eq0-2-clause-value c = λ values zero one.
    let v = value_at values in
    not_by (v c.args.step.base) (v c.args.step.change) ∙ ap (λ b. xor (v c.args.step.base) (v c.args.step.change && b)) (sym zero ∙ ap v (sym c.if-step-eq0-2.true))

pub returns-then-step-eq1-clause-value : goal.returns-then-step-eq1-clause-value
returns-then-step-eq1-clause-value c = λ values zero one.
    let v = value_at values in
    by_alone (v c.args.step.by)
    ∙ ap (λ b. xor b (true && v c.args.step.by)) (sym zero ∙ ap v (sym c.if-step-eq0-3.true))
    ∙ ap (λ b. xor (v c.args.step.base) (b && v c.args.step.by)) (sym one ∙ ap v (sym c.if-step-eq1.true))

pub returns-then-step-eq1-2-clause-value : goal.returns-then-step-eq1-2-clause-value
returns-then-step-eq1-2-clause-value c = λ values zero one.
    let v = value_at values in
    change_alone (v c.args.step.change)
    ∙ ap (λ b. xor b (v c.args.step.change && true)) (sym zero ∙ ap v (sym c.if-step-eq0-4.true))
    ∙ ap (λ b. xor (v c.args.step.base) (v c.args.step.change && b)) (sym one ∙ ap v (sym c.if-step-eq1-2.true))
