use Rattle.std.proofs.Common.{◌≡◌, ◌≤◌, ◌<◌, ap, sym, subst, ◌∙◌, arith, ℕ, length}
use Rattle.std.specs.Prelude.{◌^◌}
use Rattle.lz_base.specs.WordValue.{WordValue}
use Rattle.v_meaning.specs.Names.{word_of}
use Rattle.v_core.specs.Values.{entry_at}
use Rattle.v_machine.proofs.Showing.{width_at, as_many, shown_next, shown_last, width_kept}
use Rattle.v_machine.proofs.settling.show.Goals as goal

pub bounds-outputs-i : goal.bounds-outputs-i
bounds-outputs-i c = omega (arith, as_many (λ (n : ℕ). (entry_at c.args.names.now n).width) c.args.out.now c.args.outputs.now c.requires.widths)

pub new-requires : goal.new-requires
new-requires c =
    let within : c.loop-i.i < length c.loop-i.out = omega (arith, c.loop-i.auto.out) in
    record {
      has_bit = omega (arith, c.word.invariant.0);
      within = omega (arith, c.word.invariant.1);
      fits = subst (λ (w : ℕ). c.named.result < 2 ^ w)
          (sym (ap (λ (w : WordValue). w.width) (c.word.view_is ∙ c.index-out-i.is)
          ∙ width_at (λ (n : ℕ). (entry_at c.args.names.now n).width) c.loop-i.out c.args.outputs.now c.loop-i.i 0 c.index-out-i.result within (c.loop-i.invariant.widths ∙ c.requires.widths)))
          c.named.ensures.below;
    }

pub loop-i-preserved : goal.loop-i-preserved
loop-i-preserved c =
    let within : c.loop-i.i < length c.loop-i.out = omega (arith, c.loop-i.auto.out) in
    let among : c.loop-i.i < length c.args.outputs.now =
    omega (arith, as_many (λ (n : ℕ). (entry_at c.args.names.now n).width) c.args.out.now c.args.outputs.now c.requires.widths) in
    record {
      values = shown_next (λ (n : ℕ). word_of (entry_at c.args.names.now n).kind c.args.now.now.view) c.loop-i.out c.args.outputs.now c.loop-i.i 0 c.new.result within among
          (ap (λ (w : WordValue). w.value) c.new.ensures ∙ c.named.ensures.value) c.loop-i.invariant.values;
      widths = width_kept c.loop-i.out c.loop-i.i c.new.result c.index-out-i.result within
          (ap (λ (w : WordValue). w.width) c.new.ensures ∙ ap (λ (w : WordValue). w.width) (c.word.view_is ∙ c.index-out-i.is)) ∙ c.loop-i.invariant.widths;
    }

pub returns : goal.returns
returns c =
    let ended : length c.loop-i.out ≤ c.loop-i.i = omega (arith, c.loop-i.auto.out, c.loop-i-test.false) in
    let many : length c.loop-i.out ≡ length c.args.outputs.now =
    omega (arith, c.loop-i.auto.out, as_many (λ (n : ℕ). (entry_at c.args.names.now n).width) c.args.out.now c.args.outputs.now c.requires.widths) in
    record {
      values = shown_last (λ (n : ℕ). word_of (entry_at c.args.names.now n).kind c.args.now.now.view) c.loop-i.out c.args.outputs.now c.loop-i.i ended many c.loop-i.invariant.values;
      widths = c.loop-i.invariant.widths;
    }
