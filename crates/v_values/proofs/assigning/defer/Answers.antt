use Rattle.std.proofs.Common.{◌<◌, ◌++◌, ap, sym, subst, ◌∙◌, ℕ, List}
use Rattle.std.specs.Prelude.{◌^◌}
use Rattle.v_meaning.specs.Views.{Write}
use Rattle.v_core.specs.Statements.{target_in}
use Rattle.v_values.specs.Writes.{all_fit}
use Rattle.v_values.proofs.TargetLaws.{cut_writes}
use Rattle.v_values.proofs.assigning.defer.Goals as goal

pub target_width-width-requires : goal.target_width-width-requires
target_width-width-requires c = record { kept = (c.args.names.now, c.args.now.now.shape.sites, c.requires.kept) }

pub enqueue-requires : goal.enqueue-requires
enqueue-requires c = record {
  kept = c.requires.kept;
  fits = c.requires.fits;
  below = subst (λ (w : ℕ). c.cut-bits.result < 2 ^ w) (c.target_width-width.ensures.width c.args.names.now) c.cut-bits.ensures.below;
  room = c.requires.room;
}

pub returns : goal.returns
returns c =
    let same = cut_writes (target_in c.args.target.now c.args.names.now) c.target_width-width.result c.args.value c.cut-bits.result c.args.now.now.view
    (c.target_width-width.ensures.width c.args.names.now) c.cut-bits.ensures.value in
    record {
      writes = c.enqueue.ensures.writes ∙ ap (λ (ws : List Write). c.args.queue.now.writes ++ ws) same;
      fit = sym (ap (all_fit c.args.now.now.shape) same) ∙ c.enqueue.ensures.fit;
      few = c.enqueue.ensures.few;
      room = c.enqueue.ensures.room;
    }
