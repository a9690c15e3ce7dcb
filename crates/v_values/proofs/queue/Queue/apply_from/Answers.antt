use Rattle.std.proofs.Common.{ap, ◌∙◌, List}
use Rattle.v_meaning.specs.Views.{Write, applied}
use Rattle.v_values.specs.Writes.{all_fit}
use Rattle.v_values.proofs.Waiting.{from_is, before_is}
use Rattle.v_values.proofs.queue.Queue.apply_from.Goals as goal

pub apply-requires : goal.apply-requires
apply-requires c = record { fit = ap (all_fit c.args.now.now.shape) (from_is c.args.self.now _ _ _ _ c.self.view_is c.deref.ensures.value) ∙ c.requires.fit }

pub returns-clause-view : goal.returns-clause-view
returns-clause-view c = c.apply.ensures.view ∙ ap (λ (ws : List Write). applied c.args.now.now.view ws) (from_is c.args.self.now _ _ _ _ c.self.view_is c.deref.ensures.value)

pub returns-clause-writes : goal.returns-clause-writes
returns-clause-writes c = before_is c.args.self.now _ _ _ _ c.self.view_is c.truncate.ensures.items
