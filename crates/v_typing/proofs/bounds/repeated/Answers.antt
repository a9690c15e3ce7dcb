use Rattle.std.proofs.Common.{ap, ◌∙◌, sym, subst, ℕ, ◌*◌, ◌≤◌}
use Rattle.v_meaning.specs.Senses.{replicated}
use Rattle.v_meaning.specs.Proper.{proper_value}
use Rattle.v_core.specs.Bodies.{sense_in}
use Rattle.v_typing.proofs.OperatorLaws.{Meaning}
use Rattle.v_typing.proofs.SoundLaws.{some_count, count_some, count_within, value_of}
use Rattle.v_typing.proofs.bounds.repeated.Goals as goal

pub bound-requires : goal.bound-requires
bound-requires c = some_count _ c.requires.counted

pub replicated-requires-clause-few : goal.replicated-requires-clause-few
replicated-requires-clause-few c = count_within (proper_value c.args.names.now c.args.count.now) _ c.in_ok-n.ensures c.requires.counted

pub replicated-requires-clause-room : goal.replicated-requires-clause-room
replicated-requires-clause-room c =
    subst (λ (k : ℕ). k * c.args.x.width ≤ 128) (sym (value_of c.args.names.now c.args.count.now _ c.in_ok-n.ensures)) c.requires.room

pub returns-clause-value : goal.returns-clause-value
returns-clause-value c =
    ap (λ (f : Meaning). f c.args.names.now) c.in_ok-o.ensures.value
    ∙ ap (λ (k : ℕ). replicated k (sense_in c.args.x c.args.names.now)) (value_of c.args.names.now c.args.count.now _ c.in_ok-n.ensures)

pub returns-clause-form : goal.returns-clause-form
returns-clause-form c h =
    c.in_ok-o.ensures.form c.args.names.now (count_some (proper_value c.args.names.now c.args.count.now) _ c.in_ok-n.ensures c.requires.counted) h

pub returns-clause-sited : goal.returns-clause-sited
returns-clause-sited c = c.in_ok-o.ensures.sited
