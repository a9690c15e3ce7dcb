use Rattle.std.proofs.Common.{◌≡◌, ◌∙◌, refl, sym, false, Some}
use Rattle.v_values.specs.contracts.moment.Moment.{the_view}
use Rattle.v_meaning.specs.Declarations.{is_variable}
use Rattle.v_machine.specs.Firsts.{added_as, count_in}
use Rattle.v_machine.proofs.FirstWords.{memory_added}
use Rattle.v_machine.proofs.making.add.Goals as goal

pub returns-in_ok-push-in-Some-clause-added : goal.returns-in_ok-push-in-Some-clause-added
returns-in_ok-push-in-Some-clause-added c =
    let none : false ≡ is_variable c.args.entry.now.kind = sym c.if-is_variable.false ∙ c.is_variable.ensures in
    let memory : Some c.in-Some.count ≡ count_in c.args.entry.now.kind = sym c.in-Some.is ∙ c.count_in.ensures in
    memory_added c.args.entry.now c.args.bits.now c.in-Some.count (the_view c.now.inside) c.now.inside.memories.items _ _ c.in_ok-memory-in-Some.ensures.words c.in_ok-push-in-Some.ensures.items refl refl refl
    ∙ (λ i. added_as (none i) (memory i) c.args.entry.now c.args.bits.now (c.now.view_is i))
