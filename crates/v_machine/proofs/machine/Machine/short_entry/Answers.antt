use Rattle.std.proofs.Common.{◌∙◌, ap, Option, None, Some}
use Rattle.std.specs.Prelude.{IfNone}
use Rattle.std.proofs.lemmas.Option.{IfSome_then}
use Rattle.v_meaning.specs.Views.{View}
use Rattle.v_machine.proofs.Outcomes.{complete_is, incomplete_is, refused_is}
use Rattle.v_machine.proofs.machine.Machine.short_entry.Goals as goal

-- what follows from what a clause says where there is no value
none_then : {X : Type 0} (r : Option X) {P Q : Type 0} → IfNone r P → (P → Q) → IfNone r Q
none_then None h f = f h
none_then (Some x) h f = tt

pub returns-clause-complete : goal.returns-clause-complete
returns-clause-complete c =
    none_then c.short_entry.result c.short_entry.ensures.counted
    (complete_is c.args.self.now _ _ _ _ _ _ c.self.view_is c.self.invariant.runs c.as_slice.ensures.value c.requires.choice _ _ _ (c.as_mut_slice.ensures.value ∙ c.count_steps.ensures.counts)
    (ap (λ (v : View). v.store) c.copy_store.ensures.view) c.schedules_are_counted.ensures.complete)

pub returns-clause-incomplete : goal.returns-clause-incomplete
returns-clause-incomplete c =
    IfSome_then c.short_entry.result c.short_entry.ensures.short
    (incomplete_is c.args.self.now _ _ _ _ _ _ c.self.view_is c.self.invariant.runs c.as_slice.ensures.value c.requires.choice _ _ _ (c.as_mut_slice.ensures.value ∙ c.count_steps.ensures.counts)
    (ap (λ (v : View). v.store) c.copy_store.ensures.view) c.schedules_are_counted.ensures.incomplete)

pub returns-clause-refused : goal.returns-clause-refused
returns-clause-refused c =
    IfSome_then c.short_entry.result c.short_entry.ensures.short
    (refused_is c.args.self.now _ _ _ _ _ _ c.self.view_is c.self.invariant.runs c.as_slice.ensures.value c.requires.choice _ _ _ (c.as_mut_slice.ensures.value ∙ c.count_steps.ensures.counts)
    (ap (λ (v : View). v.store) c.copy_store.ensures.view) c.any_order_cycles.ensures c.schedules_are_counted.ensures.complete)
