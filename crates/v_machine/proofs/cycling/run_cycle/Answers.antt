use Rattle.std.proofs.Common.{◌≡◌, ap, sym, ◌∙◌, arith, ℕ, List, length, [], map}
use Rattle.v_meaning.specs.Names.{word_of}
use Rattle.v_core.specs.declared.modules.TypedProcess.{TypedProcess}
use Rattle.v_core.specs.Cores.{acts_where}
use Rattle.v_core.specs.Values.{entry_at}
use Rattle.v_order.specs.Stepping.{all_finished, next_of}
use Rattle.v_machine.specs.Runnable.{process_counts, shape_of}
use Rattle.v_machine.proofs.Beginning.{outputs_are}
use Rattle.v_machine.proofs.Runs.{names_fit, processes_formed, processes_sited}
use Rattle.v_machine.proofs.Stepped.{is_clocked}
use Rattle.v_machine.proofs.cycling.run_cycle.Goals as goal

pub show-requires : goal.show-requires
show-requires c =
    let shaped : c.begin.new.now.shape ≡ shape_of c.args.core.now = c.begin.ensures.shape ∙ c.requires.shape in
    record {
      widths = c.requires.outputs ∙ outputs_are c.args.core.now.names c.args.core.now.outputs
          ∙ sym (λ i. map (λ (n : ℕ). (entry_at (c.as_slice-names.ensures i) n).width) (c.as_slice.ensures i));
      fits = names_fit c.args.core.now c.args.order.now c.requires.runs _ _ c.as_slice-names.ensures shaped;
    }

pub edge-requires : goal.edge-requires
edge-requires c =
    let shaped : c.begin.new.now.shape ≡ shape_of c.args.core.now = c.begin.ensures.shape ∙ c.requires.shape in
    record {
      formed = processes_formed c.args.core.now c.args.order.now c.requires.runs _ _ c.as_slice-names.ensures shaped _ c.as_slice-2.ensures;
      sited = processes_sited c.args.core.now c.args.order.now c.requires.runs _ _ c.as_slice-names.ensures shaped _ c.as_slice-2.ensures;
      fits = names_fit c.args.core.now c.args.order.now c.requires.runs _ _ c.as_slice-names.ensures shaped;
      counted = omega (arith, ap process_counts c.as_slice-2.ensures, c.requires.counted);
      room = omega (arith, ap process_counts c.as_slice-2.ensures, c.requires.room);
      empty = c.requires.empty;
      places = omega (arith, ap (λ (ps : List TypedProcess). length ps) c.as_slice-2.ensures, c.requires.places);
    }

pub returns-clause-shown : goal.returns-clause-shown
returns-clause-shown c =
    c.show.ensures.values ∙ (λ i. map (λ (n : ℕ). word_of (entry_at (c.as_slice-names.ensures i) n).kind (c.begin.ensures.view i)) (c.as_slice.ensures i))

pub returns-clause-next : goal.returns-clause-next
returns-clause-next c =
    c.edge.ensures.next
    ∙ (λ i. next_of (all_finished (acts_where is_clocked (c.as_slice-names.ensures i) (c.as_slice-2.ensures i)) (record { view = c.begin.ensures.view i; queue = [] })))
