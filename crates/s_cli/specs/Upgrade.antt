-- What the upgrade of a netlist of format 1 answers.
use Rattle.std.specs.Prelude.{◌≡◌, ◌↔◌, ℕ, List}
use Rattle.lz_base.specs.WordValue.{WordValue}
use Rattle.n_cells.specs.Form.{HasForm}
use Rattle.n_cells.specs.Netlist.{NetlistValue}
use Rattle.n_cells.specs.Run.{Runs, first_state}
use Rattle.n_cells.specs.OldRun.{OldRuns}
use Rattle.n_cells.specs.Text.{text}
use Rattle.n_cells.specs.declared.format.Format.TheVariants.{One, Two}
use Rattle.s_cli.specs.declared.status.Status.{Status}
use Rattle.s_cli.specs.declared.status.Status.TheVariants as status
use Rattle.s_cli.specs.Status.{IsUnlessMemory, IsRefusedUnlessMemory}
use Rattle.s_cli.specs.Simulation.{IsNetlist, IsNetlistFault}

-- The output for a netlist of format 1: the text of the same netlist in format 2, in which every flip-flop is always
-- enabled, so that for all words at its inputs it shows what the old run shows.
pub record IsUpgrade (old output : List ℕ) : Type 0 where
  pub netlist : NetlistValue
  pub read : IsNetlist One old netlist
  pub form : HasForm Two netlist
  pub printed : output ≡ text Two netlist
  pub same : (cycles shown : List (List WordValue)) → Runs netlist (first_state netlist) cycles shown ↔ OldRuns netlist (first_state netlist) cycles shown

-- What the status is where no call on the files and on the output failed, each unless memory was wanting.
pub record IsOldJudged (old : List ℕ) (result : Status) : Type 0 where
  pub bad : ((n : NetlistValue) → IsNetlist One old n → ⊥) → IsRefusedUnlessMemory result (IsNetlistFault One old)
  pub good : (n : NetlistValue) → IsNetlist One old n → IsUnlessMemory result status.Ok
