-- The status that a netlist of format 1 calls for.
use Rattle.std.proofs.Common.{◌≡◌, ℕ, List, [], ◌∷◌, length, Option, Ok, Err, Vec, refl, inl, inr}
use Rattle.std.specs.Prelude.{◌↔◌, Bool}
use Rattle.std.specs.declared.alloc.Global.{Global}
use Rattle.lz_base.specs.Limits.{text_limit}
use Rattle.lz_base.specs.WordValue.{WordValue}
use Rattle.lz_base.specs.declared.fault.Stop.{Stop}
use Rattle.lz_base.specs.declared.fault.Stop.TheVariants as stop
use Rattle.n_cells.specs.Form.{HasForm, HaveEnables}
use Rattle.n_cells.specs.Netlist.{NetlistValue}
use Rattle.n_cells.specs.OldRun.{OldRuns}
use Rattle.n_cells.specs.Run.{Runs, first_state}
use Rattle.n_cells.specs.Text.{text}
use Rattle.n_cells.specs.declared.format.Format.TheVariants.{One, Two}
use Rattle.s_cli.specs.declared.forms.Command.TheVariants as command
use Rattle.s_cli.specs.declared.status.Status.TheVariants as status
use Rattle.s_cli.specs.Answers.{Decides}
use Rattle.s_cli.specs.Reading.{Reads}
use Rattle.s_cli.specs.Texts.{IsWhole}
use Rattle.s_cli.specs.Upgrade.{IsUpgrade, IsOldJudged}

pub old_judged_memory : (old : List ℕ) → IsOldJudged old status.OutOfMemory
old_judged_memory old = record { bad = λ _. inr refl; good = λ _ _. inr refl }

pub old_refused : (whole : Option (Vec ℕ Global)) (e : Stop) → Reads One whole (Err e) → (bytes : List ℕ) → IsWhole text_limit whole bytes → Decides (λ (v : Vec ℕ Global). IsUpgrade bytes v.items) command.Upgrade (bytes ∷ []) (Err e)
old_refused whole (stop.Fault fault) reads bytes is =
    let r = reads bytes is in
    (r.0, record { bad = λ _. inl (fault, r.0, refl); good = λ n read. absurd (r.1 n read) })
old_refused whole stop.OutOfMemory reads bytes is = tt

-- the law of runs with and without enables, and the number of first bits
abbrev pub OldRunLaw : Type 0
OldRunLaw = (n : NetlistValue) (state : List Bool) (cycles outputs : List (List WordValue)) → HaveEnables One n.flops → length state ≡ length n.flops → (Runs n state cycles outputs ↔ OldRuns n state cycles outputs)

pub upgraded : (whole : Option (Vec ℕ Global)) (n : NetlistValue) (output : Vec ℕ Global) → OldRunLaw → length (first_state n) ≡ length n.flops → Reads One whole (Ok n) → HasForm Two n → output.items ≡ text Two n
    → (bytes : List ℕ) → IsWhole text_limit whole bytes → Decides (λ (v : Vec ℕ Global). IsUpgrade bytes v.items) command.Upgrade (bytes ∷ []) (Ok output)
upgraded whole n output law bits reads form printed bytes is =
    let r = reads bytes is in (
      record { netlist = n; read = r.0; form = form; printed = printed; same = λ cycles shown. law n (first_state n) cycles shown r.0.form.fits.enables bits },
      record { bad = λ none. absurd (none n r.0); good = λ _ _. inl refl },
    )
