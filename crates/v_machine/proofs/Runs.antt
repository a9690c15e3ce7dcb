-- What is known of a module that a machine can be made of, over the lists that its parts are read as.
use Rattle.std.proofs.Common.{◌≡◌, ◌∙◌, ℕ, List, true}
use Rattle.std.specs.List.{list_all}
use Rattle.v_meaning.specs.declared.names.Entry.{Entry}
use Rattle.v_core.specs.SitedCores.{is_sited_stmt}
use Rattle.v_core.specs.declared.modules.TypedAssign.{TypedAssign}
use Rattle.v_core.specs.declared.modules.TypedProcess.{TypedProcess}
use Rattle.v_core.specs.declared.modules.Core.{Core}
use Rattle.v_core.specs.Cores.{design_in}
use Rattle.v_core.specs.Formed.{formed}
use Rattle.v_core.specs.FormedCores.{is_formed_stmt}
use Rattle.v_core.specs.Sited.{is_sited}
use Rattle.v_values.specs.Moments.{Shape, fit}
use Rattle.v_machine.specs.Runnable.{CanRun, is_measured, shape_of}
use Rattle.v_machine.proofs.Lists.{first_of, second_of}

module _ (c : Core) (order : List ℕ) (runs : CanRun c order) (names : List Entry) (s : Shape) (names_are : names ≡ c.names) (shaped : s ≡ shape_of c) where
  pub assigns_formed : (assigns : List TypedAssign) → assigns ≡ c.assigns → list_all (λ (a : TypedAssign). (formed a.value names).kept) assigns ≡ true
  assigns_formed assigns same =
      (λ i. list_all (λ (a : TypedAssign). (formed a.value (names_are i)).kept) (same i))
      ∙ first_of (list_all (λ (a : TypedAssign). (formed a.value c.names).kept) c.assigns) (list_all (λ (p : TypedProcess). is_formed_stmt p.body c.names) c.processes) runs.formed

  pub assigns_sited : (assigns : List TypedAssign) → assigns ≡ c.assigns → list_all (λ (a : TypedAssign). is_sited a.value names s.sites) assigns ≡ true
  assigns_sited assigns same =
      (λ i. list_all (λ (a : TypedAssign). is_sited a.value (names_are i) (shaped i).sites) (same i))
      ∙ first_of (list_all (λ (a : TypedAssign). is_sited a.value c.names (design_in c).sites) c.assigns)
      (list_all (λ (p : TypedProcess). is_sited_stmt p.body c.names (design_in c).sites) c.processes) runs.sited

  pub assigns_measured : (assigns : List TypedAssign) → assigns ≡ c.assigns → list_all (is_measured s) assigns ≡ true
  assigns_measured assigns same = (λ i. list_all (is_measured (shaped i)) (same i)) ∙ runs.measured

  pub names_fit : fit s names ≡ true
  names_fit = (λ i. fit (shaped i) (names_are i)) ∙ runs.named

  pub processes_formed : (processes : List TypedProcess) → processes ≡ c.processes → list_all (λ (p : TypedProcess). is_formed_stmt p.body names) processes ≡ true
  processes_formed processes same =
      (λ i. list_all (λ (p : TypedProcess). is_formed_stmt p.body (names_are i)) (same i))
      ∙ second_of (list_all (λ (a : TypedAssign). (formed a.value c.names).kept) c.assigns) (list_all (λ (p : TypedProcess). is_formed_stmt p.body c.names) c.processes) runs.formed

  pub processes_sited : (processes : List TypedProcess) → processes ≡ c.processes → list_all (λ (p : TypedProcess). is_sited_stmt p.body names s.sites) processes ≡ true
  processes_sited processes same =
      (λ i. list_all (λ (p : TypedProcess). is_sited_stmt p.body (names_are i) (shaped i).sites) (same i))
      ∙ second_of (list_all (λ (a : TypedAssign). is_sited a.value c.names (design_in c).sites) c.assigns)
      (list_all (λ (p : TypedProcess). is_sited_stmt p.body c.names (design_in c).sites) c.processes) runs.sited
