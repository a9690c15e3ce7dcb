use Rattle.std.proofs.Common.{ℕ, List, subst}
use Rattle.v_typed.specs.Sited.{ItemRead}
use Rattle.v_typed.proofs.Read.{read_assigns, read_wires, where_whole}
use Rattle.v_typed.proofs.parts.add_item.Goals as goal

pub returns-in-Wires-clause-sited_assigns : goal.returns-in-Wires-clause-sited_assigns
returns-in-Wires-clause-sited_assigns c =
    where_whole _ _ (λ (widths : List ℕ). ItemRead widths c.args.sites.now c.args.names.now c.args.item.now) _
    (λ widths read. read_wires widths c.args.sites.now c.args.names.now c.args.item.now _ _ _ _ c.in-Wires.is c.as_slice.ensures read) c.add_wires.ensures.sited

pub returns-in-Assigns-clause-sited_assigns : goal.returns-in-Assigns-clause-sited_assigns
returns-in-Assigns-clause-sited_assigns c =
    where_whole _ _ (λ (widths : List ℕ). ItemRead widths c.args.sites.now c.args.names.now c.args.item.now) _
    (λ widths read. read_assigns widths c.args.sites.now c.args.names.now c.args.item.now _ _ c.in-Assigns.is c.as_slice-in-Assigns.ensures read) c.add_assigns.ensures.sited

pub returns-in-Always-clause-sited_processes : goal.returns-in-Always-clause-sited_processes
returns-in-Always-clause-sited_processes c =
    where_whole _ _ (λ (widths : List ℕ). ItemRead widths c.args.sites.now c.args.names.now c.args.item.now) _
    (λ widths read. subst (ItemRead widths c.args.sites.now c.args.names.now) c.in-Always.is read) c.add_process.ensures.sited
