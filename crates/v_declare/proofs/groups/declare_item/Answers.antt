use Rattle.std.proofs.Common.{ap}
use Rattle.v_syntax.specs.declared.module.Item.{Item}
use Rattle.v_meaning.specs.Declarations.{behind_item}
use Rattle.v_meaning.specs.ConstantRules.{item_faults}
use Rattle.v_declare.specs.Walks.{first_of}
use Rattle.v_declare.proofs.Walking.{same_answer}
use Rattle.v_declare.proofs.Items.{when_wires, when_regs, when_assigns, same_names, behind_those_wires, behind_those_regs}
use Rattle.v_declare.proofs.groups.declare_item.Goals as goal

pub returns-in-Parameters-clause-judged : goal.returns-in-Parameters-clause-judged
returns-in-Parameters-clause-judged c =
    same_answer c.declare_parameters.result _ _ (ap (λ (x : Item). first_of (item_faults c.args.names.now x)) c.in-Parameters.is) c.declare_parameters.ensures.judged

pub returns-in-Parameters-clause-behind : goal.returns-in-Parameters-clause-behind
returns-in-Parameters-clause-behind c =
    same_names c.declare_parameters.result _ _ _ (ap (behind_item c.args.roles.now c.args.names.now) c.in-Parameters.is) c.declare_parameters.ensures.behind

pub returns-in-LocalParameters-clause-judged : goal.returns-in-LocalParameters-clause-judged
returns-in-LocalParameters-clause-judged c =
    same_answer c.declare_parameters-in-LocalParameters.result _ _ (ap (λ (x : Item). first_of (item_faults c.args.names.now x)) c.in-LocalParameters.is) c.declare_parameters-in-LocalParameters.ensures.judged

pub returns-in-LocalParameters-clause-behind : goal.returns-in-LocalParameters-clause-behind
returns-in-LocalParameters-clause-behind c =
    same_names c.declare_parameters-in-LocalParameters.result _ _ _ (ap (behind_item c.args.roles.now c.args.names.now) c.in-LocalParameters.is) c.declare_parameters-in-LocalParameters.ensures.behind

pub returns-in-Wires-clause-judged : goal.returns-in-Wires-clause-judged
returns-in-Wires-clause-judged c = same_answer c.declare_wires.result _ _ (when_wires c.args.names.now c.args.item.now _ _ _ _ c.in-Wires.is c.as_slice.ensures) c.declare_wires.ensures.judged

pub returns-in-Wires-clause-behind : goal.returns-in-Wires-clause-behind
returns-in-Wires-clause-behind c =
    same_names c.declare_wires.result _ _ _ (behind_those_wires c.args.roles.now c.args.names.now c.args.item.now _ _ _ _ c.in-Wires.is c.as_slice.ensures) c.declare_wires.ensures.behind

pub returns-in-Regs-clause-judged : goal.returns-in-Regs-clause-judged
returns-in-Regs-clause-judged c =
    same_answer c.declare_regs.result _ _ (when_regs c.args.names.now c.args.item.now _ _ _ _ c.in-Regs.is c.as_slice-in-Regs.ensures) c.declare_regs.ensures.judged

pub returns-in-Regs-clause-behind : goal.returns-in-Regs-clause-behind
returns-in-Regs-clause-behind c =
    same_names c.declare_regs.result _ _ _ (behind_those_regs c.args.roles.now c.args.names.now c.args.item.now _ _ _ _ c.in-Regs.is c.as_slice-in-Regs.ensures) c.declare_regs.ensures.behind

pub returns-in-Assigns-clause-judged : goal.returns-in-Assigns-clause-judged
returns-in-Assigns-clause-judged c =
    same_answer c.judge_settings.result _ _ (when_assigns c.args.names.now c.args.item.now _ _ c.in-Assigns.is c.as_slice-in-Assigns.ensures) c.judge_settings.ensures
