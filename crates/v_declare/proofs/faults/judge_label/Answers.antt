use Rattle.std.proofs.Common.{ap}
use Rattle.v_declare.specs.Walks.{first_of}
use Rattle.v_declare.proofs.Walking.{same_answer}
use Rattle.v_declare.proofs.StmtFaults.{when_items, when_default}
use Rattle.v_declare.proofs.faults.judge_label.Goals as goal

pub returns-in-Items : goal.returns-in-Items
returns-in-Items c = same_answer c.judge_exprs.result _ _ (ap first_of (when_items c.args.names.now _ _ _ c.in-Items.is c.as_slice.ensures)) c.judge_exprs.ensures

pub returns-in-Default : goal.returns-in-Default
returns-in-Default c = ap first_of (when_default c.args.names.now _ _ c.in-Default.is)
