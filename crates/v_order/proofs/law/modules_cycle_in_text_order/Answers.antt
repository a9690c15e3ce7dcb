use Rattle.v_order.proofs.ModuleSteady.{module_cycles}
use Rattle.v_order.proofs.law.modules_cycle_in_text_order.Goals as goal

pub returns : goal.returns
returns c = module_cycles
