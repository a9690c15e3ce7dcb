use Rattle.v_parser.proofs.ModuleRules.{reads_module}
use Rattle.v_parser.proofs.Refused.{one_value}
use Rattle.v_parser.proofs.parsing.one_module.Goals as goal

pub returns : goal.returns
returns c = one_value reads_module
