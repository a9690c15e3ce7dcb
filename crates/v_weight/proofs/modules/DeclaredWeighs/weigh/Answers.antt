use Rattle.v_weight.proofs.ModuleLaws.{no_wire, some_wire}
use Rattle.v_weight.proofs.modules.DeclaredWeighs.weigh.Goals as goal

pub returns-in_ok-all-in-Some : goal.returns-in_ok-all-in-Some
returns-in_ok-all-in-Some c = some_wire c.args.names.now c.args.self.now.name c.args.self.now.value _ _ c.in-Some.is c.in_ok-all-in-Some.ensures

pub returns-in-None : goal.returns-in-None
returns-in-None c sound = no_wire c.args.names.now c.args.self.now.name c.args.self.now.value c.in-None.is
