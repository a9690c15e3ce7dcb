use Rattle.s_map.proofs.Answered.{is_alone, is_network, no_fault}
use Rattle.s_map.proofs.reading.network_of.Goals as goal

pub returns-clause-is : goal.returns-clause-is
returns-clause-is c = is_network c.args.bytes.now c.read.result c.requires c.read.ensures.text c.read.ensures.formed

pub returns-clause-alone : goal.returns-clause-alone
returns-clause-alone c = is_alone c.args.bytes.now c.read.result c.read.ensures.text

pub returns-clause-only : goal.returns-clause-only
returns-clause-only c n is = no_fault c.args.bytes.now n c.read.result c.read.ensures.only is
