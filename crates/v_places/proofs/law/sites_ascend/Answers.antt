use Rattle.v_places.proofs.Found.{sites_increase}
use Rattle.v_places.proofs.law.sites_ascend.Goals as goal

pub returns : goal.returns
returns c = sites_increase
