use Rattle.v_places.proofs.Found.{number_of_each, number_of_none}
use Rattle.v_places.proofs.law.sites_are_found.Goals as goal

pub returns : goal.returns
returns c = record { number = number_of_each; none = number_of_none }
