use Rattle.v_places.proofs.Thinning.{sites_among}
use Rattle.v_places.proofs.Found.{bits_of_each}
use Rattle.v_places.proofs.law.open_bits_are_read.Goals as goal

pub returns : goal.returns
returns c = record { read = bits_of_each; sites = λ m names. sites_among names m.items }
