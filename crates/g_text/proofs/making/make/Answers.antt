use Rattle.std.proofs.Common.{sym, subst}
use Rattle.lz_base.specs.Names.{AreDistinct}
use Rattle.g_net.specs.Network.{NetworkValue, names_of}
use Rattle.g_text.specs.Raw.{raw_value}
use Rattle.g_text.proofs.Filling.{start_names}
use Rattle.g_text.proofs.making.make.Goals as goal

pub fill_inputs-requires-clause-names : goal.fill_inputs-requires-clause-names
fill_inputs-requires-clause-names c =
    start_names c.new-network.result (raw_value c.raw.inside) c.as_slice.result.now c.raw.inside.name c.new-network.ensures c.as_slice.ensures
    (subst (λ (n : NetworkValue). AreDistinct (names_of n)) (sym c.raw.view_is) c.requires.names)
