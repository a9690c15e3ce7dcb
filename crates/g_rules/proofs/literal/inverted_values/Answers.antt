use Rattle.g_rules.proofs.Literals.{inverted_value, node_of_inverted}
use Rattle.g_rules.proofs.literal.inverted_values.Goals as goal

pub returns : goal.returns
returns c = record { value = inverted_value; node = node_of_inverted }
