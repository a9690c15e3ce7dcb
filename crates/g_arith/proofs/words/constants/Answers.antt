use Rattle.std.proofs.Common.{arith}
use Rattle.g_net.specs.Walk.{values_of}
use Rattle.g_arith.proofs.Adder.{literal_zero, literal_one}
use Rattle.g_arith.proofs.words.constants.Goals as goal

pub returns-clause-zero : goal.returns-clause-zero
returns-clause-zero c = λ n. record { there = omega arith; equal = λ sources many. literal_zero (values_of n sources) (c.sources_first.ensures.constant n sources) }

pub returns-clause-one : goal.returns-clause-one
returns-clause-one c = λ n. record { there = omega arith; equal = λ sources many. literal_one (values_of n sources) (c.sources_first.ensures.constant n sources) }
