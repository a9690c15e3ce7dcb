use Rattle.std.proofs.Common.{◌≡◌, ◌++◌, drop}
use Rattle.m_valid.specs.Assembly.{nets_of, with_inverters}
use Rattle.m_assembly.proofs.ends.nets_of.Given as goal

abbrev pub invariant-loop-literal : goal.invariant-loop-literal
invariant-loop-literal l = record {
  made : with_inverters l.draft (drop l.literal-index l.literals) ≡ with_inverters l.initial.draft l.literals;
  nets : l.nets ++ nets_of l.draft (drop l.literal-index l.literals) ≡ nets_of l.initial.draft l.literals;
}
