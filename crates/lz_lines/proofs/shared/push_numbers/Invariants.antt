use Rattle.std.proofs.Common.{◌≡◌, ◌++◌, take, flat_map}
use Rattle.lz_lines.specs.Fields.{AllUpTo, greatest, number}
use Rattle.lz_lines.proofs.shared.push_numbers.Given as goal

abbrev pub invariant-loop-n : goal.invariant-loop-n
invariant-loop-n l = record {
  text : l.out.items ≡ l.initial.out.items ++ flat_map number (take l.n-index l.ns);
  small : AllUpTo greatest (take l.n-index l.ns);
}
