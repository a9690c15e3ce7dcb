use Rattle.std.proofs.Common.{◌≡◌, ◌++◌, take, flat_map}
use Rattle.lz_base.specs.Names.{IsName}
use Rattle.lz_lines.specs.Fields.{Each}
use Rattle.lz_lines.specs.Shared.{input_line}
use Rattle.lz_lines.proofs.shared.push_inputs.Given as goal

abbrev pub invariant-loop-port : goal.invariant-loop-port
invariant-loop-port l = record {
  text : l.out.items ≡ l.initial.out.items ++ flat_map input_line (take l.port-index l.ports);
  named : Each (λ p. IsName p.name) (take l.port-index l.ports);
}
