-- The form of a network's text: a network whose lines and fields are those of the grammar, whatever its literals and names
-- refer to.
use Rattle.std.specs.Prelude.{◌≤◌, List, length}
use Rattle.std.specs.Option.{option_to_list}
use Rattle.lz_base.specs.declared.name.Port.{Port}
use Rattle.lz_base.specs.Names.{IsName}
use Rattle.lz_lines.specs.Fields.{AllUpTo, Each, greatest}
use Rattle.g_net.specs.declared.network.Flip.{Flip}
use Rattle.g_net.specs.declared.network.Gate.{Gate}
use Rattle.g_net.specs.declared.network.Gate.TheVariants.{And, Xor, Carry}
use Rattle.g_net.specs.declared.network.Output.{Output}
use Rattle.lz_circuit.specs.Lines.{HasClock}
use Rattle.g_net.specs.Network.{NetworkValue}

abbrev pub IsPort : Port → Type 0
IsPort p = IsName p.name × (1 ≤ p.width) × (p.width ≤ 128)

abbrev pub IsFlip : Flip → Type 0
IsFlip f = (f.literal ≤ greatest) × (f.enable ≤ greatest)

abbrev pub IsGate : Gate → Type 0
IsGate (And a b) = (a ≤ greatest) × (b ≤ greatest)
IsGate (Xor a b) = (a ≤ greatest) × (b ≤ greatest)
IsGate (Carry a b c) = (a ≤ greatest) × (b ≤ greatest) × (c ≤ greatest)

abbrev pub IsOutput : Output → Type 0
IsOutput o = IsName o.name × (1 ≤ length o.literals) × (length o.literals ≤ 128) × AllUpTo greatest o.literals

pub record HasForm (n : NetworkValue) : Type 0 where
  pub name : IsName n.name
  pub clock : Each IsName (option_to_list n.clock)
  pub inputs : Each IsPort n.inputs
  pub clocked : HasClock n.clock n.flips
  pub flips : Each IsFlip n.flips
  pub gates : Each IsGate n.gates
  pub outputs : Each IsOutput n.outputs
