use Rattle.std.proofs.Common.{◌≡◌, ℕ, take, map}
use Rattle.v_meaning.specs.Names.{word_of}
use Rattle.v_core.specs.Values.{entry_at}
use Rattle.v_values.specs.Seen.{values_of, widths_of}
use Rattle.v_machine.proofs.settling.show.Given as goal

abbrev pub invariant-loop-i : goal.invariant-loop-i
invariant-loop-i l = record {
  values : values_of (take l.i l.out) ≡ map (λ (n : ℕ). word_of (entry_at l.names n).kind l.now.view) (take l.i l.outputs);
  widths : widths_of l.out ≡ widths_of l.fn.out;
}
