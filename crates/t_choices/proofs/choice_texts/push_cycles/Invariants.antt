use Rattle.std.proofs.Common.{◌≡◌, ◌++◌, take, flat_map}
use Rattle.std.specs.Prelude.{codes}
use Rattle.t_choices.specs.ChoiceTexts.{choice_line}
use Rattle.t_choices.proofs.choice_texts.push_cycles.Given as goal

abbrev pub invariant-loop-bits : goal.invariant-loop-bits
invariant-loop-bits l = l.out.items ≡ l.initial.out.items ++ flat_map (choice_line (codes "cycle")) (take l.bits-index l.cycles)
