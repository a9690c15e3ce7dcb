use Rattle.std.proofs.Common.{◌≡◌}
use Rattle.s_cli.specs.Words.{limits_of, names_in}
use Rattle.s_cli.proofs.Texts.{ReadTo}
use Rattle.s_cli.proofs.reading.read_texts.Given as goal

abbrev pub invariant-loop-i : goal.invariant-loop-i
invariant-loop-i g l = record {
  told : g.F.Files.told l.files ≡ g.F.Files.told l.initial.files;
  faults : g.F.Files.faults l.files ≡ g.F.Files.faults l.initial.files;
  read : ReadTo (g.F.Files.told l.initial.files) (names_in l.words) (limits_of l.command) l.i l.texts.items;
}
