use Rattle.std.proofs.Common.{length}
use Rattle.lz_lines.proofs.reading.+read_word.Given as goal

abbrev pub decreases-read_word : goal.decreases-read_word
decreases-read_word l = length l.word.now
