use Rattle.std.proofs.Common.{length}
use Rattle.lz_lines.proofs.words.+read_key.Given as goal

abbrev pub decreases-read_key : goal.decreases-read_key
decreases-read_key g l = length l.keys.now
