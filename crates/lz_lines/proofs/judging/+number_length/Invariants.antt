use Rattle.lz_lines.proofs.judging.+number_length.Given as goal

abbrev pub decreases-number_length : goal.decreases-number_length
decreases-number_length l = l.n
