use Rattle.std.proofs.Common.{◌∷◌, ap, ◌∙◌}
use Rattle.lz_lines.proofs.Places.{word_further}
use Rattle.lz_lines.proofs.reading.+read_word.Goals as goal

pub returns-in-Some-split_first-clause-reads : goal.returns-in-Some-split_first-clause-reads
returns-in-Some-split_first-clause-reads t c =
    let here = c.in-Some-split_first.ensures.cases.0 ∙ ap (λ b. b ∷ c.in-Some-split_first.rest.now) c.if-byte-letter.true in
    word_further (λ r. r.now) c.args.word.now c.in-Some.letters.now c.args.bytes.now c.in-Some-split_first.rest.now c.in-Some.letter.now c.read_word.result c.in-Some.ensures.cases.0 here c.read_word.ensures.reads
