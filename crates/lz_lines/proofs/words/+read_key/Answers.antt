use Rattle.lz_lines.proofs.Keywords.{last_taken, last_broken, key_first, key_later, key_none}
use Rattle.lz_lines.proofs.words.+read_key.Goals as goal

pub returns-in-Ok-clause-reads : goal.returns-in-Ok-clause-reads
returns-in-Ok-clause-reads g t c = last_taken g.K.Keyword.spelled c.args.last c.args.keys.now _ c.in_default.ensures.cases c.word.ensures c.in-Ok.ensures.reads

pub returns-in-Err-clause-reads : goal.returns-in-Err-clause-reads
returns-in-Err-clause-reads g t c = last_broken g.K.Keyword.spelled c.args.last c.args.keys.now _ c.in_default.ensures.cases c.word.ensures c.in-Err.ensures.reads

pub returns-in-Ok-read_word-clause-reads : goal.returns-in-Ok-read_word-clause-reads
returns-in-Ok-read_word-clause-reads g t c =
    key_first g.K.Keyword.spelled c.args.last c.in-Some.key.now c.in-Some.others.now c.args.keys.now _ c.requires c.in-Some.ensures.cases.0 c.word-2.ensures c.in-Ok-read_word.ensures.reads

pub returns-in-Ok-read_key-clause-reads : goal.returns-in-Ok-read_key-clause-reads
returns-in-Ok-read_key-clause-reads g t c =
    key_later g.K.Keyword.spelled c.args.last c.in-Some.key.now c.in-Some.others.now c.args.keys.now c.requires c.in-Some.ensures.cases.0 c.in-Ok-read_key.ensures.reads

pub returns-in-Err-read_key-clause-reads : goal.returns-in-Err-read_key-clause-reads
returns-in-Err-read_key-clause-reads g t c =
    let n = key_none g.K.Keyword.spelled c.args.last c.in-Some.key.now c.in-Some.others.now c.args.keys.now _ c.in-Err-read_word.broken.left c.in-Err-read_key.other.left c.in-Some.ensures.cases.0 c.word-2.ensures
    c.in-Err-read_word.ensures.reads c.in-Err-read_key.ensures.reads in
    rw c.min.ensures n
