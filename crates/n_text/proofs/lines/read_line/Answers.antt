use Rattle.lz_lines.specs.Forms.{Anything}
use Rattle.lz_lines.specs.Keywords.{OneOf}
use Rattle.lz_lines.proofs.Forms.{then_broken, then_obtains}
use Rattle.lz_lines.proofs.Standing.{hand_broken}
use Rattle.n_text.specs.declared.line.Key.TheVariants as key
use Rattle.n_text.specs.Grammar.{Tail}
use Rattle.n_text.specs.Keys.{key_word}
use Rattle.n_text.proofs.Standing as standing
use Rattle.n_text.proofs.lines.read_line.Goals as goal

pub returns-in_err-key : goal.returns-in_err-key
returns-in_err-key c =
    hand_broken _ _ _ _ _ c.from_residual.result _ c.from_residual.ensures.1
    (then_broken (OneOf key_word key.End c.args.keys.now) Anything (Tail c.args.format) Anything (λ k text is. standing.tail_some c.args.format k) (λ a v text behind is d. tt) c.in_err-key.ensures.reads)

pub returns : goal.returns
returns c =
    then_obtains (OneOf key_word key.End c.args.keys.now) Anything (Tail c.args.format) Anything _ _ c.read_tail.result (λ a v text behind is d. tt) c.in_ok-key.ensures.reads c.read_tail.ensures
