use Rattle.std.proofs.Common.{[], ◌∷◌}
use Rattle.lz_lines.specs.Forms.{Anything}
use Rattle.lz_lines.specs.Keywords.{OneOf}
use Rattle.lz_lines.proofs.Forms.{after_breaks, after_obtains, after_then, then_broken}
use Rattle.lz_lines.proofs.Standing.{hand_broken}
use Rattle.g_text.specs.Luts.{Tail, head_word}
use Rattle.g_text.specs.declared.proposal.Head.TheVariants as head
use Rattle.g_text.proofs.Luts.{line_after, tail_some}
use Rattle.g_text.proofs.proposal.read_line.Goals as goal

pub returns-in_err-head : goal.returns-in_err-head
returns-in_err-head c =
    hand_broken _ _ _ _ _ c.from_residual.result _ c.from_residual.ensures.1
    (after_breaks (line_after c.args.bytes.now) (then_broken (OneOf head_word head.End (head.Lut ∷ [])) Anything Tail Anything (λ k text is. tail_some k) (λ a v text behind is d. tt) c.in_err-head.ensures.reads))

pub returns : goal.returns
returns c =
    after_obtains _ _ c.read_tail.result (after_then (OneOf head_word head.End (head.Lut ∷ [])) Anything Tail (line_after c.args.bytes.now) (λ a v text behind is d. tt) c.in_ok-head.ensures.reads) c.read_tail.ensures
