use Rattle.std.proofs.Common.{None, Some, sym, ◌∙◌}
use Rattle.m_valid.specs.Validity.{roots_of}
use Rattle.m_valid.proofs.Judging.{judged_needs}
use Rattle.m_valid.proofs.validating.judge.Goals as goal

pub returns-in-Some : goal.returns-in-Some
returns-in-Some c =
    judged_needs c.args.network.now c.args.nodes.now c.args.lines.now c.args.k _ (Some c.in-Some.at) c.requires.nodes c.in_ok-judge_lines.ensures.verdict c.in-Valid.is
    (sym c.in-Some.is ∙ c.in_ok-at-in-Valid.ensures (roots_of c.args.lines.now) (c.in_ok-judge_lines.ensures.roots c.in-Valid.is))

pub returns-in-None : goal.returns-in-None
returns-in-None c =
    judged_needs c.args.network.now c.args.nodes.now c.args.lines.now c.args.k _ None c.requires.nodes c.in_ok-judge_lines.ensures.verdict c.in-Valid.is
    (sym c.in-None.is ∙ c.in_ok-at-in-Valid.ensures (roots_of c.args.lines.now) (c.in_ok-judge_lines.ensures.roots c.in-Valid.is))
