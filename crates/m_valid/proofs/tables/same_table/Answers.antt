use Rattle.std.proofs.Common.{◌≡◌, ◌%◌, ◌^◌, ◌∙◌, ap}
use Rattle.m_valid.proofs.Bits.{low_agree}
use Rattle.m_valid.proofs.tables.same_table.Goals as goal

pub returns : goal.returns
returns c =
    let first : c.cut.result ≡ c.args.a % 2 ^ (2 ^ c.args.leaves) = c.cut.ensures.value ∙ ap (λ w. c.args.a % 2 ^ w) c.assignments-width.ensures.count in
    let second : c.cut-2.result ≡ c.args.b % 2 ^ (2 ^ c.args.leaves) = c.cut-2.ensures.value ∙ ap (λ w. c.args.b % 2 ^ w) c.assignments-width.ensures.count in
    rw (first, second) (low_agree (2 ^ c.args.leaves) c.args.a c.args.b)
