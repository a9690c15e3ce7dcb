-- A word that is written keeps its width.
use Rattle.std.proofs.Common.{◌≡◌, ◌<◌, ◌^◌, arith, sym, subst}
use Rattle.v_meaning.specs.Views.{with_bits}
use Rattle.v_words.proofs.Splits.{with_bits_below}
use Rattle.v_words.proofs.parts.with_part.Goals as goal

pub returns-clause-below : goal.returns-clause-below
returns-clause-below c = λ whole h f.
    let value : c.beside.result ≡ with_bits c.args.low c.args.width c.args.value c.args.word =
    rw (c.beside.ensures.value, c.shift_right.ensures.value, c.beside-below.ensures.value, c.cut.ensures.value) (omega arith) in
    subst (λ n. n < 2 ^ whole) (sym value) (with_bits_below c.args.low c.args.width c.args.value c.args.word whole h c.requires.fits f)
