use Rattle.std.proofs.Common.{◌≡◌, arith}
use Rattle.s_cli.proofs.Placed.{name_there, place_far, place_near, place_of, place_within}
use Rattle.s_cli.proofs.words.file_name.Goals.{then-index-lt3, else-index-lt3}
use Rattle.s_cli.proofs.words.file_name.Goals as goal

pub bounds-words-place : goal.bounds-words-place
bounds-words-place c =
    let at : c.if-index-lt3.place ≡ place_of c.args.index =
    elim c.if-index-lt3.branch [ then-index-lt3 w ↦ place_near c.args.index _ w.if-index-lt3.true w.place-is | else-index-lt3 w ↦ place_far c.args.index _ (omega (arith, w.if-index-lt3.false)) w.place-is ] in
    place_within c.args.words.now c.args.command c.args.index _ c.requires.form c.requires.index at

pub returns : goal.returns
returns c =
    let at : c.if-index-lt3.place ≡ place_of c.args.index =
    elim c.if-index-lt3.branch [ then-index-lt3 w ↦ place_near c.args.index _ w.if-index-lt3.true w.place-is | else-index-lt3 w ↦ place_far c.args.index _ (omega (arith, w.if-index-lt3.false)) w.place-is ] in
    name_there c.args.words.now c.args.command c.args.index _ c.index-words-place.result c.requires.form c.requires.index at c.index-words-place.is
