use Rattle.std.proofs.Common.{◌-◌, arith, drop, length}
use Rattle.std.proofs.lemmas.List.{length-drop, take_all}
use Rattle.g_arith.proofs.Rows.{has_above}
use Rattle.g_arith.proofs.products.with_above.Goals as goal

pub returns-clause-number : goal.returns-clause-number
returns-clause-number g c = rw (c.in_ok-append.ensures, c.in_ok-push.ensures.ok, c.new-bits.ensures)
    (has_above c.args.builder.now.part c.add.new.builder.part c.args.row.now _ c.args.above.now c.in_ok-sum.sum (take_all (length c.args.row.now - 1) (drop 1 c.args.row.now) (omega (arith, length-drop 1 c.args.row.now)))
    c.requires.same_width (λ sources. c.sources_first.ensures.constant c.args.builder.now.part sources) c.add.ensures.adds.builds c.requires.row c.in_ok-sum.ensures.number)
