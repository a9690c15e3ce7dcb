-- What stands in a body is less deep than the body.
use Rattle.std.proofs.Common.{arith, sym, ◌<◌, ℕ, List}
use denote.Param.Weighed.{most}
use Rattle.v_syntax.specs.declared.expr.BinaryOperator.{BinaryOperator}
use Rattle.v_constants.specs.declared.body.Body.{Body}
use Rattle.v_constants.specs.declared.body.Body.TheOpen as o
use Rattle.v_constants.specs.declared.body.Body.TheVariants as e
use Rattle.v_constants.specs.declared.body.Body.TheShapes.{weighed-Body-Chain-1-at-2}
use Rattle.v_constants.specs.declared.body.Body.TheViews.{size_is-Body, roll-Body, out-roll-Body}
use Rattle.v_constants.proofs.body.Body.TheLaws.{the_size}

-- how deep an operand of a chain is
abbrev pub link_size : BinaryOperator × Body → ℕ
link_size l = weighed-Body-Chain-1-at-2.weight Body the_size l

pub links_deeper : (x : Body) (links : List (BinaryOperator × Body)) → most link_size links < the_size (e.Chain x links)
links_deeper x links = rw (sym (e.rolls-Chain x links), size_is-Body (roll-Body (o.Chain x links)), out-roll-Body (o.Chain x links)) (omega arith)
