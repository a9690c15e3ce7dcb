-- What stands in a typed expression is less deep than the expression.
use denote.Param.Weighed.{most}
use Rattle.std.proofs.Common.{arith, sym, ◌<◌, ℕ, List}
use Rattle.v_core.specs.declared.typed.Link.{Link}
use Rattle.v_core.specs.declared.typed.Typed.{Typed}
use Rattle.v_core.specs.declared.typed.Typed.TheOpen as o
use Rattle.v_core.specs.declared.typed.Typed.TheVariants as e
use Rattle.v_core.specs.declared.typed.Typed.TheShapes.{weighed-Typed-Chain-1-at-2, weighed-Typed-Concat-0-at-2}
use Rattle.v_core.specs.declared.typed.Typed.TheViews.{size_is-Typed, roll-Typed, out-roll-Typed}
use Rattle.v_core.proofs.typed.Typed.TheLaws.{the_size}

-- how deep an operand of a chain is, and one of those side by side
abbrev pub link_size : Link × Typed → ℕ
link_size l = weighed-Typed-Chain-1-at-2.weight Typed the_size l

abbrev pub part_size : ℕ × Typed → ℕ
part_size p = weighed-Typed-Concat-0-at-2.weight Typed the_size p

pub first_deeper : (x : Typed) (links : List (Link × Typed)) → the_size x < the_size (e.Chain x links)
first_deeper x links = rw (sym (e.rolls-Chain x links), size_is-Typed (roll-Typed (o.Chain x links)), out-roll-Typed (o.Chain x links)) (omega arith)

pub links_deeper : (x : Typed) (links : List (Link × Typed)) → most link_size links < the_size (e.Chain x links)
links_deeper x links = rw (sym (e.rolls-Chain x links), size_is-Typed (roll-Typed (o.Chain x links)), out-roll-Typed (o.Chain x links)) (omega arith)

pub parts_deeper : (parts : List (ℕ × Typed)) → most part_size parts < the_size (e.Concat parts)
parts_deeper parts = rw (sym (e.rolls-Concat parts), size_is-Typed (roll-Typed (o.Concat parts)), out-roll-Typed (o.Concat parts)) (omega arith)

pub then_deeper : (w : ℕ) (c x y : Typed) → the_size x < the_size (e.Choice w c x y)
then_deeper w c x y = rw (sym (e.rolls-Choice w c x y), size_is-Typed (roll-Typed (o.Choice w c x y)), out-roll-Typed (o.Choice w c x y)) (omega arith)

pub otherwise_deeper : (w : ℕ) (c x y : Typed) → the_size y < the_size (e.Choice w c x y)
otherwise_deeper w c x y = rw (sym (e.rolls-Choice w c x y), size_is-Typed (roll-Typed (o.Choice w c x y)), out-roll-Typed (o.Choice w c x y)) (omega arith)
