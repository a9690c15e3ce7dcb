use Rattle.std.proofs.Common.{sym}
use Rattle.v_meaning.specs.Names.{entry_of, or_zero}
use Rattle.v_meaning.specs.Targets.{part_target}
use Rattle.v_statements.proofs.TargetLaws.{as_target, msb_is, lsb_is, are_bounds}
use Rattle.v_statements.proofs.targets.bounded.Goals as goal

pub bound-requires : goal.bound-requires
bound-requires c = msb_is (entry_of c.args.names.now c.args.ident.now.name) _ _ c.requires.sound

pub bound-requires-2 : goal.bound-requires-2
bound-requires-2 c = lsb_is (entry_of c.args.names.now c.args.ident.now.name) _ _ c.requires.sound

pub part-requires-clause-above : goal.part-requires-clause-above
part-requires-clause-above c = (are_bounds (entry_of c.args.names.now c.args.ident.now.name) _ _ _ _ c.in_ok-m.ensures c.in_ok-l.ensures c.requires.sound).above

pub part-requires-clause-descends : goal.part-requires-clause-descends
part-requires-clause-descends c = (are_bounds (entry_of c.args.names.now c.args.ident.now.name) _ _ _ _ c.in_ok-m.ensures c.in_ok-l.ensures c.requires.sound).descends

pub part-requires-clause-within : goal.part-requires-clause-within
part-requires-clause-within c = (are_bounds (entry_of c.args.names.now c.args.ident.now.name) _ _ _ _ c.in_ok-m.ensures c.in_ok-l.ensures c.requires.sound).within

pub returns-clause-target : goal.returns-clause-target
returns-clause-target c =
    as_target c.args.names.now _ _ _
    (λ i. part_target (entry_of c.args.names.now c.args.ident.now.name) (or_zero (sym c.in_ok-m.ensures i)) (or_zero (sym c.in_ok-l.ensures i))) c.part.ensures.target
