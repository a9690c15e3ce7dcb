use Rattle.v_usage.proofs.Least.{part_place}
use Rattle.v_usage.proofs.rules.wrong_part.Goals as goal

pub returns-in_ok-lsb-in-PartOf : goal.returns-in_ok-lsb-in-PartOf
returns-in_ok-lsb-in-PartOf c = part_place c.args.names.now _ _ _ _ _ _ _ c.in-PartOf.is c.in_ok-msb-in-PartOf.ensures c.in_ok-lsb-in-PartOf.ensures c.wrong_range.ensures
