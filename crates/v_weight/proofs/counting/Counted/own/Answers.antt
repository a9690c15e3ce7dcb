use Rattle.v_weight.proofs.counting.Counted.own.Goals as goal

pub returns : goal.returns
returns c s p = c.at.ensures s.at s.width p.weight p.width
