use Rattle.std.proofs.Common.{refl, filter}
use Rattle.lz_base.specs.Names.{is_among}
use Rattle.v_meaning.specs.ProcessRules.{ident_names}
use Rattle.v_rules.specs.Groups.{idents_in}
use Rattle.v_rules.proofs.Rounds.{met_all}
use Rattle.v_rules.proofs.Shared.{share_next}
use Rattle.v_rules.proofs.variables.share_each.Goals as goal

pub loop-ident-init : goal.loop-ident-init
loop-ident-init c before names m s = record { names = names; met_them = s; all = refl }

pub loop-ident-preserved : goal.loop-ident-preserved
loop-ident-preserved c before names m s =
    share_next before _ _ _ _ _ _ _ c.loop-ident-test.true c.ident-item.is (λ some t. c.in_ok-share.ensures before some m t) (c.loop-ident.invariant before names m s)

pub returns : goal.returns
returns c before names m s = met_all (λ ns. filter (λ name. is_among name before) (ident_names (idents_in ns))) _ _ _ _ c.loop-ident-test.false refl (c.loop-ident.invariant before names m s)
