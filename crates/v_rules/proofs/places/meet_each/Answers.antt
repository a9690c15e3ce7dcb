use Rattle.std.proofs.Common.{refl, subst, ◌∷◌, [], ◌++◌}
use Rattle.lz_base.specs.Met.{Met}
use Rattle.v_meaning.specs.ProcessRules.{ident_names}
use Rattle.v_rules.specs.Groups.{idents_in}
use Rattle.v_rules.proofs.Rounds.{met_next, met_all}
use Rattle.v_rules.proofs.places.meet_each.Goals as goal

pub loop-ident-init : goal.loop-ident-init
loop-ident-init c names met = record { names = names; met_them = met; all = refl }

pub loop-ident-preserved : goal.loop-ident-preserved
loop-ident-preserved c names met =
    met_next (λ ns. ident_names (idents_in ns)) _ _ _ _ _ _ _ _ c.loop-ident-test.true c.ident-item.is refl
    (λ before m. subst (λ k. Met c.meet.new.met (before ++ k ∷ [])) c.bytes.ensures.value ((c.in_ok-meet.ensures before m).1)) (c.loop-ident.invariant names met)

pub returns : goal.returns
returns c names met = met_all (λ ns. ident_names (idents_in ns)) _ _ _ _ c.loop-ident-test.false refl (c.loop-ident.invariant names met)
