use Rattle.std.proofs.Common.{◌≡◌, List, sym, subst}
use Rattle.std.specs.Prelude.{All}
use Rattle.v_meaning.specs.declared.names.Entry.{Entry}
use Rattle.v_meaning.specs.Sites.{Site, module_sites}
use Rattle.v_places.specs.Openings.{bits_read, module_openings}
use Rattle.v_typed.proofs.elaborating.elaborate.Goals as goal

pub returns-clause-sited : goal.returns-clause-sited
returns-clause-sited c read =
    c.in_ok-typed.ensures.sited
    (subst (λ (names : List Entry). All (λ (s : Site). bits_read (module_sites names c.args.module.now.items) s.at ≡ s.width) (module_openings names c.args.module.now.items))
    (sym c.in_ok-names.ensures.accepted.1) read)
