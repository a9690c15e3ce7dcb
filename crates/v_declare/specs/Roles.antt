-- What the processes make of the names of a module, as it is kept.
use Rattle.std.specs.Prelude.{◌≡◌, ℕ, List, ◌++◌, Option}
use Rattle.std.specs.Borrow.{Bor}
use Rattle.std.specs.Option.{option_copied}
use Rattle.std.specs.BTreeSet.{BTreeSet}
use Rattle.lz_base.specs.Met.{Met}
use Rattle.v_syntax.specs.declared.module.Item.{Item}
use Rattle.v_meaning.specs.Declarations.{first_event, combinational_names}

-- the name of the first event, and a set of the targets in combinational processes
pub record AreRoles (items : List Item) (event : Option (Bor (List ℕ))) (combinational : BTreeSet (Bor (List ℕ))) : Type 0 where
  pub first : option_copied event ≡ first_event items
  pub met : Met combinational (combinational_names items)

-- These names are met behind those that were met before.
pub record Meets (old new : BTreeSet (Bor (List ℕ))) (names : List (List ℕ)) : Type 0 where
  pub met : (before : List (List ℕ)) → Met old before → Met new (before ++ names)
