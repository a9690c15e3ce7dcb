-- Arms of a case whose items can be compared (1364-2005, 9.5). No public clause names these.
use Rattle.std.specs.Prelude.{ℕ, List, Bool, ◌&&◌}
use Rattle.std.specs.List.{list_all}
use Rattle.v_meaning.specs.declared.names.Entry.{Entry}
use Rattle.v_core.specs.declared.statement.TypedItem.{TypedItem}
use Rattle.v_core.specs.declared.statement.TypedArm.{TypedArm}
use Rattle.v_core.specs.Formed.{formed}
use Rattle.v_core.specs.Sited.{is_sited}
use Rattle.v_core.specs.Statements.{items_in}

-- each item keeps to its widths, and its sites to their bits
abbrev pub are_compared : List TypedItem → List Entry → List ℕ → Bool
are_compared items names sites = list_all (λ (item : TypedItem). (formed item.value names).kept && is_sited item.value names sites) items

abbrev pub are_kept_arms : List TypedArm → List Entry → List ℕ → Bool
are_kept_arms arms names sites = list_all (λ (a : TypedArm). are_compared (items_in a.label) names sites) arms
