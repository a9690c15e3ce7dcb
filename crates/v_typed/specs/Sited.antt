-- Which assigns and processes of a typed module have sites with no more bits than are read there: those whose numbers and
-- selects in the source have as many bits read as are open.
use Rattle.std.specs.Prelude.{ℕ, List, Option}
use Rattle.std.specs.List.{list_all}
use Rattle.v_syntax.specs.declared.expr.Placed.{Placed}
use Rattle.v_syntax.specs.declared.module.Item.{Item}
use Rattle.v_meaning.specs.declared.names.Entry.{Entry}
use Rattle.v_places.specs.Openings.{value_openings, item_openings}
use Rattle.v_core.specs.declared.modules.TypedAssign.{TypedAssign}
use Rattle.v_core.specs.declared.modules.TypedProcess.{TypedProcess}
use Rattle.v_core.specs.Sited.{SitedIn, is_sited}
use Rattle.v_core.specs.SitedCores.{is_sited_stmt}
use Rattle.v_typing.specs.Sited.{AreRead}

abbrev pub are_sited_assigns : List TypedAssign → SitedIn
are_sited_assigns assigns names sites = list_all (λ (a : TypedAssign). is_sited a.value names sites) assigns

abbrev pub are_sited_processes : List TypedProcess → SitedIn
are_sited_processes processes names sites = list_all (λ (p : TypedProcess). is_sited_stmt p.body names sites) processes

-- of the value of a wire, and of an item: by how many bits each site has, by the places of the sites, and over the declared names
abbrev pub ValueRead : List ℕ → List ℕ → List Entry → Option Placed → Type 0
ValueRead widths places names x = AreRead widths places (value_openings names x)

abbrev pub ItemRead : List ℕ → List ℕ → List Entry → Item → Type 0
ItemRead widths places names x = AreRead widths places (item_openings names x)
