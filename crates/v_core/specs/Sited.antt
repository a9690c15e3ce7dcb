-- Typed expressions whose sites have no more bits than are read there, also those whose final width and sign are open.
use Rattle.std.specs.Prelude.{ℕ, List, Bool, true, ◌&&◌, nat_le, slice_index}
use Rattle.std.specs.List.{list_all}
use Rattle.v_syntax.specs.declared.expr.BinaryOperator.{BinaryOperator}
use Rattle.v_meaning.specs.declared.names.Entry.{Entry}
use Rattle.v_core.specs.declared.open.Body.{Body}
use Rattle.v_core.specs.declared.open.Body.TheOpen.{Body-F}
use Rattle.v_core.specs.declared.open.Body.TheOpen as b
use Rattle.v_core.specs.declared.open.Body.TheFolds.{fold-Body}
use Rattle.v_core.specs.declared.typed.Link.{Link}
use Rattle.v_core.specs.declared.typed.Typed.{Typed}
use Rattle.v_core.specs.declared.typed.Typed.TheOpen.{Typed-F}
use Rattle.v_core.specs.declared.typed.Typed.TheOpen as t
use Rattle.v_core.specs.declared.typed.Typed.TheFolds.{fold-Typed}
use Rattle.v_core.specs.Values.{entry_at}
use Rattle.v_core.specs.Formed.{selected_width}

-- over the declared names, and how many bits each site has
abbrev pub SitedIn : Type 0
SitedIn = List Entry → List ℕ → Bool

-- the site of a bit or word has no more bits than that; a number with any bits for x keeps to its width
abbrev pub sited_step : Typed-F SitedIn → List Entry → List ℕ → Bool
sited_step (t.Constant width value) names sites = true
sited_step (t.Number l site) names sites = true
sited_step (t.Name name at) names sites = true
sited_step (t.Select name at site width signed index) names sites =
    nat_le (slice_index sites site) (selected_width (entry_at names name).kind (entry_at names name).width) && index names sites
sited_step (t.Part name at low width) names sites = true
sited_step (t.Extend from to signed x) names sites = x names sites
sited_step (t.Unary op width x) names sites = x names sites
sited_step (t.Chain x links) names sites = x names sites && list_all (λ (l : Link × SitedIn). l.1 names sites) links
sited_step (t.Choice width c x y) names sites = c names sites && x names sites && y names sites
sited_step (t.Concat parts) names sites = list_all (λ (p : ℕ × SitedIn). p.1 names sites) parts
sited_step (t.Copies count width x) names sites = x names sites

abbrev pub is_sited : Typed → List Entry → List ℕ → Bool
is_sited = fold-Typed SitedIn sited_step

-- the operands behind the first one of a chain, and operands side by side
abbrev pub are_sited_links : List (Link × Typed) → SitedIn
are_sited_links links names sites = list_all (λ (l : Link × Typed). is_sited l.1 names sites) links

abbrev pub are_sited_parts : List (ℕ × Typed) → SitedIn
are_sited_parts parts names sites = list_all (λ (p : ℕ × Typed). is_sited p.1 names sites) parts

-- ---- expressions whose final width and sign are open; these change no site

abbrev pub sited_body_step : Body-F SitedIn → List Entry → List ℕ → Bool
sited_body_step (b.Leaf width x) names sites = is_sited x names sites
sited_body_step (b.Own x) names sites = is_sited x names sites
sited_body_step (b.Unary op x) names sites = x names sites
sited_body_step (b.Chain x links) names sites = x names sites && list_all (λ (l : BinaryOperator × SitedIn). l.1 names sites) links
sited_body_step (b.Choice c x y) names sites = is_sited c names sites && x names sites && y names sites

abbrev pub is_sited_body : Body → List Entry → List ℕ → Bool
is_sited_body = fold-Body SitedIn sited_body_step

abbrev pub are_sited_bodies : List (BinaryOperator × Body) → SitedIn
are_sited_bodies links names sites = list_all (λ (l : BinaryOperator × Body). is_sited_body l.1 names sites) links
