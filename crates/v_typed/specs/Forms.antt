-- Which assigns and processes of a typed module keep to their widths, and which assigns are as wide as their nets.
use Rattle.std.specs.Prelude.{ℕ, ◌==◌, List, Bool, false, ◌&&◌}
use Rattle.std.specs.List.{list_all, list_any}
use Rattle.v_meaning.specs.declared.names.Kind.{Kind}
use Rattle.v_meaning.specs.declared.names.Kind.TheVariants.{Net}
use Rattle.v_meaning.specs.declared.names.Entry.{Entry}
use Rattle.v_core.specs.declared.modules.TypedAssign.{TypedAssign}
use Rattle.v_core.specs.declared.modules.TypedProcess.{TypedProcess}
use Rattle.v_core.specs.Formed.{formed, is_width}
use Rattle.v_core.specs.FormedCores.{is_formed_stmt}

abbrev pub are_formed_assigns : List Entry → List TypedAssign → Bool
are_formed_assigns names assigns = list_all (λ (a : TypedAssign). (formed a.value names).kept) assigns

abbrev pub are_formed_processes : List Entry → List TypedProcess → Bool
are_formed_processes names processes = list_all (λ (p : TypedProcess). is_formed_stmt p.body names) processes

-- a kind of nets of this number
abbrev pub is_net_at : ℕ → Kind → Bool
is_net_at net (Net n) = n == net
is_net_at net _ = false

-- an assign of 1 to 128 bits, as many as a declared net of its number has
abbrev pub is_measured_over : List Entry → TypedAssign → Bool
is_measured_over names a = is_width a.width && list_any (λ (e : Entry). is_net_at a.net e.kind && e.width == a.width) names

abbrev pub are_measured : List Entry → List TypedAssign → Bool
are_measured names assigns = list_all (is_measured_over names) assigns
