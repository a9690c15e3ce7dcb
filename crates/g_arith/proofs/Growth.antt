-- What stays where gates come behind gates.
use Rattle.std.proofs.Common.{◌≡◌, ◌≤◌, ◌<◌, ◌+◌, ◌/◌, ℕ, List, [], ◌∷◌, ◌++◌, length, Bool, refl, sym, ap, ◌∙◌, arith, append_assoc}
use Rattle.std.proofs.lemmas.List.{append-nil}
use Rattle.std.specs.Prelude.{slice_index}
use Rattle.g_net.specs.declared.network.Gate.{Gate}
use Rattle.g_net.specs.Network.{NetworkValue, LiteralsBelow, gate_nodes, node_count, source_bits}
use Rattle.g_build.specs.Building.{AllDiffer, Builds}
use Rattle.g_arith.specs.Words.{Adds, bit_in}

gates_append : (gs hs : List Gate) → gate_nodes (gs ++ hs) ≡ gate_nodes gs + gate_nodes hs
gates_append [] hs = omega arith
gates_append (g ∷ gs) hs = omega (arith, gates_append gs hs)

pub longer : (a b : NetworkValue) → Builds a b → node_count a ≤ node_count b
longer a b h =
    let is : node_count b ≡ node_count (record a { gates = a.gates ++ h.grows.more }) = ap node_count h.grows.grown in
    omega (arith, is, gates_append a.gates h.grows.more)

pub same_sources : (a b : NetworkValue) → Builds a b → source_bits b ≡ source_bits a
same_sources a b h = ap source_bits h.grows.grown

pub no_output : (a b : NetworkValue) → Builds a b → a.outputs ≡ [] → b.outputs ≡ []
no_output a b h none = ap (λ (n : NetworkValue). n.outputs) h.grows.grown ∙ none

builds_none : (a : NetworkValue) → Builds a a
builds_none a = record {
  grows = record { more = []; grown = ap (λ (gs : List Gate). record a { gates = gs }) (sym (append-nil a.gates)) };
  keeps = λ sources literal many there. refl;
}

pub adds_none : (a : NetworkValue) → Adds a a
adds_none a = record { builds = builds_none a; longer = longer a a (builds_none a); differ = λ d. d }

pub adds_once : (a b : NetworkValue) → Builds a b → (AllDiffer a.gates → AllDiffer b.gates) → Adds a b
adds_once a b h differ = record { builds = h; longer = longer a b h; differ = differ }

pub builds_further : (a b c : NetworkValue) → Builds a b → Builds b c → Builds a c
builds_further a b c f g = record {
  grows = record {
    more = f.grows.more ++ g.grows.more;
    grown = g.grows.grown ∙ ap (λ (n : NetworkValue). record n { gates = n.gates ++ g.grows.more }) f.grows.grown
        ∙ ap (λ (gs : List Gate). record a { gates = gs }) (append_assoc a.gates f.grows.more g.grows.more);
  };
  keeps = λ sources literal many there.
      let within : literal / 2 < node_count b = omega (arith, longer a b f, there) in
      g.keeps sources literal (many ∙ sym (same_sources a b f)) within ∙ f.keeps sources literal many there;
}

pub adds_more : (a b c : NetworkValue) → Adds a b → Builds b c → (AllDiffer b.gates → AllDiffer c.gates) → Adds a c
adds_more a b c f g differ = let h : Builds a c = builds_further a b c f.builds g in record { builds = h; longer = longer a c h; differ = λ d. differ (f.differ d) }

pub adds_further : (a b c : NetworkValue) → Adds a b → Adds b c → Adds a c
adds_further a b c f g = adds_more a b c f g.builds g.differ

-- literals that were there are there
pub there_still : (a b : NetworkValue) (literal : ℕ) → Builds a b → literal / 2 < node_count a → literal / 2 < node_count b
there_still a b literal h there = omega (arith, longer a b h, there)

pub all_there : (a b : NetworkValue) (word : List ℕ) → Builds a b → LiteralsBelow (node_count a) word → LiteralsBelow (node_count b) word
all_there a b word h there = λ k within. there_still a b (slice_index word k) h (there k within)

pub one_there : (a b : NetworkValue) (word : List ℕ) (i : ℕ) → Adds a b → LiteralsBelow (node_count a) word → i < length word → slice_index word i / 2 < node_count b
one_there a b word i h there within = there_still a b (slice_index word i) h.builds (there i within)

-- a literal that was there has the value that it had
pub bit_keeps : (a b : NetworkValue) (sources : List Bool) (literal : ℕ) → Adds a b → length sources ≡ source_bits b → literal / 2 < node_count a → bit_in b sources literal ≡ bit_in a sources literal
bit_keeps a b sources literal h many there = h.builds.keeps sources literal (many ∙ same_sources a b h.builds) there

pub bits_before : (a b : NetworkValue) (sources : List Bool) → Adds a b → length sources ≡ source_bits b → length sources ≡ source_bits a
bits_before a b sources h many = many ∙ same_sources a b h.builds
