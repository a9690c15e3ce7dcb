-- The design of a typed module, from the laws of its parts.
use Rattle.std.proofs.Common.{◌≡◌, ℕ, List, map, flat_map, not, sym, ap, ◌∙◌}
use Rattle.std.proofs.lemmas.Simd.{map-map}
use Rattle.v_syntax.specs.declared.module.Module.{Module}
use Rattle.v_meaning.specs.declared.names.Entry.{Entry}
use Rattle.v_meaning.specs.Names.{entry_of, word_of}
use Rattle.v_meaning.specs.Declarations.{names_of, count_of, is_settled}
use Rattle.v_meaning.specs.Sites.{Site, module_sites}
use Rattle.v_meaning.specs.Modules.{port_of, inputs_among, clock_among, output_names, firsts_among, item_assigns, item_clocked, item_combinational, design_over, design_of}
use Rattle.v_core.specs.declared.modules.TypedAssign.{TypedAssign}
use Rattle.v_core.specs.declared.modules.TypedProcess.{TypedProcess}
use Rattle.v_core.specs.declared.modules.TypedSite.{TypedSite}
use Rattle.v_core.specs.Values.{entry_at}
use Rattle.v_core.specs.Cores.{assign_in, acts_where, design_in}
use Rattle.v_sites.specs.Found.{site_in}

-- what is read of each entry of the outputs
outputs_read : {A : Type 0} (f : Entry → A) (names : List Entry) (outputs : List ℕ) (of_ports : List (List ℕ)) → map (entry_at names) outputs ≡ map (entry_of names) of_ports →
    map (λ (n : ℕ). f (entry_at names n)) outputs ≡ map (λ (name : List ℕ). f (entry_of names name)) of_ports
outputs_read f names outputs of_ports is = sym (map-map f (entry_at names) outputs) ∙ ap (map f) is ∙ map-map f (entry_of names) of_ports

pub design_is : (m : Module) (name : List ℕ) (entries names : List Entry) (sites : List TypedSite) (places outputs : List ℕ) (assigns : List TypedAssign) (processes : List TypedProcess) →
    names ≡ names_of m → entries ≡ names → name ≡ m.name.name → map site_in sites ≡ module_sites names m.items → places ≡ map (λ (s : TypedSite). s.at) sites →
    map (entry_at names) outputs ≡ map (entry_of names) (output_names m.ports) → map (assign_in names) assigns ≡ flat_map (item_assigns names places) m.items →
    acts_where (λ p. not p.clocked) names processes ≡ flat_map (item_combinational names places) m.items →
    acts_where (λ p. p.clocked) names processes ≡ flat_map (item_clocked names places) m.items →
    design_in (record { name = name; names = entries; sites = sites; outputs = outputs; assigns = assigns; processes = processes }) ≡ design_of m
design_is m name entries names sites places outputs assigns processes declared copied named found placed shown assigned combinational clocked =
    let at : places ≡ map (λ (s : Site). s.at) (module_sites names m.items) =
    placed ∙ sym (ap (map (λ (s : Site). s.at)) (sym found) ∙ map-map (λ (s : Site). s.at) site_in sites) in
    let same : design_in (record { name = name; names = entries; sites = sites; outputs = outputs; assigns = assigns; processes = processes }) ≡ design_over m names (module_sites names m.items) (output_names m.ports) =
    ap (λ (l : List Entry). design_in (record { name = name; names = l; sites = sites; outputs = outputs; assigns = assigns; processes = processes })) copied
    ∙ (λ i. record {
      name = named i;
      clock = clock_among names;
      inputs = inputs_among names;
      outputs = outputs_read port_of names outputs (output_names m.ports) shown i;
      shows = λ v. outputs_read (λ (e : Entry). word_of e.kind v) names outputs (output_names m.ports) shown i;
      nets = count_of is_settled names;
      assigns = (assigned ∙ ap (λ (l : List ℕ). flat_map (item_assigns names l) m.items) at) i;
      combinational = (combinational ∙ ap (λ (l : List ℕ). flat_map (item_combinational names l) m.items) at) i;
      clocked = (clocked ∙ ap (λ (l : List ℕ). flat_map (item_clocked names l) m.items) at) i;
      firsts = firsts_among names;
      sites = (sym (map-map (λ (s : Site). s.width) site_in sites) ∙ ap (map (λ (s : Site). s.width)) found) i;
    }) in
    same ∙ ap (λ (l : List Entry). design_over m l (module_sites l m.items) (output_names m.ports)) declared
