use Rattle.std.proofs.Common.{rules, ◌∙◌, ap, sym, subst, map, flat_map}
use Rattle.std.specs.Prelude.{◌&&◌, All}
use Rattle.v_core.specs.declared.modules.TypedSite.{TypedSite}
use Rattle.v_meaning.specs.Names.{entry_of}
use Rattle.v_meaning.specs.Modules.{output_names, item_assigns, item_combinational, item_clocked}
use Rattle.v_typed.specs.Sited.{ItemRead}
use Rattle.v_typed.proofs.Read.{read_items}
use Rattle.v_typed.proofs.SoundItems.{sound_over}
use Rattle.v_typed.proofs.TypedDesigns.{design_is}
use Rattle.v_typed.proofs.elaborating.typed.Goals as goal

pub sites-requires : goal.sites-requires
sites-requires c = record { sound = sound_over c.args.module.now c.args.names.now c.requires.declared c.requires.kept }

pub parts_of-requires : goal.parts_of-requires
parts_of-requires c = record { sound = rw c.as_slice-2.ensures (sound_over c.args.module.now c.args.names.now c.requires.declared c.requires.kept) }

pub returns-clause-design : goal.returns-clause-design
returns-clause-design c =
    let names = c.args.names.now in
    let places = c.in_ok-places.places in
    design_is c.args.module.now c.in_ok-name.name c.in_ok-entries.entries names c.in_ok-found.found places c.in_ok-outputs.outputs c.in_ok-parts.parts.assigns c.in_ok-parts.parts.processes
    c.requires.declared c.in_ok-entries.ensures.copy (search rules) c.in_ok-found.ensures.sites
    (c.in_ok-places.ensures ∙ ap (map (λ (s : TypedSite). s.at)) c.as_slice.ensures)
    (c.in_ok-outputs.ensures ∙ ap (λ l. map (entry_of names) (output_names l)) c.as_slice-3.ensures)
    (c.in_ok-parts.ensures.assigns ∙ ap (flat_map (item_assigns names places)) c.as_slice-2.ensures)
    (c.in_ok-parts.ensures.combinational ∙ ap (flat_map (item_combinational names places)) c.as_slice-2.ensures)
    (c.in_ok-parts.ensures.clocked ∙ ap (flat_map (item_clocked names places)) c.as_slice-2.ensures)

pub returns-clause-form : goal.returns-clause-form
returns-clause-form c =
    rw c.in_ok-entries.ensures.copy (λ i. c.in_ok-parts.ensures.formed_assigns i && c.in_ok-parts.ensures.formed_processes i)

pub returns-clause-measured : goal.returns-clause-measured
returns-clause-measured c = rw c.in_ok-entries.ensures.copy c.in_ok-parts.ensures.measured

pub returns-clause-sited : goal.returns-clause-sited
returns-clause-sited c read =
    let widths = map (λ (s : TypedSite). s.width) c.in_ok-found.found in
    let items =
    subst (All (ItemRead widths c.in_ok-places.places c.args.names.now)) (sym c.as_slice-2.ensures)
    (read_items c.args.names.now c.args.module.now.items c.in_ok-found.found c.in_ok-places.places c.in_ok-found.ensures.sites
    (c.in_ok-places.ensures ∙ ap (map (λ (s : TypedSite). s.at)) c.as_slice.ensures) read) in
    rw c.in_ok-entries.ensures.copy (λ i. c.in_ok-parts.ensures.sited_assigns widths items i && c.in_ok-parts.ensures.sited_processes widths items i)
