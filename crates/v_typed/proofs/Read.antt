-- Where as many bits are read as are open in a module or an item, they are so in what it holds.
use Rattle.std.proofs.Common.{◌≡◌, ap, sym, subst, ◌∙◌, ℕ, List, map, Bool, true, Option, Result, OnOk}
use Rattle.std.specs.Prelude.{All, slice_index}
use Rattle.std.proofs.lemmas.List.Elements.{All-weaker}
use Rattle.std.proofs.lemmas.Result.{on_ok_weaker}
use Rattle.std.proofs.lemmas.Simd.{map-map}
use Rattle.v_syntax.specs.declared.expr.Range.{Range}
use Rattle.v_syntax.specs.declared.expr.Expr.{Expr}
use Rattle.v_syntax.specs.declared.module.Setting.{Setting}
use Rattle.v_syntax.specs.declared.module.Declared.{Declared}
use Rattle.v_syntax.specs.declared.module.Item.{Item}
use Rattle.v_syntax.specs.declared.module.Item.TheVariants as i
use Rattle.v_meaning.specs.declared.names.Entry.{Entry}
use Rattle.v_meaning.specs.Expressions.{number_of_place}
use Rattle.v_meaning.specs.Sites.{Site, module_sites}
use Rattle.v_places.specs.Openings.{openings_of, value_openings, item_openings, module_openings, place_of, width_of, bits_read}
use Rattle.v_core.specs.declared.modules.TypedSite.{TypedSite}
use Rattle.v_core.specs.declared.typed.Typed.{Typed}
use Rattle.v_core.specs.declared.open.Open.{Open}
use Rattle.v_core.specs.Sited.{SitedIn, is_sited, is_sited_body}
use Rattle.v_typing.specs.Sited.{IsRead, OpenSited}
use Rattle.v_statements.proofs.ReadLaws.{all_each}
use Rattle.v_sites.specs.Found.{site_in}
use Rattle.v_typed.specs.Sited.{ValueRead, ItemRead}

-- a right side has the sites of its expression
pub side_sited : (names : List Entry) (places : List ℕ) (x : Expr) (side : Open) (t : Typed) → is_sited t ≡ is_sited_body side.body →
    ((widths : List ℕ) → IsRead widths places names x → OpenSited side names widths) → (widths : List ℕ) → IsRead widths places names x → is_sited t names widths ≡ true
side_sited names places x side t p h widths read = ap (λ (f : SitedIn). f names widths) p ∙ h widths read

-- what is so where a part is read is so where the whole is
pub where_whole : {T E : Type 0} (answer : Result T E) (Part Whole Same : List ℕ → Type 0) → ((widths : List ℕ) → Whole widths → Part widths) →
    OnOk answer ((widths : List ℕ) → Part widths → Same widths) → OnOk answer ((widths : List ℕ) → Whole widths → Same widths)
where_whole answer Part Whole Same part =
    on_ok_weaker {P = (widths : List ℕ) → Part widths → Same widths} {Q = (widths : List ℕ) → Whole widths → Same widths} answer (λ p widths read. p widths (part widths read))

module _ (widths places : List ℕ) (names : List Entry) where
  abbrev reads : Site → Type 0
  reads s = slice_index widths (number_of_place places s.at) ≡ s.width

  pub read_wires : (x : Item) (signed : Bool) (range : Option Range) (nets more : List Declared) → x ≡ i.Wires signed range nets → more ≡ nets →
      ItemRead widths places names x → All (λ (d : Declared). ValueRead widths places names d.value) more
  read_wires x signed range nets more is p h =
      subst (All (λ (d : Declared). ValueRead widths places names d.value)) (sym p)
      (all_each reads (λ (d : Declared). value_openings names d.value) nets (subst (ItemRead widths places names) is h))

  pub read_assigns : (x : Item) (settings more : List Setting) → x ≡ i.Assigns settings → more ≡ settings →
      ItemRead widths places names x → All (λ (s : Setting). IsRead widths places names s.value.expr) more
  read_assigns x settings more is p h =
      subst (All (λ (s : Setting). IsRead widths places names s.value.expr)) (sym p)
      (all_each reads (λ (s : Setting). openings_of names s.value.expr) settings (subst (ItemRead widths places names) is h))

-- at the sites that were found, and at their places
pub read_items : (names : List Entry) (items : List Item) (found : List TypedSite) (places : List ℕ) → map site_in found ≡ module_sites names items →
    places ≡ map (λ (s : TypedSite). s.at) found → All (λ (s : Site). bits_read (module_sites names items) s.at ≡ s.width) (module_openings names items) →
    All (ItemRead (map (λ (s : TypedSite). s.width) found) places names) items
read_items names items found places is at h =
    let widths : List ℕ = map (λ (s : TypedSite). s.width) found in
    let same : (n : ℕ) → slice_index widths (number_of_place places n) ≡ bits_read (module_sites names items) n =
    λ n. (λ i. slice_index (sym (map-map width_of site_in found) i) (number_of_place ((at ∙ sym (map-map place_of site_in found)) i) n))
    ∙ ap (λ (r : List Site). bits_read r n) is in
    all_each (λ (s : Site). slice_index widths (number_of_place places s.at) ≡ s.width) (item_openings names) items
    (All-weaker (λ (s : Site). bits_read (module_sites names items) s.at ≡ s.width) (λ (s : Site). slice_index widths (number_of_place places s.at) ≡ s.width)
    (λ s q. same s.at ∙ q) (module_openings names items) h)
