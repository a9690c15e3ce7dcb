-- What typed targets write, and what the parts of a target keep that can be written.
use Rattle.std.proofs.Common.{◌≡◌, ◌≤◌, ◌<◌, ◌+◌, ◌%◌, ap, sym, subst, ◌∙◌, refl, arith, ℕ, List, [], ◌∷◌, map, Bool, true, ◌&&◌}
use Rattle.std.specs.Prelude.{◌^◌, ◌==◌, nat_le}
use Rattle.std.specs.List.{list_all}
use Rattle.std.proofs.lemmas.Bool.{eqb-true}
use Rattle.v_meaning.specs.Views.{View}
use Rattle.v_meaning.specs.Targets.{TargetSense, parts_width, parts_writes, place_of, selected_target, write_bits}
use Rattle.v_meaning.specs.declared.names.Entry.{Entry}
use Rattle.v_core.specs.declared.typed.Typed.{Typed}
use Rattle.v_core.specs.declared.statement.TypedTarget.{TypedTarget}
use Rattle.v_core.specs.declared.statement.TypedTarget.TheVariants as t
use Rattle.v_core.specs.declared.statement.TypedTarget.TheOpen as o
use Rattle.v_core.specs.declared.statement.TypedTarget.TheOpen.{TypedTarget-F}
use Rattle.v_core.specs.declared.statement.TypedTarget.TheFolds.{map-TypedTarget, fold-roll-TypedTarget, ind-TypedTarget}
use Rattle.v_core.specs.declared.statement.TypedTarget.TheViews.{size_is-TypedTarget, roll-TypedTarget, out-roll-TypedTarget}
use Rattle.v_core.proofs.statement.TypedTarget.TheLaws.{the_size}
use denote.Param.Weighed.{most}
use Rattle.v_core.specs.Values.{entry_at, index_in, typed_value}
use Rattle.v_core.specs.Formed.{Formed, FormedIn, formed, has, is_width, selected_width}
use Rattle.v_core.specs.Statements.{TargetIn, target_senses, target_in_step, target_in, writes_in}
use Rattle.v_core.specs.FormedCores.{target_form, target_form_step, target_parts}
use Rattle.v_core.specs.SitedCores.{is_sited_target, sited_target_step}
use Rattle.v_values.specs.Kept.{is_kept_target, senses_in}
use Rattle.v_core.specs.Sited.{SitedIn, is_sited}
use Rattle.v_values.proofs.Tests.{first_of, second_of, within as at_most_128}

pub parts_deeper : (parts : List TypedTarget) → most the_size parts < the_size (t.Concat parts)
parts_deeper parts = rw (sym (t.rolls-Concat parts), size_is-TypedTarget (roll-TypedTarget (o.Concat parts)), out-roll-TypedTarget (o.Concat parts)) (omega arith)

-- ---- what targets write

-- bits of a variable
abbrev pub part_sense : List Entry → ℕ → ℕ → ℕ → TargetSense
part_sense names name low width = record { width = width; writes = λ v value. write_bits (place_of (entry_at names name).kind) low width value }

-- parts side by side
abbrev pub joined_sense : List TargetSense → TargetSense
joined_sense parts = record { width = parts_width parts; writes = parts_writes parts }

pub part_means : (x : TypedTarget) (name at low w : ℕ) (names : List Entry) → x ≡ t.Part name at low w → target_in x names ≡ part_sense names name low w
part_means x name at low w names is =
    ap (λ (y : TypedTarget). target_in y names) (is ∙ sym (t.rolls-Part name at low w)) ∙ ap (λ (f : TargetIn). f names) (fold-roll-TypedTarget TargetIn target_in_step (o.Part name at low w))

-- a bit or word at an index
abbrev pub select_sense : List Entry → ℕ → ℕ → ℕ → Bool → Typed → TargetSense
select_sense names name bits w s index = record {
  width = bits;
  writes = (selected_target (entry_at names name).kind (entry_at names name) (λ v. index_in w s (typed_value index names v))).writes;
}

pub select_means : (x : TypedTarget) (name at bits w : ℕ) (s : Bool) (index : Typed) (names : List Entry) → x ≡ t.Select name at bits w s index →
    target_in x names ≡ select_sense names name bits w s index
select_means x name at bits w s index names is =
    ap (λ (y : TypedTarget). target_in y names) (is ∙ sym (t.rolls-Select name at bits w s index))
    ∙ ap (λ (f : TargetIn). f names) (fold-roll-TypedTarget TargetIn target_in_step (o.Select name at bits w s index))

senses_map : (names : List Entry) (parts : List TypedTarget) → target_senses (map target_in parts) names ≡ senses_in names parts
senses_map names [] = refl
senses_map names (x ∷ xs) = ap (λ (r : List TargetSense). target_in x names ∷ r) (senses_map names xs)

pub concat_target : (x : TypedTarget) (parts more : List TypedTarget) (names : List Entry) → x ≡ t.Concat parts → more ≡ parts →
    target_in x names ≡ joined_sense (senses_in names more)
concat_target x parts more names is p =
    ap (λ (y : TypedTarget). target_in y names) (is ∙ sym (t.rolls-Concat parts)) ∙ ap (λ (f : TargetIn). f names) (fold-roll-TypedTarget TargetIn target_in_step (o.Concat parts))
    ∙ ap joined_sense (senses_map names parts) ∙ ap (λ (ps : List TypedTarget). joined_sense (senses_in names ps)) (sym p)

-- ---- what their parts keep

-- the form of bits of a variable
abbrev part_form : List Entry → ℕ → ℕ → ℕ → Formed
part_form names name low w = record { width = w; kept = is_width w && nat_le (low + w) (entry_at names name).width }

pub part_keeps : (x : TypedTarget) (name at low w : ℕ) (names : List Entry) (sites : List ℕ) → x ≡ t.Part name at low w → is_kept_target x names sites ≡ true →
    (is_width w && nat_le (low + w) (entry_at names name).width) ≡ true
part_keeps x name at low w names sites is h =
    let form : target_form x names ≡ part_form names name low w =
    ap (λ (y : TypedTarget). target_form y names) (is ∙ sym (t.rolls-Part name at low w))
    ∙ ap (λ (f : FormedIn). f names) (fold-roll-TypedTarget FormedIn target_form_step (o.Part name at low w)) in
    sym (ap (λ (f : Formed). f.kept) form) ∙ first_of (target_form x names).kept (is_sited_target x names sites) h

-- the width of the name's word, how many bits are selected of it, and the index
pub record SelectKept (names : List Entry) (sites : List ℕ) (name bits w : ℕ) (index : Typed) : Type 0 where
  pub word : is_width (entry_at names name).width ≡ true
  pub bits_are : bits ≡ selected_width (entry_at names name).kind (entry_at names name).width
  pub index_has : (formed index names).width ≡ w
  pub index_kept : (formed index names).kept ≡ true
  pub sited : is_sited index names sites ≡ true

-- the form of a bit or word at an index
abbrev select_form : List Entry → ℕ → ℕ → ℕ → Typed → Formed
select_form names name bits w index = record {
  width = bits;
  kept = is_width (entry_at names name).width && bits == selected_width (entry_at names name).kind (entry_at names name).width
      && has w (formed index names);
}

pub select_keeps : (x : TypedTarget) (name at bits w : ℕ) (s : Bool) (index : Typed) (names : List Entry) (sites : List ℕ) → x ≡ t.Select name at bits w s index →
    is_kept_target x names sites ≡ true → SelectKept names sites name bits w index
select_keeps x name at bits w s index names sites is h =
    let word = is_width (entry_at names name).width in
    let same = bits == selected_width (entry_at names name).kind (entry_at names name).width in
    let index_has = has w (formed index names) in
    let form : target_form x names ≡ select_form names name bits w index =
    ap (λ (y : TypedTarget). target_form y names) (is ∙ sym (t.rolls-Select name at bits w s index))
    ∙ ap (λ (f : FormedIn). f names) (fold-roll-TypedTarget FormedIn target_form_step (o.Select name at bits w s index)) in
    let place : is_sited_target x names sites ≡ is_sited index names sites =
    ap (λ (y : TypedTarget). is_sited_target y names sites) (is ∙ sym (t.rolls-Select name at bits w s index))
    ∙ ap (λ (f : SitedIn). f names sites) (fold-roll-TypedTarget SitedIn sited_target_step (o.Select name at bits w s index)) in
    let all : ((word && same) && index_has) ≡ true =
    sym (ap (λ (f : Formed). f.kept) form) ∙ first_of (target_form x names).kept (is_sited_target x names sites) h in
    let front : (word && same) ≡ true = first_of (word && same) index_has all in
    let last : index_has ≡ true = second_of (word && same) index_has all in
    record {
      word = first_of word same front;
      bits_are = eqb-true bits (selected_width (entry_at names name).kind (entry_at names name).width) (second_of word same front);
      index_has = eqb-true (formed index names).width w (first_of ((formed index names).width == w) (formed index names).kept last);
      index_kept = second_of ((formed index names).width == w) (formed index names).kept last;
      sited = sym place ∙ second_of (target_form x names).kept (is_sited_target x names sites) h;
    }

-- ---- parts side by side

module _ (names : List Entry) where
  -- a target has as many bits as its form
  abbrev IsWide : TypedTarget → Type 0
  IsWide x = (target_form x names).width ≡ (target_in x names).width

  abbrev Wide : Type 0
  Wide = (x : TypedTarget) × IsWide x

  abbrev plain : Wide → TypedTarget
  plain x = x.0

  abbrev WideLayer : TypedTarget-F TypedTarget → Type 0
  WideLayer y =
      (target_form_step (map-TypedTarget TypedTarget FormedIn target_form y) names).width ≡ (target_in_step (map-TypedTarget TypedTarget TargetIn target_in y) names).width

  parts_wide : (xs : List Wide) → (target_parts (map target_form (map plain xs)) names).width ≡ parts_width (target_senses (map target_in (map plain xs)) names)
  parts_wide [] = refl
  parts_wide (x ∷ xs) = λ i. x.1 i + parts_wide xs i

  layer_wide : (y : TypedTarget-F Wide) → WideLayer (map-TypedTarget Wide TypedTarget plain y)
  layer_wide (o.Part name at low width) = refl
  layer_wide (o.Select name at bits width signed index) = refl
  layer_wide (o.Concat parts) = parts_wide parts

  pub form_width : (x : TypedTarget) → IsWide x
  form_width = ind-TypedTarget IsWide (λ x y is.
      ap (λ (f : FormedIn). (f names).width) (fold-roll-TypedTarget FormedIn target_form_step x)
      ∙ subst WideLayer is (layer_wide y)
      ∙ sym (ap (λ (f : TargetIn). (f names).width) (fold-roll-TypedTarget TargetIn target_in_step x)))

widths_are : (names : List Entry) (parts : List TypedTarget) → (target_parts (map target_form parts) names).width ≡ parts_width (senses_in names parts)
widths_are names [] = refl
widths_are names (x ∷ xs) = λ i. form_width names x i + widths_are names xs i

-- each of the parts can be written
parts_kept : (names : List Entry) (sites : List ℕ) (parts : List TypedTarget) → (target_parts (map target_form parts) names).kept ≡ true →
    list_all (λ (x : SitedIn). x names sites) (map is_sited_target parts) ≡ true → list_all (λ (y : TypedTarget). is_kept_target y names sites) parts ≡ true
parts_kept names sites [] h k = refl
parts_kept names sites (x ∷ xs) h k =
    let form = (target_form x names).kept in
    let forms = (target_parts (map target_form xs) names).kept in
    let sited = is_sited_target x names sites in
    let sites_of = list_all (λ (f : SitedIn). f names sites) (map is_sited_target xs) in
    λ i. (first_of form forms h i && first_of sited sites_of k i) && parts_kept names sites xs (second_of form forms h) (second_of sited sites_of k) i

concat_form : (x : TypedTarget) (parts : List TypedTarget) (names : List Entry) (sites : List ℕ) → x ≡ t.Concat parts → is_kept_target x names sites ≡ true →
    (is_width (target_parts (map target_form parts) names).width && (target_parts (map target_form parts) names).kept) ≡ true
concat_form x parts names sites is h =
    sym
    (ap (λ (y : TypedTarget). (target_form y names).kept) (is ∙ sym (t.rolls-Concat parts))
    ∙ ap (λ (f : FormedIn). (f names).kept) (fold-roll-TypedTarget FormedIn target_form_step (o.Concat parts)))
    ∙ first_of (target_form x names).kept (is_sited_target x names sites) h

concat_sited : (x : TypedTarget) (parts : List TypedTarget) (names : List Entry) (sites : List ℕ) → x ≡ t.Concat parts → is_kept_target x names sites ≡ true →
    list_all (λ (f : SitedIn). f names sites) (map is_sited_target parts) ≡ true
concat_sited x parts names sites is h =
    sym
    (ap (λ (y : TypedTarget). is_sited_target y names sites) (is ∙ sym (t.rolls-Concat parts))
    ∙ ap (λ (f : SitedIn). f names sites) (fold-roll-TypedTarget SitedIn sited_target_step (o.Concat parts)))
    ∙ second_of (target_form x names).kept (is_sited_target x names sites) h

pub concat_word : (x : TypedTarget) (parts more : List TypedTarget) (names : List Entry) (sites : List ℕ) → x ≡ t.Concat parts → more ≡ parts →
    is_kept_target x names sites ≡ true → is_width (parts_width (senses_in names more)) ≡ true
concat_word x parts more names sites is p h =
    let forms = target_parts (map target_form parts) names in
    ap (λ (ps : List TypedTarget). is_width (parts_width (senses_in names ps))) p ∙ sym (ap is_width (widths_are names parts))
    ∙ first_of (is_width forms.width) forms.kept (concat_form x parts names sites is h)

pub concat_narrow : (x : TypedTarget) (parts more : List TypedTarget) (names : List Entry) (sites : List ℕ) → x ≡ t.Concat parts → more ≡ parts →
    is_kept_target x names sites ≡ true → parts_width (senses_in names more) ≤ 128
concat_narrow x parts more names sites is p h = at_most_128 _ (concat_word x parts more names sites is p h)

pub concat_keeps : (x : TypedTarget) (parts more : List TypedTarget) (names : List Entry) (sites : List ℕ) → x ≡ t.Concat parts → more ≡ parts →
    is_kept_target x names sites ≡ true → list_all (λ (y : TypedTarget). is_kept_target y names sites) more ≡ true
concat_keeps x parts more names sites is p h =
    let forms = target_parts (map target_form parts) names in
    ap (list_all (λ (y : TypedTarget). is_kept_target y names sites)) p
    ∙ parts_kept names sites parts (second_of (is_width forms.width) forms.kept (concat_form x parts names sites is h)) (concat_sited x parts names sites is h)

-- a value that is cut to the target's width
pub cut_writes : (m : TargetSense) (w value bits : ℕ) (v : View) → w ≡ m.width → bits ≡ value % 2 ^ w → m.writes v bits ≡ writes_in m value v
cut_writes m w value bits v p q = λ i. m.writes v ((q ∙ ap (λ (k : ℕ). value % 2 ^ k) p) i)
