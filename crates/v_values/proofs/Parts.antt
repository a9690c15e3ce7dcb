-- The turns of operands side by side.
use Rattle.std.proofs.Common.{◌≡◌, ◌≤◌, ◌<◌, ◌+◌, ◌*◌, ap, sym, subst, ◌∙◌, arith, ℕ, length, drop, List, ◌∷◌, true, ◌&&◌}
use Rattle.std.specs.Prelude.{◌^◌, ◌==◌}
use Rattle.std.proofs.lemmas.List.{drop_all}
use Rattle.std.proofs.lemmas.Bool.{eqb-true}
use Rattle.v_meaning.specs.Views.{View}
use Rattle.v_meaning.specs.declared.names.Entry.{Entry}
use Rattle.v_core.specs.declared.typed.Typed.{Typed}
use Rattle.v_core.specs.Values.{typed_value, concat_value, part_values}
use Rattle.v_core.specs.Formed.{has, formed, formed_parts, part_forms}
use Rattle.v_values.proofs.Tests.{first_of, second_of}

-- what is left of the operands keeps to its widths, and with so many bits before it has as many as all of them
pub record AreLeft (all left : List (ℕ × Typed)) (names : List Entry) (v : View) (width value : ℕ) : Type 0 where
  pub kept : (formed_parts (part_forms left) names).kept ≡ true
  pub bits : width + (formed_parts (part_forms left) names).width ≡ (formed_parts (part_forms all) names).width
  pub below : value < 2 ^ width
  pub same : concat_value value (part_values left) names v ≡ concat_value 0 (part_values all) names v

part_has : (p : ℕ × Typed) (all left more : List (ℕ × Typed)) (names : List Entry) (v : View) (width value : ℕ) → left ≡ p ∷ more →
    AreLeft all left names v width value → (has p.0 (formed p.1 names) && (formed_parts (part_forms more) names).kept) ≡ true
part_has p all left more names v width value is a = sym (ap (λ (ps : List (ℕ × Typed)). (formed_parts (part_forms ps) names).kept) is) ∙ a.kept

pub part_kept : (p : ℕ × Typed) (all left more : List (ℕ × Typed)) (names : List Entry) (v : View) (width value : ℕ) → left ≡ p ∷ more →
    AreLeft all left names v width value → (formed p.1 names).kept ≡ true
part_kept p all left more names v width value is a =
    second_of ((formed p.1 names).width == p.0) (formed p.1 names).kept
    (first_of (has p.0 (formed p.1 names)) (formed_parts (part_forms more) names).kept (part_has p all left more names v width value is a))

pub part_below : (p : ℕ × Typed) (all left more : List (ℕ × Typed)) (names : List Entry) (v : View) (width value one : ℕ) → left ≡ p ∷ more →
    AreLeft all left names v width value → one < 2 ^ (formed p.1 names).width → one < 2 ^ p.0
part_below p all left more names v width value one is a h =
    subst (λ (w : ℕ). one < 2 ^ w)
    (eqb-true (formed p.1 names).width p.0 (first_of ((formed p.1 names).width == p.0) (formed p.1 names).kept
    (first_of (has p.0 (formed p.1 names)) (formed_parts (part_forms more) names).kept (part_has p all left more names v width value is a))))
    h

bits_next : (p : ℕ × Typed) (all left more : List (ℕ × Typed)) (names : List Entry) (v : View) (width value : ℕ) → left ≡ p ∷ more →
    AreLeft all left names v width value → (width + p.0) + (formed_parts (part_forms more) names).width ≡ (formed_parts (part_forms all) names).width
bits_next p all left more names v width value is a =
    let e : (formed_parts (part_forms left) names).width ≡ p.0 + (formed_parts (part_forms more) names).width =
    ap (λ (ps : List (ℕ × Typed)). (formed_parts (part_forms ps) names).width) is in
    omega (arith, e, a.bits)

pub part_narrow : (p : ℕ × Typed) (all left more : List (ℕ × Typed)) (names : List Entry) (v : View) (width value : ℕ) → left ≡ p ∷ more →
    AreLeft all left names v width value → (formed_parts (part_forms all) names).width ≤ 128 → width + p.0 ≤ 128
part_narrow p all left more names v width value is a h = omega (arith, bits_next p all left more names v width value is a)

pub left_next : (p : ℕ × Typed) (all left more : List (ℕ × Typed)) (names : List Entry) (v : View) (width value one next wide : ℕ) → left ≡ p ∷ more →
    one ≡ typed_value p.1 names v → next ≡ value * 2 ^ p.0 + one → next < 2 ^ (width + p.0) → wide ≡ width + p.0 → AreLeft all left names v width value →
    AreLeft all more names v wide next
left_next p all left more names v width value one next wide is q n below w a = record {
  kept = second_of (has p.0 (formed p.1 names)) (formed_parts (part_forms more) names).kept (part_has p all left more names v width value is a);
  bits = ap (λ (k : ℕ). k + (formed_parts (part_forms more) names).width) w ∙ bits_next p all left more names v width value is a;
  below = subst (λ (k : ℕ). next < 2 ^ k) (sym w) below;
  same = ap (λ (k : ℕ). concat_value k (part_values more) names v) (n ∙ ap (λ (k : ℕ). value * 2 ^ p.0 + k) q)
      ∙ sym (ap (λ (ps : List (ℕ × Typed)). concat_value value (part_values ps) names v) is) ∙ a.same;
}

pub left_last : (parts : List (ℕ × Typed)) (i : ℕ) (names : List Entry) (v : View) (width value : ℕ) → length parts ≤ i →
    AreLeft parts (drop i parts) names v width value →
    (value ≡ concat_value 0 (part_values parts) names v) × (value < 2 ^ (formed_parts (part_forms parts) names).width)
left_last parts i names v width value h a =
    let bits : width ≡ (formed_parts (part_forms parts) names).width =
    omega (arith, a.bits, ap (λ (ps : List (ℕ × Typed)). (formed_parts (part_forms ps) names).width) (drop_all i parts h)) in (
      sym (ap (λ (ps : List (ℕ × Typed)). concat_value value (part_values ps) names v) (drop_all i parts h)) ∙ a.same,
      subst (λ (k : ℕ). value < 2 ^ k) bits a.below,
    )
