-- The turns of a chain.
use Rattle.std.proofs.Common.{◌≡◌, ◌≤◌, ◌<◌, ◌+◌, ap, sym, subst, ◌∙◌, refl, ℕ, suc, length, get_or, drop, drop-cons, add-one, List, [], ◌∷◌, Bool, true, false, ◌&&◌}
use Rattle.std.specs.Prelude.{◌^◌, ◌==◌}
use Rattle.std.specs.List.{list_all}
use Rattle.std.proofs.lemmas.List.{drop_all}
use Rattle.std.proofs.lemmas.List.Folds.{list_all_at}
use Rattle.v_meaning.specs.Views.{View}
use Rattle.v_meaning.specs.Senses.{Class, Shared, Compared, Shifted, Logical, class_of, operation}
use Rattle.v_meaning.specs.declared.names.Entry.{Entry}
use Rattle.v_core.specs.declared.typed.Link.{Link}
use Rattle.v_core.specs.declared.typed.Typed.{Typed}
use Rattle.v_core.specs.Values.{typed_value, chain_value, link_values}
use Rattle.v_core.specs.Formed.{Formed, has, has_at_most, is_width, formed, formed_chain, linked_by, link_forms}
use Rattle.v_values.specs.Chains.{Begins, Meets}
use Rattle.v_values.proofs.Tests.{first_of, second_of}

pub next_is : {X : Type 0} (xs : List X) (i : ℕ) (x : X) → i < length xs → x ≡ get_or xs i x → drop i xs ≡ x ∷ drop (i + 1) xs
next_is xs i x h is = rw (add-one i) (drop-cons xs i x h ∙ ap (λ y. y ∷ drop (suc i) xs) (sym is))

-- Each of the elements passes where all do.
pub one_of : {X : Type 0} (test : X → Bool) (xs : List X) (i : ℕ) (x : X) → i < length xs → x ≡ get_or xs i x → list_all test xs ≡ true → test x ≡ true
one_of test xs i x h is all = by_test (test x) refl
  where
    by_test : (b : Bool) → test x ≡ b → test x ≡ true
    by_test true e = e
    by_test false e = absurd (cc (sym (list_all_at test xs i x h (ap test (sym is) ∙ e)) ∙ all))

-- ---- what an operator's operands are that keep to its width

right_kept : (c : Class) (l : Link) (x y : Formed) → (linked_by c l x y).kept ≡ true → y.kept ≡ true
right_kept Shared l x y h = second_of (y.width == l.width) y.kept (second_of (is_width l.width && has_at_most l.width x) (has l.width y) h)
right_kept Compared l x y h = second_of (y.width == l.width) y.kept (second_of (is_width l.width && has_at_most l.width x) (has l.width y) h)
right_kept Shifted l x y h = second_of (is_width l.width && has_at_most l.width x) y.kept h
right_kept Logical l x y h = second_of x.kept y.kept h

left_kept : (c : Class) (l : Link) (x y : Formed) → (linked_by c l x y).kept ≡ true → x.kept ≡ true
left_kept Shared l x y h = second_of _ x.kept (second_of (is_width l.width) (has_at_most l.width x) (first_of (is_width l.width && has_at_most l.width x) (has l.width y) h))
left_kept Compared l x y h = second_of _ x.kept (second_of (is_width l.width) (has_at_most l.width x) (first_of (is_width l.width && has_at_most l.width x) (has l.width y) h))
left_kept Shifted l x y h = second_of _ x.kept (second_of (is_width l.width) (has_at_most l.width x) (first_of (is_width l.width && has_at_most l.width x) y.kept h))
left_kept Logical l x y h = first_of x.kept y.kept h

linked_word : (c : Class) (l : Link) (x y : Formed) → (linked_by c l x y).kept ≡ true → is_width (linked_by c l x y).width ≡ true
linked_word Shared l x y h = first_of (is_width l.width) (has_at_most l.width x) (first_of (is_width l.width && has_at_most l.width x) (has l.width y) h)
linked_word Compared l x y h = refl
linked_word Shifted l x y h = first_of (is_width l.width) (has_at_most l.width x) (first_of (is_width l.width && has_at_most l.width x) y.kept h)
linked_word Logical l x y h = refl

-- what stands before operands that keep to their widths does so itself
pub before_kept : (x : Formed) (links : List (Link × Typed)) (names : List Entry) → (formed_chain x (link_forms links) names).kept ≡ true → x.kept ≡ true
before_kept x [] names h = h
before_kept x (l ∷ ls) names h =
    left_kept (class_of l.0.operator) l.0 x (formed l.1 names) (before_kept (linked_by (class_of l.0.operator) l.0 x (formed l.1 names)) ls names h)

-- ---- the turns

-- what is left of a chain is that of a whole chain
pub record Follows (form : Formed) (all left : List (Link × Typed)) (names : List Entry) (value : ℕ) : Type 0 where
  pub here : Formed
  pub begins : Begins here value left names
  pub same : formed_chain here (link_forms left) names ≡ formed_chain form (link_forms all) names

-- the form behind one operator more
abbrev behind : Formed → Link × Typed → List Entry → Formed
behind x l names = linked_by (class_of l.0.operator) l.0 x (formed l.1 names)

next_kept : (here : Formed) (l : Link × Typed) (left more : List (Link × Typed)) (names : List Entry) → left ≡ l ∷ more →
    (formed_chain here (link_forms left) names).kept ≡ true → (behind here l names).kept ≡ true
next_kept here l left more names p h =
    before_kept (behind here l names) more names (sym (ap (λ (ls : List (Link × Typed)). (formed_chain here (link_forms ls) names).kept) p) ∙ h)

pub operand_kept : (form : Formed) (l : Link × Typed) (all left more : List (Link × Typed)) (names : List Entry) (value : ℕ) → left ≡ l ∷ more →
    Follows form all left names value → (formed l.1 names).kept ≡ true
operand_kept form l all left more names value p f =
    right_kept (class_of l.0.operator) l.0 f.here (formed l.1 names) (next_kept f.here l left more names p f.begins.kept)

pub operands_meet : (form : Formed) (l : Link × Typed) (all left more : List (Link × Typed)) (names : List Entry) (value right : ℕ) → left ≡ l ∷ more →
    Follows form all left names value → right < 2 ^ (formed l.1 names).width → (x : Formed) × (y : Formed) × Meets x y l.0 value right
operands_meet form l all left more names value right p f below =
    (f.here, formed l.1 names, record { kept = next_kept f.here l left more names p f.begins.kept; left_below = f.begins.below; right_below = below })

pub follows_next : (form : Formed) (l : Link × Typed) (all left more : List (Link × Typed)) (names : List Entry) (value next : ℕ) → left ≡ l ∷ more →
    ((x y : Formed) → next < 2 ^ (linked_by (class_of l.0.operator) l.0 x y).width) → Follows form all left names value → Follows form all more names next
follows_next form l all left more names value next p below f = record {
  here = behind f.here l names;
  begins = record {
    word = linked_word (class_of l.0.operator) l.0 f.here (formed l.1 names) (next_kept f.here l left more names p f.begins.kept);
    below = below f.here (formed l.1 names);
    kept = sym (ap (λ (ls : List (Link × Typed)). (formed_chain f.here (link_forms ls) names).kept) p) ∙ f.begins.kept;
  };
  same = sym (ap (λ (ls : List (Link × Typed)). formed_chain f.here (link_forms ls) names) p) ∙ f.same;
}

pub value_next : (l : Link × Typed) (left more : List (Link × Typed)) (names : List Entry) (v : View) (value right next whole : ℕ) → left ≡ l ∷ more →
    right ≡ typed_value l.1 names v → next ≡ operation l.0.operator l.0.width l.0.signed value right →
    chain_value value (link_values left) names v ≡ whole → chain_value next (link_values more) names v ≡ whole
value_next l left more names v value right next whole p q is before =
    ap (λ (n : ℕ). chain_value n (link_values more) names v) (is ∙ ap (λ (n : ℕ). operation l.0.operator l.0.width l.0.signed value n) q)
    ∙ sym (ap (λ (ls : List (Link × Typed)). chain_value value (link_values ls) names v) p) ∙ before

pub value_last : (links : List (Link × Typed)) (i : ℕ) (names : List Entry) (v : View) (value whole : ℕ) → length links ≤ i →
    chain_value value (link_values (drop i links)) names v ≡ whole → value ≡ whole
value_last links i names v value whole h before = sym (ap (λ (ls : List (Link × Typed)). chain_value value (link_values ls) names v) (drop_all i links h)) ∙ before

pub follows_last : (form : Formed) (links : List (Link × Typed)) (i : ℕ) (names : List Entry) (value : ℕ) → length links ≤ i →
    Follows form links (drop i links) names value →
    (value < 2 ^ (formed_chain form (link_forms links) names).width) × (is_width (formed_chain form (link_forms links) names).width ≡ true)
follows_last form links i names value h f =
    let same : f.here.width ≡ (formed_chain form (link_forms links) names).width =
    ap (λ (x : Formed). x.width) (sym (ap (λ (ls : List (Link × Typed)). formed_chain f.here (link_forms ls) names) (drop_all i links h)) ∙ f.same) in
    (subst (λ (w : ℕ). value < 2 ^ w) same f.begins.below, subst (λ (w : ℕ). is_width w ≡ true) same f.begins.word)

pub follows_first : (form : Formed) (links : List (Link × Typed)) (names : List Entry) (first : ℕ) → Begins form first links names → Follows form links links names first
follows_first form links names first b = record { here = form; begins = b; same = refl }
