-- A turn of the loops over the operands of a chain, over parts side by side and over the items of a case.
use Rattle.std.proofs.Common.{◌≡◌, ◌<◌, ◌≤◌, ◌+◌, ℕ, List, length, drop, get_or, Bool, true, false, refl, sym, ap, ◌∙◌, subst}
use Rattle.std.specs.Prelude.{◌&&◌}
use Rattle.std.proofs.lemmas.List.{drop_all}
use Rattle.v_syntax.specs.declared.expr.Expr.{Expr}
use Rattle.v_syntax.specs.declared.expr.BinaryOperator.{BinaryOperator}
use Rattle.v_syntax.specs.declared.expr.BinaryOperator.TheVariants as b
use Rattle.v_meaning.specs.Senses.{Shared, class_of}
use Rattle.v_meaning.specs.declared.names.Entry.{Entry}
use Rattle.v_meaning.specs.Expressions.{is_constant}
use Rattle.v_meaning.specs.Proper.{width_of, is_sound}
use Rattle.v_meaning.specs.Weights.{Weighed, weighed, weighed_by, weighed_chain, weight_by_itself}
use Rattle.v_typing.specs.Sound.{all_sound, links_sound}
use Rattle.v_weight.specs.declared.counting.Counted.{Counted}
use Rattle.v_weight.specs.Saturated.{Same}
use Rattle.v_weight.specs.Counts.{Stands, Operates, weighing, link_weighings, links_constant, all_constant, IsCounted, IsChain, AreParts}
use Rattle.v_weight.specs.Statements.{compared_behind}
use Rattle.v_weight.proofs.Lists.{next_is, passes, Sums, Adds, sums_next, sums_end}

and_assoc : (c d k : Bool) → ((c && d) && k) ≡ (c && (d && k))
and_assoc true d k = refl
and_assoc false d k = refl

and_true : (d : Bool) → (d && true) ≡ d
and_true true = refl
and_true false = refl

-- ---- chains

-- What the operands so far stand for and the links from this one on make what the first operand and all links make.
pub record ChainTo (names : List Entry) (links : List (BinaryOperator × Expr)) (i : ℕ) (begun now : Counted) : Type 0 where
  pub stands : links_sound names links ≡ true → (s : Weighed) → Stands begun s →
      (t : Weighed) × (Stands now t × (weighed_chain names t (link_weighings names (drop i links)) ≡ weighed_chain names s (link_weighings names links)))
  pub constant : links_sound names links ≡ true → (now.is_constant && links_constant names (drop i links)) ≡ (begun.is_constant && links_constant names links)

pub chain_next : (names : List Entry) (links : List (BinaryOperator × Expr)) (i : ℕ) (l : BinaryOperator × Expr) (begun now y more : Counted) → i < length links → l ≡ get_or links i l →
    (is_sound names l.1 ≡ true → IsCounted names l.1 y) → Operates (class_of l.0) l.0 now y more → more.is_constant ≡ (now.is_constant && y.is_constant) →
    ChainTo names links i begun now → ChainTo names links (i + 1) begun more
chain_next names links i l begun now y more h is counted operates constant c = record {
  stands = λ sound s p.
      let of_y : IsCounted names l.1 y = counted (passes (λ (link : BinaryOperator × Expr). is_sound names link.1) links i l h is sound) in
      let before : (t : Weighed) × (Stands now t × (weighed_chain names t (link_weighings names (drop i links)) ≡ weighed_chain names s (link_weighings names links))) = c.stands sound s p in (
        weighed_by (class_of l.0) l.0 (is_constant names l.1) before.0 (weighed names (weighing names l.1)),
        (
          subst (λ (b : Bool). Stands more (weighed_by (class_of l.0) l.0 b before.0 (weighed names (weighing names l.1)))) of_y.constant (operates before.0 _ before.1.0 of_y.stands),
          sym (ap (λ (ls : List (BinaryOperator × Expr)). weighed_chain names before.0 (link_weighings names ls)) (next_is links i l h is)) ∙ before.1.1,
        ),
      );
  constant = λ sound.
      let of_y : IsCounted names l.1 y = counted (passes (λ (link : BinaryOperator × Expr). is_sound names link.1) links i l h is sound) in
      ap (λ (b : Bool). b && links_constant names (drop (i + 1) links)) (constant ∙ ap (λ (b : Bool). now.is_constant && b) of_y.constant)
      ∙ and_assoc now.is_constant (is_constant names l.1) (links_constant names (drop (i + 1) links))
      ∙ sym (ap (λ (ls : List (BinaryOperator × Expr)). now.is_constant && links_constant names ls) (next_is links i l h is)) ∙ c.constant sound;
}

pub chain_ends : (names : List Entry) (links : List (BinaryOperator × Expr)) (i : ℕ) (begun now : Counted) → length links ≤ i → ChainTo names links i begun now →
    links_sound names links ≡ true → IsChain names begun links now
chain_ends names links i begun now h c sound = record {
  stands = λ s p.
      let before : (t : Weighed) × (Stands now t × (weighed_chain names t (link_weighings names (drop i links)) ≡ weighed_chain names s (link_weighings names links))) = c.stands sound s p in
      subst (λ (t : Weighed). Stands now t)
      (sym (ap (λ (ls : List (BinaryOperator × Expr)). weighed_chain names before.0 (link_weighings names ls)) (drop_all i links h)) ∙ before.1.1) before.1.0;
  constant = sym (and_true now.is_constant) ∙ sym (ap (λ (ls : List (BinaryOperator × Expr)). now.is_constant && links_constant names ls) (drop_all i links h)) ∙ c.constant sound;
}

-- ---- parts side by side

-- What is added up of the parts so far, and whether they are constant, with the parts from this one on.
pub record PartsTo (names : List Entry) (parts : List Expr) (i width weight : ℕ) (constant : Bool) : Type 0 where
  pub widths : all_sound names parts ≡ true → Sums (width_of names) parts i width
  pub weights : all_sound names parts ≡ true → Sums (weight_by_itself names) parts i weight
  pub constants : all_sound names parts ≡ true → (constant && all_constant names (drop i parts)) ≡ all_constant names parts

pub parts_next : (names : List Entry) (parts : List Expr) (i : ℕ) (x : Expr) (width weight more_width own more_weight : ℕ) (constant more : Bool) (one : Counted) → i < length parts → x ≡ get_or parts i x →
    (is_sound names x ≡ true → IsCounted names x one) → Adds width one.width more_width → ((s : Weighed) → Stands one s → Same own (s.at s.width)) → Adds weight own more_weight →
    more ≡ (constant && one.is_constant) → PartsTo names parts i width weight constant → PartsTo names parts (i + 1) more_width more_weight more
parts_next names parts i x width weight more_width own more_weight constant more one h is counted widths owns weights constants p = record {
  widths = λ sound. let of_x : IsCounted names x one = counted (passes (is_sound names) parts i x h is sound) in
      sums_next (width_of names) parts i x width one.width more_width h is widths of_x.stands.width (p.widths sound);
  weights = λ sound. let of_x : IsCounted names x one = counted (passes (is_sound names) parts i x h is sound) in
      sums_next (weight_by_itself names) parts i x weight own more_weight h is weights (owns _ of_x.stands) (p.weights sound);
  constants = λ sound. let of_x : IsCounted names x one = counted (passes (is_sound names) parts i x h is sound) in
      ap (λ (b : Bool). b && all_constant names (drop (i + 1) parts)) (constants ∙ ap (λ (b : Bool). constant && b) of_x.constant)
      ∙ and_assoc constant (is_constant names x) (all_constant names (drop (i + 1) parts))
      ∙ sym (ap (λ (ys : List Expr). constant && all_constant names ys) (next_is parts i x h is)) ∙ p.constants sound;
}

pub parts_end : (names : List Entry) (parts : List Expr) (i width weight : ℕ) (constant : Bool) (r : Counted) → length parts ≤ i → PartsTo names parts i width weight constant →
    ((m n : ℕ) → Same width m → Same weight n → Stands r (record { width = m; at = λ w. n })) → r.is_constant ≡ constant → all_sound names parts ≡ true → AreParts names parts r
parts_end names parts i width weight constant r h p stands is sound = record {
  stands = stands _ _ (sums_end (width_of names) parts i width h (p.widths sound)) (sums_end (weight_by_itself names) parts i weight h (p.weights sound));
  constant = is ∙ sym (and_true constant) ∙ sym (ap (λ (ys : List Expr). constant && all_constant names ys) (drop_all i parts h)) ∙ p.constants sound;
}

-- ---- the items of a case

-- What is compared so far and the items from this one on make what was compared at first and all make.
pub record ComparedTo (names : List Entry) (items : List Expr) (i : ℕ) (begun now : Counted) : Type 0 where
  pub stands : all_sound names items ≡ true → (s : Weighed) → Stands begun s → (t : Weighed) × (Stands now t × (compared_behind names t (drop i items) ≡ compared_behind names s items))

pub compared_next : (names : List Entry) (items : List Expr) (i : ℕ) (x : Expr) (begun now one more : Counted) → i < length items → x ≡ get_or items i x →
    (is_sound names x ≡ true → IsCounted names x one) → Operates Shared b.Add now one more → ComparedTo names items i begun now → ComparedTo names items (i + 1) begun more
compared_next names items i x begun now one more h is counted operates c = record {
  stands = λ sound s p.
      let of_x : IsCounted names x one = counted (passes (is_sound names) items i x h is sound) in
      let before : (t : Weighed) × (Stands now t × (compared_behind names t (drop i items) ≡ compared_behind names s items)) = c.stands sound s p in (
        weighed_by Shared b.Add (is_constant names x) before.0 (weighed names (weighing names x)),
        (operates before.0 _ before.1.0 of_x.stands, sym (ap (λ (ys : List Expr). compared_behind names before.0 ys) (next_is items i x h is)) ∙ before.1.1),
      );
}

pub compared_ends : (names : List Entry) (items : List Expr) (i : ℕ) (begun now : Counted) → length items ≤ i → ComparedTo names items i begun now →
    all_sound names items ≡ true → (s : Weighed) → Stands begun s → Stands now (compared_behind names s items)
compared_ends names items i begun now h c sound s p =
    let before : (t : Weighed) × (Stands now t × (compared_behind names t (drop i items) ≡ compared_behind names s items)) = c.stands sound s p in
    subst (λ (t : Weighed). Stands now t) (sym (ap (λ (ys : List Expr). compared_behind names before.0 ys) (drop_all i items h)) ∙ before.1.1) before.1.0
