-- What the arms and loops of the counting answer is the number of bits, counted up to 129.
use Rattle.std.proofs.Common.{◌≡◌, ◌≤◌, ◌+◌, ◌*◌, ℕ, List, Option, Some, sym, ap, ◌∙◌, length, Bool, true, Result, Ok, Err, IfOk}
use Rattle.std.specs.Prelude.{max}
use Rattle.v_syntax.specs.declared.expr.Expr.{Expr}
use Rattle.v_syntax.specs.declared.expr.Expr.TheVariants as e
use Rattle.v_syntax.specs.declared.expr.UnaryOperator.{UnaryOperator}
use Rattle.v_syntax.specs.declared.expr.BinaryOperator.{BinaryOperator}
use Rattle.v_syntax.specs.declared.stmt.Target.{Target}
use Rattle.v_meaning.specs.Senses.{class_of}
use Rattle.v_meaning.specs.declared.names.Entry.{Entry}
use Rattle.v_meaning.specs.Names.{or_zero}
use Rattle.v_meaning.specs.Declarations.{constant_value}
use Rattle.v_meaning.specs.Proper.{bits_if, is_count, is_proper, concat_bits, replicated_bits}
use Rattle.v_meaning.specs.Marks.{joined_targets_bits}
use Rattle.v_usage.specs.Bits.{up_to_129, bits_of, target_bits, mapped, both, width_before, width_between, chain_counted}
use Rattle.v_usage.proofs.Counting.{max_counted, class_counted, sum_counted, both_counted, times_counted, before_counted, all_counted, Counts, counts_end}
use Rattle.v_usage.proofs.Variants.{when_unary, when_conditional, when_chain, replicated_is, parts_made, targets_made}

-- the same answer where the last call's is handed on
pub same_answer : {E : Type 0} (r : Result (Option ℕ) E) (a b : Option ℕ) → a ≡ b → IfOk r (λ w. w ≡ a) → IfOk r (λ w. w ≡ b)
same_answer (Ok w) a b p h = h ∙ p
same_answer (Err e) a b p h = h

pub bound_is : (names : List Entry) (x : Expr) (n : ℕ) → is_proper names x ≡ true → n ≡ or_zero (constant_value names x) → Some n ≡ bits_if (is_proper names x) (or_zero (constant_value names x))
bound_is names x n proper is = ap (λ (k : ℕ). Some k) is ∙ sym (ap (λ (b : Bool). bits_if b (or_zero (constant_value names x))) proper)

pub unary_is : (names : List Entry) (x a c : Expr) (op : UnaryOperator) (w r : Option ℕ) → x ≡ e.Unary op a → c ≡ a → w ≡ up_to_129 (bits_of names c) → r ≡ mapped (width_before op) w →
    r ≡ up_to_129 (bits_of names x)
unary_is names x a c op w r is p q made =
    made ∙ ap (mapped (width_before op)) q ∙ before_counted op (bits_of names c) ∙ ap up_to_129 (sym (when_unary names x a c op is p))

pub conditional_is : (names : List Entry) (x c y z y' z' : Expr) (w v r : Option ℕ) → x ≡ e.Conditional c y z → y' ≡ y → z' ≡ z → w ≡ up_to_129 (bits_of names y') → v ≡ up_to_129 (bits_of names z') →
    r ≡ up_to_129 (both max w v) → r ≡ up_to_129 (bits_of names x)
conditional_is names x c y z y' z' w v r is p q first second made =
    made ∙ ap (λ (o : Option ℕ). up_to_129 (both max o v)) first ∙ ap (λ (o : Option ℕ). up_to_129 (both max (up_to_129 (bits_of names y')) o)) second
    ∙ both_counted max max_counted (bits_of names y') (bits_of names z') ∙ ap up_to_129 (sym (when_conditional names x c y z y' z' is p q))

pub chain_is : (names : List Entry) (x a c : Expr) (links more : List (BinaryOperator × Expr)) (first : Option ℕ) → x ≡ e.Chain a links → c ≡ a → more ≡ links → first ≡ up_to_129 (bits_of names c) →
    chain_counted names first more ≡ up_to_129 (bits_of names x)
chain_is names x a c links more first is p q w =
    ap (λ (o : Option ℕ). chain_counted names o more) w
    ∙ all_counted (λ (l : BinaryOperator × Expr). width_between l.0) (λ (l : BinaryOperator × Expr). bits_of names l.1) (λ l. class_counted (class_of l.0)) (bits_of names c) more
    ∙ ap up_to_129 (sym (when_chain names x a c links more is p q))

pub replicated_counted : (names : List Entry) (c : Expr) (parts : List Expr) (count w r : Option ℕ) → count ≡ bits_if (is_count names c) (or_zero (constant_value names c)) → w ≡ up_to_129 (concat_bits names parts) →
    r ≡ up_to_129 (both (λ m n. m * n) count w) → r ≡ up_to_129 (replicated_bits names c parts)
replicated_counted names c parts count w r p q made =
    made ∙ ap (λ (o : Option ℕ). up_to_129 (both (λ m n. m * n) count o)) q ∙ times_counted count (concat_bits names parts)
    ∙ ap (λ (o : Option ℕ). up_to_129 (both (λ m n. m * n) o (concat_bits names parts))) p ∙ ap up_to_129 (sym (replicated_is names c parts))

pub joined_is : (names : List Entry) (parts : List Expr) (i : ℕ) (now : Option ℕ) → length parts ≤ i → Counts (λ (x : Expr) m n. m + n) (bits_of names) parts i (Some 0) now →
    now ≡ up_to_129 (concat_bits names parts)
joined_is names parts i now h c =
    counts_end (λ (x : Expr) m n. m + n) (bits_of names) parts i (Some 0) now h c ∙ all_counted (λ (x : Expr) m n. m + n) (bits_of names) (λ x. sum_counted) (Some 0) parts ∙ ap up_to_129 (parts_made names parts)

pub targets_are : (names : List Entry) (targets : List Target) (i : ℕ) (now : Option ℕ) → length targets ≤ i → Counts (λ (x : Target) m n. m + n) (target_bits names) targets i (Some 0) now →
    now ≡ up_to_129 (joined_targets_bits names targets)
targets_are names targets i now h c =
    counts_end (λ (x : Target) m n. m + n) (target_bits names) targets i (Some 0) now h c ∙ all_counted (λ (x : Target) m n. m + n) (target_bits names) (λ x. sum_counted) (Some 0) targets ∙ ap up_to_129 (targets_made names targets)
