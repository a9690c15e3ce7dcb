-- How many bits each kind of expression and target has, where a match has found it and its parts were taken out.
use Rattle.std.proofs.Common.{◌≡◌, ◌+◌, ◌*◌, ℕ, List, [], ◌∷◌, map, Bool, true, false, Option, Some, refl, sym, ap, ◌∙◌}
use Rattle.std.specs.Prelude.{max, ◌&&◌, if◌then◌else◌}
use Rattle.std.specs.List.{list_all}
use Rattle.std.proofs.Math.Nat.{add_assoc, add-zero, zero-add}
use Rattle.v_syntax.specs.declared.token.Ident.{Ident}
use Rattle.v_syntax.specs.declared.token.Cast.{Cast}
use Rattle.v_syntax.specs.declared.expr.Expr.{Expr}
use Rattle.v_syntax.specs.declared.expr.Expr.TheVariants as e
use Rattle.v_syntax.specs.declared.expr.Expr.TheOpen as o
use Rattle.v_syntax.specs.declared.expr.Expr.TheFolds.{fold-roll-Expr, para-roll-Expr}
use Rattle.v_syntax.specs.declared.expr.Number.{Number}
use Rattle.v_syntax.specs.declared.expr.Range.{Range}
use Rattle.v_syntax.specs.declared.expr.UnaryOperator.{UnaryOperator}
use Rattle.v_syntax.specs.declared.expr.BinaryOperator.{BinaryOperator}
use Rattle.v_syntax.specs.declared.stmt.Target.{Target}
use Rattle.v_syntax.specs.declared.stmt.Target.TheVariants as v
use Rattle.v_syntax.specs.declared.stmt.Target.TheOpen as t
use Rattle.v_syntax.specs.declared.stmt.Target.TheFolds.{fold-roll-Target}
use Rattle.v_meaning.specs.Literals.{literal_of}
use Rattle.v_meaning.specs.Views.{View}
use Rattle.v_meaning.specs.Senses.{Sense, Class, Shared, Compared, Shifted, Logical, class_of, is_through, by_class, operated, chained, joined_behind, beside, leaf, index_of, through}
use Rattle.v_meaning.specs.declared.names.Kind.{Kind}
use Rattle.v_meaning.specs.declared.names.Kind.TheVariants.{Parameter, Clock, Input, Net, Combinational, Variable, Memory}
use Rattle.v_meaning.specs.declared.names.Entry.{Entry}
use Rattle.v_meaning.specs.Names.{entry_of, or_zero, read_selected}
use Rattle.v_meaning.specs.Targets.{TargetSense, target_step, target_of, selected_target, parts_width}
use Rattle.v_meaning.specs.Expressions.{sense_step, sense_of, open_at}
use Rattle.v_meaning.specs.Declarations.{constant_value}
use Rattle.v_meaning.specs.Proper.{bits_if, width_of, definite_step, is_definite, are_definite, all_width, definite_target_step, is_definite_target, concat_bits, replicated_bits, is_count}
use Rattle.v_meaning.specs.Marks.{targets_width, joined_targets_bits}
use Rattle.v_usage.specs.Bits.{bits_of, target_bits, part_bits, mapped, both, select_width, width_before, width_between, class_width, made_behind, chain_made}
use Rattle.v_usage.proofs.Counting.{both_if}

-- from whether a width is definite and what has it
of_sense : (d k : Bool) (s t : Sense) → d ≡ k → s ≡ t → bits_if d s.width ≡ bits_if k t.width
of_sense d k s t p q = ap (λ (b : Bool). bits_if b s.width) p ∙ ap (λ (z : Sense). bits_if k z.width) q

pub when_number : (names : List Entry) (x : Expr) (n : Number) → x ≡ e.Number n → bits_of names x ≡ Some (literal_of n.spelling).width
when_number names x n is =
    ap (bits_of names) (is ∙ sym (e.rolls-Number n))
    ∙ of_sense _ _ _ _ (para-roll-Expr Bool (definite_step names) (o.Number n)) (fold-roll-Expr Sense (sense_step names []) (o.Number n))

pub when_name : (names : List Entry) (x : Expr) (n : Ident) → x ≡ e.Name n → bits_of names x ≡ Some (entry_of names n.name).width
when_name names x n is =
    ap (bits_of names) (is ∙ sym (e.rolls-Name n))
    ∙ of_sense _ _ _ _ (para-roll-Expr Bool (definite_step names) (o.Name n)) (fold-roll-Expr Sense (sense_step names []) (o.Name n))

selected_is : (k : Kind) (d : Entry) (index : Sense) (free : View → ℕ) → (read_selected k d index free).width ≡ select_width k d.width
selected_is (Parameter value) d index free = refl
selected_is Clock d index free = refl
selected_is (Input k) d index free = refl
selected_is (Net k) d index free = refl
selected_is (Combinational k) d index free = refl
selected_is (Variable k) d index free = refl
selected_is (Memory k low count) d index free = refl

pub when_select : (names : List Entry) (x index : Expr) (n : Ident) (bracket : ℕ) → x ≡ e.Select n bracket index →
    bits_of names x ≡ Some (select_width (entry_of names n.name).kind (entry_of names n.name).width)
when_select names x index n bracket is =
    ap (bits_of names) (is ∙ sym (e.rolls-Select n bracket index))
    ∙ of_sense _ _ _ _ (para-roll-Expr Bool (definite_step names) (o.Select n bracket index)) (fold-roll-Expr Sense (sense_step names []) (o.Select n bracket index))
    ∙ ap (λ (w : ℕ). Some w) (selected_is (entry_of names n.name).kind (entry_of names n.name) (sense_of names [] index) (open_at [] n.at))

pub when_part : (names : List Entry) (x m l m' l' : Expr) (n : Ident) (bracket ma la : ℕ) → x ≡ e.Part n bracket ma m la l → m' ≡ m → l' ≡ l → bits_of names x ≡ part_bits names m' l'
when_part names x m l m' l' n bracket ma la is p q =
    rw (p, q) (ap (bits_of names) (is ∙ sym (e.rolls-Part n bracket ma m la l))
    ∙ of_sense _ _ _ _ (para-roll-Expr Bool (definite_step names) (o.Part n bracket ma m la l)) (fold-roll-Expr Sense (sense_step names []) (o.Part n bracket ma m la l)))

through_width : (b : Bool) (op : UnaryOperator) (d : Bool) (s : Sense) → bits_if d (through b op s).width ≡ mapped (λ m. if b then m else 1) (bits_if d s.width)
through_width true op true s = refl
through_width true op false s = refl
through_width false op true s = refl
through_width false op false s = refl

pub when_unary : (names : List Entry) (x a c : Expr) (op : UnaryOperator) → x ≡ e.Unary op a → c ≡ a → bits_of names x ≡ mapped (width_before op) (bits_of names c)
when_unary names x a c op is p =
    rw p (ap (bits_of names) (is ∙ sym (e.rolls-Unary op a))
    ∙ of_sense _ _ _ _ (para-roll-Expr Bool (definite_step names) (o.Unary op a)) (fold-roll-Expr Sense (sense_step names []) (o.Unary op a))
    ∙ through_width (is_through op) op (is_definite names a) (sense_of names [] a))

pub when_cast : (names : List Entry) (x a c : Expr) (sign : Cast) → x ≡ e.Cast sign a → c ≡ a → bits_of names x ≡ bits_of names c
when_cast names x a c sign is p =
    rw p (ap (bits_of names) (is ∙ sym (e.rolls-Cast sign a))
    ∙ of_sense _ _ _ _ (para-roll-Expr Bool (definite_step names) (o.Cast sign a)) (fold-roll-Expr Sense (sense_step names []) (o.Cast sign a)))

pub when_conditional : (names : List Entry) (x c y z y' z' : Expr) → x ≡ e.Conditional c y z → y' ≡ y → z' ≡ z → bits_of names x ≡ both max (bits_of names y') (bits_of names z')
when_conditional names x c y z y' z' is p q =
    rw (p, q) (ap (bits_of names) (is ∙ sym (e.rolls-Conditional c y z))
    ∙ of_sense _ _ _ _ (para-roll-Expr Bool (definite_step names) (o.Conditional c y z)) (fold-roll-Expr Sense (sense_step names []) (o.Conditional c y z))
    ∙ sym (both_if max (is_definite names y) (is_definite names z) (width_of names y) (width_of names z)))

-- ---- lists

and_true : (d : Bool) → (d && true) ≡ d
and_true true = refl
and_true false = refl

and_assoc : (c d k : Bool) → (c && (d && k)) ≡ ((c && d) && k)
and_assoc true d k = refl
and_assoc false d k = refl

operated_width : (class : Class) (op : BinaryOperator) (s z : Sense) → (by_class class op s z).width ≡ class_width class s.width z.width
operated_width Shared op s z = refl
operated_width Compared op s z = refl
operated_width Shifted op s z = refl
operated_width Logical op s z = refl

-- each operand of a chain behind its operator, and whether its width is definite; and its sense
abbrev known_links : List Entry → List (BinaryOperator × Expr) → List (BinaryOperator × (Expr × Bool))
known_links names links = map (λ (l : BinaryOperator × Expr). (l.0, (l.1, is_definite names l.1))) links

abbrev link_senses : List Entry → List (BinaryOperator × Expr) → List (BinaryOperator × Sense)
link_senses names links = map (λ (l : BinaryOperator × Expr). (l.0, sense_of names [] l.1)) links

chain_is : (names : List Entry) (d : Bool) (s : Sense) (links : List (BinaryOperator × Expr)) →
    bits_if (d && list_all (λ (l : BinaryOperator × (Expr × Bool)). l.1.1) (known_links names links)) (chained s (link_senses names links)).width ≡ chain_made names (bits_if d s.width) links
chain_is names d s [] = ap (λ (b : Bool). bits_if b s.width) (and_true d)
chain_is names d s (l ∷ ls) =
    ap (λ (b : Bool). bits_if b (chained (operated l.0 s (sense_of names [] l.1)) (link_senses names ls)).width)
    (and_assoc d (is_definite names l.1) (list_all (λ (l : BinaryOperator × (Expr × Bool)). l.1.1) (known_links names ls)))
    ∙ chain_is names (d && is_definite names l.1) (operated l.0 s (sense_of names [] l.1)) ls
    ∙ ap (λ (b : Option ℕ). chain_made names b ls)
    (ap (bits_if (d && is_definite names l.1)) (operated_width (class_of l.0) l.0 s (sense_of names [] l.1))
    ∙ sym (both_if (width_between l.0) d (is_definite names l.1) s.width (width_of names l.1)))

pub when_chain : (names : List Entry) (x a c : Expr) (links more : List (BinaryOperator × Expr)) → x ≡ e.Chain a links → c ≡ a → more ≡ links →
    bits_of names x ≡ chain_made names (bits_of names c) more
when_chain names x a c links more is p q =
    rw (p, q) (ap (bits_of names) (is ∙ sym (e.rolls-Chain a links))
    ∙ of_sense _ _ _ _ (para-roll-Expr Bool (definite_step names) (o.Chain a links)) (fold-roll-Expr Sense (sense_step names []) (o.Chain a links))
    ∙ chain_is names (is_definite names a) (sense_of names [] a) links)

-- whether the widths of parts are definite, of the parts beside that
known_parts : (names : List Entry) (xs : List Expr) → list_all (λ (x : Expr × Bool). x.1) (map (λ (y : Expr). (y, is_definite names y)) xs) ≡ are_definite names xs
known_parts names [] = refl
known_parts names (x ∷ xs) = ap (λ (b : Bool). is_definite names x && b) (known_parts names xs)

joined_is : (names : List Entry) (d : Bool) (s : Sense) (xs : List Expr) →
    bits_if (d && are_definite names xs) (joined_behind s (map (sense_of names []) xs)).width ≡ made_behind (λ (x : Expr) m n. m + n) (bits_of names) (bits_if d s.width) xs
joined_is names d s [] = ap (λ (b : Bool). bits_if b s.width) (and_true d)
joined_is names d s (x ∷ xs) =
    ap (λ (b : Bool). bits_if b (joined_behind (beside s (sense_of names [] x)) (map (sense_of names []) xs)).width) (and_assoc d (is_definite names x) (are_definite names xs))
    ∙ joined_is names (d && is_definite names x) (beside s (sense_of names [] x)) xs
    ∙ ap (λ (b : Option ℕ). made_behind (λ (x : Expr) m n. m + n) (bits_of names) b xs) (sym (both_if (λ m n. m + n) d (is_definite names x) s.width (width_of names x)))

pub parts_made : (names : List Entry) (xs : List Expr) → made_behind (λ (x : Expr) m n. m + n) (bits_of names) (Some 0) xs ≡ concat_bits names xs
parts_made names xs = sym (joined_is names true (leaf 0 false (λ v. 0)) xs)

pub when_concat : (names : List Entry) (x : Expr) (brace : ℕ) (parts more : List Expr) → x ≡ e.Concat brace parts → more ≡ parts → bits_of names x ≡ concat_bits names more
when_concat names x brace parts more is p =
    rw p (ap (bits_of names) (is ∙ sym (e.rolls-Concat brace parts))
    ∙ of_sense _ _ _ _ (para-roll-Expr Bool (definite_step names) (o.Concat brace parts)) (fold-roll-Expr Sense (sense_step names []) (o.Concat brace parts))
    ∙ ap (λ (b : Bool). bits_if b (all_width names parts)) (known_parts names parts))

pub replicated_is : (names : List Entry) (c : Expr) (parts : List Expr) →
    replicated_bits names c parts ≡ both (λ m n. m * n) (bits_if (is_count names c) (or_zero (constant_value names c))) (concat_bits names parts)
replicated_is names c parts = sym (both_if (λ m n. m * n) (is_count names c) (are_definite names parts) (or_zero (constant_value names c)) (all_width names parts))

pub when_replicate : (names : List Entry) (x c c' : Expr) (brace ca inner : ℕ) (parts more : List Expr) → x ≡ e.Replicate brace ca c inner parts → c' ≡ c → more ≡ parts →
    bits_of names x ≡ replicated_bits names c' more
when_replicate names x c c' brace ca inner parts more is p q =
    rw (p, q) (ap (bits_of names) (is ∙ sym (e.rolls-Replicate brace ca c inner parts))
    ∙ of_sense _ _ _ _ (para-roll-Expr Bool (definite_step names) (o.Replicate brace ca c inner parts)) (fold-roll-Expr Sense (sense_step names []) (o.Replicate brace ca c inner parts))
    ∙ ap (λ (b : Bool). bits_if (is_count names c && b) (or_zero (constant_value names c) * all_width names parts)) (known_parts names parts))

-- ---- targets

of_target : (d k : Bool) (s z : TargetSense) → d ≡ k → s ≡ z → bits_if d s.width ≡ bits_if k z.width
of_target d k s z p q = ap (λ (b : Bool). bits_if b s.width) p ∙ ap (λ (y : TargetSense). bits_if k y.width) q

pub target_name : (names : List Entry) (x : Target) (n : Ident) → x ≡ v.Name n → target_bits names x ≡ Some (entry_of names n.name).width
target_name names x n is =
    ap (target_bits names) (is ∙ sym (v.rolls-Name n))
    ∙ of_target _ _ _ _ (fold-roll-Target Bool (definite_target_step names) (t.Name n)) (fold-roll-Target TargetSense (target_step names []) (t.Name n))

target_selected_is : (k : Kind) (d : Entry) (index : View → Option ℕ) → (selected_target k d index).width ≡ select_width k d.width
target_selected_is (Parameter value) d index = refl
target_selected_is Clock d index = refl
target_selected_is (Input k) d index = refl
target_selected_is (Net k) d index = refl
target_selected_is (Combinational k) d index = refl
target_selected_is (Variable k) d index = refl
target_selected_is (Memory k low count) d index = refl

pub target_select : (names : List Entry) (x : Target) (index : Expr) (n : Ident) (bracket : ℕ) → x ≡ v.Select n bracket index →
    target_bits names x ≡ Some (select_width (entry_of names n.name).kind (entry_of names n.name).width)
target_select names x index n bracket is =
    ap (target_bits names) (is ∙ sym (v.rolls-Select n bracket index))
    ∙ of_target _ _ _ _ (fold-roll-Target Bool (definite_target_step names) (t.Select n bracket index)) (fold-roll-Target TargetSense (target_step names []) (t.Select n bracket index))
    ∙ ap (λ (w : ℕ). Some w) (target_selected_is (entry_of names n.name).kind (entry_of names n.name) (index_of (sense_of names [] index)))

pub target_part : (names : List Entry) (x : Target) (n : Ident) (r : Range) → x ≡ v.Part n r → target_bits names x ≡ part_bits names r.msb.expr r.lsb.expr
target_part names x n r is =
    ap (target_bits names) (is ∙ sym (v.rolls-Part n r))
    ∙ of_target _ _ _ _ (fold-roll-Target Bool (definite_target_step names) (t.Part n r)) (fold-roll-Target TargetSense (target_step names []) (t.Part n r))

known_targets : (names : List Entry) (xs : List Target) → list_all (λ (b : Bool). b) (map (is_definite_target names) xs) ≡ list_all (is_definite_target names) xs
known_targets names [] = refl
known_targets names (x ∷ xs) = ap (λ (b : Bool). is_definite_target names x && b) (known_targets names xs)

parts_width_is : (names : List Entry) (xs : List Target) → parts_width (map (target_of names []) xs) ≡ targets_width names xs
parts_width_is names [] = refl
parts_width_is names (x ∷ xs) = ap (λ (n : ℕ). (target_of names [] x).width + n) (parts_width_is names xs)

pub target_concat : (names : List Entry) (x : Target) (brace : ℕ) (parts more : List Target) → x ≡ v.Concat brace parts → more ≡ parts → target_bits names x ≡ joined_targets_bits names more
target_concat names x brace parts more is p =
    rw p (ap (target_bits names) (is ∙ sym (v.rolls-Concat brace parts))
    ∙ of_target _ _ _ _ (fold-roll-Target Bool (definite_target_step names) (t.Concat brace parts)) (fold-roll-Target TargetSense (target_step names []) (t.Concat brace parts))
    ∙ ap (λ (b : Bool). bits_if b (parts_width (map (target_of names []) parts))) (known_targets names parts)
    ∙ ap (bits_if (list_all (is_definite_target names) parts)) (parts_width_is names parts))

targets_is : (names : List Entry) (d : Bool) (n : ℕ) (xs : List Target) →
    bits_if (d && list_all (is_definite_target names) xs) (n + targets_width names xs) ≡ made_behind (λ (x : Target) m n. m + n) (target_bits names) (bits_if d n) xs
targets_is names d n [] = ap (λ (b : Bool). bits_if b (n + 0)) (and_true d) ∙ ap (bits_if d) (add-zero n)
targets_is names d n (x ∷ xs) =
    ap (λ (b : Bool). bits_if b (n + ((target_of names [] x).width + targets_width names xs))) (and_assoc d (is_definite_target names x) (list_all (is_definite_target names) xs))
    ∙ ap (bits_if ((d && is_definite_target names x) && list_all (is_definite_target names) xs)) (sym (add_assoc n (target_of names [] x).width (targets_width names xs)))
    ∙ targets_is names (d && is_definite_target names x) (n + (target_of names [] x).width) xs
    ∙ ap (λ (b : Option ℕ). made_behind (λ (x : Target) m n. m + n) (target_bits names) b xs) (sym (both_if (λ m n. m + n) d (is_definite_target names x) n (target_of names [] x).width))

pub targets_made : (names : List Entry) (xs : List Target) → made_behind (λ (x : Target) m n. m + n) (target_bits names) (Some 0) xs ≡ joined_targets_bits names xs
targets_made names xs = sym (targets_is names true 0 xs) ∙ ap (bits_if (list_all (is_definite_target names) xs)) (zero-add (targets_width names xs))
