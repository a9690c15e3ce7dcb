-- What is counted of each kind of expression, where a match has found it and its parts were taken out.
use Rattle.std.proofs.Common.{◌≡◌, ◌+◌, ◌*◌, ℕ, List, [], ◌∷◌, map, Bool, true, false, Option, None, refl, sym, ap, ◌∙◌, max, subst}
use Rattle.std.specs.Prelude.{◌&&◌, not, if◌then◌else◌, is_some, sum}
use Rattle.std.specs.List.{list_all}
use Rattle.std.proofs.Math.Nat.{add_assoc, add-zero, zero-add}
use Rattle.std.proofs.lemmas.List.Folds.{list_all-map}
use Rattle.v_syntax.specs.declared.token.Ident.{Ident}
use Rattle.v_syntax.specs.declared.token.Cast.{Cast}
use Rattle.v_syntax.specs.declared.expr.Expr.{Expr}
use Rattle.v_syntax.specs.declared.expr.Expr.TheVariants as e
use Rattle.v_syntax.specs.declared.expr.Expr.TheOpen as o
use Rattle.v_syntax.specs.declared.expr.Expr.TheFolds.{fold-roll-Expr, para-roll-Expr}
use Rattle.v_syntax.specs.declared.expr.Number.{Number}
use Rattle.v_syntax.specs.declared.expr.UnaryOperator.{UnaryOperator}
use Rattle.v_syntax.specs.declared.expr.BinaryOperator.{BinaryOperator}
use Rattle.v_meaning.specs.Literals.{literal_of, digit_in, is_x, is_z, is_wrong_number}
use Rattle.v_meaning.specs.Views.{View}
use Rattle.v_meaning.specs.Senses.{Sense, Class, Shared, Compared, Shifted, Logical, class_of, is_through, by_class, operated, chained, joined_behind, beside, leaf, through}
use Rattle.v_meaning.specs.declared.names.Kind.{Kind}
use Rattle.v_meaning.specs.declared.names.Kind.TheVariants.{Parameter, Clock, Input, Net, Combinational, Variable, Memory}
use Rattle.v_meaning.specs.declared.names.Entry.{Entry}
use Rattle.v_meaning.specs.Names.{entry_of, or_zero, span, within_kind, within_entry, read_selected}
use Rattle.v_meaning.specs.Expressions.{sense_step, sense_of, constant_step, is_constant, is_parameter, open_at}
use Rattle.v_meaning.specs.Declarations.{constant_value}
use Rattle.v_meaning.specs.Sites.{select_width, is_fixed}
use Rattle.v_meaning.specs.Proper.{width_of, Judged, sound_step, is_sound, can_join, is_proper_operand, is_part, is_between_1_and_128, proper_value}
use Rattle.v_meaning.specs.Weights.{Weighed, weighed, weighed_by, weighed_chain, parts_weight, weight_step, weight_at, weight_by_itself}
use Rattle.v_typing.specs.Sound.{all_sound, links_sound}
use Rattle.v_weight.specs.declared.counting.Counted.{Counted}
use Rattle.v_weight.specs.Saturated.{Same}
use Rattle.v_weight.specs.Polynomials.{Gives}
use Rattle.v_weight.specs.Counts.{Stands, Prefixes, weighing, weightless, weighed_select, weighed_choice, as_many, recast, link_weighings, links_constant, all_constant, IsCounted, IsChain, AreParts, side_by_side}
use Rattle.v_weight.proofs.Lists.{first_of, second_of, not_true, sum_cons}

counted_by : (names : List Entry) (x : Expr) (r : Counted) (w : ℕ) (f : ℕ → ℕ) (b : Bool) → width_of names x ≡ w → weight_at names x ≡ f → is_constant names x ≡ b →
    Stands r (record { width = w; at = f }) → r.is_constant ≡ b → IsCounted names x r
counted_by names x r w f b of_width of_weight of_constant s c = record {
  stands = record {
    width = subst (λ (k : ℕ). Same r.width k) (sym of_width) s.width;
    weight = subst (λ (g : ℕ → ℕ). Gives r.weight g) (sym of_weight) s.weight;
  };
  constant = c ∙ sym of_constant;
}

-- ---- leaves

pub when_number : (names : List Entry) (x : Expr) (n : Number) (r : Counted) → x ≡ e.Number n → (is_wrong_number n.spelling ≡ false → Stands r (weightless (literal_of n.spelling).width)) →
    r.is_constant ≡ (not (digit_in is_x n.spelling) && not (digit_in is_z n.spelling)) → is_sound names x ≡ true → IsCounted names x r
when_number names x n r is stands constant sound =
    let rolled = is ∙ sym (e.rolls-Number n) in
    counted_by names x r _ _ _
    (ap (width_of names) rolled ∙ ap (λ (s : Sense). s.width) (fold-roll-Expr Sense (sense_step names []) (o.Number n)))
    (ap (weight_at names) rolled ∙ para-roll-Expr (ℕ → ℕ) (weight_step names) (o.Number n))
    (ap (is_constant names) rolled ∙ fold-roll-Expr Bool (constant_step names) (o.Number n))
    (stands (not_true (is_wrong_number n.spelling) (sym (ap (is_sound names) rolled ∙ para-roll-Expr Bool (sound_step names) (o.Number n)) ∙ sound))) constant

pub when_name : (names : List Entry) (x : Expr) (n : Ident) (r : Counted) → x ≡ e.Name n → Stands r (weightless (entry_of names n.name).width) →
    r.is_constant ≡ is_parameter (entry_of names n.name).kind → IsCounted names x r
when_name names x n r is stands constant =
    let rolled = is ∙ sym (e.rolls-Name n) in
    counted_by names x r _ _ _
    (ap (width_of names) rolled ∙ ap (λ (s : Sense). s.width) (fold-roll-Expr Sense (sense_step names []) (o.Name n)))
    (ap (weight_at names) rolled ∙ para-roll-Expr (ℕ → ℕ) (weight_step names) (o.Name n))
    (ap (is_constant names) rolled ∙ fold-roll-Expr Bool (constant_step names) (o.Name n))
    stands constant

selected_is : (k : Kind) (d : Entry) (index : Sense) (free : View → ℕ) → (read_selected k d index free).width ≡ select_width k d
selected_is (Parameter value) d index free = refl
selected_is Clock d index free = refl
selected_is (Input k) d index free = refl
selected_is (Net k) d index free = refl
selected_is (Combinational k) d index free = refl
selected_is (Variable k) d index free = refl
selected_is (Memory k low count) d index free = refl

never_within : (k : Kind) (d : Entry) → is_some (within_kind k d None) ≡ false
never_within (Parameter value) d = refl
never_within Clock d = refl
never_within (Input k) d = refl
never_within (Net k) d = refl
never_within (Combinational k) d = refl
never_within (Variable k) d = refl
never_within (Memory k low count) d = refl

-- an index in range, where its value is known if it is proper
fixed_if : (constant sound : Bool) (d : Entry) (value : Option ℕ) → sound ≡ true →
    is_some (within_entry d (if constant && sound then value else None)) ≡ (constant && is_some (within_entry d value))
fixed_if true true d value h = refl
fixed_if true false d value h = absurd (cc h)
fixed_if false sound d value h = never_within d.kind d

fixed_is : (names : List Entry) (d : Entry) (index : Expr) → is_sound names index ≡ true → is_some (within_entry d (proper_value names index)) ≡ is_fixed names d index
fixed_is names d index sound = fixed_if (is_constant names index) (is_sound names index) d (constant_value names index) sound

pub when_select : (names : List Entry) (x index i : Expr) (n : Ident) (bracket : ℕ) (value : Option ℕ) (m r : Counted) → x ≡ e.Select n bracket index → i ≡ index → value ≡ proper_value names i →
    (is_sound names i ≡ true → IsCounted names i m) → ((s : Weighed) → Stands m s → Stands r (weighed_select (entry_of names n.name) (is_some (within_entry (entry_of names n.name) value)) s)) →
    r.is_constant ≡ false → is_sound names x ≡ true → IsCounted names x r
when_select names x index i n bracket value m r is p q counted stands constant sound =
    let rolled = is ∙ sym (e.rolls-Select n bracket index) in
    let inner : is_sound names i ≡ true = ap (is_sound names) p ∙ sym (ap (is_sound names) rolled ∙ para-roll-Expr Bool (sound_step names) (o.Select n bracket index)) ∙ sound in
    let fixed : is_some (within_entry (entry_of names n.name) value) ≡ is_fixed names (entry_of names n.name) index =
    ap (λ (v : Option ℕ). is_some (within_entry (entry_of names n.name) v)) q ∙ fixed_is names (entry_of names n.name) i inner ∙ ap (is_fixed names (entry_of names n.name)) p in
    counted_by names x r _ _ _
    (ap (width_of names) rolled ∙ ap (λ (s : Sense). s.width) (fold-roll-Expr Sense (sense_step names []) (o.Select n bracket index))
    ∙ selected_is (entry_of names n.name).kind (entry_of names n.name) (sense_of names [] index) (open_at [] n.at))
    (ap (weight_at names) rolled ∙ para-roll-Expr (ℕ → ℕ) (weight_step names) (o.Select n bracket index))
    (ap (is_constant names) rolled ∙ fold-roll-Expr Bool (constant_step names) (o.Select n bracket index))
    (subst (λ (j : Expr). Stands r (weighed_select (entry_of names n.name) (is_fixed names (entry_of names n.name) index) (weighed names (weighing names j)))) p
    (subst (λ (b : Bool). Stands r (weighed_select (entry_of names n.name) b (weighed names (weighing names i)))) fixed (stands _ (counted inner).stands)))
    constant

proper_is : (constant sound : Bool) (value : Option ℕ) → (constant && sound) ≡ true → (if constant && sound then value else None) ≡ value
proper_is true true value h = refl
proper_is true false value h = absurd (cc h)
proper_is false sound value h = absurd (cc h)

pub when_part : (names : List Entry) (x m l m' l' : Expr) (n : Ident) (bracket ma la : ℕ) (r : Counted) → x ≡ e.Part n bracket ma m la l → m' ≡ m → l' ≡ l →
    Stands r (weightless (span (or_zero (proper_value names m')) (or_zero (proper_value names l')))) → r.is_constant ≡ false → is_sound names x ≡ true → IsCounted names x r
when_part names x m l m' l' n bracket ma la r is p q stands constant sound =
    let rolled = is ∙ sym (e.rolls-Part n bracket ma m la l) in
    let all : ((is_proper_operand names (m, is_sound names m) && is_proper_operand names (l, is_sound names l)) && is_part (entry_of names n.name) (constant_value names m) (constant_value names l)) ≡ true =
    sym (ap (is_sound names) rolled ∙ para-roll-Expr Bool (sound_step names) (o.Part n bracket ma m la l)) ∙ sound in
    let bounds = first_of (is_proper_operand names (m, is_sound names m) && is_proper_operand names (l, is_sound names l)) _ all in
    let msb : proper_value names m' ≡ constant_value names m =
    ap (proper_value names) p ∙ proper_is (is_constant names m) (is_sound names m) (constant_value names m) (first_of _ (is_proper_operand names (l, is_sound names l)) bounds) in
    let lsb : proper_value names l' ≡ constant_value names l =
    ap (proper_value names) q ∙ proper_is (is_constant names l) (is_sound names l) (constant_value names l) (second_of (is_proper_operand names (m, is_sound names m)) _ bounds) in
    counted_by names x r _ _ _
    (ap (width_of names) rolled ∙ ap (λ (s : Sense). s.width) (fold-roll-Expr Sense (sense_step names []) (o.Part n bracket ma m la l)))
    (ap (weight_at names) rolled ∙ para-roll-Expr (ℕ → ℕ) (weight_step names) (o.Part n bracket ma m la l))
    (ap (is_constant names) rolled ∙ fold-roll-Expr Bool (constant_step names) (o.Part n bracket ma m la l))
    (subst (λ (v : Option ℕ). Stands r (weightless (span (or_zero (constant_value names m)) (or_zero v)))) lsb
    (subst (λ (v : Option ℕ). Stands r (weightless (span (or_zero v) (or_zero (proper_value names l'))))) msb stands))
    constant

-- ---- operators

through_width : (b : Bool) (op : UnaryOperator) (s : Sense) → (through b op s).width ≡ (if b then s.width else 1)
through_width true op s = refl
through_width false op s = refl

pub when_unary : (names : List Entry) (x a c : Expr) (op : UnaryOperator) (m r : Counted) → x ≡ e.Unary op a → c ≡ a → (is_sound names c ≡ true → IsCounted names c m) →
    Prefixes (is_through op) m r → r.is_constant ≡ m.is_constant → is_sound names x ≡ true → IsCounted names x r
when_unary names x a c op m r is p counted stands constant sound =
    let rolled = is ∙ ap (λ (z : Expr). e.Unary op z) (sym p) ∙ sym (e.rolls-Unary op c) in
    let inner : is_sound names c ≡ true = sym (ap (is_sound names) rolled ∙ para-roll-Expr Bool (sound_step names) (o.Unary op c)) ∙ sound in
    counted_by names x r _ _ _
    (ap (width_of names) rolled ∙ ap (λ (s : Sense). s.width) (fold-roll-Expr Sense (sense_step names []) (o.Unary op c)) ∙ through_width (is_through op) op (sense_of names [] c))
    (ap (weight_at names) rolled ∙ para-roll-Expr (ℕ → ℕ) (weight_step names) (o.Unary op c))
    (ap (is_constant names) rolled ∙ fold-roll-Expr Bool (constant_step names) (o.Unary op c))
    (stands _ (counted inner).stands) (constant ∙ (counted inner).constant)

pub when_cast : (names : List Entry) (x a c : Expr) (sign : Cast) (m r : Counted) → x ≡ e.Cast sign a → c ≡ a → (is_sound names c ≡ true → IsCounted names c m) →
    ((s : Weighed) → Stands m s → Stands r (recast s)) → r.is_constant ≡ m.is_constant → is_sound names x ≡ true → IsCounted names x r
when_cast names x a c sign m r is p counted stands constant sound =
    let rolled = is ∙ ap (λ (z : Expr). e.Cast sign z) (sym p) ∙ sym (e.rolls-Cast sign c) in
    let inner : is_sound names c ≡ true = sym (ap (is_sound names) rolled ∙ para-roll-Expr Bool (sound_step names) (o.Cast sign c)) ∙ sound in
    counted_by names x r _ _ _
    (ap (width_of names) rolled ∙ ap (λ (s : Sense). s.width) (fold-roll-Expr Sense (sense_step names []) (o.Cast sign c)))
    (ap (weight_at names) rolled ∙ para-roll-Expr (ℕ → ℕ) (weight_step names) (o.Cast sign c))
    (ap (is_constant names) rolled ∙ fold-roll-Expr Bool (constant_step names) (o.Cast sign c))
    (stands _ (counted inner).stands) (constant ∙ (counted inner).constant)

pub when_conditional : (names : List Entry) (x c y z c' y' z' : Expr) (k m n r : Counted) → x ≡ e.Conditional c y z → c' ≡ c → y' ≡ y → z' ≡ z →
    (is_sound names c' ≡ true → IsCounted names c' k) → (is_sound names y' ≡ true → IsCounted names y' m) → (is_sound names z' ≡ true → IsCounted names z' n) →
    ((u s t : Weighed) → Stands k u → Stands m s → Stands n t → Stands r (weighed_choice u s t)) → r.is_constant ≡ (k.is_constant && m.is_constant && n.is_constant) →
    is_sound names x ≡ true → IsCounted names x r
when_conditional names x c y z c' y' z' k m n r is p q u first second third stands constant sound =
    let rolled = is ∙ ap (λ (w : Expr). e.Conditional w y z) (sym p) ∙ ap (λ (w : Expr). e.Conditional c' w z) (sym q) ∙ ap (λ (w : Expr). e.Conditional c' y' w) (sym u) ∙ sym (e.rolls-Conditional c' y' z') in
    let all : ((is_sound names c' && is_sound names y') && is_sound names z') ≡ true = sym (ap (is_sound names) rolled ∙ para-roll-Expr Bool (sound_step names) (o.Conditional c' y' z')) ∙ sound in
    let both : (is_sound names c' && is_sound names y') ≡ true = first_of (is_sound names c' && is_sound names y') (is_sound names z') all in
    let of_c : IsCounted names c' k = first (first_of (is_sound names c') (is_sound names y') both) in
    let of_y : IsCounted names y' m = second (second_of (is_sound names c') (is_sound names y') both) in
    let of_z : IsCounted names z' n = third (second_of (is_sound names c' && is_sound names y') (is_sound names z') all) in
    counted_by names x r _ _ _
    (ap (width_of names) rolled ∙ ap (λ (s : Sense). s.width) (fold-roll-Expr Sense (sense_step names []) (o.Conditional c' y' z')))
    (ap (weight_at names) rolled ∙ para-roll-Expr (ℕ → ℕ) (weight_step names) (o.Conditional c' y' z'))
    (ap (is_constant names) rolled ∙ fold-roll-Expr Bool (constant_step names) (o.Conditional c' y' z'))
    (stands _ _ _ of_c.stands of_y.stands of_z.stands)
    (constant ∙ ap (λ (b : Bool). b && m.is_constant && n.is_constant) of_c.constant ∙ ap (λ (b : Bool). is_constant names c' && b && n.is_constant) of_y.constant
    ∙ ap (λ (b : Bool). is_constant names c' && is_constant names y' && b) of_z.constant)

-- ---- chains

operated_width : (class : Class) (op : BinaryOperator) (fixed : Bool) (s z : Sense) (x : Weighed) (f : ℕ → ℕ) → s.width ≡ x.width →
    (by_class class op s z).width ≡ (weighed_by class op fixed x (record { width = z.width; at = f })).width
operated_width Shared op fixed s z x f h = ap (λ k. max k z.width) h
operated_width Compared op fixed s z x f h = refl
operated_width Shifted op fixed s z x f h = h
operated_width Logical op fixed s z x f h = refl

chained_width : (names : List Entry) (s : Sense) (x : Weighed) (links : List (BinaryOperator × Expr)) → s.width ≡ x.width →
    (chained s (map (λ (l : BinaryOperator × Expr). (l.0, sense_of names [] l.1)) links)).width ≡ (weighed_chain names x (link_weighings names links)).width
chained_width names s x [] h = h
chained_width names s x (l ∷ ls) h =
    chained_width names (operated l.0 s (sense_of names [] l.1)) (weighed_by (class_of l.0) l.0 (is_constant names l.1) x (weighed names (weighing names l.1))) ls
    (operated_width (class_of l.0) l.0 (is_constant names l.1) s (sense_of names [] l.1) x (weight_at names l.1) h)

pub when_chain : (names : List Entry) (x a c : Expr) (links more : List (BinaryOperator × Expr)) (m r : Counted) → x ≡ e.Chain a links → c ≡ a → more ≡ links →
    (is_sound names c ≡ true → IsCounted names c m) → (links_sound names more ≡ true → IsChain names m more r) → is_sound names x ≡ true → IsCounted names x r
when_chain names x a c links more m r is p q counted chain sound =
    let rolled = is ∙ ap (λ (z : Expr). e.Chain z links) (sym p) ∙ ap (λ (ls : List (BinaryOperator × Expr)). e.Chain c ls) (sym q) ∙ sym (e.rolls-Chain c more) in
    let all : (is_sound names c && links_sound names more) ≡ true =
    ap (λ (b : Bool). is_sound names c && b)
    (sym (list_all-map (λ (link : BinaryOperator × Judged). link.1.1) (λ (l : BinaryOperator × Expr). (l.0, (l.1, is_sound names l.1))) more))
    ∙ sym (ap (is_sound names) rolled ∙ para-roll-Expr Bool (sound_step names) (o.Chain c more)) ∙ sound in
    let of_c : IsCounted names c m = counted (first_of (is_sound names c) (links_sound names more) all) in
    let of_links : IsChain names m more r = chain (second_of (is_sound names c) (links_sound names more) all) in
    counted_by names x r _ _ _
    (ap (width_of names) rolled ∙ ap (λ (s : Sense). s.width) (fold-roll-Expr Sense (sense_step names []) (o.Chain c more))
    ∙ chained_width names (sense_of names [] c) (weighed names (weighing names c)) more refl)
    (ap (weight_at names) rolled ∙ para-roll-Expr (ℕ → ℕ) (weight_step names) (o.Chain c more))
    (ap (is_constant names) rolled ∙ fold-roll-Expr Bool (constant_step names) (o.Chain c more))
    (of_links.stands _ of_c.stands) (of_links.constant ∙ ap (λ (b : Bool). b && links_constant names more) of_c.constant)

-- ---- parts side by side

joined_width : (names : List Entry) (s : Sense) (parts : List Expr) → (joined_behind s (map (sense_of names []) parts)).width ≡ s.width + sum (map (width_of names) parts)
joined_width names s [] = sym (add-zero s.width)
joined_width names s (x ∷ xs) =
    joined_width names (beside s (sense_of names [] x)) xs ∙ add_assoc s.width (width_of names x) (sum (map (width_of names) xs)) ∙ ap (λ n. s.width + n) (sym (sum_cons (width_of names) x xs))

pub all_width_is : (names : List Entry) (parts : List Expr) → (joined_behind (leaf 0 false (λ v. 0)) (map (sense_of names []) parts)).width ≡ sum (map (width_of names) parts)
all_width_is names parts = joined_width names (leaf 0 false (λ v. 0)) parts ∙ zero-add (sum (map (width_of names) parts))

parts_weight_is : (names : List Entry) (parts : List Expr) → parts_weight names (map (weighing names) parts) ≡ sum (map (weight_by_itself names) parts)
parts_weight_is names [] = refl
parts_weight_is names (x ∷ xs) = ap (λ n. weight_by_itself names x + n) (parts_weight_is names xs) ∙ sym (sum_cons (weight_by_itself names) x xs)

parts_sound : (names : List Entry) (parts : List Expr) → list_all (λ (y : Judged). y.1) (map (λ (y : Expr). (y, is_sound names y)) parts) ≡ all_sound names parts
parts_sound names parts = list_all-map (λ (y : Judged). y.1) (λ (y : Expr). (y, is_sound names y)) parts

pub when_concat : (names : List Entry) (x : Expr) (brace : ℕ) (parts more : List Expr) (r : Counted) → x ≡ e.Concat brace parts → more ≡ parts →
    (all_sound names more ≡ true → AreParts names more r) → is_sound names x ≡ true → IsCounted names x r
when_concat names x brace parts more r is p counted sound =
    let rolled = is ∙ ap (λ (ys : List Expr). e.Concat brace ys) (sym p) ∙ sym (e.rolls-Concat brace more) in
    let all : (all_sound names more && can_join names 1 (map (λ (y : Expr). (y, is_sound names y)) more)) ≡ true =
    ap (λ (b : Bool). b && can_join names 1 (map (λ (y : Expr). (y, is_sound names y)) more)) (sym (parts_sound names more))
    ∙ sym (ap (is_sound names) rolled ∙ para-roll-Expr Bool (sound_step names) (o.Concat brace more)) ∙ sound in
    let of_parts : AreParts names more r = counted (first_of (all_sound names more) _ all) in
    counted_by names x r _ _ _
    (ap (width_of names) rolled ∙ ap (λ (s : Sense). s.width) (fold-roll-Expr Sense (sense_step names []) (o.Concat brace more)) ∙ all_width_is names more)
    (ap (weight_at names) rolled ∙ para-roll-Expr (ℕ → ℕ) (weight_step names) (o.Concat brace more) ∙ ap {B = ℕ → ℕ} (λ (n : ℕ) (w : ℕ). n) (parts_weight_is names more))
    (ap (is_constant names) rolled ∙ fold-roll-Expr Bool (constant_step names) (o.Concat brace more))
    of_parts.stands of_parts.constant

pub when_replicate : (names : List Entry) (x a c : Expr) (brace at inner : ℕ) (parts more : List Expr) (k : ℕ) (m r : Counted) → x ≡ e.Replicate brace at a inner parts → c ≡ a → more ≡ parts →
    k ≡ or_zero (proper_value names c) → (all_sound names more ≡ true → AreParts names more m) → ((s : Weighed) → Stands m s → Stands r (as_many k s)) → r.is_constant ≡ m.is_constant →
    is_sound names x ≡ true → IsCounted names x r
when_replicate names x a c brace at inner parts more k m r is p q count counted stands constant sound =
    let rolled = is ∙ ap (λ (z : Expr). e.Replicate brace at z inner parts) (sym p) ∙ ap (λ (ys : List Expr). e.Replicate brace at c inner ys) (sym q) ∙ sym (e.rolls-Replicate brace at c inner more) in
    let judged : List Judged = map (λ (y : Expr). (y, is_sound names y)) more in
    let all : (((is_proper_operand names (c, is_sound names c) && is_between_1_and_128 (constant_value names c)) && all_sound names more) && can_join names (or_zero (constant_value names c)) judged) ≡ true =
    ap (λ (b : Bool). ((is_proper_operand names (c, is_sound names c) && is_between_1_and_128 (constant_value names c)) && b) && can_join names (or_zero (constant_value names c)) judged)
    (sym (parts_sound names more))
    ∙ sym (ap (is_sound names) rolled ∙ para-roll-Expr Bool (sound_step names) (o.Replicate brace at c inner more)) ∙ sound in
    let before : ((is_proper_operand names (c, is_sound names c) && is_between_1_and_128 (constant_value names c)) && all_sound names more) ≡ true = first_of _ _ all in
    let counts : (is_proper_operand names (c, is_sound names c) && is_between_1_and_128 (constant_value names c)) ≡ true = first_of _ (all_sound names more) before in
    let proper : (is_constant names c && is_sound names c) ≡ true = first_of (is_constant names c && is_sound names c) (is_between_1_and_128 (constant_value names c)) counts in
    let number : k ≡ or_zero (constant_value names c) = count ∙ ap or_zero (proper_is (is_constant names c) (is_sound names c) (constant_value names c) proper) in
    let of_parts : AreParts names more m = counted (second_of (is_proper_operand names (c, is_sound names c) && is_between_1_and_128 (constant_value names c)) (all_sound names more) before) in
    counted_by names x r _ _ _
    (ap (width_of names) rolled ∙ ap (λ (s : Sense). s.width) (fold-roll-Expr Sense (sense_step names []) (o.Replicate brace at c inner more))
    ∙ ap (λ n. or_zero (constant_value names c) * n) (all_width_is names more))
    (ap (weight_at names) rolled ∙ para-roll-Expr (ℕ → ℕ) (weight_step names) (o.Replicate brace at c inner more) ∙ ap {B = ℕ → ℕ} (λ (n : ℕ) (w : ℕ). n) (parts_weight_is names more))
    (ap (is_constant names) rolled ∙ fold-roll-Expr Bool (constant_step names) (o.Replicate brace at c inner more)
    ∙ ap (λ (b : Bool). b && all_constant names more) (first_of (is_constant names c) (is_sound names c) proper))
    (subst (λ (n : ℕ). Stands r (as_many n (side_by_side names more))) number (stands _ of_parts.stands)) (constant ∙ of_parts.constant)
