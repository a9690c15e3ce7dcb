-- The value of a node fits what the node stands for.
use Rattle.std.proofs.Common.{◌≡◌, ◌<◌, ◌≤◌, ◌+◌, ◌-◌, ◌*◌, ◌/◌, ◌%◌, ◌^◌, ℕ, zero, suc, List, [], ◌∷◌, ◌++◌, length, Bool, true, false, Some, slice_set, refl, sym, ap, subst, ◌∙◌, arith, append_assoc, append-nil, length-append, add_comm, suc-mul, if◌then◌else◌, lt_of_le_of_lt, ◌&&◌}
use Rattle.std.proofs.lemmas.Nat.{or_lt, xor_lt, mod_below, pow_pos, shr_le}
use Rattle.std.proofs.lemmas.List.{length-set}
use Rattle.lz_base.specs.Bits.{is_negative}
use Rattle.v_meaning.specs.Senses.{Class, Shared, Compared, Shifted, Logical, bit, class_of, copies, is_through, operation, operation_before}
use Rattle.v_meaning.specs.Views.{View}
use Rattle.v_syntax.specs.declared.expr.UnaryOperator.{UnaryOperator}
use Rattle.v_syntax.specs.declared.expr.UnaryOperator.TheVariants as u
use Rattle.v_syntax.specs.declared.expr.BinaryOperator.{BinaryOperator}
use Rattle.v_syntax.specs.declared.expr.BinaryOperator.TheVariants as b
use Rattle.v_words.specs.Operands.{AreOperands}
use Rattle.v_words.proofs.Powers.{and_below, ones_from_above, power_grows}
use Rattle.v_words.proofs.Splits.{beside_below}
use Rattle.x_expr.specs.declared.node.Shape.{Shape}
use Rattle.x_expr.specs.declared.node.Shape.TheVariants as s
use Rattle.x_expr.specs.declared.node.Node.{Node}
use Rattle.x_expr.specs.declared.node.Node.TheVariants as n
use Rattle.x_expr.specs.Nodes.{AreBehind, HasOperands, IsArena, IsNode, answer_width, shape_at, shape_of}
use Rattle.x_expr.specs.Values.{AreBelow, Fits, Many, NodeValue, One, at, cut_words, node_value, value_at, walked, word_in, words_in}

-- ---- words

bit_fits : (holds : Bool) → bit holds < 2 ^ 1
bit_fits true = omega arith
bit_fits false = omega arith

cut_fits : (w m : ℕ) → m % 2 ^ w < 2 ^ w
cut_fits w m = mod_below m (2 ^ w) (pow_pos w)

shifted_fits : (w m k : ℕ) → m < 2 ^ w → m / 2 ^ k < 2 ^ w
shifted_fits w m k f = lt_of_le_of_lt (shr_le m k) f

signed_fits : (w m k : ℕ) (ones : Bool) → m < 2 ^ w → (if ones then (m + (2 ^ k - 1) * 2 ^ w) / 2 ^ k else m / 2 ^ k) < 2 ^ w
signed_fits w m k true f = omega (arith, ones_from_above m k w f, pow_pos w)
signed_fits w m k false f = shifted_fits w m k f

operation_fits : (op : BinaryOperator) (w : ℕ) (s : Bool) (m k : ℕ) → AreOperands (class_of op) w m k → operation op w s m k < 2 ^ answer_width (class_of op) w
operation_fits b.Multiply w s m k f = cut_fits w _
operation_fits b.Add w s m k f = cut_fits w _
operation_fits b.Subtract w s m k f = cut_fits w _
operation_fits b.ShiftLeft w s m k f = cut_fits w _
operation_fits b.ShiftRight w s m k f = shifted_fits w m k f
operation_fits b.ShiftRightSigned w s m k f = signed_fits w m k (s && is_negative w m) f
operation_fits b.Less w s m k f = bit_fits _
operation_fits b.LessEqual w s m k f = bit_fits _
operation_fits b.Greater w s m k f = bit_fits _
operation_fits b.GreaterEqual w s m k f = bit_fits _
operation_fits b.Equal w s m k f = bit_fits _
operation_fits b.NotEqual w s m k f = bit_fits _
operation_fits b.And w s m k f = and_below m k w f.0
operation_fits b.Xor w s m k f = xor_lt w m k f.0 f.1
operation_fits b.Xnor w s m k f = omega (arith, pow_pos w)
operation_fits b.Or w s m k f = or_lt w m k f.0 f.1
operation_fits b.AndAlso w s m k f = bit_fits _
operation_fits b.OrElse w s m k f = bit_fits _

before_fits : (op : UnaryOperator) (w m : ℕ) → m < 2 ^ w → operation_before op w m < 2 ^ (if is_through op then w else 1)
before_fits u.Plus w m f = f
before_fits u.Minus w m f = cut_fits w _
before_fits u.Invert w m f = omega (arith, pow_pos w)
before_fits u.Not w m f = bit_fits _
before_fits u.And w m f = bit_fits _
before_fits u.Nand w m f = bit_fits _
before_fits u.Or w m f = bit_fits _
before_fits u.Nor w m f = bit_fits _
before_fits u.Xor w m f = bit_fits _
before_fits u.Xnor w m f = bit_fits _

above_fits : (w m to : ℕ) (same ones : Bool) → w ≤ to → m < 2 ^ w → (if same then m else (if ones then m + (2 ^ to - 2 ^ w) else m)) < 2 ^ to
above_fits w m to true ones h f = omega (arith, f, power_grows w to h)
above_fits w m to false true h f = omega (arith, f, power_grows w to h)
above_fits w m to false false h f = omega (arith, f, power_grows w to h)

copies_fit : (count w m : ℕ) → m < 2 ^ w → copies count w m < 2 ^ (count * w)
copies_fit zero w m f = omega (arith, pow_pos (0 * w))
copies_fit (suc count) w m f =
    let e : w + count * w ≡ suc count * w = add_comm w (count * w) ∙ sym (suc-mul count w) in
    subst (λ k. copies (suc count) w m < 2 ^ k) e (beside_below m (copies count w m) w (count * w) f (copies_fit count w m f))

-- ---- the words of memories

cut_below : (count w : ℕ) (words : List ℕ) → AreBelow w (cut_words count w words)
cut_below zero w words i = pow_pos w
cut_below (suc count) w [] zero = pow_pos w
cut_below (suc count) w [] (suc i) = cut_below count w [] i
cut_below (suc count) w (word ∷ words) zero = cut_fits w word
cut_below (suc count) w (word ∷ words) (suc i) = cut_below count w words i

length_cut : (count w : ℕ) (words : List ℕ) → length (cut_words count w words) ≡ count
length_cut zero w words = refl
length_cut (suc count) w [] = ap suc (length_cut count w [])
length_cut (suc count) w (word ∷ words) = ap suc (length_cut count w words)

set_below : (w : ℕ) (words : List ℕ) (k m : ℕ) → m < 2 ^ w → AreBelow w words → AreBelow w (slice_set words k m)
set_below w [] k m f h i = h i
set_below w (y ∷ ys) zero m f h zero = f
set_below w (y ∷ ys) zero m f h (suc i) = h (suc i)
set_below w (y ∷ ys) (suc k) m f h zero = h zero
set_below w (y ∷ ys) (suc k) m f h (suc i) = set_below w ys k m f (λ j. h (suc j)) i

-- ---- nodes

AllFit : List Node → List NodeValue → Type 0
AllFit nodes values = (i : ℕ) (shape : Shape) → shape_at nodes i ≡ Some shape → Fits shape (at values i)

pub word_fits : (w : ℕ) (value : NodeValue) → Fits (s.Word w) value → word_in value < 2 ^ w
word_fits w (One m) f = f
word_fits w (Many ms) f = absurd f

words_fit : (count w : ℕ) (value : NodeValue) → Fits (s.Memory count w) value → (length (words_in value) ≡ count) × AreBelow w (words_in value)
words_fit count w (One m) f = absurd f
words_fit count w (Many ms) f = f

operands_fit : (nodes : List Node) (values : List NodeValue) (c : Class) (w x y : ℕ) → AllFit nodes values → HasOperands nodes c w x y → AreOperands c w (word_in (at values x)) (word_in (at values y))
unfolding AllFit
operands_fit nodes values Shared w x y fit is = (word_fits w _ (fit x _ is.0), word_fits w _ (fit y _ is.1))
operands_fit nodes values Compared w x y fit is = (word_fits w _ (fit x _ is.0), word_fits w _ (fit y _ is.1))
operands_fit nodes values Shifted w x y fit is = word_fits w _ (fit x _ is.0)
operands_fit nodes values Logical w x y fit is = tt

chosen_fits : (shape : Shape) (a b : NodeValue) (zeroed : Bool) → Fits shape a → Fits shape b → Fits shape (if zeroed then b else a)
chosen_fits shape a b true f g = g
chosen_fits shape a b false f g = f

node_fits : (v : View) (nodes : List Node) (values : List NodeValue) (node : Node) → AllFit nodes values → IsNode nodes node → Fits (shape_of node) (node_value v values node)
unfolding AllFit
node_fits v nodes values (n.Constant width value) fit is = is.1
node_fits v nodes values (n.Input index width) fit is = cut_fits width _
node_fits v nodes values (n.Variable index width) fit is = cut_fits width _
node_fits v nodes values (n.Memory index count width) fit is = (length_cut count width _, cut_below count width _)
node_fits v nodes values (n.Site index width) fit is = cut_fits width _
node_fits v nodes values (n.Unary operator width x) fit is = before_fits operator.0 width _ (word_fits width _ (fit x _ is.1))
node_fits v nodes values (n.Binary operator width signed x y) fit is =
    operation_fits operator.0 width signed _ _ (operands_fit nodes values (class_of operator.0) width x y fit is.1)
node_fits v nodes values (n.Choose shape c x y) fit is = chosen_fits shape _ _ _ (fit x _ is.1) (fit y _ is.2)
node_fits v nodes values (n.Part low width x) fit is = cut_fits width _
node_fits v nodes values (n.Extend from to signed x) fit is = above_fits from _ to _ _ is.0 (word_fits from _ (fit x _ is.2))
node_fits v nodes values (n.Concat left_width x right_width y) fit is =
    beside_below _ _ left_width right_width (word_fits left_width _ (fit x _ is.1)) (word_fits right_width _ (fit y _ is.2))
node_fits v nodes values (n.Copies count width x) fit is = copies_fit count width _ (word_fits width _ (fit x _ is.1))
node_fits v nodes values (n.Read count width memory index) fit is = (words_fit count width _ (fit memory _ is.0)).1 _
node_fits v nodes values (n.Write count width memory index x) fit is =
    let words : (length (words_in (at values memory)) ≡ count) × AreBelow width (words_in (at values memory)) = words_fit count width _ (fit memory _ is.0) in
    (length-set _ _ _ ∙ words.0, set_below width _ _ _ (word_fits width _ (fit x _ is.2)) words.1)

-- one node more
more_fit : (nodes : List Node) (values : List NodeValue) (node : Node) (value : NodeValue) → length values ≡ length nodes → AllFit nodes values → Fits (shape_of node) value → AllFit (nodes ++ node ∷ []) (values ++ value ∷ [])
unfolding AllFit
more_fit [] [] node value long fit one zero shape is =
    let e : shape_of node ≡ shape = cc is in
    subst (λ sh. Fits sh value) e one
more_fit [] [] node value long fit one (suc i) shape is = absurd (cc is)
more_fit [] (value ∷ values) node last long fit one i shape is = absurd (cc long)
more_fit (node ∷ nodes) [] last value long fit one i shape is = absurd (cc long)
more_fit (node ∷ nodes) (value ∷ values) last new long fit one zero shape is = fit zero shape is
more_fit (node ∷ nodes) (value ∷ values) last new long fit one (suc i) shape is =
    more_fit nodes values last new (omega (arith, long)) (λ j sh. fit (suc j) sh) one i shape is

all_fit : (v : View) (before nodes : List Node) (values : List NodeValue) → length values ≡ length before → AllFit before values → AreBehind before nodes → AllFit (before ++ nodes) (walked v values nodes)
unfolding AllFit walked
all_fit v before [] values long fit are i shape is = fit i shape (subst (λ all. shape_at all i ≡ Some shape) (append-nil before) is)
all_fit v before (node ∷ nodes) values long fit are i shape is =
    all_fit v (before ++ node ∷ []) nodes (values ++ node_value v values node ∷ [])
    (omega (arith, long, length-append values (node_value v values node ∷ []), length-append before (node ∷ [])))
    (more_fit before values node (node_value v values node) long fit (node_fits v before values node fit are.0))
    are.1 i shape (subst (λ all. shape_at all i ≡ Some shape) (sym (append_assoc before (node ∷ []) nodes)) is)

-- the value of a node of an arena fits what it stands for
pub value_fits : (nodes : List Node) (number : ℕ) (shape : Shape) → IsArena nodes → shape_at nodes number ≡ Some shape → (v : View) → Fits shape (value_at v nodes number)
unfolding AllFit
value_fits nodes number shape arena is v = all_fit v [] nodes [] refl (λ i sh none. absurd (cc none)) arena.behind number shape is
