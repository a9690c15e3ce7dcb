-- Nodes that come behind others: those that were there keep what they stand for and their values, and each node of an
-- arena is over those before it.
use Rattle.std.proofs.Common.{◌≡◌, ◌<◌, ◌+◌, ℕ, zero, suc, List, [], ◌∷◌, ◌++◌, length, true, Some, slice_get, refl, sym, ap, subst, ◌∙◌, arith, append_assoc, length-append, zero-add}
use Rattle.std.proofs.lemmas.List.{get_or_append_left, get_or-append-add}
use Rattle.v_meaning.specs.Senses.{Class, Shared, Compared, Shifted, Logical, class_of}
use Rattle.v_meaning.specs.Views.{View}
use Rattle.x_expr.specs.declared.node.Shape.{Shape}
use Rattle.x_expr.specs.declared.node.Node.{Node}
use Rattle.x_expr.specs.declared.node.Node.TheVariants as n
use Rattle.x_expr.specs.Nodes.{AreBehind, Extends, HasOperands, IsArena, IsNode, is_word, shape_at}
use Rattle.x_expr.specs.Values.{NodeValue, One, at, node_value, value_at, values_of, walked}

-- ---- what nodes stand for

pub shape_there : (nodes : List Node) (x : ℕ) (s : Shape) → shape_at nodes x ≡ Some s → x < length nodes
shape_there [] x s is = absurd (cc is)
shape_there (node ∷ nodes) zero s is = omega arith
shape_there (node ∷ nodes) (suc x) s is = omega (arith, shape_there nodes x s is)

pub word_there : (nodes : List Node) (x : ℕ) → is_word (shape_at nodes x) ≡ true → x < length nodes
word_there [] x is = absurd (cc is)
word_there (node ∷ nodes) zero is = omega arith
word_there (node ∷ nodes) (suc x) is = omega (arith, word_there nodes x is)

shape_stays : (nodes more : List Node) (x : ℕ) (s : Shape) → shape_at nodes x ≡ Some s → shape_at (nodes ++ more) x ≡ Some s
shape_stays [] more x s is = absurd (cc is)
shape_stays (node ∷ nodes) more zero s is = is
shape_stays (node ∷ nodes) more (suc x) s is = shape_stays nodes more x s is

word_stays : (nodes more : List Node) (x : ℕ) → is_word (shape_at nodes x) ≡ true → is_word (shape_at (nodes ++ more) x) ≡ true
word_stays [] more x is = absurd (cc is)
word_stays (node ∷ nodes) more zero is = is
word_stays (node ∷ nodes) more (suc x) is = word_stays nodes more x is

operands_stay : (nodes more : List Node) (c : Class) (w x y : ℕ) → HasOperands nodes c w x y → HasOperands (nodes ++ more) c w x y
operands_stay nodes more Shared w x y is = (shape_stays nodes more x _ is.0, shape_stays nodes more y _ is.1)
operands_stay nodes more Compared w x y is = (shape_stays nodes more x _ is.0, shape_stays nodes more y _ is.1)
operands_stay nodes more Shifted w x y is = (shape_stays nodes more x _ is.0, word_stays nodes more y is.1)
operands_stay nodes more Logical w x y is = (word_stays nodes more x is.0, word_stays nodes more y is.1)

pub node_stays : (nodes more : List Node) (node : Node) → IsNode nodes node → IsNode (nodes ++ more) node
node_stays nodes more (n.Constant width value) is = is
node_stays nodes more (n.Input index width) is = is
node_stays nodes more (n.Variable index width) is = is
node_stays nodes more (n.Memory index count width) is = is
node_stays nodes more (n.Site index width) is = is
node_stays nodes more (n.Unary operator width x) is = (is.0, shape_stays nodes more x _ is.1)
node_stays nodes more (n.Binary operator width signed x y) is = (is.0, operands_stay nodes more (class_of operator.0) width x y is.1)
node_stays nodes more (n.Choose shape c x y) is = (word_stays nodes more c is.0, shape_stays nodes more x _ is.1, shape_stays nodes more y _ is.2)
node_stays nodes more (n.Part low width x) is = (is.0, word_stays nodes more x is.1)
node_stays nodes more (n.Extend from to signed x) is = (is.0, is.1, shape_stays nodes more x _ is.2)
node_stays nodes more (n.Concat left_width x right_width y) is = (is.0, shape_stays nodes more x _ is.1, shape_stays nodes more y _ is.2)
node_stays nodes more (n.Copies count width x) is = (is.0, shape_stays nodes more x _ is.1)
node_stays nodes more (n.Read count width memory index) is = (shape_stays nodes more memory _ is.0, word_stays nodes more index is.1)
node_stays nodes more (n.Write count width memory index x) is =
    (shape_stays nodes more memory _ is.0, word_stays nodes more index is.1, shape_stays nodes more x _ is.2)

-- ---- what is over nodes that agree

Agree : List NodeValue → List NodeValue → ℕ → Type 0
Agree a b count = (i : ℕ) → i < count → at a i ≡ at b i

binary_same : (nodes : List Node) (a b : List NodeValue) (c : Class) (w x y : ℕ) → Agree a b (length nodes) → HasOperands nodes c w x y → (at a x ≡ at b x) × (at a y ≡ at b y)
unfolding Agree
binary_same nodes a b Shared w x y same is = (same x (shape_there nodes x _ is.0), same y (shape_there nodes y _ is.1))
binary_same nodes a b Compared w x y same is = (same x (shape_there nodes x _ is.0), same y (shape_there nodes y _ is.1))
binary_same nodes a b Shifted w x y same is = (same x (shape_there nodes x _ is.0), same y (word_there nodes y is.1))
binary_same nodes a b Logical w x y same is = (same x (word_there nodes x is.0), same y (word_there nodes y is.1))

node_same : (v : View) (nodes : List Node) (a b : List NodeValue) (node : Node) → Agree a b (length nodes) → IsNode nodes node → node_value v a node ≡ node_value v b node
unfolding Agree
node_same v nodes a b (n.Constant width value) same is = refl
node_same v nodes a b (n.Input index width) same is = refl
node_same v nodes a b (n.Variable index width) same is = refl
node_same v nodes a b (n.Memory index count width) same is = refl
node_same v nodes a b (n.Site index width) same is = refl
node_same v nodes a b (n.Unary operator width x) same is = rw (same x (shape_there nodes x _ is.1)) refl
node_same v nodes a b (n.Binary operator width signed x y) same is =
    let both : (at a x ≡ at b x) × (at a y ≡ at b y) = binary_same nodes a b (class_of operator.0) width x y same is.1 in
    rw (both.0, both.1) refl
node_same v nodes a b (n.Choose shape c x y) same is =
    rw (same c (word_there nodes c is.0), same x (shape_there nodes x _ is.1), same y (shape_there nodes y _ is.2)) refl
node_same v nodes a b (n.Part low width x) same is = rw (same x (word_there nodes x is.1)) refl
node_same v nodes a b (n.Extend from to signed x) same is = rw (same x (shape_there nodes x _ is.2)) refl
node_same v nodes a b (n.Concat left_width x right_width y) same is = rw (same x (shape_there nodes x _ is.1), same y (shape_there nodes y _ is.2)) refl
node_same v nodes a b (n.Copies count width x) same is = rw (same x (shape_there nodes x _ is.1)) refl
node_same v nodes a b (n.Read count width memory index) same is = rw (same memory (shape_there nodes memory _ is.0), same index (word_there nodes index is.1)) refl
node_same v nodes a b (n.Write count width memory index x) same is =
    rw (same memory (shape_there nodes memory _ is.0), same index (word_there nodes index is.1), same x (shape_there nodes x _ is.2)) refl

-- ---- values, node after node

pub walk_append : (v : View) (values : List NodeValue) (nodes more : List Node) → walked v values (nodes ++ more) ≡ walked v (walked v values nodes) more
unfolding walked
walk_append v values [] more = refl
walk_append v values (node ∷ nodes) more = walk_append v (values ++ node_value v values node ∷ []) nodes more

pub length_walk : (v : View) (values : List NodeValue) (nodes : List Node) → length (walked v values nodes) ≡ length values + length nodes
unfolding walked
length_walk v values [] = omega arith
length_walk v values (node ∷ nodes) =
    omega (arith, length_walk v (values ++ node_value v values node ∷ []) nodes, length-append values (node_value v values node ∷ []))

-- the values before stay
walk_keeps : (v : View) (values : List NodeValue) (nodes : List Node) → Agree (walked v values nodes) values (length values)
unfolding walked Agree
walk_keeps v values [] i h = refl
walk_keeps v values (node ∷ nodes) i h =
    walk_keeps v (values ++ node_value v values node ∷ []) nodes i (omega (arith, length-append values (node_value v values node ∷ [])))
    ∙ get_or_append_left values (node_value v values node ∷ []) (One 0) i h

-- each node is over those before it
pub node_behind : (before nodes : List Node) (i : ℕ) (node : Node) → AreBehind before nodes → slice_get nodes i ≡ Some node → IsNode (before ++ nodes) node
node_behind before [] i node are is = absurd (cc is)
node_behind before (first ∷ nodes) zero node are is =
    let e : first ≡ node = cc is in
    node_stays before (first ∷ nodes) node (subst (IsNode before) e are.0)
node_behind before (first ∷ nodes) (suc i) node are is =
    subst (λ all. IsNode all node) (append_assoc before (first ∷ []) nodes) (node_behind (before ++ first ∷ []) nodes i node are.1 is)

-- and has the value that it makes of theirs
value_behind : (v : View) (before nodes : List Node) (values : List NodeValue) (i : ℕ) (node : Node) → length values ≡ length before → AreBehind before nodes → slice_get nodes i ≡ Some node →
    at (walked v values nodes) (length values + i) ≡ node_value v (walked v values nodes) node
unfolding walked Agree
value_behind v before [] values i node long are is = absurd (cc is)
value_behind v before (first ∷ nodes) values zero node long are is =
    let e : first ≡ node = cc is in
    let more : length (values ++ node_value v values first ∷ []) ≡ length values + 1 = length-append values (node_value v values first ∷ []) in
    let stays : Agree (walked v (values ++ node_value v values first ∷ []) nodes) values (length values) = walk_keeps v values (first ∷ nodes) in
    walk_keeps v (values ++ node_value v values first ∷ []) nodes (length values + 0) (omega (arith, more))
    ∙ get_or-append-add values (node_value v values first ∷ []) 0 (One 0)
    ∙ sym (node_same v before (walked v (values ++ node_value v values first ∷ []) nodes) values first (λ k h. stays k (omega (arith, long, h))) are.0)
    ∙ ap (node_value v (walked v (values ++ node_value v values first ∷ []) nodes)) e
value_behind v before (first ∷ nodes) values (suc i) node long are is =
    let more : length (values ++ node_value v values first ∷ []) ≡ length values + 1 = length-append values (node_value v values first ∷ []) in
    let place : length values + suc i ≡ length (values ++ node_value v values first ∷ []) + i = omega (arith, more) in
    ap (at (walked v (values ++ node_value v values first ∷ []) nodes)) place
    ∙ value_behind v (before ++ first ∷ []) nodes (values ++ node_value v values first ∷ []) i node (omega (arith, more, long, length-append before (first ∷ []))) are.1 is

-- ---- the laws of arenas

pub node_stands : (nodes : List Node) (number : ℕ) (node : Node) → IsArena nodes → slice_get nodes number ≡ Some node → IsNode nodes node
node_stands nodes number node arena is = node_behind [] nodes number node arena.behind is

pub value_stands : (nodes : List Node) (number : ℕ) (node : Node) → IsArena nodes → slice_get nodes number ≡ Some node → (v : View) → value_at v nodes number ≡ node_value v (values_of v nodes) node
value_stands nodes number node arena is v = ap (value_at v nodes) (sym (zero-add number)) ∙ value_behind v [] nodes [] number node refl arena.behind is

pub value_grown : (old new : List Node) (number : ℕ) (v : View) → Extends old new → number < length old → value_at v new number ≡ value_at v old number
unfolding Agree
value_grown old new number v grows h =
    let long : length (values_of v old) ≡ 0 + length old = length_walk v [] old in
    ap (λ nodes. value_at v nodes number) grows.grown
    ∙ ap (λ values. at values number) (walk_append v [] old grows.more)
    ∙ walk_keeps v (values_of v old) grows.more number (omega (arith, long, h))

pub node_grown : (old new : List Node) (node : Node) → Extends old new → IsNode old node → IsNode new node
node_grown old new node grows is = subst (λ nodes. IsNode nodes node) (sym grows.grown) (node_stays old grows.more node is)

pub meaning_grown : (old new : List Node) (node : Node) (v : View) → Extends old new → IsNode old node → node_value v (values_of v old) node ≡ node_value v (values_of v new) node
unfolding Agree
meaning_grown old new node v grows is = node_same v old (values_of v old) (values_of v new) node (λ i h. sym (value_grown old new i v grows h)) is
