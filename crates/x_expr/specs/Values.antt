-- What nodes have in a view.
use Rattle.std.specs.Prelude.{◌≡◌, ℕ, zero, suc, ◌+◌, ◌*◌, ◌/◌, ◌%◌, ◌^◌, ◌<◌, ◌==◌, List, [], ◌∷◌, ◌++◌, length, get_or, slice_index, slice_set, if◌then◌else◌}
use Rattle.v_meaning.specs.Names.{words_of}
use Rattle.v_meaning.specs.Senses.{copies, extended, operation, operation_before}
use Rattle.v_meaning.specs.Views.{View}
use Rattle.x_expr.specs.declared.node.Shape.{Shape}
use Rattle.x_expr.specs.declared.node.Shape.TheVariants as s
use Rattle.x_expr.specs.declared.node.Node.{Node}
use Rattle.x_expr.specs.declared.node.Node.TheVariants as n

-- the value of a word, or of each word of a memory
pub data NodeValue : Type 0 where
  One : ℕ → NodeValue
  Many : List ℕ → NodeValue

abbrev pub word_in : NodeValue → ℕ
word_in (One value) = value
word_in (Many words) = 0

abbrev pub words_in : NodeValue → List ℕ
words_in (One value) = []
words_in (Many words) = words

-- so many words, each cut to a width; 0 for those that are missing
abbrev pub cut_words : ℕ → ℕ → List ℕ → List ℕ
cut_words zero width words = []
cut_words (suc count) width [] = 0 ∷ cut_words count width []
cut_words (suc count) width (word ∷ words) = word % 2 ^ width ∷ cut_words count width words

-- the value of the node of this number, among the values of all nodes
abbrev pub at : List NodeValue → ℕ → NodeValue
at values number = get_or values number (One 0)

abbrev pub word_at : List NodeValue → ℕ → ℕ
word_at values number = word_in (at values number)

abbrev pub words_at : List NodeValue → ℕ → List ℕ
words_at values number = words_in (at values number)

-- What a node has in a view, where those before it have these values. What is read is cut to its width.
abbrev pub node_value : View → List NodeValue → Node → NodeValue
node_value v values (n.Constant width value) = One value
node_value v values (n.Input index width) = One (slice_index v.inputs index % 2 ^ width)
node_value v values (n.Variable index width) = One (slice_index v.store.variables index % 2 ^ width)
node_value v values (n.Memory index count width) = Many (cut_words count width (words_of index v))
node_value v values (n.Site index width) = One (slice_index v.sites index % 2 ^ width)
node_value v values (n.Unary operator width x) = One (operation_before operator.0 width (word_at values x))
node_value v values (n.Binary operator width signed x y) = One (operation operator.0 width signed (word_at values x) (word_at values y))
node_value v values (n.Choose shape c x y) = if word_at values c == 0 then at values y else at values x
node_value v values (n.Part low width x) = One (word_at values x / 2 ^ low % 2 ^ width)
node_value v values (n.Extend from to signed x) = One (extended from (word_at values x) to signed)
node_value v values (n.Concat left_width x right_width y) = One (word_at values x * 2 ^ right_width + word_at values y)
node_value v values (n.Copies count width x) = One (copies count width (word_at values x))
node_value v values (n.Read count width memory index) = One (slice_index (words_at values memory) (word_at values index))
node_value v values (n.Write count width memory index x) =
    Many (slice_set (words_at values memory) (word_at values index) (word_at values x))

-- the values that are there, and behind them that of each node in turn
unfoldable pub walked : View → List NodeValue → List Node → List NodeValue
walked v values [] = values
walked v values (node ∷ nodes) = walked v (values ++ node_value v values node ∷ []) nodes

-- the values of all nodes
abbrev pub values_of : View → List Node → List NodeValue
values_of v nodes = walked v [] nodes

-- the value of the node of a number, as a word and as a memory
abbrev pub value_at : View → List Node → ℕ → NodeValue
value_at v nodes number = at (values_of v nodes) number

abbrev pub word_of : View → List Node → ℕ → ℕ
word_of v nodes number = word_in (value_at v nodes number)

abbrev pub memory_of : View → List Node → ℕ → List ℕ
memory_of v nodes number = words_in (value_at v nodes number)

-- each word is below 2 ^ width
abbrev pub AreBelow : ℕ → List ℕ → Type 0
AreBelow width words = (i : ℕ) → slice_index words i < 2 ^ width

-- a word below 2 ^ width, or so many of these
abbrev pub Fits : Shape → NodeValue → Type 0
Fits (s.Word width) (One value) = value < 2 ^ width
Fits (s.Word width) (Many words) = ⊥
Fits (s.Memory count width) (One value) = ⊥
Fits (s.Memory count width) (Many words) = (length words ≡ count) × AreBelow width words
