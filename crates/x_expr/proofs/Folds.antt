-- What constants and trivial operations are folded to.
use Rattle.std.proofs.Common.{◌≡◌, ◌<◌, ◌*◌, ◌/◌, ◌%◌, ◌^◌, ℕ, List, Bool, true, nat_le, Some, slice_get, refl, sym, ap, ◌∙◌, arith, one-mul, zero-mul, div-one}
use Rattle.std.proofs.lemmas.Bool.Decides.{nat_tests}
use Rattle.std.proofs.Math.Nat.{mod-eq_of_lt}
use Rattle.std.specs.Option.{option_map}
use Rattle.v_meaning.specs.Senses.{copies, extended}
use Rattle.v_meaning.specs.Views.{View}
use Rattle.x_expr.specs.declared.folding.Fold.TheVariants as o
use Rattle.x_expr.specs.declared.node.Shape.TheVariants as s
use Rattle.x_expr.specs.declared.node.Node.{Node}
use Rattle.x_expr.specs.declared.node.Node.TheVariants as n
use Rattle.x_expr.specs.Folding.{IsConstant, IsFold}
use Rattle.x_expr.specs.Nodes.{HasWord, IsArena, IsNode, shape_of}
use Rattle.x_expr.specs.Values.{Fits, Many, NodeValue, One, value_at, word_in, word_of}
use Rattle.x_expr.proofs.Arenas.{node_stands, value_stands}
use Rattle.x_expr.proofs.Fitting.{value_fits, word_fits}

pub constant_is : (nodes : List Node) (number width value : ℕ) → IsArena nodes → slice_get nodes number ≡ Some (n.Constant width value) → IsConstant nodes number width value
constant_is nodes number width value arena is =
    let stands : IsNode nodes (n.Constant width value) = node_stands nodes number (n.Constant width value) arena is in
    record {
      has_bits = stands.0;
      below = stands.1;
      shape = ap (option_map shape_of) is;
      is = value_stands nodes number (n.Constant width value) arena is;
    }

one_of : (w : ℕ) (value : NodeValue) → Fits (s.Word w) value → value ≡ One (word_in value)
one_of w (One m) f = refl
one_of w (Many ms) f = absurd f

-- a word has its value, and this is below 2 ^ width
has_word : (nodes : List Node) (x w : ℕ) (v : View) → IsArena nodes → HasWord nodes x w → (value_at v nodes x ≡ One (word_of v nodes x)) × (word_of v nodes x < 2 ^ w)
has_word nodes x w v arena is =
    let fits : Fits (s.Word w) (value_at v nodes x) = value_fits nodes x (s.Word w) arena is v in
    (one_of w (value_at v nodes x) fits, word_fits w (value_at v nodes x) fits)

not_extended : (w m : ℕ) (signed : Bool) → extended w m w signed ≡ m
not_extended w m signed = let e : nat_le w w ≡ true = grind (arith, nat_tests) in rw e refl

not_copied : (w m : ℕ) → copies 1 w m ≡ m
not_copied w m = rw (zero-mul w) (omega arith)

not_cut : (w m : ℕ) → m < 2 ^ w → m / 2 ^ 0 % 2 ^ w ≡ m
not_cut w m f = ap (λ k. k % 2 ^ w) (div-one m) ∙ mod-eq_of_lt f

pub extended_there : (nodes : List Node) (from to x : ℕ) (signed : Bool) → IsArena nodes → IsNode nodes (n.Extend from to signed x) → from ≡ to → IsFold nodes (n.Extend from to signed x) (o.There x)
extended_there nodes from to x signed arena is same = (
  arena,
  is.2 ∙ ap (λ w. Some (s.Word w)) same,
  λ v. (has_word nodes x from v arena is.2).0
      ∙ ap One (sym (not_extended from (word_of v nodes x) signed) ∙ ap (λ w. extended from (word_of v nodes x) w signed) same),
)

pub copied_there : (nodes : List Node) (count w x : ℕ) → IsArena nodes → IsNode nodes (n.Copies count w x) → count ≡ 1 → IsFold nodes (n.Copies count w x) (o.There x)
copied_there nodes count w x arena is one = (
  arena,
  is.1 ∙ ap (λ k. Some (s.Word k)) (sym (one-mul w) ∙ ap (λ k. k * w) (sym one)),
  λ v. (has_word nodes x w v arena is.1).0
      ∙ ap One (sym (not_copied w (word_of v nodes x)) ∙ ap (λ k. copies k w (word_of v nodes x)) (sym one)),
)

pub part_there : (nodes : List Node) (low w x : ℕ) (node : Node) → IsArena nodes → slice_get nodes x ≡ Some node → low ≡ 0 → shape_of node ≡ s.Word w → IsFold nodes (n.Part low w x) (o.There x)
part_there nodes low w x node arena is none whole =
    let shape : HasWord nodes x w = ap (option_map shape_of) is ∙ ap Some whole in (
      arena,
      shape,
      λ v. let has : (value_at v nodes x ≡ One (word_of v nodes x)) × (word_of v nodes x < 2 ^ w) = has_word nodes x w v arena shape in
          has.0 ∙ ap One (sym (not_cut w (word_of v nodes x) has.1) ∙ ap (λ k. word_of v nodes x / 2 ^ k % 2 ^ w) (sym none)),
    )
