-- A node that a set takes up: the arena has it once, and all others keep their numbers.
use Rattle.std.proofs.Common.{◌≡◌, ◌⊎◌, inl, inr, ℕ, zero, suc, List, [], ◌∷◌, ◌++◌, length, Bool, true, false, if◌then◌else◌, Some, slice_get, refl, sym, ap, subst, ◌∙◌, append_assoc, append-nil}
use Rattle.std.specs.List.{list_all, list_any}
use Rattle.std.proofs.Math.Bool.{or-true}
use Rattle.std.proofs.lemmas.List.Folds.{list_all-append}
use Rattle.x_expr.specs.declared.node.Node.{Node}
use Rattle.x_expr.specs.contracts.node.NodePartialEq.TheImpl.{eq-value}
use Rattle.x_expr.specs.Nodes.{AllDiffer, AreBehind, Extends, IsArena, IsNode}
use Rattle.x_expr.proofs.Equal.{itself}

-- new nodes that are the old ones, or these and this node
pub record HasMade (old new : List Node) (x : Node) : Type 0 where
  pub extends : Extends old new
  pub found : (i : ℕ) → slice_get old i ≡ Some x → new ≡ old
  pub every : (test : Node → Bool) → test x ≡ true → list_all test old ≡ true → list_all test new ≡ true
  pub arena : IsArena new

got_more : (nodes : List Node) (x : Node) (i : ℕ) (y : Node) → slice_get (nodes ++ x ∷ []) i ≡ Some y → (slice_get nodes i ≡ Some y) ⊎ ((i ≡ length nodes) × (x ≡ y))
got_more [] x zero y is = let e : x ≡ y = cc is in inr (refl, e)
got_more [] x (suc i) y is = absurd (cc is)
got_more (node ∷ nodes) x zero y is = inl is
got_more (node ∷ nodes) x (suc i) y is = elim (got_more nodes x i y is) [
  | inl at ↦ inl at
  | inr at ↦ inr (ap suc at.0, at.1)
]

differ_more : (nodes : List Node) (x : Node) → ((i : ℕ) → slice_get nodes i ≡ Some x → ⊥) → AllDiffer nodes → AllDiffer (nodes ++ x ∷ [])
differ_more nodes x new differ = λ i j y at_i at_j. elim (got_more nodes x i y at_i) [
  | inl a ↦ (elim (got_more nodes x j y at_j) [
    | inl b ↦ differ i j y a b
    | inr b ↦ absurd (new i (a ∙ ap Some (sym b.1)))
  ])
  | inr a ↦ (elim (got_more nodes x j y at_j) [
    | inl b ↦ absurd (new j (b ∙ ap Some (sym a.1)))
    | inr b ↦ a.0 ∙ sym b.0
  ])
]

behind_more : (before nodes : List Node) (x : Node) → AreBehind before nodes → IsNode (before ++ nodes) x → AreBehind before (nodes ++ x ∷ [])
behind_more before [] x are is = (subst (λ all. IsNode all x) (append-nil before) is, tt)
behind_more before (node ∷ nodes) x are is =
    (are.0, behind_more (before ++ node ∷ []) nodes x are.1 (subst (λ all. IsNode all x) (sym (append_assoc before (node ∷ []) nodes)) is))

among : (test : Node → Bool) (nodes : List Node) (i : ℕ) (x : Node) → test x ≡ true → slice_get nodes i ≡ Some x → list_any test nodes ≡ true
among test [] i x h is = absurd (cc is)
among test (node ∷ nodes) zero x h is = let e : node ≡ x = cc is in rw (ap test e, h) refl
among test (node ∷ nodes) (suc i) x h is = rw (among test nodes i x h is) (or-true (test node))

made_by : (test : Node → Bool) (old new : List Node) (x : Node) (there : Bool) → test x ≡ true → IsArena old → IsNode old x → list_any test old ≡ there
    → new ≡ (if there then old else old ++ x ∷ []) → HasMade old new x
made_by test old new x true own arena is looked e = record {
  extends = record { more = []; grown = e ∙ sym (append-nil old) };
  found = λ i at. e;
  every = λ other h all. ap (list_all other) e ∙ all;
  arena = subst IsArena (sym e) arena;
}
made_by test old new x false own arena is looked e =
    let absent : (i : ℕ) → slice_get old i ≡ Some x → ⊥ = λ i at. absurd (cc (looked, among test old i x own at)) in
    record {
      extends = record { more = x ∷ []; grown = e };
      found = λ i at. absurd (absent i at);
      every = λ other h all. ap (list_all other) e ∙ list_all-append other old (x ∷ []) ∙ rw (all, h) refl;
      arena = subst IsArena (sym e) (record { behind = behind_more [] old x arena.behind is; differ = differ_more old x absent arena.differ });
    }

-- what an insertion into a set leaves
pub made : {before old new : List Node} {x : Node} → before ≡ old → IsArena before → IsNode old x
    → new ≡ (if list_any (eq-value.it x) before then before else before ++ x ∷ []) → HasMade old new x
made {before} {old} {new} {x} same arena is e =
    subst (λ all. HasMade all new x) same (made_by (eq-value.it x) before new x (list_any (eq-value.it x) before) (itself x) arena (subst (λ all. IsNode all x) (sym same) is) refl e)
