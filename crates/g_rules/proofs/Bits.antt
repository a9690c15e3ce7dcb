-- Laws of `and` and `xor` of bits.
use Rattle.std.proofs.Common.{◌≡◌, Bool, true, false, ◌&&◌, ◌||◌, refl, inl, inr, if◌then◌else◌, ◌⊎◌}
use mathlib.Core.Bool.{xor, not, beq}

-- a property of a choice is shown on each side
pub by_test : {X : Type 0} (test : Bool) (P : X → Type 0) (x y : X) → (test ≡ true → P x) → (test ≡ false → P y) → P (if test then x else y)
by_test true P x y f g = f refl
by_test false P x y f g = g refl

pub either : (a b : Bool) → (a || b) ≡ true → (a ≡ true) ⊎ (b ≡ true)
either true b e = inl refl
either false b e = inr e

pub false_xor : (b : Bool) → xor false b ≡ b
unfolding xor
false_xor true = refl
false_xor false = refl

pub true_xor : (b : Bool) → xor true b ≡ not b
unfolding xor
true_xor true = refl
true_xor false = refl

pub xor_is : (a b : Bool) → not (beq a b) ≡ xor a b
unfolding xor
xor_is a b = refl

pub xor_comm : (a b : Bool) → xor a b ≡ xor b a
unfolding xor
xor_comm true true = refl
xor_comm true false = refl
xor_comm false true = refl
xor_comm false false = refl

pub xor_assoc : (a b c : Bool) → xor (xor a b) c ≡ xor a (xor b c)
unfolding xor
xor_assoc true true true = refl
xor_assoc true true false = refl
xor_assoc true false true = refl
xor_assoc true false false = refl
xor_assoc false true true = refl
xor_assoc false true false = refl
xor_assoc false false true = refl
xor_assoc false false false = refl

pub xor_self : (a : Bool) → xor a a ≡ false
unfolding xor
xor_self true = refl
xor_self false = refl

pub not_xor_self : (a : Bool) → xor (not a) a ≡ true
unfolding xor
not_xor_self true = refl
not_xor_self false = refl

pub not_xor : (b c x : Bool) → b ≡ not c → xor b x ≡ not (xor c x)
unfolding xor
not_xor b true true e = rw e refl
not_xor b true false e = rw e refl
not_xor b false true e = rw e refl
not_xor b false false e = rw e refl

-- signs come out of an exclusive or
pub signs_out : (s t m n : Bool) → xor (xor s t) (xor m n) ≡ xor (xor s m) (xor t n)
unfolding xor
signs_out true true true true = refl
signs_out true true true false = refl
signs_out true true false true = refl
signs_out true true false false = refl
signs_out true false true true = refl
signs_out true false true false = refl
signs_out true false false true = refl
signs_out true false false false = refl
signs_out false true true true = refl
signs_out false true true false = refl
signs_out false true false true = refl
signs_out false true false false = refl
signs_out false false true true = refl
signs_out false false true false = refl
signs_out false false false true = refl
signs_out false false false false = refl

-- two literals of one node differ by their signs
pub sign_apart : (s t n : Bool) → xor s n ≡ xor (xor s t) (xor t n)
unfolding xor
sign_apart true true true = refl
sign_apart true true false = refl
sign_apart true false true = refl
sign_apart true false false = refl
sign_apart false true true = refl
sign_apart false true false = refl
sign_apart false false true = refl
sign_apart false false false = refl

-- in the exclusive or with a gate that has the same node, that node cancels
pub node_cancels : (s d x y : Bool) → xor (xor s d) y ≡ xor (xor d x) (xor s (xor x y))
unfolding xor
node_cancels true true true true = refl
node_cancels true true true false = refl
node_cancels true true false true = refl
node_cancels true true false false = refl
node_cancels true false true true = refl
node_cancels true false true false = refl
node_cancels true false false true = refl
node_cancels true false false false = refl
node_cancels false true true true = refl
node_cancels false true true false = refl
node_cancels false true false true = refl
node_cancels false true false false = refl
node_cancels false false true true = refl
node_cancels false false true false = refl
node_cancels false false false true = refl
node_cancels false false false false = refl

pub and_self : (a : Bool) → (a && a) ≡ a
and_self true = refl
and_self false = refl

pub and_true : (a : Bool) → (a && true) ≡ a
and_true true = refl
and_true false = refl

pub and_false : (a : Bool) → (a && false) ≡ false
and_false true = refl
and_false false = refl

pub not_and_self : (a : Bool) → (not a && a) ≡ false
not_and_self true = refl
not_and_self false = refl

pub absorbs : (x y : Bool) → (x && (x && y)) ≡ (x && y)
absorbs true y = refl
absorbs false y = refl

pub excludes : (x y : Bool) → (not x && (x && y)) ≡ false
excludes true y = refl
excludes false y = refl

pub subsumes : (x y : Bool) → (not x && not (x && y)) ≡ not x
subsumes true y = refl
subsumes false y = refl

pub strengthens : (x y : Bool) → (x && not (x && y)) ≡ (x && not y)
strengthens true y = refl
strengthens false y = refl
