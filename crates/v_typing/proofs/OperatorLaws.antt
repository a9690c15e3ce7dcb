-- What operators make of open expressions, where their operands were fixed.
use Rattle.std.proofs.Common.{◌≡◌, ap, sym, ◌∙◌, ℕ, ◌*◌, List, Bool, false, max}
use Rattle.std.specs.Prelude.{◌&&◌}
use Rattle.v_syntax.specs.declared.token.Cast.{Cast}
use Rattle.v_syntax.specs.declared.expr.UnaryOperator.{UnaryOperator}
use Rattle.v_syntax.specs.declared.expr.BinaryOperator.{BinaryOperator}
use Rattle.v_meaning.specs.Views.{View}
use Rattle.v_meaning.specs.Senses.{Sense, own, leaf, operation, operation_before, by_class, Compared, Logical, is_through, through, prefixed, copies, replicated, is_signed, recast}
use Rattle.v_meaning.specs.declared.names.Entry.{Entry}
use Rattle.v_core.specs.declared.typed.Typed.{Typed}
use Rattle.v_core.specs.declared.open.Open.{Open}
use Rattle.v_core.specs.Values.{Value, typed_value}
use Rattle.v_core.specs.Bodies.{body_value, sense_in}

-- what expressions mean over the declared names
abbrev pub Meaning : Type 0
Meaning = List Entry → Sense

pub leaf_value : (width : ℕ) (signed : Bool) (f g : Value) → f ≡ g → ◌≡◌ {A = Meaning} (λ names. leaf width signed (f names)) (λ names. leaf width signed (g names))
leaf_value width signed f g p = ap {B = Meaning} (λ (h : Value) (names : List Entry). leaf width signed (h names)) p

-- an operator between two values
abbrev pub between : BinaryOperator → ℕ → Bool → Value → Value → Value
between op w s f g names v = operation op w s (f names v) (g names v)

pub compared_is : (op : BinaryOperator) (x y o : Open) (w : ℕ) (s : Bool) (t left right : Typed) →
    sense_in o ≡ (λ names. leaf 1 false (typed_value t names)) → typed_value t ≡ between op w s (typed_value left) (typed_value right) →
    typed_value left ≡ body_value x.body w s → typed_value right ≡ body_value y.body w s → w ≡ max x.width y.width → s ≡ (x.signed && y.signed) →
    sense_in o ≡ (λ names. by_class Compared op (sense_in x names) (sense_in y names))
compared_is op x y o w s t left right is p q r width sign =
    is
    ∙ leaf_value 1 false _ _ (p ∙ ap (λ (f : Value). between op w s f (typed_value right)) q ∙ ap (between op w s (body_value x.body w s)) r)
    ∙ ap {B = Meaning} (λ (u : ℕ) (names : List Entry). leaf 1 false (λ v. operation op u s (body_value x.body u s names v) (body_value y.body u s names v))) width
    ∙ ap {B = Meaning} (λ (b : Bool) (names : List Entry). leaf 1 false
    (λ v. operation op (max x.width y.width) b (body_value x.body (max x.width y.width) b names v) (body_value y.body (max x.width y.width) b names v))) sign

pub logical_is : (op : BinaryOperator) (x y o : Open) (t left right : Typed) →
    sense_in o ≡ (λ names. leaf 1 false (typed_value t names)) → typed_value t ≡ between op 1 false (typed_value left) (typed_value right) →
    typed_value left ≡ body_value x.body x.width x.signed → typed_value right ≡ (λ names. own (sense_in y names)) →
    sense_in o ≡ (λ names. by_class Logical op (sense_in x names) (sense_in y names))
logical_is op x y o t left right is p q r =
    is ∙ leaf_value 1 false _ _ (p ∙ ap (λ (f : Value). between op 1 false f (typed_value right)) q ∙ ap (between op 1 false (body_value x.body x.width x.signed)) r)

pub prefixed_is : (op : UnaryOperator) (x o : Open) (t operand : Typed) →
    sense_in o ≡ (λ names. leaf 1 false (typed_value t names)) → typed_value t ≡ (λ names v. operation_before op x.width (typed_value operand names v)) →
    typed_value operand ≡ (λ names. own (sense_in x names)) → is_through op ≡ false → sense_in o ≡ (λ names. prefixed op (sense_in x names))
prefixed_is op x o t operand is p q h =
    is ∙ leaf_value 1 false _ _ (p ∙ ap {B = Value} (λ (f : Value) (names : List Entry) (v : View). operation_before op x.width (f names v)) q)
    ∙ sym (ap {B = Meaning} (λ (b : Bool) (names : List Entry). through b op (sense_in x names)) h)

pub recast_is : (sign : Cast) (signed : Bool) (x o : Open) (t : Typed) →
    sense_in o ≡ (λ names. leaf x.width signed (typed_value t names)) → typed_value t ≡ (λ names. own (sense_in x names)) → signed ≡ is_signed sign →
    sense_in o ≡ (λ names. recast sign (sense_in x names))
recast_is sign signed x o t is p h =
    is ∙ leaf_value x.width signed _ _ p ∙ ap {B = Meaning} (λ (b : Bool) (names : List Entry). leaf x.width b (own (sense_in x names))) h

pub replicated_is : (count n : ℕ) (x o : Open) (t u : Typed) →
    sense_in o ≡ (λ names. leaf (n * x.width) false (typed_value t names)) → typed_value t ≡ (λ names v. copies n x.width (typed_value u names v)) →
    typed_value u ≡ (λ names. own (sense_in x names)) → n ≡ count → sense_in o ≡ (λ names. replicated count (sense_in x names))
replicated_is count n x o t u is p q h =
    is ∙ leaf_value (n * x.width) false _ _ (p ∙ ap {B = Value} (λ (f : Value) (names : List Entry) (v : View). copies n x.width (f names v)) q)
    ∙ ap {B = Meaning} (λ (k : ℕ) (names : List Entry). replicated k (sense_in x names)) h
