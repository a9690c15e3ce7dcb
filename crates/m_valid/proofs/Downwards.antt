-- Going down from a node: the number of steps does not matter where there are enough, and a table is right where those of
-- the operands are.
use Rattle.std.proofs.Common.{◌≡◌, ◌≢◌, ◌<◌, ◌+◌, ◌/◌, ◌%◌, ◌^◌, ◌==◌, ◌&&◌, ◌||◌, ℕ, zero, suc, List, [], ◌∷◌, Bool, true, false, Option, None, Some, if◌then◌else◌, refl, ap, sym, subst, ◌∙◌, arith, add-one, inl, inr}
use Rattle.std.proofs.lemmas.Bool.Decides.{eqb_tells}
use Rattle.std.specs.Bool.{xor}
use Rattle.n_cells.specs.Run.{table_bit}
use Rattle.m_valid.specs.declared.nodes.Node.{Node}
use Rattle.m_valid.specs.declared.nodes.Node.TheVariants.{Constant, Source, And, Xor}
use Rattle.m_valid.specs.Nodes.{node_at, ReadsBefore, AllReadBefore}
use Rattle.m_valid.specs.Validity.{is_among, goes_down, ends_in, steps_from, literal_of, operation, assigned, or_else, cone_value}
use Rattle.m_valid.specs.Walk.{IsLeafTable, IsDone, AreRight, IsTable, IsOperand, literal_bit}

down_same : (f g : ℕ → Bool) (number : ℕ) (x : Node) → ReadsBefore number x → ((k : ℕ) → k < number → f k ≡ g k) → goes_down f x ≡ goes_down g x
down_same f g number Constant r e = refl
down_same f g number Source r e = refl
down_same f g number (And a b) r e = rw (e (a / 2) r.0, e (b / 2) r.1) refl
down_same f g number (Xor a b) r e = rw (e (a / 2) r.0, e (b / 2) r.1) refl

operation_same : (f g : ℕ → Bool) (number : ℕ) (x : Node) → ReadsBefore number x → ((k : ℕ) → k < number → f k ≡ g k) → operation f x ≡ operation g x
operation_same f g number Constant r e = refl
operation_same f g number Source r e = refl
operation_same f g number (And a b) r e = rw (e (a / 2) r.0, e (b / 2) r.1) refl
operation_same f g number (Xor a b) r e = rw (e (a / 2) r.0, e (b / 2) r.1) refl

ends_same : (nodes : List Node) (leaves : List ℕ) (s t number : ℕ) → AllReadBefore nodes → number < s → number < t → ends_in nodes leaves s number ≡ ends_in nodes leaves t number
unfolding ends_in
ends_same nodes leaves zero t number r h k = absurd (omega arith)
ends_same nodes leaves (suc s) zero number r h k = absurd (omega arith)
ends_same nodes leaves (suc s) (suc t) number r h k =
    ap (λ b. is_among number leaves || b)
    (down_same (ends_in nodes leaves s) (ends_in nodes leaves t) number (node_at nodes number) (r number) (λ m lt. ends_same nodes leaves s t m r (omega arith) (omega arith)))

value_same : (nodes : List Node) (bits : ℕ → Option Bool) (s t number : ℕ) → AllReadBefore nodes → number < s → number < t → cone_value nodes bits s number ≡ cone_value nodes bits t number
unfolding cone_value
value_same nodes bits zero t number r h k = absurd (omega arith)
value_same nodes bits (suc s) zero number r h k = absurd (omega arith)
value_same nodes bits (suc s) (suc t) number r h k =
    ap (or_else (bits number))
    (operation_same (cone_value nodes bits s) (cone_value nodes bits t) number (node_at nodes number) (r number) (λ m lt. value_same nodes bits s t m r (omega arith) (omega arith)))

-- whether all ways from a node end well, and its value
abbrev pub ends : List Node → List ℕ → ℕ → Bool
ends nodes leaves number = ends_in nodes leaves (steps_from number) number

abbrev pub value : List Node → (ℕ → Option Bool) → ℕ → Bool
value nodes bits number = cone_value nodes bits (steps_from number) number

pub ends_here : (nodes : List Node) (leaves : List ℕ) (number : ℕ) → AllReadBefore nodes
    → ends_in nodes leaves (steps_from number) number ≡ is_among number leaves || goes_down (ends nodes leaves) (node_at nodes number)
unfolding ends_in
ends_here nodes leaves number r =
    ap (λ s. ends_in nodes leaves s number) (add-one number)
    ∙ ap (λ b. is_among number leaves || b)
    (down_same (ends_in nodes leaves number) (ends nodes leaves) number (node_at nodes number) (r number) (λ m lt. ends_same nodes leaves number (m + 1) m r lt (omega arith)))

pub value_here : (nodes : List Node) (bits : ℕ → Option Bool) (number : ℕ) → AllReadBefore nodes
    → cone_value nodes bits (steps_from number) number ≡ or_else (bits number) (operation (value nodes bits) (node_at nodes number))
unfolding cone_value
value_here nodes bits number r =
    ap (λ s. cone_value nodes bits s number) (add-one number)
    ∙ ap (or_else (bits number))
    (operation_same (cone_value nodes bits number) (value nodes bits) number (node_at nodes number) (r number) (λ m lt. value_same nodes bits number (m + 1) m r lt (omega arith)))

-- what is no leaf has no assigned bit
bit_else : (b : Bool) (t : Option Bool) (rest : Option Bool) (more : Bool) → (b || more) ≡ false → (more ≡ false → rest ≡ None) → (if b then t else rest) ≡ None
bit_else true t rest more e f = cc
bit_else false t rest more e f = f e

pub none_assigned : (leaves : List ℕ) (assignment number : ℕ) → is_among number leaves ≡ false → assigned leaves assignment number ≡ None
none_assigned [] assignment number e = refl
none_assigned (l ∷ ls) assignment number e = bit_else (l == number) (Some (assignment % 2 == 1)) (assigned ls (assignment / 2) number) (is_among number ls) e (none_assigned ls (assignment / 2) number)

-- a leaf's table is right
pub leaf_done : (nodes : List Node) (leaves : List ℕ) (number table : ℕ) → AllReadBefore nodes → IsLeafTable 0 leaves number (Some table) → IsDone nodes leaves number table
leaf_done nodes leaves number table r h = (
  ends_here nodes leaves number r ∙ ap (λ b. b || goes_down (ends nodes leaves) (node_at nodes number)) h.0,
  λ i lt.
      let whole : i / 2 ^ 0 ≡ i = omega arith in
      let bit : assigned leaves i number ≡ Some (table_bit table i) = subst (λ k. assigned leaves k number ≡ Some (table_bit table i)) whole (h.1 i lt) in
      sym (value_here nodes (assigned leaves i) number r ∙ ap (λ o. or_else o (operation (value nodes (assigned leaves i)) (node_at nodes number))) bit),
)

-- a node's table is right
down_done : (f : ℕ → Bool) (known_at : ℕ → Option ℕ) (x : Node) (table : ℕ) → ((m t : ℕ) → known_at m ≡ Some t → f m ≡ true) → IsTable known_at x table → goes_down f x ≡ true
down_done f known_at Constant table h t = refl
down_done f known_at Source table h t = absurd t
down_done f known_at (And a b) table h t = rw (h (a / 2) t.0 t.2, h (b / 2) t.1 t.3) refl
down_done f known_at (Xor a b) table h t = rw (h (a / 2) t.0 t.2, h (b / 2) t.1 t.3) refl

operation_done : (f : ℕ → Bool) (known_at : ℕ → Option ℕ) (x : Node) (table i : ℕ) → i < 64 → ((m t : ℕ) → known_at m ≡ Some t → table_bit t i ≡ f m) → IsTable known_at x table
    → table_bit table i ≡ operation f x
operation_done f known_at Constant table i lt h t = t i lt
operation_done f known_at Source table i lt h t = absurd t
operation_done f known_at (And a b) table i lt h t =
    t.4 i lt ∙ ap (λ x. xor (a % 2 == 1) x && literal_bit b t.1 i) (h (a / 2) t.0 t.2) ∙ ap (λ x. literal_of f a && xor (b % 2 == 1) x) (h (b / 2) t.1 t.3)
operation_done f known_at (Xor a b) table i lt h t =
    t.4 i lt ∙ ap (λ x. xor (xor (a % 2 == 1) x) (literal_bit b t.1 i)) (h (a / 2) t.0 t.2) ∙ ap (λ x. xor (literal_of f a) (xor (b % 2 == 1) x)) (h (b / 2) t.1 t.3)

pub table_done : (nodes : List Node) (leaves : List ℕ) (known_at : ℕ → Option ℕ) (number table : ℕ) → AllReadBefore nodes → AreRight nodes leaves known_at → known_at number ≡ None
    → IsTable known_at (node_at nodes number) table → IsDone nodes leaves number table
table_done nodes leaves known_at number table r right none t =
    let free : is_among number leaves ≡ false = right.leaves_known number none in (
      ends_here nodes leaves number r
          ∙ ap (λ b. b || goes_down (ends nodes leaves) (node_at nodes number)) free
          ∙ down_done (ends nodes leaves) known_at (node_at nodes number) table (λ m u is. (right.done m u is).0) t,
      λ i lt.
          operation_done (value nodes (assigned leaves i)) known_at (node_at nodes number) table i lt (λ m u is. (right.done m u is).1 i lt) t
          ∙ sym (value_here nodes (assigned leaves i) number r
          ∙ ap (λ o. or_else o (operation (value nodes (assigned leaves i)) (node_at nodes number))) (none_assigned leaves i number free)),
    )

-- one right table more
pub right_more : (nodes : List Node) (leaves : List ℕ) (old new : ℕ → Option ℕ) (number table : ℕ) → AreRight nodes leaves old → new number ≡ Some table
    → ((k : ℕ) → k ≢ number → new k ≡ old k) → IsDone nodes leaves number table → AreRight nodes leaves new
right_more nodes leaves old new number table right here others done = record {
  done = λ m t is. elim (eqb_tells m number) [
    | inl e ↦
        let both : Some table ≡ Some t = sym here ∙ ap new (sym e.1) ∙ is in
        let tables : table ≡ t = cc in
        rw (e.1, ← tables) done
    | inr e ↦ right.done m t (sym (others m e.1) ∙ is)
  ];
  leaves_known = λ m is. elim (eqb_tells m number) [
    | inl e ↦ let both : Some table ≡ None = sym here ∙ ap new (sym e.1) ∙ is in cc
    | inr e ↦ right.leaves_known m (sym (others m e.1) ∙ is)
  ];
}

-- leaves alone are marked at first
pub leaves_right : (nodes : List Node) (leaves : List ℕ) (known_at : ℕ → Option ℕ) → AllReadBefore nodes → ((k : ℕ) → IsLeafTable 0 leaves k (known_at k)) → AreRight nodes leaves known_at
leaves_right nodes leaves known_at r h = record {
  done = λ m t is. leaf_done nodes leaves m t r (subst (IsLeafTable 0 leaves m) is (h m));
  leaves_known = λ m is. subst (IsLeafTable 0 leaves m) is (h m);
}

-- where an operand's ways don't end well, the node's don't
and_fails : (a b : Bool) → b ≡ false → (a && b) ≡ false
and_fails true b e = e
and_fails false b e = refl

down_fails : (f : ℕ → Bool) (m : ℕ) (x : Node) → IsOperand m x → f m ≡ false → goes_down f x ≡ false
down_fails f m Constant h e = absurd h
down_fails f m Source h e = absurd h
down_fails f m (And a b) h e = elim h [
  | inl at ↦ ap (λ t. t && f (b / 2)) (ap f (sym at) ∙ e)
  | inr at ↦ and_fails (f (a / 2)) (f (b / 2)) (ap f (sym at) ∙ e)
]
down_fails f m (Xor a b) h e = elim h [
  | inl at ↦ ap (λ t. t && f (b / 2)) (ap f (sym at) ∙ e)
  | inr at ↦ and_fails (f (a / 2)) (f (b / 2)) (ap f (sym at) ∙ e)
]

pub operand_blamed : (nodes : List Node) (leaves : List ℕ) (number m : ℕ) → AllReadBefore nodes → is_among number leaves ≡ false → IsOperand m (node_at nodes number)
    → ends_in nodes leaves (steps_from m) m ≡ false → ends_in nodes leaves (steps_from number) number ≡ false
operand_blamed nodes leaves number m r free h e =
    ends_here nodes leaves number r ∙ ap (λ b. b || goes_down (ends nodes leaves) (node_at nodes number)) free ∙ down_fails (ends nodes leaves) m (node_at nodes number) h e

pub source_blamed : (nodes : List Node) (leaves : List ℕ) (number : ℕ) → AllReadBefore nodes → is_among number leaves ≡ false → node_at nodes number ≡ Source
    → ends_in nodes leaves (steps_from number) number ≡ false
source_blamed nodes leaves number r free is =
    ends_here nodes leaves number r ∙ ap (λ b. b || goes_down (ends nodes leaves) (node_at nodes number)) free ∙ ap (goes_down (ends nodes leaves)) is

operand_below : (m number : ℕ) (x : Node) → ReadsBefore number x → IsOperand m x → m < number
operand_below m number Constant r h = absurd h
operand_below m number Source r h = absurd h
operand_below m number (And a b) r h = elim h [ inl at ↦ omega (arith, r.0, at) | inr at ↦ omega (arith, r.1, at) ]
operand_below m number (Xor a b) r h = elim h [ inl at ↦ omega (arith, r.0, at) | inr at ↦ omega (arith, r.1, at) ]

pub operand_smaller : (nodes : List Node) (m number : ℕ) → AllReadBefore nodes → IsOperand m (node_at nodes number) → m < number
operand_smaller nodes m number r h = operand_below m number (node_at nodes number) (r number) h
