-- Worked rows of cycles: two processes that swap registers, nets that follow a blocking write, combinational processes.
use Rattle.std.proofs.Common.{◌≡◌, refl, subst, arith, ℕ, List, [], ◌∷◌, true, false, if◌then◌else◌, ◌==◌, None, slice_index}
use Rattle.std.specs.Bool.{⊤}
use Rattle.v_meaning.specs.Views.{Store, View, Place, Net, Variable, Write}
use Rattle.v_meaning.specs.Acts.{Acts, End, Branch, Blocking, Nonblocking}
use Rattle.v_meaning.specs.Designs.{Given, Open, Words, first_store, Design, IsSettled, IsCycle, IsIncompleteAt, view_over}

-- a whole variable or net of one bit takes the value
abbrev bit_to : Place → (View → ℕ) → View → List Write
bit_to place value v = record { place = place; low = 0; width = 1; value = value v } ∷ []

abbrev variable : ℕ → View → ℕ
variable k v = slice_index v.store.variables k

abbrev net : ℕ → View → ℕ
net k v = slice_index v.nets k

abbrev store_of : List ℕ → Store
store_of variables = record { variables = variables; memories = [] }

-- something is left
abbrev IsLeft : Acts → Type 0
IsLeft End = ⊥
IsLeft _ = ⊤

not_end : (f : View → List Write) (rest : Acts) → Nonblocking f rest ≡ End → ⊥
not_end f rest p = subst IsLeft p tt

-- ---- always @(posedge clk) a <= b; always @(posedge clk) b <= a;

abbrev swap : Design
swap = record {
  name = [];
  clock = None;
  inputs = [];
  outputs = [];
  shows = λ v. variable 0 v ∷ variable 1 v ∷ [];
  nets = 0;
  assigns = [];
  combinational = [];
  clocked = Nonblocking (bit_to (Variable 0) (variable 1)) End ∷ Nonblocking (bit_to (Variable 1) (variable 0)) End ∷ [];
  firsts = Given 0 ∷ Given 1 ∷ [];
  sites = [];
}

nothing_settles : (store : Store) → IsSettled swap (view_over [] [] store [])
nothing_settles store = record { number = refl; held = tt; kept = tt }

begins : first_store swap.firsts [] ≡ store_of (0 ∷ 1 ∷ [])
begins = refl

in_text_order : IsCycle swap (store_of (0 ∷ 1 ∷ [])) [] [] (0 ∷ 1 ∷ []) (0 ∷ 1 ∷ []) (store_of (1 ∷ 0 ∷ []))
in_text_order = record {
  bits = refl;
  nets = [];
  settled = nothing_settles _;
  shows = refl;
  last = _;
  along = ([], nothing_settles _, _, refl, ([], nothing_settles _, _, refl, refl));
  ended = (refl, (refl, tt));
  next = refl;
}

the_other_way : IsCycle swap (store_of (0 ∷ 1 ∷ [])) [] [] (1 ∷ 0 ∷ []) (0 ∷ 1 ∷ []) (store_of (1 ∷ 0 ∷ []))
the_other_way = record {
  bits = refl;
  nets = [];
  settled = nothing_settles _;
  shows = refl;
  last = _;
  along = ([], nothing_settles _, _, refl, ([], nothing_settles _, _, refl, refl));
  ended = (refl, (refl, tt));
  next = refl;
}

-- a schedule that steps a process which is at its end; one that leaves a process before its end
too_often : IsIncompleteAt swap (store_of (0 ∷ 1 ∷ [])) [] [] (0 ∷ 0 ∷ []) 1
too_often = record { within = omega arith; last = _; along = ([], nothing_settles _, _, refl, refl); stuck = tt }

too_short : IsIncompleteAt swap (store_of (0 ∷ 1 ∷ [])) [] [] (0 ∷ []) 1
too_short = record { within = omega arith; last = _; along = ([], nothing_settles _, _, refl, refl); stuck = λ ended. not_end _ _ ended.1.0 }

-- ---- wire w = b; always @(posedge clk) begin b = 1; q <= w; end: the net follows the blocking write

abbrev following : Design
following = record {
  name = [];
  clock = None;
  inputs = [];
  outputs = [];
  shows = λ v. net 0 v ∷ [];
  nets = 1;
  assigns = record { net = 0; value = variable 0 } ∷ [];
  combinational = [];
  clocked = Blocking (bit_to (Variable 0) (λ v. 1)) (Nonblocking (bit_to (Variable 1) (net 0)) End) ∷ [];
  firsts = Open 1 ∷ Open 1 ∷ [];
  sites = [];
}

net_follows : IsCycle following (store_of (0 ∷ 0 ∷ [])) [] [] (0 ∷ 0 ∷ []) (0 ∷ []) (store_of (1 ∷ 1 ∷ []))
net_follows = record {
  bits = refl;
  nets = 0 ∷ [];
  settled = record { number = refl; held = (refl, tt); kept = tt };
  shows = refl;
  last = _;
  along = (0 ∷ [], record { number = refl; held = (refl, tt); kept = tt }, _, refl, (1 ∷ [], record { number = refl; held = (refl, tt); kept = tt }, _, refl, refl));
  ended = (refl, tt);
  next = refl;
}

-- ---- inputs s, a, b; always @* begin y = a; if (s) y = b; end

abbrev input : ℕ → View → ℕ
input k v = slice_index v.inputs k

abbrev selecting : Design
selecting = record {
  name = [];
  clock = None;
  inputs = [];
  outputs = [];
  shows = λ v. net 0 v ∷ [];
  nets = 1;
  assigns = [];
  combinational = Blocking (bit_to (Net 0) (input 1)) (Branch (λ v. if input 0 v == 0 then End else Blocking (bit_to (Net 0) (input 2)) End) End) ∷ [];
  clocked = [];
  firsts = [];
  sites = [];
}

shows_a : IsSettled selecting (view_over (0 ∷ 1 ∷ 0 ∷ []) [] (store_of []) (1 ∷ []))
shows_a = record { number = refl; held = tt; kept = (refl, tt) }

shows_b : IsSettled selecting (view_over (1 ∷ 1 ∷ 0 ∷ []) [] (store_of []) (0 ∷ []))
shows_b = record { number = refl; held = tt; kept = (refl, tt) }

-- ---- first choices: a register of two bits, a memory of three words of two bits, and a register of one bit

first_bits_in_order : first_store (Open 2 ∷ Words 3 2 ∷ Given 5 ∷ Open 1 ∷ []) (true ∷ false ∷ false ∷ true ∷ true ∷ true ∷ true ∷ false ∷ true ∷ []) ≡
    record { variables = 2 ∷ 5 ∷ 1 ∷ []; memories = (1 ∷ 3 ∷ 2 ∷ []) ∷ [] }
first_bits_in_order = refl
