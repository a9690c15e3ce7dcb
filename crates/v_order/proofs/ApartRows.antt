-- Schedules worked out by hand: where one process looks at what another writes at once, their order matters.
use Rattle.std.proofs.Common.{◌≡◌, ◌⊎◌, ℕ, zero, suc, List, [], ◌∷◌, ◌++◌, None, false, refl, ap, inl, inr}
use Rattle.std.specs.Prelude.{slice_index}
use Rattle.v_meaning.specs.Views.{Store, Variable, Write}
use Rattle.v_meaning.specs.Acts.{Acts, End, Blocking, Nonblocking}
use Rattle.v_meaning.specs.Designs.{Design, Edge, IsSettled, IsCycle, view_over}
use Rattle.v_depends.specs.Nodes.{is_in}
use Rattle.v_order.specs.Stepping.{next_by}
use Rattle.v_order.specs.Steady.{AtOnce}
use Rattle.v_order.specs.Apart.{Owners, AreApart}
use Rattle.v_order.specs.Counting.{steps_in_order, TakesDown, IsShort}

abbrev word_to : ℕ → ℕ → List Write
word_to k value = record { place = Variable k; low = 0; width = 8; value = value } ∷ []

abbrev over : List Acts → Design
over processes = record {
  name = [];
  clock = None;
  inputs = [];
  outputs = [];
  shows = λ v. [];
  nets = 0;
  assigns = [];
  combinational = [];
  clocked = processes;
  firsts = [];
  sites = [];
}

-- process 0 writes variable 0 at once, and then variable 1, behind the edge, the value of variable 0
abbrev first : Acts
first = Blocking (λ v. word_to 0 (slice_index v.inputs 0)) (Nonblocking (λ v. word_to 1 (slice_index v.store.variables 0)) End)

-- process 1 writes variable 2, behind the edge, the value of this variable
abbrev second : ℕ → Acts
second k = Nonblocking (λ v. word_to 2 (slice_index v.store.variables k)) End

abbrev before : Store
before = record { variables = 7 ∷ 8 ∷ 9 ∷ []; memories = [] }

abbrev at_once : AtOnce
at_once = record { variables = 0 ∷ []; memories = [] }

-- variables 0 and 1 belong to process 0, and variable 2 to process 1
abbrev owner : ℕ → ℕ
owner zero = 0
owner (suc zero) = 0
owner (suc (suc k)) = 1

abbrev owners : Owners
owners = record { variable = owner; memory = λ k. 0 }

-- ---- a process that looks at what another one writes at once

abbrev racing : Design
racing = over (first ∷ second 0 ∷ [])

settles : (store : Store) → IsSettled racing (view_over (5 ∷ []) [] store [])
settles store = record { number = refl; held = tt; kept = tt }

abbrev store_with : ℕ → Store
store_with word = record { variables = word ∷ 8 ∷ 9 ∷ []; memories = [] }

abbrev edge : ℕ → List Write → List Acts → Edge
edge word queue left = record { store = store_with word; queue = queue; left = left }

abbrev late : Acts
late = Nonblocking (λ v. word_to 1 (slice_index v.store.variables 0)) End

-- process 1 behind process 0
text_order : IsCycle racing before (5 ∷ []) [] (0 ∷ 0 ∷ 1 ∷ []) [] (record { variables = 5 ∷ 5 ∷ 5 ∷ []; memories = [] })
text_order = record {
  bits = refl;
  nets = [];
  settled = settles before;
  shows = refl;
  last = edge 5 (word_to 1 5 ++ word_to 2 5) (End ∷ End ∷ []);
  along = (
    [],
    settles before,
    edge 5 [] (late ∷ second 0 ∷ []),
    refl,
    (
      [],
      settles (store_with 5),
      edge 5 (word_to 1 5) (End ∷ second 0 ∷ []),
      refl,
      (
        [],
        settles (store_with 5),
        edge 5 (word_to 1 5 ++ word_to 2 5) (End ∷ End ∷ []),
        refl,
        refl,
      ),
    ),
  );
  ended = (refl, (refl, tt));
  next = refl;
}

-- process 1 before process 0
other_order : IsCycle racing before (5 ∷ []) [] (1 ∷ 0 ∷ 0 ∷ []) [] (record { variables = 5 ∷ 5 ∷ 7 ∷ []; memories = [] })
other_order = record {
  bits = refl;
  nets = [];
  settled = settles before;
  shows = refl;
  last = edge 5 (word_to 2 7 ++ word_to 1 5) (End ∷ End ∷ []);
  along = (
    [],
    settles before,
    edge 7 (word_to 2 7) (first ∷ End ∷ []),
    refl,
    (
      [],
      settles before,
      edge 5 (word_to 2 7) (late ∷ End ∷ []),
      refl,
      (
        [],
        settles (store_with 5),
        edge 5 (word_to 2 7 ++ word_to 1 5) (End ∷ End ∷ []),
        refl,
        refl,
      ),
    ),
  );
  ended = (refl, (refl, tt));
  next = refl;
}

abbrev first_value : List Write → ℕ
first_value [] = 0
first_value (w ∷ writes) = w.value

not_apart : AreApart racing at_once owners → ⊥
not_apart apart =
    let same : 7 ≡ 5 = ap first_value (apart.1.0.looks.0 (view_over [] [] (store_with 7) []) (view_over [] [] (store_with 5) []) (record {
      inputs = refl;
      nets = refl;
      sites = refl;
      variables = λ k seen. variables_case k seen;
      memories = λ k seen. refl;
    })) in
    cc same
  where
    variables_case : (k : ℕ) → (is_in k (0 ∷ []) ≡ false) ⊎ (owner k ≡ 1) → slice_index (7 ∷ 8 ∷ 9 ∷ []) k ≡ slice_index (5 ∷ 8 ∷ 9 ∷ []) k
    variables_case zero (inl out) = absurd (cc out)
    variables_case zero (inr own) = absurd (cc own)
    variables_case (suc k) seen = refl

-- ---- one that looks at what is written behind the edge

are_apart : AreApart (over (first ∷ second 1 ∷ [])) at_once owners
are_apart = (
  record {
    writes = (λ v. (refl, tt), (λ v. (refl, tt), tt));
    looks = (λ v w a. ap (λ (inputs : List ℕ). word_to 0 (slice_index inputs 0)) a.inputs, (λ v w a. ap (word_to 1) (a.variables 0 (inr refl)), tt));
  },
  (record { writes = (λ v. (refl, tt), tt); looks = (λ v w a. ap (word_to 2) (a.variables 1 (inl refl)), tt) }, tt),
)

leaves : next_by (over (first ∷ second 1 ∷ [])) [] before (5 ∷ []) [] ≡ record { variables = 5 ∷ 5 ∷ 8 ∷ []; memories = [] }
leaves = refl

-- ---- how many steps they take

-- two steps of process 0 and one of process 1
counts : steps_in_order (first ∷ second 1 ∷ []) (view_over (5 ∷ []) [] before []) ≡ 2 ∷ 1 ∷ []
counts = refl

-- 0, 1, 0 is complete
counted : TakesDown (2 ∷ 1 ∷ []) (0 ∷ 1 ∷ 0 ∷ []) (0 ∷ 0 ∷ [])
counted = (1, refl, (0, refl, (0, refl, refl)))

-- 0, 1, 1 is not, from its third entry on; nor 0, 1 behind its last one; nor 7 from its first one on
second_again : IsShort (1 ∷ 0 ∷ []) (1 ∷ [])
second_again = tt

short : IsShort (1 ∷ 0 ∷ []) []
short zeros = cc zeros.0

no_process : IsShort (2 ∷ 1 ∷ []) (7 ∷ [])
no_process = tt
