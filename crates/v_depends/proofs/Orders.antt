-- Assigns that come in turn stand in order, where no target is assigned again and none depends on itself.
use Rattle.std.proofs.Common.{◌≡◌, ◌<◌, ◌≤◌, ◌+◌, ℕ, zero, suc, List, [], ◌∷◌, ◌++◌, map, length, get_or, take, Bool, true, false, Option, None, Some, refl, sym, ap, subst, ◌∙◌, inl, inr, append_assoc, append-nil, zero-add, arith}
use Rattle.std.specs.Prelude.{◌||◌, ◌==◌, if◌then◌else◌, is_some, bytes_eq, slice_get}
use Rattle.std.proofs.lemmas.Bool.{or_cases, or_left, or_right, or_parts, eq-eqb, true_from_ne_false}
use Rattle.std.proofs.lemmas.List.{length_push, map-append, take_more}
use Rattle.std.specs.Borrow.{Bor}
use Rattle.std.specs.BTreeMap.{BTreeMap}
use Rattle.std.proofs.lemmas.Option.{slice_get_within}
use Rattle.lz_base.specs.Names.{is_among}
use Rattle.v_syntax.specs.declared.token.Ident.{Ident}
use Rattle.v_meaning.specs.MarkRules.{place_if}
use Rattle.v_meaning.specs.ProcessRules.{Dependence, assign_targets, assigned_again, circular, combinational_of, direct, ident_names, places_if}
use Rattle.v_meaning.specs.Uses.{Uses}
use Rattle.v_uses.specs.declared.gathered.AssignUses.{AssignUses}
use Rattle.v_uses.specs.declared.gathered.Uses.{Uses as Gathered}
use Rattle.v_uses.specs.Seen.{AssignSeen, Seen, assign_seen, seen_of}
use Rattle.v_uses.specs.Gathered.{assign_in, uses_in}
use Rattle.v_depends.specs.Pairs.{dependences_of, depends_by, is_circular_by}
use Rattle.v_depends.specs.Graphs.{Numbers, place, later, name_added}
use Rattle.v_depends.specs.Nodes.{is_in, row}
use Rattle.v_depends.specs.Turning.{InTurn, AreAllTurns}
use Rattle.v_depends.specs.Orders.{reads_target, AreBehind, IsOrder, names_from, if_some, numbers_of, row_of}
use Rattle.v_depends.proofs.Membership.{swap, bytes_same, bytes_self, among_left, among_right, in_left, in_right, in_cases, in_one}
use Rattle.v_depends.proofs.Steps.{depends_direct, depends_on}
use Rattle.v_depends.proofs.Places.{place_there}
use Rattle.v_depends.proofs.Gathering.{from_next}
use Rattle.v_depends.proofs.Least.{circular_of, targets_in, targets_seen}

-- ---- targets, each assigned once

abbrev pub targets_of : List AssignSeen → List Ident
targets_of assigns = map (λ (a : AssignSeen). a.target) assigns

abbrev pub names_in : List AssignSeen → List (List ℕ)
names_in assigns = ident_names (targets_of assigns)

abbrev Once : List (List ℕ) → List AssignSeen → Type 0
Once before assigns = assigned_again before (targets_of assigns) ≡ []

-- two lists hold the same names
abbrev AreSame : List (List ℕ) → List (List ℕ) → Type 0
AreSame xs ys = (x : List ℕ) → is_among x xs ≡ is_among x ys

among_push : (x new : List ℕ) (names : List (List ℕ)) → is_among x (names ++ new ∷ []) ≡ (bytes_eq new x || is_among x names)
among_push x new [] = refl
among_push x new (n ∷ names) = ap (λ b. bytes_eq n x || b) (among_push x new names) ∙ swap (bytes_eq n x) (bytes_eq new x) (is_among x names)

same_push : (before names : List (List ℕ)) (new : List ℕ) → AreSame before names → AreSame (new ∷ before) (names ++ new ∷ [])
same_push before names new h x = ap (λ b. bytes_eq new x || b) (h x) ∙ sym (among_push x new names)

first_out : (b : Bool) (at : ℕ) (more : List ℕ) → place_if b at ++ more ≡ [] → (b ≡ false) × (more ≡ [])
first_out true at more h = absurd (cc h)
first_out false at more h = (refl, h)

some_later : (r : Option ℕ) → is_some (later r) ≡ is_some r
some_later None = refl
some_later (Some n) = refl

placed_case : (b : Bool) (r : Option ℕ) (c : Bool) → is_some r ≡ c → is_some (if b then Some 0 else later r) ≡ (b || c)
placed_case true r c h = refl
placed_case false r c h = some_later r ∙ h

-- a name has a number where it is among the names
placed : (names : List (List ℕ)) (x : List ℕ) → is_some (place names x) ≡ is_among x names
placed [] x = refl
placed (n ∷ names) x = placed_case (bytes_eq n x) (place names x) (is_among x names) (placed names x)

added : (names : List (List ℕ)) (new : List ℕ) → is_among new names ≡ false → name_added names new ≡ names ++ new ∷ []
added names new out = ap (λ (b : Bool). if b then names else names ++ new ∷ []) (placed names new ∙ out)

-- the names that get numbers are those of the targets
pub all_numbered : (before names : List (List ℕ)) (assigns : List AssignSeen) → AreSame before names → Once before assigns → names_from names assigns ≡ names ++ names_in assigns
all_numbered before names [] same once = sym (append-nil names)
all_numbered before names (a ∷ assigns) same once =
    let name : List ℕ = a.target.name in
    let r = first_out (is_among name before) a.target.at (assigned_again (name ∷ before) (targets_of assigns)) once in
    ap (λ l. names_from l assigns) (added names name (sym (same name) ∙ r.0))
    ∙ all_numbered (name ∷ before) (names ++ name ∷ []) assigns (same_push before names name same) r.1
    ∙ append_assoc names (name ∷ []) (names_in assigns)

behind_case : (b : Bool) (r : Option ℕ) (n : ℕ) → b ≡ false → r ≡ Some n → (if b then Some 0 else later r) ≡ Some (suc n)
behind_case true r n out is = absurd (cc out)
behind_case false r n out is = ap later is

place_behind : (names more : List (List ℕ)) (x : List ℕ) → is_among x names ≡ false → place (names ++ x ∷ more) x ≡ Some (length names)
place_behind [] more x out = ap (λ (b : Bool). if b then Some 0 else later (place more x)) (bytes_self x x refl)
place_behind (n ∷ names) more x out =
    let r = or_parts (bytes_eq n x) (is_among x names) out in
    behind_case (bytes_eq n x) (place (names ++ x ∷ more) x) (length names) r.0 (place_behind names more x r.1)

place_from : (before names : List (List ℕ)) (assigns : List AssignSeen) (i : ℕ) (a : AssignSeen) → AreSame before names → Once before assigns → slice_get assigns i ≡ Some a →
    place (names ++ names_in assigns) a.target.name ≡ Some (length names + i)
place_from before names [] i a same once is = absurd (cc is)
place_from before names (x ∷ assigns) zero a same once is =
    let e : x ≡ a = cc is in
    let r = first_out (is_among x.target.name before) x.target.at (assigned_again (x.target.name ∷ before) (targets_of assigns)) once in
    let n : length names ≡ length names + 0 = omega arith in
    ap (λ (y : AssignSeen). place (names ++ x.target.name ∷ names_in assigns) y.target.name) (sym e)
    ∙ place_behind names (names_in assigns) x.target.name (sym (same x.target.name) ∙ r.0) ∙ ap (λ (k : ℕ). Some k) n
place_from before names (x ∷ assigns) (suc i) a same once is =
    let name : List ℕ = x.target.name in
    let r = first_out (is_among name before) x.target.at (assigned_again (name ∷ before) (targets_of assigns)) once in
    let n : length (names ++ name ∷ []) + i ≡ length names + suc i = omega (arith, length_push names name) in
    ap (λ l. place l a.target.name) (sym (append_assoc names (name ∷ []) (names_in assigns)))
    ∙ place_from (name ∷ before) (names ++ name ∷ []) assigns i a (same_push before names name same) r.1 is ∙ ap (λ (k : ℕ). Some k) n

-- the number of an assign's target is its own
pub own_number : (assigns : List AssignSeen) (i : ℕ) (a : AssignSeen) → Once [] assigns → slice_get assigns i ≡ Some a → place (names_in assigns) a.target.name ≡ Some i
own_number assigns i a once is = place_from [] [] assigns i a (λ x. refl) once is ∙ ap (λ (k : ℕ). Some k) (zero-add i)

-- ---- rows

number_in : (names : List (List ℕ)) (reads : List Ident) (x : List ℕ) (j : ℕ) → is_among x (ident_names reads) ≡ true → place names x ≡ Some j → is_in j (numbers_of names reads) ≡ true
number_in names [] x j h is = absurd (cc h)
number_in names (n ∷ reads) x j h is = elim (or_cases (bytes_eq n.name x) (is_among x (ident_names reads)) h) [
  | inl same ↦
      in_left j (if_some (place names n.name)) (numbers_of names reads)
      (ap (λ (r : Option ℕ). is_in j (if_some r)) (ap (place names) (bytes_same n.name x same) ∙ is) ∙ or_left (j == j) false (eq-eqb j j refl))
  | inr there ↦ in_right j (if_some (place names n.name)) (numbers_of names reads) (number_in names reads x j there is)
]

one_case : (r : Option ℕ) (j : ℕ) → is_in j (if_some r) ≡ true → r ≡ Some j
one_case None j h = absurd (cc h)
one_case (Some n) j h = ap (λ (k : ℕ). Some k) (in_one j n h)

number_out : (names : List (List ℕ)) (reads : List Ident) (j : ℕ) → is_in j (numbers_of names reads) ≡ true → (x : List ℕ) × (is_among x (ident_names reads) ≡ true) × (place names x ≡ Some j)
number_out names [] j h = absurd (cc h)
number_out names (n ∷ reads) j h = elim (in_cases j (if_some (place names n.name)) (numbers_of names reads) h) [
  | inl here ↦ (n.name, or_left (bytes_eq n.name n.name) (is_among n.name (ident_names reads)) (bytes_self n.name n.name refl), one_case (place names n.name) j here)
  | inr there ↦ (let r = number_out names reads j there in (r.0, or_right (bytes_eq n.name r.0) (is_among r.0 (ident_names reads)) r.1, r.2))
]

row_at : (names : List (List ℕ)) (assigns : List AssignSeen) (i : ℕ) (a : AssignSeen) → slice_get assigns i ≡ Some a → row (map (row_of names) assigns) i ≡ row_of names a
row_at names [] i a is = absurd (cc is)
row_at names (x ∷ assigns) zero a is = let e : x ≡ a = cc is in ap (row_of names) e
row_at names (x ∷ assigns) (suc i) a is = row_at names assigns i a is

element : (assigns : List AssignSeen) (i : ℕ) → i < length assigns → (a : AssignSeen) × (slice_get assigns i ≡ Some a)
element [] i h = absurd (omega arith)
element (x ∷ assigns) zero h = (x, refl)
element (x ∷ assigns) (suc i) h = element assigns i (omega arith)

-- ---- how many targets a name depends on

abbrev many : (List ℕ → Bool) → List (List ℕ) → ℕ
many p [] = 0
many p (x ∷ xs) = if p x then suc (many p xs) else many p xs

most_case : (b c : Bool) (m n : ℕ) → (b ≡ true → c ≡ true) → m ≤ n → (if b then suc m else m) ≤ (if c then suc n else n)
most_case true true m n h le = omega arith
most_case true false m n h le = absurd (cc (h refl))
most_case false true m n h le = omega arith
most_case false false m n h le = le

most : (p q : List ℕ → Bool) (xs : List (List ℕ)) → ((x : List ℕ) → p x ≡ true → q x ≡ true) → many p xs ≤ many q xs
most p q [] h = omega arith
most p q (x ∷ xs) h = most_case (p x) (q x) (many p xs) (many q xs) (h x) (most p q xs h)

less_case : (b c : Bool) (m n : ℕ) → (b ≡ true → c ≡ true) → m < n → (if b then suc m else m) < (if c then suc n else n)
less_case true true m n h lt = omega arith
less_case true false m n h lt = absurd (cc (h refl))
less_case false true m n h lt = omega arith
less_case false false m n h lt = lt

here_case : (b c : Bool) (m n : ℕ) → b ≡ false → c ≡ true → m ≤ n → (if b then suc m else m) < (if c then suc n else n)
here_case true c m n out there le = absurd (cc out)
here_case false true m n out there le = omega arith
here_case false false m n out there le = absurd (cc there)

fewer : (p q : List ℕ → Bool) (xs : List (List ℕ)) (z : List ℕ) → ((x : List ℕ) → p x ≡ true → q x ≡ true) → is_among z xs ≡ true → p z ≡ false → q z ≡ true → many p xs < many q xs
fewer p q [] z h there out has = absurd (cc there)
fewer p q (x ∷ xs) z h there out has = elim (or_cases (bytes_eq x z) (is_among z xs) there) [
  | inl same ↦ here_case (p x) (q x) (many p xs) (many q xs) (ap p (bytes_same x z same) ∙ out) (ap q (bytes_same x z same) ∙ has) (most p q xs h)
  | inr behind ↦ less_case (p x) (q x) (many p xs) (many q xs) (h x) (fewer p q xs z h behind out has)
]

direct_at : (assigns : List AssignSeen) (i : ℕ) (a : AssignSeen) (y : List ℕ) → slice_get assigns i ≡ Some a → is_among y (ident_names a.reads) ≡ true →
    is_among y (direct (dependences_of assigns) a.target.name) ≡ true
direct_at [] i a y is h = absurd (cc is)
direct_at (x ∷ assigns) zero a y is h =
    let e : x ≡ a = cc is in
    let rest : List (List ℕ) = direct (dependences_of assigns) a.target.name in
    among_left y (if bytes_eq x.target.name a.target.name then ident_names x.reads else []) rest
    (ap (λ (b : Bool). is_among y (if b then ident_names x.reads else [])) (bytes_self x.target.name a.target.name (ap (λ (z : AssignSeen). z.target.name) e))
    ∙ ap (λ (z : AssignSeen). is_among y (ident_names z.reads)) e ∙ h)
direct_at (x ∷ assigns) (suc i) a y is h =
    among_right y (if bytes_eq x.target.name a.target.name then ident_names x.reads else []) (direct (dependences_of assigns) a.target.name) (direct_at assigns i a y is h)

target_among : (assigns : List AssignSeen) (i : ℕ) (a : AssignSeen) → slice_get assigns i ≡ Some a → is_among a.target.name (names_in assigns) ≡ true
target_among [] i a is = absurd (cc is)
target_among (x ∷ assigns) zero a is = let e : x ≡ a = cc is in or_left (bytes_eq x.target.name a.target.name) (is_among a.target.name (names_in assigns)) (bytes_self x.target.name a.target.name (ap (λ (z : AssignSeen). z.target.name) e))
target_among (x ∷ assigns) (suc i) a is = or_right (bytes_eq x.target.name a.target.name) (is_among a.target.name (names_in assigns)) (target_among assigns i a is)

none_circular : (test : List ℕ → Bool) (assigns : List AssignSeen) (i : ℕ) (a : AssignSeen) → places_if test (targets_of assigns) ≡ [] → slice_get assigns i ≡ Some a → test a.target.name ≡ false
none_circular test [] i a none is = absurd (cc is)
none_circular test (x ∷ assigns) zero a none is =
    let e : x ≡ a = cc is in
    ap (λ (z : AssignSeen). test z.target.name) (sym e) ∙ (first_out (test x.target.name) x.target.at (places_if test (targets_of assigns)) none).0
none_circular test (x ∷ assigns) (suc i) a none is = none_circular test assigns i a (first_out (test x.target.name) x.target.at (places_if test (targets_of assigns)) none).1 is

-- ---- all come

module _ (assigns : List AssignSeen) (once : Once [] assigns) (free : places_if (is_circular_by (dependences_of assigns)) (targets_of assigns) ≡ []) where
  abbrev targets : List (List ℕ)
  targets = names_in assigns

  abbrev needs : List (List ℕ)
  needs = map (row_of targets) assigns

  abbrev rank : AssignSeen → ℕ
  rank a = many (depends_by (dependences_of assigns) a.target.name) targets

  -- the name of a number in a row
  in_row : (i j : ℕ) (a b : AssignSeen) → slice_get assigns i ≡ Some a → slice_get assigns j ≡ Some b → is_in j (row needs i) ≡ true → reads_target a b ≡ true
  in_row i j a b p q h =
      let r = number_out targets a.reads j (ap (is_in j) (sym (row_at targets assigns i a p)) ∙ h) in
      let own = place_there targets b.target.name j (own_number assigns j b once q) in
      let other = place_there targets r.0 j r.2 in
      ap (λ x. is_among x (ident_names a.reads)) (sym own.0 ∙ other.0) ∙ r.1

  falls : (i j : ℕ) (a b : AssignSeen) → slice_get assigns i ≡ Some a → slice_get assigns j ≡ Some b → is_in j (row needs i) ≡ true → rank b < rank a
  falls i j a b p q h =
      let ds : List Dependence = dependences_of assigns in
      let step = direct_at assigns i a b.target.name p (in_row i j a b p q h) in
      fewer (depends_by ds b.target.name) (depends_by ds a.target.name) targets b.target.name (λ x on. depends_on a.target.name b.target.name x ds step on)
      (target_among assigns j b q) (none_circular (is_circular_by ds) assigns j b free q) (depends_direct a.target.name b.target.name ds step)

  in_range : (i j : ℕ) (a : AssignSeen) → slice_get assigns i ≡ Some a → is_in j (row needs i) ≡ true → j < length targets
  in_range i j a p h =
      let r = number_out targets a.reads j (ap (is_in j) (sym (row_at targets assigns i a p)) ∙ h) in
      (place_there targets r.0 j r.2).1

  as_many : (xs : List AssignSeen) → length (names_in xs) ≡ length xs
  as_many [] = refl
  as_many (x ∷ xs) = ap suc (as_many xs)

  rows_many : (xs : List AssignSeen) → length (map (row_of targets) xs) ≡ length xs
  rows_many [] = refl
  rows_many (x ∷ xs) = ap suc (rows_many xs)

  comes : (order : List ℕ) → AreAllTurns needs order → (bound i : ℕ) (a : AssignSeen) → slice_get assigns i ≡ Some a → rank a < bound → is_in i order ≡ true
  comes order t zero i a is below = absurd (omega arith)
  comes order t (suc bound) i a is below = true_from_ne_false (is_in i order) (λ out.
      let within : i < length needs = omega (arith, slice_get_within assigns i a is, rows_many assigns) in
      let l = t.stalls i within out in
      let b = element assigns l.0 (omega (arith, in_range i l.0 a is l.1, as_many assigns)) in
      let less : rank b.0 < bound = omega (arith, falls i l.0 a b.0 is b.1 l.1) in
      cc (comes order t bound l.0 b.0 b.1 less, l.2))

  behind : (before order : List ℕ) → InTurn needs before order → AreBehind assigns before order
  behind before [] h = tt
  behind before (i ∷ order) h = (
    h.0,
    λ a j b p q reads. h.1 j (ap (is_in j) (row_at targets assigns i a p) ∙ number_in targets a.reads b.target.name j reads (own_number assigns j b once q)),
    behind (before ++ i ∷ []) order h.2,
  )

  pub in_order : (order : List ℕ) → AreAllTurns needs order → IsOrder assigns order
  in_order order t = record {
    within = λ i there. omega (arith, t.within i there, rows_many assigns);
    every = λ i below. let e = element assigns i below in let less : rank e.0 < suc (rank e.0) = omega arith in comes order t (suc (rank e.0)) i e.0 e.1 less;
    behind = behind [] order t.turns;
  }

-- ---- what the loops gather

abbrev read_numbers : List (List ℕ) → List (Bor Ident) → List ℕ
read_numbers names reads = numbers_of names (map (λ n. n.now) reads)

numbers_more : (names : List (List ℕ)) (xs ys : List (Bor Ident)) → read_numbers names (xs ++ ys) ≡ read_numbers names xs ++ read_numbers names ys
numbers_more names [] ys = refl
numbers_more names (x ∷ xs) ys =
    ap (λ l. if_some (place names x.now.name) ++ l) (numbers_more names xs ys) ∙ sym (append_assoc (if_some (place names x.now.name)) (read_numbers names xs) (read_numbers names ys))

pub next_number : (names : List (List ℕ)) (reads : List (Bor Ident)) (i : ℕ) (x : Bor Ident) (old new : List ℕ) → i < length reads → x ≡ get_or reads i x → new ≡ old ++ if_some (place names x.now.name) →
    old ≡ numbers_of names (map (λ n. n.now) (take i reads)) → new ≡ numbers_of names (map (λ n. n.now) (take (i + 1) reads))
next_number names reads i x old new within is more h =
    more ∙ ap (λ l. l ++ if_some (place names x.now.name)) h ∙ ap (λ l. read_numbers names (take i reads) ++ l) (sym (append-nil (if_some (place names x.now.name))))
    ∙ sym (from_next (read_numbers names) (numbers_more names) reads i x within is)

names_push : (names : List (List ℕ)) (xs : List AssignSeen) (a : AssignSeen) → names_from names (xs ++ a ∷ []) ≡ name_added (names_from names xs) a.target.name
names_push names [] a = refl
names_push names (x ∷ xs) a = names_push (name_added names x.target.name) xs a

pub next_target : (numbers : BTreeMap (Bor (List ℕ)) ℕ) (assigns : List AssignUses) (i : ℕ) (x : AssignUses) (name : List ℕ) → i < length assigns → x ≡ get_or assigns i x → name ≡ x.target.now.name →
    Numbers numbers (name_added (names_from [] (map assign_in (take i assigns))) name) → Numbers numbers (names_from [] (map assign_in (take (i + 1) assigns)))
next_target numbers assigns i x name within is named h =
    let before : List (List ℕ) = names_from [] (map assign_in (take i assigns)) in
    let next : names_from [] (map assign_in (take (i + 1) assigns)) ≡ name_added before name =
    ap (λ (l : List AssignUses). names_from [] (map assign_in l)) (take_more assigns i x within ∙ ap (λ (y : AssignUses). take i assigns ++ y ∷ []) (sym is))
    ∙ ap (names_from []) (map-append assign_in (take i assigns) (x ∷ [])) ∙ names_push [] (map assign_in (take i assigns)) (assign_in x)
    ∙ ap (name_added before) (sym named) in
    subst (Numbers numbers) (sym next) h

-- ---- from what was gathered

pub ordered_uses : (g : Gathered) (u : Uses) (rows : List (List ℕ)) (order : List ℕ) → uses_in g ≡ seen_of u → combinational_of u ≡ [] → assigned_again [] (assign_targets u) ≡ [] → circular u ≡ [] →
    rows ≡ map (row_of (names_from [] (map assign_in g.assigns))) (map assign_in g.assigns) → AreAllTurns rows order → IsOrder (map assign_seen u.assigns) order
ordered_uses g u rows order is clocked once acyclic from t =
    let assigns : List AssignSeen = map assign_in g.assigns in
    let same : assigns ≡ map assign_seen u.assigns = ap (λ (s : Seen). s.assigns) is in
    let new : assigned_again [] (targets_of assigns) ≡ [] = ap (λ (l : List AssignSeen). assigned_again [] (targets_of l)) same ∙ ap (assigned_again []) (targets_seen u.assigns) ∙ once in
    let free : places_if (is_circular_by (dependences_of assigns)) (targets_of assigns) ≡ [] =
    ap (places_if (is_circular_by (dependences_of assigns))) (sym (targets_in g.assigns)) ∙ circular_of g u is clocked ∙ acyclic in
    let numbered : names_from [] assigns ≡ names_in assigns = all_numbered [] [] assigns (λ x. refl) new in
    let known : rows ≡ map (row_of (names_in assigns)) assigns = from ∙ ap (λ (names : List (List ℕ)). map (row_of names) assigns) numbered in
    subst (λ (l : List AssignSeen). IsOrder l order) same (in_order assigns new free order (subst (λ (r : List (List ℕ)). AreAllTurns r order) known t))
