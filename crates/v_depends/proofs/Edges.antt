-- The edges of a graph are its pairs of names, which are what its names depend on directly.
use Rattle.std.proofs.Common.{◌≡◌, ◌<◌, ◌+◌, ℕ, List, [], ◌∷◌, ◌++◌, length, get_or, take, Bool, true, false, refl, sym, ap, subst, ◌∙◌, inl, inr}
use Rattle.std.specs.Prelude.{◌==◌, if◌then◌else◌, bytes_eq}
use Rattle.std.specs.List.{All, AllZip}
use Rattle.std.proofs.lemmas.List.Elements.{All-head, All-tail}
use Rattle.std.proofs.lemmas.Bool.{eqb-true, eq-eqb, or_cases, or_left, or_right}
use Rattle.lz_base.specs.Names.{is_among}
use Rattle.v_meaning.specs.ProcessRules.{Dependence, direct}
use Rattle.v_depends.specs.Pairs.{pairs_with, pairs_of}
use Rattle.v_depends.specs.Graphs.{IsEdge}
use Rattle.v_depends.specs.Nodes.{is_in, is_marked, row, sources, starts_of}
use Rattle.v_depends.proofs.Gathering.{from_next_at, sources_more}
use Rattle.v_depends.proofs.Membership.{In, In_left, In_right, In_cases, among_left, among_right, among_cases, in_left, in_right, in_cases, in_one, bytes_same, bytes_self}

abbrev pub Pairs : Type 0
Pairs = List (List ℕ × List ℕ)

-- ---- pairs and what a name depends on directly

with_in : (x y : List ℕ) (on : List (List ℕ)) → is_among y on ≡ true → In (x, y) (pairs_with x on)
with_in x y [] h = absurd (cc h)
with_in x y (z ∷ zs) h = elim (or_cases (bytes_eq z y) (is_among y zs) h) [
  | inl same ↦ inl (ap (λ (w : List ℕ). (x, w)) (bytes_same z y same))
  | inr there ↦ inr (with_in x y zs there)
]

with_out : (n x y : List ℕ) (on : List (List ℕ)) → In (x, y) (pairs_with n on) → (n ≡ x) × (is_among y on ≡ true)
with_out n x y [] h = absurd h
with_out n x y (z ∷ zs) (inl e) = (ap (λ (p : List ℕ × List ℕ). p.0) e, or_left (bytes_eq z y) (is_among y zs) (bytes_self z y (ap (λ (p : List ℕ × List ℕ). p.1) e)))
with_out n x y (z ∷ zs) (inr h) = let r = with_out n x y zs h in (r.0, or_right (bytes_eq z y) (is_among y zs) r.1)

here_case : (b : Bool) (n x y : List ℕ) (on : List (List ℕ)) → bytes_eq n x ≡ b → is_among y (if b then on else []) ≡ true → In (x, y) (pairs_with n on)
here_case true n x y on e h = subst (λ (m : List ℕ). In (x, y) (pairs_with m on)) (sym (bytes_same n x e)) (with_in x y on h)
here_case false n x y on e h = absurd (cc h)

pub pair_in : (ds : List Dependence) (x y : List ℕ) → is_among y (direct ds x) ≡ true → In (x, y) (pairs_of ds)
pair_in [] x y h = absurd (cc h)
pair_in (d ∷ ds) x y h = elim (among_cases y (if bytes_eq d.name x then d.on else []) (direct ds x) h) [
  | inl here ↦ In_left (x, y) (pairs_with d.name d.on) (pairs_of ds) (here_case (bytes_eq d.name x) d.name x y d.on refl here)
  | inr there ↦ In_right (x, y) (pairs_with d.name d.on) (pairs_of ds) (pair_in ds x y there)
]

pub pair_out : (ds : List Dependence) (x y : List ℕ) → In (x, y) (pairs_of ds) → is_among y (direct ds x) ≡ true
pair_out [] x y h = absurd h
pair_out (d ∷ ds) x y h = elim (In_cases (x, y) (pairs_with d.name d.on) (pairs_of ds) h) [
  | inl here ↦ (
      let r = with_out d.name x y d.on here in
      among_left y (if bytes_eq d.name x then d.on else []) (direct ds x) (ap (λ (b : Bool). is_among y (if b then d.on else [])) (bytes_self d.name x r.0) ∙ r.1)
      )
  | inr there ↦ among_right y (if bytes_eq d.name x then d.on else []) (direct ds x) (pair_out ds x y there)
]

-- ---- pairs and edges

pub edge_of : (names : List (List ℕ)) (pairs : Pairs) (edges : List (ℕ × ℕ)) (p : List ℕ × List ℕ) → AllZip (IsEdge names) pairs edges → In p pairs → (e : ℕ × ℕ) × IsEdge names p e × In e edges
edge_of names [] edges p h i = absurd i
edge_of names (q ∷ ps) [] p h i = absurd h
edge_of names (q ∷ ps) (e ∷ es) p h (inl same) = (e, subst (λ (r : List ℕ × List ℕ). IsEdge names r e) same h.0, inl refl)
edge_of names (q ∷ ps) (e ∷ es) p h (inr i) = let r = edge_of names ps es p h.1 i in (r.0, r.1, inr r.2)

pub pair_of : (names : List (List ℕ)) (pairs : Pairs) (edges : List (ℕ × ℕ)) (e : ℕ × ℕ) → AllZip (IsEdge names) pairs edges → In e edges → (p : List ℕ × List ℕ) × IsEdge names p e × In p pairs
pair_of names pairs [] e h i = absurd i
pair_of names [] (f ∷ es) e h i = absurd h
pair_of names (q ∷ ps) (f ∷ es) e h (inl same) = (q, subst (λ (r : ℕ × ℕ). IsEdge names q r) same h.0, inl refl)
pair_of names (q ∷ ps) (f ∷ es) e h (inr i) = let r = pair_of names ps es e h.1 i in (r.0, r.1, inr r.2)

pub of_all : (P : ℕ × ℕ → Type 0) (edges : List (ℕ × ℕ)) (e : ℕ × ℕ) → All P edges → In e edges → P e
of_all P [] e h i = absurd i
of_all P (f ∷ es) e h (inl same) = subst P same (All-head P f es h)
of_all P (f ∷ es) e h (inr i) = of_all P es e (All-tail P f es h) i

-- ---- the ends of edges

pub source_in : (edges : List (ℕ × ℕ)) (e : ℕ × ℕ) → In e edges → is_in e.0 (sources edges e.1) ≡ true
source_in [] e i = absurd i
source_in (f ∷ es) e (inl same) =
    in_left e.0 (if f.1 == e.1 then f.0 ∷ [] else []) (sources es e.1)
    (subst (λ (g : ℕ × ℕ). is_in g.0 (if f.1 == g.1 then f.0 ∷ [] else []) ≡ true) same (ap (λ (b : Bool). is_in f.0 (if b then f.0 ∷ [] else [])) (eq-eqb f.1 f.1 refl) ∙ or_left (f.0 == f.0) false (eq-eqb f.0 f.0 refl)))
source_in (f ∷ es) e (inr i) = in_right e.0 (if f.1 == e.1 then f.0 ∷ [] else []) (sources es e.1) (source_in es e i)

source_case : (b : Bool) (f : ℕ × ℕ) (i j : ℕ) → (f.1 == j) ≡ b → is_in i (if b then f.0 ∷ [] else []) ≡ true → f ≡ (i, j)
source_case true f i j e h =
    let from : f.0 ≡ i = in_one i f.0 h in
    let to : f.1 ≡ j = eqb-true f.1 j e in
    ap (λ (n : ℕ). (n, f.1)) from ∙ ap (λ (n : ℕ). (i, n)) to
source_case false f i j e h = absurd (cc h)

pub source_out : (edges : List (ℕ × ℕ)) (i j : ℕ) → is_in i (sources edges j) ≡ true → In (i, j) edges
source_out [] i j h = absurd (cc h)
source_out (f ∷ es) i j h = elim (in_cases i (if f.1 == j then f.0 ∷ [] else []) (sources es j) h) [
  | inl here ↦ inl (source_case (f.1 == j) f i j refl here)
  | inr there ↦ inr (source_out es i j there)
]

pub start_in : (on : List Bool) (edges : List (ℕ × ℕ)) (e : ℕ × ℕ) → In e edges → is_marked on e.1 ≡ true → is_in e.0 (starts_of on edges) ≡ true
start_in on [] e i m = absurd i
start_in on (f ∷ es) e (inl same) m =
    in_left e.0 (if is_marked on f.1 then f.0 ∷ [] else []) (starts_of on es)
    (ap (λ (g : ℕ × ℕ). is_in e.0 (if is_marked on g.1 then g.0 ∷ [] else [])) same ∙ ap (λ (b : Bool). is_in e.0 (if b then e.0 ∷ [] else [])) m ∙ or_left (e.0 == e.0) false (eq-eqb e.0 e.0 refl))
start_in on (f ∷ es) e (inr i) m = in_right e.0 (if is_marked on f.1 then f.0 ∷ [] else []) (starts_of on es) (start_in on es e i m)

start_case : (b : Bool) (on : List Bool) (f : ℕ × ℕ) (i : ℕ) → is_marked on f.1 ≡ b → is_in i (if b then f.0 ∷ [] else []) ≡ true → (f.0 ≡ i) × (is_marked on f.1 ≡ true)
start_case true on f i e h = (in_one i f.0 h, e)
start_case false on f i e h = absurd (cc h)

-- the edge through which a node is one from which to start
pub start_out : (on : List Bool) (edges : List (ℕ × ℕ)) (i : ℕ) → is_in i (starts_of on edges) ≡ true → (e : ℕ × ℕ) × In e edges × (e.0 ≡ i) × (is_marked on e.1 ≡ true)
start_out on [] i h = absurd (cc h)
start_out on (f ∷ es) i h = elim (in_cases i (if is_marked on f.1 then f.0 ∷ [] else []) (starts_of on es) h) [
  | inl here ↦ (let r = start_case (is_marked on f.1) on f i refl here in (f, inl refl, r.0, r.1))
  | inr there ↦ (let r = start_out on es i there in (r.0, inr r.1, r.2, r.3))
]

-- ---- rows

pub rows_next : (before after : List (List ℕ)) (edges : List (ℕ × ℕ)) (i node : ℕ) → i < length edges → row after node ≡ row before node ++ sources (get_or edges i (0, 0) ∷ []) node →
    row before node ≡ sources (take i edges) node → row after node ≡ sources (take (i + 1) edges) node
rows_next before after edges i node within is h =
    is ∙ ap (λ l. l ++ sources (get_or edges i (0, 0) ∷ []) node) h ∙ sym (from_next_at (λ es. sources es node) (sources_more node) edges i (0, 0) within)
