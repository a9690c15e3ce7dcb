-- What loops over assigns, reads and writes gather from the first of them, and from one more.
use Rattle.std.proofs.Common.{◌≡◌, ◌<◌, ◌≤◌, ◌+◌, ℕ, List, [], ◌∷◌, ◌++◌, map, flat_map, filter, length, get_or, take, Bor, cond, refl, sym, ap, ◌∙◌, append_assoc}
use Rattle.std.specs.Prelude.{if◌then◌else◌, ◌==◌, Bool}
use Rattle.std.specs.List.{All}
use Rattle.std.proofs.lemmas.List.{append-nil, map-append, take_all, take_more}
use Rattle.std.proofs.lemmas.List.Concat.{flat_map-append}
use Rattle.std.proofs.lemmas.List.Elements.{All-same, filter-append}
use Rattle.v_syntax.specs.declared.token.Ident.{Ident}
use Rattle.v_syntax.specs.declared.stmt.AssignKind.{AssignKind}
use Rattle.v_syntax.specs.declared.stmt.AssignKind.TheVariants as a
use Rattle.v_meaning.specs.ProcessRules.{Dependence, Written, ident_names, is_blocking}
use Rattle.v_uses.specs.declared.gathered.AssignUses.{AssignUses}
use Rattle.v_uses.specs.declared.gathered.ProcessUses.{ProcessUses}
use Rattle.v_uses.specs.declared.gathered.Write.{Write}
use Rattle.v_uses.specs.Gathered.{assign_in, process_in, written_in}
use Rattle.v_depends.specs.Pairs.{pairs_with, pairs_of, dependence_of, dependences_of, blocking_in, blocking_of}
use Rattle.v_depends.specs.Nodes.{is_marked, sources, starts_of}

-- what is gathered from one more
module _ {A B : Type 0} (f : List A → List B) (adds : (xs ys : List A) → f (xs ++ ys) ≡ f xs ++ f ys) (xs : List A) (i : ℕ) where
  pub from_next : (x : A) → i < length xs → x ≡ get_or xs i x → f (take (i + 1) xs) ≡ f (take i xs) ++ f (x ∷ [])
  from_next x within is = ap f (take_more xs i x within ∙ ap (λ y. take i xs ++ y ∷ []) (sym is)) ∙ adds (take i xs) (x ∷ [])

  pub from_next_at : (d : A) → i < length xs → f (take (i + 1) xs) ≡ f (take i xs) ++ f (get_or xs i d ∷ [])
  from_next_at d within = ap f (take_more xs i d within) ∙ adds (take i xs) (get_or xs i d ∷ [])

-- ---- reads of an assign

with_more : (name : List ℕ) (xs ys : List (List ℕ)) → pairs_with name (xs ++ ys) ≡ pairs_with name xs ++ pairs_with name ys
with_more name [] ys = refl
with_more name (x ∷ xs) ys = ap (λ l. (name, x) ∷ l) (with_more name xs ys)

abbrev pub read_pairs : List ℕ → List (Bor Ident) → List (List ℕ × List ℕ)
read_pairs target reads = pairs_with target (ident_names (map (λ n. n.now) reads))

pub read_pairs_more : (target : List ℕ) (xs ys : List (Bor Ident)) → read_pairs target (xs ++ ys) ≡ read_pairs target xs ++ read_pairs target ys
read_pairs_more target xs ys =
    ap (λ l. pairs_with target (ident_names l)) (map-append (λ n. n.now) xs ys)
    ∙ ap (pairs_with target) (map-append (λ (n : Ident). n.name) (map (λ n. n.now) xs) (map (λ n. n.now) ys))
    ∙ with_more target (ident_names (map (λ n. n.now) xs)) (ident_names (map (λ n. n.now) ys))

pub next_read : (pairs : List (List ℕ × List ℕ)) (target : List ℕ) (reads : List (Bor Ident)) (i : ℕ) (x : Bor Ident) → i < length reads → x ≡ get_or reads i x →
    (pairs ++ read_pairs target (take i reads)) ++ (target, x.now.name) ∷ [] ≡ pairs ++ read_pairs target (take (i + 1) reads)
next_read pairs target reads i x within is =
    append_assoc pairs (read_pairs target (take i reads)) ((target, x.now.name) ∷ []) ∙ ap (λ l. pairs ++ l) (sym (from_next (read_pairs target) (read_pairs_more target) reads i x within is))

pub all_reads : (pairs : List (List ℕ × List ℕ)) (target : List ℕ) (reads items : List (Bor Ident)) (i : ℕ) → length items ≤ i → items ≡ reads →
    pairs ++ read_pairs target (take i items) ≡ pairs ++ (read_pairs target reads ++ [])
all_reads pairs target reads items i done is =
    ap (λ l. pairs ++ read_pairs target l) (take_all i items done ∙ is) ∙ ap (λ l. pairs ++ l) (sym (append-nil (read_pairs target reads)))

-- ---- assigns

pairs_more : (ds es : List Dependence) → pairs_of (ds ++ es) ≡ pairs_of ds ++ pairs_of es
pairs_more [] es = refl
pairs_more (d ∷ ds) es = ap (λ l. pairs_with d.name d.on ++ l) (pairs_more ds es) ∙ sym (append_assoc (pairs_with d.name d.on) (pairs_of ds) (pairs_of es))

abbrev pub assign_pairs : List AssignUses → List (List ℕ × List ℕ)
assign_pairs assigns = pairs_of (dependences_of (map assign_in assigns))

pub assign_pairs_more : (xs ys : List AssignUses) → assign_pairs (xs ++ ys) ≡ assign_pairs xs ++ assign_pairs ys
assign_pairs_more xs ys =
    ap (λ l. pairs_of (dependences_of l)) (map-append assign_in xs ys) ∙ ap pairs_of (map-append dependence_of (map assign_in xs) (map assign_in ys))
    ∙ pairs_more (dependences_of (map assign_in xs)) (dependences_of (map assign_in ys))

-- ---- edges

pub starts_more : (on : List Bool) (xs ys : List (ℕ × ℕ)) → starts_of on (xs ++ ys) ≡ starts_of on xs ++ starts_of on ys
starts_more on [] ys = refl
starts_more on (e ∷ es) ys = ap (λ l. (if is_marked on e.1 then e.0 ∷ [] else []) ++ l) (starts_more on es ys) ∙ sym (append_assoc (if is_marked on e.1 then e.0 ∷ [] else []) (starts_of on es) (starts_of on ys))

pub sources_more : (node : ℕ) (xs ys : List (ℕ × ℕ)) → sources (xs ++ ys) node ≡ sources xs node ++ sources ys node
sources_more node [] ys = refl
sources_more node (e ∷ es) ys = ap (λ l. (if e.1 == node then e.0 ∷ [] else []) ++ l) (sources_more node es ys) ∙ sym (append_assoc (if e.1 == node then e.0 ∷ [] else []) (sources es node) (sources ys node))

pub all_edges : (P : ℕ × ℕ → Type 0) (edges : List (ℕ × ℕ)) (i : ℕ) → length edges ≤ i → All P (take i edges) → All P edges
all_edges P edges i done h = All-same P edges (take i edges) (sym (take_all i edges done)) h

-- ---- writes and reads of processes

blocking_more : (xs ys : List Written) → blocking_in (xs ++ ys) ≡ blocking_in xs ++ blocking_in ys
blocking_more xs ys =
    ap (map (λ (x : Written). x.name.name)) (filter-append (λ (x : Written). is_blocking x.kind) xs ys)
    ∙ map-append (λ (x : Written). x.name.name) (filter (λ (x : Written). is_blocking x.kind) xs) (filter (λ (x : Written). is_blocking x.kind) ys)

pub blocking_writes_more : (xs ys : List Write) → blocking_in (map written_in (xs ++ ys)) ≡ blocking_in (map written_in xs) ++ blocking_in (map written_in ys)
blocking_writes_more xs ys = ap blocking_in (map-append written_in xs ys) ∙ blocking_more (map written_in xs) (map written_in ys)

pub blocking_processes_more : (xs ys : List ProcessUses) → flat_map blocking_of (map process_in (xs ++ ys)) ≡ flat_map blocking_of (map process_in xs) ++ flat_map blocking_of (map process_in ys)
blocking_processes_more xs ys = ap (flat_map blocking_of) (map-append process_in xs ys) ∙ flat_map-append blocking_of (map process_in xs) (map process_in ys)

pub idents_more : (xs ys : List (Bor Ident)) → map (λ r. r.now) (xs ++ ys) ≡ map (λ r. r.now) xs ++ map (λ r. r.now) ys
idents_more xs ys = map-append (λ r. r.now) xs ys

pub targets_more : (xs ys : List AssignUses) → map (λ (a : AssignUses). a.target.now) (xs ++ ys) ≡ map (λ (a : AssignUses). a.target.now) xs ++ map (λ (a : AssignUses). a.target.now) ys
targets_more xs ys = map-append (λ (a : AssignUses). a.target.now) xs ys

abbrev pub reads_of : List ProcessUses → List Ident
reads_of ps = flat_map (λ (p : ProcessUses). (process_in p).reads) ps

pub reads_more : (xs ys : List ProcessUses) → reads_of (xs ++ ys) ≡ reads_of xs ++ reads_of ys
reads_more xs ys = flat_map-append (λ (p : ProcessUses). (process_in p).reads) xs ys

pub blocking_one : (w : Write) → w.kind ≡ a.Blocking → w.name.now.name ∷ [] ≡ blocking_in (written_in w ∷ [])
blocking_one w is = ap (λ (k : AssignKind). map (λ (x : Written). x.name.name) (cond (is_blocking k) (written_in w ∷ []) [])) (sym is)
