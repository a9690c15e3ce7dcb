-- The way down from a root to the node at which a walk stands.
use Rattle.std.proofs.Common.{◌≡◌, ◌≢◌, ◌<◌, ◌≤◌, ◌+◌, ◌-◌, ◌*◌, ◌/◌, ◌%◌, ◌^◌, ◌==◌, ◌||◌, ℕ, zero, suc, List, [], ◌∷◌, ◌++◌, length, take, drop, get_or, Bool, true, false, Option, None, Some, if◌then◌else◌, refl, ap, sym, subst, ◌∙◌, arith, inl, inr, length-append, drop-cons}
use Rattle.std.proofs.Math.ListN.{get_or-append}
use Rattle.std.proofs.Math.Seq.{get_or-append_seam}
use Rattle.std.proofs.lemmas.List.{get_or-take, length-take}
use Rattle.std.proofs.lemmas.Bool.Decides.{eqb_tells}
use Rattle.std.proofs.lemmas.Nat.{shr-shr}
use Rattle.n_cells.specs.Run.{table_bit}
use Rattle.m_valid.specs.declared.nodes.Node.{Node}
use Rattle.m_valid.specs.Validity.{is_among, assigned, ends_in, steps_from}
use Rattle.m_valid.specs.Walk.{IsPath, IsLeafTable, HasBits, last_of}
use Rattle.m_valid.proofs.Lists.{eq_true, drop_end}

-- no path yet
pub path_begins : (nodes : List Node) (leaves : List ℕ) (known_at : ℕ → Option ℕ) (root : ℕ) → IsPath nodes leaves known_at root []
path_begins nodes leaves known_at root = record {
  below = λ k h. absurd (omega arith);
  unknown = λ k h. absurd (omega arith);
  blamed = λ k h. absurd (omega arith);
  falls = λ j k a b. absurd (omega arith);
}

-- What is known of the node at which the walk stands.
pub record IsHere (nodes : List Node) (leaves : List ℕ) (known_at : ℕ → Option ℕ) (root : ℕ) (path : List ℕ) (here : ℕ) : Type 0 where
  pub below : here ≤ root
  pub unknown : known_at here ≡ None
  pub blamed : ends_in nodes leaves (steps_from here) here ≡ false → ends_in nodes leaves (steps_from root) root ≡ false
  pub least : (k : ℕ) → k < length path - 1 → here < get_or path k 0
  pub is_last : (k : ℕ) → k < length path → here ≤ get_or path k 0

last_there : (path : List ℕ) (root : ℕ) → 0 < length path → last_of path root ≡ get_or path (length path - 1) 0
last_there path root some = got path (length path - 1) (omega arith)
  where
    got : (xs : List ℕ) (k : ℕ) → k < length xs → get_or xs k root ≡ get_or xs k 0
    got [] k h = absurd (omega arith)
    got (x ∷ xs) zero h = refl
    got (x ∷ xs) (suc k) h = got xs k (omega arith)

stands_last : (nodes : List Node) (leaves : List ℕ) (known_at : ℕ → Option ℕ) (root : ℕ) (path : List ℕ) (last : ℕ) → IsPath nodes leaves known_at root path → last + 1 ≡ length path
    → IsHere nodes leaves known_at root path (get_or path last 0)
stands_last nodes leaves known_at root path last p at = record {
  below = omega (arith, p.below last (omega arith));
  unknown = p.unknown last (omega arith);
  blamed = p.blamed last (omega arith);
  least = λ k h. p.falls k last (omega arith) (omega arith);
  is_last = λ k h. elim (eqb_tells k last) [
    | inl e ↦ omega (arith, ap (λ j. get_or path j 0) e.1)
    | inr e ↦ let lt : k < last = omega (arith, e.1) in omega (arith, p.falls k last lt (omega arith))
  ];
}

stands_root : (nodes : List Node) (leaves : List ℕ) (known_at : ℕ → Option ℕ) (root : ℕ) → known_at root ≡ None → IsHere nodes leaves known_at root [] root
stands_root nodes leaves known_at root none = record {
  below = omega arith;
  unknown = none;
  blamed = λ e. e;
  least = λ k h. absurd (omega arith);
  is_last = λ k h. absurd (omega arith);
}

pub stands : (nodes : List Node) (leaves : List ℕ) (known_at : ℕ → Option ℕ) (root : ℕ) (path : List ℕ) (here : ℕ) → IsPath nodes leaves known_at root path → known_at root ≡ None → here ≡ last_of path root
    → IsHere nodes leaves known_at root path here
stands nodes leaves known_at root [] here p none at = subst (IsHere nodes leaves known_at root []) (sym at) (stands_root nodes leaves known_at root none)
stands nodes leaves known_at root (x ∷ xs) here p none at =
    let e : get_or (x ∷ xs) (length xs) 0 ≡ here = sym (at ∙ last_there (x ∷ xs) root (omega arith) ∙ ap (λ k. get_or (x ∷ xs) k 0) (omega arith)) in
    subst (IsHere nodes leaves known_at root (x ∷ xs)) e (stands_last nodes leaves known_at root (x ∷ xs) (length xs) p (omega arith))

-- one step down
pushed : (path : List ℕ) (m k : ℕ) → k < length path → get_or (path ++ m ∷ []) k 0 ≡ get_or path k 0
pushed path m k h = get_or-append path (m ∷ []) 0 k h

push_cases : (path : List ℕ) (m : ℕ) (P : ℕ → Type 0) → ((k : ℕ) → k < length path → P (get_or path k 0)) → P m → (k : ℕ) → k < length (path ++ m ∷ []) → P (get_or (path ++ m ∷ []) k 0)
push_cases path m P old new k h = elim (eqb_tells k (length path)) [
  | inl e ↦ subst P (sym (ap (λ j. get_or (path ++ m ∷ []) j 0) e.1 ∙ get_or-append_seam path m [] 0)) new
  | inr e ↦
      let within : k < length path = omega (arith, e.1, length-append path (m ∷ [])) in
      subst P (sym (pushed path m k within)) (old k within)
]

pub path_down : (nodes : List Node) (leaves : List ℕ) (known_at : ℕ → Option ℕ) (root : ℕ) (path : List ℕ) (here m : ℕ) → IsPath nodes leaves known_at root path → IsHere nodes leaves known_at root path here
    → m < here → known_at m ≡ None → (ends_in nodes leaves (steps_from m) m ≡ false → ends_in nodes leaves (steps_from here) here ≡ false)
    → IsPath nodes leaves known_at root (path ++ m ∷ [])
path_down nodes leaves known_at root path here m p h lt none blame = record {
  below = push_cases path m (λ x. x < root) p.below (omega (arith, h.below));
  unknown = push_cases path m (λ x. known_at x ≡ None) p.unknown none;
  blamed = push_cases path m (λ x. ends_in nodes leaves (steps_from x) x ≡ false → ends_in nodes leaves (steps_from root) root ≡ false) p.blamed (λ e. h.blamed (blame e));
  falls = λ j k before within.
      let first : j < length path = omega (arith, length-append path (m ∷ [])) in
      elim (eqb_tells k (length path)) [
        | inl e ↦
            let last : get_or (path ++ m ∷ []) k 0 ≡ m = ap (λ i. get_or (path ++ m ∷ []) i 0) e.1 ∙ get_or-append_seam path m [] 0 in
            omega (arith, last, pushed path m j first, h.is_last j first)
        | inr e ↦
            let within' : k < length path = omega (arith, e.1, length-append path (m ∷ [])) in
            omega (arith, pushed path m j first, pushed path m k within', p.falls j k before within')
      ];
}

-- one step up
pub path_up : (nodes : List Node) (leaves : List ℕ) (old new : ℕ → Option ℕ) (root : ℕ) (path : List ℕ) (here : ℕ) → IsPath nodes leaves old root path → IsHere nodes leaves old root path here
    → ((k : ℕ) → k ≢ here → new k ≡ old k) → IsPath nodes leaves new root (take (length path - 1) path)
path_up nodes leaves old new root path here p h others =
    let long : length (take (length path - 1) path) ≤ length path - 1 = omega (arith, length-take (length path - 1) path) in
    let taken = λ (k : ℕ) (within : k < length path - 1). get_or-take (length path - 1) path k 0 within in
    record {
      below = λ k w. let in' : k < length path - 1 = omega arith in rw (taken k in') (p.below k (omega arith));
      unknown = λ k w.
          let in' : k < length path - 1 = omega arith in
          let more = h.least k in' in
          rw (taken k in') (others (get_or path k 0) (λ e. omega (arith, e, more)) ∙ p.unknown k (omega arith));
      blamed = λ k w. let in' : k < length path - 1 = omega arith in rw (taken k in') (p.blamed k (omega arith));
      falls = λ j k before w. let in' : k < length path - 1 = omega arith in omega (arith, taken k in', taken j (omega arith), p.falls j k before (omega arith));
    }

-- each step lessens what is left
pub down_less : (left root here m last : ℕ) → last ≡ m → m < here → left * (root + 1) + last < left * (root + 1) + here
down_less left root here m last e lt = omega arith

pub up_less : (before after root here last : ℕ) → after + 1 ≡ before → last ≤ root → after * (root + 1) + last < before * (root + 1) + here
up_less before after root here last e le =
    let more : before * (root + 1) ≡ after * (root + 1) + (root + 1) = ap (λ k. k * (root + 1)) (sym e) ∙ omega arith in
    omega (arith, more)

pub last_pushed : (path : List ℕ) (m root : ℕ) → last_of (path ++ m ∷ []) root ≡ m
last_pushed path m root =
    let at : length (path ++ m ∷ []) - 1 ≡ length path = omega (arith, length-append path (m ∷ [])) in
    ap (λ k. get_or (path ++ m ∷ []) k root) at ∙ get_or-append_seam path m [] root

last_within : (path : List ℕ) (root k : ℕ) → ((i : ℕ) → i < length path → get_or path i 0 < root) → get_or path k root ≤ root
last_within [] root k h = omega arith
last_within (x ∷ xs) root zero h = omega (arith, h 0 (omega arith))
last_within (x ∷ xs) root (suc k) h = last_within xs root k (λ i lt. h (suc i) (omega arith))

pub last_below : (nodes : List Node) (leaves : List ℕ) (known_at : ℕ → Option ℕ) (root : ℕ) (path : List ℕ) → IsPath nodes leaves known_at root path → last_of path root ≤ root
last_below nodes leaves known_at root path p = last_within path root (length path - 1) p.below

-- the leaves are marked from the last one on
leaf_step : (b : Bool) (a c : Option Bool) (x : Option Bool) → b ≡ true → a ≡ x → (if b then a else c) ≡ x
leaf_step true a c x e h = h
leaf_step false a c x e h = cc

leaf_skip : (b : Bool) (a c : Option Bool) (x : Option Bool) → b ≡ false → c ≡ x → (if b then a else c) ≡ x
leaf_skip true a c x e h = cc
leaf_skip false a c x e h = h

shift_more : (i j : ℕ) → i / 2 ^ j / 2 ≡ i / 2 ^ (j + 1)
shift_more i j = shr-shr i j 1

kept_leaf : (leaf number j : ℕ) (leaves : List ℕ) (o : Option ℕ) → (leaf == number) ≡ false → IsLeafTable (j + 1) leaves number o → IsLeafTable j (leaf ∷ leaves) number o
kept_leaf leaf number j leaves None e h = ap (λ b. b || is_among number leaves) e ∙ h
kept_leaf leaf number j leaves (Some table) e h = (
  ap (λ b. b || is_among number leaves) e ∙ h.0,
  λ i lt. leaf_skip (leaf == number) _ (assigned leaves (i / 2 ^ j / 2) number) (Some (table_bit table i)) e (ap (λ k. assigned leaves k number) (shift_more i j) ∙ h.1 i lt),
)

new_leaf : (number j table : ℕ) (leaves : List ℕ) → HasBits table (λ i. (i / 2 ^ j % 2) == 1) → IsLeafTable j (number ∷ leaves) number (Some table)
new_leaf number j table leaves bits =
    let here : (number == number) ≡ true = eq_true number number refl in
    (ap (λ b. b || is_among number leaves) here, λ i lt. leaf_step (number == number) _ (assigned leaves (i / 2 ^ j / 2) number) (Some (table_bit table i)) here (ap Some (sym (bits i lt))))

pub leaf_more : (old new : ℕ → Option ℕ) (leaf j next table : ℕ) (leaves : List ℕ) → next ≡ j + 1 → ((k : ℕ) → IsLeafTable next leaves k (old k)) → new leaf ≡ Some table → ((k : ℕ) → k ≢ leaf → new k ≡ old k)
    → HasBits table (λ i. (i / 2 ^ j % 2) == 1) → (k : ℕ) → IsLeafTable j (leaf ∷ leaves) k (new k)
leaf_more old new leaf j next table leaves at h here others bits k = elim (eqb_tells leaf k) [
  | inl e ↦ subst (λ m. IsLeafTable j (leaf ∷ leaves) m (new m)) e.1 (rw here (new_leaf leaf j table leaves bits))
  | inr e ↦ rw (others k (λ s. e.1 (sym s))) (kept_leaf leaf k j leaves (old k) e.0 (subst (λ n. IsLeafTable n leaves k (old k)) at (h k)))
]

pub leaf_none : (j : ℕ) (leaves : List ℕ) (k : ℕ) (o : Option ℕ) → leaves ≡ [] → o ≡ None → IsLeafTable j leaves k o
leaf_none j leaves k o e none = rw (e, none) refl

-- one leaf more, counting down
drop_before : (xs : List ℕ) (j : ℕ) → 0 < j → j ≤ length xs → drop (j - 1) xs ≡ get_or xs (j - 1) 0 ∷ drop j xs
drop_before xs zero some le = absurd (omega arith)
drop_before xs (suc i) some le =
    let before : suc i - 1 ≡ i = omega arith in
    rw before (drop-cons xs i 0 (omega arith))

pub leaf_before : (old new : ℕ → Option ℕ) (leaves : List ℕ) (j table : ℕ) → 0 < j → j ≤ length leaves → ((k : ℕ) → IsLeafTable j (drop j leaves) k (old k)) → new (get_or leaves (j - 1) 0) ≡ Some table
    → ((k : ℕ) → k ≢ get_or leaves (j - 1) 0 → new k ≡ old k) → HasBits table (λ i. (i / 2 ^ (j - 1) % 2) == 1) → (k : ℕ) → IsLeafTable (j - 1) (drop (j - 1) leaves) k (new k)
leaf_before old new leaves j table some le h here others bits k =
    subst (λ l. IsLeafTable (j - 1) l k (new k)) (sym (drop_before leaves j some le))
    (leaf_more old new (get_or leaves (j - 1) 0) (j - 1) j table (drop j leaves) (omega arith) h here others bits k)

pub leaves_begin : (leaves : List ℕ) (j k : ℕ) (o : Option ℕ) → length leaves ≤ j → o ≡ None → IsLeafTable j (drop j leaves) k o
leaves_begin leaves j k o past none = leaf_none j (drop j leaves) k o (drop_end leaves j past) none

pub leaves_all : (leaves : List ℕ) (j k : ℕ) (o : Option ℕ) → j ≤ 0 → IsLeafTable j (drop j leaves) k o → IsLeafTable 0 leaves k o
leaves_all leaves zero k o end h = h
leaves_all leaves (suc j) k o end h = absurd (omega arith)
