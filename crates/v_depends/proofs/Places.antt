-- The numbers of names stay where a name comes behind them, and the map of numbers knows that name too.
use Rattle.std.proofs.Common.{◌≡◌, ◌<◌, ◌+◌, ℕ, zero, suc, List, [], ◌∷◌, ◌++◌, length, get_or, Bool, true, false, cond, Option, None, Some, refl, sym, ap, subst, ◌∙◌, Bor, arith}
use Rattle.std.specs.Prelude.{if◌then◌else◌, is_some, bytes_eq}
use Rattle.std.specs.Ordering.{nat_cmp}
use Rattle.std.specs.Cmp.Lexicographic.{slice_cmp}
use Rattle.std.specs.BTreeMap.{BTreeMap, get, btree_map_len, Updates}
use Rattle.std.specs.List.{AllZip}
use Rattle.std.proofs.lemmas.List.{length_push}
use Rattle.std.proofs.lemmas.Map.Text.{is_eq-slice_cmp}
use Rattle.v_depends.specs.Graphs.{later, place, name_added, Numbers, IsEdge}
use Rattle.v_depends.proofs.Membership.{bytes_same, bytes_self}

-- ---- places

place_there_case : (b : Bool) (other name : List ℕ) (names : List (List ℕ)) (r : Option ℕ) (i : ℕ) → bytes_eq other name ≡ b →
    ((j : ℕ) → r ≡ Some j → (get_or names j [] ≡ name) × (j < length names)) → (if b then Some 0 else later r) ≡ Some i → (get_or (other ∷ names) i [] ≡ name) × (i < length (other ∷ names))
place_there_case true other name names r zero e h is = (bytes_same other name e, omega arith)
place_there_case true other name names r (suc i) e h is = absurd (cc is)
place_there_case false other name names None i e h is = absurd (cc is)
place_there_case false other name names (Some j) zero e h is = absurd (cc is)
place_there_case false other name names (Some j) (suc i) e h is =
    let same : j ≡ i = cc is in
    let r = h i (ap Some same) in
    (r.0, omega (arith, r.1))

pub place_there : (names : List (List ℕ)) (name : List ℕ) (i : ℕ) → place names name ≡ Some i → (get_or names i [] ≡ name) × (i < length names)
place_there [] name i is = absurd (cc is)
place_there (other ∷ names) name i is = place_there_case (bytes_eq other name) other name names (place names name) i refl (λ j. place_there names name j) is

abbrev pub or_else : Option ℕ → Option ℕ → Option ℕ
or_else None more = more
or_else (Some n) more = Some n

push_case : (b : Bool) (r : Option ℕ) (c : Bool) (n : ℕ) →
    (if b then Some 0 else later (or_else r (if c then Some n else None))) ≡ or_else (if b then Some 0 else later r) (if c then Some (suc n) else None)
push_case true r c n = refl
push_case false (Some k) c n = refl
push_case false None true n = refl
push_case false None false n = refl

pub place_push : (names : List (List ℕ)) (new name : List ℕ) → place (names ++ new ∷ []) name ≡ or_else (place names name) (if bytes_eq new name then Some (length names) else None)
place_push [] new name = refl
place_push (other ∷ names) new name =
    ap (λ (r : Option ℕ). if bytes_eq other name then Some 0 else later r) (place_push names new name)
    ∙ push_case (bytes_eq other name) (place names name) (bytes_eq new name) (length names)

-- ---- a name that is added

added_case : (b : Bool) (names : List (List ℕ)) (new name : List ℕ) (i : ℕ) → place names name ≡ Some i → place (if b then names else names ++ new ∷ []) name ≡ Some i
added_case true names new name i is = is
added_case false names new name i is = place_push names new name ∙ ap (λ (r : Option ℕ). or_else r (if bytes_eq new name then Some (length names) else None)) is

pub place_added : (names : List (List ℕ)) (new name : List ℕ) (i : ℕ) → place names name ≡ Some i → place (name_added names new) name ≡ Some i
place_added names new name i is = added_case (is_some (place names new)) names new name i is

pub edges_added : (names : List (List ℕ)) (new : List ℕ) (pairs : List (List ℕ × List ℕ)) (edges : List (ℕ × ℕ)) → AllZip (IsEdge names) pairs edges → AllZip (IsEdge (name_added names new)) pairs edges
edges_added names new [] [] h = tt
edges_added names new [] (e ∷ es) h = absurd h
edges_added names new (p ∷ ps) [] h = absurd h
edges_added names new (p ∷ ps) (e ∷ es) h = ((place_added names new p.0 e.0 h.0.0, place_added names new p.1 e.1 h.0.1), edges_added names new ps es h.1)

pub edges_push : (names : List (List ℕ)) (pairs : List (List ℕ × List ℕ)) (edges : List (ℕ × ℕ)) (p : List ℕ × List ℕ) (e : ℕ × ℕ) → AllZip (IsEdge names) pairs edges → IsEdge names p e →
    AllZip (IsEdge names) (pairs ++ p ∷ []) (edges ++ e ∷ [])
edges_push names [] [] p e h one = (one, tt)
edges_push names [] (f ∷ es) p e h one = absurd h
edges_push names (q ∷ ps) [] p e h one = absurd h
edges_push names (q ∷ ps) (f ∷ es) p e h one = (h.0, edges_push names ps es p e h.1 one)

-- ---- the map

cond_case : (b : Bool) (r : Option ℕ) (n : ℕ) → (b ≡ true → r ≡ None) → cond b (Some n) r ≡ or_else r (if b then Some n else None)
cond_case true r n h = ap (λ (o : Option ℕ). or_else o (Some n)) (sym (h refl))
cond_case false None n h = refl
cond_case false (Some k) n h = refl

found_push : (old new : BTreeMap (Bor (List ℕ)) ℕ) (names : List (List ℕ)) (key q : Bor (List ℕ)) → None ≡ place names key.now →
    Updates (λ x y. slice_cmp nat_cmp x.now y.now) old new key (Some (length names)) → Numbers old names → get (λ x y. slice_cmp nat_cmp x.now y.now) new q ≡ place (names ++ key.now ∷ []) q.now
found_push old new names key q absent updates n =
    updates.0 q
    ∙ ap (λ b. cond b (Some (length names)) (get (λ x y. slice_cmp nat_cmp x.now y.now) old q)) (is_eq-slice_cmp key.now q.now)
    ∙ ap (cond (bytes_eq key.now q.now) (Some (length names))) (n.found q)
    ∙ cond_case (bytes_eq key.now q.now) (place names q.now) (length names) (λ same. ap (place names) (sym (bytes_same key.now q.now same)) ∙ sym absent)
    ∙ sym (place_push names key.now q.now)

-- a name that has a number keeps it
pub number_known : (numbers : BTreeMap (Bor (List ℕ)) ℕ) (names : List (List ℕ)) (key : Bor (List ℕ)) (i : ℕ) → Some i ≡ get (λ x y. slice_cmp nat_cmp x.now y.now) numbers key → Numbers numbers names →
    Numbers numbers (name_added names key.now) × (place (name_added names key.now) key.now ≡ Some i)
number_known numbers names key i is n =
    let at : place names key.now ≡ Some i = sym (n.found key) ∙ sym is in
    let same : names ≡ name_added names key.now = ap (λ (r : Option ℕ). if is_some r then names else names ++ key.now ∷ []) (sym at) in
    (subst (λ (l : List (List ℕ)). Numbers numbers l) same n, place_added names key.now key.now i at)

-- a name that has none gets the next one
pub number_new : (old new : BTreeMap (Bor (List ℕ)) ℕ) (names : List (List ℕ)) (key : Bor (List ℕ)) (i : ℕ) (was : Option ℕ) → None ≡ get (λ x y. slice_cmp nat_cmp x.now y.now) old key → i ≡ btree_map_len old →
    Updates (λ x y. slice_cmp nat_cmp x.now y.now) old new key (Some i) → was ≡ get (λ x y. slice_cmp nat_cmp x.now y.now) old key → btree_map_len new ≡ btree_map_len old + (if is_some was then 0 else 1) → Numbers old names →
    Numbers new (name_added names key.now) × (place (name_added names key.now) key.now ≡ Some i)
number_new old new names key i was is count updates old_is long n =
    let absent : None ≡ place names key.now = is ∙ n.found key in
    let same : names ++ key.now ∷ [] ≡ name_added names key.now = ap (λ (r : Option ℕ). if is_some r then names else names ++ key.now ∷ []) absent in
    let at : i ≡ length names = count ∙ n.count in
    let one : btree_map_len new ≡ btree_map_len old + 1 = long ∙ ap (λ (o : Option ℕ). btree_map_len old + (if is_some o then 0 else 1)) (old_is ∙ sym is) in
    let numbers : Numbers new (names ++ key.now ∷ []) = record {
      found = λ q. found_push old new names key q absent (subst (λ (m : ℕ). Updates (λ x y. slice_cmp nat_cmp x.now y.now) old new key (Some m)) at updates) n;
      count = omega (arith, one, n.count, length_push names key.now);
    } in
    let there : place (names ++ key.now ∷ []) key.now ≡ Some i =
    place_push names key.now key.now ∙ ap (λ (r : Option ℕ). or_else r (if bytes_eq key.now key.now then Some (length names) else None)) (sym absent)
    ∙ ap (λ (b : Bool). if b then Some (length names) else None) (bytes_self key.now key.now refl) ∙ ap Some (sym at) in
    (subst (λ (l : List (List ℕ)). Numbers new l) same numbers, ap (λ (l : List (List ℕ)). place l key.now) (sym same) ∙ there)

-- an edge more, for a pair more
pub edge_more : (before between after : BTreeMap (Bor (List ℕ)) ℕ) (names : List (List ℕ)) (a b target read : List ℕ) (from to : ℕ) (pairs : List (List ℕ × List ℕ)) (edges more : List (ℕ × ℕ)) → a ≡ target → b ≡ read →
    (Numbers before names → Numbers between (name_added names a) × (place (name_added names a) a ≡ Some from)) →
    (Numbers between (name_added names a) → Numbers after (name_added (name_added names a) b) × (place (name_added (name_added names a) b) b ≡ Some to)) →
    more ≡ edges ++ (from, to) ∷ [] → Numbers before names → AllZip (IsEdge names) pairs edges →
    Numbers after (name_added (name_added names target) read) × AllZip (IsEdge (name_added (name_added names target) read)) (pairs ++ (target, read) ∷ []) more
edge_more before between after names a b target read from to pairs edges more p q first second is n h =
    let m = first n in
    let k = second m.0 in
    let all = name_added (name_added names a) b in
    let made : Numbers after all × AllZip (IsEdge all) (pairs ++ (a, b) ∷ []) more = (
      k.0,
      subst (AllZip (IsEdge all) (pairs ++ (a, b) ∷ [])) (sym is)
          (edges_push all pairs edges (a, b) (from, to) (edges_added (name_added names a) b pairs edges (edges_added names a pairs edges h)) (place_added (name_added names a) b a from m.1, k.1)),
    ) in
    subst (λ (y : List ℕ). Numbers after (name_added (name_added names target) y) × AllZip (IsEdge (name_added (name_added names target) y)) (pairs ++ (target, y) ∷ []) more) q
    (subst (λ (x : List ℕ). Numbers after (name_added (name_added names x) b) × AllZip (IsEdge (name_added (name_added names x) b)) (pairs ++ (x, b) ∷ []) more) p made)
