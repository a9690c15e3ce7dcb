-- What a loop finds or gathers round by round is what there is in all.
use Rattle.std.proofs.Common.{◌≡◌, ◌<◌, ◌≤◌, ◌+◌, ℕ, suc, List, [], ◌∷◌, ◌++◌, length, drop, drop-cons, get_or, add-one, append_assoc, append-nil, Option, None, Bool, Bor, refl, sym, ap, ◌∙◌, subst}
use Rattle.std.proofs.lemmas.List.{drop_all}
use Rattle.std.specs.BTreeSet.{BTreeSet}
use Rattle.lz_base.specs.Met.{Met}
use Rattle.v_syntax.specs.declared.token.Ident.{Ident}
use Rattle.v_meaning.specs.MarkRules.{place_if}
use Rattle.v_meaning.specs.ProcessRules.{places_if}
use Rattle.v_scope.specs.Firsts.{lesser, least_from}
use Rattle.v_rules.specs.Groups.{idents_in}

pub next_is : {X : Type 0} (xs : List X) (i : ℕ) (x other : X) → i < length xs → x ≡ get_or xs i other → drop i xs ≡ x ∷ drop (i + 1) xs
next_is xs i x other h is = rw (add-one i) (drop-cons xs i other h ∙ ap (λ y. y ∷ drop (suc i) xs) (sym is))

-- ---- the least place

pub least_more : (first : Option ℕ) (xs ys : List ℕ) → least_from first (xs ++ ys) ≡ least_from (least_from first xs) ys
least_more first [] ys = refl
least_more first (x ∷ xs) ys = least_more (lesser first x) xs ys

-- The places from this item on are its own and those behind it, which may look at other names then.
pub round : {X : Type 0} (F G : List X → List ℕ) (xs : List X) (i : ℕ) (x other : X) (places : List ℕ) (start first more : Option ℕ) → i < length xs → x ≡ get_or xs i other →
    F (x ∷ drop (i + 1) xs) ≡ places ++ G (drop (i + 1) xs) → more ≡ least_from first places → least_from first (F (drop i xs)) ≡ start → least_from more (G (drop (i + 1) xs)) ≡ start
round F G xs i x other places start first more h is parts m same =
    ap (λ f. least_from f (G (drop (i + 1) xs))) m
    ∙ sym (least_more first places (G (drop (i + 1) xs)))
    ∙ ap (least_from first) (sym parts ∙ sym (ap F (next_is xs i x other h is)))
    ∙ same

pub ended : {X : Type 0} (F : List X → List ℕ) (xs : List X) (i : ℕ) (start first : Option ℕ) → length xs ≤ i → F [] ≡ [] → least_from first (F (drop i xs)) ≡ start → first ≡ start
ended F xs i start first h none same = sym (ap (least_from first) (ap F (drop_all i xs h) ∙ none)) ∙ same

-- ---- lists

-- What is gathered from this item on is its own and what is gathered behind it.
pub gathered : {X A : Type 0} (F G : List X → List A) (xs : List X) (i : ℕ) (x other : X) (one old new whole : List A) → i < length xs → x ≡ get_or xs i other →
    F (x ∷ drop (i + 1) xs) ≡ one ++ G (drop (i + 1) xs) → new ≡ old ++ one → old ++ F (drop i xs) ≡ whole → new ++ G (drop (i + 1) xs) ≡ whole
gathered F G xs i x other one old new whole h is parts more same =
    ap (λ l. l ++ G (drop (i + 1) xs)) more
    ∙ append_assoc old one (G (drop (i + 1) xs))
    ∙ ap (λ l. old ++ l) (sym parts ∙ sym (ap F (next_is xs i x other h is)))
    ∙ same

pub gathered_all : {X A : Type 0} (F : List X → List A) (xs : List X) (i : ℕ) (old whole : List A) → length xs ≤ i → F [] ≡ [] → old ++ F (drop i xs) ≡ whole → old ≡ whole
gathered_all F xs i old whole h none same = sym (ap (λ l. old ++ l) (ap F (drop_all i xs h) ∙ none) ∙ append-nil old) ∙ same

-- ---- places of names

pub places_more : (f : List ℕ → Bool) (xs ys : List Ident) → places_if f (xs ++ ys) ≡ places_if f xs ++ places_if f ys
places_more f [] ys = refl
places_more f (x ∷ xs) ys = ap (λ l. place_if (f x.name) x.at ++ l) (places_more f xs ys) ∙ sym (append_assoc (place_if (f x.name) x.at) (places_if f xs) (places_if f ys))

pub places_same : (f g : List ℕ → Bool) → ((name : List ℕ) → f name ≡ g name) → (ns : List Ident) → places_if f ns ≡ places_if g ns
places_same f g same [] = refl
places_same f g same (n ∷ ns) = ap (λ b. place_if b n.at ++ places_if f ns) (same n.name) ∙ ap (λ l. place_if (g n.name) n.at ++ l) (places_same f g same ns)

-- by one test among some, and by another among more
pub then_among : (f g : List ℕ → Bool) (xs ys : List Ident) (one all : Option ℕ) → one ≡ least_from None (places_if f xs) → all ≡ least_from one (places_if g ys) → all ≡ least_from None (places_if f xs ++ places_if g ys)
then_among f g xs ys one all p q = q ∙ ap (λ o. least_from o (places_if g ys)) p ∙ sym (least_more None (places_if f xs) (places_if g ys))

-- by one test, and by the same
pub and_among : (f : List ℕ → Bool) (xs ys : List Ident) (start one all : Option ℕ) → one ≡ least_from start (places_if f xs) → all ≡ least_from one (places_if f ys) → all ≡ least_from start (places_if f (xs ++ ys))
and_among f xs ys start one all p q =
    q ∙ ap (λ o. least_from o (places_if f ys)) p ∙ sym (least_more start (places_if f xs) (places_if f ys)) ∙ ap (least_from start) (sym (places_more f xs ys))

-- ---- the rounds over names

pub next_place : (f : List ℕ → Bool) (ns : List (Bor Ident)) (i : ℕ) (n other : Bor Ident) (broken : Bool) (start first more : Option ℕ) → i < length ns → n ≡ get_or ns i other → broken ≡ f n.now.name →
    more ≡ least_from first (place_if broken n.now.at) → least_from first (places_if f (idents_in (drop i ns))) ≡ start → least_from more (places_if f (idents_in (drop (i + 1) ns))) ≡ start
next_place f ns i n other broken start first more h is test note same =
    round (λ ms. places_if f (idents_in ms)) (λ ms. places_if f (idents_in ms)) ns i n other (place_if (f n.now.name) n.now.at) start first more h is refl (note ∙ ap (λ b. least_from first (place_if b n.now.at)) test) same

pub ended_places : (f : List ℕ → Bool) (ns : List (Bor Ident)) (i : ℕ) (start first : Option ℕ) → length ns ≤ i → least_from first (places_if f (idents_in (drop i ns))) ≡ start → first ≡ start
ended_places f ns i start first h same = ended (λ ms. places_if f (idents_in ms)) ns i start first h refl same

-- ---- names that are met

-- Names were met, and with the rest they are all.
pub record MetSome (met : BTreeSet (Bor (List ℕ))) (rest whole : List (List ℕ)) : Type 0 where
  pub names : List (List ℕ)
  pub met_them : Met met names
  pub all : names ++ rest ≡ whole

pub met_next : {X : Type 0} (F : List X → List (List ℕ)) (xs : List X) (i : ℕ) (x other : X) (one whole : List (List ℕ)) (met after : BTreeSet (Bor (List ℕ))) → i < length xs → x ≡ get_or xs i other →
    F (x ∷ drop (i + 1) xs) ≡ one ++ F (drop (i + 1) xs) → ((names : List (List ℕ)) → Met met names → Met after (names ++ one)) → MetSome met (F (drop i xs)) whole → MetSome after (F (drop (i + 1) xs)) whole
met_next F xs i x other one whole met after h is parts meets g = record {
  names = g.names ++ one;
  met_them = meets g.names g.met_them;
  all = gathered F F xs i x other one g.names (g.names ++ one) whole h is parts refl g.all;
}

pub met_all : {X : Type 0} (F : List X → List (List ℕ)) (xs : List X) (i : ℕ) (whole : List (List ℕ)) (met : BTreeSet (Bor (List ℕ))) → length xs ≤ i → F [] ≡ [] → MetSome met (F (drop i xs)) whole → Met met whole
met_all F xs i whole met h none g = subst (Met met) (gathered_all F xs i g.names whole h none g.all) g.met_them
