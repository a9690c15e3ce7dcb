-- How the sites of chains and of operands side by side are put together, also where the final width and sign are open.
use Rattle.std.proofs.Common.{◌≡◌, ap, sym, ◌∙◌, refl, ℕ, List, [], ◌∷◌, ◌++◌, reverse, Bool, true, false}
use Rattle.std.proofs.Math.Path.{fun_ext}
use Rattle.std.proofs.lemmas.List.{reverse-append}
use Rattle.std.proofs.lemmas.List.Folds.{list_all-append, list_all-map}
use Rattle.std.specs.Prelude.{◌&&◌}
use Rattle.std.specs.List.{list_all}
use Rattle.v_syntax.specs.declared.expr.UnaryOperator.{UnaryOperator}
use Rattle.v_syntax.specs.declared.expr.BinaryOperator.{BinaryOperator}
use Rattle.v_core.specs.declared.open.Body.{Body}
use Rattle.v_core.specs.declared.open.Body.TheVariants as b
use Rattle.v_core.specs.declared.open.Body.TheOpen as p
use Rattle.v_core.specs.declared.open.Body.TheFolds.{fold-roll-Body}
use Rattle.v_core.specs.declared.typed.Link.{Link}
use Rattle.v_core.specs.declared.typed.Typed.{Typed}
use Rattle.v_core.specs.declared.typed.Typed.TheVariants as e
use Rattle.v_core.specs.declared.typed.Typed.TheOpen as o
use Rattle.v_core.specs.declared.typed.Typed.TheFolds.{fold-roll-Typed}
use Rattle.v_core.specs.Sited.{SitedIn, sited_step, is_sited, are_sited_links, are_sited_parts, sited_body_step, is_sited_body, are_sited_bodies}

-- both of two
abbrev pub both_sited : SitedIn → SitedIn → SitedIn
both_sited x y names sites = x names sites && y names sites

-- ---- tests of lists

last_apart : (a b c : Bool) → (a && (b && (c && true))) ≡ ((a && b) && c)
last_apart true true true = refl
last_apart true true false = refl
last_apart true false c = refl
last_apart false b c = refl

last_moved : (a b c : Bool) → ((a && (c && true)) && b) ≡ (a && (b && (c && true)))
last_moved true true true = refl
last_moved true true false = refl
last_moved true false true = refl
last_moved true false false = refl
last_moved false b c = refl

last_first : (b c : Bool) → (b && (c && true)) ≡ (c && b)
last_first true true = refl
last_first true false = refl
last_first false true = refl
last_first false false = refl

with_all : (b : Bool) → (b && true) ≡ b
with_all true = refl
with_all false = refl

-- one more behind others
push_passes : {X : Type 0} (test : X → Bool) (first : Bool) (xs : List X) (x : X) → (first && list_all test (xs ++ x ∷ [])) ≡ ((first && list_all test xs) && test x)
push_passes test first xs x = ap (λ (b : Bool). first && b) (list_all-append test xs (x ∷ [])) ∙ last_apart first (list_all test xs) (test x)

reverse_passes : {X : Type 0} (test : X → Bool) (xs : List X) → list_all test (reverse xs) ≡ list_all test xs
reverse_passes test [] = refl
reverse_passes test (x ∷ xs) =
    ap (list_all test) (reverse-append (x ∷ []) xs) ∙ list_all-append test (reverse xs) (x ∷ [])
    ∙ last_first (list_all test (reverse xs)) (test x) ∙ ap (λ (b : Bool). test x && b) (reverse_passes test xs)

-- ---- chains, and operands side by side

pub sited_chain : (x : Typed) (links : List (Link × Typed)) → is_sited (e.Chain x links) ≡ both_sited (is_sited x) (are_sited_links links)
sited_chain x links =
    ap is_sited (sym (e.rolls-Chain x links)) ∙ fold-roll-Typed SitedIn sited_step (o.Chain x links)
    ∙ fun_ext (λ names. fun_ext (λ sites. ap (λ (b : Bool). is_sited x names sites && b)
    (list_all-map (λ (l : Link × SitedIn). l.1 names sites) (λ (l : Link × Typed). (l.0, is_sited l.1)) links)))

pub sited_concat : (parts : List (ℕ × Typed)) → is_sited (e.Concat parts) ≡ are_sited_parts parts
sited_concat parts =
    ap is_sited (sym (e.rolls-Concat parts)) ∙ fold-roll-Typed SitedIn sited_step (o.Concat parts)
    ∙ fun_ext (λ names. fun_ext (λ sites. list_all-map (λ (p : ℕ × SitedIn). p.1 names sites) (λ (p : ℕ × Typed). (p.0, is_sited p.1)) parts))

pub sited_behind_chain : (x first y : Typed) (link : Link) (links more : List (Link × Typed)) → x ≡ e.Chain first links → more ≡ links ++ (link, y) ∷ [] →
    is_sited (e.Chain first more) ≡ both_sited (is_sited x) (is_sited y)
sited_behind_chain x first y link links more p q =
    sited_chain first more ∙ ap (λ (r : List (Link × Typed)). both_sited (is_sited first) (are_sited_links r)) q
    ∙ fun_ext (λ names. fun_ext (λ sites. push_passes (λ (l : Link × Typed). is_sited l.1 names sites) (is_sited first names sites) links (link, y)))
    ∙ ap (λ (f : SitedIn). both_sited f (is_sited y)) (sym (ap is_sited p ∙ sited_chain first links))

one_alone : (x y : SitedIn) → both_sited x (λ names sites. y names sites && true) ≡ both_sited x y
one_alone x y = fun_ext (λ names. fun_ext (λ sites. ap (λ (b : Bool). x names sites && b) (with_all (y names sites))))

pub sited_behind : (x y t : Typed) (link : Link) (start links : List (Link × Typed)) → start ≡ [] → links ≡ start ++ (link, y) ∷ [] →
    is_sited t ≡ both_sited (is_sited x) (are_sited_links links) → is_sited t ≡ both_sited (is_sited x) (is_sited y)
sited_behind x y t link start links p q is =
    is ∙ ap (λ (r : List (Link × Typed)). both_sited (is_sited x) (are_sited_links r)) (q ∙ ap (λ (r : List (Link × Typed)). r ++ (link, y) ∷ []) p)
    ∙ one_alone (is_sited x) (is_sited y)

-- ---- where the final width and sign are open

pub body_chain : (x : Body) (links : List (BinaryOperator × Body)) → is_sited_body (b.Chain x links) ≡ both_sited (is_sited_body x) (are_sited_bodies links)
body_chain x links =
    ap is_sited_body (sym (b.rolls-Chain x links)) ∙ fold-roll-Body SitedIn sited_body_step (p.Chain x links)
    ∙ fun_ext (λ names. fun_ext (λ sites. ap (λ (b : Bool). is_sited_body x names sites && b)
    (list_all-map (λ (l : BinaryOperator × SitedIn). l.1 names sites) (λ (l : BinaryOperator × Body). (l.0, is_sited_body l.1)) links)))

pub body_behind_chain : (x first y : Body) (op : BinaryOperator) (links more : List (BinaryOperator × Body)) → x ≡ b.Chain first links → more ≡ links ++ (op, y) ∷ [] →
    is_sited_body (b.Chain first more) ≡ both_sited (is_sited_body x) (is_sited_body y)
body_behind_chain x first y op links more p q =
    body_chain first more ∙ ap (λ (r : List (BinaryOperator × Body)). both_sited (is_sited_body first) (are_sited_bodies r)) q
    ∙ fun_ext (λ names. fun_ext (λ sites. push_passes (λ (l : BinaryOperator × Body). is_sited_body l.1 names sites) (is_sited_body first names sites) links (op, y)))
    ∙ ap (λ (f : SitedIn). both_sited f (is_sited_body y)) (sym (ap is_sited_body p ∙ body_chain first links))

pub body_behind : (x y first : Body) (op : BinaryOperator) (start links : List (BinaryOperator × Body)) → first ≡ x → start ≡ [] → links ≡ start ++ (op, y) ∷ [] →
    is_sited_body (b.Chain first links) ≡ both_sited (is_sited_body x) (is_sited_body y)
body_behind x y first op start links is p q =
    ap (λ (z : Body). is_sited_body (b.Chain z links)) is ∙ body_chain x links
    ∙ ap (λ (r : List (BinaryOperator × Body)). both_sited (is_sited_body x) (are_sited_bodies r)) (q ∙ ap (λ (r : List (BinaryOperator × Body)). r ++ (op, y) ∷ []) p)
    ∙ one_alone (is_sited_body x) (is_sited_body y)

-- ---- the operands of a chain are fixed from the last one on

-- those that are fixed, and those that are left
abbrev pub part_sited : List (BinaryOperator × Body) → List (Link × Typed) → SitedIn
part_sited left fixed = both_sited (are_sited_links fixed) (are_sited_bodies left)

pub one_sited : (old new : List (BinaryOperator × Body)) (last : BinaryOperator × Body) (l : Link) (x : Typed) (fixed more : List (Link × Typed)) (whole : SitedIn) →
    old ≡ new ++ last ∷ [] → more ≡ fixed ++ (l, x) ∷ [] → is_sited x ≡ is_sited_body last.1 → part_sited old fixed ≡ whole → part_sited new more ≡ whole
one_sited old new last l x fixed more whole p q is before =
    ap (part_sited new) q
    ∙ fun_ext (λ names. fun_ext (λ sites.
    let fixed_are = are_sited_links fixed names sites in
    let left_are = are_sited_bodies new names sites in
    ap (λ (c : Bool). c && left_are) (list_all-append (λ (y : Link × Typed). is_sited y.1 names sites) fixed ((l, x) ∷ []))
    ∙ ap (λ (f : SitedIn). (fixed_are && (f names sites && true)) && left_are) is
    ∙ last_moved fixed_are left_are (is_sited_body last.1 names sites)
    ∙ ap (λ (c : Bool). fixed_are && c) (sym (list_all-append (λ (y : BinaryOperator × Body). is_sited_body y.1 names sites) new (last ∷ [])))))
    ∙ ap (λ (r : List (BinaryOperator × Body)). part_sited r fixed) (sym p) ∙ before

pub all_sited : (left : List (BinaryOperator × Body)) (fixed all : List (Link × Typed)) (whole : SitedIn) →
    left ≡ [] → all ≡ reverse fixed → part_sited left fixed ≡ whole → are_sited_links all ≡ whole
all_sited left fixed all whole p q before =
    ap are_sited_links q
    ∙ fun_ext (λ names. fun_ext (λ sites. reverse_passes (λ (l : Link × Typed). is_sited l.1 names sites) fixed ∙ sym (with_all (are_sited_links fixed names sites))))
    ∙ ap (λ (r : List (BinaryOperator × Body)). part_sited r fixed) (sym p) ∙ before

pub chain_sited : (body x z : Body) (links : List (BinaryOperator × Body)) (y : Typed) (fixed : List (Link × Typed)) →
    body ≡ b.Chain x links → z ≡ x → is_sited y ≡ is_sited_body z → are_sited_links fixed ≡ are_sited_bodies links →
    is_sited_body body ≡ both_sited (is_sited y) (are_sited_links fixed)
chain_sited body x z links y fixed is same p q =
    ap is_sited_body is ∙ body_chain x links ∙ (λ i. both_sited (sym (p ∙ ap is_sited_body same) i) (sym q i))

pub unary_sited : (body x z : Body) (op : UnaryOperator) (y : Typed) → body ≡ b.Unary op x → z ≡ x → is_sited y ≡ is_sited_body z → is_sited_body body ≡ is_sited y
unary_sited body x z op y is same h =
    ap is_sited_body (is ∙ sym (b.rolls-Unary op x)) ∙ fold-roll-Body SitedIn sited_body_step (p.Unary op x) ∙ sym (h ∙ ap is_sited_body same)

pub choice_sited : (body x x' y y' : Body) (c a d : Typed) → body ≡ b.Choice c x y → x' ≡ x → y' ≡ y → is_sited a ≡ is_sited_body x' → is_sited d ≡ is_sited_body y' →
    is_sited_body body ≡ (λ names sites. is_sited c names sites && is_sited a names sites && is_sited d names sites)
choice_sited body x x' y y' c a d is same same' h k =
    ap is_sited_body (is ∙ sym (b.rolls-Choice c x y)) ∙ fold-roll-Body SitedIn sited_body_step (p.Choice c x y)
    ∙ (λ i names sites. is_sited c names sites && sym (h ∙ ap is_sited_body same) i names sites && sym (k ∙ ap is_sited_body same') i names sites)
