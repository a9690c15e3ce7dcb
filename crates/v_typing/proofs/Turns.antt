-- A turn of the loops over the operands of a chain and over the parts of a concatenation.
use Rattle.std.proofs.Common.{◌≡◌, ◌<◌, ◌≤◌, ◌+◌, ◌*◌, ap, sym, ◌∙◌, refl, ℕ, suc, length, get_or, drop, drop-cons, add-one, List, [], ◌∷◌, ◌++◌, Bool, true, false, arith}
use Rattle.std.specs.Prelude.{◌^◌, nat_le, if◌then◌else◌}
use Rattle.std.specs.List.{list_all}
use Rattle.std.proofs.Math.Path.{fun_ext}
use Rattle.std.proofs.lemmas.Bool.{leb-true}
use Rattle.std.proofs.lemmas.List.{drop_all}
use Rattle.v_syntax.specs.declared.expr.Expr.{Expr}
use Rattle.v_syntax.specs.declared.expr.BinaryOperator.{BinaryOperator}
use Rattle.v_meaning.specs.Views.{View}
use Rattle.v_meaning.specs.Senses.{Sense, own, leaf, beside, joined_behind, operated, chained}
use Rattle.v_meaning.specs.declared.names.Entry.{Entry}
use Rattle.v_meaning.specs.Expressions.{sense_of}
use Rattle.v_core.specs.declared.typed.Typed.{Typed}
use Rattle.v_core.specs.declared.open.Open.{Open}
use Rattle.v_core.specs.Bodies.{sense_in}
use Rattle.v_core.specs.Values.{Value, typed_value, concat_value, part_values}
use Rattle.v_typing.specs.Meanings.{meanings, link_meanings}
use Rattle.v_typing.proofs.SoundLaws.{first_of, second_of}

next_is : {X : Type 0} (xs : List X) (i : ℕ) (x : X) → i < length xs → x ≡ get_or xs i x → drop i xs ≡ x ∷ drop (i + 1) xs
next_is xs i x h is = rw (add-one i) (drop-cons xs i x h ∙ ap (λ y. y ∷ drop (suc i) xs) (sym is))

-- ---- a test of each element

pub this_passes : {X : Type 0} (test : X → Bool) (xs : List X) (i : ℕ) (x : X) → i < length xs → x ≡ get_or xs i x → list_all test (drop i xs) ≡ true → test x ≡ true
this_passes test xs i x h is all = first_of (test x) (list_all test (drop (i + 1) xs)) (sym (ap (list_all test) (next_is xs i x h is)) ∙ all)

pub others_pass : {X : Type 0} (test : X → Bool) (xs : List X) (i : ℕ) (x : X) → i < length xs → x ≡ get_or xs i x → list_all test (drop i xs) ≡ true →
    list_all test (drop (i + 1) xs) ≡ true
others_pass test xs i x h is all = second_of (test x) (list_all test (drop (i + 1) xs)) (sym (ap (list_all test) (next_is xs i x h is)) ∙ all)

-- ---- chains

pub chained_next : (names : List Entry) (sites : List ℕ) (s t y whole : Sense) (links : List (BinaryOperator × Expr)) (i : ℕ) (l : BinaryOperator × Expr) →
    i < length links → l ≡ get_or links i l → y ≡ sense_of names sites l.1 → t ≡ operated l.0 s y →
    chained s (link_meanings names sites (drop i links)) ≡ whole → chained t (link_meanings names sites (drop (i + 1) links)) ≡ whole
chained_next names sites s t y whole links i l h is p q before =
    ap (λ (z : Sense). chained z (link_meanings names sites (drop (i + 1) links))) (q ∙ ap (operated l.0 s) p)
    ∙ sym (ap (λ (r : List (BinaryOperator × Expr)). chained s (link_meanings names sites r)) (next_is links i l h is)) ∙ before

-- ---- concatenations

same_in_both : (b : Bool) (n : ℕ) → (if b then n else n) ≡ n
same_in_both true n = refl
same_in_both false n = refl

beside_leaf : (width : ℕ) (f : View → ℕ) (s : Sense) → beside (leaf width false f) s ≡ leaf (width + s.width) false (λ v. f v * 2 ^ s.width + own s v)
beside_leaf width f s =
    ap (λ (g : View → ℕ). leaf (width + s.width) false (λ v. g v * 2 ^ s.width + own s v)) (fun_ext (λ v. same_in_both (nat_le width width) (f v)))

concat_push : (n : ℕ) (parts : List (ℕ × Value)) (p : ℕ × Value) (names : List Entry) (v : View) →
    concat_value n (parts ++ p ∷ []) names v ≡ concat_value n parts names v * 2 ^ p.0 + p.1 names v
concat_push n [] p names v = refl
concat_push n (x ∷ xs) p names v = concat_push (n * 2 ^ x.0 + x.1 names v) xs p names v

parts_push : (parts : List (ℕ × Typed)) (p : ℕ × Typed) → part_values (parts ++ p ∷ []) ≡ part_values parts ++ (p.0, typed_value p.1) ∷ []
parts_push [] p = refl
parts_push (x ∷ xs) p = ap (λ (r : List (ℕ × Value)). (x.0, typed_value x.1) ∷ r) (parts_push xs p)

-- operands side by side, with their width
abbrev pub leaf_of : ℕ → List (ℕ × Typed) → List Entry → Sense
leaf_of width typed names = leaf width false (concat_value 0 (part_values typed) names)

one_beside : (names : List Entry) (width : ℕ) (typed more : List (ℕ × Typed)) (t : Typed) (s : Sense) → more ≡ typed ++ (s.width, t) ∷ [] → typed_value t names ≡ own s →
    leaf_of (width + s.width) more names ≡ beside (leaf_of width typed names) s
one_beside names width typed more t s p q =
    ap (λ (r : List (ℕ × Value)). leaf (width + s.width) false (concat_value 0 r names)) (ap part_values p ∙ parts_push typed (s.width, t))
    ∙ ap (λ (f : View → ℕ). leaf (width + s.width) false f) (fun_ext (λ v. concat_push 0 (part_values typed) (s.width, typed_value t) names v))
    ∙ ap (λ (f : View → ℕ). leaf (width + s.width) false (λ v. concat_value 0 (part_values typed) names v * 2 ^ s.width + f v)) q
    ∙ sym (beside_leaf width (concat_value 0 (part_values typed) names) s)

pub joined_next : (names : List Entry) (sites : List ℕ) (parts : List Expr) (i : ℕ) (x : Expr) (width : ℕ) (typed more : List (ℕ × Typed)) (t : Typed) (s whole : Sense) →
    i < length parts → x ≡ get_or parts i x → s ≡ sense_of names sites x → more ≡ typed ++ (s.width, t) ∷ [] → typed_value t names ≡ own s →
    joined_behind (leaf_of width typed names) (meanings names sites (drop i parts)) ≡ whole →
    joined_behind (leaf_of (width + s.width) more names) (meanings names sites (drop (i + 1) parts)) ≡ whole
joined_next names sites parts i x width typed more t s whole h is p q r before =
    ap (λ (z : Sense). joined_behind z (meanings names sites (drop (i + 1) parts))) (one_beside names width typed more t s q r ∙ ap (beside (leaf_of width typed names)) p)
    ∙ sym (ap (λ (xs : List Expr). joined_behind (leaf_of width typed names) (meanings names sites xs)) (next_is parts i x h is)) ∙ before

width_grows : (s : Sense) (ss : List Sense) → s.width ≤ (joined_behind s ss).width
width_grows s [] = omega arith
width_grows s (y ∷ ys) = let h : s.width + y.width ≤ (joined_behind (beside s y) ys).width = width_grows (beside s y) ys in omega (arith, h)

pub room : (names : List Entry) (sites : List ℕ) (parts : List Expr) (i : ℕ) (x : Expr) (width : ℕ) (typed : List (ℕ × Typed)) (s whole : Sense) →
    i < length parts → x ≡ get_or parts i x → s ≡ sense_of names sites x →
    joined_behind (leaf_of width typed names) (meanings names sites (drop i parts)) ≡ whole → nat_le whole.width 128 ≡ true → width + s.width ≤ 128
room names sites parts i x width typed s whole h is p before fit =
    let one : joined_behind (beside (leaf_of width typed names) (sense_of names sites x)) (meanings names sites (drop (i + 1) parts)) ≡ whole =
    sym (ap (λ (xs : List Expr). joined_behind (leaf_of width typed names) (meanings names sites xs)) (next_is parts i x h is)) ∙ before in
    let grows : width + (sense_of names sites x).width ≤ (joined_behind (beside (leaf_of width typed names) (sense_of names sites x)) (meanings names sites (drop (i + 1) parts))).width =
    width_grows (beside (leaf_of width typed names) (sense_of names sites x)) (meanings names sites (drop (i + 1) parts)) in
    let same : (joined_behind (beside (leaf_of width typed names) (sense_of names sites x)) (meanings names sites (drop (i + 1) parts))).width ≡ whole.width = ap (λ (z : Sense). z.width) one in
    let own_width : s.width ≡ (sense_of names sites x).width = ap (λ (z : Sense). z.width) p in
    let small : whole.width ≤ 128 = leb-true whole.width 128 fit in
    omega (arith, grows, same, own_width, small)

pub joined_done : (names : List Entry) (sites : List ℕ) (parts : List Expr) (i width : ℕ) (typed : List (ℕ × Typed)) (o : Open) (t : Typed) (whole : Sense) →
    length parts ≤ i → sense_in o ≡ (λ names. leaf width false (typed_value t names)) → typed_value t ≡ concat_value 0 (part_values typed) →
    joined_behind (leaf_of width typed names) (meanings names sites (drop i parts)) ≡ whole → sense_in o names ≡ whole
joined_done names sites parts i width typed o t whole h is p before =
    ap (λ (f : List Entry → Sense). f names) is ∙ ap (λ (f : Value). leaf width false (f names)) p
    ∙ sym (ap (λ (xs : List Expr). joined_behind (leaf_of width typed names) (meanings names sites xs)) (drop_all i parts h)) ∙ before
