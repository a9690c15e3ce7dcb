-- The names that targets, statements and items write, and the sets that meet them.
use Rattle.std.proofs.Common.{◌≡◌, ◌<◌, ◌≤◌, ◌+◌, ℕ, List, [], ◌∷◌, ◌++◌, map, flat_map, length, drop, get_or, Bor, Result, Ok, Err, OnOk, refl, sym, ap, ◌∙◌, append_assoc, subst}
use Rattle.std.specs.BTreeSet.{BTreeSet}
use Rattle.std.proofs.lemmas.List.{map-append, append-nil, drop_all}
use Rattle.std.proofs.lemmas.List.Concat.{flat_map-cons, flat_map-append}
use Rattle.std.proofs.lemmas.List.Folds.{flat_map-map}
use Rattle.lz_base.specs.Met.{Met}
use Rattle.v_syntax.specs.declared.token.Ident.{Ident}
use Rattle.v_syntax.specs.declared.expr.Expr.{Expr}
use Rattle.v_syntax.specs.declared.expr.Range.{Range}
use Rattle.v_syntax.specs.declared.stmt.Target.{Target}
use Rattle.v_syntax.specs.declared.stmt.Target.TheVariants as t
use Rattle.v_syntax.specs.declared.stmt.Target.TheOpen as q
use Rattle.v_syntax.specs.declared.stmt.Target.TheFolds.{fold-roll-Target}
use Rattle.v_syntax.specs.declared.stmt.CaseKind.{CaseKind}
use Rattle.v_syntax.specs.declared.stmt.AssignKind.{AssignKind}
use Rattle.v_syntax.specs.declared.stmt.Arm.{Arm}
use Rattle.v_syntax.specs.declared.stmt.Stmt.{Stmt}
use Rattle.v_syntax.specs.declared.stmt.Stmt.TheVariants as s
use Rattle.v_syntax.specs.declared.stmt.Stmt.TheOpen as o
use Rattle.v_syntax.specs.declared.stmt.Stmt.TheFolds.{fold-Arm, fold-roll-Stmt, fold-roll-Arm}
use Rattle.v_syntax.specs.declared.module.Event.TheVariants as w
use Rattle.v_syntax.specs.declared.module.Item.{Item}
use Rattle.v_syntax.specs.declared.module.Item.TheVariants as i
use Rattle.v_meaning.specs.Declarations.{Assigned, joined_lists, assigned_step, assigned_in, idents_step, idents_of, target_names, combinational_names}
use Rattle.v_declare.specs.Roles.{Meets}
use Rattle.v_declare.specs.Targets.{written_names}
use Rattle.v_declare.proofs.Walking.{next_is}

-- ---- sets that meet names

pub met_none : (met : BTreeSet (Bor (List ℕ))) (names : List (List ℕ)) → names ≡ [] → Meets met met names
met_none met names is = record { met = λ before m. subst (λ (l : List (List ℕ)). Met met l) (sym (ap (λ (l : List (List ℕ)). before ++ l) is ∙ append-nil before)) m }

pub met_one : (old new : BTreeSet (Bor (List ℕ))) (name key : List ℕ) (told : List (List ℕ) → Type 0) → key ≡ name →
    ((before : List (List ℕ)) → Met old before → told before × Met new (before ++ key ∷ [])) → Meets old new (name ∷ [])
met_one old new name key told is h = record { met = λ before m. subst (λ (n : List ℕ). Met new (before ++ n ∷ [])) is (h before m).1 }

pub met_same : (old new : BTreeSet (Bor (List ℕ))) (names others : List (List ℕ)) → others ≡ names → Meets old new names → Meets old new others
met_same old new names others is m = record { met = λ before h. subst (λ (l : List (List ℕ)). Met new (before ++ l)) (sym is) (m.met before h) }

pub met_then : (a b c : BTreeSet (Bor (List ℕ))) (xs ys zs : List (List ℕ)) → zs ≡ xs ++ ys → Meets a b xs → Meets b c ys → Meets a c zs
met_then a b c xs ys zs is m n = record {
  met = λ before h. subst (λ (l : List (List ℕ)). Met c l) (append_assoc before xs ys ∙ ap (λ (l : List (List ℕ)). before ++ l) (sym is)) (n.met (before ++ xs) (m.met before h));
}

on_ok : {T E : Type 0} {P Q : Type 0} (answer : Result T E) → (P → Q) → OnOk answer P → OnOk answer Q
on_ok (Ok x) f p = f p
on_ok (Err e) f p = tt

pub same_end : {T E : Type 0} (answer : Result T E) (old new : BTreeSet (Bor (List ℕ))) (names others : List (List ℕ)) → others ≡ names → OnOk answer (Meets old new names) → OnOk answer (Meets old new others)
same_end answer old new names others is m = on_ok answer (met_same old new names others is) m

pub then_end : {T E : Type 0} (answer : Result T E) (a b c : BTreeSet (Bor (List ℕ))) (xs ys zs : List (List ℕ)) → zs ≡ xs ++ ys → Meets a b xs → OnOk answer (Meets b c ys) → OnOk answer (Meets a c zs)
then_end answer a b c xs ys zs is m n = on_ok answer (met_then a b c xs ys zs is m) n

-- What is met and what the elements from this one on write is what all write.
pub record Each {A : Type 0} (names : A → List (List ℕ)) (xs : List A) (i : ℕ) (begun now : BTreeSet (Bor (List ℕ))) : Type 0 where
  pub done : List (List ℕ)
  pub met : Meets begun now done
  pub same : done ++ flat_map names (drop i xs) ≡ flat_map names xs

pub each_begins : {A : Type 0} (names : A → List (List ℕ)) (xs : List A) (begun : BTreeSet (Bor (List ℕ))) → Each names xs 0 begun begun
each_begins names xs begun = record { done = []; met = met_none begun [] refl; same = refl }

pub each_next : {A : Type 0} (names : A → List (List ℕ)) (xs : List A) (i : ℕ) (x : A) (begun now after : BTreeSet (Bor (List ℕ))) → i < length xs → x ≡ get_or xs i x →
    Meets now after (names x) → Each names xs i begun now → Each names xs (i + 1) begun after
each_next {A = A} names xs i x begun now after h is m l = record {
  done = l.done ++ names x;
  met = met_then begun now after l.done (names x) (l.done ++ names x) refl l.met m;
  same = append_assoc l.done (names x) (flat_map names (drop (i + 1) xs))
      ∙ ap (λ (r : List (List ℕ)). l.done ++ r) (sym (ap (λ (ys : List A). flat_map names ys) (next_is xs i x h is) ∙ flat_map-cons names x (drop (i + 1) xs)))
      ∙ l.same;
}

pub each_ends : {A : Type 0} (names : A → List (List ℕ)) (xs : List A) (i : ℕ) (begun now : BTreeSet (Bor (List ℕ))) → length xs ≤ i → Each names xs i begun now → Meets begun now (flat_map names xs)
each_ends {A = A} names xs i begun now h l =
    met_same begun now l.done (flat_map names xs)
    (sym l.same ∙ ap (λ (ys : List A). l.done ++ flat_map names ys) (drop_all i xs h) ∙ append-nil l.done) l.met

-- ---- targets

pub when_whole : (x : Target) (n : Ident) → x ≡ t.Name n → written_names x ≡ n.name ∷ []
when_whole x n is = ap written_names (is ∙ sym (t.rolls-Name n)) ∙ ap (map (λ (n : Ident). n.name)) (fold-roll-Target (List Ident) idents_step (q.Name n))

pub when_selected : (x : Target) (n : Ident) (bracket : ℕ) (index : Expr) → x ≡ t.Select n bracket index → written_names x ≡ n.name ∷ []
when_selected x n bracket index is =
    ap written_names (is ∙ sym (t.rolls-Select n bracket index)) ∙ ap (map (λ (n : Ident). n.name)) (fold-roll-Target (List Ident) idents_step (q.Select n bracket index))

pub when_bounded : (x : Target) (n : Ident) (r : Range) → x ≡ t.Part n r → written_names x ≡ n.name ∷ []
when_bounded x n r is = ap written_names (is ∙ sym (t.rolls-Part n r)) ∙ ap (map (λ (n : Ident). n.name)) (fold-roll-Target (List Ident) idents_step (q.Part n r))

map_flat : {A B C : Type 0} (g : B → C) (f : A → List B) (xs : List A) → map g (flat_map f xs) ≡ flat_map (λ (x : A). map g (f x)) xs
map_flat g f [] = refl
map_flat {A = A} {C = C} g f (x ∷ xs) =
    ap (map g) (flat_map-cons f x xs) ∙ map-append g (f x) (flat_map f xs)
    ∙ ap (λ (l : List C). map g (f x) ++ l) (map_flat g f xs)
    ∙ sym (flat_map-cons (λ (x : A). map g (f x)) x xs)

pub when_joined : (x : Target) (brace : ℕ) (parts more : List Target) → x ≡ t.Concat brace parts → more ≡ parts → written_names x ≡ flat_map written_names more
when_joined x brace parts more is p =
    ap written_names (is ∙ sym (t.rolls-Concat brace parts))
    ∙ ap (map (λ (n : Ident). n.name)) (fold-roll-Target (List Ident) idents_step (q.Concat brace parts) ∙ flat_map-map (λ (l : List Ident). l) idents_of parts)
    ∙ map_flat (λ (n : Ident). n.name) idents_of parts
    ∙ ap (λ (l : List Target). flat_map written_names l) (sym p)

-- ---- statements

abbrev names_in : List Assigned → List (List ℕ)
names_in all = map (λ (n : Ident). n.name) (flat_map (λ (a : Assigned). idents_of a.target) all)

names_append : (xs ys : List Assigned) → names_in (xs ++ ys) ≡ names_in xs ++ names_in ys
names_append xs ys =
    ap (map (λ (n : Ident). n.name)) (flat_map-append (λ (a : Assigned). idents_of a.target) xs ys)
    ∙ map-append (λ (n : Ident). n.name) (flat_map (λ (a : Assigned). idents_of a.target) xs) (flat_map (λ (a : Assigned). idents_of a.target) ys)

names_flat : {A : Type 0} (f : A → List Assigned) (xs : List A) → names_in (joined_lists (map f xs)) ≡ flat_map (λ (x : A). names_in (f x)) xs
names_flat f [] = refl
names_flat {A = A} f (x ∷ xs) =
    ap names_in (flat_map-cons (λ (l : List Assigned). l) (f x) (map f xs)) ∙ names_append (f x) (joined_lists (map f xs))
    ∙ ap (λ (l : List (List ℕ)). names_in (f x) ++ l) (names_flat f xs)
    ∙ sym (flat_map-cons (λ (x : A). names_in (f x)) x xs)

pub when_null : (x : Stmt) → x ≡ s.Null → target_names x ≡ []
when_null x is = ap target_names (is ∙ sym s.rolls-Null) ∙ ap names_in (fold-roll-Stmt (List Assigned) (List Assigned) assigned_step (λ arm. arm.body) o.Null)

pub when_block : (x : Stmt) (body more : List Stmt) → x ≡ s.Block body → more ≡ body → target_names x ≡ flat_map target_names more
when_block x body more is p =
    ap target_names (is ∙ sym (s.rolls-Block body)) ∙ ap names_in (fold-roll-Stmt (List Assigned) (List Assigned) assigned_step (λ arm. arm.body) (o.Block body))
    ∙ names_flat assigned_in body ∙ ap (λ (l : List Stmt). flat_map target_names l) (sym p)

pub when_if : (x a b : Stmt) (c : Expr) → x ≡ s.If c a → b ≡ a → target_names x ≡ target_names b
when_if x a b c is p =
    ap target_names (is ∙ sym (s.rolls-If c a)) ∙ ap names_in (fold-roll-Stmt (List Assigned) (List Assigned) assigned_step (λ arm. arm.body) (o.If c a)) ∙ ap target_names (sym p)

pub when_if_else : (x a b a' b' : Stmt) (c : Expr) → x ≡ s.IfElse c a b → a' ≡ a → b' ≡ b → target_names x ≡ target_names a' ++ target_names b'
when_if_else x a b a' b' c is p r =
    rw (p, r) (ap target_names (is ∙ sym (s.rolls-IfElse c a b)) ∙ ap names_in (fold-roll-Stmt (List Assigned) (List Assigned) assigned_step (λ arm. arm.body) (o.IfElse c a b))
    ∙ names_append (assigned_in a) (assigned_in b))

abbrev in_arm : Arm → List Assigned
in_arm = fold-Arm (List Assigned) (List Assigned) assigned_step (λ arm. arm.body)

arms_are : (arms : List Arm) → flat_map (λ (a : Arm). names_in (in_arm a)) arms ≡ flat_map (λ (a : Arm). target_names a.body) arms
arms_are [] = refl
arms_are (a ∷ arms) =
    flat_map-cons (λ (a : Arm). names_in (in_arm a)) a arms
    ∙ ap (λ (l : List Assigned). names_in l ++ flat_map (λ (a : Arm). names_in (in_arm a)) arms)
    (fold-roll-Arm (List Assigned) (List Assigned) assigned_step (λ arm. arm.body) (record { label = a.label; body = a.body }))
    ∙ ap (λ (l : List (List ℕ)). target_names a.body ++ l) (arms_are arms)
    ∙ sym (flat_map-cons (λ (a : Arm). target_names a.body) a arms)

pub when_case : (x : Stmt) (kind : CaseKind) (subject : Expr) (arms more : List Arm) → x ≡ s.Case kind subject arms → more ≡ arms →
    target_names x ≡ flat_map (λ (a : Arm). target_names a.body) more
when_case x kind subject arms more is p =
    ap target_names (is ∙ sym (s.rolls-Case kind subject arms)) ∙ ap names_in (fold-roll-Stmt (List Assigned) (List Assigned) assigned_step (λ arm. arm.body) (o.Case kind subject arms))
    ∙ names_flat in_arm arms ∙ arms_are arms ∙ ap (λ (l : List Arm). flat_map (λ (a : Arm). target_names a.body) l) (sym p)

pub when_assign : (x : Stmt) (target other : Target) (kind : AssignKind) (value : Expr) → x ≡ s.Assign target kind value → other ≡ target → target_names x ≡ written_names other
when_assign x target other kind value is p =
    ap target_names (is ∙ sym (s.rolls-Assign target kind value)) ∙ ap names_in (fold-roll-Stmt (List Assigned) (List Assigned) assigned_step (λ arm. arm.body) (o.Assign target kind value))
    ∙ ap (map (λ (n : Ident). n.name)) (flat_map-cons (λ (a : Assigned). idents_of a.target) (record { target = target; kind = kind }) [] ∙ append-nil (idents_of target))
    ∙ ap written_names (sym p)

-- ---- items

pub one_of_items : (x : Item) (items : List Item) → combinational_names (x ∷ items) ≡ combinational_names (x ∷ []) ++ combinational_names items
one_of_items (i.Parameters group) items = refl
one_of_items (i.LocalParameters group) items = refl
one_of_items (i.Wires signed range nets) items = refl
one_of_items (i.Regs signed range variables) items = refl
one_of_items (i.Assigns settings) items = refl
one_of_items (i.Always (w.Posedge event) body) items = refl
one_of_items (i.Always w.Any body) items = ap (λ (l : List (List ℕ)). l ++ combinational_names items) (sym (append-nil (target_names body)))

pub items_flat : (items : List Item) → flat_map (λ (x : Item). combinational_names (x ∷ [])) items ≡ combinational_names items
items_flat [] = refl
items_flat (x ∷ items) =
    flat_map-cons (λ (x : Item). combinational_names (x ∷ [])) x items
    ∙ ap (λ (l : List (List ℕ)). combinational_names (x ∷ []) ++ l) (items_flat items) ∙ sym (one_of_items x items)
