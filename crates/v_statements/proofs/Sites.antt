-- What looks at nothing: there the sites don't matter, so that bounds, and the widths of targets, are the same without sites.
use Rattle.std.proofs.Common.{◌≡◌, ap, sym, subst, ◌∙◌, refl, ℕ, ◌+◌, List, [], ◌∷◌, map, Bool, true, false, Option}
use Rattle.v_syntax.specs.declared.expr.Expr.{Expr}
use Rattle.v_syntax.specs.declared.expr.Expr.TheOpen.{Expr-F}
use Rattle.v_syntax.specs.declared.expr.Expr.TheOpen as o
use Rattle.v_syntax.specs.declared.expr.Expr.TheFolds.{map-Expr, fold-roll-Expr, ind-Expr}
use Rattle.v_syntax.specs.declared.expr.UnaryOperator.{UnaryOperator}
use Rattle.v_syntax.specs.declared.expr.BinaryOperator.{BinaryOperator}
use Rattle.v_syntax.specs.declared.stmt.Target.{Target}
use Rattle.v_syntax.specs.declared.stmt.Target.TheOpen.{Target-F}
use Rattle.v_syntax.specs.declared.stmt.Target.TheOpen as t
use Rattle.v_syntax.specs.declared.stmt.Target.TheFolds as f
use Rattle.v_meaning.specs.Views.{View, no_view}
use Rattle.v_meaning.specs.Senses.{Sense, Class, Shared, Compared, Shifted, Logical, class_of, by_class, operated, chained, is_through, through, prefixed, chosen, beside, joined_behind, leaf, replicated, constant, index_of, recast}
use Rattle.v_meaning.specs.declared.names.Kind.{Kind}
use Rattle.v_meaning.specs.declared.names.Kind.TheVariants.{Parameter, Clock, Input, Net, Combinational, Variable, Memory}
use Rattle.v_meaning.specs.declared.names.Entry.{Entry}
use Rattle.v_meaning.specs.Names.{entry_of, read_part, read_selected, or_zero, span}
use Rattle.v_meaning.specs.Expressions.{open_at, sense_step, sense_of}
use Rattle.v_meaning.specs.Targets.{TargetSense, selected_target, parts_width, target_step, target_of}
use Rattle.v_meaning.specs.Marks.{targets_width}
use Rattle.v_constants.specs.Constants.{still}

abbrev pub IsStill : List Entry → List ℕ → Expr → Type 0
IsStill names sites x = still (sense_of names sites x) ≡ still (sense_of names [] x)

-- an expression beside that it is the same
abbrev Known : List Entry → List ℕ → Type 0
Known names sites = (x : Expr) × IsStill names sites x

still_selected : (kind : Kind) (e : Entry) (s t : Sense) (f g : View → ℕ) → still s ≡ still t → f no_view ≡ g no_view →
    still (read_selected kind e s f) ≡ still (read_selected kind e t g)
still_selected (Parameter value) e s t f g p q = λ i. still (read_selected (Parameter value) e (p i) (λ v. q i))
still_selected Clock e s t f g p q = λ i. still (read_selected Clock e (p i) (λ v. q i))
still_selected (Input k) e s t f g p q = λ i. still (read_selected (Input k) e (p i) (λ v. q i))
still_selected (Net k) e s t f g p q = λ i. still (read_selected (Net k) e (p i) (λ v. q i))
still_selected (Combinational k) e s t f g p q = λ i. still (read_selected (Combinational k) e (p i) (λ v. q i))
still_selected (Variable k) e s t f g p q = λ i. still (read_selected (Variable k) e (p i) (λ v. q i))
still_selected (Memory k low count) e s t f g p q = λ i. still (read_selected (Memory k low count) e (p i) (λ v. q i))

still_through : (b : Bool) (op : UnaryOperator) (x : Sense) → still (through b op x) ≡ through b op (still x)
still_through true op x = refl
still_through false op x = refl

still_by_class : (c : Class) (op : BinaryOperator) (x y : Sense) → still (by_class c op x y) ≡ by_class c op (still x) (still y)
still_by_class Shared op x y = refl
still_by_class Compared op x y = refl
still_by_class Shifted op x y = refl
still_by_class Logical op x y = refl

still_operated : (op : BinaryOperator) (s t x y : Sense) → still s ≡ still t → still x ≡ still y → still (operated op s x) ≡ still (operated op t y)
still_operated op s t x y p q = still_by_class (class_of op) op s x ∙ (λ i. operated op (p i) (q i)) ∙ sym (still_by_class (class_of op) op t y)

abbrev plain : (names : List Entry) (sites : List ℕ) → Known names sites → Expr
plain names sites x = x.0

abbrev links_of : List Entry → List ℕ → (names : List Entry) (sites : List ℕ) → List (BinaryOperator × Known names sites) → List (BinaryOperator × Sense)
links_of over at names sites links =
    map (λ (l : BinaryOperator × Expr). (l.0, sense_of over at l.1)) (map (λ (l : BinaryOperator × Known names sites). (l.0, l.1.0)) links)

still_chained : (names : List Entry) (sites : List ℕ) (s t : Sense) → still s ≡ still t → (links : List (BinaryOperator × Known names sites)) →
    still (chained s (links_of names sites names sites links)) ≡ still (chained t (links_of names [] names sites links))
still_chained names sites s t p [] = p
still_chained names sites s t p (l ∷ ls) =
    still_chained names sites (operated l.0 s (sense_of names sites l.1.0)) (operated l.0 t (sense_of names [] l.1.0))
    (still_operated l.0 s t (sense_of names sites l.1.0) (sense_of names [] l.1.0) p l.1.1) ls

still_joined : (names : List Entry) (sites : List ℕ) (s t : Sense) → still s ≡ still t → (parts : List (Known names sites)) →
    still (joined_behind s (map (sense_of names sites) (map (plain names sites) parts)))
    ≡ still (joined_behind t (map (sense_of names []) (map (plain names sites) parts)))
still_joined names sites s t p [] = p
still_joined names sites s t p (x ∷ xs) =
    still_joined names sites (beside s (sense_of names sites x.0)) (beside t (sense_of names [] x.0)) (λ i. beside (p i) (x.1 i)) xs

-- one level, of what is the same below
abbrev IsLayer : List Entry → List ℕ → Expr-F Expr → Type 0
IsLayer names sites y =
    still (sense_step names sites (map-Expr Expr Sense (sense_of names sites) y)) ≡ still (sense_step names [] (map-Expr Expr Sense (sense_of names []) y))

layer : (names : List Entry) (sites : List ℕ) (y : Expr-F (Known names sites)) → IsLayer names sites (map-Expr (Known names sites) Expr (plain names sites) y)
layer names sites (o.Number n) = refl
layer names sites (o.Name n) = refl
layer names sites (o.Select n bracket index) =
    still_selected (entry_of names n.name).kind (entry_of names n.name) (sense_of names sites index.0) (sense_of names [] index.0) (open_at sites n.at) (open_at [] n.at) index.1 refl
layer names sites (o.Part n bracket msb_at msb lsb_at lsb) = λ i. still (read_part (entry_of names n.name) (or_zero (constant (msb.1 i))) (or_zero (constant (lsb.1 i))))
layer names sites (o.Unary op x) =
    still_through (is_through op) op (sense_of names sites x.0) ∙ ap (prefixed op) x.1 ∙ sym (still_through (is_through op) op (sense_of names [] x.0))
layer names sites (o.Chain x links) = still_chained names sites (sense_of names sites x.0) (sense_of names [] x.0) x.1 links
layer names sites (o.Conditional c x y) = λ i. chosen (c.1 i) (x.1 i) (y.1 i)
layer names sites (o.Concat brace parts) = still_joined names sites (leaf 0 false (λ v. 0)) (leaf 0 false (λ v. 0)) refl parts
layer names sites (o.Replicate brace at count inner parts) =
    λ i. replicated (or_zero (constant (count.1 i))) (still_joined names sites (leaf 0 false (λ v. 0)) (leaf 0 false (λ v. 0)) refl parts i)
layer names sites (o.Cast sign x) = λ i. recast sign (x.1 i)

is_still : (names : List Entry) (sites : List ℕ) (x : Expr) → IsStill names sites x
is_still names sites = ind-Expr (IsStill names sites) (λ x y is.
    ap still (fold-roll-Expr Sense (sense_step names sites) x) ∙ subst (IsLayer names sites) is (layer names sites y)
    ∙ sym (ap still (fold-roll-Expr Sense (sense_step names []) x)))

-- the number that a bound stands for
pub bound_still : (names : List Entry) (sites : List ℕ) (x : Expr) → constant (sense_of names sites x) ≡ constant (sense_of names [] x)
bound_still names sites x = ap constant (is_still names sites x)

-- ---- the widths of targets

abbrev HasWidth : List Entry → List ℕ → Target → Type 0
HasWidth names sites x = (target_of names sites x).width ≡ (target_of names [] x).width

abbrev KnownTarget : List Entry → List ℕ → Type 0
KnownTarget names sites = (x : Target) × HasWidth names sites x

abbrev plain_target : (names : List Entry) (sites : List ℕ) → KnownTarget names sites → Target
plain_target names sites x = x.0

selected_width : (kind : Kind) (e : Entry) (f g : View → Option ℕ) → (selected_target kind e f).width ≡ (selected_target kind e g).width
selected_width (Parameter value) e f g = refl
selected_width Clock e f g = refl
selected_width (Input k) e f g = refl
selected_width (Net k) e f g = refl
selected_width (Combinational k) e f g = refl
selected_width (Variable k) e f g = refl
selected_width (Memory k low count) e f g = refl

parts_same : (names : List Entry) (sites : List ℕ) (parts : List (KnownTarget names sites)) →
    parts_width (map (target_of names sites) (map (plain_target names sites) parts)) ≡ parts_width (map (target_of names []) (map (plain_target names sites) parts))
parts_same names sites [] = refl
parts_same names sites (x ∷ xs) = λ i. x.1 i + parts_same names sites xs i

abbrev IsTargetLayer : List Entry → List ℕ → Target-F Target → Type 0
IsTargetLayer names sites y =
    (target_step names sites (f.map-Target Target TargetSense (target_of names sites) y)).width
    ≡ (target_step names [] (f.map-Target Target TargetSense (target_of names []) y)).width

target_layer : (names : List Entry) (sites : List ℕ) (y : Target-F (KnownTarget names sites)) →
    IsTargetLayer names sites (f.map-Target (KnownTarget names sites) Target (plain_target names sites) y)
target_layer names sites (t.Name n) = refl
target_layer names sites (t.Select n bracket index) =
    selected_width (entry_of names n.name).kind (entry_of names n.name) (index_of (sense_of names sites index)) (index_of (sense_of names [] index))
target_layer names sites (t.Part n r) =
    λ i. span (or_zero (bound_still names sites r.msb.expr i)) (or_zero (bound_still names sites r.lsb.expr i))
target_layer names sites (t.Concat brace parts) = parts_same names sites parts

width_still : (names : List Entry) (sites : List ℕ) (x : Target) → HasWidth names sites x
width_still names sites = f.ind-Target (HasWidth names sites) (λ x y is.
    ap (λ (s : TargetSense). s.width) (f.fold-roll-Target TargetSense (target_step names sites) x) ∙ subst (IsTargetLayer names sites) is (target_layer names sites y)
    ∙ sym (ap (λ (s : TargetSense). s.width) (f.fold-roll-Target TargetSense (target_step names []) x)))

pub widths_still : (names : List Entry) (sites : List ℕ) (parts : List Target) → parts_width (map (target_of names sites) parts) ≡ targets_width names parts
widths_still names sites [] = refl
widths_still names sites (x ∷ xs) = λ i. width_still names sites x i + widths_still names sites xs i
