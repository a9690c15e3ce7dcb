-- The first broken rule, from the least places of each.
use Rattle.std.proofs.Common.{◌≡◌, ℕ, List, [], ◌∷◌, ◌++◌, Option, None, Some, flat_map, refl, sym, ap, ◌∙◌}
use Rattle.std.specs.Prelude.{min}
use Rattle.std.proofs.lemmas.List.{append-nil}
use Rattle.lz_base.specs.declared.rule.Rule.{Rule}
use Rattle.lz_base.specs.declared.rule.Rule.TheVariants as r
use Rattle.lz_base.specs.declared.fault.Fault.{Fault}
use Rattle.v_syntax.specs.declared.module.Module.{Module}
use Rattle.v_meaning.specs.declared.names.Entry.{Entry}
use Rattle.v_meaning.specs.Declarations.{names_of}
use Rattle.v_meaning.specs.Marks.{Mark, module_marks}
use Rattle.v_meaning.specs.MarkRules.{declared_twice, used_early, declared_in, valued_in, wrong_number}
use Rattle.v_meaning.specs.Broken.{least_of, fault_or, first_fault, places_of}
use Rattle.v_scope.specs.declared.occurrence.Occurrence.{Occurrence}
use Rattle.v_scope.specs.Occurrences.{marks_in}
use Rattle.v_scope.specs.Firsts.{least_from}
use Rattle.v_scope.specs.Scope.{scope_rules}

least_is : (at : ℕ) (places : List ℕ) → least_from (Some at) places ≡ Some (least_of at places)
least_is at [] = refl
least_is at (other ∷ places) = least_is (min at other) places

-- a fault for what the least place is
abbrev pub at_least : Rule → Option ℕ → Option Fault → Option Fault
at_least rule None more = more
at_least rule (Some at) more = Some (record { rule = rule; at = at })

-- of places, and none more
fault_is : (rule : Rule) (first : Option ℕ) (places : List ℕ) (more : Option Fault) → first ≡ least_from None places → fault_or rule (places ++ []) more ≡ at_least rule first more
fault_is rule first [] more is = ap (λ (f : Option ℕ). at_least rule f more) (sym is)
fault_is rule first (at ∷ places) more is =
    ap (λ (l : List ℕ). fault_or rule (at ∷ l) more) (append-nil places)
    ∙ ap (λ (f : Option ℕ). at_least rule f more) (sym (least_is at places))
    ∙ ap (λ (f : Option ℕ). at_least rule f more) (sym is)

abbrev twice_in : Module → List ℕ
twice_in m = declared_twice [] (module_marks (names_of m) m)

abbrev early_in : Module → List ℕ
early_in m = used_early (declared_in (module_marks (names_of m) m)) (valued_in (module_marks (names_of m) m)) [] (module_marks (names_of m) m)

abbrev wrong_in : Module → List ℕ
wrong_in m = flat_map wrong_number (module_marks (names_of m) m)

in_order : (m : Module) (f g h : Option ℕ) → f ≡ least_from None (twice_in m) → g ≡ least_from None (early_in m) → h ≡ least_from None (wrong_in m) →
    first_fault (places_of m) scope_rules ≡ at_least r.E4 f (at_least r.E5 g (at_least r.E6 h None))
in_order m f g h p q s =
    fault_is r.E4 f (twice_in m) (fault_or r.E5 (early_in m ++ []) (fault_or r.E6 (wrong_in m ++ []) None)) p
    ∙ ap (at_least r.E4 f) (fault_is r.E5 g (early_in m) (fault_or r.E6 (wrong_in m ++ []) None) q ∙ ap (at_least r.E5 g) (fault_is r.E6 h (wrong_in m) None s))

-- what holds of the marks of occurrences whatever the names are holds of the module's marks
pub of_module : (m : Module) (all : List Occurrence) (first : Option ℕ) (places : List Mark → List ℕ) → ((names : List Entry) → marks_in names all ≡ module_marks names m) →
    ((names : List Entry) → first ≡ least_from None (places (marks_in names all))) → first ≡ least_from None (places (module_marks (names_of m) m))
of_module m all first places marks h = h (names_of m) ∙ ap (λ (ms : List Mark). least_from None (places ms)) (marks (names_of m))

-- the same occurrences, as a slice
pub sliced : (m : Module) (xs ys : List Occurrence) → xs ≡ ys → ((names : List Entry) → marks_in names ys ≡ module_marks names m) → (names : List Entry) → marks_in names xs ≡ module_marks names m
sliced m xs ys is marks names = ap (marks_in names) is ∙ marks names

pub twice_first : (m : Module) (all : List Occurrence) (f : Option ℕ) (at : ℕ) → ((names : List Entry) → marks_in names all ≡ module_marks names m) →
    ((names : List Entry) → f ≡ least_from None (declared_twice [] (marks_in names all))) → f ≡ Some at → first_fault (places_of m) scope_rules ≡ Some (record { rule = r.E4; at = at })
twice_first m all f at marks t is =
    in_order m f (least_from None (early_in m)) (least_from None (wrong_in m)) (of_module m all f (declared_twice []) marks t) refl refl
    ∙ ap (λ (x : Option ℕ). at_least r.E4 x (at_least r.E5 (least_from None (early_in m)) (at_least r.E6 (least_from None (wrong_in m)) None))) is

abbrev early_among : List Mark → List ℕ
early_among marks = used_early (declared_in marks) (valued_in marks) [] marks

pub early_first : (m : Module) (all : List Occurrence) (f g : Option ℕ) (at : ℕ) → ((names : List Entry) → marks_in names all ≡ module_marks names m) →
    ((names : List Entry) → f ≡ least_from None (declared_twice [] (marks_in names all))) → ((names : List Entry) → g ≡ least_from None (early_among (marks_in names all))) →
    f ≡ None → g ≡ Some at → first_fault (places_of m) scope_rules ≡ Some (record { rule = r.E5; at = at })
early_first m all f g at marks t u none is =
    in_order m f g (least_from None (wrong_in m)) (of_module m all f (declared_twice []) marks t) (of_module m all g early_among marks u) refl
    ∙ ap (λ (x : Option ℕ). at_least r.E4 x (at_least r.E5 g (at_least r.E6 (least_from None (wrong_in m)) None))) none
    ∙ ap (λ (x : Option ℕ). at_least r.E5 x (at_least r.E6 (least_from None (wrong_in m)) None)) is

pub wrong_first : (m : Module) (all : List Occurrence) (f g h : Option ℕ) → ((names : List Entry) → marks_in names all ≡ module_marks names m) →
    ((names : List Entry) → f ≡ least_from None (declared_twice [] (marks_in names all))) → ((names : List Entry) → g ≡ least_from None (early_among (marks_in names all))) →
    ((names : List Entry) → h ≡ least_from None (flat_map wrong_number (marks_in names all))) → f ≡ None → g ≡ None → first_fault (places_of m) scope_rules ≡ at_least r.E6 h None
wrong_first m all f g h marks t u w none neither =
    in_order m f g h (of_module m all f (declared_twice []) marks t) (of_module m all g early_among marks u) (of_module m all h (flat_map wrong_number) marks w)
    ∙ ap (λ (x : Option ℕ). at_least r.E4 x (at_least r.E5 g (at_least r.E6 h None))) none
    ∙ ap (λ (x : Option ℕ). at_least r.E5 x (at_least r.E6 h None)) neither

pub wrong_at : (f : Option Fault) (h : Option ℕ) (at : ℕ) → f ≡ at_least r.E6 h None → h ≡ Some at → f ≡ Some (record { rule = r.E6; at = at })
wrong_at f h at p is = p ∙ ap (λ (x : Option ℕ). at_least r.E6 x None) is

pub wrong_nowhere : (f : Option Fault) (h : Option ℕ) → f ≡ at_least r.E6 h None → h ≡ None → f ≡ None
wrong_nowhere f h p is = p ∙ ap (λ (x : Option ℕ). at_least r.E6 x None) is
