-- The words of names that are numbered from 0, kind by kind.
use Rattle.std.proofs.Common.{◌≡◌, ap, sym, ◌∙◌, refl, ℕ, append_assoc, length, ◌++◌, List, [], ◌∷◌, Bool, true, false}
use Rattle.std.specs.Prelude.{if◌then◌else◌, slice_index}
use Rattle.std.specs.List.{list_all}
use Rattle.std.proofs.lemmas.Bool.{eq-eqb}
use Rattle.v_meaning.specs.Declarations.{count_of, is_input, is_settled, is_variable, is_memory}
use Rattle.v_meaning.specs.declared.names.Kind.{Kind}
use Rattle.v_meaning.specs.declared.names.Kind.TheVariants as k
use Rattle.v_meaning.specs.declared.names.Entry.{Entry}
use Rattle.v_core.specs.declared.modules.Core.{Core}
use Rattle.v_values.specs.Moments.{fit, has_width}
use Rattle.v_order.specs.Numbered.{AreNumbered, IsNext}
use Rattle.v_machine.specs.Runnable.{keeps_parameter, keeps_value, shape_of, widths_where}
use Rattle.v_machine.proofs.Beginning.{count_is}
use Rattle.v_machine.proofs.Lists.{first_of, second_of, both_of}

behind_one : (t : Bool) (w n : ℕ) (xs ys : List ℕ) → slice_index ys (length xs) ≡ n → slice_index (if t then w ∷ ys else ys) (length (if t then w ∷ xs else xs)) ≡ n
behind_one true w n xs ys h = h
behind_one false w n xs ys h = h

at_length : (test : Kind → Bool) (before names : List Entry) (e : Entry) → test e.kind ≡ true →
    slice_index (widths_where test (before ++ e ∷ names)) (length (widths_where test before)) ≡ e.width
at_length test [] names e h = ap (λ (t : Bool). slice_index (if t then e.width ∷ widths_where test names else widths_where test names) 0) h
at_length test (b ∷ before) names e h =
    behind_one (test b.kind) b.width e.width (widths_where test before) (widths_where test (before ++ e ∷ names)) (at_length test before names e h)

at_count : (test : Kind → Bool) (all before names : List Entry) (e : Entry) (n : ℕ) → all ≡ before ++ e ∷ names → test e.kind ≡ true → n ≡ count_of test before →
    slice_index (widths_where test all) n ≡ e.width
at_count test all before names e n same h is =
    (λ i. slice_index (widths_where test (same i)) ((is ∙ sym (count_is test before)) i)) ∙ at_length test before names e h

has_own : (c : Core) (before names : List Entry) (e : Entry) (kind : Kind) → c.names ≡ before ++ e ∷ names → e.kind ≡ kind → IsNext before kind → keeps_value kind e.width ≡ true →
    has_width (shape_of c) kind e.width ≡ true
has_own c before names e (k.Parameter value) same is next keeps = keeps
has_own c before names e k.Clock same is next keeps = refl
has_own c before names e (k.Input n) same is next keeps =
    eq-eqb (slice_index (widths_where is_input c.names) n) e.width (at_count is_input c.names before names e n same (ap is_input is) next)
has_own c before names e (k.Net n) same is next keeps =
    eq-eqb (slice_index (widths_where is_settled c.names) n) e.width (at_count is_settled c.names before names e n same (ap is_settled is) next)
has_own c before names e (k.Combinational n) same is next keeps =
    eq-eqb (slice_index (widths_where is_settled c.names) n) e.width (at_count is_settled c.names before names e n same (ap is_settled is) next)
has_own c before names e (k.Variable n) same is next keeps =
    eq-eqb (slice_index (widths_where is_variable c.names) n) e.width (at_count is_variable c.names before names e n same (ap is_variable is) next)
has_own c before names e (k.Memory n low count) same is next keeps =
    eq-eqb (slice_index (widths_where is_memory c.names) n) e.width (at_count is_memory c.names before names e n same (ap is_memory is) next)

fit_from : (c : Core) (before names : List Entry) → c.names ≡ before ++ names → AreNumbered before names → list_all keeps_parameter names ≡ true →
    fit (shape_of c) names ≡ true
fit_from c before [] same numbered keeps = refl
fit_from c before (e ∷ names) same numbered keeps =
    both_of (has_width (shape_of c) e.kind e.width) (fit (shape_of c) names)
    (has_own c before names e e.kind same refl numbered.0 (first_of (keeps_parameter e) (list_all keeps_parameter names) keeps))
    (fit_from c (before ++ e ∷ []) names (same ∙ sym (append_assoc before (e ∷ []) names)) numbered.1 (second_of (keeps_parameter e) (list_all keeps_parameter names) keeps))

pub numbered_fit : (c : Core) → AreNumbered [] c.names → list_all keeps_parameter c.names ≡ true → fit (shape_of c) c.names ≡ true
numbered_fit c numbered keeps = fit_from c [] c.names refl numbered keeps
