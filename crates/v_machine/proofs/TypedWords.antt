-- The names, first values and assigns of a typed module keep to words of 1 to 128 bits.
use Rattle.std.proofs.Common.{◌≡◌, refl, sym, ap, ◌∙◌, subst, ℕ, List, [], ◌∷◌, Bool, true, false, ◌&&◌}
use Rattle.std.specs.Prelude.{◌||◌, ◌==◌, slice_index}
use Rattle.std.specs.List.{list_all, list_any}
use Rattle.std.proofs.lemmas.Bool.{le-leb, lt-ltb, eqb-true}
use Rattle.v_syntax.specs.declared.module.Module.{Module}
use Rattle.v_meaning.specs.declared.names.Kind.{Kind}
use Rattle.v_meaning.specs.declared.names.Kind.TheVariants as k
use Rattle.v_meaning.specs.declared.names.Entry.{Entry}
use Rattle.v_meaning.specs.Declarations.{names_of}
use Rattle.v_names.specs.Words.{AreWords, FitsKind}
use Rattle.v_core.specs.SitedCores.{is_sited_core}
use Rattle.v_core.specs.declared.modules.TypedAssign.{TypedAssign}
use Rattle.v_core.specs.declared.modules.Core.{Core}
use Rattle.v_core.specs.Cores.{design_in}
use Rattle.v_core.specs.Formed.{is_width}
use Rattle.v_core.specs.FormedCores.{is_formed_core}
use Rattle.v_values.specs.Moments.{Shape, fit, has_width}
use Rattle.v_order.specs.Firsts.{keeps_first}
use Rattle.v_order.specs.Numbered.{AreNumbered}
use Rattle.v_typed.specs.Forms.{are_measured, is_measured_over, is_net_at}
use Rattle.v_machine.specs.Runnable.{KeepsWords, is_measured, is_word, keeps_parameter, keeps_value, shape_of}
use Rattle.v_machine.proofs.Lists.{first_of, second_of, both_of}
use Rattle.v_machine.proofs.NumberedWords.{numbered_fit}

-- ---- names

value_kept : (kind : Kind) (width : ℕ) → FitsKind width kind → keeps_value kind width ≡ true
value_kept (k.Parameter value) width h = lt-ltb _ _ h
value_kept k.Clock width h = refl
value_kept (k.Input n) width h = refl
value_kept (k.Net n) width h = refl
value_kept (k.Combinational n) width h = refl
value_kept (k.Variable n) width h = refl
value_kept (k.Memory n low count) width h = refl

parameters_kept : (names : List Entry) → AreWords names → list_all keeps_parameter names ≡ true
parameters_kept [] h = refl
parameters_kept (e ∷ names) h = both_of _ _ (value_kept e.kind e.width h.0.fits) (parameters_kept names h.1)

names_words : (names : List Entry) → AreWords names → list_all keeps_first names ≡ true → list_all is_word names ≡ true
names_words [] h firsts = refl
names_words (e ∷ names) h firsts =
    both_of _ _ (both_of _ _ (both_of _ _ (le-leb 1 e.width h.0.has_bit) (le-leb e.width 128 h.0.within)) (first_of (keeps_first e) (list_all keeps_first names) firsts))
    (names_words names h.1 (second_of (keeps_first e) (list_all keeps_first names) firsts))

-- ---- assigns

-- the net of an entry has the width of its word
own_width : (s : Shape) (net width own : ℕ) (kind : Kind) → (is_net_at net kind && own == width) ≡ true → has_width s kind own ≡ true → (slice_index s.nets net == width) ≡ true
own_width s net width own (k.Net n) h fits =
    let is : n ≡ net = eqb-true n net (first_of (n == net) (own == width) h) in
    let wide : own ≡ width = eqb-true own width (second_of (n == net) (own == width) h) in
    subst (λ (w : ℕ). (slice_index s.nets net == w) ≡ true) wide (subst (λ (n : ℕ). (slice_index s.nets n == own) ≡ true) is fits)
own_width s net width own (k.Parameter value) h fits = absurd (cc h)
own_width s net width own k.Clock h fits = absurd (cc h)
own_width s net width own (k.Input n) h fits = absurd (cc h)
own_width s net width own (k.Combinational n) h fits = absurd (cc h)
own_width s net width own (k.Variable n) h fits = absurd (cc h)
own_width s net width own (k.Memory n low count) h fits = absurd (cc h)

either_way : {P : Type 0} (a b : Bool) → (a || b) ≡ true → (a ≡ true → P) → (b ≡ true → P) → P
either_way true b h f g = f refl
either_way false b h f g = g h

net_width : (s : Shape) (net width : ℕ) (names : List Entry) → list_any (λ (e : Entry). is_net_at net e.kind && e.width == width) names ≡ true → fit s names ≡ true →
    (slice_index s.nets net == width) ≡ true
net_width s net width [] h fits = absurd (cc h)
net_width s net width (e ∷ names) h fits =
    either_way (is_net_at net e.kind && e.width == width) (list_any (λ (e : Entry). is_net_at net e.kind && e.width == width) names) h
    (λ own. own_width s net width e.width e.kind own (first_of (has_width s e.kind e.width) (fit s names) fits))
    (λ more. net_width s net width names more (second_of (has_width s e.kind e.width) (fit s names) fits))

assigns_measured : (s : Shape) (names : List Entry) (assigns : List TypedAssign) → are_measured names assigns ≡ true → fit s names ≡ true → list_all (is_measured s) assigns ≡ true
assigns_measured s names [] h fits = refl
assigns_measured s names (a ∷ assigns) h fits =
    let own = first_of (is_measured_over names a) (are_measured names assigns) h in
    both_of _ _
    (both_of _ _ (first_of (is_width a.width) (list_any (λ (e : Entry). is_net_at a.net e.kind && e.width == a.width) names) own)
    (net_width s a.net a.width names (second_of (is_width a.width) (list_any (λ (e : Entry). is_net_at a.net e.kind && e.width == a.width) names) own) fits))
    (assigns_measured s names assigns (second_of (is_measured_over names a) (are_measured names assigns) h) fits)

-- ---- modules

pub words_kept : ((m : Module) → AreNumbered [] (names_of m)) → ((m : Module) → list_all keeps_first (names_of m) ≡ true) → (m : Module) (c : Core) → c.names ≡ names_of m →
    is_formed_core c ≡ true → is_sited_core c ≡ true → AreWords c.names → are_measured c.names c.assigns ≡ true → list_all is_width (design_in c).sites ≡ true → KeepsWords c
words_kept numbered firsts m c names formed sited words measured places =
    let parameters = parameters_kept c.names words in
    record {
      formed = formed;
      sited = sited;
      words = names_words c.names words (ap (list_all keeps_first) names ∙ firsts m);
      parameters = parameters;
      places = places;
      measured = assigns_measured (shape_of c) c.names c.assigns measured (numbered_fit c (subst (AreNumbered []) (sym names) (numbered m)) parameters);
    }
