-- Sound items of a case, and what items mean that are opened and fixed.
use Rattle.std.proofs.Common.{◌≡◌, ap, sym, ◌∙◌, refl, ℕ, List, Bool, true, false, Option, None, Some, Bor}
use Rattle.std.specs.Prelude.{not}
use Rattle.std.specs.Option.{option_copied}
use Rattle.lz_base.specs.WordValue.{WordValue}
use Rattle.v_syntax.specs.declared.expr.Expr.{Expr}
use Rattle.v_syntax.specs.declared.expr.Expr.TheOpen.{Expr-F}
use Rattle.v_syntax.specs.declared.expr.Expr.TheOpen as o
use Rattle.v_syntax.specs.declared.expr.Expr.TheViews.{out-Expr, roll-out-Expr}
use Rattle.v_syntax.specs.declared.expr.Expr.TheFolds.{map-Expr, fold-roll-Expr, para-roll-Expr}
use Rattle.v_syntax.specs.declared.expr.Number.{Number}
use Rattle.v_syntax.specs.declared.stmt.CaseKind.{CaseKind}
use Rattle.v_syntax.specs.declared.stmt.CaseKind.TheVariants as k
use Rattle.v_meaning.specs.Literals.{is_wrong_number, literal_of}
use Rattle.v_meaning.specs.declared.names.Entry.{Entry}
use Rattle.v_meaning.specs.Expressions.{sense_of, number_at_top, number_by_itself}
use Rattle.v_meaning.specs.Proper.{Judged, sound_step, is_sound}
use Rattle.v_meaning.specs.Statements.{Comparison, ignored, ignored_in}
use Rattle.v_core.specs.declared.typed.Typed.{Typed}
use Rattle.v_core.specs.declared.open.Open.{Open}
use Rattle.v_core.specs.Values.{typed_value}
use Rattle.v_core.specs.Bodies.{body_value, sense_in}
use Rattle.v_statements.specs.declared.items.Common.{Common}
use Rattle.v_statements.specs.declared.items.OpenItem.{OpenItem}
use Rattle.v_statements.specs.Cases.{is_right, z_word, z_at, item_at, comparison_in, source_item, open_item, typed_item}

right_layer : (names : List Entry) (y : Expr-F Expr) → sound_step names (map-Expr Expr Judged (λ x. (x, is_sound names x)) y) ≡ true →
    is_right (number_at_top (map-Expr Expr (Option Number) number_by_itself y)) ≡ true
right_layer names (o.Number n) h = h
right_layer names (o.Name n) h = refl
right_layer names (o.Select n bracket index) h = refl
right_layer names (o.Part n bracket msb_at msb lsb_at lsb) h = refl
right_layer names (o.Unary op x) h = refl
right_layer names (o.Chain x links) h = refl
right_layer names (o.Conditional c x y) h = refl
right_layer names (o.Concat brace parts) h = refl
right_layer names (o.Replicate brace at count inner parts) h = refl
right_layer names (o.Cast sign x) h = refl

-- a sound number has its form
pub right_item : (names : List Entry) (x : Expr) → is_sound names x ≡ true → is_right (number_by_itself x) ≡ true
right_item names x h =
    ap (λ (y : Expr). is_right (number_by_itself y)) (sym (roll-out-Expr x)) ∙ ap is_right (fold-roll-Expr (Option Number) number_at_top (out-Expr x))
    ∙ right_layer names (out-Expr x) (sym (ap (is_sound names) (sym (roll-out-Expr x)) ∙ para-roll-Expr Bool (sound_step names) (out-Expr x)) ∙ h)

-- ---- the bits that are ignored

not_false : (b : Bool) → not b ≡ true → b ≡ false
not_false true h = absurd (cc h)
not_false false h = refl

-- the number that was found has its form
pub right_number : (x : Expr) (found : Option (Bor Number)) (n : Bor Number) → option_copied found ≡ number_by_itself x → found ≡ Some n → is_right (number_by_itself x) ≡ true →
    is_wrong_number n.now.spelling ≡ false
right_number x found n p q h = not_false (is_wrong_number n.now.spelling) (ap is_right (sym (ap option_copied q) ∙ p) ∙ h)

pub no_z : (x : Expr) (kind : CaseKind) → kind ≡ k.Case → z_at None ≡ ignored kind x
no_z x kind is = ap (λ (c : CaseKind). ignored c x) (sym is)

abbrev z_in : Option Number → Comparison → ℕ
z_in found by = ignored_in found by

pub number_z : (x : Expr) (kind : CaseKind) (found : Option (Bor Number)) (n : Bor Number) (w : WordValue) → kind ≡ k.Casez → option_copied found ≡ number_by_itself x →
    found ≡ Some n → w ≡ z_word (literal_of n.now.spelling) → z_at (Some w) ≡ ignored kind x
number_z x kind found n w is p q r =
    ap (λ (y : WordValue). z_at (Some y)) r ∙ ap z_in (sym (ap option_copied q) ∙ p) ∙ ap (λ (c : CaseKind). ignored c x) (sym is)

pub other_z : (x : Expr) (kind : CaseKind) (found : Option (Bor Number)) → kind ≡ k.Casez → option_copied found ≡ number_by_itself x → found ≡ None → z_at None ≡ ignored kind x
other_z x kind found is p q = ap z_in (sym (ap option_copied q) ∙ p) ∙ ap (λ (c : CaseKind). ignored c x) (sym is)

pub item_opened : (names : List Entry) (sites : List ℕ) (kind : CaseKind) (x : Expr) (z_bits : Option WordValue) (value : Open) →
    z_at z_bits ≡ ignored kind x → sense_in value names ≡ sense_of names sites x → open_item names (record { z_bits = z_bits; value = value }) ≡ source_item names sites kind x
item_opened names sites kind x z_bits value p q = λ i. record { ignored = p i; sense = q i }

pub item_fixed : (names : List Entry) (by : Common) (item : OpenItem) (mask : ℕ) (value : Typed) → mask ≡ z_at item.z_bits (comparison_in by) →
    typed_value value ≡ body_value item.value.body by.width by.signed → typed_item names (record { ignored = mask; value = value }) ≡ item_at (comparison_in by) (open_item names item)
item_fixed names by item mask value p q = λ i. record { ignored = p i; value = q i names }
