-- Entries from their parts.
use Rattle.std.proofs.Common.{◌≡◌, ℕ, List, [], ◌∷◌, ◌++◌, Bool, true, false, not, Option, None, Some, refl, sym, ap, ◌∙◌, append_assoc}
use Rattle.std.specs.Prelude.{◌&&◌, ◌||◌, if◌then◌else◌}
use Rattle.v_syntax.specs.declared.token.Ident.{Ident}
use Rattle.v_syntax.specs.declared.expr.Placed.{Placed}
use Rattle.v_syntax.specs.declared.expr.Range.{Range}
use Rattle.v_syntax.specs.declared.module.Setting.{Setting}
use Rattle.v_syntax.specs.declared.module.ParameterGroup.{ParameterGroup}
use Rattle.v_meaning.specs.Views.{no_view}
use Rattle.v_meaning.specs.Senses.{Sense, assigned}
use Rattle.v_meaning.specs.declared.names.Kind.{Kind}
use Rattle.v_meaning.specs.declared.names.Kind.TheVariants as k
use Rattle.v_meaning.specs.declared.names.Entry.{Entry}
use Rattle.v_meaning.specs.Expressions.{sense_of}
use Rattle.v_meaning.specs.Declarations.{entry, parameter_width, parameter_sign, parameter_entry, first_value}
use Rattle.v_declare.specs.declared.bounds.Shape.{Shape}
use Rattle.v_declare.specs.Shapes.{IsShape, HasShape}

-- the range of a group behind one more name
pub shape_more : (names : List Entry) (e : Entry) (range : Option Range) (shape : Shape) → HasShape names range shape → HasShape (names ++ e ∷ []) range shape
shape_more names e range shape h = record {
  here = h.stays (e ∷ []);
  stays = λ more. let s = h.stays (e ∷ more) in rw append_assoc s;
}

width_is : (names : List Entry) (range : Option Range) (shape : Shape) (x : Sense) → IsShape names range shape → (if shape.is_vector then shape.width else x.width) ≡ parameter_width names range x
width_is names None shape x h = ap (λ (b : Bool). if b then shape.width else x.width) h.vector
width_is names (Some r) shape x h = ap (λ (b : Bool). if b then shape.width else x.width) h.vector ∙ h.width

sign_is : (names : List Entry) (range : Option Range) (shape : Shape) (signed : Bool) (x : Sense) → IsShape names range shape → (signed || (not shape.is_vector && x.signed)) ≡ parameter_sign signed range x
sign_is names None shape signed x h = ap (λ (b : Bool). signed || (not b && x.signed)) h.vector
sign_is names (Some r) shape signed x h = ap (λ (b : Bool). signed || (not b && x.signed)) h.vector ∙ or_none signed where
  or_none : (b : Bool) → (b || false) ≡ b
  or_none true = refl
  or_none false = refl

pub parameter_is : (names : List Entry) (group : ParameterGroup) (s : Setting) (shape : Shape) (name : List ℕ) (w width value : ℕ) (own sign : Bool) →
    IsShape names group.range shape → name ≡ s.name.name → w ≡ (sense_of names [] s.value.expr).width → own ≡ (sense_of names [] s.value.expr).signed →
    width ≡ (if shape.is_vector then shape.width else w) → sign ≡ (group.signed || (not shape.is_vector && own)) → value ≡ assigned width (sense_of names [] s.value.expr) no_view →
    record { name = name; at = s.name.at; kind = k.Parameter value; width = width; signed = sign; low = shape.low; is_vector = shape.is_vector; first = None } ≡ parameter_entry names group s
parameter_is names group s shape name w width value own sign h n p q is signed so =
    let x : Sense = sense_of names [] s.value.expr in
    let wide : width ≡ parameter_width names group.range x = is ∙ ap (λ (m : ℕ). if shape.is_vector then shape.width else m) p ∙ width_is names group.range shape x h in
    let how : sign ≡ parameter_sign group.signed group.range x = signed ∙ ap (λ (b : Bool). group.signed || (not shape.is_vector && b)) q ∙ sign_is names group.range shape group.signed x h in
    let what : value ≡ assigned (parameter_width names group.range x) x no_view = so ∙ ap (λ (m : ℕ). assigned m x no_view) wide in
    λ i. record { name = n i; at = s.name.at; kind = k.Parameter (what i); width = wide i; signed = how i; low = h.low i; is_vector = h.vector i; first = None }

pub first_is : (names : List Entry) (range : Option Range) (shape : Shape) (x : Placed) (o : Option Placed) (v : ℕ) → IsShape names range shape → o ≡ Some x →
    v ≡ assigned shape.width (sense_of names [] x.expr) no_view → ◌≡◌ {A = Option ℕ} (Some v) (first_value names range o)
first_is names range shape x o v h is so = ap Some (so ∙ ap (λ (w : ℕ). assigned w (sense_of names [] x.expr) no_view) h.width) ∙ sym (ap (first_value names range) is)

-- one more entry behind the others, from what its parts come to
pub pushed : (names after : List Entry) (e : Entry) (range : Option Range) (signed : Bool) (ident : Ident) (kind k : Kind) (first f : Option ℕ) →
    after ≡ names ++ e ∷ [] → e ≡ entry names signed range ident kind first → kind ≡ k → first ≡ f → after ≡ names ++ entry names signed range ident k f ∷ []
pushed names after e range signed ident kind k first f is p q r = is ∙ ap (λ (x : Entry). names ++ x ∷ []) (p ∙ (λ i. entry names signed range ident (q i) (r i)))

pub memory_is : (a b c d e f : ℕ) → a ≡ d → b ≡ e → c ≡ f → ◌≡◌ {A = Kind} (k.Memory a b c) (k.Memory d e f)
memory_is a b c d e f p q r = λ i. k.Memory (p i) (q i) (r i)
