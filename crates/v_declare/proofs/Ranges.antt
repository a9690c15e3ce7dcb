-- What ranges come to.
use Rattle.std.proofs.Common.{◌≡◌, ℕ, List, [], ◌++◌, Bool, true, false, not, Option, Some, refl, sym, ap, ◌∙◌}
use Rattle.v_syntax.specs.declared.expr.Range.{Range}
use Rattle.v_meaning.specs.declared.names.Entry.{Entry}
use Rattle.v_meaning.specs.Names.{or_zero, span}
use Rattle.v_meaning.specs.Declarations.{constant_value}
use Rattle.v_meaning.specs.MarkRules.{place_if}
use Rattle.v_meaning.specs.Proper.{is_proper}
use Rattle.v_declare.specs.declared.bounds.Shape.{Shape}
use Rattle.v_declare.specs.Walks.{first_of}
use Rattle.v_declare.specs.Shapes.{IsShape, HasShape, IsVector}
use Rattle.v_declare.proofs.Staying.{proper_stays, more_agree}

-- a place without a fault
pub is_so : (test : Bool) (at : ℕ) → first_of (place_if (not test) at) ≡ [] → test ≡ true
is_so true at h = refl
is_so false at h = absurd (cc h)

-- a vector of these bounds, over names where they have these values
shape_over : (names : List Entry) (r : Range) (msb lsb : Option ℕ) (shape : Shape) → msb ≡ constant_value names r.msb.expr → lsb ≡ constant_value names r.lsb.expr → IsVector msb lsb shape → IsShape names (Some r) shape
shape_over names r msb lsb shape m l is = record {
  has_bit = is.has_bit;
  within = is.within;
  width = is.width ∙ ap (λ (n : Option ℕ). span (or_zero n) (or_zero lsb)) m ∙ ap (λ (n : Option ℕ). span (or_zero (constant_value names r.msb.expr)) (or_zero n)) l;
  low = is.low ∙ ap or_zero l;
  vector = is.vector;
}

-- it stays so
pub vector_stays : (names : List Entry) (r : Range) (msb lsb : Option ℕ) (shape : Shape) → is_proper names r.msb.expr ≡ true → is_proper names r.lsb.expr ≡ true →
    msb ≡ constant_value names r.msb.expr → lsb ≡ constant_value names r.lsb.expr → IsVector msb lsb shape → HasShape names (Some r) shape
vector_stays names r msb lsb shape pm pl m l is = record {
  here = shape_over names r msb lsb shape m l is;
  stays = λ more.
      let sm = proper_stays names (names ++ more) (more_agree names more) r.msb.expr pm in
      let sl = proper_stays names (names ++ more) (more_agree names more) r.lsb.expr pl in
      shape_over (names ++ more) r msb lsb shape (m ∙ sym sm.value) (l ∙ sym sl.value) is;
}
