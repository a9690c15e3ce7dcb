-- What expressions whose final width and sign are open keep to at them (1364-2005, 5.4.1 and 5.5.2).
use Rattle.std.specs.Prelude.{◌≡◌, ◌≤◌, ℕ, List, [], ◌∷◌, Bool, true, ◌&&◌, nat_le, nat_lt, if◌then◌else◌}
use Rattle.v_syntax.specs.declared.expr.BinaryOperator.{BinaryOperator}
use Rattle.v_syntax.specs.declared.expr.UnaryOperator.{UnaryOperator}
use Rattle.v_meaning.specs.Senses.{class_of, is_through}
use Rattle.v_meaning.specs.declared.names.Entry.{Entry}
use Rattle.v_core.specs.declared.typed.Link.{Link}
use Rattle.v_core.specs.declared.open.Body.{Body}
use Rattle.v_core.specs.declared.open.Body.TheOpen.{Body-F}
use Rattle.v_core.specs.declared.open.Body.TheOpen as b
use Rattle.v_core.specs.declared.open.Body.TheFolds.{fold-Body}
use Rattle.v_core.specs.declared.open.Open.{Open}
use Rattle.v_core.specs.Formed.{Formed, FormedIn, formed, formed_chain, has, is_width, linked_by}

-- ---- what each node makes of its operands

-- an operand at a width that it is extended to
abbrev pub extended_form : ℕ → Formed → ℕ → Formed
extended_form from x to = if nat_le to from then x else record { width = to; kept = nat_lt from to && is_width to && has from x }

abbrev pub prefixed_form : UnaryOperator → ℕ → Formed → Formed
prefixed_form op width x = record { width = if is_through op then width else 1; kept = has width x }

abbrev pub chosen_form : ℕ → Formed → Formed → Formed → Formed
chosen_form width c x y = record { width = width; kept = c.kept && has width x && has width y }

abbrev pub linked_form : Link → Formed → Formed → Formed
linked_form link x y = linked_by (class_of link.operator) link x y

-- ---- where a final width and sign come down

abbrev pub FixedForm : Type 0
FixedForm = ℕ → Bool → FormedIn

-- the operands of a chain at a final width and sign, each behind its operator
abbrev pub fixed_forms : List (BinaryOperator × FixedForm) → ℕ → Bool → List (Link × FormedIn)
fixed_forms [] w s = []
fixed_forms (link ∷ links) w s = (record { operator = link.0; width = w; signed = s }, link.1 w s) ∷ fixed_forms links w s

abbrev pub body_form_step : Body-F FixedForm → ℕ → Bool → List Entry → Formed
body_form_step (b.Leaf width x) w s names = extended_form width (formed x names) w
body_form_step (b.Own x) w s names = formed x names
body_form_step (b.Unary op x) w s names = prefixed_form op w (x w s names)
body_form_step (b.Chain x links) w s names = formed_chain (x w s names) (fixed_forms links w s) names
body_form_step (b.Choice c x y) w s names = chosen_form w (formed c names) (x w s names) (y w s names)

abbrev pub body_form : Body → ℕ → Bool → List Entry → Formed
body_form = fold-Body FixedForm body_form_step

-- the operands of a chain, each behind its operator
abbrev pub body_forms : List (BinaryOperator × Body) → List (BinaryOperator × FixedForm)
body_forms [] = []
body_forms (link ∷ links) = (link.0, body_form link.1) ∷ body_forms links

-- What has 1 to 128 bits by itself, and keeps to each final width from its own one to 128.
pub record Keeps (width : ℕ) (form : ℕ → Bool → Formed) : Type 0 where
  pub word : is_width width ≡ true
  pub at : (w : ℕ) (s : Bool) → width ≤ w → w ≤ 128 → has w (form w s) ≡ true

abbrev pub OpenFormed : Open → List Entry → Type 0
OpenFormed o names = Keeps o.width (λ w s. body_form o.body w s names)
