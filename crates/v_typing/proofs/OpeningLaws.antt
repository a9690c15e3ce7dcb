-- Where as many bits are read as are open in an expression, they are so in what it holds.
use Rattle.std.proofs.Common.{◌≡◌, ◌<◌, ap, sym, subst, ◌∙◌, refl, ℕ, List, [], ◌∷◌, ◌++◌, map, length, get_or, Bool, true, false, arith}
use Rattle.std.specs.Prelude.{All, if◌then◌else◌, nat_le, slice_index}
use Rattle.std.proofs.lemmas.Bool.{le-leb}
use Rattle.std.proofs.lemmas.List.Elements.{All-nil, All-cons, All-head, All-tail, All-get_or}
use Rattle.v_syntax.specs.declared.token.Ident.{Ident}
use Rattle.v_syntax.specs.declared.token.Cast.{Cast}
use Rattle.v_syntax.specs.declared.expr.Expr.{Expr}
use Rattle.v_syntax.specs.declared.expr.Expr.TheVariants as e
use Rattle.v_syntax.specs.declared.expr.Expr.TheOpen as o
use Rattle.v_syntax.specs.declared.expr.Expr.TheFolds.{para-roll-Expr}
use Rattle.v_syntax.specs.declared.expr.UnaryOperator.{UnaryOperator}
use Rattle.v_syntax.specs.declared.expr.BinaryOperator.{BinaryOperator}
use Rattle.v_meaning.specs.declared.names.Kind.{Kind}
use Rattle.v_meaning.specs.declared.names.Kind.TheVariants.{Parameter, Clock, Input, Net, Combinational, Variable, Memory}
use Rattle.v_meaning.specs.declared.names.Entry.{Entry}
use Rattle.v_meaning.specs.Names.{entry_of}
use Rattle.v_meaning.specs.Expressions.{number_of_place}
use Rattle.v_meaning.specs.Sites.{Site, select_width, is_fixed, links_sites, parts_sites}
use Rattle.v_places.specs.Openings.{opening_step, openings_of}
use Rattle.v_core.specs.Formed.{selected_width}
use Rattle.v_typing.specs.Sited.{AreRead, IsRead, AllRead, LinksRead}

-- ---- lists

front : {X : Type 0} (P : X → Type 0) (xs ys : List X) → All P (xs ++ ys) → All P xs
front P [] ys h = All-nil P
front P (x ∷ xs) ys h = All-cons P x xs (All-head P x (xs ++ ys) h) (front P xs ys (All-tail P x (xs ++ ys) h))

back : {X : Type 0} (P : X → Type 0) (xs ys : List X) → All P (xs ++ ys) → All P ys
back P [] ys h = h
back P (x ∷ xs) ys h = back P xs ys (All-tail P x (xs ++ ys) h)

this_holds : {X : Type 0} (P : X → Type 0) (xs : List X) (i : ℕ) (x : X) → i < length xs → x ≡ get_or xs i x → All P xs → P x
this_holds P xs i x within is h = subst P (sym is) (All-get_or P xs i x within h)

-- as many bits as are open are no more than those of what is selected
same_width : (kind : Kind) (e : Entry) → select_width kind e ≡ selected_width kind e.width
same_width (Parameter value) e = refl
same_width Clock e = refl
same_width (Input k) e = refl
same_width (Net k) e = refl
same_width (Combinational k) e = refl
same_width (Variable k) e = refl
same_width (Memory k low count) e = refl

no_more : (fixed : Bool) (kind : Kind) (e : Entry) (bits : ℕ) → bits ≡ (if fixed then 0 else select_width kind e) → nat_le bits (selected_width kind e.width) ≡ true
no_more true kind e bits p = le-leb bits _ (omega (arith, p))
no_more false kind e bits p = le-leb bits _ (omega (arith, p ∙ same_width kind e))

module _ (widths places : List ℕ) (names : List Entry) where
  abbrev reads : Site → Type 0
  reads s = slice_index widths (number_of_place places s.at) ≡ s.width

  -- ---- one operand

  pub read_unary : (x a b : Expr) (op : UnaryOperator) → x ≡ e.Unary op a → b ≡ a → IsRead widths places names x → IsRead widths places names b
  read_unary x a b op is p =
      subst (AreRead widths places)
      (ap (openings_of names) (is ∙ sym (e.rolls-Unary op a)) ∙ para-roll-Expr (List Site) (opening_step names) (o.Unary op a) ∙ sym (ap (openings_of names) p))

  pub read_cast : (x a b : Expr) (sign : Cast) → x ≡ e.Cast sign a → b ≡ a → IsRead widths places names x → IsRead widths places names b
  read_cast x a b sign is p =
      subst (AreRead widths places)
      (ap (openings_of names) (is ∙ sym (e.rolls-Cast sign a)) ∙ para-roll-Expr (List Site) (opening_step names) (o.Cast sign a) ∙ sym (ap (openings_of names) p))

  -- the place of a select has no more bits than what is selected
  pub read_select : (x index i : Expr) (n : Ident) (bracket : ℕ) → x ≡ e.Select n bracket index → i ≡ index → IsRead widths places names x →
      (nat_le (slice_index widths (number_of_place places n.at)) (selected_width (entry_of names n.name).kind (entry_of names n.name).width) ≡ true) × IsRead widths places names i
  read_select x index i n bracket is p h =
      let all = subst (AreRead widths places) (ap (openings_of names) (is ∙ sym (e.rolls-Select n bracket index)) ∙ para-roll-Expr (List Site) (opening_step names) (o.Select n bracket index)) h in (
        no_more (is_fixed names (entry_of names n.name) index) (entry_of names n.name).kind (entry_of names n.name) _ (All-head reads _ (openings_of names index) all),
        subst (IsRead widths places names) (sym p) (All-tail reads _ (openings_of names index) all),
      )

  -- ---- several operands

  pub read_conditional : (x c a b c' a' b' : Expr) → x ≡ e.Conditional c a b → c' ≡ c → a' ≡ a → b' ≡ b → IsRead widths places names x →
      IsRead widths places names c' × IsRead widths places names a' × IsRead widths places names b'
  read_conditional x c a b c' a' b' is p q r h =
      let all =
      subst (AreRead widths places)
      (ap (openings_of names) (is ∙ sym (e.rolls-Conditional c a b)) ∙ para-roll-Expr (List Site) (opening_step names) (o.Conditional c a b)) h in
      let first_two = front reads (openings_of names c ++ openings_of names a) (openings_of names b) all in (
        subst (IsRead widths places names) (sym p) (front reads (openings_of names c) (openings_of names a) first_two),
        subst (IsRead widths places names) (sym q) (back reads (openings_of names c) (openings_of names a) first_two),
        subst (IsRead widths places names) (sym r) (back reads (openings_of names c ++ openings_of names a) (openings_of names b) all),
      )

  abbrev links_openings : List (BinaryOperator × Expr) → List Site
  links_openings links = links_sites (map (λ (l : BinaryOperator × Expr). (l.0, (l.1, openings_of names l.1))) links)

  links_read : (links : List (BinaryOperator × Expr)) → AreRead widths places (links_openings links) → LinksRead widths places names links
  links_read [] h = All-nil (λ (l : BinaryOperator × Expr). IsRead widths places names l.1)
  links_read (l ∷ ls) h =
      All-cons (λ (l : BinaryOperator × Expr). IsRead widths places names l.1) l ls (front reads (openings_of names l.1) (links_openings ls) h)
      (links_read ls (back reads (openings_of names l.1) (links_openings ls) h))

  pub read_chain : (x a b : Expr) (links more : List (BinaryOperator × Expr)) → x ≡ e.Chain a links → b ≡ a → more ≡ links → IsRead widths places names x →
      IsRead widths places names b × LinksRead widths places names more
  read_chain x a b links more is p q h =
      let opens : openings_of names x ≡ openings_of names a ++ links_openings links =
      ap (openings_of names) (is ∙ sym (e.rolls-Chain a links)) ∙ para-roll-Expr (List Site) (opening_step names) (o.Chain a links) in
      let all = subst (AreRead widths places) opens h in (
        subst (IsRead widths places names) (sym p) (front reads (openings_of names a) (links_openings links) all),
        subst (LinksRead widths places names) (sym q) (links_read links (back reads (openings_of names a) (links_openings links) all)),
      )

  abbrev parts_openings : List Expr → List Site
  parts_openings parts = parts_sites (map (λ (y : Expr). (y, openings_of names y)) parts)

  parts_read : (parts : List Expr) → AreRead widths places (parts_openings parts) → AllRead widths places names parts
  parts_read [] h = All-nil (IsRead widths places names)
  parts_read (x ∷ xs) h =
      All-cons (IsRead widths places names) x xs (front reads (openings_of names x) (parts_openings xs) h) (parts_read xs (back reads (openings_of names x) (parts_openings xs) h))

  pub read_concat : (x : Expr) (brace : ℕ) (parts more : List Expr) → x ≡ e.Concat brace parts → more ≡ parts → IsRead widths places names x → AllRead widths places names more
  read_concat x brace parts more is p h =
      let opens : openings_of names x ≡ parts_openings parts =
      ap (openings_of names) (is ∙ sym (e.rolls-Concat brace parts)) ∙ para-roll-Expr (List Site) (opening_step names) (o.Concat brace parts) in
      subst (AllRead widths places names) (sym p) (parts_read parts (subst (AreRead widths places) opens h))

  pub read_replicate : (x count : Expr) (brace at inner : ℕ) (parts more : List Expr) → x ≡ e.Replicate brace at count inner parts → more ≡ parts → IsRead widths places names x →
      AllRead widths places names more
  read_replicate x count brace at inner parts more is p h =
      let opens : openings_of names x ≡ parts_openings parts =
      ap (openings_of names) (is ∙ sym (e.rolls-Replicate brace at count inner parts))
      ∙ para-roll-Expr (List Site) (opening_step names) (o.Replicate brace at count inner parts) in
      subst (AllRead widths places names) (sym p) (parts_read parts (subst (AreRead widths places) opens h))

  -- ---- one of several

  pub read_link : (links : List (BinaryOperator × Expr)) (i : ℕ) (l : BinaryOperator × Expr) → i < length links → l ≡ get_or links i l → LinksRead widths places names links →
      IsRead widths places names l.1
  read_link links i l within is h = this_holds (λ (l : BinaryOperator × Expr). IsRead widths places names l.1) links i l within is h

  pub read_part : (parts : List Expr) (i : ℕ) (x : Expr) → i < length parts → x ≡ get_or parts i x → AllRead widths places names parts → IsRead widths places names x
  read_part parts i x within is h = this_holds (IsRead widths places names) parts i x within is h
