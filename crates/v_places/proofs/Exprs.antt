-- The openings of an expression are at its tokens, one behind another.
use Rattle.std.proofs.Common.{◌≡◌, ℕ, zero, suc, List, [], ◌∷◌, ◌++◌, map, flat_map, refl, sym, ap, subst, ◌∙◌, inl, inr, append-nil}
use Rattle.std.proofs.lemmas.List.Concat.{flat_map-cons}
use Rattle.v_syntax.specs.declared.token.Ident.{Ident}
use Rattle.v_syntax.specs.declared.token.Cast.{Cast}
use Rattle.v_syntax.specs.declared.token.Lexeme.TheVariants as l
use Rattle.v_syntax.specs.declared.expr.Expr.{Expr}
use Rattle.v_syntax.specs.declared.expr.Expr.TheVariants as e
use Rattle.v_syntax.specs.declared.expr.Expr.TheOpen as o
use Rattle.v_syntax.specs.declared.expr.Expr.TheFolds.{para-roll-Expr}
use Rattle.v_syntax.specs.declared.expr.Number.{Number}
use Rattle.v_syntax.specs.declared.expr.UnaryOperator.{UnaryOperator}
use Rattle.v_syntax.specs.declared.expr.BinaryOperator.{BinaryOperator}
use Rattle.v_syntax.specs.Rule.{Rule, ◌>>=◌, yields}
use Rattle.v_syntax.specs.Grammar.{prefix, cast, between, IsNumber, placed, IsRange, IsLeaf, IsSelect, IsPart, IsGroup, IsConcat, IsReplicate, IsCast, IsPrefixed, IsOperandOver, chain, IsBinary, IsConditional, nested, IsOperand, IsExpr}
use Rattle.v_meaning.specs.declared.names.Entry.{Entry}
use Rattle.v_meaning.specs.Sites.{Site, links_sites, parts_sites}
use Rattle.v_places.specs.Openings.{number_opening, select_opening, opening_step, openings_of}
use Rattle.v_places.proofs.Spans.{Takes, takes_none, takes_more, takes_one, takes_token, Within, within_whole, behind_bind, behind_then, behind_yields, within_or, within_none, within_token, within_ident, within_here, within_many, within_listed}

-- ---- tokens that hold a value

within_prefix : Within prefix (λ _. [])
within_prefix = record { takes = λ before after op d. takes_token before after _ d.2 }

within_cast : Within cast (λ _. [])
within_cast = record { takes = λ before after sign d. takes_token before after _ d.1 }

within_between : {rank : ℕ} → Within (between rank) (λ _. [])
within_between = record { takes = λ before after op d. takes_token before after _ d.2 }

-- a number is where its first token is
within_number : Within IsNumber (λ n. number_opening n ∷ [])
within_number = record {
  takes = λ before after n d. elim d [
    | inl h ↦ (elim h.3 [
      | inl k ↦ takes_more (takes_one before h.0 (record { lexeme = l.Decimal h.1.1; at = h.1.0 }) (number_opening n) (ap (λ (x : Number). x.at) k.3.1) h.2)
          (takes_more (takes_token h.0 k.0 _ k.2) (takes_none k.0 after k.3.0))
      | inr k ↦ takes_more (takes_one before h.0 (record { lexeme = l.Decimal h.1.1; at = h.1.0 }) (number_opening n) (ap (λ (x : Number). x.at) k.1) h.2)
          (takes_none h.0 after k.0)
    ])
    | inr h ↦ takes_more (takes_one before h.0 (record { lexeme = l.Based h.1.1; at = h.1.0 }) (number_opening n) (ap (λ (x : Number). x.at) h.3.1) h.2)
        (takes_none h.0 after h.3.0)
  ];
}

module _ (names : List Entry) where
  -- ---- the openings of each kind of expression

  at_number : (n : Number) → openings_of names (e.Number n) ≡ number_opening n ∷ []
  at_number n = ap (openings_of names) (sym (e.rolls-Number n)) ∙ para-roll-Expr (List Site) (opening_step names) (o.Number n)

  at_name : (n : Ident) → openings_of names (e.Name n) ≡ []
  at_name n = ap (openings_of names) (sym (e.rolls-Name n)) ∙ para-roll-Expr (List Site) (opening_step names) (o.Name n)

  at_select : (n : Ident) (bracket : ℕ) (index : Expr) → openings_of names (e.Select n bracket index) ≡ select_opening names n index ∷ openings_of names index
  at_select n bracket index =
      ap (openings_of names) (sym (e.rolls-Select n bracket index)) ∙ para-roll-Expr (List Site) (opening_step names) (o.Select n bracket index)

  at_part : (n : Ident) (bracket msb_at lsb_at : ℕ) (msb lsb : Expr) → openings_of names (e.Part n bracket msb_at msb lsb_at lsb) ≡ []
  at_part n bracket msb_at lsb_at msb lsb =
      ap (openings_of names) (sym (e.rolls-Part n bracket msb_at msb lsb_at lsb)) ∙ para-roll-Expr (List Site) (opening_step names) (o.Part n bracket msb_at msb lsb_at lsb)

  at_unary : (op : UnaryOperator) (x : Expr) → openings_of names (e.Unary op x) ≡ openings_of names x
  at_unary op x = ap (openings_of names) (sym (e.rolls-Unary op x)) ∙ para-roll-Expr (List Site) (opening_step names) (o.Unary op x)

  at_cast : (sign : Cast) (x : Expr) → openings_of names (e.Cast sign x) ≡ openings_of names x
  at_cast sign x = ap (openings_of names) (sym (e.rolls-Cast sign x)) ∙ para-roll-Expr (List Site) (opening_step names) (o.Cast sign x)

  at_conditional : (c x y : Expr) → openings_of names (e.Conditional c x y) ≡ openings_of names c ++ openings_of names x ++ openings_of names y
  at_conditional c x y = ap (openings_of names) (sym (e.rolls-Conditional c x y)) ∙ para-roll-Expr (List Site) (opening_step names) (o.Conditional c x y)

  abbrev link_openings : BinaryOperator × Expr → List Site
  link_openings link = openings_of names link.1

  at_links : (links : List (BinaryOperator × Expr)) →
      links_sites (map (λ (l : BinaryOperator × Expr). (l.0, (l.1, openings_of names l.1))) links) ≡ flat_map link_openings links
  at_links [] = refl
  at_links (l ∷ ls) = ap (λ (r : List Site). openings_of names l.1 ++ r) (at_links ls) ∙ sym (flat_map-cons link_openings l ls)

  -- an operand alone is no chain
  at_chain : (x : Expr) (links : List (BinaryOperator × Expr)) → openings_of names (chain x links) ≡ openings_of names x ++ flat_map link_openings links
  at_chain x [] = sym (append-nil (openings_of names x))
  at_chain x (link ∷ links) =
      ap (openings_of names) (sym (e.rolls-Chain x (link ∷ links))) ∙ para-roll-Expr (List Site) (opening_step names) (o.Chain x (link ∷ links))
      ∙ ap (λ (r : List Site). openings_of names x ++ r) (at_links (link ∷ links))

  at_parts : (parts : List Expr) → parts_sites (map (λ (y : Expr). (y, openings_of names y)) parts) ≡ flat_map (openings_of names) parts
  at_parts [] = refl
  at_parts (x ∷ xs) = ap (λ (r : List Site). openings_of names x ++ r) (at_parts xs) ∙ sym (flat_map-cons (openings_of names) x xs)

  at_concat : (brace : ℕ) (parts : List Expr) → openings_of names (e.Concat brace parts) ≡ flat_map (openings_of names) parts
  at_concat brace parts =
      ap (openings_of names) (sym (e.rolls-Concat brace parts)) ∙ para-roll-Expr (List Site) (opening_step names) (o.Concat brace parts) ∙ at_parts parts

  at_replicate : (brace at inner : ℕ) (count : Expr) (parts : List Expr) → openings_of names (e.Replicate brace at count inner parts) ≡ flat_map (openings_of names) parts
  at_replicate brace at inner count parts =
      ap (openings_of names) (sym (e.rolls-Replicate brace at count inner parts)) ∙ para-roll-Expr (List Site) (opening_step names) (o.Replicate brace at count inner parts)
      ∙ at_parts parts

  -- ---- productions over expressions

  abbrev pub WithinExpr : Rule Expr → Type 0
  WithinExpr expr = Within expr (openings_of names)

  pub within_placed : {expr : Rule Expr} → WithinExpr expr → Within (placed expr) (λ x. openings_of names x.expr)
  within_placed p = within_whole (behind_then within_here λ at. behind_bind p λ x. behind_yields refl)

  -- the bounds of a range are constant
  pub within_range : {expr : Rule Expr} → WithinExpr expr → Within (IsRange expr) (λ _. [])
  within_range p = within_whole
      (behind_then within_token λ bracket. behind_then (within_none (within_placed p)) λ msb. behind_then within_token λ _.
      behind_then (within_none (within_placed p)) λ lsb. behind_then within_token λ _. behind_yields refl)

  within_leaf : WithinExpr IsLeaf
  within_leaf = within_or
      (within_whole (behind_then within_ident λ n. behind_yields (at_name n)))
      (within_whole (behind_bind within_number λ n. behind_yields (at_number n)))

  -- a select is where its name is
  within_select : {expr : Rule Expr} → WithinExpr expr → WithinExpr (IsSelect expr)
  within_select p = record {
    takes = λ before after x d.
        let index : Expr = d.3.3.1 in
        let close = d.3.3.3 in
        let own : Site = select_opening names d.1 index in
        let is : openings_of names x ≡ own ∷ (openings_of names index ++ []) =
        ap (openings_of names) close.3.1 ∙ at_select d.1 d.3.1 index ∙ ap (λ (r : List Site). own ∷ r) (sym (append-nil (openings_of names index))) in
        subst (λ (r : List Site). Takes before after r) (sym is)
        (takes_more (takes_one before d.0 _ own refl d.2) (takes_more (takes_token d.0 d.3.0 _ d.3.2)
        (takes_more (p.takes d.3.0 d.3.3.0 index d.3.3.2) (takes_more (takes_token d.3.3.0 close.0 _ close.2) (takes_none close.0 after close.3.0)))));
  }

  within_part : {expr : Rule Expr} → WithinExpr expr → WithinExpr (IsPart expr)
  within_part p = within_whole (behind_then within_ident λ n. behind_then (within_range p) λ r.
      behind_yields (at_part n r.bracket r.msb.at r.lsb.at r.msb.expr r.lsb.expr))

  within_group : {expr : Rule Expr} → WithinExpr expr → WithinExpr (IsGroup expr)
  within_group p = within_whole (behind_then within_token λ _. behind_bind p λ x. behind_then within_token λ _. behind_yields refl)

  within_concat : {expr : Rule Expr} → WithinExpr expr → WithinExpr (IsConcat expr)
  within_concat p = within_whole (behind_then within_token λ brace. behind_bind (within_listed p) λ parts. behind_then within_token λ _. behind_yields (at_concat brace parts))

  within_replicate : {expr : Rule Expr} → WithinExpr expr → WithinExpr (IsReplicate expr)
  within_replicate p = within_whole
      (behind_then within_token λ brace. behind_then (within_none (within_placed p)) λ count. behind_then within_token λ inner. behind_bind (within_listed p) λ parts.
      behind_then within_token λ _. behind_then within_token λ _. behind_yields (at_replicate brace count.at inner count.expr parts))

  within_recast : {expr : Rule Expr} → WithinExpr expr → WithinExpr (IsCast expr)
  within_recast p = within_whole
      (behind_then within_cast λ sign. behind_then within_token λ _. behind_bind p λ x. behind_then within_token λ _. behind_yields (at_cast sign x))

  within_prefixed : {operand : Rule Expr} → WithinExpr operand → WithinExpr (IsPrefixed operand)
  within_prefixed p = within_whole (behind_then within_prefix λ op. behind_bind p λ x. behind_yields (at_unary op x))

  within_operand_over : {operand expr : Rule Expr} → WithinExpr operand → WithinExpr expr → WithinExpr (IsOperandOver operand expr)
  within_operand_over p q =
      within_or within_leaf (within_or (within_select q) (within_or (within_part q) (within_or (within_group q)
      (within_or (within_concat q) (within_or (within_replicate q) (within_or (within_recast q) (within_prefixed p)))))))

  within_link : {operand : Rule Expr} {rank : ℕ} → WithinExpr operand → Within (between rank >>= λ op. operand >>= λ x. yields (op, x)) link_openings
  within_link p = within_whole (behind_then within_between λ op. behind_bind p λ x. behind_yields refl)

  within_binary : {operand : Rule Expr} → WithinExpr operand → (rank : ℕ) → WithinExpr (IsBinary operand rank)
  within_binary p zero = p
  within_binary p (suc rank) = within_whole
      (behind_bind (within_binary p rank) λ first. behind_bind (within_many (within_link (within_binary p rank))) λ others. behind_yields (at_chain first others))

  within_conditional : {condition arm : Rule Expr} → WithinExpr condition → WithinExpr arm → WithinExpr (IsConditional condition arm)
  within_conditional p q = within_whole
      (behind_bind p λ c. behind_then within_token λ _. behind_bind q λ one. behind_then within_token λ _. behind_bind q λ other. behind_yields (at_conditional c one other))

  within_levels : (levels : ℕ) → WithinExpr (IsOperand levels) × WithinExpr (IsExpr levels)
  unfolding nested
  within_levels zero = (within_leaf, within_binary within_leaf 10)
  within_levels (suc levels) =
      let below = within_levels levels in
      let operand : WithinExpr (IsOperandOver (IsOperand levels) (IsExpr levels)) = within_operand_over below.0 below.1 in
      let condition : WithinExpr (IsBinary (IsOperandOver (IsOperand levels) (IsExpr levels)) 10) = within_binary operand 10 in
      (operand, within_or condition (within_conditional condition below.1))

  pub within_expr : (levels : ℕ) → WithinExpr (IsExpr levels)
  within_expr levels = (within_levels levels).1
