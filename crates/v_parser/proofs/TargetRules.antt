-- The readers of targets read the grammar's targets.
use Rattle.std.proofs.Common.{ℕ, zero, suc, Bool, List, [], ◌∷◌, refl, ap, ◌∙◌, inl, inr, arith}
use Rattle.v_syntax.specs.declared.token.Token.{Token}
use Rattle.v_syntax.specs.declared.token.Ident.{Ident}
use Rattle.v_syntax.specs.declared.token.Mark.TheVariants as m
use Rattle.v_syntax.specs.declared.token.Keyword.{Keyword}
use Rattle.v_syntax.specs.declared.expr.Expr.{Expr}
use Rattle.v_syntax.specs.declared.expr.Placed.{Placed}
use Rattle.v_syntax.specs.declared.expr.Range.{Range}
use Rattle.v_syntax.specs.declared.stmt.Target.{Target}
use Rattle.v_syntax.specs.declared.stmt.Target.TheVariants as t
use Rattle.v_syntax.specs.Rule.{Rule, ◌>>=◌, ◌>>◌, ◌<|>◌, yields, mark, word, ident}
use Rattle.v_syntax.specs.Grammar.{inner_levels, placed}
use Rattle.v_syntax.specs.StmtGrammar.{IsWhole, IsPlace, IsBraced, IsTarget}
use Rattle.v_parser.specs.Reading.{Reader, word_code, among}
use Rattle.v_parser.specs.Exprs.{identifiers, only}
use Rattle.v_parser.specs.Stmts.{whole_at, target_part_at, target_index_at, place_at, braced_at, target_at}
use Rattle.v_parser.proofs.Exact.{Reads, Begins, reads_bind, reads_then, reads_yields, reads_choose, reads_same, reads_led, reads_closed, begins_bind, begins_or, begins_among, none, opens, others, nothing}
use Rattle.v_parser.proofs.Single.{reads_mark, reads_ident, word_here}
use Rattle.v_parser.proofs.Many.{reads_listed, list_goes}
use Rattle.v_parser.proofs.Primaries.{begins_mark, begins_ident, expr_goes, expr_kinds, reads_opened, leads_opened, reads_bound, leads_bound}
use Rattle.v_parser.proofs.Operands.{reads_expr, begins_expr, placed_expr, expr_placed}

pub reads_whole : Reads IsWhole expr_goes 1 whole_at
reads_whole = reads_expr inner_levels

pub begins_whole : Begins IsWhole expr_kinds
begins_whole = begins_expr inner_levels

pub begins_word : (x : Keyword) → Begins (word x) (word_code x ∷ [])
begins_word x = record { first = λ before after at h. word_here x before after at h }

abbrev PartForm : Ident → ℕ → Placed → Rule Target
PartForm name bracket msb = mark m.Colon >> (placed IsWhole >>= λ lsb. mark m.CloseBracket >> yields (t.Part name (record { bracket = bracket; msb = msb; lsb = lsb })))

abbrev SelectForm : Ident → ℕ → Expr → Rule Target
SelectForm name bracket index = mark m.CloseBracket >> yields (t.Select name bracket index)

abbrev IndexForm : Ident → Rule Target
IndexForm name = mark m.OpenBracket >>= λ bracket. placed IsWhole >>= λ first. (PartForm name bracket first <|> SelectForm name bracket first.expr)

abbrev PlaceForm : Rule Target
PlaceForm = ident >>= λ name. (IndexForm name <|> yields (t.Name name))

reads_part : (name : Ident) (bracket : ℕ) (msb : Placed) → Reads (PartForm name bracket msb) none 1 (target_part_at name bracket msb)
unfolding target_part_at
reads_part name bracket msb = reads_led leads_bound (reads_then (reads_bound reads_whole) λ lsb. reads_yields none (t.Part name (record { bracket = bracket; msb = msb; lsb = lsb })))

begins_part : (name : Ident) (bracket : ℕ) (msb : Placed) → Begins (PartForm name bracket msb) (7 ∷ [])
begins_part name bracket msb = begins_bind (begins_mark m.Colon)

begins_select : (name : Ident) (bracket : ℕ) (index : Expr) → Begins (SelectForm name bracket index) (3 ∷ [])
begins_select name bracket index = begins_bind (begins_mark m.CloseBracket)

reads_index : (name : Ident) → Reads (IndexForm name) none 1 (target_index_at name)
unfolding target_index_at
reads_index name = reads_led leads_opened
    (reads_bind (reads_opened reads_whole) (λ inner. reads_choose 1 (only m.Colon)
    (reads_part name inner.0 inner.1)
    (reads_then (reads_mark none m.CloseBracket) λ _. reads_yields none (t.Select name inner.0 inner.1.expr)) (omega arith) (omega arith)
    (begins_part name inner.0 inner.1)
    (others (only m.Colon) (3 ∷ []) refl (begins_select name inner.0 inner.1.expr)))
    (opens expr_goes (7 ∷ 3 ∷ []) refl (λ inner.
    begins_or (begins_among (7 ∷ []) (7 ∷ 3 ∷ []) refl (begins_part name inner.0 inner.1)) (begins_among (3 ∷ []) (7 ∷ 3 ∷ []) refl (begins_select name inner.0 inner.1.expr)))))

abbrev pub target_goes : ℕ → Bool
target_goes x = among x (2 ∷ [])

place_to : (before after : List Token) (x : Target) → PlaceForm before after x → IsPlace before after x
place_to before after x (m, name, hi, inr rest) = inl (m, name, hi, rest)
place_to before after x (m, name, hi, inl (m2, bracket, hb, (m3, first, hp, inl (m4, c, hc, (m5, lsb, hl, (m6, d, hd, (ends, is))))))) =
    inr (inr (m, name, hi, (after, record { bracket = bracket; msb = first; lsb = lsb }, (m2, bracket, hb, (m3, first, hp, (m4, c, hc, (m5, lsb, hl, (m6, d, hd, (ends, refl)))))), (refl, is))))
place_to before after x (m, name, hi, inl (m2, bracket, hb, (m3, first, hp, inr (m4, c, hc, rest)))) =
    inr (inl (m, name, hi, (m2, bracket, hb, (m3, first.expr, placed_expr m2 m3 first hp, (m4, c, hc, rest)))))

place_from : (before after : List Token) (x : Target) → IsPlace before after x → PlaceForm before after x
place_from before after x (inl (m, name, hi, rest)) = (m, name, hi, inr rest)
place_from before after x (inr (inl (m, name, hi, (m2, bracket, hb, (m3, index, he, rest))))) =
    let p = expr_placed begins_whole m2 m3 index he in (m, name, hi, inl (m2, bracket, hb, (m3, record { at = p.0; expr = index }, p.1, inr rest)))
place_from before after x (inr (inr (m, name, hi, (n, range, (m2, bracket, hb, (m3, msb, hp, (m4, c, hc, (m5, lsb, hl, (m6, d, hd, (ends, isr)))))), (ends2, is))))) =
    (m, name, hi, inl (m2, bracket, hb, (m3, msb, hp, inl (m4, c, hc, (m5, lsb, hl, (m6, d, hd, (ends ∙ ends2, is ∙ ap (λ (y : Range). t.Part name y) isr)))))))

reads_place : Reads IsPlace target_goes 1 place_at
unfolding place_at
reads_place = reads_same
    (reads_then (reads_ident none) λ name. reads_choose 0 (only m.OpenBracket)
    (reads_closed target_goes (reads_index name))
    (reads_yields target_goes (t.Name name)) (omega arith) (omega arith)
    (begins_bind (begins_mark m.OpenBracket))
    (nothing (only m.OpenBracket) (λ l fin. fin)))
    place_to place_from

begins_place : Begins IsPlace identifiers
begins_place = begins_or (begins_bind begins_ident) (begins_or (begins_bind begins_ident) (begins_bind begins_ident))

reads_braced : {target : Rule Target} {f : Reader Target} → Reads target target_goes 1 f → Reads (IsBraced target) none 1 (braced_at f)
unfolding braced_at
reads_braced p =
    reads_then (reads_mark none m.OpenBrace) λ brace.
    reads_bind (reads_listed target_goes refl p) (λ parts. reads_then (reads_mark none m.CloseBrace) λ _. reads_yields none (t.Concat brace parts))
    (opens (list_goes target_goes) (5 ∷ []) refl (λ parts. begins_bind (begins_mark m.CloseBrace)))

pub reads_target : (levels : ℕ) → Reads (IsTarget levels) target_goes 1 (target_at levels)
unfolding IsTarget target_at
reads_target zero = reads_place
reads_target (suc levels) = reads_choose 1 (only m.OpenBrace) (reads_closed target_goes (reads_braced (reads_target levels))) reads_place (omega arith) (omega arith)
    (begins_bind (begins_mark m.OpenBrace)) (others (only m.OpenBrace) identifiers refl begins_place)

pub begins_target : (levels : ℕ) → Begins (IsTarget levels) (60 ∷ 4 ∷ [])
unfolding IsTarget
begins_target zero = begins_among identifiers (60 ∷ 4 ∷ []) refl begins_place
begins_target (suc levels) = begins_or (begins_among (4 ∷ []) (60 ∷ 4 ∷ []) refl (begins_bind (begins_mark m.OpenBrace))) (begins_among identifiers (60 ∷ 4 ∷ []) refl begins_place)
