-- The readers of single tokens read what the grammar calls by their names.
use Rattle.std.proofs.Common.{◌≡◌, ℕ, Bool, true, false, cond, eqb, ◌||◌, get_or, List, [], ◌∷◌, Option, None, Some, Result, Ok, Err, refl, sym, ap, subst, ◌∙◌, inl, inr, arith}
use Rattle.std.proofs.lemmas.Bool.{eqb-true, eq-eqb}
use Rattle.v_syntax.specs.declared.token.Token.{Token}
use Rattle.v_syntax.specs.declared.token.Ident.{Ident}
use Rattle.v_syntax.specs.declared.token.Cast.{Cast}
use Rattle.v_syntax.specs.declared.token.Lexeme.{Lexeme}
use Rattle.v_syntax.specs.declared.token.Lexeme.TheVariants as l
use Rattle.v_syntax.specs.declared.token.Mark.{Mark}
use Rattle.v_syntax.specs.declared.token.Mark.TheVariants as m
use Rattle.v_syntax.specs.declared.token.Keyword.{Keyword}
use Rattle.v_syntax.specs.declared.token.Keyword.TheVariants as k
use Rattle.v_syntax.specs.declared.expr.UnaryOperator.{UnaryOperator}
use Rattle.v_syntax.specs.declared.expr.BinaryOperator.{BinaryOperator}
use Rattle.v_syntax.specs.Rule.{Rule, token, mark, word, ident, here}
use Rattle.v_syntax.specs.Grammar.{decimal, based, cast, prefix, between, unary_of, binary_of, rank_of}
use Rattle.v_parser.specs.Reading.{Reader, mark_code, word_code, kind, kind_at, mark_at, word_at, here_at, ident_at, named, next_in}
use Rattle.v_parser.specs.Exprs.{decimal_in, based_in, cast_in, prefix_in, between_in, of_rank, found, found_at, decimal_at, based_at, cast_at, prefix_at, between_at}
use Rattle.v_parser.proofs.Exact.{SameNext, Kept, Stopped, Reads, reads_same, reads_as, ok_value, ok_rest, err_rest, chosen}

-- ---- one token in which a view finds something

abbrev pub one : {A : Type 0} → Option A → List Token → List Token → Result (A × List Token) (List Token)
one None after all = Err all
one (Some a) after all = Ok (a, after)

abbrev pub single : {A : Type 0} → (Token → Option A) → Reader A
single view [] = Err []
single view (t ∷ tokens) = one (view t) tokens (t ∷ tokens)

abbrev pub Single : {A : Type 0} → (Token → Option A) → Rule A
Single view before after a = (t : Token) × (before ≡ t ∷ after) × (view t ≡ Some a)

one_ok : {A : Type 0} (o : Option A) (after all rest : List Token) (a : A) → one o after all ≡ Ok (a, rest) → (o ≡ Some a) × (after ≡ rest)
one_ok None after all rest a e = absurd cc
one_ok (Some b) after all rest a e = (ap (λ x. Some x) (ok_value b a after rest e), ok_rest b a after rest e)

one_err : {A : Type 0} (o : Option A) (after all at : List Token) → one o after all ≡ Err at → (o ≡ None) × (all ≡ at)
one_err None after all at e = (refl, err_rest all at e)
one_err (Some b) after all at e = absurd cc

single_sound : {A : Type 0} (view : Token → Option A) (before after : List Token) (a : A) → single view before ≡ Ok (a, after) → Single view before after a
single_sound view [] after a e = absurd cc
single_sound view (t ∷ l) after a e = let x = one_ok (view t) l (t ∷ l) after a e in (t, ap (λ m. t ∷ m) x.1, x.0)

single_whole : {A : Type 0} (view : Token → Option A) (before after : List Token) (a : A) → Single view before after a → single view before ≡ Ok (a, after)
single_whole view before after a h = ap (single view) h.1 ∙ ap (λ o. one o after (h.0 ∷ after)) h.2

single_kept : {A : Type 0} (view : Token → Option A) (before after : List Token) (a : A) → single view before ≡ Ok (a, after) → Kept 1 (single view) before after a
single_kept view before after a e =
    let h = single_sound view before after a e in
    record { front = h.0 ∷ []; split = h.1; long = omega arith; again = λ other same. ap (λ o. one o other (h.0 ∷ other)) h.2 }

stop_again : {A : Type 0} (view : Token → Option A) (t : Token) (l other : List Token) → view t ≡ None → SameNext (t ∷ l) other → single view other ≡ Err other
stop_again view t l [] miss same = absurd same
stop_again view t l (u ∷ other) miss same = ap (λ o. one o other (u ∷ other)) (ap view (sym same) ∙ miss)

single_stopped : {A : Type 0} (view : Token → Option A) (before at : List Token) → single view before ≡ Err at → Stopped (single view) before at
single_stopped {A = A} view [] at e = record { front = []; split = err_rest {A = A} [] at e; again = λ other same. end_again (subst (λ x. SameNext x other) (sym (err_rest {A = A} [] at e)) same) }
  where
    end_again : {other : List Token} → SameNext [] other → single view other ≡ Err other
    end_again {other = []} same = refl
    end_again {other = u ∷ other} same = absurd same
single_stopped view (t ∷ l) at e =
    let x = one_err (view t) l (t ∷ l) at e in
    record { front = []; split = x.1; again = λ other same. stop_again view t l other x.0 (subst (λ y. SameNext y other) (sym x.1) same) }

pub reads_single : {A : Type 0} (c : ℕ → Bool) (view : Token → Option A) → Reads (Single view) c 1 (single view)
reads_single c view = record {
  sound = single_sound view;
  whole = λ before after a h fin. single_whole view before after a h;
  kept = single_kept view;
  stopped = single_stopped view;
}

token_is : (t : Token) (x : Lexeme) (at : ℕ) → t.lexeme ≡ x → t.at ≡ at → t ≡ record { lexeme = x; at = at }
token_is t x at p q = ap (λ (y : Lexeme). made y t.at) p ∙ ap (λ (n : ℕ). made x n) q
  where
    made : Lexeme → ℕ → Token
    made y n = record { lexeme = y; at = n }

-- ---- tokens of one kind

some : Lexeme → Option Lexeme
some x = Some x

-- the lexemes by their kinds, where the kind says it all
abbrev lexemes : List (Option Lexeme)
lexemes =
    Some (l.Mark m.OpenParen) ∷
    Some (l.Mark m.CloseParen) ∷
    Some (l.Mark m.OpenBracket) ∷
    Some (l.Mark m.CloseBracket) ∷
    Some (l.Mark m.OpenBrace) ∷
    Some (l.Mark m.CloseBrace) ∷
    Some (l.Mark m.Semicolon) ∷
    Some (l.Mark m.Colon) ∷
    Some (l.Mark m.Comma) ∷
    Some (l.Mark m.Dot) ∷
    Some (l.Mark m.Hash) ∷
    Some (l.Mark m.At) ∷
    Some (l.Mark m.Question) ∷
    Some (l.Mark m.Equal) ∷
    Some (l.Mark m.Plus) ∷
    Some (l.Mark m.Minus) ∷
    Some (l.Mark m.Star) ∷
    Some (l.Mark m.Bang) ∷
    Some (l.Mark m.Tilde) ∷
    Some (l.Mark m.Ampersand) ∷
    Some (l.Mark m.Bar) ∷
    Some (l.Mark m.Caret) ∷
    Some (l.Mark m.Less) ∷
    Some (l.Mark m.Greater) ∷
    Some (l.Mark m.AndAnd) ∷
    Some (l.Mark m.OrOr) ∷
    Some (l.Mark m.EqualEqual) ∷
    Some (l.Mark m.BangEqual) ∷
    Some (l.Mark m.LessEqual) ∷
    Some (l.Mark m.GreaterEqual) ∷
    Some (l.Mark m.ShiftLeft) ∷
    Some (l.Mark m.ShiftRight) ∷
    Some (l.Mark m.ShiftLeftSigned) ∷
    Some (l.Mark m.ShiftRightSigned) ∷
    Some (l.Mark m.TildeAmpersand) ∷
    Some (l.Mark m.TildeBar) ∷
    Some (l.Mark m.TildeCaret) ∷
    Some (l.Mark m.CaretTilde) ∷
    None ∷
    None ∷
    Some (l.Keyword k.Module) ∷
    Some (l.Keyword k.Endmodule) ∷
    Some (l.Keyword k.Input) ∷
    Some (l.Keyword k.Output) ∷
    Some (l.Keyword k.Wire) ∷
    Some (l.Keyword k.Reg) ∷
    Some (l.Keyword k.Signed) ∷
    Some (l.Keyword k.Parameter) ∷
    Some (l.Keyword k.Localparam) ∷
    Some (l.Keyword k.Assign) ∷
    Some (l.Keyword k.Always) ∷
    Some (l.Keyword k.Posedge) ∷
    Some (l.Keyword k.Begin) ∷
    Some (l.Keyword k.End) ∷
    Some (l.Keyword k.If) ∷
    Some (l.Keyword k.Else) ∷
    Some (l.Keyword k.Case) ∷
    Some (l.Keyword k.Casez) ∷
    Some (l.Keyword k.Endcase) ∷
    Some (l.Keyword k.Default) ∷
    []

mark_lexeme : (x : Mark) → get_or lexemes (mark_code x) None ≡ Some (l.Mark x)
mark_lexeme m.OpenParen = refl
mark_lexeme m.CloseParen = refl
mark_lexeme m.OpenBracket = refl
mark_lexeme m.CloseBracket = refl
mark_lexeme m.OpenBrace = refl
mark_lexeme m.CloseBrace = refl
mark_lexeme m.Semicolon = refl
mark_lexeme m.Colon = refl
mark_lexeme m.Comma = refl
mark_lexeme m.Dot = refl
mark_lexeme m.Hash = refl
mark_lexeme m.At = refl
mark_lexeme m.Question = refl
mark_lexeme m.Equal = refl
mark_lexeme m.Plus = refl
mark_lexeme m.Minus = refl
mark_lexeme m.Star = refl
mark_lexeme m.Bang = refl
mark_lexeme m.Tilde = refl
mark_lexeme m.Ampersand = refl
mark_lexeme m.Bar = refl
mark_lexeme m.Caret = refl
mark_lexeme m.Less = refl
mark_lexeme m.Greater = refl
mark_lexeme m.AndAnd = refl
mark_lexeme m.OrOr = refl
mark_lexeme m.EqualEqual = refl
mark_lexeme m.BangEqual = refl
mark_lexeme m.LessEqual = refl
mark_lexeme m.GreaterEqual = refl
mark_lexeme m.ShiftLeft = refl
mark_lexeme m.ShiftRight = refl
mark_lexeme m.ShiftLeftSigned = refl
mark_lexeme m.ShiftRightSigned = refl
mark_lexeme m.TildeAmpersand = refl
mark_lexeme m.TildeBar = refl
mark_lexeme m.TildeCaret = refl
mark_lexeme m.CaretTilde = refl

word_lexeme : (x : Keyword) → get_or lexemes (word_code x) None ≡ Some (l.Keyword x)
word_lexeme k.Module = refl
word_lexeme k.Endmodule = refl
word_lexeme k.Input = refl
word_lexeme k.Output = refl
word_lexeme k.Wire = refl
word_lexeme k.Reg = refl
word_lexeme k.Signed = refl
word_lexeme k.Parameter = refl
word_lexeme k.Localparam = refl
word_lexeme k.Assign = refl
word_lexeme k.Always = refl
word_lexeme k.Posedge = refl
word_lexeme k.Begin = refl
word_lexeme k.End = refl
word_lexeme k.If = refl
word_lexeme k.Else = refl
word_lexeme k.Case = refl
word_lexeme k.Casez = refl
word_lexeme k.Endcase = refl
word_lexeme k.Default = refl

some_same : (x y : Lexeme) → ◌≡◌ {A = Option Lexeme} (Some x) (Some y) → x ≡ y
some_same x y e = cc

-- a lexeme that a kind says all of is the only one of its kind
only_one : (x y : Lexeme) → get_or lexemes (kind x) None ≡ Some x → kind y ≡ kind x → y ≡ x
only_one x (l.Mark z) says same = some_same (l.Mark z) x (sym (mark_lexeme z) ∙ ap (λ n. get_or lexemes n None) same ∙ says)
only_one x (l.Keyword z) says same = some_same (l.Keyword z) x (sym (word_lexeme z) ∙ ap (λ n. get_or lexemes n None) same ∙ says)
only_one x (l.Identifier name) says same = let e : None ≡ Some x = ap (λ n. get_or lexemes n None) same ∙ says in absurd cc
only_one x (l.Decimal bytes) says same = let e : None ≡ Some x = ap (λ n. get_or lexemes n None) same ∙ says in absurd cc
only_one x (l.Based bytes) says same = let e : None ≡ Some x = ap (λ n. get_or lexemes n None) same ∙ says in absurd cc
only_one x (l.Cast sign) says same = let e : None ≡ Some x = ap (λ n. get_or lexemes n None) same ∙ says in absurd cc
only_one x (l.Reserved name) says same = let e : None ≡ Some x = ap (λ n. get_or lexemes n None) same ∙ says in absurd cc

abbrev place_if : ℕ → Token → Option ℕ
place_if n t = cond (eqb (kind t.lexeme) n) (Some t.at) None

cond_some : (b : Bool) (at n : ℕ) → cond b (Some at) None ≡ Some n → (b ≡ true) × (at ≡ n)
cond_some true at n e = (refl, cc)
cond_some false at n e = absurd cc

one_cond : (b : Bool) (at : ℕ) (after all : List Token) → cond b (Ok (at, after)) (Err all) ≡ one (cond b (Some at) None) after all
one_cond true at after all = refl
one_cond false at after all = refl

kind_single : (n : ℕ) (tokens : List Token) → kind_at n tokens ≡ single (place_if n) tokens
unfolding kind_at
kind_single n [] = refl
kind_single n (t ∷ tokens) = one_cond (eqb (kind t.lexeme) n) t.at tokens (t ∷ tokens)

reads_token : (c : ℕ → Bool) (x : Lexeme) → get_or lexemes (kind x) None ≡ Some x → Reads (token x) c 1 (kind_at (kind x))
reads_token c x says = reads_as (reads_same (reads_single c (place_if (kind x)))
    (λ before after at h. let e = cond_some (eqb (kind h.0.lexeme) (kind x)) h.0.at at h.2 in
    h.1 ∙ ap (λ t. t ∷ after) (token_is h.0 x at (only_one x h.0.lexeme says (eqb-true _ _ e.0)) e.1))
    (λ before after at h. (record { lexeme = x; at = at }, h, ap (λ b. cond b (Some at) None) (eq-eqb (kind x) (kind x) refl))))
    (kind_single (kind x))

pub reads_mark : (c : ℕ → Bool) (x : Mark) → Reads (mark x) c 1 (mark_at x)
reads_mark c x = reads_token c (l.Mark x) (mark_lexeme x)

pub reads_word : (c : ℕ → Bool) (x : Keyword) → Reads (word x) c 1 (word_at x)
reads_word c x = reads_token c (l.Keyword x) (word_lexeme x)

pub mark_here : (x : Mark) (before after : List Token) (at : ℕ) → mark x before after at → next_in (mark_code x ∷ []) before ≡ true
mark_here x before after at h = ap (next_in (mark_code x ∷ [])) h ∙ either (eqb (mark_code x) (mark_code x)) (eq-eqb _ _ refl)
  where
    either : (b : Bool) → b ≡ true → (b || false) ≡ true
    either true e = refl
    either false e = absurd cc

pub word_here : (x : Keyword) (before after : List Token) (at : ℕ) → word x before after at → next_in (word_code x ∷ []) before ≡ true
word_here x before after at h = ap (next_in (word_code x ∷ [])) h ∙ either (eqb (word_code x) (word_code x)) (eq-eqb _ _ refl)
  where
    either : (b : Bool) → b ≡ true → (b || false) ≡ true
    either true e = refl
    either false e = absurd cc

-- ---- names, numbers, casts and operators

abbrev name_in : Lexeme → ℕ → Option Ident
name_in (l.Identifier name) at = Some (record { name = name; at = at })
name_in (l.Keyword x) at = None
name_in (l.Reserved name) at = None
name_in (l.Cast sign) at = None
name_in (l.Decimal bytes) at = None
name_in (l.Based bytes) at = None
name_in (l.Mark x) at = None

named_one : (x : Lexeme) (at : ℕ) (after all : List Token) → named x at after all ≡ one (name_in x at) after all
named_one (l.Identifier name) at after all = refl
named_one (l.Keyword x) at after all = refl
named_one (l.Reserved name) at after all = refl
named_one (l.Cast sign) at after all = refl
named_one (l.Decimal bytes) at after all = refl
named_one (l.Based bytes) at after all = refl
named_one (l.Mark x) at after all = refl

ident_single : (tokens : List Token) → ident_at tokens ≡ single (λ t. name_in t.lexeme t.at) tokens
unfolding ident_at
ident_single [] = refl
ident_single (t ∷ tokens) = named_one t.lexeme t.at tokens (t ∷ tokens)

ident_of : (x : Lexeme) (at : ℕ) (i : Ident) → name_in x at ≡ Some i → (x ≡ l.Identifier i.name) × (at ≡ i.at)
ident_of (l.Identifier name) at i e = let p : ◌≡◌ {A = Ident} (record { name = name; at = at }) i = cc in (ap (λ (j : Ident). l.Identifier j.name) p, ap (λ (j : Ident). j.at) p)
ident_of (l.Keyword x) at i e = absurd cc
ident_of (l.Reserved name) at i e = absurd cc
ident_of (l.Cast sign) at i e = absurd cc
ident_of (l.Decimal bytes) at i e = absurd cc
ident_of (l.Based bytes) at i e = absurd cc
ident_of (l.Mark x) at i e = absurd cc

pub reads_ident : (c : ℕ → Bool) → Reads ident c 1 ident_at
reads_ident c = reads_as (reads_same (reads_single c (λ t. name_in t.lexeme t.at))
    (λ before after i h. let e = ident_of h.0.lexeme h.0.at i h.2 in h.1 ∙ ap (λ t. t ∷ after) (token_is h.0 (l.Identifier i.name) i.at e.0 e.1))
    (λ before after i h. (record { lexeme = l.Identifier i.name; at = i.at }, h, refl)))
    ident_single

abbrev place_of : {A : Type 0} → Option A → ℕ → Option (ℕ × A)
place_of None at = None
place_of (Some a) at = Some (at, a)

found_at_one : {A : Type 0} (o : Option A) (at : ℕ) (after all : List Token) → found_at o at after all ≡ one (place_of o at) after all
found_at_one None at after all = refl
found_at_one (Some a) at after all = refl

found_one : {A : Type 0} (o : Option A) (after all : List Token) → found o after all ≡ one o after all
found_one None after all = refl
found_one (Some a) after all = refl

place_parts : {A : Type 0} (o : Option A) (at : ℕ) (d : ℕ × A) → place_of o at ≡ Some d → (o ≡ Some d.1) × (at ≡ d.0)
place_parts None at d e = absurd cc
place_parts {A = A} (Some a) at d e = let p : ◌≡◌ {A = ℕ × A} (at, a) d = cc in (ap (λ (x : ℕ × A). Some x.1) p, ap (λ (x : ℕ × A). x.0) p)

decimal_single : (tokens : List Token) → decimal_at tokens ≡ single (λ t. place_of (decimal_in t.lexeme) t.at) tokens
unfolding decimal_at
decimal_single [] = refl
decimal_single (t ∷ tokens) = found_at_one (decimal_in t.lexeme) t.at tokens (t ∷ tokens)

based_single : (tokens : List Token) → based_at tokens ≡ single (λ t. place_of (based_in t.lexeme) t.at) tokens
unfolding based_at
based_single [] = refl
based_single (t ∷ tokens) = found_at_one (based_in t.lexeme) t.at tokens (t ∷ tokens)

cast_single : (tokens : List Token) → cast_at tokens ≡ single (λ t. cast_in t.lexeme) tokens
unfolding cast_at
cast_single [] = refl
cast_single (t ∷ tokens) = found_one (cast_in t.lexeme) tokens (t ∷ tokens)

prefix_single : (tokens : List Token) → prefix_at tokens ≡ single (λ t. prefix_in t.lexeme) tokens
unfolding prefix_at
prefix_single [] = refl
prefix_single (t ∷ tokens) = found_one (prefix_in t.lexeme) tokens (t ∷ tokens)

between_single : (rank : ℕ) (tokens : List Token) → between_at rank tokens ≡ single (λ t. between_in rank t.lexeme) tokens
unfolding between_at
between_single rank [] = refl
between_single rank (t ∷ tokens) = found_one (between_in rank t.lexeme) tokens (t ∷ tokens)

decimal_of : (x : Lexeme) (bytes : List ℕ) → decimal_in x ≡ Some bytes → x ≡ l.Decimal bytes
decimal_of (l.Identifier name) bytes e = absurd cc
decimal_of (l.Keyword x) bytes e = absurd cc
decimal_of (l.Reserved name) bytes e = absurd cc
decimal_of (l.Cast sign) bytes e = absurd cc
decimal_of (l.Decimal b) bytes e = ap (λ (y : List ℕ). l.Decimal y) (cc)
decimal_of (l.Based b) bytes e = absurd cc
decimal_of (l.Mark x) bytes e = absurd cc

based_of : (x : Lexeme) (bytes : List ℕ) → based_in x ≡ Some bytes → x ≡ l.Based bytes
based_of (l.Identifier name) bytes e = absurd cc
based_of (l.Keyword x) bytes e = absurd cc
based_of (l.Reserved name) bytes e = absurd cc
based_of (l.Cast sign) bytes e = absurd cc
based_of (l.Decimal b) bytes e = absurd cc
based_of (l.Based b) bytes e = ap (λ (y : List ℕ). l.Based y) (cc)
based_of (l.Mark x) bytes e = absurd cc

cast_of : (x : Lexeme) (sign : Cast) → cast_in x ≡ Some sign → x ≡ l.Cast sign
cast_of (l.Identifier name) sign e = absurd cc
cast_of (l.Keyword x) sign e = absurd cc
cast_of (l.Reserved name) sign e = absurd cc
cast_of (l.Cast s) sign e = ap (λ (y : Cast). l.Cast y) (cc)
cast_of (l.Decimal bytes) sign e = absurd cc
cast_of (l.Based bytes) sign e = absurd cc
cast_of (l.Mark x) sign e = absurd cc

prefix_of : (x : Lexeme) (op : UnaryOperator) → prefix_in x ≡ Some op → (y : Mark) × (x ≡ l.Mark y) × (unary_of y ≡ Some op)
prefix_of (l.Identifier name) op e = absurd cc
prefix_of (l.Keyword x) op e = absurd cc
prefix_of (l.Reserved name) op e = absurd cc
prefix_of (l.Cast sign) op e = absurd cc
prefix_of (l.Decimal bytes) op e = absurd cc
prefix_of (l.Based bytes) op e = absurd cc
prefix_of (l.Mark x) op e = (x, refl, e)

rank_parts : (o : Option BinaryOperator) (rank : ℕ) (op : BinaryOperator) → of_rank rank o ≡ Some op → (o ≡ Some op) × (rank_of op ≡ rank)
rank_parts None rank op e = absurd cc
rank_parts (Some x) rank op e = elim (chosen (eqb (rank_of x) rank) (Some x) None (Some op) e) [
  | inl h ↦ let p : x ≡ op = some_op x op h.1 in (ap (λ (y : BinaryOperator). Some y) p, ap rank_of (sym p) ∙ eqb-true _ _ h.0)
  | inr h ↦ absurd (none_op op h.1)
]
  where
    some_op : (x y : BinaryOperator) → ◌≡◌ {A = Option BinaryOperator} (Some x) (Some y) → x ≡ y
    some_op x y e = cc

    none_op : (y : BinaryOperator) → ◌≡◌ {A = Option BinaryOperator} None (Some y) → ⊥
    none_op y e = cc

rank_whole : (rank : ℕ) (o : Option BinaryOperator) (op : BinaryOperator) → o ≡ Some op → rank_of op ≡ rank → of_rank rank o ≡ Some op
rank_whole rank o op is ranked = ap (of_rank rank) is ∙ ap (λ b. cond b (Some op) None) (eq-eqb (rank_of op) rank ranked)

between_of : (rank : ℕ) (x : Lexeme) (op : BinaryOperator) → between_in rank x ≡ Some op → (y : Mark) × (x ≡ l.Mark y) × (binary_of y ≡ Some op) × (rank_of op ≡ rank)
between_of rank (l.Identifier name) op e = absurd cc
between_of rank (l.Keyword x) op e = absurd cc
between_of rank (l.Reserved name) op e = absurd cc
between_of rank (l.Cast sign) op e = absurd cc
between_of rank (l.Decimal bytes) op e = absurd cc
between_of rank (l.Based bytes) op e = absurd cc
between_of rank (l.Mark x) op e = let h = rank_parts (binary_of x) rank op e in (x, refl, h.0, h.1)

pub reads_decimal : (c : ℕ → Bool) → Reads decimal c 1 decimal_at
reads_decimal c = reads_as (reads_same (reads_single c (λ t. place_of (decimal_in t.lexeme) t.at))
    (λ before after d h. let e = place_parts (decimal_in h.0.lexeme) h.0.at d h.2 in
    h.1 ∙ ap (λ t. t ∷ after) (token_is h.0 (l.Decimal d.1) d.0 (decimal_of h.0.lexeme d.1 e.0) e.1))
    (λ before after d h. (record { lexeme = l.Decimal d.1; at = d.0 }, h, refl)))
    decimal_single

pub reads_based : (c : ℕ → Bool) → Reads based c 1 based_at
reads_based c = reads_as (reads_same (reads_single c (λ t. place_of (based_in t.lexeme) t.at))
    (λ before after d h. let e = place_parts (based_in h.0.lexeme) h.0.at d h.2 in
    h.1 ∙ ap (λ t. t ∷ after) (token_is h.0 (l.Based d.1) d.0 (based_of h.0.lexeme d.1 e.0) e.1))
    (λ before after d h. (record { lexeme = l.Based d.1; at = d.0 }, h, refl)))
    based_single

pub reads_sign : (c : ℕ → Bool) → Reads cast c 1 cast_at
reads_sign c = reads_as (reads_same (reads_single c (λ t. cast_in t.lexeme))
    (λ before after sign h. (h.0.at, h.1 ∙ ap (λ t. t ∷ after) (token_is h.0 (l.Cast sign) h.0.at (cast_of h.0.lexeme sign h.2) refl)))
    (λ before after sign h. (record { lexeme = l.Cast sign; at = h.0 }, h.1, refl)))
    cast_single

pub reads_prefix : (c : ℕ → Bool) → Reads prefix c 1 prefix_at
reads_prefix c = reads_as (reads_same (reads_single c (λ t. prefix_in t.lexeme))
    (λ before after op h. let e = prefix_of h.0.lexeme op h.2 in (e.0, h.0.at, h.1 ∙ ap (λ t. t ∷ after) (token_is h.0 (l.Mark e.0) h.0.at e.1 refl), e.2))
    (λ before after op h. (record { lexeme = l.Mark h.0; at = h.1 }, h.2, h.3)))
    prefix_single

pub reads_between : (c : ℕ → Bool) (rank : ℕ) → Reads (between rank) c 1 (between_at rank)
reads_between c rank = reads_as (reads_same (reads_single c (λ t. between_in rank t.lexeme))
    (λ before after op h. let e = between_of rank h.0.lexeme op h.2 in (e.0, h.0.at, h.1 ∙ ap (λ t. t ∷ after) (token_is h.0 (l.Mark e.0) h.0.at e.1 refl), e.2, e.3))
    (λ before after op h. (record { lexeme = l.Mark h.0; at = h.1 }, h.2, rank_whole rank (binary_of h.0) op h.3 h.4)))
    (between_single rank)

-- ---- the place of the next token

here_sound : (before after : List Token) (at : ℕ) → here_at before ≡ Ok (at, after) → here before after at
unfolding here_at
here_sound [] after at e = absurd cc
here_sound (t ∷ l) after at e =
    (ok_rest t.at at (t ∷ l) after e, (t.lexeme, l, ap (λ x. x ∷ l) (token_is t t.lexeme at refl (ok_value t.at at (t ∷ l) after e))))

here_whole : (before after : List Token) (at : ℕ) → here before after at → here_at before ≡ Ok (at, after)
unfolding here_at
here_whole before after at h = ap here_at h.1.2 ∙ ap (λ l. Ok (at, l)) (sym h.1.2 ∙ h.0)

here_kept : (before after : List Token) (at : ℕ) → here_at before ≡ Ok (at, after) → Kept 0 here_at before after at
unfolding here_at
here_kept [] after at e = absurd cc
here_kept (t ∷ l) after at e = record {
  front = [];
  split = ok_rest t.at at (t ∷ l) after e;
  long = omega arith;
  again = λ other same. here_again other (subst (λ x. SameNext x other) (sym (ok_rest t.at at (t ∷ l) after e)) same);
}
  where
    here_again : (other : List Token) → SameNext (t ∷ l) other → here_at other ≡ Ok (at, other)
    here_again [] same = absurd same
    here_again (u ∷ other) same = ap (λ n. Ok (n, u ∷ other)) (ap (λ (x : Token). x.at) (sym same) ∙ ok_value t.at at (t ∷ l) after e)

here_stopped : (before at : List Token) → here_at before ≡ Err at → Stopped here_at before at
unfolding here_at
here_stopped [] at e = record { front = []; split = err_rest {A = ℕ} [] at e; again = λ other same. here_end other (subst (λ x. SameNext x other) (sym (err_rest {A = ℕ} [] at e)) same) }
  where
    here_end : (other : List Token) → SameNext [] other → here_at other ≡ Err other
    here_end [] same = refl
    here_end (u ∷ other) same = absurd same
here_stopped (t ∷ l) at e = absurd cc

pub reads_here : (c : ℕ → Bool) → Reads here c 0 here_at
reads_here c = record { sound = here_sound; whole = λ before after at h fin. here_whole before after at h; kept = here_kept; stopped = here_stopped }
