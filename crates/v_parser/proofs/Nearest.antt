-- An else belongs to the nearest if: the readers of statements at each depth.
use Rattle.std.proofs.Common.{◌≡◌, ℕ, zero, suc, Bool, true, false, List, [], ◌∷◌, Ok, Err, refl, ap, ◌∙◌, inl, inr, arith}
use Rattle.v_syntax.specs.declared.token.Token.{Token}
use Rattle.v_syntax.specs.declared.token.Mark.TheVariants as m
use Rattle.v_syntax.specs.declared.token.Keyword.TheVariants as k
use Rattle.v_syntax.specs.declared.expr.Expr.{Expr}
use Rattle.v_syntax.specs.declared.stmt.Stmt.{Stmt}
use Rattle.v_syntax.specs.declared.stmt.Stmt.TheVariants as s
use Rattle.v_syntax.specs.Rule.{Rule, ◌>>=◌, ◌>>◌, ◌<|>◌, yields, word}
use Rattle.v_syntax.specs.StmtGrammar.{IsCondition, IsFlat, IsSimple, IsStmt}
use Rattle.v_parser.specs.Reading as read
use Rattle.v_parser.specs.Reading.{Reader, then_read, gives, choose, mark_code, word_code, kind, next, next_in, among, mark_at, word_at, repeated, is_comma, more_at, listed_at}
use Rattle.v_parser.specs.Stmts.{begins, ifs, elses, condition_at, after_else_at, else_at, branches_at, if_at, simple_at, stmt_at}
use Rattle.v_parser.proofs.Exact.{Reads, Begins, reads_bind, reads_then, reads_yields, reads_choose, reads_same, reads_same_at, reads_given, Given, reads_closed, begins_bind, begins_or, begins_among, none, apart, silent, others, nothing, next_none, bind_ok, chosen, choose_true, choose_false, ok_rest}
use Rattle.v_parser.proofs.Single.{reads_word}
use Rattle.v_parser.proofs.Primaries.{begins_mark}
use Rattle.v_parser.proofs.TargetRules.{begins_word}
use Rattle.v_parser.proofs.Simple.{reads_condition, reads_flat, reads_simple, begins_simple, simple_kinds, stmt_kinds, stmt_goes, begins_assign}

abbrev AfterElse : Rule Stmt → Rule Stmt
AfterElse stmt = word k.Else >> stmt

abbrev ElseForm : Rule Stmt → Expr → Stmt → Rule Stmt
ElseForm stmt condition one = AfterElse stmt >>= λ other. yields (s.IfElse condition one other)

reads_after_else : {stmt : Rule Stmt} {c : ℕ → Bool} {f : Reader Stmt} → Reads stmt c 1 f → Reads (AfterElse stmt) c 1 (after_else_at f)
unfolding after_else_at
reads_after_else p = reads_then (reads_word none k.Else) λ _. p

reads_else : {stmt : Rule Stmt} {c : ℕ → Bool} {f : Reader Stmt} (condition : Expr) (one : Stmt) → Reads stmt c 1 f → Reads (ElseForm stmt condition one) c 1 (else_at f condition one)
unfolding else_at
reads_else {c = c} condition one p = reads_bind (reads_after_else p) (λ other. reads_yields c (s.IfElse condition one other)) (silent c)

-- What is known of the statements of a depth. What is read before an else is closed, and what is closed is read, whatever follows.
pub record ReadsStmt (d : ℕ) : Type 0 where
  pub read_open : Reads (IsStmt d false) stmt_goes 1 (stmt_at d)
  pub begins_open : Begins (IsStmt d false) stmt_kinds
  pub closed_sound : (before after : List Token) (x : Stmt) → stmt_at d before ≡ Ok (x, after) → next_in elses after ≡ true → IsStmt d true before after x
  pub closed_whole : (before after : List Token) (x : Stmt) → IsStmt d true before after x → stmt_at d before ≡ Ok (x, after)

abbrev BranchForm : ℕ → Expr → Rule Stmt
BranchForm d condition = (IsStmt d true >>= λ one. ElseForm (IsStmt d false) condition one) <|> (IsStmt d false >>= λ one. yields (s.If condition one))

abbrev BranchGiven : ℕ → Expr → Rule Stmt
BranchGiven d condition = Given (stmt_at d) >>= λ one. (ElseForm (IsStmt d false) condition one <|> yields (s.If condition one))

branch_to : (d : ℕ) (condition : Expr) → ReadsStmt d → (before after : List Token) (x : Stmt) → BranchGiven d condition before after x → BranchForm d condition before after x
branch_to d condition p before after x (n, one, given, inl h) = inl (n, one, p.closed_sound before n one given ((begins_word k.Else).first n h.2.0 h.2.1 h.2.2), h)
branch_to d condition p before after x (n, one, given, inr h) = inr (n, one, p.read_open.sound before n one given, h)

branch_from : (d : ℕ) (condition : Expr) → ReadsStmt d → (before after : List Token) (x : Stmt) → BranchForm d condition before after x → next stmt_goes after ≡ false → BranchGiven d condition before after x
branch_from d condition p before after x (inl (n, one, h, rest)) fin = (n, one, p.closed_whole before n one h, inl rest)
branch_from d condition p before after x (inr (n, one, h, rest)) fin = (n, one, p.read_open.whole before n one h (ap (next stmt_goes) rest.0 ∙ fin), inr rest)

reads_branches : (d : ℕ) (condition : Expr) → ReadsStmt d → Reads (BranchForm d condition) stmt_goes 1 (branches_at (stmt_at d) condition)
unfolding branches_at
reads_branches d condition p = reads_same_at
    (reads_then (reads_given p.read_open) λ one. reads_choose 0 elses (reads_else condition one p.read_open) (reads_yields stmt_goes (s.If condition one)) (omega arith) (omega arith)
    (begins_bind (begins_bind (begins_word k.Else))) (nothing elses (λ rest fin. fin)))
    (branch_to d condition p) (branch_from d condition p)

abbrev IfForm : ℕ → Rule Stmt
IfForm d = word k.If >> (IsCondition >>= λ condition. BranchForm d condition)

reads_if : (d : ℕ) → ReadsStmt d → Reads (IfForm d) stmt_goes 1 (if_at (stmt_at d))
unfolding if_at
reads_if d p = reads_then (reads_word none k.If) λ _. reads_then reads_condition λ condition. reads_branches d condition p

stmt_to : (d : ℕ) (before after : List Token) (x : Stmt) → (IfForm d <|> IsSimple (IsStmt d false)) before after x → IsStmt (suc d) false before after x
unfolding IsStmt
stmt_to d before after x (inl (n, at, h, (n2, condition, hc, inl (n3, one, h1, (n5, other, (n4, at2, he, h2), rest))))) = inr (inl (n, at, h, (n2, condition, hc, (n3, one, h1, (n4, at2, he, (n5, other, h2, rest))))))
stmt_to d before after x (inl (n, at, h, (n2, condition, hc, inr rest))) = inr (inr (n, at, h, (n2, condition, hc, rest)))
stmt_to d before after x (inr h) = inl h

stmt_from : (d : ℕ) (before after : List Token) (x : Stmt) → IsStmt (suc d) false before after x → (IfForm d <|> IsSimple (IsStmt d false)) before after x
unfolding IsStmt
stmt_from d before after x (inl h) = inr h
stmt_from d before after x (inr (inl (n, at, h, (n2, condition, hc, (n3, one, h1, (n4, at2, he, (n5, other, h2, rest))))))) = inl (n, at, h, (n2, condition, hc, inl (n3, one, h1, (n5, other, (n4, at2, he, h2), rest))))
stmt_from d before after x (inr (inr (n, at, h, (n2, condition, hc, rest)))) = inl (n, at, h, (n2, condition, hc, inr rest))

both_ways : (b : Bool) → b ≡ true → b ≡ false → ⊥
both_ways true p q = cc
both_ways false p q = cc

-- if and else are read before an else: both parts are closed
if_closed : (d : ℕ) → ReadsStmt d → (before after : List Token) (x : Stmt) → if_at (stmt_at d) before ≡ Ok (x, after) → next_in elses after ≡ true → IsStmt (suc d) true before after x
unfolding IsStmt if_at branches_at
if_closed d p before after x e goes =
    let f = stmt_at d in
    let b1 = bind_ok (word_at k.If before) (λ _. read.◌>>=◌ condition_at (branches_at f)) (Err []) x after e in
    let b2 = bind_ok (condition_at b1.1) (branches_at f) (Err []) x after b1.3 in
    let c = b2.0 in
    let b3 = bind_ok (f b2.1) (λ one. choose elses (else_at f c one) (gives (s.If c one))) (Err []) x after b2.3 in
    let one = b3.0 in
    elim (chosen (next_in elses b3.1) (else_at f c one b3.1) (Ok (s.If c one, b3.1)) (Ok (x, after)) b3.3) [
      | inl y ↦
          let h = (reads_else c one (reads_given p.read_open)).sound b3.1 after x y.1 in
          inr (inl (
            b1.1,
            b1.0,
            (reads_word none k.If).sound before b1.1 b1.0 b1.2,
            (
              b2.1,
              c,
              reads_condition.sound b1.1 b2.1 c b2.2,
              (
                b3.1,
                one,
                p.closed_sound b2.1 b3.1 one b3.2 y.0,
                (h.2.0, h.2.1, h.2.2, (h.0, h.1, p.closed_sound h.2.0 h.0 h.1 h.2.3 (ap (next_in elses) h.3.0 ∙ goes), h.3)),
              ),
            ),
          ))
      | inr y ↦ absurd (both_ways (next_in elses b3.1) (ap (next_in elses) (ok_rest (s.If c one) x b3.1 after y.1) ∙ goes) y.0)
    ]

simple_first : (d : ℕ) (before after : List Token) (x : Stmt) → IsSimple (IsStmt d false) before after x → next_in ifs before ≡ false
simple_first d before after x h = apart (λ y. among y ifs) simple_kinds before refl ((begins_simple (IsStmt d false)).first before after x h)

deep_sound : (d : ℕ) → ReadsStmt d → (before after : List Token) (x : Stmt) → stmt_at (suc d) before ≡ Ok (x, after) → next_in elses after ≡ true → IsStmt (suc d) true before after x
unfolding IsStmt stmt_at
deep_sound d p before after x e goes = elim (chosen (next_in ifs before) (if_at (stmt_at d) before) (simple_at (stmt_at d) before) (Ok (x, after)) e) [
  | inl y ↦ if_closed d p before after x y.1 goes
  | inr y ↦ inl ((reads_simple p.begins_open p.read_open).sound before after x y.1)
]

deep_whole : (d : ℕ) → ReadsStmt d → (before after : List Token) (x : Stmt) → IsStmt (suc d) true before after x → stmt_at (suc d) before ≡ Ok (x, after)
unfolding IsStmt stmt_at if_at branches_at
deep_whole d p before after x (inr (inr h)) = absurd h
deep_whole d p before after x (inl h) =
    choose_false ifs (if_at (stmt_at d)) (simple_at (stmt_at d)) before (simple_first d before after x h) ∙ (reads_simple p.begins_open p.read_open).whole before after x h (next_none after)
deep_whole d p before after x (inr (inl (n, at, h, (n2, c, hc, (n3, one, h1, (n4, at2, he, (n5, other, h2, rest))))))) =
    let f = stmt_at d in
    choose_true ifs (if_at f) (simple_at f) before ((begins_word k.If).first before n at h)
    ∙ ap (λ y. then_read y (λ _. read.◌>>=◌ condition_at (branches_at f))) ((reads_word none k.If).whole before n at h (next_none n))
    ∙ ap (λ y. then_read y (branches_at f)) (reads_condition.whole n n2 c hc (next_none n2))
    ∙ ap (λ y. then_read y (λ z. choose elses (else_at f c z) (gives (s.If c z)))) (p.closed_whole n2 n3 one h1)
    ∙ choose_true elses (else_at f c one) (gives (s.If c one)) n3 ((begins_word k.Else).first n3 n4 at2 he)
    ∙ (reads_else c one (reads_given p.read_open)).whole n3 after x (n5, other, (n4, at2, he, p.closed_whole n4 n5 other h2), rest) (next_none after)

flat_begins : Begins IsFlat stmt_kinds
flat_begins = begins_or (begins_among (6 ∷ []) stmt_kinds refl (begins_bind (begins_mark m.Semicolon)))
    (begins_or (begins_among begins stmt_kinds refl (begins_bind (begins_word k.Begin))) (begins_among (60 ∷ 4 ∷ []) stmt_kinds refl begins_assign))

pub reads_stmt : (d : ℕ) → ReadsStmt d
unfolding IsStmt stmt_at
reads_stmt zero = record {
  read_open = reads_closed stmt_goes reads_flat;
  begins_open = flat_begins;
  closed_sound = λ before after x e goes. reads_flat.sound before after x e;
  closed_whole = λ before after x h. reads_flat.whole before after x h (next_none after);
}
reads_stmt (suc d) =
    let p = reads_stmt d in
    record {
      read_open = reads_same
          (reads_choose 1 ifs (reads_if d p) (reads_closed stmt_goes (reads_simple p.begins_open p.read_open)) (omega arith) (omega arith)
          (begins_bind (begins_word k.If)) (others ifs simple_kinds refl (begins_simple (IsStmt d false))))
          (stmt_to d) (stmt_from d);
      begins_open = begins_or (begins_among simple_kinds stmt_kinds refl (begins_simple (IsStmt d false)))
          (begins_or (begins_among ifs stmt_kinds refl (begins_bind (begins_word k.If))) (begins_among ifs stmt_kinds refl (begins_bind (begins_word k.If))));
      closed_sound = deep_sound d p;
      closed_whole = deep_whole d p;
    }
