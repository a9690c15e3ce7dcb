-- Worked rows of weights.
use Rattle.std.proofs.Common.{◌≡◌, ap, sym, ◌∙◌, ℕ, ◌+◌, List, [], ◌∷◌, arith, Bool, true, false, None, codes}
use Rattle.v_syntax.specs.declared.expr.Number.{Number}
use Rattle.v_syntax.specs.declared.expr.Spelling.TheVariants as n
use Rattle.v_syntax.specs.declared.expr.Expr.{Expr}
use Rattle.v_syntax.specs.declared.expr.Expr.TheVariants as e
use Rattle.v_syntax.specs.declared.expr.BinaryOperator.{BinaryOperator}
use Rattle.v_syntax.specs.declared.expr.BinaryOperator.TheVariants as b
use Rattle.v_syntax.specs.declared.stmt.Stmt.{Stmt}
use Rattle.v_syntax.specs.declared.stmt.Stmt.TheVariants as s
use Rattle.v_syntax.specs.declared.stmt.Stmt.TheOpen as o
use Rattle.v_syntax.specs.declared.stmt.Stmt.TheFolds.{fold-roll-Stmt}
use Rattle.v_meaning.specs.Literals.{literal_of}
use Rattle.v_meaning.specs.Senses.{Sense, class_of}
use Rattle.v_meaning.specs.declared.names.Kind.{Kind}
use Rattle.v_meaning.specs.declared.names.Kind.TheVariants.{Input, Variable}
use Rattle.v_meaning.specs.declared.names.Entry.{Entry}
use Rattle.v_meaning.specs.Names.{entry_of, read}
use Rattle.v_meaning.specs.Expressions.{sense_step, sense_of, constant_step, is_constant, number_sense, open_at}
use Rattle.v_meaning.specs.Weights.{Weighed, weighed_by, weight_step, weight_at, condition_weight, stmt_weight_step, stmt_weight, ArmWeight}
use Rattle.v_meaning.proofs.Variants.{fold_number, fold_name, para_number, para_name, para_chain}

-- input [7:0] v, output [3:0] q
abbrev entry : List ℕ → Kind → ℕ → Entry
entry name kind width = record { name = name; at = 0; kind = kind; width = width; signed = false; low = 0; is_vector = true; first = None }

abbrev names : List Entry
names = entry (codes "v") (Input 0) 8 ∷ entry (codes "q") (Variable 0) 4 ∷ []

abbrev v : Expr
v = e.Name (record { name = codes "v"; at = 7 })

abbrev digit : Number
digit = record { at = 9; spelling = n.Decimal (codes "1") }

abbrev one : Expr
one = e.Number digit

abbrev weighs : Sense → (ℕ → ℕ) → Weighed
weighs x weight = record { width = x.width; at = weight }

-- x op y
two : (op : BinaryOperator) (x y : Expr) (fixed : Bool) (a c : Sense) (f g : ℕ → ℕ) →
    is_constant names y ≡ fixed → sense_of names [] x ≡ a → sense_of names [] y ≡ c → weight_at names x ≡ f → weight_at names y ≡ g →
    weight_at names (e.Chain x ((op, y) ∷ [])) ≡ (weighed_by (class_of op) op fixed (weighs a f) (weighs c g)).at
two op x y fixed a c f g p q r s t =
    para_chain (weight_step names) x ((op, y) ∷ [])
    ∙ ap (λ (z : Bool). (weighed_by (class_of op) op z (weighs (sense_of names [] x) (weight_at names x)) (weighs (sense_of names [] y) (weight_at names y))).at) p
    ∙ ap (λ (z : Sense). (weighed_by (class_of op) op fixed (weighs z (weight_at names x)) (weighs (sense_of names [] y) (weight_at names y))).at) q
    ∙ ap (λ (z : Sense). (weighed_by (class_of op) op fixed (weighs a (weight_at names x)) (weighs z (weight_at names y))).at) r
    ∙ ap (λ (z : ℕ → ℕ). (weighed_by (class_of op) op fixed (weighs a z) (weighs c (weight_at names y))).at) s
    ∙ ap (λ (z : ℕ → ℕ). (weighed_by (class_of op) op fixed (weighs a f) (weighs c z)).at) t

v_sense : sense_of names [] v ≡ read (entry_of names (codes "v"))
v_sense = fold_name (sense_step names []) _

v_weight : weight_at names v ≡ (λ width. 0)
v_weight = para_name (weight_step names) _

one_sense : sense_of names [] one ≡ number_sense (literal_of digit.spelling) (open_at [] 9)
one_sense = fold_number (sense_step names []) digit

one_weight : weight_at names one ≡ (λ width. 0)
one_weight = para_number (weight_step names) digit

one_constant : is_constant names one ≡ true
one_constant = fold_number (constant_step names) digit

-- ---- final widths: v + v in a net of 4 bits is a sum of 8 bits

sum_weight : weight_at names (e.Chain v ((b.Add, v) ∷ [])) 8 ≡ 8
sum_weight = ap (λ (f : ℕ → ℕ). f 8) (two b.Add v v false _ _ _ _ (fold_name (constant_step names) _) v_sense v_sense v_weight v_weight)

product_weight : weight_at names (e.Chain v ((b.Multiply, v) ∷ [])) 8 ≡ 64
product_weight = ap (λ (f : ℕ → ℕ). f 8) (two b.Multiply v v false _ _ _ _ (fold_name (constant_step names) _) v_sense v_sense v_weight v_weight)

-- ---- a constant amount weighs what its operators weigh: 1 + 1 has 32 bits

abbrev one_and_one : Expr
one_and_one = e.Chain one ((b.Add, one) ∷ [])

amount_weight : weight_at names one_and_one 32 ≡ 32
amount_weight = ap (λ (f : ℕ → ℕ). f 32) (two b.Add one one true _ _ _ _ one_constant one_sense one_sense one_weight one_weight)

-- a shift by an amount that is no constant weighs its width times the amount's width
shift_weight : weight_at names (e.Chain v ((b.ShiftLeft, v) ∷ [])) 8 ≡ 64
shift_weight = ap (λ (f : ℕ → ℕ). f 8) (two b.ShiftLeft v v false _ _ _ _ (fold_name (constant_step names) _) v_sense v_sense v_weight v_weight)

fixed_shift_weight : weight_at names (e.Chain v ((b.ShiftLeft, one) ∷ [])) 8 ≡ 0
fixed_shift_weight = ap (λ (f : ℕ → ℕ). f 8) (two b.ShiftLeft v one true _ _ _ _ one_constant v_sense one_sense v_weight one_weight)

comparison_weight : weight_at names (e.Chain v ((b.Less, one) ∷ [])) 1 ≡ 32
comparison_weight = ap (λ (f : ℕ → ℕ). f 1) (two b.Less v one true _ _ _ _ one_constant v_sense one_sense v_weight one_weight)

-- ---- each if encloses what stands in it, also behind its else

condition : condition_weight names v ≡ 8
condition =
    ap (λ (x : Sense). x.width + weight_at names v x.width) v_sense ∙ ap (λ (f : ℕ → ℕ). 8 + f 8) v_weight

enclosed : (inner : Stmt) (weight : ℕ → ℕ) → stmt_weight names inner ≡ weight →
    stmt_weight names (s.IfElse v s.Null (s.If v inner)) 0 ≡ 16 + weight 2
enclosed inner weight is =
    ap (λ (f : ℕ → ℕ). f 0) (ap (stmt_weight names) (sym (s.rolls-IfElse v s.Null (s.If v inner)))
    ∙ fold-roll-Stmt (ℕ → ℕ) ArmWeight (stmt_weight_step names) (λ arm. record { label = arm.label; body = arm.body }) (o.IfElse v s.Null (s.If v inner)))
    ∙ ap (λ (f : ℕ → ℕ). condition_weight names v + f 1 + stmt_weight names (s.If v inner) 1)
    (ap (stmt_weight names) (sym s.rolls-Null) ∙ fold-roll-Stmt (ℕ → ℕ) ArmWeight (stmt_weight_step names) (λ arm. record { label = arm.label; body = arm.body }) o.Null)
    ∙ ap (λ (f : ℕ → ℕ). condition_weight names v + 0 + f 1)
    (ap (stmt_weight names) (sym (s.rolls-If v inner))
    ∙ fold-roll-Stmt (ℕ → ℕ) ArmWeight (stmt_weight_step names) (λ arm. record { label = arm.label; body = arm.body }) (o.If v inner))
    ∙ ap (λ (c : ℕ). c + 0 + (c + stmt_weight names inner 2)) condition
    ∙ ap (λ (f : ℕ → ℕ). 8 + 0 + (8 + f 2)) is
    ∙ omega arith
