-- Worked rows of expressions of the source: what they mean, which are constant, their sites and their weights.
use Rattle.std.proofs.Common.{◌≡◌, ap, ◌∙◌, ℕ, List, [], ◌∷◌, ◌++◌, Bool, true, false, ◌&&◌, if◌then◌else◌, None, is_some, codes}
use Rattle.v_syntax.specs.declared.token.Ident.{Ident}
use Rattle.v_syntax.specs.declared.expr.Expr.{Expr}
use Rattle.v_syntax.specs.declared.expr.Expr.TheVariants as e
use Rattle.v_syntax.specs.declared.expr.Expr.TheOpen as o
use Rattle.v_syntax.specs.declared.expr.Number.{Number}
use Rattle.v_syntax.specs.declared.expr.Spelling.TheVariants as s
use Rattle.v_syntax.specs.declared.expr.BinaryOperator.{BinaryOperator}
use Rattle.v_syntax.specs.declared.expr.BinaryOperator.TheVariants as b
use Rattle.v_meaning.specs.Views.{View}
use Rattle.v_meaning.specs.Literals.{literal_of}
use Rattle.v_meaning.specs.Senses.{Sense, Logical, constant, own, assigned, operated, replicated, joined}
use Rattle.v_meaning.specs.declared.names.Kind.TheVariants.{Input}
use Rattle.v_meaning.specs.declared.names.Entry.{Entry}
use Rattle.v_meaning.specs.Names.{entry_of, read, selected, within_entry, or_zero}
use Rattle.v_meaning.specs.Expressions.{sense_step, sense_of, number_sense, open_at, constant_step, is_constant}
use Rattle.v_meaning.specs.Sites.{Site, is_fixed, site_step, sites_of}
use Rattle.v_meaning.specs.Weights.{Weighed, weighed_by, weight_step, weight_at}
use Rattle.v_meaning.proofs.Variants.{fold_number, fold_name, fold_select, fold_chain, fold_replicate, para_number, para_name, para_select, para_chain}

-- ---- a module's names: input signed [3:0] s, input [3:0] u, input [1:0] i, input [15:0] w, input [7:0] v

abbrev input : List ℕ → ℕ → ℕ → Bool → Entry
input name k width signed =
    record { name = name; at = 0; kind = Input k; width = width; signed = signed; low = 0; is_vector = true; first = None }

abbrev names : List Entry
names =
    input (codes "s") 0 4 true ∷ input (codes "u") 1 4 false ∷ input (codes "i") 2 2 false ∷ input (codes "w") 3 16 false
    ∷ input (codes "v") 4 8 false ∷ []

abbrev called : List ℕ → ℕ → Ident
called name at = record { name = name; at = at }

abbrev var : List ℕ → Expr
var name = e.Name (called name 7)

abbrev sized : List ℕ → List ℕ → Number
sized size digits = record { at = 9; spelling = s.Sized size digits }

abbrev plain : List ℕ → Number
plain digits = record { at = 9; spelling = s.Decimal digits }

-- ---- one level of an expression

-- x op y
two : (sites : List ℕ) (op : BinaryOperator) (x y : Expr) (a b : Sense) → sense_of names sites x ≡ a → sense_of names sites y ≡ b →
    sense_of names sites (e.Chain x ((op, y) ∷ [])) ≡ operated op a b
two sites op x y a b p q =
    fold_chain (sense_step names sites) x ((op, y) ∷ []) ∙ ap (λ (z : Sense). operated op z (sense_of names sites y)) p ∙ ap (operated op a) q

name_is : (sites name : List ℕ) → sense_of names sites (var name) ≡ read (entry_of names name)
name_is sites name = fold_name (sense_step names sites) (called name 7)

number_is : (sites : List ℕ) (n : Number) → sense_of names sites (e.Number n) ≡ number_sense (literal_of n.spelling) (open_at sites n.at)
number_is sites n = fold_number (sense_step names sites) n

select_is : (sites name : List ℕ) (index : Expr) (a : Sense) → sense_of names sites index ≡ a →
    sense_of names sites (e.Select (called name 5) 6 index) ≡ selected (entry_of names name) a (open_at sites 5)
select_is sites name index a p =
    fold_select (sense_step names sites) (called name 5) 6 index ∙ ap (λ (z : Sense). selected (entry_of names name) z (open_at sites 5)) p

-- ---- shifts: s is 8, and then -1; u is 1, and then 15

abbrev first : View
first = record { inputs = 8 ∷ 1 ∷ 3 ∷ 0 ∷ 0 ∷ []; nets = []; store = record { variables = []; memories = [] }; sites = 1 ∷ [] }

abbrev second : View
second = record { inputs = 15 ∷ 15 ∷ 3 ∷ 1 ∷ 0 ∷ []; nets = []; store = record { variables = []; memories = [] }; sites = 0 ∷ [] }

abbrev shift : Expr
shift = e.Chain (var (codes "s")) ((b.ShiftRightSigned, e.Number (plain (codes "1"))) ∷ [])

shift_is : sense_of names [] shift ≡ operated b.ShiftRightSigned (read (entry_of names (codes "s"))) (number_sense (literal_of (s.Decimal (codes "1"))) (open_at [] 9))
shift_is = two [] b.ShiftRightSigned _ _ _ _ (name_is [] (codes "s")) (number_is [] (plain (codes "1")))

-- s >>> 1 in a target of 8 bits: fc, and then ff
shifted_first : assigned 8 (sense_of names [] shift) first ≡ 252
shifted_first = ap (λ (x : Sense). assigned 8 x first) shift_is

shifted_second : assigned 8 (sense_of names [] shift) second ≡ 255
shifted_second = ap (λ (x : Sense). assigned 8 x second) shift_is

abbrev sum : Expr
sum = e.Chain (var (codes "s")) ((b.Add, var (codes "u")) ∷ [])

sum_is : sense_of names [] sum ≡ operated b.Add (read (entry_of names (codes "s"))) (read (entry_of names (codes "u")))
sum_is = two [] b.Add _ _ _ _ (name_is [] (codes "s")) (name_is [] (codes "u"))

abbrev sum_shift : Expr
sum_shift = e.Chain sum ((b.ShiftRightSigned, e.Number (plain (codes "1"))) ∷ [])

-- (s + u) >>> 1: 04, and then 0f
sum_shift_is : sense_of names [] sum_shift ≡
    operated b.ShiftRightSigned (operated b.Add (read (entry_of names (codes "s"))) (read (entry_of names (codes "u")))) (number_sense (literal_of (s.Decimal (codes "1"))) (open_at [] 9))
sum_shift_is = two [] b.ShiftRightSigned _ _ _ _ sum_is (number_is [] (plain (codes "1")))

sum_first : assigned 8 (sense_of names [] sum_shift) first ≡ 4
sum_first = ap (λ (x : Sense). assigned 8 x first) sum_shift_is

sum_second : assigned 8 (sense_of names [] sum_shift) second ≡ 15
sum_second = ap (λ (x : Sense). assigned 8 x second) sum_shift_is

-- ---- indices: i is 3, and w is 0 and then 1

abbrev next : List ℕ → List ℕ → Expr
next size digits = e.Chain (var (codes "i")) ((b.Add, e.Number (sized size digits)) ∷ [])

next_is : (size digits : List ℕ) → sense_of names (5 ∷ []) (next size digits) ≡
    operated b.Add (read (entry_of names (codes "i"))) (number_sense (literal_of (s.Sized size digits)) (open_at (5 ∷ []) 9))
next_is size digits = two (5 ∷ []) b.Add _ _ _ _ (name_is (5 ∷ []) (codes "i")) (number_is (5 ∷ []) (sized size digits))

-- w[i + 2'd1] wraps at two bits, and so reads bit 0
wrapped : own (sense_of names (5 ∷ []) (e.Select (called (codes "w") 5) 6 (next (codes "2") (codes "'d1")))) second ≡ 1
wrapped = ap (λ (x : Sense). own x second) (select_is (5 ∷ []) (codes "w") _ _ (next_is (codes "2") (codes "'d1")))

-- s[i + 3'd1] is out of range, and shows the bit of the site
out_of_range : own (sense_of names (5 ∷ []) (e.Select (called (codes "s") 5) 6 (next (codes "3") (codes "'d1")))) first ≡ 1
out_of_range = ap (λ (x : Sense). own x first) (select_is (5 ∷ []) (codes "s") _ _ (next_is (codes "3") (codes "'d1")))

-- ---- don't-cares: {4{1'bx}} is 0000 or 1111

abbrev one_x : Number
one_x = sized (codes "1") (codes "'bx")

copied_is : sense_of names (9 ∷ []) (e.Replicate 1 2 (e.Number (plain (codes "4"))) 3 (e.Number one_x ∷ [])) ≡
    replicated (or_zero (constant (number_sense (literal_of (s.Decimal (codes "4"))) (open_at (9 ∷ []) 9))))
    (joined (number_sense (literal_of (s.Sized (codes "1") (codes "'bx"))) (open_at (9 ∷ []) 9) ∷ []))
copied_is =
    fold_replicate (sense_step names (9 ∷ [])) 1 2 (e.Number (plain (codes "4"))) 3 (e.Number one_x ∷ [])
    ∙ ap (λ (c : Sense). replicated (or_zero (constant c)) (joined (sense_of names (9 ∷ []) (e.Number one_x) ∷ []))) (number_is (9 ∷ []) (plain (codes "4")))
    ∙ ap (λ (x : Sense). replicated 4 (joined (x ∷ []))) (number_is (9 ∷ []) one_x)

copied_ones : own (sense_of names (9 ∷ []) (e.Replicate 1 2 (e.Number (plain (codes "4"))) 3 (e.Number one_x ∷ []))) first ≡ 15
copied_ones = ap (λ (x : Sense). own x first) copied_is

copied_zeros : own (sense_of names (9 ∷ []) (e.Replicate 1 2 (e.Number (plain (codes "4"))) 3 (e.Number one_x ∷ []))) second ≡ 0
copied_zeros = ap (λ (x : Sense). own x second) copied_is

-- ---- sites

fixed_is : (entry : Entry) (n : Number) →
    is_fixed names entry (e.Number n) ≡ constant_step names (o.Number n) && is_some (within_entry entry (constant (number_sense (literal_of n.spelling) (open_at [] n.at))))
fixed_is entry n =
    ap (λ (c : Bool). c && is_some (within_entry entry (constant (sense_of names [] (e.Number n))))) (fold_number (constant_step names) n)
    ∙ ap (λ (x : Sense). constant_step names (o.Number n) && is_some (within_entry entry (constant x))) (number_is [] n)

abbrev sites_with : Bool → List Site → List Site
sites_with fixed more = (if fixed then [] else record { at = 5; width = 1 } ∷ []) ++ more

-- w[n]: a site unless the number is in range, and no other
selected_sites : (n : Number) → sites_of names (e.Select (called (codes "w") 5) 6 (e.Number n)) ≡
    sites_with (constant_step names (o.Number n) && is_some (within_entry (entry_of names (codes "w")) (constant (number_sense (literal_of n.spelling) (open_at [] n.at)))))
    (site_step names (o.Number n))
selected_sites n =
    para_select (site_step names) (called (codes "w") 5) 6 (e.Number n)
    ∙ ap (λ (c : Bool). sites_with c (sites_of names (e.Number n))) (fixed_is (entry_of names (codes "w")) n)
    ∙ ap (sites_with _) (para_number (site_step names) n)

-- 4'd9 is a bit of w; 4'sd9 is -7, and so none; an x digit makes no constant expression, also where it is cut off
in_range : sites_of names (e.Select (called (codes "w") 5) 6 (e.Number (sized (codes "4") (codes "'d9")))) ≡ []
in_range = selected_sites (sized (codes "4") (codes "'d9"))

below_range : sites_of names (e.Select (called (codes "w") 5) 6 (e.Number (sized (codes "4") (codes "'sd9")))) ≡ record { at = 5; width = 1 } ∷ []
below_range = selected_sites (sized (codes "4") (codes "'sd9"))

no_constant : sites_of names (e.Select (called (codes "w") 5) 6 (e.Number (sized (codes "1") (codes "'bx0")))) ≡ record { at = 5; width = 1 } ∷ []
no_constant = selected_sites (sized (codes "1") (codes "'bx0"))

-- the select comes before the site in its index
both_sites : sites_of names (e.Select (called (codes "w") 5) 6 (e.Number (sized (codes "2") (codes "'bx")))) ≡
    record { at = 5; width = 1 } ∷ record { at = 9; width = 2 } ∷ []
both_sites = selected_sites (sized (codes "2") (codes "'bx"))

-- ---- weights: of v && v && v the second operator has a left operand of one bit

abbrev thrice : Expr
thrice = e.Chain (var (codes "v")) ((b.AndAlso, var (codes "v")) ∷ (b.AndAlso, var (codes "v")) ∷ [])

abbrev operand_weight : Sense → (ℕ → ℕ) → Weighed
operand_weight x weight = record { width = x.width; at = weight }

abbrev thrice_weight : Bool → Sense → (ℕ → ℕ) → ℕ
thrice_weight fixed x weight =
    (weighed_by Logical b.AndAlso fixed (weighed_by Logical b.AndAlso fixed (operand_weight x weight) (operand_weight x weight)) (operand_weight x weight)).at 1

thrice_is : weight_at names thrice 1 ≡ 25
thrice_is =
    ap (λ (f : ℕ → ℕ). f 1) (para_chain (weight_step names) (var (codes "v")) ((b.AndAlso, var (codes "v")) ∷ (b.AndAlso, var (codes "v")) ∷ []))
    ∙ ap (λ (x : Sense). thrice_weight (is_constant names (var (codes "v"))) x (weight_at names (var (codes "v")))) (name_is [] (codes "v"))
    ∙ ap (thrice_weight (is_constant names (var (codes "v"))) (read (entry_of names (codes "v")))) (para_name (weight_step names) (called (codes "v") 7))
