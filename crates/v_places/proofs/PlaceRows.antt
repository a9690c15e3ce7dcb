-- Worked rows: the openings and sites of the items of
-- module m(input [3:0] a, input i, output x, y, output [1:0] z); assign x = a[0], y = a[i]; assign z = 2'bx; endmodule
use Rattle.std.proofs.Common.{◌≡◌, ℕ, List, [], ◌∷◌, ◌++◌, Bool, true, false, ◌&&◌, if◌then◌else◌, None, is_some, codes, map, refl, sym, ap, ◌∙◌}
use Rattle.v_syntax.specs.declared.token.Ident.{Ident}
use Rattle.v_syntax.specs.declared.expr.Number.{Number}
use Rattle.v_syntax.specs.declared.expr.Spelling.TheVariants as s
use Rattle.v_syntax.specs.declared.expr.Expr.{Expr}
use Rattle.v_syntax.specs.declared.expr.Expr.TheVariants as e
use Rattle.v_syntax.specs.declared.expr.Expr.TheOpen as o
use Rattle.v_syntax.specs.declared.expr.Expr.TheFolds.{fold-roll-Expr, para-roll-Expr}
use Rattle.v_syntax.specs.declared.module.Setting.{Setting}
use Rattle.v_syntax.specs.declared.module.Item.{Item}
use Rattle.v_syntax.specs.declared.module.Item.TheVariants as i
use Rattle.v_meaning.specs.declared.names.Kind.{Kind}
use Rattle.v_meaning.specs.declared.names.Kind.TheVariants.{Input, Net}
use Rattle.v_meaning.specs.declared.names.Entry.{Entry}
use Rattle.v_meaning.specs.Literals.{literal_of}
use Rattle.v_meaning.specs.Names.{entry_of, within_entry}
use Rattle.v_meaning.specs.Senses.{Sense, constant}
use Rattle.v_meaning.specs.Expressions.{constant_step, sense_step, sense_of, number_sense, open_at, is_constant, number_of_place}
use Rattle.v_meaning.specs.Sites.{Site, is_fixed, site_step, sites_of, module_sites}
use Rattle.v_places.specs.Openings.{opening_step, openings_of, module_openings, place_of, bits_read}

-- ---- the module

abbrev word : List ℕ → Kind → ℕ → Entry
word name kind width = record { name = name; at = 0; kind = kind; width = width; signed = false; low = 0; is_vector = true; first = None }

abbrev names : List Entry
names = word (codes "a") (Input 0) 4 ∷ word (codes "i") (Input 1) 1 ∷ word (codes "x") (Net 0) 1 ∷ word (codes "y") (Net 1) 1 ∷ word (codes "z") (Net 2) 2 ∷ []

abbrev called : List ℕ → ℕ → Ident
called name at = record { name = name; at = at }

abbrev nought : Number
nought = record { at = 76; spelling = s.Decimal (codes "0") }

abbrev unknown : Number
unknown = record { at = 101; spelling = s.Sized (codes "2") (codes "'bx") }

abbrev chosen : Ident
chosen = called (codes "i") 86

abbrev first_bit : Expr
first_bit = e.Select (called (codes "a") 74) 75 (e.Number nought)

abbrev some_bit : Expr
some_bit = e.Select (called (codes "a") 84) 85 (e.Name chosen)

abbrev to : List ℕ → ℕ → ℕ → Expr → Setting
to name at value_at x = record { name = called name at; value = record { at = value_at; expr = x } }

abbrev items : List Item
items = i.Assigns (to (codes "x") 70 74 first_bit ∷ to (codes "y") 80 84 some_bit ∷ []) ∷ i.Assigns (to (codes "z") 97 101 (e.Number unknown) ∷ []) ∷ []

abbrev site : ℕ → ℕ → Site
site at width = record { at = at; width = width }

-- ---- its expressions

nought_sense : sense_of names [] (e.Number nought) ≡ number_sense (literal_of nought.spelling) (open_at [] nought.at)
nought_sense = ap (sense_of names []) (sym (e.rolls-Number nought)) ∙ fold-roll-Expr Sense (sense_step names []) (o.Number nought)

-- its index is a constant in range
abbrev constant_in : Bool → Sense → Bool
constant_in is x = is && is_some (within_entry (entry_of names (codes "a")) (constant x))

is_first : is_fixed names (entry_of names (codes "a")) (e.Number nought) ≡ true
is_first =
    ap (λ (c : Bool). constant_in c (sense_of names [] (e.Number nought)))
    (ap (is_constant names) (sym (e.rolls-Number nought)) ∙ fold-roll-Expr Bool (constant_step names) (o.Number nought))
    ∙ ap (constant_in true) nought_sense

-- an input is no constant
is_other : is_fixed names (entry_of names (codes "a")) (e.Name chosen) ≡ false
is_other =
    ap (λ (c : Bool). constant_in c (sense_of names [] (e.Name chosen)))
    (ap (is_constant names) (sym (e.rolls-Name chosen)) ∙ fold-roll-Expr Bool (constant_step names) (o.Name chosen))

abbrev openings_with : Bool → ℕ → List Site → List Site
openings_with fixed at more = site at (if fixed then 0 else 1) ∷ more

abbrev sites_with : Bool → ℕ → List Site → List Site
sites_with fixed at more = (if fixed then [] else site at 1 ∷ []) ++ more

first_openings : openings_of names first_bit ≡ site 74 0 ∷ site 76 0 ∷ []
first_openings =
    ap (openings_of names) (sym (e.rolls-Select (called (codes "a") 74) 75 (e.Number nought)))
    ∙ para-roll-Expr (List Site) (opening_step names) (o.Select (called (codes "a") 74) 75 (e.Number nought))
    ∙ ap (λ (c : Bool). openings_with c 74 (openings_of names (e.Number nought))) is_first
    ∙ ap (openings_with true 74) (ap (openings_of names) (sym (e.rolls-Number nought)) ∙ para-roll-Expr (List Site) (opening_step names) (o.Number nought))

first_sites : sites_of names first_bit ≡ []
first_sites =
    ap (sites_of names) (sym (e.rolls-Select (called (codes "a") 74) 75 (e.Number nought)))
    ∙ para-roll-Expr (List Site) (site_step names) (o.Select (called (codes "a") 74) 75 (e.Number nought))
    ∙ ap (λ (c : Bool). sites_with c 74 (sites_of names (e.Number nought))) is_first
    ∙ ap (sites_with true 74) (ap (sites_of names) (sym (e.rolls-Number nought)) ∙ para-roll-Expr (List Site) (site_step names) (o.Number nought))

other_openings : openings_of names some_bit ≡ site 84 1 ∷ []
other_openings =
    ap (openings_of names) (sym (e.rolls-Select (called (codes "a") 84) 85 (e.Name chosen)))
    ∙ para-roll-Expr (List Site) (opening_step names) (o.Select (called (codes "a") 84) 85 (e.Name chosen))
    ∙ ap (λ (c : Bool). openings_with c 84 (openings_of names (e.Name chosen))) is_other
    ∙ ap (openings_with false 84) (ap (openings_of names) (sym (e.rolls-Name chosen)) ∙ para-roll-Expr (List Site) (opening_step names) (o.Name chosen))

other_sites : sites_of names some_bit ≡ site 84 1 ∷ []
other_sites =
    ap (sites_of names) (sym (e.rolls-Select (called (codes "a") 84) 85 (e.Name chosen)))
    ∙ para-roll-Expr (List Site) (site_step names) (o.Select (called (codes "a") 84) 85 (e.Name chosen))
    ∙ ap (λ (c : Bool). sites_with c 84 (sites_of names (e.Name chosen))) is_other
    ∙ ap (sites_with false 84) (ap (sites_of names) (sym (e.rolls-Name chosen)) ∙ para-roll-Expr (List Site) (site_step names) (o.Name chosen))

unknown_openings : openings_of names (e.Number unknown) ≡ site 101 2 ∷ []
unknown_openings = ap (openings_of names) (sym (e.rolls-Number unknown)) ∙ para-roll-Expr (List Site) (opening_step names) (o.Number unknown)

unknown_sites : sites_of names (e.Number unknown) ≡ site 101 2 ∷ []
unknown_sites = ap (sites_of names) (sym (e.rolls-Number unknown)) ∙ para-roll-Expr (List Site) (site_step names) (o.Number unknown)

-- ---- the module

all_openings : module_openings names items ≡ site 74 0 ∷ site 76 0 ∷ site 84 1 ∷ site 101 2 ∷ []
all_openings = λ i. ((first_openings i ++ (other_openings i ++ [])) ++ ((unknown_openings i ++ []) ++ []))

all_sites : module_sites names items ≡ site 84 1 ∷ site 101 2 ∷ []
all_sites = λ i. ((first_sites i ++ (other_sites i ++ [])) ++ ((unknown_sites i ++ []) ++ []))

-- at a[i], at 2'bx, and at the constants a[0] and 0
reads : map (bits_read (module_sites names items)) (84 ∷ 101 ∷ 74 ∷ 76 ∷ []) ≡ 1 ∷ 2 ∷ 0 ∷ 0 ∷ []
reads = ap (λ (sites : List Site). map (bits_read sites) (84 ∷ 101 ∷ 74 ∷ 76 ∷ [])) all_sites

-- a second site at one byte is not found
hidden : number_of_place (map place_of (site 5 1 ∷ site 5 2 ∷ [])) 5 ≡ 0
hidden = refl
