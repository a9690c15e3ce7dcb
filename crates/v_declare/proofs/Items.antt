-- The faults of each kind of item, and the names behind it.
use Rattle.std.proofs.Common.{◌≡◌, List, flat_map, Bool, Option, Result, Ok, Err, OnOk, sym, ap, ◌∙◌}
use Rattle.lz_base.specs.declared.fault.Stop.{Stop}
use Rattle.v_syntax.specs.declared.expr.Range.{Range}
use Rattle.v_syntax.specs.declared.module.Setting.{Setting}
use Rattle.v_syntax.specs.declared.module.Declared.{Declared}
use Rattle.v_syntax.specs.declared.module.Variable.{Variable}
use Rattle.v_syntax.specs.declared.module.Item.{Item}
use Rattle.v_syntax.specs.declared.module.Item.TheVariants as i
use Rattle.v_meaning.specs.declared.names.Entry.{Entry}
use Rattle.v_meaning.specs.Declarations.{Roles, behind_item}
use Rattle.v_meaning.specs.ConstantRules.{item_faults}
use Rattle.v_declare.specs.Walks.{first_of}
use Rattle.v_declare.specs.Groups.{setting_faults, wires_faults, regs_faults, behind_wires, behind_regs}

pub when_wires : (names : List Entry) (x : Item) (signed : Bool) (range : Option Range) (nets ys : List Declared) → x ≡ i.Wires signed range nets → ys ≡ nets →
    first_of (item_faults names x) ≡ first_of (wires_faults names range ys)
when_wires names x signed range nets ys is p = ap (λ (x : Item). first_of (item_faults names x)) is ∙ ap (λ (l : List Declared). first_of (wires_faults names range l)) (sym p)

pub when_regs : (names : List Entry) (x : Item) (signed : Bool) (range : Option Range) (variables ys : List Variable) → x ≡ i.Regs signed range variables → ys ≡ variables →
    first_of (item_faults names x) ≡ first_of (regs_faults names range ys)
when_regs names x signed range variables ys is p = ap (λ (x : Item). first_of (item_faults names x)) is ∙ ap (λ (l : List Variable). first_of (regs_faults names range l)) (sym p)

pub when_assigns : (names : List Entry) (x : Item) (settings ys : List Setting) → x ≡ i.Assigns settings → ys ≡ settings → first_of (item_faults names x) ≡ first_of (flat_map (setting_faults names) ys)
when_assigns names x settings ys is p = ap (λ (x : Item). first_of (item_faults names x)) is ∙ ap (λ (l : List Setting). first_of (flat_map (setting_faults names) l)) (sym p)

-- the same names, where there are some
pub same_names : {T : Type 0} (answer : Result T Stop) (now some others : List Entry) → others ≡ some → OnOk answer (now ≡ some) → OnOk answer (now ≡ others)
same_names (Ok x) now some others is h = h ∙ sym is
same_names (Err e) now some others is h = tt

pub behind_those_wires : (roles : Roles) (names : List Entry) (x : Item) (signed : Bool) (range : Option Range) (nets ys : List Declared) → x ≡ i.Wires signed range nets → ys ≡ nets →
    behind_item roles names x ≡ behind_wires names signed range ys
behind_those_wires roles names x signed range nets ys is p = ap (behind_item roles names) is ∙ ap (λ (l : List Declared). behind_wires names signed range l) (sym p)

pub behind_those_regs : (roles : Roles) (names : List Entry) (x : Item) (signed : Bool) (range : Option Range) (variables ys : List Variable) → x ≡ i.Regs signed range variables → ys ≡ variables →
    behind_item roles names x ≡ behind_regs roles names signed range ys
behind_those_regs roles names x signed range variables ys is p = ap (behind_item roles names) is ∙ ap (λ (l : List Variable). behind_regs roles names signed range l) (sym p)
