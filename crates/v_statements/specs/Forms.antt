-- Which open items and arms keep to their widths, and how items and arms keep to the width that they are compared at
-- (1364-2005, 9.5).
use Rattle.std.specs.Prelude.{◌≡◌, ℕ, List, [], ◌∷◌, map, Bool, true, ◌&&◌, ⊤}
use Rattle.v_meaning.specs.declared.names.Entry.{Entry}
use Rattle.v_core.specs.declared.statement.TypedItem.{TypedItem}
use Rattle.v_core.specs.declared.statement.TypedArm.{TypedArm}
use Rattle.v_core.specs.Formed.{Formed, formed}
use Rattle.v_core.specs.FormedCores.{are_formed_items, is_formed_stmt}
use Rattle.v_core.specs.OpenForms.{OpenFormed, body_form}
use Rattle.v_core.specs.Statements.{items_in}
use Rattle.v_statements.specs.declared.items.Common.{Common}
use Rattle.v_statements.specs.declared.items.OpenItem.{OpenItem}
use Rattle.v_statements.specs.declared.cases.OpenArm.{OpenArm}
use Rattle.v_statements.specs.Cases.{open_items}

abbrev pub Each : {X : Type 0} → (X → Type 0) → List X → Type 0
Each P [] = ⊤
Each P (x ∷ xs) = P x × Each P xs

-- ---- open ones

abbrev pub ItemFormed : List Entry → OpenItem → Type 0
ItemFormed names item = OpenFormed item.value names

pub record ArmFormed (names : List Entry) (arm : OpenArm) : Type 0 where
  pub items : Each (ItemFormed names) (open_items arm.label)
  pub body : is_formed_stmt arm.body names ≡ true

-- ---- at the width that they are compared at

abbrev pub item_form : List Entry → TypedItem → Formed
item_form names item = formed item.value names

abbrev pub open_item_form : List Entry → Common → OpenItem → Formed
open_item_form names by item = body_form item.value.body by.width by.signed names

-- the items of an arm, and whether its body keeps to its widths
pub record ArmForm : Type 0 where
  pub items : List Formed
  pub body : Bool

abbrev pub arm_form : List Entry → TypedArm → ArmForm
arm_form names arm = record { items = map (item_form names) (items_in arm.label); body = is_formed_stmt arm.body names }

abbrev pub open_arm_form : List Entry → Common → OpenArm → ArmForm
open_arm_form names by arm = record { items = map (open_item_form names by) (open_items arm.label); body = is_formed_stmt arm.body names }

-- an arm whose items have this width
abbrev pub is_formed_arm : ℕ → List Entry → TypedArm → Bool
is_formed_arm width names arm = are_formed_items width (items_in arm.label) names && is_formed_stmt arm.body names
