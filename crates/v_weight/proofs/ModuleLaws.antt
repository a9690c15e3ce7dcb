-- What each item of a module weighs, and the module.
use Rattle.std.proofs.Common.{◌≡◌, ◌≤◌, ◌-◌, ℕ, List, map, Bool, true, Option, None, Some, sym, ap, ◌∙◌, arith, min, subst}
use Rattle.std.specs.Prelude.{◌^◌, sum}
use Rattle.std.specs.List.{list_all}
use Rattle.v_syntax.specs.declared.token.Ident.{Ident}
use Rattle.v_syntax.specs.declared.expr.Placed.{Placed}
use Rattle.v_syntax.specs.declared.expr.Range.{Range}
use Rattle.v_syntax.specs.declared.stmt.Stmt.{Stmt}
use Rattle.v_syntax.specs.declared.module.Event.{Event}
use Rattle.v_syntax.specs.declared.module.Setting.{Setting}
use Rattle.v_syntax.specs.declared.module.Declared.{Declared}
use Rattle.v_syntax.specs.declared.module.Item.{Item}
use Rattle.v_syntax.specs.declared.module.Item.TheVariants as i
use Rattle.v_meaning.specs.declared.names.Entry.{Entry}
use Rattle.v_meaning.specs.Proper.{is_sound}
use Rattle.v_meaning.specs.Weights.{declared_weight, net_weight, wire_weight, item_weight, weight_of, stmt_weight}
use Rattle.v_typing.specs.Sound.{is_sound_value, is_sound_item, are_sound_items, is_sound_stmt}
use Rattle.v_weight.specs.Saturated.{Same}
use Rattle.v_weight.proofs.Saturating.{same_path}
use Rattle.v_weight.proofs.Lists.{Adds}

-- ---- items

pub no_wire : (names : List Entry) (n : Ident) (value : Option Placed) → value ≡ None → Same 0 (wire_weight names n value)
no_wire names n value is = same_path _ _ (sym (ap (wire_weight names n) is))

pub some_wire : (names : List Entry) (n : Ident) (value : Option Placed) (x : Placed) (w : ℕ) → value ≡ Some x → (is_sound names x.expr ≡ true → Same w (net_weight names n x.expr)) →
    is_sound_value names value ≡ true → Same w (wire_weight names n value)
some_wire names n value x w is h = subst (λ (v : Option Placed). is_sound_value names v ≡ true → Same w (wire_weight names n v)) (sym is) h

pub when_wires : (names : List Entry) (x : Item) (signed : Bool) (range : Option Range) (nets ys : List Declared) (w : ℕ) → x ≡ i.Wires signed range nets → ys ≡ nets →
    (list_all (λ (d : Declared). is_sound_value names d.value) ys ≡ true → Same w (sum (map (λ (d : Declared). wire_weight names d.name d.value) ys))) →
    is_sound_item names x ≡ true → Same w (item_weight names x)
when_wires names x signed range nets ys w is p h =
    subst (λ (z : Item). is_sound_item names z ≡ true → Same w (item_weight names z)) (ap (λ (zs : List Declared). i.Wires signed range zs) p ∙ sym is) h

pub when_assigns : (names : List Entry) (x : Item) (settings ys : List Setting) (w : ℕ) → x ≡ i.Assigns settings → ys ≡ settings →
    (list_all (λ (s : Setting). is_sound names s.value.expr) ys ≡ true → Same w (sum (map (λ (s : Setting). net_weight names s.name s.value.expr) ys))) →
    is_sound_item names x ≡ true → Same w (item_weight names x)
when_assigns names x settings ys w is p h =
    subst (λ (z : Item). is_sound_item names z ≡ true → Same w (item_weight names z)) (ap (λ (zs : List Setting). i.Assigns zs) p ∙ sym is) h

pub when_always : (names : List Entry) (x : Item) (event : Event) (body : Stmt) (w : ℕ) → x ≡ i.Always event body → (is_sound_stmt names body ≡ true → Same w (stmt_weight names body 0)) →
    is_sound_item names x ≡ true → Same w (item_weight names x)
when_always names x event body w is h = subst (λ (z : Item). is_sound_item names z ≡ true → Same w (item_weight names z)) (sym is) h

-- ---- modules

stops_at : (top r : ℕ) → r ≤ top → min r top ≡ r
stops_at top r h = omega arith

pub exact : (r n : ℕ) → r ≤ 2 ^ 64 - 1 → Same r n → r ≡ min n (2 ^ 64 - 1)
exact r n h s = sym (stops_at (2 ^ 64 - 1) r h) ∙ s.stops

pub whole : (names entries : List Entry) (all items : List Item) (m n r : ℕ) → entries ≡ names → items ≡ all → Same m (sum (map declared_weight entries)) →
    (are_sound_items names items ≡ true → Same n (sum (map (item_weight names) items))) → Adds m n r → are_sound_items names all ≡ true → Same r (weight_of names all)
whole names entries all items m n r p q declared weighs adds sound =
    adds _ _ (subst (λ (es : List Entry). Same m (sum (map declared_weight es))) p declared)
    (subst (λ (xs : List Item). are_sound_items names xs ≡ true → Same n (sum (map (item_weight names) xs))) q weighs sound)
