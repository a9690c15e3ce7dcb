-- The sites of the items of a module, and of the module.
use Rattle.std.proofs.Common.{◌≡◌, List, [], ◌++◌, map, flat_map, Bool, true, Option, ap, ◌∙◌}
use Rattle.v_syntax.specs.declared.expr.Range.{Range}
use Rattle.v_syntax.specs.declared.stmt.Stmt.{Stmt}
use Rattle.v_syntax.specs.declared.module.Event.{Event}
use Rattle.v_syntax.specs.declared.module.Setting.{Setting}
use Rattle.v_syntax.specs.declared.module.Declared.{Declared}
use Rattle.v_syntax.specs.declared.module.Item.{Item}
use Rattle.v_syntax.specs.declared.module.Item.TheVariants as i
use Rattle.v_meaning.specs.declared.names.Entry.{Entry}
use Rattle.v_meaning.specs.Sites.{stmt_sites, item_sites, module_sites}
use Rattle.v_core.specs.declared.modules.TypedSite.{TypedSite}
use Rattle.v_typing.specs.Sound.{are_sound_items}
use Rattle.v_sites.specs.Found.{site_in}
use Rattle.v_sites.specs.Adding.{Adds, net_sites, setting_sites}

pub when_wires : (names : List Entry) (x : Item) (signed : Bool) (range : Option Range) (nets ys : List Declared) → x ≡ i.Wires signed range nets → ys ≡ nets →
    item_sites names x ≡ flat_map (net_sites names) ys
when_wires names x signed range nets ys is same = rw same (ap (item_sites names) is)

pub when_assigns : (names : List Entry) (x : Item) (settings ys : List Setting) → x ≡ i.Assigns settings → ys ≡ settings → item_sites names x ≡ flat_map (setting_sites names) ys
when_assigns names x settings ys is same = rw same (ap (item_sites names) is)

pub when_always : (names : List Entry) (x : Item) (event : Event) (body : Stmt) → x ≡ i.Always event body → item_sites names x ≡ stmt_sites names body
when_always names x event body is = ap (item_sites names) is

-- those of the items, where none were found before
pub all_found : (names : List Entry) (begun now : List TypedSite) (xs items : List Item) → begun ≡ [] → xs ≡ items → are_sound_items names items ≡ true →
    Adds (are_sound_items names xs) begun now (flat_map (item_sites names) xs) → map site_in now ≡ module_sites names items
all_found names begun now xs items none same sound p =
    p.added (ap (are_sound_items names) same ∙ sound)
    ∙ ap (λ (l : List TypedSite). map site_in l ++ flat_map (item_sites names) xs) none ∙ ap (λ (l : List Item). flat_map (item_sites names) l) same
