-- The sites of a module are its openings without those that have no open bits.
use Rattle.std.proofs.Common.{◌≡◌, ℕ, zero, suc, Bool, true, false, if◌then◌else◌, List, [], ◌∷◌, ◌++◌, map, flat_map, Option, Some, None, All, Contains, refl, sym, subst}
use Rattle.std.proofs.lemmas.List.Concat.{flat_map-cons}
use Rattle.std.proofs.lemmas.List.Elements.{All-nil, All-cons, All-weaker, Contains-append_left, Contains-append_right, Contains-push}
use Rattle.v_syntax.specs.declared.expr.Expr.{Expr}
use Rattle.v_syntax.specs.declared.expr.Expr.TheOpen.{Expr-F}
use Rattle.v_syntax.specs.declared.expr.Expr.TheOpen as o
use Rattle.v_syntax.specs.declared.expr.Expr.TheFolds.{map-Expr, para-roll-Expr, ind-Expr}
use Rattle.v_syntax.specs.declared.expr.Placed.{Placed}
use Rattle.v_syntax.specs.declared.expr.BinaryOperator.{BinaryOperator}
use Rattle.v_syntax.specs.declared.stmt.Target.{Target}
use Rattle.v_syntax.specs.declared.stmt.Target.TheOpen.{Target-F}
use Rattle.v_syntax.specs.declared.stmt.Target.TheOpen as t
use Rattle.v_syntax.specs.declared.stmt.Target.TheFolds.{map-Target, fold-roll-Target, ind-Target}
use Rattle.v_syntax.specs.declared.stmt.Label.{Label}
use Rattle.v_syntax.specs.declared.stmt.Arm.{Arm}
use Rattle.v_syntax.specs.declared.stmt.Stmt.{Stmt}
use Rattle.v_syntax.specs.declared.stmt.Stmt.TheOpen.{Stmt-F, Arm-F}
use Rattle.v_syntax.specs.declared.stmt.Stmt.TheOpen as s
use Rattle.v_syntax.specs.declared.stmt.Stmt.TheFolds.{map-Stmt, map-Arm, fold-Arm, fold-roll-Stmt, fold-roll-Arm, ind-Stmt}
use Rattle.v_syntax.specs.declared.module.Setting.{Setting}
use Rattle.v_syntax.specs.declared.module.Declared.{Declared}
use Rattle.v_syntax.specs.declared.module.Item.{Item}
use Rattle.v_syntax.specs.declared.module.Item.TheVariants as i
use Rattle.v_meaning.specs.declared.names.Entry.{Entry}
use Rattle.v_meaning.specs.Literals.{literal_of, open_bits}
use Rattle.v_meaning.specs.Names.{entry_of}
use Rattle.v_meaning.specs.Declarations.{joined_lists}
use Rattle.v_meaning.specs.Statements.{label_items}
use Rattle.v_meaning.specs.Sites.{Site, select_width, is_fixed, number_site, links_sites, parts_sites, site_step, sites_of, target_site_step, target_sites, stmt_site_step, arm_site_step, stmt_sites, items_sites, value_sites, item_sites, module_sites}
use Rattle.v_places.specs.Openings.{opening_step, openings_of, target_opening_step, target_openings, stmt_opening_step, arm_opening_step, stmt_openings, items_openings, value_openings, item_openings, module_openings}

-- the second list is the first one without some that have no bits
pub data Thins : List Site → List Site → Type 0 where
  none : Thins [] []
  keep : (s : Site) {xs ys : List Site} → Thins xs ys → Thins (s ∷ xs) (s ∷ ys)
  drop : (s : Site) {xs ys : List Site} → s.width ≡ 0 → Thins xs ys → Thins (s ∷ xs) ys

thins_more : {a b c d : List Site} → Thins a b → Thins c d → Thins (a ++ c) (b ++ d)
thins_more none q = q
thins_more (keep s p) q = keep s (thins_more p q)
thins_more (drop s w p) q = drop s w (thins_more p q)

thins_same : {a b c d : List Site} → a ≡ b → c ≡ d → Thins b d → Thins a c
thins_same {b = b} {c = c} p q h = subst (λ (x : List Site). Thins x c) (sym p) (subst (λ (x : List Site). Thins b x) (sym q) h)

-- what is left was there
thins_among : {xs ys : List Site} → Thins xs ys → All (Contains xs) ys
thins_among none = All-nil (Contains [])
thins_among (keep s {xs = xs} {ys = ys} p) =
    All-cons (Contains (s ∷ xs)) s ys (Contains-append_left (s ∷ []) xs s (Contains-push [] s))
    (All-weaker (Contains xs) (Contains (s ∷ xs)) (λ x there. Contains-append_right (s ∷ []) xs x there) ys (thins_among p))
thins_among (drop s {xs = xs} {ys = ys} w p) =
    All-weaker (Contains xs) (Contains (s ∷ xs)) (λ x there. Contains-append_right (s ∷ []) xs x there) ys (thins_among p)

thins_each : {A : Type 0} (f g : A → List Site) → ((x : A) → Thins (f x) (g x)) → (xs : List A) → Thins (flat_map f xs) (flat_map g xs)
thins_each f g one [] = none
thins_each f g one (x ∷ xs) = thins_same (flat_map-cons f x xs) (flat_map-cons g x xs) (thins_more (one x) (thins_each f g one xs))

number_case : (at bits : ℕ) → Thins (record { at = at; width = bits } ∷ []) (number_site at bits)
number_case at zero = drop (record { at = at; width = 0 }) refl none
number_case at (suc bits) = keep (record { at = at; width = suc bits }) none

select_case : (fixed : Bool) (at width : ℕ) {xs ys : List Site} → Thins xs ys →
    Thins (record { at = at; width = if fixed then 0 else width } ∷ xs) ((if fixed then [] else record { at = at; width = width } ∷ []) ++ ys)
select_case true at width h = drop (record { at = at; width = 0 }) refl h
select_case false at width h = keep (record { at = at; width = width }) h

module _ (names : List Entry) where
  -- ---- expressions

  abbrev ThinExpr : Expr → Type 0
  ThinExpr x = Thins (openings_of names x) (sites_of names x)

  abbrev Known : Type 0
  Known = (x : Expr) × ThinExpr x

  abbrev plain : Known → Expr
  plain x = x.0

  abbrev opened : Expr → Expr × List Site
  opened x = (x, openings_of names x)

  abbrev sited : Expr → Expr × List Site
  sited x = (x, sites_of names x)

  abbrev plain_links : List (BinaryOperator × Known) → List (BinaryOperator × Expr)
  plain_links links = map (λ (l : BinaryOperator × Known). (l.0, plain l.1)) links

  thin_links : (links : List (BinaryOperator × Known)) →
      Thins (links_sites (map (λ (l : BinaryOperator × Expr). (l.0, opened l.1)) (plain_links links))) (links_sites (map (λ (l : BinaryOperator × Expr). (l.0, sited l.1)) (plain_links links)))
  thin_links [] = none
  thin_links (l ∷ ls) = thins_more l.1.1 (thin_links ls)

  thin_parts : (parts : List Known) → Thins (parts_sites (map opened (map plain parts))) (parts_sites (map sited (map plain parts)))
  thin_parts [] = none
  thin_parts (x ∷ xs) = thins_more x.1 (thin_parts xs)

  -- one level, of what is so below
  abbrev Layer : Expr-F Expr → Type 0
  Layer y = Thins (opening_step names (map-Expr Expr (Expr × List Site) opened y)) (site_step names (map-Expr Expr (Expr × List Site) sited y))

  layer : (y : Expr-F Known) → Layer (map-Expr Known Expr plain y)
  layer (o.Number n) = number_case n.at (open_bits (literal_of n.spelling))
  layer (o.Name n) = none
  layer (o.Select n bracket index) =
      select_case (is_fixed names (entry_of names n.name) index.0) n.at (select_width (entry_of names n.name).kind (entry_of names n.name)) index.1
  layer (o.Part n bracket msb_at msb lsb_at lsb) = none
  layer (o.Unary op x) = x.1
  layer (o.Chain x links) = thins_more x.1 (thin_links links)
  layer (o.Conditional c x y) = thins_more (thins_more c.1 x.1) y.1
  layer (o.Concat brace parts) = thin_parts parts
  layer (o.Replicate brace at count inner parts) = thin_parts parts
  layer (o.Cast sign x) = x.1

  thin_expr : (x : Expr) → ThinExpr x
  thin_expr = ind-Expr ThinExpr (λ x y is.
      thins_same (para-roll-Expr (List Site) (opening_step names) x) (para-roll-Expr (List Site) (site_step names) x) (subst Layer is (layer y)))

  -- ---- targets

  abbrev ThinTarget : Target → Type 0
  ThinTarget x = Thins (target_openings names x) (target_sites names x)

  abbrev KnownTarget : Type 0
  KnownTarget = (x : Target) × ThinTarget x

  abbrev plain_target : KnownTarget → Target
  plain_target x = x.0

  thin_targets : (xs : List KnownTarget) → Thins (joined_lists (map (target_openings names) (map plain_target xs))) (joined_lists (map (target_sites names) (map plain_target xs)))
  thin_targets [] = none
  thin_targets (x ∷ xs) = thins_more x.1 (thin_targets xs)

  abbrev TargetLayer : Target-F Target → Type 0
  TargetLayer y = Thins (target_opening_step names (map-Target Target (List Site) (target_openings names) y)) (target_site_step names (map-Target Target (List Site) (target_sites names) y))

  target_layer : (y : Target-F KnownTarget) → TargetLayer (map-Target KnownTarget Target plain_target y)
  target_layer (t.Name n) = none
  target_layer (t.Select n bracket index) = thin_expr index
  target_layer (t.Part n r) = none
  target_layer (t.Concat brace parts) = thin_targets parts

  thin_target : (x : Target) → ThinTarget x
  thin_target = ind-Target ThinTarget (λ x y is.
      thins_same (fold-roll-Target (List Site) (target_opening_step names) x) (fold-roll-Target (List Site) (target_site_step names) x) (subst TargetLayer is (target_layer y)))

  -- ---- statements

  abbrev arm_openings : Arm → List Site
  arm_openings = fold-Arm (List Site) (List Site) (stmt_opening_step names) (arm_opening_step names)

  abbrev arm_sites : Arm → List Site
  arm_sites = fold-Arm (List Site) (List Site) (stmt_site_step names) (arm_site_step names)

  abbrev ThinStmt : Stmt → Type 0
  ThinStmt x = Thins (stmt_openings names x) (stmt_sites names x)

  abbrev ThinArm : Arm → Type 0
  ThinArm a = Thins (arm_openings a) (arm_sites a)

  abbrev KnownStmt : Type 0
  KnownStmt = (x : Stmt) × ThinStmt x

  abbrev KnownArm : Type 0
  KnownArm = (a : Arm) × ThinArm a

  abbrev plain_stmt : KnownStmt → Stmt
  plain_stmt x = x.0

  abbrev plain_arm : KnownArm → Arm
  plain_arm a = a.0

  thin_body : (xs : List KnownStmt) → Thins (joined_lists (map (stmt_openings names) (map plain_stmt xs))) (joined_lists (map (stmt_sites names) (map plain_stmt xs)))
  thin_body [] = none
  thin_body (x ∷ xs) = thins_more x.1 (thin_body xs)

  thin_arms : (arms : List KnownArm) → Thins (joined_lists (map arm_openings (map plain_arm arms))) (joined_lists (map arm_sites (map plain_arm arms)))
  thin_arms [] = none
  thin_arms (a ∷ arms) = thins_more a.1 (thin_arms arms)

  abbrev StmtLayer : Stmt-F Stmt Arm → Type 0
  StmtLayer y = Thins (stmt_opening_step names (map-Stmt Stmt Arm (List Site) (List Site) (stmt_openings names) arm_openings y))
      (stmt_site_step names (map-Stmt Stmt Arm (List Site) (List Site) (stmt_sites names) arm_sites y))

  stmt_layer : (y : Stmt-F KnownStmt KnownArm) → StmtLayer (map-Stmt KnownStmt KnownArm Stmt Arm plain_stmt plain_arm y)
  stmt_layer s.Null = none
  stmt_layer (s.Block xs) = thin_body xs
  stmt_layer (s.If x a) = thins_more (thin_expr x) a.1
  stmt_layer (s.IfElse x a b) = thins_more (thins_more (thin_expr x) a.1) b.1
  stmt_layer (s.Case kind subject arms) = thins_more (thin_expr subject) (thin_arms arms)
  stmt_layer (s.Assign target kind value) = thins_more (thin_target target) (thin_expr value)

  thin_label : (label : Label) → Thins (items_openings names label) (items_sites names label)
  thin_label label = thins_each (openings_of names) (sites_of names) thin_expr (label_items label)

  abbrev ArmLayer : Arm-F Stmt Arm → Type 0
  ArmLayer y = Thins (arm_opening_step names (map-Arm Stmt Arm (List Site) (List Site) (stmt_openings names) arm_openings y))
      (arm_site_step names (map-Arm Stmt Arm (List Site) (List Site) (stmt_sites names) arm_sites y))

  thin_stmt : (x : Stmt) → ThinStmt x
  thin_stmt = ind-Stmt ThinStmt ThinArm
      (λ x y is.
      thins_same (fold-roll-Stmt (List Site) (List Site) (stmt_opening_step names) (arm_opening_step names) x)
      (fold-roll-Stmt (List Site) (List Site) (stmt_site_step names) (arm_site_step names) x) (subst StmtLayer is (stmt_layer y)))
      (λ x y is.
      thins_same (fold-roll-Arm (List Site) (List Site) (stmt_opening_step names) (arm_opening_step names) x)
      (fold-roll-Arm (List Site) (List Site) (stmt_site_step names) (arm_site_step names) x) (subst ArmLayer is (thins_more (thin_label y.label) y.body.1)))

  -- ---- modules

  thin_value : (x : Option Placed) → Thins (value_openings names x) (value_sites names x)
  thin_value None = none
  thin_value (Some x) = thin_expr x.expr

  thin_item : (x : Item) → Thins (item_openings names x) (item_sites names x)
  thin_item (i.Parameters group) = none
  thin_item (i.LocalParameters group) = none
  thin_item (i.Wires signed range nets) =
      thins_each (λ (d : Declared). value_openings names d.value) (λ (d : Declared). value_sites names d.value) (λ (d : Declared). thin_value d.value) nets
  thin_item (i.Regs signed range variables) = none
  thin_item (i.Assigns settings) =
      thins_each (λ (s : Setting). openings_of names s.value.expr) (λ (s : Setting). sites_of names s.value.expr) (λ (s : Setting). thin_expr s.value.expr) settings
  thin_item (i.Always event body) = thin_stmt body

  pub thin_module : (items : List Item) → Thins (module_openings names items) (module_sites names items)
  thin_module items = thins_each (item_openings names) (item_sites names) thin_item items

  pub sites_among : (items : List Item) → All (Contains (module_openings names items)) (module_sites names items)
  sites_among items = thins_among (thin_module items)
