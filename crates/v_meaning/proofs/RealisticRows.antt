-- Worked rows of a file as users write it, with a counter, a sum, a memory and a state machine: its first bits, and its two
-- sites, in assign rd = mem[addr]; and in
-- case (state) 2'd0: led <= 4'b0001; default: led <= 4'bx; endcase.
use Rattle.std.proofs.Common.{◌≡◌, refl, ap, sym, ◌∙◌, ℕ, List, [], ◌∷◌, ◌++◌, map, Bool, true, false, ◌&&◌, if◌then◌else◌, None, is_some, codes}
use Rattle.v_syntax.specs.declared.token.Ident.{Ident}
use Rattle.v_syntax.specs.declared.expr.Spelling.TheVariants as n
use Rattle.v_syntax.specs.declared.expr.Expr.{Expr}
use Rattle.v_syntax.specs.declared.expr.Expr.TheVariants as e
use Rattle.v_syntax.specs.declared.stmt.Label.{Label}
use Rattle.v_syntax.specs.declared.stmt.Label.TheVariants as l
use Rattle.v_syntax.specs.declared.stmt.CaseKind.TheVariants as c
use Rattle.v_syntax.specs.declared.stmt.AssignKind.TheVariants as k
use Rattle.v_syntax.specs.declared.stmt.Target.{Target}
use Rattle.v_syntax.specs.declared.stmt.Target.TheVariants as t
use Rattle.v_syntax.specs.declared.stmt.Target.TheOpen as p
use Rattle.v_syntax.specs.declared.stmt.Target.TheFolds.{fold-roll-Target}
use Rattle.v_syntax.specs.declared.stmt.Arm.{Arm}
use Rattle.v_syntax.specs.declared.stmt.Stmt.{Stmt}
use Rattle.v_syntax.specs.declared.stmt.Stmt.TheVariants as s
use Rattle.v_syntax.specs.declared.stmt.Stmt.TheOpen as o
use Rattle.v_syntax.specs.declared.stmt.Stmt.TheOpen.{Stmt-F, Arm-F}
use Rattle.v_syntax.specs.declared.stmt.Stmt.TheFolds.{fold-Arm, fold-roll-Stmt, fold-roll-Arm}
use Rattle.v_meaning.specs.declared.names.Kind.{Kind}
use Rattle.v_meaning.specs.declared.names.Kind.TheVariants.{Input, Net, Variable, Memory}
use Rattle.v_meaning.specs.declared.names.Entry.{Entry}
use Rattle.v_meaning.specs.Names.{entry_of, within_entry}
use Rattle.v_meaning.specs.Expressions.{constant_step}
use Rattle.v_meaning.specs.Declarations.{constant_value}
use Rattle.v_meaning.specs.Designs.{open_bits_of, total}
use Rattle.v_meaning.specs.Modules.{firsts_among}
use Rattle.v_meaning.specs.Sites.{Site, site_step, sites_of, target_site_step, target_sites, items_sites, stmt_site_step, arm_site_step, stmt_sites}
use Rattle.v_meaning.proofs.Variants.{fold_name, para_number, para_name, para_select}

-- ---- the declared names but the parameters

abbrev word : List ℕ → Kind → ℕ → Entry
word name kind width = record { name = name; at = 0; kind = kind; width = width; signed = false; low = 0; is_vector = true; first = None }

abbrev names : List Entry
names =
    word (codes "addr") (Input 4) 4 ∷ word (codes "count") (Variable 0) 8 ∷ word (codes "sum") (Variable 1) 8 ∷ word (codes "carry") (Variable 2) 1
    ∷ word (codes "rd") (Net 0) 8 ∷ word (codes "led") (Variable 3) 4 ∷ word (codes "state") (Variable 4) 2 ∷ word (codes "mem") (Memory 0 0 16) 8 ∷ []

-- 8 + 8 + 1 + 4 + 2 + 128
first_bits : total (map open_bits_of (firsts_among names)) ≡ 151
first_bits = refl

-- ---- one level of a statement

abbrev ident : List ℕ → ℕ → Ident
ident name at = record { name = name; at = at }

abbrev number : ℕ → List ℕ → List ℕ → Expr
number at size digits = e.Number (record { at = at; spelling = n.Sized size digits })

abbrev led : Target
led = t.Name (ident (codes "led") 50)

led_sites : target_sites names led ≡ []
led_sites = ap (target_sites names) (sym (t.rolls-Name (ident (codes "led") 50))) ∙ fold-roll-Target (List Site) (target_site_step names) (p.Name (ident (codes "led") 50))

-- led <= x
abbrev shows : Expr → Stmt
shows x = s.Assign led k.Nonblocking x

shows_sites : (x : Expr) (sites : List Site) → sites_of names x ≡ sites → stmt_sites names (shows x) ≡ sites
shows_sites x sites is =
    ap (stmt_sites names) (sym (s.rolls-Assign led k.Nonblocking x))
    ∙ fold-roll-Stmt (List Site) (List Site) (stmt_site_step names) (arm_site_step names) (o.Assign led k.Nonblocking x)
    ∙ ap (λ (found : List Site). found ++ sites_of names x) led_sites ∙ is

abbrev arm_sites : Arm → List Site
arm_sites = fold-Arm (List Site) (List Site) (stmt_site_step names) (arm_site_step names)

an_arm : (label : Label) (body : Stmt) → arm_sites (record { label = label; body = body }) ≡ arm_site_step names (record { label = label; body = stmt_sites names body })
an_arm label body = fold-roll-Arm (List Site) (List Site) (stmt_site_step names) (arm_site_step names) (record { label = label; body = body })

arm_is : (label : Label) (body : Stmt) (items sites : List Site) → items_sites names label ≡ items → stmt_sites names body ≡ sites →
    arm_sites (record { label = label; body = body }) ≡ items ++ sites
arm_is label body items sites p q =
    an_arm label body ∙ ap (λ (found : List Site). found ++ stmt_sites names body) p ∙ ap (λ (found : List Site). items ++ found) q

-- ---- the two sites

abbrev read_with : Bool → List Site → List Site
read_with constant more =
    (if constant && is_some (within_entry (entry_of names (codes "mem")) (constant_value names (e.Name (ident (codes "addr") 24)))) then []
    else record { at = 20; width = 8 } ∷ []) ++ more

-- mem[addr]: a word of 8 bits, since addr is no constant expression
read_sites : sites_of names (e.Select (ident (codes "mem") 20) 23 (e.Name (ident (codes "addr") 24))) ≡ record { at = 20; width = 8 } ∷ []
read_sites =
    para_select (site_step names) (ident (codes "mem") 20) 23 (e.Name (ident (codes "addr") 24))
    ∙ ap (λ (fixed : Bool). read_with fixed (sites_of names (e.Name (ident (codes "addr") 24)))) (fold_name (constant_step names) (ident (codes "addr") 24))
    ∙ ap (read_with false) (para_name (site_step names) (ident (codes "addr") 24))

abbrev is_idle : Arm
is_idle = record { label = l.Items (number 60 (codes "2") (codes "'d0") ∷ []); body = shows (number 61 (codes "4") (codes "'b0001")) }

abbrev otherwise : Arm
otherwise = record { label = l.Default 70; body = shows (number 71 (codes "4") (codes "'bx")) }

idle_sites : arm_sites is_idle ≡ []
idle_sites = arm_is _ _ [] []
    (ap (λ (found : List Site). found ++ []) (para_number (site_step names) (record { at = 60; spelling = n.Sized (codes "2") (codes "'d0") })))
    (shows_sites _ _ (para_number (site_step names) (record { at = 61; spelling = n.Sized (codes "4") (codes "'b0001") })))

-- led <= 4'bx: four bits
other_sites : arm_sites otherwise ≡ record { at = 71; width = 4 } ∷ []
other_sites = arm_is _ _ [] _ refl (shows_sites _ _ (para_number (site_step names) (record { at = 71; spelling = n.Sized (codes "4") (codes "'bx") })))

case_sites : stmt_sites names (s.Case c.Case (e.Name (ident (codes "state") 59)) (is_idle ∷ otherwise ∷ [])) ≡ record { at = 71; width = 4 } ∷ []
case_sites =
    ap (stmt_sites names) (sym (s.rolls-Case c.Case (e.Name (ident (codes "state") 59)) (is_idle ∷ otherwise ∷ [])))
    ∙ fold-roll-Stmt (List Site) (List Site) (stmt_site_step names) (arm_site_step names)
    (o.Case c.Case (e.Name (ident (codes "state") 59)) (is_idle ∷ otherwise ∷ []))
    ∙ ap (λ (found : List Site). found ++ (arm_sites is_idle ++ (arm_sites otherwise ++ []))) (para_name (site_step names) (ident (codes "state") 59))
    ∙ ap (λ (found : List Site). found ++ (arm_sites otherwise ++ [])) idle_sites
    ∙ ap (λ (found : List Site). found ++ []) other_sites

-- the bits of a cycle's choice
bits : total (map (λ (site : Site). site.width) ((record { at = 20; width = 8 } ∷ []) ++ (record { at = 71; width = 4 } ∷ []))) ≡ 12
bits = refl
