-- Checks of lines one after another.
use Rattle.std.proofs.Common.{◌≡◌, ◌<◌, ◌≤◌, ◌+◌, ◌^◌, ◌&&◌, ◌||◌, ℕ, zero, suc, List, [], ◌∷◌, ◌++◌, length, map, take, drop, get_or, Bool, true, false, nat_le, if◌then◌else◌, Option, None, Some, refl, ap, sym, subst, ◌∙◌, arith}
use Rattle.std.proofs.lemmas.List.{map_more}
use Rattle.std.proofs.Math.Nat.{pow-le-pow_right}
use Rattle.n_cells.specs.Run.{table_bit}
use Rattle.g_net.specs.declared.proposal.Line.{Line}
use Rattle.g_net.specs.Network.{NetworkValue}
use Rattle.m_valid.specs.declared.nodes.Node.{Node}
use Rattle.m_valid.specs.declared.nodes.Node.TheVariants.{Constant}
use Rattle.m_valid.specs.declared.verdict.Check.TheVariants.{V1, V2, V3, V4, V5}
use Rattle.m_valid.specs.declared.verdict.Verdict.{Verdict}
use Rattle.m_valid.specs.declared.verdict.Verdict.TheVariants.{Valid}
use Rattle.m_valid.specs.Nodes.{nodes_of, node_at, is_gate, is_source}
use Rattle.m_valid.specs.Validity.{first_broken, judged, roots_hold, leaves_hold, has_leaves, may_be_leaves, increase, is_among, is_met, roots_of, has_table, cones_hold, tables_hold, root_value, agree, needs_hold, lines_verdict, uses_of, verdict}
use Rattle.m_valid.specs.Walk.{HasBits, sooner}
use Rattle.m_valid.proofs.Bits.{agree_alike}
use Rattle.m_valid.proofs.Lists.{drop_item, drop_number, drop_end, le_true, le_false, le_is}

-- a line at which a check holds, and one at which it does not
pub holds_at : (place : ℕ) (t : Bool) (more : List Bool) → t ≡ true → first_broken place (t ∷ more) ≡ first_broken (place + 1) more
holds_at place true more e = refl
holds_at place false more e = cc

pub breaks_at : (place : ℕ) (t : Bool) (more : List Bool) → t ≡ false → first_broken place (t ∷ more) ≡ Some place
breaks_at place true more e = cc
breaks_at place false more e = refl

-- V1
abbrev pub root_test : List Node → ℕ → Line → Bool
root_test nodes least l = nat_le least l.root && is_gate (node_at nodes l.root)

pub root_holds : (nodes : List Node) (ls : List Line) (least i : ℕ) (l : Line) (all : Option ℕ) → i < length ls → l ≡ get_or ls i l → (nat_le least l.root && is_gate (node_at nodes l.root)) ≡ true
    → first_broken (i + 1) (roots_hold nodes least (drop i ls)) ≡ all → first_broken (i + 1 + 1) (roots_hold nodes (l.root + 1) (drop (i + 1) ls)) ≡ all
root_holds nodes ls least i l all lt is t e =
    sym (holds_at (i + 1) (root_test nodes least l) (roots_hold nodes (l.root + 1) (drop (i + 1) ls)) t) ∙ ap (λ d. first_broken (i + 1) (roots_hold nodes least d)) (sym (drop_item ls i l l lt is)) ∙ e

pub root_breaks : (nodes : List Node) (ls : List Line) (least i : ℕ) (l : Line) (all : Option ℕ) → i < length ls → l ≡ get_or ls i l → (nat_le least l.root && is_gate (node_at nodes l.root)) ≡ false
    → first_broken (i + 1) (roots_hold nodes least (drop i ls)) ≡ all → Some (i + 1) ≡ all
root_breaks nodes ls least i l all lt is t e =
    sym (breaks_at (i + 1) (root_test nodes least l) (roots_hold nodes (l.root + 1) (drop (i + 1) ls)) t) ∙ ap (λ d. first_broken (i + 1) (roots_hold nodes least d)) (sym (drop_item ls i l l lt is)) ∙ e

pub roots_end : (nodes : List Node) (ls : List Line) (least i : ℕ) (all : Option ℕ) → length ls ≤ i → first_broken (i + 1) (roots_hold nodes least (drop i ls)) ≡ all → None ≡ all
roots_end nodes ls least i all past e = sym (ap (λ d. first_broken (i + 1) (roots_hold nodes least d)) (drop_end ls i past)) ∙ e

-- V2
pub roots_on : (ls : List Line) (i : ℕ) (l : Line) → i < length ls → l ≡ get_or ls i l → roots_of (take (i + 1) ls) ≡ roots_of (take i ls) ++ l.root ∷ []
roots_on ls i l lt is = map_more (λ (m : Line). m.root) ls i l lt ∙ ap (λ (m : Line). roots_of (take i ls) ++ m.root ∷ []) (sym is)

pub leaves_hold_on : (nodes : List Node) (most : ℕ) (ls : List Line) (i : ℕ) (l : Line) (all : Option ℕ) → i < length ls → l ≡ get_or ls i l → has_leaves nodes most (roots_of (take i ls)) l ≡ true
    → first_broken (i + 1) (leaves_hold nodes most (roots_of (take i ls)) (drop i ls)) ≡ all
    → first_broken (i + 1 + 1) (leaves_hold nodes most (roots_of (take (i + 1) ls)) (drop (i + 1) ls)) ≡ all
leaves_hold_on nodes most ls i l all lt is t e =
    let roots : roots_of (take (i + 1) ls) ≡ roots_of (take i ls) ++ l.root ∷ [] = roots_on ls i l lt is in
    ap (λ r. first_broken (i + 1 + 1) (leaves_hold nodes most r (drop (i + 1) ls))) roots
    ∙ sym (holds_at (i + 1) (has_leaves nodes most (roots_of (take i ls)) l) (leaves_hold nodes most (roots_of (take i ls) ++ l.root ∷ []) (drop (i + 1) ls)) t)
    ∙ ap (λ d. first_broken (i + 1) (leaves_hold nodes most (roots_of (take i ls)) d)) (sym (drop_item ls i l l lt is)) ∙ e

pub leaves_break : (nodes : List Node) (most : ℕ) (ls : List Line) (i : ℕ) (l : Line) (all : Option ℕ) → i < length ls → l ≡ get_or ls i l → has_leaves nodes most (roots_of (take i ls)) l ≡ false
    → first_broken (i + 1) (leaves_hold nodes most (roots_of (take i ls)) (drop i ls)) ≡ all → Some (i + 1) ≡ all
leaves_break nodes most ls i l all lt is t e =
    sym (breaks_at (i + 1) (has_leaves nodes most (roots_of (take i ls)) l) (leaves_hold nodes most (roots_of (take i ls) ++ l.root ∷ []) (drop (i + 1) ls)) t)
    ∙ ap (λ d. first_broken (i + 1) (leaves_hold nodes most (roots_of (take i ls)) d)) (sym (drop_item ls i l l lt is)) ∙ e

pub leaves_end : (nodes : List Node) (most : ℕ) (roots : List ℕ) (ls : List Line) (i : ℕ) (all : Option ℕ) → length ls ≤ i → first_broken (i + 1) (leaves_hold nodes most roots (drop i ls)) ≡ all → None ≡ all
leaves_end nodes most roots ls i all past e = sym (ap (λ d. first_broken (i + 1) (leaves_hold nodes most roots d)) (drop_end ls i past)) ∙ e

beyond_step : (least l : ℕ) (t rest : Bool) → nat_le least l ≡ t → (least ≤ l → rest ≡ false) → (t && rest) ≡ false
beyond_step least l true rest e f = f (le_is least l e)
beyond_step least l false rest e f = refl

-- leaves that begin beyond the root don't increase to it
beyond_root : (least : ℕ) (leaves : List ℕ) (root : ℕ) → root < least → increase least leaves root ≡ false
beyond_root least [] root h = le_false least root h
beyond_root least (l ∷ ls) root h = beyond_step least l (nat_le least l) (increase (l + 1) ls root) refl (λ le. beyond_root (l + 1) ls root (omega (arith, h, le)))

pub increase_on : (least : ℕ) (leaves : List ℕ) (root i : ℕ) (all : Bool) → i < length leaves → least ≤ get_or leaves i 0 → increase least (drop i leaves) root ≡ all
    → increase (get_or leaves i 0 + 1) (drop (i + 1) leaves) root ≡ all
increase_on least leaves root i all lt le e =
    sym (ap (λ t. t && increase (get_or leaves i 0 + 1) (drop (i + 1) leaves) root) (le_true least (get_or leaves i 0) le)) ∙ ap (λ d. increase least d root) (sym (drop_number leaves i lt)) ∙ e

pub increase_breaks : (least : ℕ) (leaves : List ℕ) (root i : ℕ) (all : Bool) → i < length leaves → get_or leaves i 0 < least → increase least (drop i leaves) root ≡ all → false ≡ all
increase_breaks least leaves root i all lt gt e =
    sym (ap (λ t. t && increase (get_or leaves i 0 + 1) (drop (i + 1) leaves) root) (le_false least (get_or leaves i 0) gt)) ∙ ap (λ d. increase least d root) (sym (drop_number leaves i lt)) ∙ e

and_false : (b : Bool) → b && false ≡ false
and_false true = refl
and_false false = refl

pub increase_beyond : (least : ℕ) (leaves : List ℕ) (root i : ℕ) (all : Bool) → i < length leaves → root ≤ get_or leaves i 0 → increase least (drop i leaves) root ≡ all → false ≡ all
increase_beyond least leaves root i all lt gt e =
    sym (ap (λ t. nat_le least (get_or leaves i 0) && t) (beyond_root (get_or leaves i 0 + 1) (drop (i + 1) leaves) root (omega arith)) ∙ and_false (nat_le least (get_or leaves i 0)))
    ∙ ap (λ d. increase least d root) (sym (drop_number leaves i lt)) ∙ e

pub increase_end : (least : ℕ) (leaves : List ℕ) (root i : ℕ) (all : Bool) → length leaves ≤ i → increase least (drop i leaves) root ≡ all → nat_le least root ≡ all
increase_end least leaves root i all past e = sym (ap (λ d. increase least d root) (drop_end leaves i past)) ∙ e

-- leaves that increase to a root are smaller
first_of : (a b : Bool) → (a && b) ≡ true → a ≡ true
first_of true b e = refl
first_of false b e = cc

second_of : (a b : Bool) → (a && b) ≡ true → b ≡ true
second_of true b e = e
second_of false b e = cc

pub reaches_root : (least : ℕ) (leaves : List ℕ) (root : ℕ) → increase least leaves root ≡ true → least ≤ root
reaches_root least [] root e = le_is least root e
reaches_root least (l ∷ ls) root e =
    omega (arith, le_is least l (first_of (nat_le least l) (increase (l + 1) ls root) e), reaches_root (l + 1) ls root (second_of (nat_le least l) (increase (l + 1) ls root) e))

pub leaves_small : (least : ℕ) (leaves : List ℕ) (root k : ℕ) → increase least leaves root ≡ true → k < length leaves → get_or leaves k 0 < root
leaves_small least [] root k e h = absurd (omega arith)
leaves_small least (l ∷ ls) root zero e h = omega (arith, reaches_root (l + 1) ls root (second_of (nat_le least l) (increase (l + 1) ls root) e))
leaves_small least (l ∷ ls) root (suc k) e h = leaves_small (l + 1) ls root k (second_of (nat_le least l) (increase (l + 1) ls root) e) (omega arith)

-- what a line with leaves that it may have has
pub leaves_few : (nodes : List Node) (most : ℕ) (roots : List ℕ) (l : Line) → has_leaves nodes most roots l ≡ true → length l.leaves ≤ most
leaves_few nodes most roots l e =
    le_is (length l.leaves) most (first_of (nat_le (length l.leaves) most) (increase 0 l.leaves l.root) (first_of (nat_le (length l.leaves) most && increase 0 l.leaves l.root) (may_be_leaves nodes roots l.leaves) e))

pub leaves_increase : (nodes : List Node) (most : ℕ) (roots : List ℕ) (l : Line) → has_leaves nodes most roots l ≡ true → increase 0 l.leaves l.root ≡ true
leaves_increase nodes most roots l e =
    second_of (nat_le (length l.leaves) most) (increase 0 l.leaves l.root) (first_of (nat_le (length l.leaves) most && increase 0 l.leaves l.root) (may_be_leaves nodes roots l.leaves) e)

-- leaves one by one
pub may_be_on : (nodes : List Node) (roots leaves : List ℕ) (i : ℕ) (all : Bool) → i < length leaves → (is_source (node_at nodes (get_or leaves i 0)) || is_among (get_or leaves i 0) roots) ≡ true
    → may_be_leaves nodes roots (drop i leaves) ≡ all → may_be_leaves nodes roots (drop (i + 1) leaves) ≡ all
may_be_on nodes roots leaves i all lt t e =
    sym (ap (λ b. b && may_be_leaves nodes roots (drop (i + 1) leaves)) t) ∙ ap (may_be_leaves nodes roots) (sym (drop_number leaves i lt)) ∙ e

pub may_be_breaks : (nodes : List Node) (roots leaves : List ℕ) (i : ℕ) (all : Bool) → i < length leaves → (is_source (node_at nodes (get_or leaves i 0)) || is_among (get_or leaves i 0) roots) ≡ false
    → may_be_leaves nodes roots (drop i leaves) ≡ all → false ≡ all
may_be_breaks nodes roots leaves i all lt t e =
    sym (ap (λ b. b && may_be_leaves nodes roots (drop (i + 1) leaves)) t) ∙ ap (may_be_leaves nodes roots) (sym (drop_number leaves i lt)) ∙ e

pub may_be_end : (nodes : List Node) (roots leaves : List ℕ) (i : ℕ) (all : Bool) → length leaves ≤ i → may_be_leaves nodes roots (drop i leaves) ≡ all → true ≡ all
may_be_end nodes roots leaves i all past e = sym (ap (may_be_leaves nodes roots) (drop_end leaves i past)) ∙ e

pub or_is_true : (a b : Bool) → a ≡ false → b ≡ true → (a || b) ≡ true
or_is_true true b e f = refl
or_is_true false b e f = f

pub or_is_false : (a b : Bool) → a ≡ false → b ≡ false → (a || b) ≡ false
or_is_false true b e f = cc
or_is_false false b e f = f

-- V3 and V4, each a test of the line alone
pub line_holds : (test : Line → Bool) (ls : List Line) (i : ℕ) (l : Line) (all : Option ℕ) → i < length ls → l ≡ get_or ls i l → test l ≡ true → first_broken (i + 1) (map test (drop i ls)) ≡ all
    → first_broken (i + 1 + 1) (map test (drop (i + 1) ls)) ≡ all
line_holds test ls i l all lt is t e =
    sym (holds_at (i + 1) (test l) (map test (drop (i + 1) ls)) t) ∙ ap (λ d. first_broken (i + 1) (map test d)) (sym (drop_item ls i l l lt is)) ∙ e

pub line_breaks : (test : Line → Bool) (ls : List Line) (i : ℕ) (l : Line) → i < length ls → l ≡ get_or ls i l → test l ≡ false → first_broken (i + 1) (map test (drop i ls)) ≡ Some (i + 1)
line_breaks test ls i l lt is t = ap (λ d. first_broken (i + 1) (map test d)) (drop_item ls i l l lt is) ∙ breaks_at (i + 1) (test l) (map test (drop (i + 1) ls)) t

pub lines_end : (test : Line → Bool) (ls : List Line) (i : ℕ) → length ls ≤ i → first_broken (i + 1) (map test (drop i ls)) ≡ None
lines_end test ls i past = ap (λ d. first_broken (i + 1) (map test d)) (drop_end ls i past)

-- a table that is that of the root's values, against the line's
pub table_agrees : (nodes : List Node) (l : Line) (table : ℕ) → length l.leaves ≤ 6 → HasBits table (root_value nodes l) → agree (2 ^ length l.leaves) (table_bit table) (table_bit l.table) ≡ has_table nodes l
table_agrees nodes l table few bits =
    let two : 0 < 2 = omega arith in
    let most : 2 ^ length l.leaves ≤ 2 ^ 6 = pow-le-pow_right two few in
    agree_alike (2 ^ length l.leaves) (table_bit table) (root_value nodes l) (table_bit l.table) (λ i lt. bits i (omega (arith, most)))

-- the checks of V5, node by node
pub need_holds : (uses roots : List ℕ) (nodes : List Node) (i : ℕ) (x : Node) (all : Option ℕ) → i < length nodes → x ≡ get_or nodes i Constant → (is_met uses roots i x) ≡ true
    → first_broken i (needs_hold uses roots i (drop i nodes)) ≡ all → first_broken (i + 1) (needs_hold uses roots (i + 1) (drop (i + 1) nodes)) ≡ all
need_holds uses roots nodes i x all lt is t e =
    sym (holds_at i (is_met uses roots i x) (needs_hold uses roots (i + 1) (drop (i + 1) nodes)) t)
    ∙ ap (λ d. first_broken i (needs_hold uses roots i d)) (sym (drop_item nodes i x Constant lt is)) ∙ e

pub need_breaks : (uses roots : List ℕ) (nodes : List Node) (i : ℕ) (x : Node) (all : Option ℕ) → i < length nodes → x ≡ get_or nodes i Constant → (is_met uses roots i x) ≡ false
    → first_broken i (needs_hold uses roots i (drop i nodes)) ≡ all → Some i ≡ all
need_breaks uses roots nodes i x all lt is t e =
    sym (breaks_at i (is_met uses roots i x) (needs_hold uses roots (i + 1) (drop (i + 1) nodes)) t)
    ∙ ap (λ d. first_broken i (needs_hold uses roots i d)) (sym (drop_item nodes i x Constant lt is)) ∙ e

pub needs_end : (uses roots : List ℕ) (nodes : List Node) (i : ℕ) (all : Option ℕ) → length nodes ≤ i → first_broken i (needs_hold uses roots i (drop i nodes)) ≡ all → None ≡ all
needs_end uses roots nodes i all past e = sym (ap (λ d. first_broken i (needs_hold uses roots i d)) (drop_end nodes i past)) ∙ e

-- What was broken first stays so, whatever comes later.
pub judged_later : (p q r s : Option ℕ) (later v : Verdict) → (v ≡ Valid → ⊥) → v ≡ judged V1 p (judged V2 q (judged V3 r (judged V4 s Valid))) → v ≡ judged V1 p (judged V2 q (judged V3 r (judged V4 s later)))
judged_later (Some at) q r s later v broken e = e
judged_later None (Some at) r s later v broken e = e
judged_later None None (Some at) s later v broken e = e
judged_later None None None (Some at) later v broken e = e
judged_later None None None None later v broken e = absurd (broken e)

pub judged_valid : (p q r s : Option ℕ) (later v : Verdict) → v ≡ Valid → v ≡ judged V1 p (judged V2 q (judged V3 r (judged V4 s Valid))) → judged V1 p (judged V2 q (judged V3 r (judged V4 s later))) ≡ later
judged_valid (Some at) q r s later v valid e = cc
judged_valid None (Some at) r s later v valid e = cc
judged_valid None None (Some at) s later v valid e = cc
judged_valid None None None (Some at) later v valid e = cc
judged_valid None None None None later v valid e = refl

-- the first wrong table, line by line
pub wrong_goes_on : (wrong : Option ℕ) (t : Bool) (place : ℕ) (more : List Bool) (all : Option ℕ) → sooner wrong (first_broken place (t ∷ more)) ≡ all
    → sooner (sooner wrong (if t then None else Some place)) (first_broken (place + 1) more) ≡ all
wrong_goes_on None true place more all e = e
wrong_goes_on None false place more all e = e
wrong_goes_on (Some first) t place more all e = e

pub wrong_on : (test : Line → Bool) (ls : List Line) (i : ℕ) (l : Line) (wrong next : Option ℕ) (t : Bool) (all : Option ℕ) → i < length ls → l ≡ get_or ls i l → t ≡ test l
    → next ≡ sooner wrong (if t then None else Some (i + 1)) → sooner wrong (first_broken (i + 1) (map test (drop i ls))) ≡ all → sooner next (first_broken (i + 1 + 1) (map test (drop (i + 1) ls))) ≡ all
wrong_on test ls i l wrong next t all lt is same after e =
    let split : first_broken (i + 1) (map test (drop i ls)) ≡ first_broken (i + 1) (t ∷ map test (drop (i + 1) ls)) =
    ap (λ d. first_broken (i + 1) (map test d)) (drop_item ls i l l lt is) ∙ ap (λ b. first_broken (i + 1) (b ∷ map test (drop (i + 1) ls))) (sym same) in
    ap (λ o. sooner o (first_broken (i + 1 + 1) (map test (drop (i + 1) ls)))) after
    ∙ wrong_goes_on wrong t (i + 1) (map test (drop (i + 1) ls)) all (sym (ap (sooner wrong) split) ∙ e)

pub wrong_end : (test : Line → Bool) (ls : List Line) (i : ℕ) (wrong all : Option ℕ) → length ls ≤ i → sooner wrong (first_broken (i + 1) (map test (drop i ls))) ≡ all → wrong ≡ all
wrong_end test ls i None all past e = sym (lines_end test ls i past) ∙ e
wrong_end test ls i (Some first) all past e = e

-- the whole verdict, where V1 to V4 hold
pub judged_needs : (n : NetworkValue) (nodes : List Node) (lines : List Line) (most : ℕ) (v : Verdict) (place : Option ℕ) → nodes ≡ nodes_of n → v ≡ lines_verdict nodes lines most Valid → v ≡ Valid
    → place ≡ first_broken 0 (needs_hold (uses_of n) (roots_of lines) 0 nodes) → judged V5 place Valid ≡ verdict n lines most
judged_needs n nodes lines most v place are is valid e =
    subst (λ ns. judged V5 place Valid ≡ lines_verdict ns lines most (judged V5 (first_broken 0 (needs_hold (uses_of n) (roots_of lines) 0 ns)) Valid)) are
    (ap (λ o. judged V5 o Valid) e
    ∙ sym (judged_valid (first_broken 1 (roots_hold nodes 0 lines)) (first_broken 1 (leaves_hold nodes most [] lines)) (first_broken 1 (cones_hold nodes lines)) (first_broken 1 (tables_hold nodes lines))
    (judged V5 (first_broken 0 (needs_hold (uses_of n) (roots_of lines) 0 nodes)) Valid) v valid is))

-- the whole verdict, where one of them is broken
pub judged_lines : (n : NetworkValue) (nodes : List Node) (lines : List Line) (most : ℕ) (v : Verdict) → nodes ≡ nodes_of n → v ≡ lines_verdict nodes lines most Valid → (v ≡ Valid → ⊥) → v ≡ verdict n lines most
judged_lines n nodes lines most v are is broken =
    subst (λ ns. v ≡ lines_verdict ns lines most (judged V5 (first_broken 0 (needs_hold (uses_of n) (roots_of lines) 0 ns)) Valid)) are
    (judged_later (first_broken 1 (roots_hold nodes 0 lines)) (first_broken 1 (leaves_hold nodes most [] lines)) (first_broken 1 (cones_hold nodes lines)) (first_broken 1 (tables_hold nodes lines))
    (judged V5 (first_broken 0 (needs_hold (uses_of n) (roots_of lines) 0 nodes)) Valid) v broken is)
