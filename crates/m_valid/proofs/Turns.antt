-- One turn of a walk.
use Rattle.std.proofs.Common.{◌≡◌, ◌≢◌, ◌<◌, ◌+◌, ◌-◌, ◌*◌, ℕ, List, [], ◌∷◌, ◌++◌, length, take, get_or, true, false, Option, None, Some, ap, sym, subst, ◌∙◌, arith}
use Rattle.std.specs.List.{All}
use Rattle.g_net.specs.declared.proposal.Line.{Line}
use Rattle.m_valid.specs.declared.marks.Mark.{Mark}
use Rattle.m_valid.specs.declared.nodes.Node.{Node}
use Rattle.m_valid.specs.declared.nodes.Node.TheVariants.{Source}
use Rattle.m_valid.specs.Nodes.{node_at, AllReadBefore}
use Rattle.m_valid.specs.Validity.{is_covered}
use Rattle.m_valid.specs.Walk.{known, left, last_of, IsCone, IsLeafTable, IsOperand, IsPath, IsReady, IsTable, IsTurn, IsWalking}
use Rattle.m_valid.proofs.Downwards.{table_done, right_more, leaves_right, operand_blamed, operand_smaller, source_blamed}
use Rattle.m_valid.proofs.Judging.{leaves_small}
use Rattle.m_valid.proofs.Paths.{IsHere, stands, path_begins, path_down, path_up, down_less, up_less, last_pushed, last_below}

-- where the walk stands
pub here_there : (nodes : List Node) (l : Line) (known_at : ℕ → Option ℕ) (path : List ℕ) (here count : ℕ) → IsWalking nodes l known_at path → known_at l.root ≡ None → here ≡ last_of path l.root → l.root < count → here < count
here_there nodes l known_at path here count w none at lt = omega (arith, (stands nodes l.leaves known_at l.root path here w.way none at).below)

pub turn_down : (nodes : List Node) (l : Line) (line : ℕ) (marks : List Mark) (path after : List ℕ) (here m : ℕ) → AllReadBefore nodes → IsWalking nodes l (known marks line) path → known marks line l.root ≡ None
    → here ≡ last_of path l.root → known marks line m ≡ None → IsOperand m (node_at nodes here) → after ≡ path ++ m ∷ [] → IsTurn nodes l line marks marks path after true
turn_down nodes l line marks path after here m r w none at free operand pushed =
    let h : IsHere nodes l.leaves (known marks line) l.root path here = stands nodes l.leaves (known marks line) l.root path here w.way none at in
    let smaller : m < here = operand_smaller nodes m here r operand in
    let last : last_of after l.root ≡ m = ap (λ p. last_of p l.root) pushed ∙ last_pushed path m l.root in
    let less : left line marks * (l.root + 1) + last_of after l.root < left line marks * (l.root + 1) + here = down_less (left line marks) l.root here m (last_of after l.root) last smaller in (
      record {
        right = w.right;
        way = subst (IsPath nodes l.leaves (known marks line) l.root) (sym pushed)
            (path_down nodes l.leaves (known marks line) l.root path here m w.way h smaller free (operand_blamed nodes l.leaves here m r (w.right.leaves_known here h.unknown) operand));
      },
      subst (λ x. left line marks * (l.root + 1) + last_of after l.root < left line marks * (l.root + 1) + x) at less,
    )

pub turn_up : (nodes : List Node) (l : Line) (line : ℕ) (old new : List Mark) (path after : List ℕ) (here table : ℕ) → AllReadBefore nodes → IsWalking nodes l (known old line) path → known old line l.root ≡ None
    → here ≡ last_of path l.root → IsTable (known old line) (node_at nodes here) table → known new line here ≡ Some table → ((k : ℕ) → k ≢ here → known new line k ≡ known old line k)
    → (known old line here ≡ None → left line new + 1 ≡ left line old) → after ≡ take (length path - 1) path → IsTurn nodes l line old new path after true
turn_up nodes l line old new path after here table r w none at t marked others fewer popped =
    let h : IsHere nodes l.leaves (known old line) l.root path here = stands nodes l.leaves (known old line) l.root path here w.way none at in
    let way : IsPath nodes l.leaves (known new line) l.root after =
    subst (IsPath nodes l.leaves (known new line) l.root) (sym popped) (path_up nodes l.leaves (known old line) (known new line) l.root path here w.way h others) in
    let less : left line new * (l.root + 1) + last_of after l.root < left line old * (l.root + 1) + here =
    up_less (left line old) (left line new) l.root here (last_of after l.root) (fewer h.unknown) (last_below nodes l.leaves (known new line) l.root after way) in (
      record {
        right = right_more nodes l.leaves (known old line) (known new line) here table w.right marked others (table_done nodes l.leaves (known old line) here table r w.right h.unknown t);
        way = way;
      },
      subst (λ x. left line new * (l.root + 1) + last_of after l.root < left line old * (l.root + 1) + x) at less,
    )

pub turn_stops : (nodes : List Node) (l : Line) (line : ℕ) (marks : List Mark) (path : List ℕ) (here : ℕ) → AllReadBefore nodes → IsWalking nodes l (known marks line) path → known marks line l.root ≡ None
    → here ≡ last_of path l.root → node_at nodes here ≡ Source → is_covered nodes l ≡ false
turn_stops nodes l line marks path here r w none at source =
    let h : IsHere nodes l.leaves (known marks line) l.root path here = stands nodes l.leaves (known marks line) l.root path here w.way none at in
    h.blamed (source_blamed nodes l.leaves here r (w.right.leaves_known here h.unknown) source)

-- a walk begins with the leaves alone
pub walk_begins : (nodes : List Node) (l : Line) (known_at : ℕ → Option ℕ) (leaves path : List ℕ) → AllReadBefore nodes → leaves ≡ l.leaves → path ≡ [] → ((k : ℕ) → IsLeafTable 0 leaves k (known_at k))
    → IsWalking nodes l known_at path
walk_begins nodes l known_at leaves path r are none tables = record {
  right = leaves_right nodes l.leaves known_at r (λ k. subst (λ ls. IsLeafTable 0 ls k (known_at k)) are (tables k));
  way = subst (IsPath nodes l.leaves known_at l.root) (sym none) (path_begins nodes l.leaves known_at l.root);
}

pub leaves_there : (count : ℕ) (l : Line) (leaves : List ℕ) → IsReady count l → leaves ≡ l.leaves → (k : ℕ) → k < length leaves → get_or leaves k 0 < count
leaves_there count l leaves r are k lt =
    let small : get_or l.leaves k 0 < l.root = leaves_small 0 l.leaves l.root k r.increase (omega (arith, ap length are)) in
    omega (arith, small, r.root, ap (λ (xs : List ℕ). get_or xs k 0) are)

pub cone_known : (nodes : List Node) (l : Line) (known_at : ℕ → Option ℕ) (path : List ℕ) (table : ℕ) → IsWalking nodes l known_at path → Some table ≡ known_at l.root → IsCone nodes l (Some table)
cone_known nodes l known_at path table w is = w.right.done l.root table (sym is)

-- what is known of a line among those that are ready
pub ready_at : (count : ℕ) (ls : List Line) (i : ℕ) (l : Line) → All (IsReady count) ls → i < length ls → l ≡ get_or ls i l → IsReady count l
ready_at count ls i l all lt is = subst (IsReady count) (sym is) (all i l lt)
