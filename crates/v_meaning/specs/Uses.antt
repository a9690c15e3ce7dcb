-- What the rules of processes look at: which names each assign and each process reads and writes, and on which paths.
use Rattle.std.specs.Prelude.{ℕ, zero, suc, ◌-◌, ◌*◌, ◌^◌, ◌==◌, List, [], ◌∷◌, ◌++◌, map, flat_map, Bool, true, false, ◌&&◌, ◌||◌, nat_le, Option, None, Some}
use Rattle.std.specs.List.{list_any, list_all}
use Rattle.v_syntax.specs.declared.token.Ident.{Ident}
use Rattle.v_syntax.specs.declared.expr.Expr.{Expr}
use Rattle.v_syntax.specs.declared.expr.Expr.TheOpen.{Expr-F}
use Rattle.v_syntax.specs.declared.expr.Expr.TheOpen as o
use Rattle.v_syntax.specs.declared.expr.Expr.TheFolds.{para-Expr}
use Rattle.v_syntax.specs.declared.expr.Placed.{Placed}
use Rattle.v_syntax.specs.declared.expr.BinaryOperator.{BinaryOperator}
use Rattle.v_syntax.specs.declared.stmt.Target.{Target}
use Rattle.v_syntax.specs.declared.stmt.Target.TheOpen.{Target-F}
use Rattle.v_syntax.specs.declared.stmt.Target.TheOpen as t
use Rattle.v_syntax.specs.declared.stmt.Target.TheFolds.{fold-Target}
use Rattle.v_syntax.specs.declared.stmt.AssignKind.{AssignKind}
use Rattle.v_syntax.specs.declared.stmt.Label.{Label}
use Rattle.v_syntax.specs.declared.stmt.Stmt.{Stmt}
use Rattle.v_syntax.specs.declared.stmt.Stmt.TheOpen.{Stmt-F, Arm-F}
use Rattle.v_syntax.specs.declared.stmt.Stmt.TheOpen as s
use Rattle.v_syntax.specs.declared.stmt.Stmt.TheFolds.{fold-Stmt}
use Rattle.v_syntax.specs.declared.module.Setting.{Setting}
use Rattle.v_syntax.specs.declared.module.Declared.{Declared}
use Rattle.v_syntax.specs.declared.module.Event.{Event}
use Rattle.v_syntax.specs.declared.module.Item.{Item}
use Rattle.v_syntax.specs.declared.module.Item.TheVariants as i
use Rattle.v_syntax.specs.declared.module.Module.{Module}
use Rattle.v_meaning.specs.Views.{no_view}
use Rattle.v_meaning.specs.declared.names.Kind.{Kind}
use Rattle.v_meaning.specs.declared.names.Kind.TheVariants.{Memory}
use Rattle.v_meaning.specs.declared.names.Entry.{Entry}
use Rattle.v_meaning.specs.Names.{entry_of, within, or_zero, span}
use Rattle.v_meaning.specs.Expressions.{sense_of, is_constant}
use Rattle.v_meaning.specs.Statements.{Comparison, comparison_of, value_at, all_items}
use Rattle.v_meaning.specs.Declarations.{constant_value}
use Rattle.v_meaning.specs.Marks.{is_default}

-- A name is read, or written by an assignment of this kind. The bits of its word that surely are read or written form a
-- mask; a read whose bits are not known takes all of them, and a write none.
pub data Access : Type 0 where
  Read : Ident → ℕ → Access
  Write : Ident → AssignKind → ℕ → Access

-- so many bits from the number of the lowest one up
abbrev pub bits_from : ℕ → ℕ → ℕ
bits_from low width = (2 ^ width - 1) * 2 ^ low

abbrev pub all_bits : Entry → ℕ
all_bits e = bits_from 0 e.width

-- ---- reads

-- the bit of a constant index in range, or these bits where it is none
abbrev pub bits_at : ℕ → Option ℕ → ℕ
bits_at bits None = bits
bits_at bits (Some i) = bits_from i 1

-- the number of the bit that an index selects for sure: a constant expression in range, but of no memory
abbrev pub fixed_in : Bool → Kind → Entry → Option ℕ → Option ℕ
fixed_in false kind e i = None
fixed_in true (Memory k low count) e i = None
fixed_in true kind e i = within e.low e.width i

abbrev pub fixed_bit : List Entry → Entry → Expr → Option ℕ
fixed_bit names e index = fixed_in (is_constant names index) e.kind e (constant_value names index)

abbrev pub part_bits : List Entry → Entry → Expr → Expr → ℕ
part_bits names e msb lsb =
    bits_from (or_zero (constant_value names lsb) - e.low) (span (or_zero (constant_value names msb)) (or_zero (constant_value names lsb)))

-- an operand beside its reads
abbrev pub Reading : Type 0
Reading = Expr × List Access

abbrev pub reads_in : List Reading → List Access
reads_in xs = flat_map (λ (x : Reading). x.1) xs

-- A bound or count reads no name.
abbrev pub read_step : List Entry → Expr-F Reading → List Access
read_step names (o.Number n) = []
read_step names (o.Name n) = Read n (all_bits (entry_of names n.name)) ∷ []
read_step names (o.Select n bracket index) =
    Read n (bits_at (all_bits (entry_of names n.name)) (fixed_bit names (entry_of names n.name) index.0)) ∷ index.1
read_step names (o.Part n bracket msb_at msb lsb_at lsb) = Read n (part_bits names (entry_of names n.name) msb.0 lsb.0) ∷ []
read_step names (o.Unary op x) = x.1
read_step names (o.Chain x links) = x.1 ++ flat_map (λ (link : BinaryOperator × Reading). link.1.1) links
read_step names (o.Conditional c x y) = c.1 ++ x.1 ++ y.1
read_step names (o.Concat brace parts) = reads_in parts
read_step names (o.Replicate brace count_at count inner parts) = reads_in parts
read_step names (o.Cast sign x) = x.1

abbrev pub reads_of : List Entry → Expr → List Access
reads_of names = para-Expr (List Access) (read_step names)

-- ---- targets

-- the reads in the indices of a target, and its writes
pub record TargetUse : Type 0 where
  pub reads : List Access
  pub writes : List Access

-- a word of a memory is none of the bits of a variable
abbrev pub whole_bits : Kind → Entry → ℕ
whole_bits (Memory k low count) e = 0
whole_bits kind e = all_bits e

abbrev pub target_use_step : List Entry → AssignKind → Target-F TargetUse → TargetUse
target_use_step names kind (t.Name n) =
    record { reads = []; writes = Write n kind (whole_bits (entry_of names n.name).kind (entry_of names n.name)) ∷ [] }
target_use_step names kind (t.Select n bracket index) =
    record { reads = reads_of names index; writes = Write n kind (bits_at 0 (fixed_bit names (entry_of names n.name) index)) ∷ [] }
target_use_step names kind (t.Part n r) =
    record { reads = []; writes = Write n kind (part_bits names (entry_of names n.name) r.msb.expr r.lsb.expr) ∷ [] }
target_use_step names kind (t.Concat brace parts) = record {
  reads = flat_map (λ (p : TargetUse). p.reads) parts;
  writes = flat_map (λ (p : TargetUse). p.writes) parts;
}

abbrev pub target_use : List Entry → AssignKind → Target → TargetUse
target_use names kind = fold-Target TargetUse (target_use_step names kind)

-- ---- statements

-- all accesses of a statement, and those on each path through it, in the order in which they happen
pub record StmtUse : Type 0 where
  pub all : List Access
  pub paths : List (List Access)

-- accesses on the one path
abbrev pub one_path : List Access → StmtUse
one_path accesses = record { all = accesses; paths = accesses ∷ [] }

-- each path of the first goes on with each of the second
abbrev pub then_use : StmtUse → StmtUse → StmtUse
then_use x y = record { all = x.all ++ y.all; paths = flat_map (λ (p : List Access). map (λ (q : List Access). p ++ q) y.paths) x.paths }

abbrev pub sequence_use : List StmtUse → StmtUse
sequence_use [] = one_path []
sequence_use (x ∷ xs) = then_use x (sequence_use xs)

-- a path takes one of the branches
abbrev pub branches_use : List StmtUse → StmtUse
branches_use xs = record { all = flat_map (λ (x : StmtUse). x.all) xs; paths = flat_map (λ (x : StmtUse). x.paths) xs }

-- an arm: its label, and its body
pub record ArmUse : Type 0 where
  pub label : Label
  pub body : StmtUse

abbrev pub arm_labels : List ArmUse → List Label
arm_labels arms = map (λ (a : ArmUse). a.label) arms

-- these values hold each number below this one
abbrev pub covers : ℕ → List ℕ → Bool
covers zero values = true
covers (suc n) values = list_any (λ value. value == n) values && covers n values

-- The items are constant expressions that together take all values of the common width, which is at most 8.
abbrev pub is_full : List Entry → Expr → Comparison → List Label → Bool
is_full names subject by labels =
    nat_le by.width 8 && list_all (is_constant names) (all_items labels)
    && covers (2 ^ by.width) (map (λ x. value_at by (sense_of names [] x) no_view) (all_items labels))

-- the path on which no item is taken, where there is no default and the items don't take all values (9.5)
abbrev pub no_item : Bool → List StmtUse
no_item true = []
no_item false = one_path [] ∷ []

abbrev pub case_branches : List Entry → Expr → List ArmUse → List StmtUse
case_branches names subject arms =
    map (λ (a : ArmUse). a.body) arms
    ++ no_item (list_any is_default (arm_labels arms) || is_full names subject (comparison_of names [] subject (arm_labels arms)) (arm_labels arms))

abbrev pub case_reads : List Entry → Expr → List Label → List Access
case_reads names subject labels = reads_of names subject ++ flat_map (reads_of names) (all_items labels)

-- the right side and the indices are read before the parts are written (9.2)
abbrev pub assign_use : TargetUse → List Access → StmtUse
assign_use target reads = one_path (reads ++ target.reads ++ target.writes)

abbrev pub use_step : List Entry → Stmt-F StmtUse ArmUse → StmtUse
use_step names s.Null = one_path []
use_step names (s.Block body) = sequence_use body
use_step names (s.If x one) = then_use (one_path (reads_of names x)) (branches_use (one ∷ one_path [] ∷ []))
use_step names (s.IfElse x one other) = then_use (one_path (reads_of names x)) (branches_use (one ∷ other ∷ []))
use_step names (s.Case kind subject arms) =
    then_use (one_path (case_reads names subject (arm_labels arms))) (branches_use (case_branches names subject arms))
use_step names (s.Assign target kind value) = assign_use (target_use names kind target) (reads_of names value)

abbrev pub use_of : List Entry → Stmt → StmtUse
use_of names = fold-Stmt StmtUse ArmUse (use_step names) (λ arm. record { label = arm.label; body = arm.body })

-- ---- modules

pub record AssignUse : Type 0 where
  pub target : Ident
  pub reads : List Access

pub record ProcessUse : Type 0 where
  pub event : Event
  pub body : StmtUse

-- The declared names, the assigns and the processes, in text order.
pub record Uses : Type 0 where
  pub names : List Entry
  pub assigns : List AssignUse
  pub processes : List ProcessUse

abbrev pub wire_use : List Entry → Ident → Option Placed → List AssignUse
wire_use names target None = []
wire_use names target (Some x) = record { target = target; reads = reads_of names x.expr } ∷ []

abbrev pub item_assign_uses : List Entry → Item → List AssignUse
item_assign_uses names (i.Wires signed range nets) = flat_map (λ (d : Declared). wire_use names d.name d.value) nets
item_assign_uses names (i.Assigns settings) = map (λ (s : Setting). record { target = s.name; reads = reads_of names s.value.expr }) settings
item_assign_uses names _ = []

abbrev pub item_process_uses : List Entry → Item → List ProcessUse
item_process_uses names (i.Always event body) = record { event = event; body = use_of names body } ∷ []
item_process_uses names _ = []

abbrev pub uses_of : List Entry → Module → Uses
uses_of names m = record {
  names = names;
  assigns = flat_map (item_assign_uses names) m.items;
  processes = flat_map (item_process_uses names) m.items;
}
