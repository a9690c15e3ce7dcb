-- What the steps of a walk add to what was gathered before them.
use Rattle.std.specs.Prelude.{◌≡◌, List, [], ◌∷◌, ◌++◌, map, flat_map}
use Rattle.v_syntax.specs.declared.token.Ident.{Ident}
use Rattle.v_syntax.specs.declared.expr.Expr.{Expr}
use Rattle.v_syntax.specs.declared.expr.BinaryOperator.{BinaryOperator}
use Rattle.v_syntax.specs.declared.stmt.AssignKind.{AssignKind}
use Rattle.v_syntax.specs.declared.stmt.Target.{Target}
use Rattle.v_syntax.specs.declared.stmt.Arm.{Arm}
use Rattle.v_syntax.specs.declared.stmt.Stmt.{Stmt}
use Rattle.v_syntax.specs.declared.module.Declared.{Declared}
use Rattle.v_syntax.specs.declared.module.Setting.{Setting}
use Rattle.v_meaning.specs.declared.names.Entry.{Entry}
use Rattle.v_meaning.specs.Statements.{label_items}
use Rattle.v_meaning.specs.ProcessRules.{Written, reads_in, writes_in}
use Rattle.v_meaning.specs.Uses.{Access, AssignUse, ProcessUse, reads_of, target_use, use_of, wire_use}
use Rattle.v_uses.specs.declared.accesses.Accesses.{Accesses}
use Rattle.v_uses.specs.declared.gathered.AssignUses.{AssignUses}
use Rattle.v_uses.specs.declared.gathered.ProcessUses.{ProcessUses}
use Rattle.v_uses.specs.Seen.{AssignSeen, ProcessSeen, assign_seen, process_seen}
use Rattle.v_uses.specs.Gathered.{written_in, assign_in, process_in}

-- Whatever these depend on, as the declared names or a number of bits, they were added: what was gathered now, with any
-- more behind it, is seen as what was gathered before, with these and then the same behind it.
pub record Adds {C S M R : Type 0} (seen : S → List M → R) (old new : S) (these : C → List M) : Type 0 where
  pub added : (c : C) (more : List M) → seen new more ≡ seen old (these c ++ more)

-- ---- what is seen of what was gathered, with some more behind it

-- the names that are read, and the targets
abbrev pub accessed : Accesses → List Access → List Ident × List Written
accessed a more = (map (λ n. n.now) a.reads ++ reads_in more, map written_in a.writes ++ writes_in more)

abbrev pub assigns_seen : List AssignUses → List AssignUse → List AssignSeen
assigns_seen all more = map assign_in all ++ map assign_seen more

abbrev pub processes_seen : List ProcessUses → List ProcessUse → List ProcessSeen
processes_seen all more = map process_in all ++ map process_seen more

-- ---- the accesses of operands, targets and statements

-- an operand behind the first one of a chain
abbrev pub link_reads : List Entry → BinaryOperator × Expr → List Access
link_reads names link = reads_of names link.1

-- an assignment of this kind over these names
abbrev pub Context : Type 0
Context = List Entry × AssignKind

abbrev pub index_reads : Context → Target → List Access
index_reads c target = (target_use c.0 c.1 target).reads

abbrev pub target_writes : Context → Target → List Access
target_writes c target = (target_use c.0 c.1 target).writes

abbrev pub accesses_of : List Entry → Stmt → List Access
accesses_of names statement = (use_of names statement).all

-- the reads of the items of an arm, and the accesses of its body
abbrev pub item_reads : List Entry → Arm → List Access
item_reads names arm = flat_map (reads_of names) (label_items arm.label)

abbrev pub body_accesses : List Entry → Arm → List Access
body_accesses names arm = accesses_of names arm.body

-- ---- the assigns of declarations and lists

abbrev pub wire_uses : List Entry → Declared → List AssignUse
wire_uses names net = wire_use names net.name net.value

abbrev pub setting_use : List Entry → Setting → List AssignUse
setting_use names s = record { target = s.name; reads = reads_of names s.value.expr } ∷ []
