use Rattle.v_uses.specs.Gathered.{written_in}
use Rattle.v_rules.proofs.Written.{known_blocking, known_nonblocking, new_blocking, new_nonblocking}
use Rattle.v_rules.proofs.variables.note_kind.Goals as goal

pub returns-then-is_met : goal.returns-then-is_met
returns-then-is_met c before f =
    known_blocking c.args.blocking.now c.args.nonblocking.now before (written_in c.args.write.now) _ _ _ _ _ c.bytes-name.ensures.value c.is_met.ensures c.if-is_met.true c.is_blocking.ensures c.note.ensures f

pub returns-then-is_met-2 : goal.returns-then-is_met-2
returns-then-is_met-2 c before f =
    known_nonblocking c.args.blocking.now c.args.nonblocking.now before (written_in c.args.write.now) _ _ _ _ _ _ c.bytes-name.ensures.value c.is_met.ensures c.if-is_met.false c.is_met-2.ensures c.if-is_met-2.true c.is_blocking-then-is_met-2.ensures c.note-then-is_met-2.ensures f

pub returns-in_ok-meet : goal.returns-in_ok-meet
returns-in_ok-meet c before f =
    new_blocking c.args.blocking.now c.args.nonblocking.now c.meet.new.met before (written_in c.args.write.now) _ _ _ _ _ _ c.bytes-name.ensures.value c.is_met.ensures c.if-is_met.false c.is_met-2.ensures c.if-is_met-2.false c.is_blocking-2.ensures
    c.if-is_blocking.true c.in_ok-meet.ensures f

pub returns-in_ok-meet-2 : goal.returns-in_ok-meet-2
returns-in_ok-meet-2 c before f =
    new_nonblocking c.args.blocking.now c.args.nonblocking.now c.meet-else-is_blocking.new.met before (written_in c.args.write.now) _ _ _ _ _ _ c.bytes-name.ensures.value c.is_met.ensures c.if-is_met.false c.is_met-2.ensures c.if-is_met-2.false
    c.is_blocking-2.ensures c.if-is_blocking.false c.in_ok-meet-2.ensures f
