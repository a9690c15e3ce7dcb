use Rattle.std.proofs.Common.{◌≡◌, ◌-◌, List, ℕ, length, take, ap, ◌∙◌, arith, rules}
use Rattle.m_valid.specs.Walk.{known, last_of}
use Rattle.m_valid.proofs.Turns.{here_there, turn_down, turn_up, turn_stops}
use Rattle.m_valid.proofs.walk.turn.Goals as goal

pub next_step-requires-clause-there : goal.next_step-requires-clause-there
next_step-requires-clause-there c =
    let at = c.last_of-here.ensures ∙ ap (λ (p : List ℕ). last_of p c.args.line.now.root) c.as_slice.ensures.value in
    here_there c.args.nodes.now c.args.line.now (known c.args.marks.now c.args.number) c.args.path.now.items c.last_of-here.result (length c.args.nodes.now) c.requires.walking c.requires.unknown at c.requires.there

pub leave_mark-requires : goal.leave_mark-requires
leave_mark-requires c =
    let at = c.last_of-here.ensures ∙ ap (λ (p : List ℕ). last_of p c.args.line.now.root) c.as_slice.ensures.value in
    omega (arith, c.requires.marked, here_there c.args.nodes.now c.args.line.now (known c.args.marks.now c.args.number) c.args.path.now.items c.last_of-here.result (length c.args.nodes.now) c.requires.walking c.requires.unknown at c.requires.there)

pub returns-in_ok-push-in-Down-clause-turn : goal.returns-in_ok-push-in-Down-clause-turn
returns-in_ok-push-in-Down-clause-turn c =
    let at = c.last_of-here.ensures ∙ ap (λ (p : List ℕ). last_of p c.args.line.now.root) c.as_slice.ensures.value in
    turn_down c.args.nodes.now c.args.line.now c.args.number c.args.marks.now c.args.path.now.items c.push.new.self.items c.last_of-here.result c.in-Down.operand c.requires.before c.requires.walking c.requires.unknown at
    c.in-Down.ensures.0 c.in-Down.ensures.1 c.in_ok-push-in-Down.ensures.items

pub returns-in-Up-clause-turn : goal.returns-in-Up-clause-turn
returns-in-Up-clause-turn c =
    let at = c.last_of-here.ensures ∙ ap (λ (p : List ℕ). last_of p c.args.line.now.root) c.as_slice.ensures.value in
    let popped : c.pop.new.self.items ≡ take (length c.args.path.now.items - 1) c.args.path.now.items = search rules in
    turn_up c.args.nodes.now c.args.line.now c.args.number c.args.marks.now c.leave_mark.new.marks c.args.path.now.items c.pop.new.self.items c.last_of-here.result c.in-Up.table c.requires.before c.requires.walking c.requires.unknown at
    c.in-Up.ensures c.leave_mark.ensures.here c.leave_mark.ensures.others c.leave_mark.ensures.fewer popped

pub returns-in-Stop-clause-turn : goal.returns-in-Stop-clause-turn
returns-in-Stop-clause-turn c =
    let at = c.last_of-here.ensures ∙ ap (λ (p : List ℕ). last_of p c.args.line.now.root) c.as_slice.ensures.value in
    turn_stops c.args.nodes.now c.args.line.now c.args.number c.args.marks.now c.args.path.now.items c.last_of-here.result c.requires.before c.requires.walking c.requires.unknown at c.in-Stop.ensures
