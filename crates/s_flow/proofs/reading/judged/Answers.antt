use Rattle.std.proofs.Common.{◌≡◌, ◌∙◌, Some}
use Rattle.std.specs.Prelude.{⊤}
use Rattle.lz_base.specs.declared.fault.Fault.{Fault}
use Rattle.s_flow.specs.FirstBroken.{misused, first_broken}
use Rattle.s_flow.proofs.FirstBroken.{unread_is, misused_is, handed}
use Rattle.s_flow.proofs.reading.judged.Goals as goal

pub returns-then-not-is_clocked-clause-refused : goal.returns-then-not-is_clocked-clause-refused
returns-then-not-is_clocked-clause-refused c =
    let names = c.in_ok-names.ensures.accepted in
    rw c.unsupported.ensures (unread_is c.args.module.now c.is_clocked.result names.0 (rw names.1 at (c.is_clocked.ensures c.in_ok-names.names)) c.if-not-is_clocked.true)

pub check-requires-clause-clocked : goal.check-requires-clause-clocked
check-requires-clause-clocked c = (c.is_clocked.ensures c.in_ok-names.names).0 c.if-not-is_clocked.false

pub returns-in_err-check-clause-refused : goal.returns-in_err-check-clause-refused
returns-in_err-check-clause-refused c =
    let m = c.args.module.now in
    let names = c.in_ok-names.ensures.accepted in
    let clocked = (rw names.1 at (c.is_clocked.ensures c.in_ok-names.names)).0 c.if-not-is_clocked.false in
    handed ⊤ (λ f. misused m ≡ Some f) (λ f. first_broken m ≡ Some f) _ _ c.from_residual-in_err-check.ensures.1 c.in_err-check.ensures.refused (λ f h. misused_is m names.0 clocked ∙ h)

pub returns-clause-accepted : goal.returns-clause-accepted
returns-clause-accepted c =
    let m = c.args.module.now in
    let names = c.in_ok-names.ensures.accepted in
    let clocked = (rw names.1 at (c.is_clocked.ensures c.in_ok-names.names)).0 c.if-not-is_clocked.false in
    (misused_is m names.0 clocked ∙ c.in_ok-check.ensures.accepted, c.in_ok-typed.ensures.design)

pub returns-clause-words : goal.returns-clause-words
returns-clause-words c = λ from end tokens are derived.
    let t = c.in_ok-typed.ensures in
    c.typed_modules_keep_words.ensures c.args.module.now _ t.names t.form (t.sited (c.open_bits_are_read.ensures.read from end tokens c.args.module.now are derived c.in_ok-names.names)) t.words t.measured t.places
