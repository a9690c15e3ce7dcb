use Rattle.v_usage.proofs.Least.{replicated_place}
use Rattle.v_usage.proofs.rules.too_wide.Goals as goal

pub returns-in_ok-bits-in-Replicated : goal.returns-in_ok-bits-in-Replicated
returns-in_ok-bits-in-Replicated c =
    replicated_place c.args.names.now _ _ _ _ _ c.in-Replicated.is (c.wrong_bits-in-Replicated.ensures _ c.in_ok-bits-in-Replicated.ensures)
