use Rattle.v_order.proofs.Frames.{value_frame, assigned_frame}
use Rattle.v_order.proofs.ActFrames.{acts_frame}
use Rattle.v_order.proofs.law.reads_decide.Goals as goal

pub returns : goal.returns
returns c = record { value = value_frame; assigned = assigned_frame; acts = acts_frame }
