use Rattle.v_order.proofs.ModuleApart.{every_schedule, do_same, any_realises_text, text_realises_any}
use Rattle.v_order.proofs.law.every_schedule_does_the_same.Goals as goal

pub returns : goal.returns
returns c = record { outcome = every_schedule; does = do_same; any = text_realises_any; text = any_realises_text }
