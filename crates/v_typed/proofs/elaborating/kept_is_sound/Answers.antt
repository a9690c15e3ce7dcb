use Rattle.v_typed.proofs.SoundItems.{sound_items}
use Rattle.v_typed.proofs.elaborating.kept_is_sound.Goals as goal

pub returns : goal.returns
returns c = sound_items
