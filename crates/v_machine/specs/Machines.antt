-- What a machine shows in contracts, and what it keeps.
use Rattle.std.specs.Prelude.{◌≡◌, ℕ, ◌≤◌, ◌<◌, ◌^◌, List, [], length}
use Rattle.v_meaning.specs.Views.{Store}
use Rattle.v_core.specs.declared.modules.Core.{Core}
use Rattle.v_values.specs.Moments.{MomentValue}
use Rattle.v_values.specs.Queues.{QueueValue}
use Rattle.v_machine.specs.Runnable.{CanRun, process_counts, shape_of}

-- the module, and what its variables and memories hold
pub record MachineValue : Type 0 where
  pub core : Core
  pub store : Store

-- Between cycles: a word for each name and each site, twice; no write waits, and there is room for those of all processes, and
-- for how many steps each takes.
pub record IsReady (c : Core) (order : List ℕ) (now spare : MomentValue) (queue : QueueValue) (places : ℕ) : Type 0 where
  pub runs : CanRun c order
  pub shape : now.shape ≡ shape_of c
  pub spare_shape : spare.shape ≡ shape_of c
  pub empty : queue.writes ≡ []
  pub counted : process_counts c.processes < 2 ^ 64
  pub room : process_counts c.processes ≤ queue.room
  pub counts : length c.processes ≤ places
