-- A cycle in which the nets settle once, and the clocked processes take all their steps one process after another, with the
-- nets as they are (1364-2005, 9.9.2 and 11.4).
use Rattle.std.specs.Prelude.{ℕ, List, [], ◌∷◌, ◌++◌, Bool}
use Rattle.v_meaning.specs.Views.{Store, View, Write, applied}
use Rattle.v_meaning.specs.Acts.{Acts, End, Branch, Blocking, Nonblocking}
use Rattle.v_meaning.specs.Designs.{Design, words_from, stored, view_over}
use Rattle.v_order.specs.Settling.{with_nets, settled_by}

-- what processes look at, and the nonblocking writes that wait
pub record Stepping : Type 0 where
  pub view : View
  pub queue : List Write

-- What a process leaves that takes all its steps alone, with the nets as they are: its blocking writes are done, and its
-- nonblocking ones stand behind the queue (9.2.1, 9.2.2).
abbrev pub finished : Acts → Stepping → Stepping
finished End s = s
finished (Branch f rest) s = finished rest (finished (f s.view) s)
finished (Blocking f rest) s = finished rest (record { view = applied s.view (f s.view); queue = s.queue })
finished (Nonblocking f rest) s = finished rest (record { view = s.view; queue = s.queue ++ f s.view })

-- one process after another
abbrev pub all_finished : List Acts → Stepping → Stepping
all_finished [] s = s
all_finished (process ∷ processes) s = all_finished processes (finished process s)

-- what a process looks at over a store, where the nets are computed in an order
abbrev pub view_by : Design → List ℕ → List ℕ → List ℕ → Store → View
view_by d order inputs sites store = with_nets (view_over inputs sites store []) (settled_by d order (view_over inputs sites store []))

-- what the outputs show, over the store before, the inputs and the choice of a cycle
abbrev pub shown_by : Design → List ℕ → Store → List ℕ → List Bool → List ℕ
shown_by d order before inputs choice = d.shows (view_by d order inputs (words_from d.sites choice) before)

-- the store behind the edge: that of the last view, and the queue applied to it (11.4.1)
abbrev pub next_of : Stepping → Store
next_of s = stored s.view.store s.queue

abbrev pub next_by : Design → List ℕ → Store → List ℕ → List Bool → Store
next_by d order before inputs choice =
    next_of (all_finished d.clocked (record { view = view_by d order inputs (words_from d.sites choice) before; queue = [] }))
