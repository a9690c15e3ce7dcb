-- What a process has left to do, and its steps (1364-2005, 9 and 11).
use Rattle.std.specs.Prelude.{List, [], ◌∷◌}
use Rattle.v_meaning.specs.Views.{View, Write, applied}

-- What is left to do of a body, with blocks and null statements dissolved. A branch gives the acts of the chosen statement
-- in a view; an assignment the writes that it makes of the view.
pub data Acts : Type 0 where
  End : Acts
  Branch : (View → Acts) → Acts → Acts
  Blocking : (View → List Write) → Acts → Acts
  Nonblocking : (View → List Write) → Acts → Acts

-- acts, and behind them others (9.8.1)
abbrev pub followed : Acts → Acts → Acts
followed End more = more
followed (Branch f rest) more = Branch f (followed rest more)
followed (Blocking f rest) more = Blocking f (followed rest more)
followed (Nonblocking f rest) more = Nonblocking f (followed rest more)

abbrev pub sequence : List Acts → Acts
sequence [] = End
sequence (a ∷ more) = followed a (sequence more)

-- What a process leaves that takes all its steps alone: its blocking writes, one after another, and the branches that it
-- chooses over them.
abbrev pub alone : Acts → View → View
alone End v = v
alone (Branch f rest) v = alone rest (alone (f v) v)
alone (Blocking f rest) v = alone rest (applied v (f v))
alone (Nonblocking f rest) v = alone rest v
