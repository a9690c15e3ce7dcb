-- What a process leaves that takes its steps alone is what its steps leave, one after another.
use Rattle.std.proofs.Common.{◌≡◌, refl, sym}
use Rattle.v_meaning.specs.Views.{View, applied}
use Rattle.v_meaning.specs.Acts.{Acts, End, Branch, Blocking, Nonblocking, followed, alone}

-- acts behind others begin where those end
pub alone_followed : (a b : Acts) (v : View) → alone (followed a b) v ≡ alone b (alone a v)
alone_followed End b v = refl
alone_followed (Branch f rest) b v = alone_followed rest b (alone (f v) v)
alone_followed (Blocking f rest) b v = alone_followed rest b (applied v (f v))
alone_followed (Nonblocking f rest) b v = alone_followed rest b v

-- one step: what is left to do, and the view behind it
abbrev pub left_behind : Acts → View → Acts
left_behind End v = End
left_behind (Branch f rest) v = followed (f v) rest
left_behind (Blocking f rest) v = rest
left_behind (Nonblocking f rest) v = rest

abbrev pub view_behind : Acts → View → View
view_behind End v = v
view_behind (Branch f rest) v = v
view_behind (Blocking f rest) v = applied v (f v)
view_behind (Nonblocking f rest) v = v

-- a step changes nothing of what the process leaves at its end
pub alone_steps : (a : Acts) (v : View) → alone a v ≡ alone (left_behind a v) (view_behind a v)
alone_steps End v = refl
alone_steps (Branch f rest) v = sym (alone_followed (f v) rest v)
alone_steps (Blocking f rest) v = refl
alone_steps (Nonblocking f rest) v = refl
