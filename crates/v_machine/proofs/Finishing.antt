-- What acts leave that stand behind others.
use Rattle.std.proofs.Common.{◌≡◌, ap, sym, ◌∙◌, refl, arith, ℕ, ◌+◌, List, ◌∷◌, ◌++◌}
use Rattle.v_meaning.specs.Views.{View, applied}
use Rattle.v_meaning.specs.Acts.{Acts, End, Branch, Blocking, Nonblocking, alone, followed, sequence}
use Rattle.v_order.specs.Counting.{steps_of}
use Rattle.v_order.specs.Stepping.{Stepping, finished}

pub finished_behind : (a more : Acts) (s : Stepping) → finished (followed a more) s ≡ finished more (finished a s)
finished_behind End more s = refl
finished_behind (Branch f rest) more s = finished_behind rest more (finished (f s.view) s)
finished_behind (Blocking f rest) more s = finished_behind rest more (record { view = applied s.view (f s.view); queue = s.queue })
finished_behind (Nonblocking f rest) more s = finished_behind rest more (record { view = s.view; queue = s.queue ++ f s.view })

-- what is left of acts leaves what all of them leave
pub finishes_next : (whole s next : Stepping) (a : Acts) (left more : List Acts) → left ≡ a ∷ more → next ≡ finished a s → finished (sequence left) s ≡ whole →
    finished (sequence more) next ≡ whole
finishes_next whole s next a left more is e before =
    ap (finished (sequence more)) e ∙ sym (finished_behind a (sequence more) s) ∙ sym (ap (λ (all : List Acts). finished (sequence all) s) is) ∙ before

pub finished_view : (x : Acts) (s : Stepping) → (finished x s).view ≡ alone x s.view
finished_view End s = refl
finished_view (Branch f rest) s = finished_view rest (finished (f s.view) s) ∙ ap (alone rest) (finished_view (f s.view) s)
finished_view (Blocking f rest) s = finished_view rest (record { view = applied s.view (f s.view); queue = s.queue })
finished_view (Nonblocking f rest) s = finished_view rest (record { view = s.view; queue = s.queue ++ f s.view })

steps_followed : (a more : Acts) (v : View) → steps_of (followed a more) v ≡ steps_of a v + steps_of more (alone a v)
steps_followed End more v = omega arith
steps_followed (Branch f rest) more v = omega (arith, steps_followed rest more (alone (f v) v))
steps_followed (Blocking f rest) more v = omega (arith, steps_followed rest more (applied v (f v)))
steps_followed (Nonblocking f rest) more v = omega (arith, steps_followed rest more v)

-- the steps of acts and those of what is left behind them are those of all
pub counts_next : (whole before steps : ℕ) (s next : Stepping) (a : Acts) (left more : List Acts) → left ≡ a ∷ more → next ≡ finished a s → steps ≡ steps_of a s.view →
    before + steps_of (sequence left) s.view ≡ whole → before + steps + steps_of (sequence more) next.view ≡ whole
counts_next whole before steps s next a left more is e many h =
    omega (
      arith,
      h,
      many,
      ap (λ (all : List Acts). steps_of (sequence all) s.view) is,
      steps_followed a (sequence more) s.view,
      ap (steps_of (sequence more)) (ap (λ (t : Stepping). t.view) e ∙ finished_view a s),
    )
