-- One line more keeps the form, and adds its spelling.
use Rattle.std.proofs.Common.{◌≡◌, ℕ, List, [], ◌∷◌, ◌++◌, flat_map, true, ◌||◌, not, is_some, IsSome, Option, None, Some, refl, ap, sym, ◌∙◌, append_assoc, append-nil}
use Rattle.lz_base.specs.declared.name.Port.{Port}
use Rattle.lz_base.specs.Names.{IsName}
use Rattle.lz_lines.specs.Sections.{none}
use Rattle.lz_lines.proofs.Listed.{each_more, flat_more}
use Rattle.lz_lines.proofs.Sections.{both, cell_more, clock_more, flop_more, input_more, output_more}
use Rattle.g_net.specs.declared.network.Flip.{Flip}
use Rattle.g_net.specs.declared.network.Gate.{Gate}
use Rattle.g_net.specs.declared.network.Gate.TheVariants as gate
use Rattle.g_net.specs.declared.network.Output.{Output}
use Rattle.lz_circuit.specs.Lines.{HasClock}
use Rattle.g_net.specs.Network.{NetworkValue}
use Rattle.g_text.specs.declared.line.Line.{Line}
use Rattle.g_text.specs.declared.line.Line.TheVariants as line
use Rattle.g_text.specs.Form.{HasForm, IsFlip, IsGate, IsOutput, IsPort}
use Rattle.g_text.specs.Grammar.{IsLine}
use Rattle.g_text.specs.Keys.{key_word}
use Rattle.g_text.specs.Raw.{bare, with_line, body}
use Rattle.g_text.specs.Text.{flip_line, gate_line, named_line}
use Rattle.g_text.proofs.Opening.{gate_may, may_of, opens}
use Rattle.g_text.proofs.Spelling.{HasFields, key_of, spelling, spelling_is, tail_in}

-- flip-flops stand behind a clock, or come behind one
clock_there : (c : Option (List ℕ)) (fs : List Flip) → HasClock c fs → (not (none fs) || is_some c) ≡ true → IsSome c
clock_there None [] h e = cc
clock_there (Some c) [] h e = refl
clock_there c (f ∷ fs) h e = h

clocked_more : (clock : Option (List ℕ)) (fs : List Flip) (f : Flip) → IsSome clock → HasClock clock (fs ++ f ∷ [])
clocked_more clock [] f h = h
clocked_more clock (g ∷ gs) f h = h

clocked_first : (clock : Option (List ℕ)) (name : List ℕ) (fs : List Flip) → HasClock clock fs → HasClock (Some name) fs
clocked_first clock name [] h = tt
clocked_first clock name (f ∷ fs) h = refl

-- a line that may come keeps the form
form_more : (n : NetworkValue) (l : Line) → HasForm n → may_of n (key_of l) ≡ true → HasFields l → HasForm (with_line n l)
form_more n (line.Clock name) h may f =
    record { name = h.name; clock = (f, tt); inputs = h.inputs; clocked = clocked_first n.clock name n.flips h.clocked; flips = h.flips; gates = h.gates; outputs = h.outputs }
form_more n (line.Input p) h may f =
    record { name = h.name; clock = h.clock; inputs = each_more IsPort n.inputs p h.inputs f; clocked = h.clocked; flips = h.flips; gates = h.gates; outputs = h.outputs }
form_more n (line.Flip g) h may f = record {
  name = h.name;
  clock = h.clock;
  inputs = h.inputs;
  clocked = clocked_more n.clock n.flips g (clock_there n.clock n.flips h.clocked (both _ _ (both (none n.outputs) _ may).1).1);
  flips = each_more IsFlip n.flips g h.flips f;
  gates = h.gates;
  outputs = h.outputs;
}
form_more n (line.Gate g) h may f =
    record { name = h.name; clock = h.clock; inputs = h.inputs; clocked = h.clocked; flips = h.flips; gates = each_more IsGate n.gates g h.gates f; outputs = h.outputs }
form_more n (line.Output o) h may f =
    record { name = h.name; clock = h.clock; inputs = h.inputs; clocked = h.clocked; flips = h.flips; gates = h.gates; outputs = each_more IsOutput n.outputs o h.outputs f }

no_outputs : (os : List Output) → none os ≡ true → flat_map named_line os ≡ []
no_outputs [] e = refl
no_outputs (o ∷ os) e = cc

-- a line that may come adds its spelling
body_more : (n : NetworkValue) (l : Line) → may_of n (key_of l) ≡ true → body (with_line n l) ≡ body n ++ spelling l
body_more n (line.Clock name) may = clock_more flip_line gate_line n.clock n.inputs n.flips n.gates _ _ (no_outputs n.outputs) name may
body_more n (line.Input p) may = input_more flip_line gate_line n.clock n.inputs n.flips n.gates _ _ (no_outputs n.outputs) p may
body_more n (line.Flip g) may = flop_more flip_line gate_line n.clock n.inputs n.flips n.gates _ _ (no_outputs n.outputs) g may
body_more n (line.Gate g) may = cell_more flip_line gate_line n.clock n.inputs n.flips n.gates _ _ (no_outputs n.outputs) g (sym (gate_may n g) ∙ may)
body_more n (line.Output o) may = output_more flip_line gate_line n.clock n.inputs n.flips n.gates _ _ (no_outputs n.outputs) _ (named_line o) (flat_more named_line n.outputs o)

-- a line keeps the model's name
same_name : (n : NetworkValue) (l : Line) → (with_line n l).name ≡ n.name
same_name n (line.Clock name) = refl
same_name n (line.Input p) = refl
same_name n (line.Flip f) = refl
same_name n (line.Gate g) = refl
same_name n (line.Output o) = refl

pub record Grows (n : NetworkValue) (l : Line) (text : List ℕ) : Type 0 where
  pub form : HasForm (with_line n l)
  pub spelled : body (with_line n l) ≡ body n ++ text
  pub name : (with_line n l).name ≡ n.name

-- a line of the grammar keeps the form, and adds its spelling
pub grows : (n : NetworkValue) (l : Line) (text : List ℕ) → HasForm n → IsLine n l text → Grows n l text
grows n l text h (k, front, back, iskey, tail, e) =
    let s = tail_in k l back tail in
    let o = opens n k front iskey in
    let may : may_of n (key_of l) ≡ true = ap (may_of n) s.kind ∙ o.0 in
    let spelled : text ≡ spelling l = e ∙ (λ i. (o.1 ∙ ap key_word (sym s.kind)) i ++ s.spelled i) ∙ spelling_is l in
    record { form = form_more n l h may s.fields; spelled = body_more n l may ∙ ap (λ x. body n ++ x) (sym spelled); name = same_name n l }

-- no line but the model's
pub bare_form : (name : List ℕ) → IsName name → HasForm (bare name)
bare_form name h = record { name = h; clock = tt; inputs = tt; clocked = tt; flips = tt; gates = tt; outputs = tt }
