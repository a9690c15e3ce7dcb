-- The lines of a network with the form, one after another, are those of the grammar.
use Rattle.std.proofs.Common.{◌≡◌, ℕ, List, [], ◌∷◌, ◌++◌, flat_map, true, is_some, IsSome, Option, None, Some, inl, inr, refl, ap, sym, subst, ◌∙◌, append_assoc, append-nil}
use Rattle.std.specs.Option.{option_to_list}
use Rattle.lz_base.specs.declared.name.Port.{Port}
use Rattle.lz_base.specs.Names.{IsName}
use Rattle.lz_lines.specs.Fields.{Each}
use Rattle.lz_lines.specs.Keywords.{OneOf}
use Rattle.lz_lines.specs.Sections.{end_line, none}
use Rattle.lz_lines.specs.Shared.{clock_line, input_line}
use Rattle.lz_lines.proofs.Sections.{comes, flops_may, from_end, inputs_may, lines_of}
use Rattle.g_net.specs.declared.network.Flip.{Flip}
use Rattle.g_net.specs.declared.network.Gate.{Gate}
use Rattle.g_net.specs.declared.network.Gate.TheVariants as gate
use Rattle.g_net.specs.declared.network.Output.{Output}
use Rattle.lz_circuit.specs.Lines.{HasClock}
use Rattle.g_net.specs.Network.{NetworkValue}
use Rattle.g_text.specs.declared.line.Key.TheVariants as key
use Rattle.g_text.specs.declared.line.Line.{Line}
use Rattle.g_text.specs.declared.line.Line.TheVariants as line
use Rattle.g_text.specs.Form.{HasForm, IsFlip, IsGate, IsOutput, IsPort}
use Rattle.g_text.specs.Grammar.{IsLine, MayEnd, Rest}
use Rattle.g_text.specs.Keys.{all_keys, key_word}
use Rattle.g_text.specs.Raw.{bare, with_line, body}
use Rattle.g_text.specs.Text.{flip_line, gate_line, named_line}
use Rattle.g_text.proofs.Opening.{gate_may, may_of}
use Rattle.g_text.proofs.Spelling.{HasFields, gate_key, key_of, tail_of, tail_out, spelling, spelling_is}

gate_listed : (g : Gate) → OneOf key_word key.End all_keys (gate_key g) (key_word (gate_key g))
gate_listed (gate.And a b) = inr (inr (inr (inl (refl, refl))))
gate_listed (gate.Xor a b) = inr (inr (inr (inr (inl (refl, refl)))))
gate_listed (gate.Carry a b c) = inr (inr (inr (inr (inr (inl (refl, refl))))))

listed : (l : Line) → OneOf key_word key.End all_keys (key_of l) (key_word (key_of l))
listed (line.Clock name) = inl (refl, refl)
listed (line.Input p) = inr (inl (refl, refl))
listed (line.Flip f) = inr (inr (inl (refl, refl)))
listed (line.Gate g) = gate_listed g
listed (line.Output o) = inr (inr (inr (inr (inr (inr (inl (refl, refl)))))))

-- a line that may come is one of the grammar
line_comes : (n : NetworkValue) (l : Line) → may_of n (key_of l) ≡ true → HasFields l → IsLine n l (spelling l)
line_comes n l may fields =
    (key_of l, key_word (key_of l), tail_of l, comes key_word key.End (may_of n) all_keys (key_of l) (key_word (key_of l)) may (listed l), tail_out l fields, sym (spelling_is l))

outputs_go : (n m : NetworkValue) (os : List Output) (t : List ℕ) → Each IsOutput os → Rest (record n { outputs = n.outputs ++ os }) m t → Rest n m (flat_map named_line os ++ t)
outputs_go = lines_of IsLine with_line MayEnd end_line line.Output named_line (λ n os. record n { outputs = n.outputs ++ os }) (λ n os. Each IsOutput os)
    (λ n o os h. (line_comes n (line.Output o) refl h.0, h.1)) (λ n k. record n { outputs = append-nil n.outputs k }) (λ n o os k. record n { outputs = sym (append_assoc n.outputs (o ∷ []) os) k })

gates_go : (n m : NetworkValue) (gs : List Gate) (t : List ℕ) → (none n.outputs ≡ true) × Each IsGate gs → Rest (record n { gates = n.gates ++ gs }) m t → Rest n m (flat_map gate_line gs ++ t)
gates_go = lines_of IsLine with_line MayEnd end_line line.Gate gate_line (λ n gs. record n { gates = n.gates ++ gs }) (λ n gs. (none n.outputs ≡ true) × Each IsGate gs)
    (λ n g gs h. (line_comes n (line.Gate g) (gate_may n g ∙ h.0) h.1.0, (h.0, h.1.1))) (λ n k. record n { gates = append-nil n.gates k }) (λ n g gs k. record n { gates = sym (append_assoc n.gates (g ∷ []) gs) k })

clocked_still : (clock : Option (List ℕ)) (fs : List Flip) → IsSome clock → HasClock clock fs
clocked_still clock [] h = tt
clocked_still clock (f ∷ fs) h = h

flips_go : (n m : NetworkValue) (fs : List Flip) (t : List ℕ) → (none n.outputs ≡ true) × (none n.gates ≡ true) × HasClock n.clock fs × Each IsFlip fs → Rest (record n { flips = n.flips ++ fs }) m t
    → Rest n m (flat_map flip_line fs ++ t)
flips_go = lines_of IsLine with_line MayEnd end_line line.Flip flip_line (λ n fs. record n { flips = n.flips ++ fs }) (λ n fs. (none n.outputs ≡ true) × (none n.gates ≡ true) × HasClock n.clock fs × Each IsFlip fs)
    (λ n f fs h. (line_comes n (line.Flip f) (flops_may _ _ (none n.flips) n.clock (none n.inputs) h.0 h.1 h.2) h.3.0, (h.0, h.1, clocked_still n.clock fs h.2, h.3.1)))
    (λ n k. record n { flips = append-nil n.flips k }) (λ n f fs k. record n { flips = sym (append_assoc n.flips (f ∷ []) fs) k })

inputs_go : (n m : NetworkValue) (ps : List Port) (t : List ℕ) → (none n.outputs ≡ true) × (none n.gates ≡ true) × (none n.flips ≡ true) × Each IsPort ps → Rest (record n { inputs = n.inputs ++ ps }) m t
    → Rest n m (flat_map input_line ps ++ t)
inputs_go = lines_of IsLine with_line MayEnd end_line line.Input input_line (λ n ps. record n { inputs = n.inputs ++ ps })
    (λ n ps. (none n.outputs ≡ true) × (none n.gates ≡ true) × (none n.flips ≡ true) × Each IsPort ps)
    (λ n p ps h. (line_comes n (line.Input p) (inputs_may _ _ _ (is_some n.clock) (none n.inputs) h.0 h.1 h.2) h.3.0, (h.0, h.1, h.2, h.3.1)))
    (λ n k. record n { inputs = append-nil n.inputs k }) (λ n p ps k. record n { inputs = sym (append_assoc n.inputs (p ∷ []) ps) k })

clock_go : (name : List ℕ) (m : NetworkValue) (clock : Option (List ℕ)) (t : List ℕ) → Each IsName (option_to_list clock) → Rest (record (bare name) { clock = clock }) m t → Rest (bare name) m (clock_line clock ++ t)
clock_go name m None t named g = g
clock_go name m (Some c) t named g = (line.Clock c ∷ g.0, (clock_line (Some c), t, line_comes (bare name) (line.Clock c) refl named.0, g.1, refl))

-- the lines of a network with the form
pub lines_go : (m : NetworkValue) → HasForm m → Rest (bare m.name) m (body m ++ end_line)
lines_go m h =
    let done : Rest m m end_line = ([], (tt, refl, refl)) in
    let a = record (bare m.name) { clock = m.clock } in
    let b = record a { inputs = m.inputs } in
    let d = record b { flips = m.flips } in
    let e = record d { gates = m.gates } in
    let outputs : Rest e m (flat_map named_line m.outputs ++ end_line) = outputs_go e m m.outputs end_line h.outputs done in
    let gates : Rest d m (flat_map gate_line m.gates ++ (flat_map named_line m.outputs ++ end_line)) = gates_go d m m.gates _ (refl, h.gates) outputs in
    let flips : Rest b m (flat_map flip_line m.flips ++ (flat_map gate_line m.gates ++ (flat_map named_line m.outputs ++ end_line))) = flips_go b m m.flips _ (refl, refl, h.clocked, h.flips) gates in
    let inputs : Rest a m (flat_map input_line m.inputs ++ (flat_map flip_line m.flips ++ (flat_map gate_line m.gates ++ (flat_map named_line m.outputs ++ end_line)))) =
    inputs_go a m m.inputs _ (refl, refl, refl, h.inputs) flips in
    let clock = clock_go m.name m m.clock _ h.clock inputs in
    subst (λ x. Rest (bare m.name) m x) (sym (from_end (clock_line m.clock) (flat_map input_line m.inputs) (flat_map flip_line m.flips) (flat_map gate_line m.gates) (flat_map named_line m.outputs) end_line)) clock
