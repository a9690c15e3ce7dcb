-- Names met so far, line by line.
use Rattle.std.proofs.Common.{◌≡◌, ◌+◌, ℕ, List, [], ◌∷◌, ◌++◌, length, map, Result, Err, sym, ap, refl, Bool, true, false, not, cond, ◌∙◌, Bor, append_assoc}
use Rattle.std.specs.BTreeSet.{BTreeSet}
use Rattle.lz_base.specs.declared.fault.Stop.{Stop}
use Rattle.lz_base.specs.declared.fault.Stop.TheVariants as stop
use Rattle.lz_base.specs.declared.name.Port.{Port}
use Rattle.lz_base.specs.declared.rule.Rule.{Rule}
use Rattle.lz_base.specs.Met.{Met}
use Rattle.lz_base.specs.Names.{is_among}
use Rattle.lz_lines.specs.References.{Judges, IsWrong, wrong_inputs, wrong_name}
use Rattle.lz_lines.specs.Shared.{input_line}

-- a name that was met is wrong where it stands again
pub met_again : (names : List (List ℕ)) (place : ℕ) (name : List ℕ) → false ≡ not (is_among name names) → wrong_name names place name ≡ place ∷ []
met_again names place name e = at (is_among name names) e
  where
    at : (t : Bool) → false ≡ not t → cond t (place ∷ []) [] ≡ place ∷ []
    at true e = refl
    at false e = cc

-- These names were met before the ports that are left.
pub record NamesGo (met : BTreeSet (Bor (List ℕ))) (place : ℕ) (left : List Port) (names : List (List ℕ)) (start : ℕ) (ports : List Port) : Type 0 where
  pub known : List (List ℕ)
  pub met_them : Met met known
  pub whole : known ++ map (λ (p : Port). p.name) left ≡ names ++ map (λ (p : Port). p.name) ports
  pub wrong : wrong_inputs names start ports ≡ wrong_inputs known place left

-- a fault at the first of some places is one at the first of those and more
pub wrong_more : (rule : Rule) (e : Stop) (front back whole : List ℕ) → IsWrong rule front e → whole ≡ front ++ back → IsWrong rule whole e
wrong_more rule (stop.Fault f) front back whole h e = (h.0, h.1 ++ back, e ∙ ap (λ l. l ++ back) h.2)
wrong_more rule stop.OutOfMemory front back whole h e = tt

pub judges_more : (rule : Rule) (result : Result ℕ Stop) (e : Stop) (all_ : ℕ) (front back whole : List ℕ) → result ≡ Err e → IsWrong rule front e → whole ≡ front ++ back → Judges rule result all_ whole
judges_more rule result e all_ front back whole is h whole_is = rw is (wrong_more rule e front back whole h whole_is)

pub inputs_next : (known : List (List ℕ)) (place : ℕ) (left rest : List Port) (p : Port) → left ≡ p ∷ rest
    → wrong_inputs known place left ≡ wrong_name known (place + 6) p.name ++ wrong_inputs (known ++ p.name ∷ []) (place + length (input_line p)) rest
inputs_next known place left rest p e = ap (wrong_inputs known place) e

pub inputs_step : (met after : BTreeSet (Bor (List ℕ))) (place behind start : ℕ) (left rest ports : List Port) (names : List (List ℕ)) (p : Port) → (g : NamesGo met place left names start ports) → left ≡ p ∷ rest
    → wrong_name g.known (place + 6) p.name ≡ [] → behind ≡ place + length (input_line p) → Met after (g.known ++ p.name ∷ []) → NamesGo after behind rest names start ports
inputs_step met after place behind start left rest ports names p g split right at_ next = record {
  known = g.known ++ p.name ∷ [];
  met_them = next;
  whole = append_assoc g.known (p.name ∷ []) (map (λ (q : Port). q.name) rest) ∙ ap (λ (qs : List Port). g.known ++ map (λ (q : Port). q.name) qs) (sym split) ∙ g.whole;
  wrong = g.wrong ∙ inputs_next g.known place left rest p split ∙ ap (λ l. l ++ wrong_inputs (g.known ++ p.name ∷ []) (place + length (input_line p)) rest) right
      ∙ ap (λ k. wrong_inputs (g.known ++ p.name ∷ []) k rest) (sym at_);
}
