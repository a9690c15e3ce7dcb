-- One output more of a draft.
use Rattle.std.proofs.Common.{◌≡◌, ℕ, ◌+◌, List, [], ◌∷◌, ◌++◌, drop, slice_get, Some, append_assoc, ap, sym, ◌∙◌}
use Rattle.std.specs.Option.{option_map}
use Rattle.g_net.specs.declared.network.Output.{Output}
use Rattle.m_valid.specs.Assembly.{Assembled, after_outputs, nets_of, output_nets, with_inverters}
use Rattle.m_assembly.proofs.Nexts.{item_read}

-- what is assembled behind it is the same
pub after_next : (m after end : Assembled) (os : List Output) (i : ℕ) (literals : List ℕ) → option_map (λ (o : Output). o.literals) (slice_get os i) ≡ Some literals → after ≡ with_inverters m literals
    → after_outputs m (drop i os) ≡ end → after_outputs after (drop (i + 1) os) ≡ end
after_next m after end os i literals e made h =
    let r = item_read (λ (o : Output). o.literals) os i literals e in
    ap (λ (k : Assembled). after_outputs k (drop (i + 1) os)) (made ∙ ap (with_inverters m) (sym r.read)) ∙ sym (ap (after_outputs m) r.rest) ∙ h

-- its nets come next
pub nets_next : (m after : Assembled) (os : List Output) (i : ℕ) (literals nets : List ℕ) (made more all : List (List ℕ)) → option_map (λ (o : Output). o.literals) (slice_get os i) ≡ Some literals → after ≡ with_inverters m literals
    → nets ≡ nets_of m literals → more ≡ made ++ nets ∷ [] → made ++ output_nets m (drop i os) ≡ all → more ++ output_nets after (drop (i + 1) os) ≡ all
nets_next m after os i literals nets made more all e step is push h =
    let r = item_read (λ (o : Output). o.literals) os i literals e in
    ap (λ l. l ++ output_nets after (drop (i + 1) os)) push ∙ append_assoc made (nets ∷ []) (output_nets after (drop (i + 1) os))
    ∙ ap (λ (k : Assembled). made ++ nets ∷ output_nets k (drop (i + 1) os)) (step ∙ ap (with_inverters m) (sym r.read))
    ∙ ap (λ l. made ++ l ∷ output_nets (with_inverters m r.item.literals) (drop (i + 1) os)) (is ∙ ap (nets_of m) (sym r.read)) ∙ ap (λ l. made ++ l) (sym (ap (output_nets m) r.rest)) ∙ h
