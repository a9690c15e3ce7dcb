-- The names of ports, port by port.
use Rattle.std.proofs.Common.{◌≡◌, ◌+◌, ◌<◌, ℕ, suc, List, [], ◌∷◌, ◌++◌, length, take, drop, map, get_or, refl, sym, ap, subst, ◌∙◌, inl, inr, Bor, drop-cons}
use Rattle.std.proofs.lemmas.List.{map_push, take_more, take-append-drop}
use Rattle.v_syntax.specs.declared.small.SmallPort.{SmallPort}
use Rattle.v_syntax.specs.declared.small.SmallPort.TheVariants.{Input, Register}
use Rattle.lz_base.specs.Names.{IsAmong}
use Rattle.v_syntax.specs.Small.{port_names, register_names}

-- names of ports, one after the other
abbrev pub IsInOrder : (List SmallPort → List (List ℕ)) → Type 0
IsInOrder f = (xs ys : List SmallPort) → f (xs ++ ys) ≡ f xs ++ f ys

pub ports_in_order : IsInOrder port_names
ports_in_order [] ys = refl
ports_in_order (Input i ∷ xs) ys = ap (λ (x : List (List ℕ)). i.name ∷ x) (ports_in_order xs ys)
ports_in_order (Register i ∷ xs) ys = ap (λ (x : List (List ℕ)). i.name ∷ x) (ports_in_order xs ys)

pub registers_in_order : IsInOrder register_names
registers_in_order [] ys = refl
registers_in_order (Input i ∷ xs) ys = registers_in_order xs ys
registers_in_order (Register i ∷ xs) ys = ap (λ (x : List (List ℕ)). i.name ∷ x) (registers_in_order xs ys)

among_front : (name : List ℕ) (xs ys : List (List ℕ)) → IsAmong name xs → IsAmong name (xs ++ ys)
among_front name [] ys h = absurd h
among_front name (x ∷ xs) ys (inl e) = inl e
among_front name (x ∷ xs) ys (inr h) = inr (among_front name xs ys h)

among_back : (name : List ℕ) (xs ys : List (List ℕ)) → IsAmong name ys → IsAmong name (xs ++ ys)
among_back name [] ys h = h
among_back name (x ∷ xs) ys h = inr (among_back name xs ys h)

-- a name that is in neither list is not in both together
among_neither : (name : List ℕ) (xs ys : List (List ℕ)) → (IsAmong name xs → ⊥) → (IsAmong name ys → ⊥) → IsAmong name (xs ++ ys) → ⊥
among_neither name [] ys front back h = back h
among_neither name (x ∷ xs) ys front back (inl e) = front (inl e)
among_neither name (x ∷ xs) ys front back (inr h) = among_neither name xs ys (λ among. front (inr among)) back h

-- the ports up to a place, and the one there
taken : (ports : List SmallPort) (i : ℕ) (p : SmallPort) → i < length ports → p ≡ get_or ports i p → take (i + 1) ports ≡ take i ports ++ p ∷ []
taken ports i p within at = take_more ports i p within ∙ ap (λ (x : SmallPort). take i ports ++ x ∷ []) (sym at)

-- a name of the port at a place is one of all
pub found_at : (f : List SmallPort → List (List ℕ)) → IsInOrder f → (ports : List SmallPort) (i : ℕ) (p : SmallPort) → i < length ports → p ≡ get_or ports i p
    → (name : List ℕ) → IsAmong name (f (p ∷ [])) → IsAmong name (f ports)
found_at f order ports i p within at name h =
    let split : ports ≡ take i ports ++ (p ∷ [] ++ drop (suc i) ports) = sym (take-append-drop i ports) ∙ ap (λ (x : List SmallPort). take i ports ++ x) (drop-cons ports i p within ∙ ap (λ (x : SmallPort). x ∷ drop (suc i) ports) (sym at)) in
    let names : f ports ≡ f (take i ports) ++ (f (p ∷ []) ++ f (drop (suc i) ports)) = ap f split ∙ order (take i ports) (p ∷ [] ++ drop (suc i) ports) ∙ ap (λ (x : List (List ℕ)). f (take i ports) ++ x) (order (p ∷ []) (drop (suc i) ports)) in
    subst (IsAmong name) (sym names) (among_back name (f (take i ports)) (f (p ∷ []) ++ f (drop (suc i) ports)) (among_front name (f (p ∷ [])) (f (drop (suc i) ports)) h))

-- a name that neither the ports before nor the port at a place have
pub not_yet : (f : List SmallPort → List (List ℕ)) → IsInOrder f → (ports : List SmallPort) (i : ℕ) (p : SmallPort) → i < length ports → p ≡ get_or ports i p
    → (name : List ℕ) → (IsAmong name (f (take i ports)) → ⊥) → (IsAmong name (f (p ∷ [])) → ⊥) → IsAmong name (f (take (i + 1) ports)) → ⊥
not_yet f order ports i p within at name before here h =
    let names : f (take (i + 1) ports) ≡ f (take i ports) ++ f (p ∷ []) = ap f (taken ports i p within at) ∙ order (take i ports) (p ∷ []) in
    among_neither name (f (take i ports)) (f (p ∷ [])) before here (subst (IsAmong name) names h)

-- the clock's name and those of the ports so far, with one more
pub listed : (old new : List (Bor (List ℕ))) (text : Bor (List ℕ)) (clock : List ℕ) (ports : List SmallPort) (i : ℕ) (p : SmallPort) → i < length ports → p ≡ get_or ports i p
    → new ≡ old ++ text ∷ [] → text.now ∷ [] ≡ port_names (p ∷ []) → map (λ (n : Bor (List ℕ)). n.now) old ≡ clock ∷ port_names (take i ports)
    → map (λ (n : Bor (List ℕ)). n.now) new ≡ clock ∷ port_names (take (i + 1) ports)
listed old new text clock ports i p within at pushed here before =
    ap (map (λ (n : Bor (List ℕ)). n.now)) pushed ∙ map_push (λ (n : Bor (List ℕ)). n.now) old text
    ∙ ap (λ (x : List (List ℕ)). x ++ text.now ∷ []) before ∙ ap (λ (x : List (List ℕ)). clock ∷ (port_names (take i ports) ++ x)) here
    ∙ ap (λ (x : List (List ℕ)). clock ∷ x) (sym (ports_in_order (take i ports) (p ∷ [])) ∙ ap port_names (sym (taken ports i p within at)))
