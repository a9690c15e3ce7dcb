-- What is spelled is read again, and so no two small modules have one spelling.
use Rattle.std.proofs.Common.{◌≡◌, ◌<◌, length, map, arith, Bool, true, false, List, [], ◌∷◌, ◌++◌, Some, None, refl, sym, ap, ◌∙◌, append_assoc}
use Rattle.std.specs.Prelude.{flat_map}
use Rattle.std.proofs.lemmas.List.{append-nil, length-map}
use Rattle.std.proofs.lemmas.List.Concat.{flat_map-append}
use Rattle.v_syntax.specs.declared.token.Token.{Token}
use Rattle.v_syntax.specs.declared.token.Ident.{Ident}
use Rattle.v_syntax.specs.declared.token.Keyword.TheVariants as k
use Rattle.v_syntax.specs.declared.token.Mark.TheVariants as m
use Rattle.v_syntax.specs.declared.small.SmallPort.{SmallPort}
use Rattle.v_syntax.specs.declared.small.SmallPort.TheVariants.{Input, Register}
use Rattle.v_syntax.specs.declared.small.SmallOperator.{SmallOperator}
use Rattle.v_syntax.specs.declared.small.SmallOperator.TheVariants.{And, Or, Xor}
use Rattle.v_syntax.specs.declared.small.SmallOperand.{SmallOperand}
use Rattle.v_syntax.specs.declared.small.SmallExpr.{SmallExpr}
use Rattle.v_syntax.specs.declared.small.SmallExpr.TheVariants.{One, Two}
use Rattle.v_syntax.specs.declared.small.SmallModule.{SmallModule}
use Rattle.v_syntax.specs.Small.{seen, word, mark, name, operand_spelling, operator_mark, value_spelling, port_spelling, module_spelling}
use Rattle.v_small.specs.Reading.{Seen, mark_at, operand_at, operator_at, value_at, port_at, further_at, head_at, event_at, assign_at, end_at, body_at}

-- an operand is read again
operand_parts : (inverted : Bool) (i : Ident) (rest : List Seen) → operand_at (operand_spelling (record { inverted = inverted; name = i }) ++ rest) ≡ Some (record { inverted = inverted; name = i }, rest)
unfolding operand_at
operand_parts true i rest = refl
operand_parts false i rest = refl

operand_again : (o : SmallOperand) (rest : List Seen) → operand_at (operand_spelling o ++ rest) ≡ Some (o, rest)
operand_again o rest = operand_parts o.inverted o.name rest

-- an operator is read again
operator_again : (o : SmallOperator) (rest : List Seen) → operator_at (mark (operator_mark o) ∷ rest) ≡ Some (o, rest)
unfolding operator_at
operator_again And rest = refl
operator_again Or rest = refl
operator_again Xor rest = refl

-- a value is read again where no operator stands behind it
value_again : (v : SmallExpr) (rest : List Seen) → operator_at rest ≡ None → value_at (value_spelling v ++ rest) ≡ Some (v, rest)
unfolding value_at
value_again (One a) rest none = rw (operand_again a rest, none) refl
value_again (Two a o b) rest none =
    let regrouped : value_spelling (Two a o b) ++ rest ≡ operand_spelling a ++ (mark (operator_mark o) ∷ (operand_spelling b ++ rest)) = append_assoc (operand_spelling a) (mark (operator_mark o) ∷ operand_spelling b) rest in
    ap value_at regrouped ∙ rw (operand_again a (mark (operator_mark o) ∷ (operand_spelling b ++ rest)), operator_again o (operand_spelling b ++ rest), operand_again b rest) refl

-- a port is read again behind its comma
further_again : (p : SmallPort) (rest : List Seen) → further_at (port_spelling p ++ rest) ≡ Some (p, rest)
unfolding port_at
further_again (Input i) rest = refl
further_again (Register i) rest = refl

-- no port stands at the end of the ports
further_none : (rest : List Seen) → further_at (mark m.CloseParen ∷ rest) ≡ None
further_none rest = refl

-- equal pairs have equal parts
some_triple : {A B C : Type 0} (p q : A × B × C) → Some p ≡ Some q → (p.0 ≡ q.0) × (p.1 ≡ q.1) × (p.2 ≡ q.2)
some_triple p q e = let same : p ≡ q = cc in (ap (λ x. x.0) same, ap (λ x. x.1) same, ap (λ x. x.2) same)

some_pair : {A B : Type 0} (p q : A × B) → Some p ≡ Some q → (p.0 ≡ q.0) × (p.1 ≡ q.1)
some_pair p q e = let same : p ≡ q = cc in (ap (λ x. x.0) same, ap (λ x. x.1) same)

-- modules with equal parts are equal
module_same : (i j clock other : Ident) (ps qs : List SmallPort) (event edge target goal : Ident) (v w : SmallExpr) → i ≡ j → clock ≡ other → ps ≡ qs → event ≡ edge → target ≡ goal → v ≡ w
    → ◌≡◌ {A = SmallModule} (record { name = i; clock = clock; ports = ps; event = event; target = target; value = v }) (record { name = j; clock = other; ports = qs; event = edge; target = goal; value = w })
module_same i j clock other ps qs event edge target goal v w a b c d e f = rw (a, b, c, d, e, f) refl

-- ports that are spelled alike, up to where no port stands, are the same
pub ports_same : (ps qs : List SmallPort) (left rest : List Seen) → further_at left ≡ None → flat_map port_spelling ps ++ left ≡ flat_map port_spelling qs ++ mark m.CloseParen ∷ rest → (ps ≡ qs) × (left ≡ mark m.CloseParen ∷ rest)
ports_same [] [] left rest none e = (refl, e)
ports_same [] (q ∷ qs) left rest none e =
    let again = further_again q (flat_map port_spelling qs ++ mark m.CloseParen ∷ rest) in
    let whole : left ≡ port_spelling q ++ (flat_map port_spelling qs ++ mark m.CloseParen ∷ rest) = e ∙ append_assoc (port_spelling q) (flat_map port_spelling qs) (mark m.CloseParen ∷ rest) in
    let read : further_at left ≡ Some (q, flat_map port_spelling qs ++ mark m.CloseParen ∷ rest) = ap further_at whole ∙ again in
    absurd (cc (none, read))
ports_same (p ∷ ps) [] left rest none e =
    let again = further_again p (flat_map port_spelling ps ++ left) in
    let whole : port_spelling p ++ (flat_map port_spelling ps ++ left) ≡ mark m.CloseParen ∷ rest = sym (append_assoc (port_spelling p) (flat_map port_spelling ps) left) ∙ e in
    let read : None ≡ Some (p, flat_map port_spelling ps ++ left) = sym (ap further_at whole) ∙ again in
    absurd (cc read)
ports_same (p ∷ ps) (q ∷ qs) left rest none e =
    let one = further_again p (flat_map port_spelling ps ++ left) in
    let other = further_again q (flat_map port_spelling qs ++ mark m.CloseParen ∷ rest) in
    let front : port_spelling p ++ (flat_map port_spelling ps ++ left) ≡ flat_map port_spelling (p ∷ ps) ++ left = sym (append_assoc (port_spelling p) (flat_map port_spelling ps) left) in
    let back : flat_map port_spelling (q ∷ qs) ++ mark m.CloseParen ∷ rest ≡ port_spelling q ++ (flat_map port_spelling qs ++ mark m.CloseParen ∷ rest) = append_assoc (port_spelling q) (flat_map port_spelling qs) (mark m.CloseParen ∷ rest) in
    let both : Some (p, flat_map port_spelling ps ++ left) ≡ Some (q, flat_map port_spelling qs ++ mark m.CloseParen ∷ rest) = sym one ∙ ap further_at (front ∙ e ∙ back) ∙ other in
    let same : (p ≡ q) × (flat_map port_spelling ps ++ left ≡ flat_map port_spelling qs ++ mark m.CloseParen ∷ rest) = some_pair (p, flat_map port_spelling ps ++ left) (q, flat_map port_spelling qs ++ mark m.CloseParen ∷ rest) both in
    let others : (ps ≡ qs) × (left ≡ mark m.CloseParen ∷ rest) = ports_same ps qs left rest none same.1 in
    (rw (same.0, others.0) refl, others.1)

-- all behind the ports is read again
pub body_again : (event target : Ident) (value : SmallExpr) →
    body_at (mark m.CloseParen ∷ mark m.Semicolon ∷ word k.Always ∷ mark m.At ∷ mark m.OpenParen ∷ word k.Posedge ∷ name event ∷ mark m.CloseParen
    ∷ name target ∷ mark m.LessEqual ∷ value_spelling value ++ mark m.Semicolon ∷ word k.Endmodule ∷ []) ≡ Some (event, target, value)
unfolding event_at assign_at end_at body_at operator_at
body_again event target value = rw (value_again value (mark m.Semicolon ∷ word k.Endmodule ∷ []) refl) refl

-- the head of what is spelled is read
pub head_again : (i clock : Ident) (rest : List Seen) → head_at (word k.Module ∷ name i ∷ mark m.OpenParen ∷ word k.Input ∷ name clock ∷ rest) ≡ Some (i, clock, rest)
unfolding head_at
head_again i clock rest = refl

-- the end of what is spelled behind the ports
abbrev pub end_spelling : SmallModule → List Seen
end_spelling s =
    mark m.Semicolon ∷ word k.Always ∷ mark m.At ∷ mark m.OpenParen ∷ word k.Posedge ∷ name s.event ∷ mark m.CloseParen
    ∷ name s.target ∷ mark m.LessEqual ∷ value_spelling s.value ++ mark m.Semicolon ∷ word k.Endmodule ∷ []

-- a module's spelling, in three parts
spelled_in_parts : (s : SmallModule) → module_spelling s ≡ word k.Module ∷ name s.name ∷ mark m.OpenParen ∷ word k.Input ∷ name s.clock ∷ (flat_map port_spelling s.ports ++ (mark m.CloseParen ∷ end_spelling s))
spelled_in_parts s =
    ap (λ (x : List Seen). word k.Module ∷ name s.name ∷ mark m.OpenParen ∷ word k.Input ∷ name s.clock ∷ x)
    (append_assoc (flat_map port_spelling s.ports) (mark m.CloseParen ∷ mark m.Semicolon ∷ word k.Always ∷ mark m.At ∷ mark m.OpenParen ∷ word k.Posedge ∷ name s.event ∷ mark m.CloseParen
    ∷ name s.target ∷ mark m.LessEqual ∷ value_spelling s.value) (mark m.Semicolon ∷ word k.Endmodule ∷ []))

-- the one head of a module's tokens
head_of : (s : SmallModule) (ts : List Seen) → ts ≡ module_spelling s → head_at ts ≡ Some (s.name, s.clock, flat_map port_spelling s.ports ++ mark m.CloseParen ∷ end_spelling s)
head_of s ts e = ap head_at (e ∙ spelled_in_parts s) ∙ head_again s.name s.clock (flat_map port_spelling s.ports ++ mark m.CloseParen ∷ end_spelling s)

-- tokens with no head are those of no module
pub no_head : (ts : List Seen) → head_at ts ≡ None → (s : SmallModule) → ts ≡ module_spelling s → ⊥
no_head ts none s e = let read = head_of s ts e in absurd (cc (none, read))

-- what stands behind the head of a module's tokens
pub behind_head : (i clock : Ident) (ts left : List Seen) → ts ≡ word k.Module ∷ name i ∷ mark m.OpenParen ∷ word k.Input ∷ name clock ∷ left → (s : SmallModule) → ts ≡ module_spelling s
    → ((i ≡ s.name) × (clock ≡ s.clock)) × (left ≡ flat_map port_spelling s.ports ++ mark m.CloseParen ∷ end_spelling s)
behind_head i clock ts left e s spelled =
    let rest = flat_map port_spelling s.ports ++ mark m.CloseParen ∷ end_spelling s in
    let both : Some (i, clock, left) ≡ Some (s.name, s.clock, rest) = sym (ap head_at e ∙ head_again i clock left) ∙ head_of s ts spelled in
    let parts = some_triple {A = Ident} {B = Ident} {C = List Seen} (i, clock, left) (s.name, s.clock, rest) both in
    ((parts.0, parts.1), parts.2)

-- the one body behind a module's ports
pub body_of : (s : SmallModule) → body_at (mark m.CloseParen ∷ end_spelling s) ≡ Some (s.event, s.target, s.value)
body_of s = body_again s.event s.target s.value

-- ports behind which no body stands are no front of what is left behind a module's head
pub no_body : (ports : List SmallPort) (left rest : List Seen) → left ≡ flat_map port_spelling ports ++ rest → further_at rest ≡ None → body_at rest ≡ None
    → (s : SmallModule) → left ≡ flat_map port_spelling s.ports ++ mark m.CloseParen ∷ end_spelling s → ⊥
no_body ports left rest split last none s spelled =
    let same = ports_same ports s.ports rest (end_spelling s) last (sym split ∙ spelled) in
    let read : body_at rest ≡ Some (s.event, s.target, s.value) = ap body_at same.1 ∙ body_of s in
    absurd (cc (none, read))

-- two modules of one spelling are one
pub one_spelling : (a b : SmallModule) → module_spelling a ≡ module_spelling b → a ≡ b
one_spelling a b e =
    let heads = behind_head a.name a.clock (module_spelling a) (flat_map port_spelling a.ports ++ mark m.CloseParen ∷ end_spelling a) (spelled_in_parts a) b e in
    let ports = ports_same a.ports b.ports (mark m.CloseParen ∷ end_spelling a) (end_spelling b) refl heads.1 in
    let bodies : Some (a.event, a.target, a.value) ≡ Some (b.event, b.target, b.value) = sym (body_of a) ∙ ap body_at ports.1 ∙ body_of b in
    let parts = some_triple {A = Ident} {B = Ident} {C = SmallExpr} (a.event, a.target, a.value) (b.event, b.target, b.value) bodies in
    module_same a.name b.name a.clock b.clock a.ports b.ports a.event b.event a.target b.target a.value b.value heads.0.0 heads.0.1 ports.0 parts.0 parts.1 parts.2

-- tokens that stop at a comma with no port behind it go on to the end of no list of ports
pub no_ports : (done : List SmallPort) (ts left next : List Seen) → ts ≡ flat_map port_spelling done ++ left → left ≡ mark m.Comma ∷ next → port_at next ≡ None
    → (ports : List SmallPort) (rest : List Seen) → ts ≡ flat_map port_spelling ports ++ mark m.CloseParen ∷ rest → ⊥
no_ports done ts left next split comma none ports rest spelled =
    let last : further_at left ≡ None = ap further_at comma ∙ none in
    let same = ports_same done ports left rest last (sym split ∙ spelled) in
    let apart : Some next ≡ None = ap (mark_at m.Comma) (sym comma ∙ same.1) in
    absurd (cc apart)

-- behind a port fewer tokens are left
pub fewer_left : (p : SmallPort) (left next rest : List Token) → map seen left ≡ mark m.Comma ∷ map seen next → mark m.Comma ∷ map seen next ≡ port_spelling p ++ map seen rest → length rest < length left
fewer_left (Input i) left next rest comma port = omega (arith, simp length-map at (ap length (comma ∙ port)))
fewer_left (Register i) left next rest comma port = omega (arith, simp length-map at (ap length (comma ∙ port)))

-- what stands behind one more port
pub one_more : (done : List SmallPort) (p : SmallPort) (ts left rest : List Seen) → ts ≡ flat_map port_spelling done ++ left → left ≡ port_spelling p ++ rest → ts ≡ flat_map port_spelling (done ++ p ∷ []) ++ rest
one_more done p ts left rest split port =
    split ∙ ap (λ (x : List Seen). flat_map port_spelling done ++ x) port ∙ sym (append_assoc (flat_map port_spelling done) (port_spelling p) rest)
    ∙ ap (λ (x : List Seen). x ++ rest) (ap (λ (x : List Seen). flat_map port_spelling done ++ x) (sym (append-nil (port_spelling p))) ∙ sym (flat_map-append port_spelling done (p ∷ [])))

-- the three parts of a module's spelling, joined
pub in_one : (i clock event target : Ident) (ports : List SmallPort) (value : SmallExpr) (ts left rest : List Seen)
    → ts ≡ word k.Module ∷ name i ∷ mark m.OpenParen ∷ word k.Input ∷ name clock ∷ left → left ≡ flat_map port_spelling ports ++ rest
    → rest ≡ mark m.CloseParen ∷ end_spelling (record { name = i; clock = clock; ports = ports; event = event; target = target; value = value })
    → ts ≡ module_spelling (record { name = i; clock = clock; ports = ports; event = event; target = target; value = value })
in_one i clock event target ports value ts left rest head split end =
    let whole : left ≡ flat_map port_spelling ports ++ (mark m.CloseParen ∷ end_spelling (record { name = i; clock = clock; ports = ports; event = event; target = target; value = value })) = split ∙ ap (λ (x : List Seen). flat_map port_spelling ports ++ x) end in
    head ∙ ap (λ (x : List Seen). word k.Module ∷ name i ∷ mark m.OpenParen ∷ word k.Input ∷ name clock ∷ x) whole
    ∙ sym (spelled_in_parts (record { name = i; clock = clock; ports = ports; event = event; target = target; value = value }))
