-- The declared names of a module are numbered as they are declared, those of each kind from 0 on, each once.
use Rattle.std.proofs.Common.{◌≡◌, ◌≤◌, ◌<◌, ◌+◌, ℕ, suc, List, [], ◌∷◌, ◌++◌, flat_map, filter, fold, Bool, true, false, not, cond, Option, refl, sym, ap, subst, ◌∙◌, inl, inr, ◌⊎◌, zero-add, append_assoc, append-nil, arith}
use Rattle.std.specs.Prelude.{⊤, ◌==◌, ◌^◌, ◌&&◌, if◌then◌else◌, max, None, Some}
use Rattle.std.specs.List.{list_all}
use Rattle.std.proofs.lemmas.Bool.{cases_eq, and_parts, lt-ltb}
use Rattle.std.proofs.lemmas.Nat.{mod_below, pow_pos}
use Rattle.std.proofs.lemmas.List.Recursion.{is_count_by}
use Rattle.lz_base.specs.Names.{is_among}
use Rattle.v_syntax.specs.declared.expr.Range.{Range}
use Rattle.v_syntax.specs.declared.expr.Placed.{Placed}
use Rattle.v_syntax.specs.declared.module.Variable.{Variable}
use Rattle.v_syntax.specs.declared.module.Variable.TheVariants as v
use Rattle.v_syntax.specs.declared.module.ParameterGroup.{ParameterGroup}
use Rattle.v_syntax.specs.declared.module.PortGroup.{PortGroup}
use Rattle.v_syntax.specs.declared.module.PortKind.{PortKind}
use Rattle.v_syntax.specs.declared.module.PortKind.TheVariants as p
use Rattle.v_syntax.specs.declared.module.Event.TheVariants as w
use Rattle.v_syntax.specs.declared.module.Item.{Item}
use Rattle.v_syntax.specs.declared.module.Item.TheVariants as i
use Rattle.v_syntax.specs.declared.module.Module.{Module}
use Rattle.v_meaning.specs.declared.names.Kind.{Kind}
use Rattle.v_meaning.specs.declared.names.Kind.TheVariants as k
use Rattle.v_meaning.specs.declared.names.Entry.{Entry}
use Rattle.v_meaning.specs.Declarations.{Roles, roles_of, combinational_names, is_input, is_settled, is_variable, is_memory, count_of, is_event, range_width, first_value, variable_kind, port_kind, parameter_entry, port_entry, wire_entry, variable_entry, behind_parameters, behind_ports, behind_item, behind_header, names_of}
use Rattle.v_meaning.specs.Uses.{item_process_uses, uses_of}
use Rattle.v_meaning.specs.ProcessRules.{is_clocked, is_settled_variable, combinational_of}
use Rattle.v_meaning.specs.Views.{no_view}
use Rattle.v_meaning.specs.Senses.{Sense, assigned}
use Rattle.v_meaning.specs.Expressions.{sense_of}
use Rattle.v_order.specs.Firsts.{fits_first, keeps_first}
use Rattle.v_order.specs.Numbered.{IsNext, AreNumbered}
use Rattle.v_order.proofs.Settled.{Each}

-- ---- what is kept from declaration to declaration

-- the first value of a declaration is cut to its width
first_fits : (names : List Entry) (range : Option Range) (value : Option Placed) → fits_first (range_width names range) (first_value names range value) ≡ true
first_fits names range None = refl
first_fits names range (Some x) =
    let width : ℕ = range_width names range in
    let x : Sense = sense_of names [] x.expr in
    lt-ltb (assigned width x no_view) (2 ^ width) (mod_below (x.at (max width x.width) x.signed no_view) (2 ^ width) (pow_pos width))

-- a kind that may be declared behind these names
record Declared (roles : Roles) (names : List Entry) (kind : Kind) : Type 0 where
  next : IsNext names kind
  clocked : roles.combinational ≡ [] → is_settled_variable kind ≡ false

input_case : (roles : Roles) (names : List Entry) (b : Bool) → Declared roles names (if b then k.Clock else k.Input (count_of is_input names))
input_case roles names true = record { next = tt; clocked = λ none. refl }
input_case roles names false = record { next = refl; clocked = λ none. refl }

variable_case : (roles : Roles) (names : List Entry) (b : Bool) → (roles.combinational ≡ [] → b ≡ false) →
    Declared roles names (if b then k.Combinational (count_of is_settled names) else k.Variable (count_of is_variable names))
variable_case roles names true out = record { next = refl; clocked = λ none. absurd (cc (out none)) }
variable_case roles names false out = record { next = refl; clocked = λ none. refl }

module _ (roles : Roles) (Q : List Entry → Type 0) (push : (names : List Entry) (e : Entry) → Q names → Declared roles names e.kind → keeps_first e ≡ true → Q (names ++ e ∷ [])) where
  variable_declared : (names : List Entry) (name : List ℕ) → Declared roles names (variable_kind roles names name)
  variable_declared names name = variable_case roles names (is_among name roles.combinational) (ap (is_among name))

  port_declared : (names : List Entry) (kind : PortKind) (range : Option Range) (name : List ℕ) → Declared roles names (port_kind roles names kind range name)
  port_declared names p.Input range name = input_case roles names (is_event roles.event name && range_width names range == 1)
  port_declared names p.Output range name = record { next = refl; clocked = λ none. refl }
  port_declared names p.OutputReg range name = variable_declared names name

  fold_keeps : {A : Type 0} (f : List Entry → A → List Entry) (xs : List A) (names : List Entry) → ((names : List Entry) (x : A) → Q names → Q (f names x)) → Q names → Q (fold f names xs)
  fold_keeps f [] names step h = h
  fold_keeps f (x ∷ xs) names step h = fold_keeps f xs (f names x) step (step names x h)

  parameters_keep : (names : List Entry) (group : ParameterGroup) → Q names → Q (behind_parameters names group)
  parameters_keep names group = fold_keeps (λ names s. names ++ parameter_entry names group s ∷ []) group.settings names
      (λ names s h. push names (parameter_entry names group s) h (record { next = tt; clocked = λ none. refl }) refl)

  ports_keep : (names : List Entry) (group : PortGroup) → Q names → Q (behind_ports roles names group)
  ports_keep names group = fold_keeps (λ names d. names ++ port_entry roles names group d ∷ []) group.ports names
      (λ names d h. push names (port_entry roles names group d) h (port_declared names group.kind group.range d.name.name) (first_fits names group.range d.value))

  variable_keeps : (signed : Bool) (range : Option Range) (names : List Entry) (x : Variable) → Q names → Q (names ++ variable_entry roles names signed range x ∷ [])
  variable_keeps signed range names (v.Plain d) h = push names (variable_entry roles names signed range (v.Plain d)) h (variable_declared names d.name.name) (first_fits names range d.value)
  variable_keeps signed range names (v.Memory name addresses) h =
      push names (variable_entry roles names signed range (v.Memory name addresses)) h (record { next = refl; clocked = λ none. refl }) refl

  item_keeps : (names : List Entry) (item : Item) → Q names → Q (behind_item roles names item)
  item_keeps names (i.Parameters group) = parameters_keep names group
  item_keeps names (i.LocalParameters group) = parameters_keep names group
  item_keeps names (i.Wires signed range nets) = fold_keeps (λ names d. names ++ wire_entry names signed range d ∷ []) nets names
      (λ names d h. push names (wire_entry names signed range d) h (record { next = refl; clocked = λ none. refl }) refl)
  item_keeps names (i.Regs signed range variables) = fold_keeps (λ names d. names ++ variable_entry roles names signed range d ∷ []) variables names (variable_keeps signed range)
  item_keeps names (i.Assigns settings) = λ h. h
  item_keeps names (i.Always event body) = λ h. h

  header_keeps : (m : Module) → Q [] → Q (behind_header roles m)
  header_keeps m h = fold_keeps (behind_ports roles) m.ports (fold behind_parameters [] m.parameters) ports_keep (fold_keeps behind_parameters m.parameters [] parameters_keep h)

-- what holds of no names and is kept by each declaration holds of those of a module
names_keep : (m : Module) (Q : List Entry → Type 0) → Q [] → ((names : List Entry) (e : Entry) → Q names → Declared (roles_of m.items) names e.kind → keeps_first e ≡ true → Q (names ++ e ∷ [])) → Q (names_of m)
names_keep m Q none push =
    let roles : Roles = roles_of m.items in
    fold_keeps roles Q push (behind_item roles) m.items (behind_header roles m) (item_keeps roles Q push) (header_keeps roles Q push m none)

-- ---- all kinds

numbered_push : (before names : List Entry) (e : Entry) → AreNumbered before names → IsNext (before ++ names) e.kind → AreNumbered before (names ++ e ∷ [])
numbered_push before [] e h next = (subst (λ l. IsNext l e.kind) (append-nil before) next, tt)
numbered_push before (x ∷ names) e h next =
    (h.0, numbered_push (before ++ x ∷ []) names e h.1 (subst (λ l. IsNext l e.kind) (sym (append_assoc before (x ∷ []) names)) next))

pub names_numbered : (m : Module) → AreNumbered [] (names_of m)
names_numbered m = names_keep m (AreNumbered []) tt (λ names e h declared fits. numbered_push [] names e h declared.next)

-- ---- first values

all_push : (names : List Entry) (e : Entry) → list_all keeps_first names ≡ true → keeps_first e ≡ true → list_all keeps_first (names ++ e ∷ []) ≡ true
all_push [] e h own = ap (λ (b : Bool). b && true) own
all_push (x ∷ names) e h own =
    let r = and_parts (keeps_first x) (list_all keeps_first names) h in
    λ i. r.0 i && all_push names e r.1 own i

pub firsts_fit : (m : Module) → list_all keeps_first (names_of m) ≡ true
firsts_fit m = names_keep m (λ names. list_all keeps_first names ≡ true) refl (λ names e h declared fits. all_push names e h fits)

-- ---- no combinational variable

-- no item is a combinational process
none_among : (names : List Entry) (items : List Item) → filter (λ p. not (is_clocked p)) (flat_map (item_process_uses names) items) ≡ [] → combinational_names items ≡ []
none_among names [] h = refl
none_among names (i.Parameters group ∷ items) h = none_among names items h
none_among names (i.LocalParameters group ∷ items) h = none_among names items h
none_among names (i.Wires signed range nets ∷ items) h = none_among names items h
none_among names (i.Regs signed range variables ∷ items) h = none_among names items h
none_among names (i.Assigns settings ∷ items) h = none_among names items h
none_among names (i.Always (w.Posedge event) body ∷ items) h = none_among names items h
none_among names (i.Always w.Any body ∷ items) h = absurd (cc h)

-- a name whose variable is not combinational
abbrev pub IsClocked : Entry → Type 0
IsClocked e = is_settled_variable e.kind ≡ false

each_push : {A : Type 0} (P : A → Type 0) (xs : List A) (x : A) → Each P xs → P x → Each P (xs ++ x ∷ [])
each_push P [] x h own = (own, tt)
each_push P (y ∷ xs) x h own = (h.0, each_push P xs x h.1 own)

pub names_clocked : (m : Module) → combinational_of (uses_of (names_of m) m) ≡ [] → Each IsClocked (names_of m)
names_clocked m clocked =
    let none : combinational_names m.items ≡ [] = none_among (names_of m) m.items clocked in
    names_keep m (Each IsClocked) tt (λ names e h declared fits. each_push IsClocked names e h (declared.clocked none))

-- ---- one kind

abbrev pub number_of : Kind → ℕ
number_of (k.Parameter value) = 0
number_of k.Clock = 0
number_of (k.Input n) = n
number_of (k.Net n) = n
number_of (k.Combinational n) = n
number_of (k.Variable n) = n
number_of (k.Memory n low count) = n

abbrev pub In : Entry → List Entry → Type 0
In e [] = ⊥
In e (x ∷ es) = (x ≡ e) ⊎ In e es

module _ (test : Kind → Bool) where
  abbrev pub next_number : ℕ → Kind → ℕ
  next_number n kind = if test kind then suc n else n

  abbrev pub last_number : ℕ → List Entry → ℕ
  last_number n [] = n
  last_number n (e ∷ es) = last_number (next_number n e.kind) es

  -- those that pass are numbered from this one on
  abbrev pub Numbered : ℕ → List Entry → Type 0
  Numbered n [] = ⊤
  Numbered n (e ∷ es) = (test e.kind ≡ true → number_of e.kind ≡ n) × Numbered (next_number n e.kind) es

  abbrev counted : List Entry → ℕ
  counted [] = 0
  counted (e ∷ es) = cond (test e.kind) (1 + counted es) (counted es)

  count_case : (b : Bool) (n more : ℕ) → (if b then suc n else n) + more ≡ n + cond b (1 + more) more
  count_case true n more = omega arith
  count_case false n more = omega arith

  last_counted : (n : ℕ) (es : List Entry) → last_number n es ≡ n + counted es
  last_counted n [] = omega arith
  last_counted n (e ∷ es) = last_counted (next_number n e.kind) es ∙ count_case (test e.kind) n (counted es)

  pub last_counts : (es : List Entry) → last_number 0 es ≡ count_of test es
  last_counts es = last_counted 0 es ∙ zero-add (counted es) ∙ is_count_by counted (λ (e : Entry). test e.kind) refl (λ x xs. refl) es

  last_push : (n : ℕ) (es : List Entry) (e : Entry) → last_number n (es ++ e ∷ []) ≡ next_number (last_number n es) e.kind
  last_push n [] e = refl
  last_push n (x ∷ es) e = last_push (next_number n x.kind) es e

  next_case : (b : Bool) (n : ℕ) → b ≡ true → (if b then suc n else n) ≡ suc n
  next_case true n passes = refl
  next_case false n passes = absurd (cc passes)

  next_least : (b : Bool) (n : ℕ) → n ≤ (if b then suc n else n)
  next_least true n = omega arith
  next_least false n = omega arith

  pub least_number : (n : ℕ) (es : List Entry) (e : Entry) → Numbered n es → In e es → test e.kind ≡ true → n ≤ number_of e.kind
  least_number n [] e h there passes = absurd there
  least_number n (x ∷ es) e h (inl same) passes = subst (λ (y : Entry). n ≤ number_of y.kind) same (omega (arith, h.0 (ap (λ (y : Entry). test y.kind) same ∙ passes)))
  least_number n (x ∷ es) e h (inr there) passes = omega (arith, least_number (next_number n x.kind) es e h.1 there passes, next_least (test x.kind) n)

  last_least : (n : ℕ) (es : List Entry) → n ≤ last_number n es
  last_least n [] = omega arith
  last_least n (e ∷ es) = omega (arith, last_least (next_number n e.kind) es, next_least (test e.kind) n)

  pub below_last : (n : ℕ) (es : List Entry) (e : Entry) → Numbered n es → In e es → test e.kind ≡ true → number_of e.kind < last_number n es
  below_last n [] e h there passes = absurd there
  below_last n (x ∷ es) e h (inl same) passes =
      let own : test x.kind ≡ true = ap (λ (y : Entry). test y.kind) same ∙ passes in
      subst (λ (y : Entry). number_of y.kind < last_number (next_number n x.kind) es) same (omega (arith, h.0 own, next_case (test x.kind) n own, last_least (next_number n x.kind) es))
  below_last n (x ∷ es) e h (inr there) passes = below_last (next_number n x.kind) es e h.1 there passes

  -- a later one has a greater number
  later_greater : (n : ℕ) (x : Entry) (es : List Entry) (e : Entry) → Numbered n (x ∷ es) → In e es → test x.kind ≡ true → test e.kind ≡ true → number_of x.kind < number_of e.kind
  later_greater n x es e h there own passes =
      omega (arith, h.0 own, next_case (test x.kind) n own, least_number (next_number n x.kind) es e h.1 there passes)

  -- a number is that of one entry
  pub same_entry : (n : ℕ) (es : List Entry) (e f : Entry) → Numbered n es → In e es → In f es → test e.kind ≡ true → test f.kind ≡ true → number_of e.kind ≡ number_of f.kind → e ≡ f
  same_entry n [] e f h there other p q same = absurd there
  same_entry n (x ∷ es) e f h (inl here) (inl there) p q same = sym here ∙ there
  same_entry n (x ∷ es) e f h (inl here) (inr other) p q same =
      let own : test x.kind ≡ true = ap (λ (y : Entry). test y.kind) here ∙ p in
      absurd (omega (arith, later_greater n x es f h other own q, ap (λ (y : Entry). number_of y.kind) here, same))
  same_entry n (x ∷ es) e f h (inr there) (inl here) p q same =
      let own : test x.kind ≡ true = ap (λ (y : Entry). test y.kind) here ∙ q in
      absurd (omega (arith, later_greater n x es e h there own p, ap (λ (y : Entry). number_of y.kind) here, same))
  same_entry n (x ∷ es) e f h (inr there) (inr other) p q same = same_entry (next_number n x.kind) es e f h.1 there other p q same

  -- an entry with this number
  pub record Has (es : List Entry) (m : ℕ) : Type 0 where
    pub entry : Entry
    pub there : In entry es
    pub passes : test entry.kind ≡ true
    pub number : number_of entry.kind ≡ m

  entry_case : (b : Bool) (x : Entry) (es : List Entry) (n m : ℕ) → test x.kind ≡ b → (test x.kind ≡ true → number_of x.kind ≡ n) → n ≤ m → ((if b then suc n else n) ≤ m → Has es m) → Has (x ∷ es) m
  entry_case false x es n m is h least later = let r = later least in record { entry = r.entry; there = inr r.there; passes = r.passes; number = r.number }
  entry_case true x es n m is h least later = elim (cases_eq n m) [
    | inl same ↦ record { entry = x; there = inl refl; passes = is; number = h is ∙ same }
    | inr apart ↦ (let r = later (omega (arith, apart)) in record { entry = r.entry; there = inr r.there; passes = r.passes; number = r.number })
  ]

  -- each number below the last is that of an entry
  pub numbered_entry : (n : ℕ) (es : List Entry) (m : ℕ) → Numbered n es → n ≤ m → m < last_number n es → Has es m
  numbered_entry n [] m h least below = absurd (omega arith)
  numbered_entry n (x ∷ es) m h least below = entry_case (test x.kind) x es n m refl h.0 least (λ front. numbered_entry (next_number n x.kind) es m h.1 front below)

  -- where the next number of these is how many there are before
  module _ (next : (before : List Entry) (kind : Kind) → IsNext before kind → test kind ≡ true → number_of kind ≡ count_of test before) where
    numbered_from : (before names : List Entry) → AreNumbered before names → Numbered (last_number 0 before) names
    numbered_from before [] h = tt
    numbered_from before (e ∷ names) h = (
      λ passes. next before e.kind h.0 passes ∙ sym (last_counts before),
      subst (λ n. Numbered n names) (last_push 0 before e) (numbered_from (before ++ e ∷ []) names h.1),
    )

next_settled : (before : List Entry) (kind : Kind) → IsNext before kind → is_settled kind ≡ true → number_of kind ≡ count_of is_settled before
next_settled before (k.Parameter value) h passes = absurd (cc passes)
next_settled before k.Clock h passes = absurd (cc passes)
next_settled before (k.Input n) h passes = absurd (cc passes)
next_settled before (k.Net n) h passes = h
next_settled before (k.Combinational n) h passes = h
next_settled before (k.Variable n) h passes = absurd (cc passes)
next_settled before (k.Memory n low count) h passes = absurd (cc passes)

next_variable : (before : List Entry) (kind : Kind) → IsNext before kind → is_variable kind ≡ true → number_of kind ≡ count_of is_variable before
next_variable before (k.Parameter value) h passes = absurd (cc passes)
next_variable before k.Clock h passes = absurd (cc passes)
next_variable before (k.Input n) h passes = absurd (cc passes)
next_variable before (k.Net n) h passes = absurd (cc passes)
next_variable before (k.Combinational n) h passes = absurd (cc passes)
next_variable before (k.Variable n) h passes = h
next_variable before (k.Memory n low count) h passes = absurd (cc passes)

next_memory : (before : List Entry) (kind : Kind) → IsNext before kind → is_memory kind ≡ true → number_of kind ≡ count_of is_memory before
next_memory before (k.Parameter value) h passes = absurd (cc passes)
next_memory before k.Clock h passes = absurd (cc passes)
next_memory before (k.Input n) h passes = absurd (cc passes)
next_memory before (k.Net n) h passes = absurd (cc passes)
next_memory before (k.Combinational n) h passes = absurd (cc passes)
next_memory before (k.Variable n) h passes = absurd (cc passes)
next_memory before (k.Memory n low count) h passes = h

pub settled_numbered : (m : Module) → Numbered is_settled 0 (names_of m)
settled_numbered m = numbered_from is_settled next_settled [] (names_of m) (names_numbered m)

pub variables_numbered : (m : Module) → Numbered is_variable 0 (names_of m)
variables_numbered m = numbered_from is_variable next_variable [] (names_of m) (names_numbered m)

pub memories_numbered : (m : Module) → Numbered is_memory 0 (names_of m)
memories_numbered m = numbered_from is_memory next_memory [] (names_of m) (names_numbered m)

-- ---- nets, where no variable is combinational

net_case : (kind : Kind) → is_settled_variable kind ≡ false → is_settled kind ≡ true → kind ≡ k.Net (number_of kind)
net_case (k.Parameter value) out passes = absurd (cc passes)
net_case k.Clock out passes = absurd (cc passes)
net_case (k.Input n) out passes = absurd (cc passes)
net_case (k.Net n) out passes = refl
net_case (k.Combinational n) out passes = absurd (cc out)
net_case (k.Variable n) out passes = absurd (cc passes)
net_case (k.Memory n low count) out passes = absurd (cc passes)

pub clocked_in : (es : List Entry) (e : Entry) → Each IsClocked es → In e es → is_settled_variable e.kind ≡ false
clocked_in [] e h there = absurd there
clocked_in (x ∷ es) e h (inl same) = ap (λ (y : Entry). is_settled_variable y.kind) (sym same) ∙ h.0
clocked_in (x ∷ es) e h (inr there) = clocked_in es e h.1 there

-- an entry that settles is a net
pub settled_net : (es : List Entry) (e : Entry) → Each IsClocked es → In e es → is_settled e.kind ≡ true → e.kind ≡ k.Net (number_of e.kind)
settled_net es e h there passes = net_case e.kind (clocked_in es e h there) passes
