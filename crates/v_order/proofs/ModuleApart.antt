-- The processes of a module that breaks no rule and whose processes are all clocked are apart, so that every schedule does
-- the same: each variable and each memory has one process that writes it (P3), and what that one writes at once is read in
-- no other (P5).
use Rattle.std.proofs.Common.{◌≡◌, ◌⊎◌, ◌↔◌, ◌+◌, ℕ, zero, suc, List, [], ◌∷◌, ◌++◌, length, length-append, map, flat_map, filter, Bool, true, false, not, None, refl, sym, ap, ◌∙◌, subst, inl, inr, append_assoc, append-nil, arith}
use Rattle.std.specs.Prelude.{⊤, bytes_eq, slice_index}
use Rattle.std.proofs.lemmas.Bool.{or_cases, or_left, or_right, false_from_ne_true}
use Rattle.std.proofs.lemmas.List.Concat.{flat_map-append}
use Rattle.lz_base.specs.Names.{is_among}
use Rattle.lz_base.specs.WordValue.{WordValue}
use Rattle.lz_machine.specs.Machine.{Realises}
use Rattle.v_syntax.specs.declared.stmt.AssignKind.TheVariants as a
use Rattle.v_syntax.specs.declared.stmt.Stmt.{Stmt}
use Rattle.v_syntax.specs.declared.module.Event.TheVariants as w
use Rattle.v_syntax.specs.declared.module.Item.{Item}
use Rattle.v_syntax.specs.declared.module.Item.TheVariants as i
use Rattle.v_syntax.specs.declared.module.Module.{Module}
use Rattle.v_meaning.specs.Views.{Store, View}
use Rattle.v_meaning.specs.declared.names.Kind.{Kind}
use Rattle.v_meaning.specs.declared.names.Kind.TheVariants as k
use Rattle.v_meaning.specs.declared.names.Entry.{Entry}
use Rattle.v_meaning.specs.Declarations.{is_variable, is_memory, names_of}
use Rattle.v_meaning.specs.Designs.{cycle_bits, InTextOrder, InAnyOrder, IsOutcome, Does}
use Rattle.v_meaning.specs.Modules.{design_of, module_machine}
use Rattle.v_meaning.specs.Statements.{acts_of}
use Rattle.v_meaning.specs.Uses.{Access, Read, Write, ProcessUse, use_of, item_process_uses, uses_of}
use Rattle.v_meaning.specs.ProcessRules.{Written, reads_in, writes_in, reads_of_process, writes_of_process, written_names, is_clocked, clocked_of, combinational_of, is_blocking, blocking_names, all_blocking, places_if, ident_names, written_again, read_elsewhere}
use Rattle.v_meaning.specs.Broken.{places_of, first_fault, typing_rules, process_rules}
use Rattle.v_depends.specs.Nodes.{is_in}
use Rattle.v_order.specs.Settling.{Settles}
use Rattle.v_order.specs.Stepping.{shown_by, next_by}
use Rattle.v_order.specs.Steady.{AtOnce, IsSteady}
use Rattle.v_order.specs.Apart.{Owners, IsOwn, AgreeFor, IsApartIn, EachFrom, AreApart}
use Rattle.v_order.proofs.Settled.{Each}
use Rattle.v_order.proofs.Frames.{IsSame, ReadsSame}
use Rattle.v_order.proofs.ActFrames.{Reads, acts_respect}
use Rattle.v_order.proofs.TargetWrites.{MayBeWritten, WritesIn, writes_only}
use Rattle.v_order.proofs.Numbering.{Numbered, IsClocked, number_of, variables_numbered, memories_numbered, names_clocked}
use Rattle.v_order.proofs.ModuleOrder.{Keeps, keeps, no_first, no_rest, self_bytes}
use Rattle.v_order.proofs.Alike.{IsOut, not_combinational}
use Rattle.v_order.proofs.Names.{among_left, among_right, among_cases, kind_of, numbers_among, number_there, number_out, places_none, items_have}
use Rattle.v_order.proofs.ModuleSteady.{at_once, out_kind, sites_of, no_combinational, all_steady, module_cycles}
use Rattle.v_order.proofs.AnyOrder.{any_order}
use Rattle.v_order.proofs.Machines.{HasOutcomes, does_too, realises}

-- ---- what a process may look at

abbrev MaySee : AtOnce → Owners → ℕ → Kind → Type 0
MaySee b o process (k.Parameter value) = ⊤
MaySee b o process k.Clock = ⊤
MaySee b o process (k.Input n) = ⊤
MaySee b o process (k.Net n) = ⊤
MaySee b o process (k.Combinational n) = ⊤
MaySee b o process (k.Variable n) = (is_in n b.variables ≡ false) ⊎ (o.variable n ≡ process)
MaySee b o process (k.Memory n low count) = (is_in n b.memories ≡ false) ⊎ (o.memory n ≡ process)

abbrev SeesIn : List Entry → AtOnce → Owners → ℕ → Access → Type 0
SeesIn names b o process (Read n bits) = MaySee b o process (kind_of names n.name)
SeesIn names b o process (Write n kind bits) = ⊤

module _ (b : AtOnce) (o : Owners) (process : ℕ) where
  same_kind : (v w : View) → AgreeFor b o process v w → (kind : Kind) → MaySee b o process kind → IsSame v w kind
  same_kind v w agree (k.Parameter value) h = refl
  same_kind v w agree k.Clock h = refl
  same_kind v w agree (k.Input n) h = ap (λ (words : List ℕ). slice_index words n) agree.inputs
  same_kind v w agree (k.Net n) h = ap (λ (words : List ℕ). slice_index words n) agree.nets
  same_kind v w agree (k.Combinational n) h = ap (λ (words : List ℕ). slice_index words n) agree.nets
  same_kind v w agree (k.Variable n) h = agree.variables n h
  same_kind v w agree (k.Memory n low count) h = agree.memories n h

  same_access : (names : List Entry) (v w : View) → AgreeFor b o process v w → (x : Access) → SeesIn names b o process x → ReadsSame v w names x
  same_access names v w agree (Read n bits) h = same_kind v w agree (kind_of names n.name) h
  same_access names v w agree (Write n kind bits) h = tt

  sees : (names : List Entry) → Reads names (SeesIn names b o process) (AgreeFor b o process)
  sees names = record { sites = λ v w agree. agree.sites; same = same_access names }

  see_out : (kind : Kind) → IsOut b kind → MaySee b o process kind
  see_out (k.Parameter value) h = tt
  see_out k.Clock h = tt
  see_out (k.Input n) h = tt
  see_out (k.Net n) h = tt
  see_out (k.Combinational n) h = tt
  see_out (k.Variable n) h = inl h
  see_out (k.Memory n low count) h = inl h

-- ---- lists of names

out_left : (z : List ℕ) (xs ys : List (List ℕ)) → is_among z (xs ++ ys) ≡ false → is_among z xs ≡ false
out_left z xs ys out = false_from_ne_true (is_among z xs) (λ there. absurd (cc (among_left z xs ys there, out)))

out_right : (z : List ℕ) (xs ys : List (List ℕ)) → is_among z (xs ++ ys) ≡ false → is_among z ys ≡ false
out_right z xs ys out = false_from_ne_true (is_among z ys) (λ there. absurd (cc (among_right z xs ys there, out)))

names_of_written : (ws : List Written) → ident_names (map (λ (x : Written). x.name) ws) ≡ map (λ (x : Written). x.name.name) ws
names_of_written [] = refl
names_of_written (x ∷ ws) = ap (λ l. x.name.name ∷ l) (names_of_written ws)

not_between : (z : List ℕ) (front own behind : List (List ℕ)) → is_among z (front ++ behind) ≡ false → is_among z own ≡ false → is_among z (front ++ (own ++ behind)) ≡ false
not_between z front own behind out none = false_from_ne_true (is_among z (front ++ (own ++ behind))) (λ there. elim (among_cases z front (own ++ behind) there) [
  | inl first ↦ absurd (cc (among_left z front behind first, out))
  | inr later ↦ (elim (among_cases z own behind later) [
    | inl here ↦ absurd (cc (here, none))
    | inr last ↦ absurd (cc (among_right z front behind last, out))
  ])
])

-- what a blocking assignment writes is written
blocking_written : (accesses : List Access) (z : List ℕ) → is_among z (map (λ (x : Written). x.name.name) (filter (λ (x : Written). is_blocking x.kind) (writes_in accesses))) ≡ true →
    is_among z (map (λ (x : Written). x.name.name) (writes_in accesses)) ≡ true
blocking_written [] z h = h
blocking_written (Read n bits ∷ more) z h = blocking_written more z h
blocking_written (Write n a.Blocking bits ∷ more) z h =
    let blocking : List Written = filter (λ (x : Written). is_blocking x.kind) (writes_in more) in
    elim (or_cases (bytes_eq n.name z) (is_among z (map (λ (x : Written). x.name.name) blocking)) h) [
      | inl same ↦ or_left (bytes_eq n.name z) (is_among z (map (λ (x : Written). x.name.name) (writes_in more))) same
      | inr there ↦ or_right (bytes_eq n.name z) (is_among z (map (λ (x : Written). x.name.name) (writes_in more))) (blocking_written more z there)
    ]
blocking_written (Write n a.Nonblocking bits ∷ more) z h = or_right (bytes_eq n.name z) (is_among z (map (λ (x : Written). x.name.name) (writes_in more))) (blocking_written more z h)

-- ---- the process that writes a name

abbrev number_or : Bool → ℕ → ℕ → ℕ
number_or true n later = n
number_or false n later = later

-- the first of these processes that writes a name with this number, where the first of them has the number n
abbrev writer_of : List Entry → (Kind → Bool) → ℕ → List ProcessUse → ℕ → ℕ
writer_of names test n [] k = 0
writer_of names test n (p ∷ ps) k = number_or (is_in k (numbers_among names test (written_names p))) n (writer_of names test (suc n) ps k)

abbrev owners_of : List Entry → List ProcessUse → Owners
owners_of names ps = record { variable = writer_of names is_variable 0 ps; memory = writer_of names is_memory 0 ps }

module _ (names : List Entry) (test : Kind → Bool) (declared : test k.Clock ≡ false) (numbered : Numbered test 0 names) (z : List ℕ) (passes : test (kind_of names z) ≡ true) where
  abbrev own : ℕ
  own = number_of (kind_of names z)

  -- where no process before it writes the name
  writer_is : (before : List ProcessUse) (p : ProcessUse) (after : List ProcessUse) (n : ℕ) → is_among z (flat_map written_names before) ≡ false → is_among z (written_names p) ≡ true →
      writer_of names test n (before ++ p ∷ after) own ≡ length before + n
  writer_is [] p after n out there =
      let none : n ≡ zero + n = omega arith in
      ap (λ (found : Bool). number_or found n (writer_of names test (suc n) after own)) (number_there names test (written_names p) z there passes) ∙ none
  writer_is (x ∷ before) p after n out there =
      let more : length before + suc n ≡ suc (length before) + n = omega arith in
      ap (λ (found : Bool). number_or found n (writer_of names test (suc n) (before ++ p ∷ after) own))
      (number_out names test declared numbered (written_names x) z (out_left z (written_names x) (flat_map written_names before) out) passes)
      ∙ writer_is before p after (suc n) (out_right z (written_names x) (flat_map written_names before) out) there ∙ more

-- ---- processes

module _ (names : List Entry) (clocked : Each IsClocked names) (variables : Numbered is_variable 0 names) (memories : Numbered is_memory 0 names) (ps : List ProcessUse) where
  abbrev b : AtOnce
  b = at_once names (all_blocking ps)

  abbrev o : Owners
  o = owners_of names ps

  -- the name belongs to this process
  record IsNameOf (process : ℕ) (z : List ℕ) : Type 0 where
    variable : is_variable (kind_of names z) ≡ true → o.variable (number_of (kind_of names z)) ≡ process
    memory : is_memory (kind_of names z) ≡ true → o.memory (number_of (kind_of names z)) ≡ process

  own_kind : (process : ℕ) (z : List ℕ) → IsNameOf process z → (kind : Kind) → kind_of names z ≡ kind → MayBeWritten (IsOwn o process) kind
  own_kind process z h (k.Parameter value) is = tt
  own_kind process z h k.Clock is = tt
  own_kind process z h (k.Input n) is = tt
  own_kind process z h (k.Net n) is = tt
  own_kind process z h (k.Combinational n) is = not_combinational names clocked z n is
  own_kind process z h (k.Variable n) is = subst (λ (kind : Kind). o.variable (number_of kind) ≡ process) is (h.variable (ap is_variable is))
  own_kind process z h (k.Memory n low count) is = λ i. subst (λ (kind : Kind). o.memory (number_of kind) ≡ process) is (h.memory (ap is_memory is))

  see_own : (process : ℕ) (kind : Kind) → MayBeWritten (IsOwn o process) kind → MaySee b o process kind
  see_own process (k.Parameter value) h = tt
  see_own process k.Clock h = tt
  see_own process (k.Input n) h = tt
  see_own process (k.Net n) h = tt
  see_own process (k.Combinational n) h = tt
  see_own process (k.Variable n) h = inr h
  see_own process (k.Memory n low count) h = inr (h 0)

  abbrev WritesOwn : ℕ → Access → Type 0
  WritesOwn process = WritesIn names (IsOwn o process) (IsOwn o process)

  all_own : (process : ℕ) (accesses : List Access) → ((z : List ℕ) → is_among z (map (λ (x : Written). x.name.name) (writes_in accesses)) ≡ true → IsNameOf process z) → Each (WritesOwn process) accesses
  all_own process [] h = tt
  all_own process (Read n bits ∷ more) h = (tt, all_own process more h)
  all_own process (Write n a.Blocking bits ∷ more) h =
      let rest : List (List ℕ) = map (λ (x : Written). x.name.name) (writes_in more) in (
        own_kind process n.name (h n.name (or_left (bytes_eq n.name n.name) (is_among n.name rest) (self_bytes n.name n.name refl))) (kind_of names n.name) refl,
        all_own process more (λ z there. h z (or_right (bytes_eq n.name z) (is_among z rest) there)),
      )
  all_own process (Write n a.Nonblocking bits ∷ more) h =
      let rest : List (List ℕ) = map (λ (x : Written). x.name.name) (writes_in more) in (
        own_kind process n.name (h n.name (or_left (bytes_eq n.name n.name) (is_among n.name rest) (self_bytes n.name n.name refl))) (kind_of names n.name) refl,
        all_own process more (λ z there. h z (or_right (bytes_eq n.name z) (is_among z rest) there)),
      )

  all_seen : (process : ℕ) (accesses : List Access) → ((z : List ℕ) → is_among z (ident_names (reads_in accesses)) ≡ true → MaySee b o process (kind_of names z)) → Each (SeesIn names b o process) accesses
  all_seen process [] h = tt
  all_seen process (Read n bits ∷ more) h =
      let rest : List (List ℕ) = ident_names (reads_in more) in (
        h n.name (or_left (bytes_eq n.name n.name) (is_among n.name rest) (self_bytes n.name n.name refl)),
        all_seen process more (λ z there. h z (or_right (bytes_eq n.name z) (is_among z rest) there)),
      )
  all_seen process (Write n kind bits ∷ more) h = (tt, all_seen process more h)

  -- it writes its own names, and reads of those that are written at once only its own
  record IsGood (process : ℕ) (p : ProcessUse) : Type 0 where
    writes : Each (WritesOwn process) p.body.all
    reads : Each (SeesIn names b o process) p.body.all

  module _ (before : List ProcessUse) (p : ProcessUse) (after : List ProcessUse) (split : ps ≡ before ++ p ∷ after) where
    name_own : (z : List ℕ) → is_among z (written_names p) ≡ true → is_among z (flat_map written_names before) ≡ false → IsNameOf (length before) z
    name_own z there out =
        let same : length before + 0 ≡ length before = omega arith in
        record {
          variable = λ passes.
              ap (λ l. writer_of names is_variable 0 l (number_of (kind_of names z))) split ∙ writer_is names is_variable refl variables z passes before p after 0 out there ∙ same;
          memory = λ passes.
              ap (λ l. writer_of names is_memory 0 l (number_of (kind_of names z))) split ∙ writer_is names is_memory refl memories z passes before p after 0 out there ∙ same;
        }

    name_seen : ((z : List ℕ) → is_among z (written_names p) ≡ true → IsNameOf (length before) z) → (z : List ℕ) → is_among z (all_blocking (before ++ after)) ≡ false →
        (own : Bool) → is_among z (blocking_names p) ≡ own → MaySee b o (length before) (kind_of names z)
    name_seen owned z out true is =
        see_own (length before) (kind_of names z) (own_kind (length before) z (owned z (blocking_written p.body.all z is)) (kind_of names z) refl)
    name_seen owned z out false is =
        let apart = subst (λ l. is_among z l ≡ false) (flat_map-append blocking_names before after) out in
        let none = not_between z (all_blocking before) (blocking_names p) (all_blocking after) apart is in
        let everywhere : is_among z (all_blocking ps) ≡ false =
        ap (λ l. is_among z (all_blocking l)) split ∙ ap (is_among z) (flat_map-append blocking_names before (p ∷ after)) ∙ none in
        see_out b o (length before) (kind_of names z) (out_kind names variables memories (all_blocking ps) z everywhere (kind_of names z) refl)

    one_good : ((z : List ℕ) → is_among z (written_names p) ≡ true → is_among z (flat_map written_names before) ≡ false) →
        ((z : List ℕ) → is_among z (ident_names (reads_of_process p)) ≡ true → is_among z (all_blocking (before ++ after)) ≡ false) → IsGood (length before) p
    one_good once unseen =
        let owned : (z : List ℕ) → is_among z (written_names p) ≡ true → IsNameOf (length before) z = λ z there. name_own z there (once z there) in
        record {
          writes = all_own (length before) p.body.all owned;
          reads = all_seen (length before) p.body.all (λ z there. name_seen owned z (unseen z there) (is_among z (blocking_names p)) refl);
        }

  all_good : (before rest : List ProcessUse) → ps ≡ before ++ rest → written_again (flat_map written_names before) rest ≡ [] → read_elsewhere before rest ≡ [] → EachFrom IsGood (length before) rest
  all_good before [] split once unseen = tt
  all_good before (p ∷ after) split once unseen =
      let before_names : List (List ℕ) = flat_map written_names before in
      let here : places_if (λ name. is_among name before_names) (map (λ (x : Written). x.name) (writes_of_process p)) ≡ [] = no_first _ (written_again (before_names ++ written_names p) after) once in
      let read : places_if (λ name. is_among name (all_blocking (before ++ after))) (reads_of_process p) ≡ [] = no_first _ (read_elsewhere (before ++ p ∷ []) after) unseen in
      let good : IsGood (length before) p = one_good before p after split
      (λ z there. places_none (λ name. is_among name before_names) (map (λ (x : Written). x.name) (writes_of_process p)) z here (subst (λ l. is_among z l ≡ true) (sym (names_of_written (writes_of_process p))) there))
      (λ z there. places_none (λ name. is_among name (all_blocking (before ++ after))) (reads_of_process p) z read there) in
      let names_more : flat_map written_names (before ++ p ∷ []) ≡ before_names ++ written_names p =
      flat_map-append written_names before (p ∷ []) ∙ ap (λ l. before_names ++ l) (append-nil (written_names p)) in
      let number : length (before ++ p ∷ []) ≡ suc (length before) = omega (arith, length-append before (p ∷ [])) in (
        good,
        subst (λ n. EachFrom IsGood n after) number
            (all_good (before ++ p ∷ []) after (split ∙ sym (append_assoc before (p ∷ []) after))
            (ap (λ l. written_again l after) names_more ∙ no_rest (places_if (λ name. is_among name before_names) (map (λ (x : Written). x.name) (writes_of_process p))) (written_again (before_names ++ written_names p) after) once)
            (no_rest (places_if (λ name. is_among name (all_blocking (before ++ after))) (reads_of_process p)) (read_elsewhere (before ++ p ∷ []) after) unseen)),
      )

-- ---- modules

-- where none is combinational all are clocked
all_clocked : (names : List Entry) (items : List Item) → filter (λ p. not (is_clocked p)) (flat_map (item_process_uses names) items) ≡ [] →
    filter is_clocked (flat_map (item_process_uses names) items) ≡ flat_map (item_process_uses names) items
all_clocked names [] h = refl
all_clocked names (i.Parameters group ∷ items) h = all_clocked names items h
all_clocked names (i.LocalParameters group ∷ items) h = all_clocked names items h
all_clocked names (i.Wires signed range nets ∷ items) h = all_clocked names items h
all_clocked names (i.Regs signed range variables ∷ items) h = all_clocked names items h
all_clocked names (i.Assigns settings ∷ items) h = all_clocked names items h
all_clocked names (i.Always (w.Posedge event) body ∷ items) h = ap (λ l. record { event = w.Posedge event; body = use_of names body } ∷ l) (all_clocked names items h)
all_clocked names (i.Always w.Any body ∷ items) h = absurd (cc h)

module _ (m : Module) (kept : Keeps m) (only : combinational_of (uses_of (names_of m) m) ≡ []) where
  abbrev names : List Entry
  names = names_of m

  abbrev ps : List ProcessUse
  ps = clocked_of (uses_of names m)

  abbrev Good : ℕ → ProcessUse → Type 0
  Good = IsGood names (names_clocked m only) (variables_numbered m) (memories_numbered m) ps

  body_apart : (process : ℕ) (body : Stmt) → Each (WritesIn names (IsOwn (owners_of names ps) process) (IsOwn (owners_of names ps) process)) (use_of names body).all →
      Each (SeesIn names (at_once names (all_blocking ps)) (owners_of names ps) process) (use_of names body).all →
      IsApartIn (at_once names (all_blocking ps)) (owners_of names ps) process (acts_of names (sites_of m) body)
  body_apart process body writes reads =
      let b : AtOnce = at_once names (all_blocking ps) in
      let o : Owners = owners_of names ps in
      record {
        writes = writes_only names (sites_of m) (IsOwn o process) (IsOwn o process) body writes;
        looks = acts_respect names (sites_of m) (SeesIn names b o process) (AgreeFor b o process) (sees b o process names) body reads;
      }

  are_apart : AreApart (design_of m) (at_once names (all_blocking ps)) (owners_of names ps)
  are_apart =
      items_have names (sites_of m) Good (IsApartIn (at_once names (all_blocking ps)) (owners_of names ps)) (λ process event body good. body_apart process body good.writes good.reads) 0 m.items
      (all_good names (names_clocked m only) (variables_numbered m) (memories_numbered m) ps [] ps refl (ap (written_again []) (all_clocked names m.items only) ∙ kept.owned) kept.unseen)

-- ---- what the rules give

pub processes_apart : (m : Module) → first_fault (places_of m) typing_rules ≡ None → first_fault (places_of m) process_rules ≡ None → combinational_of (uses_of (names_of m) m) ≡ [] →
    (order : List ℕ) → Settles (design_of m) order → (b : AtOnce) × (o : Owners) × IsSteady (design_of m) order b × AreApart (design_of m) b o
processes_apart m typed kept only order settles =
    let rules : Keeps m = keeps m typed kept in
    let ps : List ProcessUse = clocked_of (uses_of (names_of m) m) in
    (at_once (names_of m) (all_blocking ps), owners_of (names_of m) ps, all_steady m rules only order settles, are_apart m rules only)

pub every_schedule : (m : Module) → first_fault (places_of m) typing_rules ≡ None → first_fault (places_of m) process_rules ≡ None → combinational_of (uses_of (names_of m) m) ≡ [] →
    (order : List ℕ) → Settles (design_of m) order → (before : Store) (inputs : List ℕ) (choice : List Bool) → length choice ≡ cycle_bits (design_of m) →
    IsOutcome InAnyOrder (design_of m) before inputs choice (shown_by (design_of m) order before inputs choice) (next_by (design_of m) order before inputs choice)
every_schedule m typed kept only order settles before inputs choice bits =
    let h = processes_apart m typed kept only order settles in
    any_order (design_of m) order h.0 h.1 before inputs choice (no_combinational m only) settles h.2 h.3 bits

-- the machine under these schedules does what the one under those does
module _ (m : Module) (typed : first_fault (places_of m) typing_rules ≡ None) (kept : first_fault (places_of m) process_rules ≡ None) (only : combinational_of (uses_of (names_of m) m) ≡ []) (order : List ℕ)
    (settles : Settles (design_of m) order) where
  any : HasOutcomes (design_of m) order InAnyOrder
  any = every_schedule m typed kept only order settles

  text : HasOutcomes (design_of m) order InTextOrder
  text = module_cycles m typed kept only order settles

  pub do_same : (before : Store) (inputs words : List WordValue) (after : Store) → Does InTextOrder (design_of m) before inputs words after ↔ Does InAnyOrder (design_of m) before inputs words after
  do_same before inputs words after = (
    does_too (design_of m) order InAnyOrder InTextOrder any any text before inputs words after,
    does_too (design_of m) order InTextOrder InAnyOrder any text any before inputs words after,
  )

  pub any_realises_text : Realises (module_machine InTextOrder m) (module_machine InAnyOrder m)
  any_realises_text = realises (design_of m) order InTextOrder InAnyOrder any text any

  pub text_realises_any : Realises (module_machine InAnyOrder m) (module_machine InTextOrder m)
  text_realises_any = realises (design_of m) order InAnyOrder InTextOrder any any text
