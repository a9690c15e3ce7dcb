-- The uses of assigns, processes and items, and of the module.
use Rattle.std.proofs.Common.{◌≡◌, List, [], ◌∷◌, ◌++◌, map, flat_map, Bool, Option, Bor, ap, sym, ◌∙◌}
use Rattle.std.proofs.lemmas.List.{append-nil}
use Rattle.std.proofs.lemmas.List.Concat.{flat_map_single}
use Rattle.v_syntax.specs.declared.token.Ident.{Ident}
use Rattle.v_syntax.specs.declared.expr.Expr.{Expr}
use Rattle.v_syntax.specs.declared.expr.Range.{Range}
use Rattle.v_syntax.specs.declared.stmt.Stmt.{Stmt}
use Rattle.v_syntax.specs.declared.module.Setting.{Setting}
use Rattle.v_syntax.specs.declared.module.Declared.{Declared}
use Rattle.v_syntax.specs.declared.module.Item.{Item}
use Rattle.v_syntax.specs.declared.module.Item.TheVariants as i
use Rattle.v_syntax.specs.declared.module.Module.{Module}
use Rattle.v_meaning.specs.declared.names.Entry.{Entry}
use Rattle.v_meaning.specs.ProcessRules.{Written, reads_in, writes_in}
use Rattle.v_meaning.specs.Uses.{Access, reads_of, use_of, item_assign_uses, item_process_uses, uses_of}
use Rattle.v_uses.specs.declared.accesses.Accesses.{Accesses}
use Rattle.v_uses.specs.declared.gathered.AssignUses.{AssignUses}
use Rattle.v_uses.specs.declared.gathered.ProcessUses.{ProcessUses}
use Rattle.v_uses.specs.declared.gathered.Uses.{Uses}
use Rattle.v_uses.specs.Seen.{AssignSeen, ProcessSeen, assign_seen, process_seen, seen_of}
use Rattle.v_uses.specs.Gathered.{written_in, assign_in, process_in, uses_in}
use Rattle.v_uses.specs.Adding.{Adds, accessed, accesses_of, assigns_seen, processes_seen, wire_uses, setting_use}
use Rattle.v_uses.proofs.Adding.{behind}

-- ---- what was gathered from nothing

abbrev NoAccesses : Accesses → Type 0
NoAccesses a = (a.reads ≡ []) × (a.writes ≡ [])

reads_are : (none found : Accesses) (f : List Entry → List Access) → NoAccesses none → Adds accessed none found f → (names : List Entry) →
    map (λ (n : Bor Ident). n.now) found.reads ≡ reads_in (f names)
reads_are none found f h p names =
    sym (append-nil (map (λ (n : Bor Ident). n.now) found.reads)) ∙ ap (λ (s : List Ident × List Written). s.0) (p.added names [])
    ∙ ap (λ (l : List (Bor Ident)). map (λ (n : Bor Ident). n.now) l ++ reads_in (f names ++ [])) h.0 ∙ ap reads_in (append-nil (f names))

writes_are : (none found : Accesses) (f : List Entry → List Access) → NoAccesses none → Adds accessed none found f → (names : List Entry) → map written_in found.writes ≡ writes_in (f names)
writes_are none found f h p names =
    sym (append-nil (map written_in found.writes)) ∙ ap (λ (s : List Ident × List Written). s.1) (p.added names [])
    ∙ ap (λ l. map written_in l ++ writes_in (f names ++ [])) h.1 ∙ ap writes_in (append-nil (f names))

pub one_assign : (old new : List AssignUses) (x : AssignUses) (none found : Accesses) (value : Expr) → new ≡ old ++ x ∷ [] → x.reads ≡ found.reads → NoAccesses none →
    Adds accessed none found (λ names. reads_of names value) → Adds assigns_seen old new (λ names. record { target = x.target.now; reads = reads_of names value } ∷ [])
one_assign old new x none found value is same h p = record {
  added = λ names more. behind assign_in old new x (map assign_seen more) is
      ∙ ap (λ (l : List Ident). map assign_in old ++ record { target = x.target.now; reads = l } ∷ map assign_seen more)
      (ap (λ (l : List (Bor Ident)). map (λ (n : Bor Ident). n.now) l) same ∙ reads_are none found (λ names. reads_of names value) h p names);
}

pub one_process : (old new : List ProcessUses) (x : ProcessUses) (none found : Accesses) (body : Stmt) → new ≡ old ++ x ∷ [] → x.reads ≡ found.reads → x.writes ≡ found.writes → NoAccesses none →
    Adds accessed none found (λ names. accesses_of names body) → Adds processes_seen old new (λ names. record { event = x.event.now; body = use_of names body } ∷ [])
one_process old new x none found body is same same_writes h p = record {
  added = λ names more. behind process_in old new x (map process_seen more) is
      ∙ ap (λ (l : List Ident). map process_in old ++ record { event = x.event.now; reads = l; writes = map written_in x.writes } ∷ map process_seen more)
      (ap (λ (l : List (Bor Ident)). map (λ (n : Bor Ident). n.now) l) same ∙ reads_are none found (λ names. accesses_of names body) h p names)
      ∙ ap (λ (l : List Written). map process_in old ++ record { event = x.event.now; reads = reads_in (accesses_of names body); writes = l } ∷ map process_seen more)
      (ap (λ l. map written_in l) same_writes ∙ writes_are none found (λ names. accesses_of names body) h p names);
}

pub whole : {X A B : Type 0} (f : X → A) (g : B → A) {begun now : List X} {these : List Entry → List B} → begun ≡ [] → Adds (λ (all : List X) (more : List B). map f all ++ map g more) begun now these →
    (names : List Entry) → map f now ≡ map g (these names)
whole {X = X} f g {now = now} {these = these} none p names =
    sym (append-nil (map f now)) ∙ p.added names [] ∙ ap (λ (l : List X). map f l ++ map g (these names ++ [])) none ∙ ap (map g) (append-nil (these names))

-- ---- items

pub wires_assign : (x : Item) (signed : Bool) (range : Option Range) (nets ys : List Declared) → x ≡ i.Wires signed range nets → ys ≡ nets →
    (names : List Entry) → item_assign_uses names x ≡ flat_map (wire_uses names) ys
wires_assign x signed range nets ys is p names = rw p (ap (item_assign_uses names) is)

pub settings_assign : (x : Item) (settings ys : List Setting) → x ≡ i.Assigns settings → ys ≡ settings → (names : List Entry) → item_assign_uses names x ≡ flat_map (setting_use names) ys
settings_assign x settings ys is p names =
    rw p (ap (item_assign_uses names) is ∙ sym (flat_map_single (λ (s : Setting). record { target = s.name; reads = reads_of names s.value.expr }) settings))

pub all_are : (u : Uses) (m : Module) (items : List Item) → items ≡ m.items → ((names : List Entry) → map assign_in u.assigns ≡ map assign_seen (flat_map (item_assign_uses names) items)) →
    ((names : List Entry) → map process_in u.processes ≡ map process_seen (flat_map (item_process_uses names) items)) → (names : List Entry) → uses_in u ≡ seen_of (uses_of names m)
all_are u m items is p q names =
    ap (λ (l : List AssignSeen). record { assigns = l; processes = map process_in u.processes }) (p names ∙ ap (λ (l : List Item). map assign_seen (flat_map (item_assign_uses names) l)) is)
    ∙ ap (λ (l : List ProcessSeen). record { assigns = map assign_seen (flat_map (item_assign_uses names) m.items); processes = l })
    (q names ∙ ap (λ (l : List Item). map process_seen (flat_map (item_process_uses names) l)) is)
