-- Nets that follow none of the variables and memories that are written at once settle alike, whatever these hold.
use Rattle.std.proofs.Common.{◌≡◌, ◌+◌, ℕ, zero, suc, List, [], ◌∷◌, ◌++◌, length, map, false, Some, refl, sym, ap, ◌∙◌, subst, inl, inr, arith, length-set, get_or-set_other}
use Rattle.std.specs.Prelude.{⊤, slice_get, slice_set, slice_index}
use Rattle.std.proofs.lemmas.Bool.{cases_eq}
use Rattle.lz_base.specs.Names.{is_among}
use Rattle.v_meaning.specs.Views.{View}
use Rattle.v_meaning.specs.declared.names.Kind.{Kind}
use Rattle.v_meaning.specs.declared.names.Kind.TheVariants as k
use Rattle.v_meaning.specs.declared.names.Entry.{Entry}
use Rattle.v_meaning.specs.Names.{entry_of}
use Rattle.v_meaning.specs.Declarations.{is_settled}
use Rattle.v_meaning.specs.Designs.{Assign}
use Rattle.v_meaning.specs.Uses.{Access, Read, Write, AssignUse}
use Rattle.v_meaning.specs.ProcessRules.{reads_in, ident_names, is_settled_variable, Dependence}
use Rattle.v_depends.specs.Nodes.{is_in}
use Rattle.v_order.specs.Settling.{computed, all_computed}
use Rattle.v_order.specs.Steady.{AtOnce, AgreeBut}
use Rattle.v_order.proofs.Settled.{Each}
use Rattle.v_order.proofs.Frames.{IsSame, ReadsSame}
use Rattle.v_order.proofs.Numbering.{Numbered, IsClocked, number_of, same_entry, clocked_in}
use Rattle.v_order.proofs.ModuleOrder.{IsMade, found_in}
use Rattle.v_order.proofs.Depends.{Clean, AreClean, dependence_of, clean_less, clean_first, clean_rest, clean_reads}

-- a kind of name that is none of these variables and memories
abbrev pub IsOut : AtOnce → Kind → Type 0
IsOut b (k.Parameter value) = ⊤
IsOut b k.Clock = ⊤
IsOut b (k.Input n) = ⊤
IsOut b (k.Net n) = ⊤
IsOut b (k.Combinational n) = ⊤
IsOut b (k.Variable n) = is_in n b.variables ≡ false
IsOut b (k.Memory n low count) = is_in n b.memories ≡ false

-- where no variable is combinational no name is
pub not_combinational : (names : List Entry) → Each IsClocked names → (name : List ℕ) (n : ℕ) → (entry_of names name).kind ≡ k.Combinational n → ⊥
not_combinational names clocked name n is =
    cc (ap is_settled_variable is, clocked_in names (entry_of names name) clocked (found_in is_settled refl names name (ap is_settled is)).there)

set_alike : (xs ys : List ℕ) (i x y : ℕ) → length xs ≡ length ys → x ≡ y → slice_index (slice_set xs i x) i ≡ slice_index (slice_set ys i y) i
set_alike [] [] i x y long same = refl
set_alike [] (w ∷ ys) i x y long same = absurd (omega (arith, long))
set_alike (v ∷ xs) [] i x y long same = absurd (omega (arith, long))
set_alike (v ∷ xs) (w ∷ ys) zero x y long same = same
set_alike (v ∷ xs) (w ∷ ys) (suc i) x y long same = set_alike xs ys i x y (omega (arith, long)) same

module _ (names : List Entry) (places : List ℕ) (b : AtOnce) (xs : List AssignUse) (more : List Dependence) (ons : List (List ℕ)) (numbered : Numbered is_settled 0 names) (clocked : Each IsClocked names)
    (apart : (name : List ℕ) → is_among name ons ≡ false → IsOut b (entry_of names name).kind) where
  abbrev ds : List Dependence
  ds = map dependence_of xs ++ more

  -- two views that differ in these variables and memories alone, and in nets that depend in so many steps on them
  pub record Alike (steps : ℕ) (v w : View) : Type 0 where
    pub inputs : v.inputs ≡ w.inputs
    pub sites : v.sites ≡ w.sites
    pub store : AgreeBut b v.store w.store
    pub long : length v.nets ≡ length w.nets
    pub words : (name : List ℕ) (net : ℕ) → (entry_of names name).kind ≡ k.Net net → Clean ds ons steps name → slice_index v.nets net ≡ slice_index w.nets net

  same_kind : (steps : ℕ) (v w : View) → Alike steps v w → (name : List ℕ) → Clean ds ons steps name → (kind : Kind) → (entry_of names name).kind ≡ kind → IsOut b kind → IsSame v w kind
  same_kind steps v w alike name clean (k.Parameter value) is out = refl
  same_kind steps v w alike name clean k.Clock is out = refl
  same_kind steps v w alike name clean (k.Input n) is out = ap (λ (words : List ℕ). slice_index words n) alike.inputs
  same_kind steps v w alike name clean (k.Net n) is out = alike.words name n is clean
  same_kind steps v w alike name clean (k.Combinational n) is out = absurd (not_combinational names clocked name n is)
  same_kind steps v w alike name clean (k.Variable n) is out = alike.store.variables n out
  same_kind steps v w alike name clean (k.Memory n low count) is out = alike.store.memories n out

  reads_same : (steps : ℕ) (v w : View) → Alike steps v w → (accesses : List Access) → AreClean ds ons steps (ident_names (reads_in accesses)) → Each (ReadsSame v w names) accesses
  reads_same steps v w alike [] h = tt
  reads_same steps v w alike (Read n bits ∷ accesses) h =
      let rest : List (List ℕ) = ident_names (reads_in accesses) in
      let first = clean_first ds ons steps n.name rest h in (
        same_kind steps v w alike n.name first.1 (entry_of names n.name).kind refl (apart n.name first.0),
        reads_same steps v w alike accesses (clean_rest ds ons steps n.name rest h),
      )
  reads_same steps v w alike (Write n kind bits ∷ accesses) h = (tt, reads_same steps v w alike accesses h)

  -- an assign beside what was seen of it
  abbrev pub HasUse : Assign → Type 0
  HasUse a = (n : ℕ) × (x : AssignUse) × (slice_get xs n ≡ Some x) × IsMade names places x a

  -- names of the same net are the same
  same_name : (name other : List ℕ) (net : ℕ) → (entry_of names name).kind ≡ k.Net net → (entry_of names other).kind ≡ k.Net net → name ≡ other
  same_name name other net p q =
      let f = found_in is_settled refl names name (ap is_settled p) in
      let g = found_in is_settled refl names other (ap is_settled q) in
      let e = same_entry is_settled 0 names (entry_of names name) (entry_of names other) numbered f.there g.there (ap is_settled p) (ap is_settled q) (ap number_of p ∙ sym (ap number_of q)) in
      sym f.named ∙ ap (λ (x : Entry). x.name) e ∙ g.named

  computed_alike : (steps : ℕ) (v w : View) (a : Assign) → HasUse a → Alike steps v w → Alike (suc steps) (computed v a) (computed w a)
  computed_alike steps v w a own alike = record {
    inputs = alike.inputs;
    sites = alike.sites;
    store = alike.store;
    long = length-set v.nets a.net (a.value v) ∙ alike.long ∙ sym (length-set w.nets a.net (a.value w));
    words = λ name net is clean. elim (cases_eq net a.net) [
      | inl same ↦ (
          let to : (entry_of names name).kind ≡ k.Net a.net = is ∙ ap (λ (n : ℕ). k.Net n) same in
          let target : name ≡ own.1.target.name = same_name name own.1.target.name a.net to own.3.target in
          let reads = clean_reads more ons xs own.0 own.1 steps own.2 (subst (Clean ds ons (suc steps)) target clean) in
          let value : a.value v ≡ a.value w = own.3.same v w alike.sites (reads_same steps v w alike own.1.reads reads) in
          subst (λ (n : ℕ). slice_index (slice_set v.nets a.net (a.value v)) n ≡ slice_index (slice_set w.nets a.net (a.value w)) n) (sym same)
          (set_alike v.nets w.nets a.net (a.value v) (a.value w) alike.long value)
          )
      | inr other ↦
          get_or-set_other v.nets a.net net (a.value v) 0 other ∙ alike.words name net is (clean_less ds ons steps (suc steps) name (omega arith) clean)
          ∙ sym (get_or-set_other w.nets a.net net (a.value w) 0 other)
    ];
  }

  pub all_alike : (assigns : List Assign) (steps last : ℕ) (v w : View) → Each HasUse assigns → Alike steps v w → length assigns + steps ≡ last → Alike last (all_computed v assigns) (all_computed w assigns)
  all_alike [] steps last v w uses alike is = let same : steps ≡ last = omega (arith, is) in subst (λ (n : ℕ). Alike n v w) same alike
  all_alike (a ∷ assigns) steps last v w uses alike is =
      all_alike assigns (suc steps) last (computed v a) (computed w a) uses.1 (computed_alike steps v w a uses.0 alike) (omega (arith, is))
