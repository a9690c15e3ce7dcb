-- The assignments of a statement write only the variables and memories that their targets name.
use Rattle.std.proofs.Common.{ℕ, List, [], ◌∷◌, ◌++◌, map, flat_map, Option, None, Some, sym, ap, subst}
use Rattle.std.specs.Prelude.{⊤, ◌/◌, ◌%◌, ◌^◌, ◌==◌}
use Rattle.v_syntax.specs.declared.expr.Expr.{Expr}
use Rattle.v_syntax.specs.declared.stmt.Target.{Target}
use Rattle.v_syntax.specs.declared.stmt.Target.TheOpen.{Target-F}
use Rattle.v_syntax.specs.declared.stmt.Target.TheOpen as t
use Rattle.v_syntax.specs.declared.stmt.Target.TheFolds as f
use Rattle.v_syntax.specs.declared.stmt.AssignKind.{AssignKind}
use Rattle.v_syntax.specs.declared.stmt.AssignKind.TheVariants as k
use Rattle.v_syntax.specs.declared.stmt.Stmt.{Stmt}
use Rattle.v_meaning.specs.Views.{View, Place, Write}
use Rattle.v_meaning.specs.Views as p
use Rattle.v_meaning.specs.Acts.{Acts}
use Rattle.v_meaning.specs.Senses.{own, assigned, index_of}
use Rattle.v_meaning.specs.declared.names.Kind.{Kind}
use Rattle.v_meaning.specs.declared.names.Kind.TheVariants.{Parameter, Clock, Input, Net, Combinational, Variable, Memory}
use Rattle.v_meaning.specs.declared.names.Entry.{Entry}
use Rattle.v_meaning.specs.Names.{entry_of, within}
use Rattle.v_meaning.specs.Expressions.{sense_of}
use Rattle.v_meaning.specs.Targets.{TargetSense, place_of, write_bits, write_bit, write_word, selected_target, parts_width, parts_writes, target_step, target_of}
use Rattle.v_meaning.specs.Statements.{is_met, comparison_of, labels_of, default_of, writes_of, assign_acts, acts_of}
use Rattle.v_meaning.specs.Uses.{Access, Read, Write as WriteAccess, TargetUse, target_use_step, target_use, use_of}
use Rattle.v_order.specs.Steady.{AreTo, WritesTo}
use Rattle.v_order.proofs.Settled.{Each}
use Rattle.v_order.proofs.Frames.{each_left, each_right}
use Rattle.v_order.proofs.Statements.{if_has, taken_has, default_has, Passes, acts_have}
use Rattle.v_order.proofs.Steps.{writes_followed}

-- the bits of this kind of name are such places
abbrev pub MayBeWritten : (Place → Type 0) → Kind → Type 0
MayBeWritten Is (Parameter value) = ⊤
MayBeWritten Is Clock = ⊤
MayBeWritten Is (Input n) = ⊤
MayBeWritten Is (Net n) = ⊤
MayBeWritten Is (Combinational n) = Is (p.Net n)
MayBeWritten Is (Variable n) = Is (p.Variable n)
MayBeWritten Is (Memory n low count) = (i : ℕ) → Is (p.Word n i)

-- where blocking assignments write the first places and nonblocking ones the second
abbrev pub by_kind : (Place → Type 0) → (Place → Type 0) → AssignKind → Place → Type 0
by_kind IsNow IsLater k.Blocking = IsNow
by_kind IsNow IsLater k.Nonblocking = IsLater

-- so does an access
abbrev pub WritesIn : List Entry → (Place → Type 0) → (Place → Type 0) → Access → Type 0
WritesIn names IsNow IsLater (Read n bits) = ⊤
WritesIn names IsNow IsLater (WriteAccess n kind bits) = MayBeWritten (by_kind IsNow IsLater kind) (entry_of names n.name).kind

module _ (Is : Place → Type 0) where
  bits_within : (kind : Kind) (low width value : ℕ) → MayBeWritten Is kind → AreTo Is (write_bits (place_of kind) low width value)
  bits_within (Parameter n) low width value h = tt
  bits_within Clock low width value h = tt
  bits_within (Input n) low width value h = tt
  bits_within (Net n) low width value h = tt
  bits_within (Combinational n) low width value h = (h, tt)
  bits_within (Variable n) low width value h = (h, tt)
  bits_within (Memory n least count) low width value h = tt

  bit_within : (kind : Kind) (at : Option ℕ) (value : ℕ) → MayBeWritten Is kind → AreTo Is (write_bit (place_of kind) at value)
  bit_within kind None value h = tt
  bit_within kind (Some i) value h = bits_within kind i 1 value h

  word_within : (n width : ℕ) (at : Option ℕ) (value : ℕ) → ((i : ℕ) → Is (p.Word n i)) → AreTo Is (write_word n width at value)
  word_within n width None value h = tt
  word_within n width (Some i) value h = (h i, tt)

  selected_within : (kind : Kind) (e : Entry) (index : View → Option ℕ) (v : View) (value : ℕ) → MayBeWritten Is kind → AreTo Is ((selected_target kind e index).writes v value)
  selected_within (Parameter n) e index v value h = bit_within (Parameter n) (within e.low e.width (index v)) value h
  selected_within Clock e index v value h = bit_within Clock (within e.low e.width (index v)) value h
  selected_within (Input n) e index v value h = bit_within (Input n) (within e.low e.width (index v)) value h
  selected_within (Net n) e index v value h = bit_within (Net n) (within e.low e.width (index v)) value h
  selected_within (Combinational n) e index v value h = bit_within (Combinational n) (within e.low e.width (index v)) value h
  selected_within (Variable n) e index v value h = bit_within (Variable n) (within e.low e.width (index v)) value h
  selected_within (Memory n low count) e index v value h = word_within n e.width (within low count (index v)) value h

  within_append : (xs ys : List Write) → AreTo Is xs → AreTo Is ys → AreTo Is (xs ++ ys)
  within_append [] ys h k = k
  within_append (x ∷ xs) ys h k = (h.0, within_append xs ys h.1 k)

-- ---- targets

module _ (names : List Entry) (sites : List ℕ) (IsNow IsLater : Place → Type 0) (kind : AssignKind) where
  abbrev Is : Place → Type 0
  Is = by_kind IsNow IsLater kind

  abbrev AllIn : List Access → Type 0
  AllIn accesses = Each (WritesIn names IsNow IsLater) accesses

  abbrev Writes : TargetSense → Type 0
  Writes x = (v : View) (value : ℕ) → AreTo Is (x.writes v value)

  abbrev TargetWrites : Target → Type 0
  TargetWrites x = AllIn (target_use names kind x).writes → Writes (target_of names sites x)

  abbrev HeldTarget : Type 0
  HeldTarget = (x : Target) × TargetWrites x

  abbrev plain : HeldTarget → Target
  plain x = x.0

  parts_within : (parts : List HeldTarget) → AllIn (flat_map (λ (p : TargetUse). p.writes) (map (target_use names kind) (map plain parts))) →
      (v : View) (value : ℕ) → AreTo Is (parts_writes (map (target_of names sites) (map plain parts)) v value)
  parts_within [] h v value = tt
  parts_within (x ∷ xs) h v value =
      let rest : List TargetSense = map (target_of names sites) (map plain xs) in
      let front : List Access = (target_use names kind x.0).writes in
      let more : List Access = flat_map (λ (p : TargetUse). p.writes) (map (target_use names kind) (map plain xs)) in
      within_append Is ((target_of names sites x.0).writes v (value / 2 ^ parts_width rest)) (parts_writes rest v (value % 2 ^ parts_width rest))
      (x.1 (each_left (WritesIn names IsNow IsLater) front more h) v (value / 2 ^ parts_width rest)) (parts_within xs (each_right (WritesIn names IsNow IsLater) front more h) v (value % 2 ^ parts_width rest))

  abbrev Layer : Target-F Target → Type 0
  Layer y = AllIn (target_use_step names kind (f.map-Target Target TargetUse (target_use names kind) y)).writes → Writes (target_step names sites (f.map-Target Target TargetSense (target_of names sites) y))

  layer : (y : Target-F HeldTarget) → Layer (f.map-Target HeldTarget Target plain y)
  layer (t.Name n) h v value = bits_within Is (entry_of names n.name).kind 0 (entry_of names n.name).width value h.0
  layer (t.Select n bracket index) h v value = selected_within Is (entry_of names n.name).kind (entry_of names n.name) (index_of (sense_of names sites index)) v value h.0
  layer (t.Part n r) h v value = bits_within Is (entry_of names n.name).kind _ _ value h.0
  layer (t.Concat brace parts) h v value = parts_within parts h v value

  target_within : (x : Target) → TargetWrites x
  target_within = f.ind-Target TargetWrites (λ x y is h.
      subst Writes (sym (f.fold-roll-Target TargetSense (target_step names sites) x))
      (subst Layer is (layer y) (subst AllIn (ap (λ (u : TargetUse). u.writes) (f.fold-roll-Target TargetUse (target_use_step names kind) x)) h)))

-- ---- statements

module _ (names : List Entry) (sites : List ℕ) (IsNow IsLater : Place → Type 0) where
  abbrev HasWrites : Acts → Type 0
  HasWrites = WritesTo IsNow IsLater

  abbrev MayWrite : Access → Type 0
  MayWrite = WritesIn names IsNow IsLater

  assign_within : (target : Target) (kind : AssignKind) (value : Expr) → Each MayWrite (target_use names kind target).writes →
      HasWrites (assign_acts kind (writes_of (target_of names sites target) (sense_of names sites value)))
  assign_within target k.Blocking value h =
      (λ v. target_within names sites IsNow IsLater k.Blocking target h v (assigned (target_of names sites target).width (sense_of names sites value) v), tt)
  assign_within target k.Nonblocking value h =
      (λ v. target_within names sites IsNow IsLater k.Nonblocking target h v (assigned (target_of names sites target).width (sense_of names sites value) v), tt)

  writes_pass : Passes names sites MayWrite HasWrites
  writes_pass = record {
    end = tt;
    behind = writes_followed IsNow IsLater;
    choice = λ x one other reads p q. (λ v. if_has names sites MayWrite HasWrites (own (sense_of names sites x) v == 0) other one q p, tt);
    cases = λ kind subject arms reads h. (
      λ v. taken_has names sites MayWrite HasWrites (is_met names sites kind subject (comparison_of names sites subject (labels_of arms)) v) arms (default_of arms) h
          (default_has names sites MayWrite HasWrites tt arms h),
      tt,
    );
    assigns = λ target kind value reads indices writes. assign_within target kind value writes;
  }

  pub writes_only : (x : Stmt) → Each MayWrite (use_of names x).all → HasWrites (acts_of names sites x)
  writes_only = acts_have names sites MayWrite HasWrites writes_pass
