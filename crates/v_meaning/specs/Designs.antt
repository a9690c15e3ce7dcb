-- What a design does in a cycle, said once for every form of a module: how nets settle, the edge of the clock under a
-- schedule, and the machine (1364-2005, 6.1, 9.9.2 and 11).
use Rattle.std.specs.Prelude.{◌≡◌, ⊤, ℕ, ◌+◌, ◌*◌, ◌≤◌, List, [], ◌∷◌, ◌++◌, length, map, take, drop, reverse, replicate, Bool, Option, None, Some, slice_get, slice_set}
use Rattle.lz_base.specs.WordValue.{WordValue}
use Rattle.lz_base.specs.Bits.{number_of}
use Rattle.lz_base.specs.declared.name.Port.{Port}
use Rattle.lz_machine.specs.Machine.{Machine}
use Rattle.v_meaning.specs.Views.{Store, View, no_view, Write, applied}
use Rattle.v_meaning.specs.Acts.{Acts, End, Branch, Blocking, Nonblocking, followed, alone}

-- What a variable or memory holds before the first cycle: a given value; or a word of this width, or so many words of
-- this width, whose bits are open.
pub data First : Type 0 where
  Given : ℕ → First
  Open : ℕ → First
  Words : ℕ → ℕ → First

-- a net, by its number, and the value of its assign (6.1)
pub record Assign : Type 0 where
  pub net : ℕ
  pub value : View → ℕ

-- A module as its cycles see it. Inputs are without the clock. The nets are those of a view: wires, output nets, and
-- combinational variables. The variables and memories stand in the order of their declarations.
pub record Design : Type 0 where
  pub name : List ℕ
  pub clock : Option (List ℕ)
  pub inputs : List Port
  pub outputs : List Port
  pub shows : View → List ℕ
  pub nets : ℕ
  pub assigns : List Assign
  pub combinational : List Acts
  pub clocked : List Acts
  pub firsts : List First
  pub sites : List ℕ

-- ---- choices

-- A choice lists the bits of its words one after another, each word's most significant bit first.
abbrev pub words_from : List ℕ → List Bool → List ℕ
words_from [] bits = []
words_from (width ∷ widths) bits = number_of (reverse (take width bits)) ∷ words_from widths (drop width bits)

abbrev pub total : List ℕ → ℕ
total [] = 0
total (n ∷ ns) = n + total ns

-- how many bits the choice of a cycle has: those of the sites
abbrev pub cycle_bits : Design → ℕ
cycle_bits d = total d.sites

abbrev pub open_bits_of : First → ℕ
open_bits_of (Given value) = 0
open_bits_of (Open width) = width
open_bits_of (Words count width) = count * width

-- how many bits the first choice has
abbrev pub first_bits : Design → ℕ
first_bits d = total (map open_bits_of d.firsts)

abbrev pub with_variable : ℕ → Store → Store
with_variable word s = record { variables = word ∷ s.variables; memories = s.memories }

abbrev pub with_memory : List ℕ → Store → Store
with_memory words s = record { variables = s.variables; memories = words ∷ s.memories }

-- The store before the first cycle: declared values, and elsewhere the bits of the first choice.
abbrev pub first_store : List First → List Bool → Store
first_store [] bits = record { variables = []; memories = [] }
first_store (Given value ∷ firsts) bits = with_variable value (first_store firsts bits)
first_store (Open width ∷ firsts) bits = with_variable (number_of (reverse (take width bits))) (first_store firsts (drop width bits))
first_store (Words count width ∷ firsts) bits =
    with_memory (words_from (replicate count width) bits) (first_store firsts (drop (count * width) bits))

-- ---- settled values

-- each net has the value of its assign (6.1.2)
abbrev pub AreHeld : List Assign → View → Type 0
AreHeld [] v = ⊤
AreHeld (a ∷ assigns) v = (slice_get v.nets a.net ≡ Some (a.value v)) × AreHeld assigns v

-- Each combinational process, where it takes its steps alone from here, leaves its variables as they are (9.7.5).
abbrev pub AreKept : List Acts → View → Type 0
AreKept [] v = ⊤
AreKept (process ∷ processes) v = ((alone process v).nets ≡ v.nets) × AreKept processes v

-- The nets and combinational variables have settled over the inputs, the store and the sites: each equation holds.
pub record IsSettled (d : Design) (v : View) : Type 0 where
  pub number : length v.nets ≡ d.nets
  pub held : AreHeld d.assigns v
  pub kept : AreKept d.combinational v

-- ---- the edge of the clock

-- An edge under way: the store, the queue of nonblocking writes, and what each clocked process has left to do.
pub record Edge : Type 0 where
  pub store : Store
  pub queue : List Write
  pub left : List Acts

-- the store after writes, one after another
abbrev pub stored : Store → List Write → Store
stored store writes = (applied (record no_view { store = store }) writes).store

-- One step of a process that has this left to do, in a view: it takes the branch that it chooses, writes at once, or puts
-- its writes at the end of the queue (9.2.1, 9.2.2, 9.4, 9.5, 11.6). None where it is at its end, or is none.
abbrev pub stepped : View → Edge → ℕ → Option Acts → Option Edge
stepped v e process None = None
stepped v e process (Some End) = None
stepped v e process (Some (Branch f rest)) = Some (record e { left = slice_set e.left process (followed (f v) rest) })
stepped v e process (Some (Blocking f rest)) = Some (record e { store = stored e.store (f v); left = slice_set e.left process rest })
stepped v e process (Some (Nonblocking f rest)) = Some (record e { queue = e.queue ++ f v; left = slice_set e.left process rest })

-- what a process looks at over a store, where the nets have these words
abbrev pub view_over : List ℕ → List ℕ → Store → List ℕ → View
view_over inputs sites store nets = record { inputs = inputs; nets = nets; store = store; sites = sites }

-- Steps of the processes that a schedule names, one after another, in any order of the processes (11.4.2); before each the
-- nets settle over the store (11.6.1).
abbrev pub IsAlong : Design → List ℕ → List ℕ → Edge → List ℕ → Edge → Type 0
IsAlong d inputs sites e [] last = e ≡ last
IsAlong d inputs sites e (process ∷ schedule) last =
    (nets : List ℕ) × IsSettled d (view_over inputs sites e.store nets)
    × (next : Edge) × (stepped (view_over inputs sites e.store nets) e process (slice_get e.left process) ≡ Some next)
    × IsAlong d inputs sites next schedule last

-- all processes are at their ends
abbrev pub AreEnded : List Acts → Type 0
AreEnded [] = ⊤
AreEnded (a ∷ left) = (a ≡ End) × AreEnded left

-- every clocked process starts its body (9.7.2 and 9.9.2)
abbrev pub started : Design → Store → Edge
started d store = record { store = store; queue = []; left = d.clocked }

-- A cycle: the nets settle, the outputs are shown, and the edge happens under a schedule that is complete: no entry names
-- a process that is at its end, and afterwards all are at their ends. Then the queue is applied in its order (11.4.1 and
-- 11.6.4).
pub record IsCycle (d : Design) (before : Store) (inputs : List ℕ) (choice : List Bool) (schedule shown : List ℕ) (after : Store) : Type 0 where
  pub bits : length choice ≡ cycle_bits d
  pub nets : List ℕ
  pub settled : IsSettled d (view_over inputs (words_from d.sites choice) before nets)
  pub shows : shown ≡ d.shows (view_over inputs (words_from d.sites choice) before nets)
  pub last : Edge
  pub along : IsAlong d inputs (words_from d.sites choice) (started d before) schedule last
  pub ended : AreEnded last.left
  pub next : after ≡ stored last.store last.queue

-- Where a schedule is not complete: at its first entry that names a process which is at its end or is none, or else behind
-- its last entry.
abbrev pub HasEnded : Option Acts → Type 0
HasEnded None = ⊤
HasEnded (Some End) = ⊤
HasEnded _ = ⊥

abbrev pub IsStuck : Edge → List ℕ → Type 0
IsStuck e [] = AreEnded e.left → ⊥
IsStuck e (process ∷ schedule) = HasEnded (slice_get e.left process)

pub record IsIncompleteAt (d : Design) (before : Store) (inputs : List ℕ) (choice : List Bool) (schedule : List ℕ) (index : ℕ) : Type 0 where
  pub within : index ≤ length schedule
  pub last : Edge
  pub along : IsAlong d inputs (words_from d.sites choice) (started d before) (take index schedule) last
  pub stuck : IsStuck last (drop index schedule)

-- one cycle's inputs, choice and schedule, and what it shows
pub record Turn : Type 0 where
  pub inputs : List ℕ
  pub choice : List Bool
  pub schedule : List ℕ
  pub shown : List ℕ

-- a run from a store on
abbrev pub IsRun : Design → Store → List Turn → Type 0
IsRun d before [] = ⊤
IsRun d before (t ∷ turns) = (after : Store) × IsCycle d before t.inputs t.choice t.schedule t.shown after × IsRun d after turns

-- ---- the machine

-- each entry but the first is at least the one before it, and the first is at least this
abbrev pub AscendFrom : ℕ → List ℕ → Type 0
AscendFrom least [] = ⊤
AscendFrom least (process ∷ schedule) = (least ≤ process) × AscendFrom process schedule

-- all steps of process 0, then of process 1, and so on
abbrev pub InTextOrder : List ℕ → Type 0
InTextOrder = AscendFrom 0

-- every schedule
abbrev pub InAnyOrder : List ℕ → Type 0
InAnyOrder schedule = ⊤

-- the words at ports
abbrev pub port_words : List Port → List ℕ → List WordValue
port_words [] values = []
port_words (p ∷ ports) [] = []
port_words (p ∷ ports) (value ∷ values) = record { width = p.width; value = value } ∷ port_words ports values

abbrev pub word_values : List WordValue → List ℕ
word_values [] = []
word_values (w ∷ ws) = w.value ∷ word_values ws

-- The choice of the cycle stands before the schedules: under some allowed schedule that is complete the cycle shows these
-- words and leaves this store, and under every other one it shows and leaves the same.
pub record IsOutcome (Allowed : List ℕ → Type 0) (d : Design) (before : Store) (inputs : List ℕ) (choice : List Bool) (shown : List ℕ) (after : Store) : Type 0 where
  pub some : (schedule : List ℕ) × Allowed schedule × IsCycle d before inputs choice schedule shown after
  pub every : (schedule other : List ℕ) (next : Store) → Allowed schedule → IsCycle d before inputs choice schedule other next → (other ≡ shown) × (next ≡ after)

-- A machine of the design begins in the first store of some choice, with a bit for each that is open.
pub record Starts (d : Design) (store : Store) : Type 0 where
  pub first : List Bool
  pub bits : length first ≡ first_bits d
  pub store_is : store ≡ first_store d.firsts first

-- From this store, with these words at the inputs, some choice of the cycle lets it show these words and go on to that store.
pub record Does (Allowed : List ℕ → Type 0) (d : Design) (before : Store) (inputs words : List WordValue) (after : Store) : Type 0 where
  pub choice : List Bool
  pub shown : List ℕ
  pub words_are : words ≡ port_words d.outputs shown
  pub outcome : IsOutcome Allowed d before (word_values inputs) choice shown after

-- the machine of a design under these schedules
abbrev pub machine_of : (List ℕ → Type 0) → Design → Machine
machine_of Allowed d = record {
  State = Store;
  name = d.name;
  clock = d.clock;
  inputs = d.inputs;
  outputs = d.outputs;
  Starts = Starts d;
  Does = Does Allowed d;
}
