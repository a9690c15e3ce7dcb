-- What a small module does in a cycle: its ports, its store, and the edge of the clock, step by step.
-- A store has one bit for each register, in the order of their declarations.
use Rattle.std.specs.Prelude.{◌==◌, ℕ, ◌+◌, List, [], ◌∷◌, ◌++◌, length, Bool, true, false, not, ◌&&◌, ◌||◌, if◌then◌else◌, Option, None, Some, IsSome, slice_get, slice_set}
use Rattle.std.specs.Bool.{xor}
use lib.Pointwise.{pointwise}
use Rattle.lz_base.specs.Bits.{words_bits, word_of}
use Rattle.lz_base.specs.WordValue.{WordValue}
use Rattle.lz_base.specs.declared.name.Port.{Port}
use Rattle.v_syntax.specs.declared.small.SmallOperator.{SmallOperator}
use Rattle.v_syntax.specs.declared.small.SmallOperator.TheVariants.{And, Or, Xor}
use Rattle.v_syntax.specs.declared.small.SmallOperand.{SmallOperand}
use Rattle.v_syntax.specs.declared.small.SmallExpr.{SmallExpr}
use Rattle.v_syntax.specs.declared.small.SmallExpr.TheVariants.{One, Two}
use Rattle.v_syntax.specs.declared.small.SmallModule.{SmallModule}
use Rattle.v_syntax.specs.Small.{input_names, register_names}

-- ports of one bit with these names
abbrev pub bit_ports : List (List ℕ) → List Port
bit_ports [] = []
bit_ports (name ∷ names) = record { name = name; width = 1 } ∷ bit_ports names

-- the input ports, without the clock
abbrev pub inputs_of : SmallModule → List Port
inputs_of s = bit_ports (input_names s.ports)

-- the output ports
abbrev pub outputs_of : SmallModule → List Port
outputs_of s = bit_ports (register_names s.ports)

-- The clock is the name in the first event of the text.
abbrev pub clock_of : SmallModule → Option (List ℕ)
clock_of s = Some s.event.name

-- How many bits a first choice has: no register has an initialiser.
abbrev pub first_bits : SmallModule → ℕ
first_bits s = length (register_names s.ports)

-- How many bits the choice of a cycle has: no place of a small text leaves a bit open.
abbrev pub cycle_bits : SmallModule → ℕ
cycle_bits s = 0

-- the store before the first cycle
abbrev pub first_store : SmallModule → List Bool → List Bool
first_store s first = first

-- Names and their bits side by side: the bit of a name.
abbrev pub bit_named : List (List ℕ) → List Bool → List ℕ → Bool
bit_named [] bits name = false
bit_named (n ∷ names) [] name = false
bit_named (n ∷ names) (bit ∷ bits) name = if pointwise ◌==◌ n name then bit else bit_named names bits name

-- what a name reads: an input of the cycle, or a register as it is (1364-2005, 9.2)
abbrev pub read_of : SmallModule → List Bool → List WordValue → List ℕ → Bool
read_of s store inputs name = bit_named (input_names s.ports ++ register_names s.ports) (words_bits inputs ++ store) name

-- ~ inverts the bit (1364-2005, 5.1.10)
abbrev pub operand_value : (List ℕ → Bool) → SmallOperand → Bool
operand_value read o = if o.inverted then not (read o.name.name) else read o.name.name

-- the bit-wise operators on one bit (1364-2005, 5.1.10)
abbrev pub operate : SmallOperator → Bool → Bool → Bool
operate And a b = a && b
operate Or a b = a || b
operate Xor a b = xor a b

abbrev pub value_of : (List ℕ → Bool) → SmallExpr → Bool
value_of read (One a) = operand_value read a
value_of read (Two a operator b) = operate operator (operand_value read a) (operand_value read b)

-- the words at the outputs: each register shows its bit
abbrev pub shown_words : List Bool → List WordValue
shown_words [] = []
shown_words (bit ∷ bits) = word_of (bit ∷ []) ∷ shown_words bits

abbrev pub outputs_in : SmallModule → List Bool → List WordValue → List Bool → List WordValue
outputs_in s store inputs choice = shown_words store

-- a nonblocking assignment (1364-2005, 9.2.2)
pub record Assignment : Type 0 where
  pub target : List ℕ
  pub value : SmallExpr

-- the processes in text order, each with its statements
abbrev pub processes_of : SmallModule → List (List Assignment)
processes_of s = (record { target = s.target.name; value = s.value } ∷ []) ∷ []

-- An edge under way: the store, the queue of writes, and what each process still has to do.
pub record Edge : Type 0 where
  pub store : List Bool
  pub queue : List (List ℕ × Bool)
  pub left : List (List Assignment)

-- every process starts its body (1364-2005, 9.9.2)
abbrev pub started : SmallModule → List Bool → Edge
started s store = record { store = store; queue = []; left = processes_of s }

-- A process takes the first of the statements that it has left; None where it has none. A nonblocking assignment
-- evaluates its right side, and puts the write at the end of the queue (1364-2005, 11.4).
abbrev pub stepped : SmallModule → List WordValue → Edge → ℕ → Option (List Assignment) → Option Edge
stepped s inputs e process None = None
stepped s inputs e process (Some []) = None
stepped s inputs e process (Some (a ∷ rest)) = Some (record {
  store = e.store;
  queue = e.queue ++ (a.target, value_of (read_of s e.store inputs) a.value) ∷ [];
  left = slice_set e.left process rest;
})

-- a step of each process that the schedule names, one after another; None where one of them is at its end
abbrev pub along : SmallModule → List WordValue → Option Edge → List ℕ → Option Edge
along s inputs None schedule = None
along s inputs (Some e) [] = Some e
along s inputs (Some e) (process ∷ schedule) = along s inputs (stepped s inputs e process (slice_get e.left process)) schedule

-- all processes are at their ends
abbrev pub all_ended : List (List Assignment) → Bool
all_ended [] = true
all_ended ([] ∷ left) = all_ended left
all_ended ((a ∷ rest) ∷ left) = false

-- the register of this name takes the bit, and the others stay
abbrev pub written : List (List ℕ) → List Bool → List ℕ → Bool → List Bool
written [] store name bit = []
written (n ∷ names) [] name bit = []
written (n ∷ names) (b ∷ store) name bit = (if pointwise ◌==◌ n name then bit else b) ∷ written names store name bit

-- the writes of the queue, in its order
abbrev pub applied : List (List ℕ) → List Bool → List (List ℕ × Bool) → List Bool
applied names store [] = store
applied names store (entry ∷ queue) = applied names (written names store entry.0 entry.1) queue

-- the next store, where all processes are at their ends
abbrev pub ended : SmallModule → Option Edge → Option (List Bool)
ended s None = None
ended s (Some e) = if all_ended e.left then Some (applied (register_names s.ports) e.store e.queue) else None

-- The next store under a schedule, a list of process numbers. It is complete where there is one: no entry names a
-- process that is at its end, and afterwards all are at their ends.
abbrev pub next_store : SmallModule → List Bool → List WordValue → List Bool → List ℕ → Option (List Bool)
next_store s store inputs choice schedule = ended s (along s inputs (Some (started s store)) schedule)

abbrev pub IsComplete : SmallModule → List Bool → List WordValue → List Bool → List ℕ → Type 0
IsComplete s store inputs choice schedule = IsSome (next_store s store inputs choice schedule)

-- all steps of the first process, then of the next one, and so on, where the first of these has this number
abbrev pub steps_of : List (List Assignment) → ℕ → List ℕ
steps_of [] process = []
steps_of ([] ∷ left) process = steps_of left (process + 1)
steps_of ((a ∷ rest) ∷ left) process = process ∷ steps_of (rest ∷ left) process

abbrev pub text_order : SmallModule → List ℕ
text_order s = steps_of (processes_of s) 0
