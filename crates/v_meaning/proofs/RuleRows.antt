-- Worked rows of the rules, on marks and uses of small modules.
use Rattle.std.proofs.Common.{◌≡◌, refl, ℕ, List, [], ◌∷◌, true, false, None, Some, codes}
use Rattle.v_syntax.specs.declared.token.Ident.{Ident}
use Rattle.v_syntax.specs.declared.expr.Spelling.TheVariants as s
use Rattle.v_syntax.specs.declared.stmt.AssignKind.{AssignKind}
use Rattle.v_syntax.specs.declared.stmt.AssignKind.TheVariants.{Blocking, Nonblocking}
use Rattle.v_syntax.specs.declared.module.Event.TheVariants.{Posedge, Any}
use Rattle.v_meaning.specs.declared.names.Kind.{Kind}
use Rattle.v_meaning.specs.declared.names.Entry.{Entry}
use Rattle.v_meaning.specs.declared.names.Kind.TheVariants as k
use Rattle.v_meaning.specs.Literals.{is_wrong_number}
use Rattle.v_meaning.specs.Marks.{Declares, Valued, Used, Bare, Indexed, Digits, Joined}
use Rattle.v_meaning.specs.MarkRules.{declared_twice, used_early, is_wrong_form, too_wide, wrong_z}
use Rattle.v_meaning.specs.Proper.{is_part}
use Rattle.v_meaning.specs.ConstantRules.{is_vector_range, is_address_range}
use Rattle.v_meaning.specs.Uses.{Access, Read, Write, StmtUse, ProcessUse, Uses, then_use, branches_use, one_path, covers}
use Rattle.v_meaning.specs.ProcessRules.{wrong_clock, written_again, mixed_kinds, writes_of_process, read_elsewhere, wrong_assigns, circular, read_through, latching, read_early}

abbrev name : List ℕ → ℕ → Ident
name bytes at = record { name = bytes; at = at }

-- ---- names and numbers

-- parameter A = A; the second A is used before its value ends, and behind it may be used
early : used_early (codes "A" ∷ []) (codes "A" ∷ []) [] (Declares (name (codes "A") 20) ∷ Used Bare (name (codes "A") 24) ∷ Valued (name (codes "A") 20) ∷ Used Bare (name (codes "A") 40) ∷ [])
    ≡ 24 ∷ []
early = refl

twice : declared_twice [] (Declares (name (codes "a") 15) ∷ Declares (name (codes "b") 18) ∷ Declares (name (codes "a") 24) ∷ []) ≡ 24 ∷ []
twice = refl

-- a size, and a decimal number, of 2^31
size : is_wrong_number (s.Sized (codes "3000000000") (codes "'b1")) ≡ true
size = refl

great : is_wrong_number (s.Decimal (codes "2147483648")) ≡ true
great = refl

cut : is_wrong_number (s.Based (codes "'d4294967296")) ≡ false
cut = refl

-- [65535:65408] has 128 bits, and [0:3] ascends; addresses may
widest : is_vector_range (Some 65535) (Some 65408) ≡ true
widest = refl

ascending : is_vector_range (Some 0) (Some 3) ≡ false
ascending = refl

addresses : is_address_range (Some 0) (Some 4095) ≡ true
addresses = refl

-- ---- nets and processes

abbrev entry : List ℕ → Kind → ℕ → Entry
entry bytes kind width = record { name = bytes; at = 0; kind = kind; width = width; signed = false; low = 0; is_vector = true; first = None }

abbrev clocked : List Access → ProcessUse
clocked accesses = record { event = Posedge (name (codes "clk") 1); body = one_path accesses }

abbrev combinational : StmtUse → ProcessUse
combinational body = record { event = Any; body = body }

-- reg b; wire w = b; always @(posedge clk) begin q <= w; b = 1; end: w is read, which depends on b
abbrev through_net : Uses
through_net = record {
  names = entry (codes "clk") k.Clock 1 ∷ entry (codes "q") (k.Variable 0) 1 ∷ entry (codes "b") (k.Variable 1) 1 ∷ entry (codes "w") (k.Net 0) 1 ∷ [];
  assigns = record { target = name (codes "w") 55; reads = Read (name (codes "b") 59) 1 ∷ [] } ∷ [];
  processes = clocked (Read (name (codes "w") 115) 1 ∷ Write (name (codes "q") 110) Nonblocking 1 ∷ Write (name (codes "b") 118) Blocking 1 ∷ []) ∷ [];
}

read_of_net : read_through through_net ≡ 115 ∷ []
read_of_net = refl

nothing_circular : circular through_net ≡ []
nothing_circular = refl

-- q = ..; q <= ..; the later one is of another kind
mixed : mixed_kinds [] (writes_of_process (clocked (Write (name (codes "q") 70) Blocking 1 ∷ Write (name (codes "q") 77) Nonblocking 1 ∷ []))) ≡ 77 ∷ []
mixed = refl

-- always @* begin x = a; z = w; end assign w = z; the first target of the process stands for it
abbrev through_process : Uses
through_process = record {
  names = entry (codes "a") (k.Input 0) 1 ∷ entry (codes "x") (k.Combinational 0) 1 ∷ entry (codes "z") (k.Combinational 1) 1 ∷ entry (codes "w") (k.Net 2) 1 ∷ [];
  assigns = record { target = name (codes "w") 113; reads = Read (name (codes "z") 117) 1 ∷ [] } ∷ [];
  processes = combinational (one_path (
      Read (name (codes "a") 92) 1 ∷ Write (name (codes "x") 88) Blocking 1 ∷ Read (name (codes "w") 99) 1 ∷ Write (name (codes "z") 95) Blocking 1 ∷ [])) ∷ [];
}

way_round : circular through_process ≡ 113 ∷ 88 ∷ []
way_round = refl

-- always @* if (s) y = a; y is not written where s is 0
abbrev latch : Uses
latch = record {
  names = entry (codes "s") (k.Input 0) 1 ∷ entry (codes "a") (k.Input 1) 1 ∷ entry (codes "y") (k.Combinational 0) 1 ∷ [];
  assigns = [];
  processes = combinational (then_use (one_path (Read (name (codes "s") 56) 1 ∷ []))
      (branches_use (one_path (Read (name (codes "a") 63) 1 ∷ Write (name (codes "y") 59) Blocking 1 ∷ []) ∷ one_path [] ∷ []))) ∷ [];
}

not_whole : latching latch ≡ 59 ∷ []
not_whole = refl

-- always @* begin y[0] = a; y[1] = y[i]; end: bit 1 is read before it is written, where i is 1 or no constant
abbrev bits_read : ℕ → Uses
bits_read mask = record {
  names = entry (codes "a") (k.Input 0) 1 ∷ entry (codes "y") (k.Combinational 0) 2 ∷ [];
  assigns = [];
  processes = combinational (one_path (
      Read (name (codes "a") 60) 1 ∷ Write (name (codes "y") 55) Blocking 1 ∷ Read (name (codes "y") 72) mask ∷ Write (name (codes "y") 65) Blocking 2 ∷ [])) ∷ [];
}

bit_written : read_early (bits_read 1) ≡ []
bit_written = refl

bit_not_written : read_early (bits_read 2) ≡ 72 ∷ []
bit_not_written = refl

both_written : latching (bits_read 3) ≡ []
both_written = refl

-- items that take all values of two bits
all_values : covers 4 (2 ∷ 0 ∷ 3 ∷ 1 ∷ []) ≡ true
all_values = refl

-- ---- uses of names

-- a memory as an event or assign target stands without an index; [0:0] is a vector
bare_memory : is_wrong_form (k.Memory 0 0 2) true Bare ≡ true
bare_memory = refl

one_bit_vector : is_wrong_form (k.Input 0) true Indexed ≡ false
one_bit_vector = refl

scalar : is_wrong_form (k.Input 0) false Indexed ≡ true
scalar = refl

-- [5:4] of [3:0], [1:2], and [-1:0]
leaves_range : is_part (entry (codes "a") (k.Input 0) 4) (Some 5) (Some 4) ≡ false
leaves_range = refl

bounds_ascend : is_part (entry (codes "a") (k.Input 0) 4) (Some 1) (Some 2) ≡ false
bounds_ascend = refl

negative_bound : is_part (entry (codes "a") (k.Input 0) 4) None (Some 0) ≡ false
negative_bound = refl

too_many_bits : too_wide (Joined (Some 129) 74) ≡ 74 ∷ []
too_many_bits = refl

no_width : too_wide (Joined None 74) ≡ 74 ∷ []
no_width = refl

as_wide_as_can_be : too_wide (Joined (Some 128) 74) ≡ []
as_wide_as_can_be = refl

z_in_item : wrong_z (Digits true (record { at = 64; spelling = s.Sized (codes "1") (codes "'bz") })) ≡ []
z_in_item = refl

z_elsewhere : wrong_z (Digits false (record { at = 64; spelling = s.Sized (codes "1") (codes "'bz0") })) ≡ 64 ∷ []
z_elsewhere = refl

-- ---- events, and names of several processes

-- two processes over names: the clock, two bits, a register with a blocking write, and one without
abbrev two_processes : List Access → List Access → Uses
two_processes one other = record {
  names = entry (codes "c") k.Clock 1 ∷ entry (codes "d") (k.Input 0) 1 ∷ entry (codes "i") (k.Variable 0) 2 ∷ entry (codes "q") (k.Variable 1) 1 ∷ entry (codes "w") (k.Net 0) 1 ∷ [];
  assigns = record { target = name (codes "w") 90; reads = Read (name (codes "d") 94) 1 ∷ [] } ∷ [];
  processes = record { event = Posedge (name (codes "c") 40); body = one_path one } ∷ record { event = Posedge (name (codes "d") 77); body = one_path other } ∷ [];
}

-- the second event is another one than the first, and the second process reads the clock
other_event : wrong_clock (two_processes [] (Read (name (codes "c") 82) 1 ∷ [])) ≡ 77 ∷ 82 ∷ []
other_event = refl

-- i has a blocking write in the first process; each process may read its own
read_by_other : read_elsewhere [] (two_processes (Read (name (codes "i") 50) 3 ∷ Write (name (codes "i") 46) Blocking 3 ∷ []) (Read (name (codes "i") 114) 3 ∷ [])).processes ≡ 114 ∷ []
read_by_other = refl

written_by_both : written_again [] (two_processes (Write (name (codes "q") 46) Nonblocking 1 ∷ []) (Write (name (codes "q") 87) Nonblocking 1 ∷ [])).processes ≡ 87 ∷ []
written_by_both = refl

-- wire w = 1 behind assign w = 0 counts at the declared name; a net without an assign breaks P6 at its name
abbrev assigned_twice : Uses
assigned_twice = record {
  names = entry (codes "w") (k.Net 0) 1 ∷ entry (codes "y") (k.Net 1) 1 ∷ [];
  assigns = record { target = name (codes "w") 17; reads = [] } ∷ record { target = name (codes "w") 29; reads = [] } ∷ [];
  processes = [];
}

second_assign : wrong_assigns assigned_twice ≡ 29 ∷ 0 ∷ []
second_assign = refl

-- assign y = {y[0], a}: names depend as a whole
abbrev reads_itself : Uses
reads_itself = record {
  names = entry (codes "a") (k.Input 0) 1 ∷ entry (codes "y") (k.Net 0) 2 ∷ [];
  assigns = record { target = name (codes "y") 42; reads = Read (name (codes "y") 47) 1 ∷ Read (name (codes "a") 53) 1 ∷ [] } ∷ [];
  processes = [];
}

itself : circular reads_itself ≡ 42 ∷ []
itself = refl

-- a nonblocking assignment, and one to a memory, write nothing whole in a combinational process
abbrev only_writes : Kind → AssignKind → ℕ → Uses
only_writes kind assign bits = record {
  names = entry (codes "y") kind 1 ∷ [];
  assigns = [];
  processes = combinational (one_path (Write (name (codes "y") 43) assign bits ∷ [])) ∷ [];
}

nonblocking : latching (only_writes (k.Combinational 0) Nonblocking 1) ≡ 43 ∷ []
nonblocking = refl

memory_target : latching (only_writes (k.Memory 0 0 2) Blocking 0) ≡ 43 ∷ []
memory_target = refl

blocking : latching (only_writes (k.Combinational 0) Blocking 1) ≡ []
blocking = refl

-- assign clk = 0: the clock as the target of an assign breaks P1
abbrev assigned_clock : Uses
assigned_clock = record {
  names = entry (codes "clk") k.Clock 1 ∷ [];
  assigns = record { target = name (codes "clk") 42; reads = [] } ∷ [];
  processes = clocked [] ∷ [];
}

clock_assigned : wrong_clock assigned_clock ≡ 42 ∷ []
clock_assigned = refl
