-- Typed expressions that keep to their widths: each has 1 to 128 bits, and each operand as many as its operator takes
-- (1364-2005, 5.4.1).
use Rattle.std.specs.Prelude.{ℕ, ◌+◌, ◌*◌, ◌^◌, ◌==◌, List, [], ◌∷◌, Bool, true, ◌&&◌, nat_le, nat_lt, if◌then◌else◌}
use Rattle.v_meaning.specs.declared.literal.Literal.{Literal}
use Rattle.v_meaning.specs.Senses.{Class, Shared, Compared, Shifted, Logical, class_of, is_through}
use Rattle.v_meaning.specs.declared.names.Kind.{Kind}
use Rattle.v_meaning.specs.declared.names.Kind.TheVariants.{Memory}
use Rattle.v_meaning.specs.declared.names.Entry.{Entry}
use Rattle.v_core.specs.declared.typed.Link.{Link}
use Rattle.v_core.specs.declared.typed.Typed.{Typed}
use Rattle.v_core.specs.declared.typed.Typed.TheOpen.{Typed-F}
use Rattle.v_core.specs.declared.typed.Typed.TheOpen as t
use Rattle.v_core.specs.declared.typed.Typed.TheFolds.{fold-Typed}
use Rattle.v_core.specs.Values.{entry_at}

-- how many bits there are, and whether the expression and all its operands keep to their widths
pub record Formed : Type 0 where
  pub width : ℕ
  pub kept : Bool

-- over the declared names
abbrev pub FormedIn : Type 0
FormedIn = List Entry → Formed

-- an operand of so many bits
abbrev pub has : ℕ → Formed → Bool
has width x = x.width == width && x.kept

-- an operand of no more bits
abbrev pub has_at_most : ℕ → Formed → Bool
has_at_most width x = nat_le x.width width && x.kept

abbrev pub is_width : ℕ → Bool
is_width width = nat_le 1 width && nat_le width 128

-- a number's masks together keep to its width, so that its word does with any bits for x
abbrev pub keeps_literal : Literal → Bool
keeps_literal l = is_width l.width && nat_lt (l.ones + l.unknown + l.impedance) (2 ^ l.width)

-- what is selected from a name: a word of a memory, or a bit
abbrev pub selected_width : Kind → ℕ → ℕ
selected_width (Memory k low count) width = width
selected_width kind width = 1

-- what stands before an operator may be narrower than the operator's width
abbrev pub linked_by : Class → Link → Formed → Formed → Formed
linked_by Shared l x y = record { width = l.width; kept = is_width l.width && has_at_most l.width x && has l.width y }
linked_by Compared l x y = record { width = 1; kept = is_width l.width && has_at_most l.width x && has l.width y }
linked_by Shifted l x y = record { width = l.width; kept = is_width l.width && has_at_most l.width x && y.kept }
linked_by Logical l x y = record { width = 1; kept = x.kept && y.kept }

abbrev pub formed_chain : Formed → List (Link × FormedIn) → List Entry → Formed
formed_chain x [] names = x
formed_chain x (link ∷ links) names = formed_chain (linked_by (class_of link.0.operator) link.0 x (link.1 names)) links names

abbrev pub formed_parts : List (ℕ × FormedIn) → List Entry → Formed
formed_parts [] names = record { width = 0; kept = true }
formed_parts (part ∷ parts) names = record {
  width = part.0 + (formed_parts parts names).width;
  kept = has part.0 (part.1 names) && (formed_parts parts names).kept;
}

-- 1 to 128 bits
abbrev pub within_words : Formed → Formed
within_words x = record { width = x.width; kept = is_width x.width && x.kept }

abbrev pub formed_step : Typed-F FormedIn → List Entry → Formed
formed_step (t.Constant width value) names = record { width = width; kept = is_width width && nat_lt value (2 ^ width) }
formed_step (t.Number l site) names = record { width = l.width; kept = keeps_literal l }
formed_step (t.Name name at) names = record { width = (entry_at names name).width; kept = is_width (entry_at names name).width }
formed_step (t.Select name at site width signed index) names = record {
  width = selected_width (entry_at names name).kind (entry_at names name).width;
  kept = is_width (entry_at names name).width && has width (index names);
}
formed_step (t.Part name at low width) names =
    record { width = width; kept = is_width width && nat_le (low + width) (entry_at names name).width }
formed_step (t.Extend from to signed x) names = record { width = to; kept = nat_lt from to && is_width to && has from (x names) }
formed_step (t.Unary op width x) names = record { width = if is_through op then width else 1; kept = has width (x names) }
formed_step (t.Chain x links) names = formed_chain (x names) links names
formed_step (t.Choice width c x y) names = record { width = width; kept = (c names).kept && has width (x names) && has width (y names) }
formed_step (t.Concat parts) names = within_words (formed_parts parts names)
formed_step (t.Copies count width x) names = within_words (record { width = count * width; kept = has width (x names) })

abbrev pub formed : Typed → List Entry → Formed
formed = fold-Typed FormedIn formed_step

-- the operands behind the first one, and operands side by side
abbrev pub link_forms : List (Link × Typed) → List (Link × FormedIn)
link_forms [] = []
link_forms (link ∷ links) = (link.0, formed link.1) ∷ link_forms links

abbrev pub part_forms : List (ℕ × Typed) → List (ℕ × FormedIn)
part_forms [] = []
part_forms (part ∷ parts) = (part.0, formed part.1) ∷ part_forms parts
