-- The marks that occurrences are, over the declared names of a module.
use Rattle.std.specs.Prelude.{◌≡◌, List, ◌++◌, map}
use Rattle.v_meaning.specs.declared.names.Entry.{Entry}
use Rattle.v_meaning.specs.Proper.{proper_value, concat_bits, replicated_bits}
use Rattle.v_meaning.specs.Marks.{Mark, Declares, Valued, Used, Bare, Indexed, PartOf, Digits, UnsizedPart, Joined, Again, joined_targets_bits}
use Rattle.v_scope.specs.declared.occurrence.Occurrence.{Occurrence}
use Rattle.v_scope.specs.declared.occurrence.Occurrence.TheVariants as o

abbrev pub mark_of : List Entry → Occurrence → Mark
mark_of names (o.Declares n) = Declares n.now
mark_of names (o.Valued n) = Valued n.now
mark_of names (o.Bare n) = Used Bare n.now
mark_of names (o.Indexed n) = Used Indexed n.now
mark_of names (o.PartOf n msb lsb) = Used (PartOf (proper_value names msb.now) (proper_value names lsb.now)) n.now
mark_of names (o.Digits item n) = Digits item n.now
mark_of names (o.UnsizedPart at) = UnsizedPart at
mark_of names (o.Joined brace parts) = Joined (concat_bits names parts.now) brace
mark_of names (o.Replicated brace count parts) = Joined (replicated_bits names count.now parts.now) brace
mark_of names (o.JoinedTargets brace parts) = Joined (joined_targets_bits names parts.now) brace
mark_of names (o.Again at) = Again at

-- the marks of occurrences, in their order
abbrev pub marks_in : List Entry → List Occurrence → List Mark
marks_in names occurrences = map (mark_of names) occurrences

-- Some occurrences are appended to those before, and these are their marks, whatever names are declared.
pub record Adds (old new : List Occurrence) (marks : List Entry → List Mark) : Type 0 where
  pub added : (names : List Entry) → marks_in names new ≡ marks_in names old ++ marks names
