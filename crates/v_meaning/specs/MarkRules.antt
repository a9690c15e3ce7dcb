-- The rules of names and expressions: for each the places of the marks that break it, in text order.
use Rattle.std.specs.Prelude.{ℕ, List, [], ◌∷◌, ◌++◌, Bool, true, false, not, ◌&&◌, ◌||◌, Option}
use Rattle.lz_base.specs.Names.{is_among}
use Rattle.v_meaning.specs.Literals.{digit_in, is_wrong_number, is_z}
use Rattle.v_meaning.specs.declared.names.Kind.{Kind}
use Rattle.v_meaning.specs.declared.names.Kind.TheVariants.{Parameter, Memory}
use Rattle.v_meaning.specs.declared.names.Entry.{Entry}
use Rattle.v_meaning.specs.Names.{entry_of}
use Rattle.v_meaning.specs.Proper.{is_between_1_and_128, is_part}
use Rattle.v_meaning.specs.Marks.{Form, Bare, Indexed, PartOf, Mark, Declares, Valued, Used, Digits, UnsizedPart, Joined, Again}

-- a place, where a test holds
abbrev pub place_if : Bool → ℕ → List ℕ
place_if true at = at ∷ []
place_if false at = []

-- ---- E4: a name declared twice. The later name (4.11)

abbrev pub declared_twice : List (List ℕ) → List Mark → List ℕ
declared_twice before [] = []
declared_twice before (Declares n ∷ marks) = place_if (is_among n.name before) n.at ++ declared_twice (n.name ∷ before) marks
declared_twice before (_ ∷ marks) = declared_twice before marks

-- ---- E5: a name declared nowhere, or a parameter used before its value has ended. The name (4.11)

abbrev pub declared_in : List Mark → List (List ℕ)
declared_in [] = []
declared_in (Declares n ∷ marks) = n.name ∷ declared_in marks
declared_in (_ ∷ marks) = declared_in marks

abbrev pub valued_in : List Mark → List (List ℕ)
valued_in [] = []
valued_in (Valued n ∷ marks) = n.name ∷ valued_in marks
valued_in (_ ∷ marks) = valued_in marks

-- of all names and of the parameters, and of the parameters whose values have ended
abbrev pub used_early : List (List ℕ) → List (List ℕ) → List (List ℕ) → List Mark → List ℕ
used_early all parameters ended [] = []
used_early all parameters ended (Used form n ∷ marks) =
    place_if (not (is_among n.name all) || (is_among n.name parameters && not (is_among n.name ended))) n.at
    ++ used_early all parameters ended marks
used_early all parameters ended (Valued n ∷ marks) = used_early all parameters (n.name ∷ ended) marks
used_early all parameters ended (_ ∷ marks) = used_early all parameters ended marks

-- ---- E6: a size of 0 or over 128; a decimal number of 2^31 or more; a number without a size that has x or z. The number

abbrev pub wrong_number : Mark → List ℕ
wrong_number (Digits item n) = place_if (is_wrong_number n.spelling) n.at
wrong_number _ = []

-- ---- E8: a memory without an index or with bounds; a scalar or parameter with an index or bounds. The name (5.2)

abbrev pub is_wrong_form : Kind → Bool → Form → Bool
is_wrong_form (Memory k low count) vector Bare = true
is_wrong_form (Memory k low count) vector Indexed = false
is_wrong_form (Memory k low count) vector (PartOf msb lsb) = true
is_wrong_form kind vector Bare = false
is_wrong_form (Parameter value) vector Indexed = true
is_wrong_form (Parameter value) vector (PartOf msb lsb) = true
is_wrong_form kind vector Indexed = not vector
is_wrong_form kind vector (PartOf msb lsb) = not vector

abbrev pub wrong_form : List Entry → Mark → List ℕ
wrong_form names (Used form n) = place_if (is_wrong_form (entry_of names n.name).kind (entry_of names n.name).is_vector form) n.at
wrong_form names _ = []

-- ---- E9: bounds that have no proper value, ascend or leave the declared range. The name (5.2.1)

abbrev pub wrong_part : List Entry → Mark → List ℕ
wrong_part names (Used (PartOf msb lsb) n) = place_if (not (is_part (entry_of names n.name) msb lsb)) n.at
wrong_part names _ = []

-- ---- E10: a number without a size as a part of a concatenation or replication. The number (5.1.14)

abbrev pub unsized_part : Mark → List ℕ
unsized_part (UnsizedPart at) = at ∷ []
unsized_part _ = []

-- ---- E11: a concatenation or replication that is not of 1 to 128 bits, also as a target. Its brace

abbrev pub too_wide : Mark → List ℕ
too_wide (Joined width brace) = place_if (not (is_between_1_and_128 width)) brace
too_wide _ = []

-- ---- E12: a second default in one case. That default (9.5)

abbrev pub second_default : Mark → List ℕ
second_default (Again at) = at ∷ []
second_default _ = []

-- ---- E13: a z digit in a number that is not by itself an item of a casez. The number

abbrev pub wrong_z : Mark → List ℕ
wrong_z (Digits item n) = place_if (not item && digit_in is_z n.spelling) n.at
wrong_z _ = []
