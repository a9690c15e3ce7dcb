-- What can stand behind the fields of a line, how it begins, and what may stand behind a line.
use Rattle.std.proofs.Common.{◌≡◌, ◌≤◌, ◌<◌, inr, ℕ, List, [], ◌∷◌, ◌++◌, length, flat_map, Bool, false, Option, None, Some, refl, arith, ap, subst, sym, ◌∙◌}
use Rattle.std.proofs.lemmas.List.{length-append}
use Rattle.lz_lines.specs.Fields.{AreNumbers, IsBit, IsNameField, IsNumber, IsWord, bit, field, greatest, line_end, number}
use Rattle.lz_lines.specs.Forms.{Anything, EndNumbers, IsParted, LineOrLast, Takes, Then}
use Rattle.lz_lines.specs.Keywords.{OneOf}
use Rattle.lz_lines.specs.Tables.{IsTable, table_fields}
use Rattle.lz_lines.proofs.Forms.{After, after_same, after_start}
use Rattle.lz_lines.proofs.Sections.{last_comes}
use Rattle.lz_lines.proofs.Standing.{Some_, a_name, ended_line, ended_parted, name_there, number_parted, numbers_parted, some_ended, some_then, zero_there, zeros, zeros_there}
use Rattle.lz_lines.specs.Sections.{end_line}
use Rattle.n_cells.specs.declared.format.Format.{Format}
use Rattle.n_cells.specs.declared.format.Format.TheVariants as format_
use Rattle.n_cells.specs.declared.netlist.Stored.TheVariants as stored
use Rattle.n_cells.specs.Form.{leaves_of}
use Rattle.n_cells.specs.Netlist.{NetlistValue}
use Rattle.n_text.specs.declared.line.Key.{Key}
use Rattle.n_text.specs.declared.line.Key.TheVariants as key
use Rattle.n_text.specs.declared.line.Line.{Line}
use Rattle.n_text.specs.declared.line.Line.TheVariants as line
use Rattle.n_text.specs.Grammar as g
use Rattle.n_text.specs.Grammar.{IsEnable, IsNet, IsNext, IsLine, Tail, Rest}
use Rattle.n_text.specs.Keys.{key_word, keys_of}
use Rattle.n_text.specs.Raw.{bare, with_line}
use Rattle.n_text.proofs.Opening.{opens}
use Rattle.n_text.proofs.Spelling.{enable_field}

-- what can stand behind each field, and how it begins
pub width_some : (name text : List ℕ) → IsNameField name text → Some_ (g.InputWidth name)
width_some name text is = some_then (IsNumber 1 128) (g.InputEnd name) 1 (number 1) (omega arith, omega arith, refl) (some_ended (Some (line.Input (record { name = name; width = 1 }))))

pub width_parted : (name : List ℕ) (v : Option Line) (text behind : List ℕ) → g.InputWidth name v text → IsParted (text ++ behind)
width_parted name = number_parted 1 128 (g.InputEnd name)

some_enable : (format : Format) → IsEnable format 1 (enable_field format 1)
some_enable format_.One = (refl, refl)
some_enable format_.Two = (omega arith, omega arith, refl)

pub enable_some : (format : Format) (first : Bool) (net : ℕ) (text : List ℕ) → IsNet net text → Some_ (g.FlopEnable format first net)
enable_some format first net text is =
    some_then (IsEnable format) (g.FlopEnd first net) 1 (enable_field format 1) (some_enable format) (some_ended (Some (line.Flop (record { first = first; net = net; enable = 1 }))))

pub enable_parted : (format : Format) (first : Bool) (net : ℕ) (v : Option Line) (text behind : List ℕ) → g.FlopEnable format first net v text → IsParted (text ++ behind)
enable_parted format_.One first net v text behind (enable, front, back, is, more, e) =
    subst (λ t. IsParted (t ++ behind)) (sym (e ∙ ap (λ t. t ++ back) is.1)) (ended_parted (Some (line.Flop (record { first = first; net = net; enable = enable }))) v back behind more)
enable_parted format_.Two first net v text behind is = number_parted 0 greatest (g.FlopEnd first net) v text behind is

pub net_some : (format : Format) (first : Bool) (text : List ℕ) → IsBit first text → Some_ (g.FlopNet format first)
net_some format first text is = some_then IsNet (g.FlopEnable format first) 0 (number 0) zero_there (enable_some format first 0 (number 0) zero_there)

pub last_some : (a b : ℕ) (text : List ℕ) → IsNet b text → Some_ (g.CarryLast a b)
last_some a b text is = some_then IsNet (g.CarryEnd a b) 0 (number 0) zero_there (some_ended (Some (line.Cell (stored.Carry a b 0))))

pub second_some : (a : ℕ) (text : List ℕ) → IsNet a text → Some_ (g.CarrySecond a)
second_some a text is = some_then IsNet (g.CarryLast a) 0 (number 0) zero_there (last_some a 0 (number 0) zero_there)

pub net_parted : {V : Type 0} (Second : ℕ → V → List ℕ → Type 0) (v : V) (text behind : List ℕ) → Then IsNet Second v text → IsParted (text ++ behind)
net_parted = number_parted 0 greatest

-- the table of one bit, which is 0
no_leaves : (format : Format) → IsTable (leaves_of format) ([], 0) (table_fields [] 0)
no_leaves format = (omega arith, tt, omega arith, refl)

pub nets_some : (name text : List ℕ) → IsNameField name text → Some_ (g.OutputNets name)
nets_some name text is =
    some_then (AreNumbers 1 128 greatest) (g.OutputEnd name) (zeros 1) (flat_map number (zeros 1)) (zeros_there 1 128 1 (omega arith) (omega arith))
    (some_ended (Some (line.Output (record { name = name; width = length (zeros 1) }) (zeros 1))))

pub nets_parted : (name : List ℕ) (v : Option Line) (text behind : List ℕ) → g.OutputNets name v text → IsParted (text ++ behind)
nets_parted name = numbers_parted 1 128 (g.OutputEnd name) (λ ns v text behind is. ended_parted (Some (line.Output (record { name = name; width = length ns }) ns)) v text behind is)

pub nets_end : (name ns : List ℕ) (v : Option Line) (text behind : List ℕ) → g.OutputEnd name ns v text → EndNumbers 128 ns (text ++ behind)
nets_end name ns v text behind is =
    let made = Some (line.Output (record { name = name; width = length ns }) ns) in
    (ended_parted made v text behind is, λ fewer. ended_line made v text behind is)

pub tail_some : (format : Format) (k : Key) → Some_ (Tail format k)
tail_some format key.Clock = some_then IsNameField g.ClockEnd a_name (field a_name) name_there (some_ended (Some (line.Clock a_name)))
tail_some format key.Input = some_then IsNameField g.InputWidth a_name (field a_name) name_there (width_some a_name (field a_name) name_there)
tail_some format key.Flop = some_then IsBit (g.FlopNet format) false (bit false) refl (net_some format false (bit false) refl)
tail_some format key.Lut = some_then (IsTable (leaves_of format)) g.LutEnd ([], 0) (table_fields [] 0) (no_leaves format) (some_ended (Some (line.Cell (stored.Lut [] 0))))
tail_some format key.Carry = some_then IsNet g.CarrySecond 0 (number 0) zero_there (second_some 0 (number 0) zero_there)
tail_some format key.Output = some_then IsNameField g.OutputNets a_name (field a_name) name_there (nets_some a_name (field a_name) name_there)
tail_some format key.End = some_ended None

-- the end's line, and the others
tail_none : (format : Format) (k : Key) (text : List ℕ) → Tail format k None text → (k ≡ key.End) × (text ≡ line_end)
tail_none format key.Clock text (a, f, b, h, ends, e) = cc ends.0
tail_none format key.Input text (a, f, b, h, (c, i, j, k, ends, d), e) = cc ends.0
tail_none format key.Flop text (a, f, b, h, (c, i, j, k, (x, y, z, w, ends, u), d), e) = cc ends.0
tail_none format key.Lut text (a, f, b, h, ends, e) = cc ends.0
tail_none format key.Carry text (a, f, b, h, (c, i, j, k, (x, y, z, w, ends, u), d), e) = cc ends.0
tail_none format key.Output text (a, f, b, h, (c, i, j, k, ends, d), e) = cc ends.0
tail_none format key.End text ends = (refl, ends.1)

pub next_line : (format : Format) (n : NetlistValue) (bytes : List ℕ) → After (LineOrLast (IsLine format) g.MayEnd end_line n) Anything bytes (IsNext format (keys_of n)) bytes
next_line format n bytes = after_same (IsNext format (keys_of n)) (after_start (LineOrLast (IsLine format) g.MayEnd end_line n) Anything bytes) to from
  where
    to : (v : Option Line) (text : List ℕ) → IsNext format (keys_of n) v text → LineOrLast (IsLine format) g.MayEnd end_line n v text
    to None text (k, front, back, isk, tail, e) =
        let last = tail_none format k back tail in
        let o = opens n k front isk in
        (tt, e ∙ (λ i. (o.1 ∙ ap key_word last.0) i ++ last.1 i))
    to (Some l) text is = is

    from : (v : Option Line) (text : List ℕ) → LineOrLast (IsLine format) g.MayEnd end_line n v text → IsNext format (keys_of n) v text
    from None text is = (key.End, key_word key.End, line_end, last_comes key_word key.End (keys_of n), (refl, refl), is.1)
    from (Some l) text is = is

pub lines_some : (format : Format) (n : NetlistValue) (l : Line) (text : List ℕ) → IsLine format n l text → (v : NetlistValue) × (more : List ℕ) × Rest format (with_line n l) v more
lines_some format n l text is = (with_line n l, end_line, ([], (tt, refl, refl)))

-- what stands behind the model's name
pub rest_some : (format : Format) (name : List ℕ) → Some_ (Rest format (bare name))
rest_some format name = (bare name, end_line, ([], (tt, refl, refl)))

pub behind_some : (format : Format) (name : List ℕ) → Some_ (g.Behind format name)
behind_some format name = some_then (IsWord line_end) (λ w. Rest format (bare name)) tt line_end refl (rest_some format name)

pub behind_parted : (format : Format) (name : List ℕ) (v : NetlistValue) (text behind : List ℕ) → g.Behind format name v text → IsParted (text ++ behind)
behind_parted format name v text behind (w, front, back, is, more, e) = inr (back ++ behind, ap (λ t. t ++ behind) (e ∙ ap (λ t. t ++ back) is))

pub name_some : (format : Format) → Some_ (Then IsNameField (g.Behind format))
name_some format = some_then IsNameField (g.Behind format) a_name (field a_name) name_there (behind_some format a_name)

-- a line has bytes
word_least : (k : Key) → 1 ≤ length (key_word k)
word_least key.Clock = omega arith
word_least key.Input = omega arith
word_least key.Flop = omega arith
word_least key.Lut = omega arith
word_least key.Carry = omega arith
word_least key.Output = omega arith
word_least key.End = omega arith

pub next_less : (format : Format) (n : NetlistValue) (left : List ℕ) (v : Option Line) (rest : List ℕ) → Takes (IsNext format (keys_of n)) Anything left v rest → length rest < length left
next_less format n left v rest t =
    let o = opens n t.is.0 t.is.1 t.is.3 in
    let least : 1 ≤ length t.is.1 = subst (λ w. 1 ≤ length w) (sym o.1) (word_least t.is.0) in
    omega (arith, least, ap (λ (l : List ℕ). length l) t.split, length-append t.front rest, ap (λ (l : List ℕ). length l) t.is.5, length-append t.is.1 t.is.2)
