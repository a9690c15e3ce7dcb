-- What can stand behind the fields of a line, how it begins, and what may stand behind a line.
use Rattle.std.proofs.Common.{◌≡◌, ◌≤◌, ◌<◌, inl, inr, ℕ, List, [], ◌∷◌, ◌++◌, length, flat_map, Bool, false, Option, None, Some, refl, arith, ap, subst, sym, ◌∙◌, append_assoc}
use Rattle.std.proofs.lemmas.List.{length-append}
use Rattle.lz_lines.specs.Fields.{AreNumbers, IsBit, IsNameField, IsNumber, IsWord, bit, field, greatest, line_end, number}
use Rattle.lz_lines.specs.Forms.{Anything, Done, EndNumbers, IsParted, LineOrLast, Takes, Then}
use Rattle.lz_lines.specs.Keywords.{OneOf}
use Rattle.lz_lines.specs.Sections.{end_line}
use Rattle.lz_lines.proofs.Forms.{After, after_same, after_start}
use Rattle.lz_lines.proofs.Sections.{last_comes}
use Rattle.lz_lines.proofs.Standing.{Some_, a_name, ended_line, ended_parted, name_there, number_parted, numbers_parted, some_ended, some_then, zero_there, zeros, zeros_there}
use Rattle.g_net.specs.declared.network.Gate.TheVariants as gate
use Rattle.g_net.specs.Network.{NetworkValue}
use Rattle.g_text.specs.declared.line.Key.{Key}
use Rattle.g_text.specs.declared.line.Key.TheVariants as key
use Rattle.g_text.specs.declared.line.Line.{Line}
use Rattle.g_text.specs.declared.line.Line.TheVariants as line
use Rattle.g_text.specs.Grammar as g
use Rattle.g_text.specs.Grammar.{IsLine, IsLiteral, IsNext, Pair, Rest, Tail}
use Rattle.g_text.specs.Keys.{key_word, keys_of}
use Rattle.g_text.specs.Raw.{bare, with_line}
use Rattle.g_text.proofs.Opening.{opens}
use Rattle.g_text.proofs.Spelling.{pair, pair_out}

pub pair_some : (a : ℕ) (text : List ℕ) → IsLiteral a text → Some_ (g.PairEnd a)
pair_some a text is = some_then IsLiteral (λ b. Done (a, b)) 0 (number 0) zero_there ((a, 0), [], (refl, refl))

pub pair_follows : (a : ℕ) (v : ℕ × ℕ) (text behind : List ℕ) → g.PairEnd a v text → IsParted (text ++ behind)
pair_follows a = number_parted 0 greatest (λ b. Done (a, b))

pub done_parted : {V : Type 0} (known v : V) (text behind : List ℕ) → Done known v text → IsParted behind → IsParted (text ++ behind)
done_parted known v text behind is parted = subst (λ t. IsParted (t ++ behind)) (sym is.1) parted

pub pair_parted : {V : Type 0} (Second : ℕ × ℕ → V → List ℕ → Type 0) (v : V) (text behind : List ℕ) → Then Pair Second v text → IsParted (text ++ behind)
pair_parted Second v text behind (p, front, back, (a, f, b, isa, more, d), rest, e) =
    number_parted 0 greatest (λ n. Then (λ (q : ℕ × ℕ). g.PairEnd n q) Second) v text behind (a, f, b ++ back, isa, (p, b, back, more, rest, refl), e ∙ ap (λ t. t ++ back) d ∙ append_assoc f b back)

-- what can stand behind each field, and how it begins
pub width_some : (name text : List ℕ) → IsNameField name text → Some_ (g.InputWidth name)
width_some name text is = some_then (IsNumber 1 128) (g.InputEnd name) 1 (number 1) (omega arith, omega arith, refl) (some_ended (Some (line.Input (record { name = name; width = 1 }))))

pub width_parted : (name : List ℕ) (v : Option Line) (text behind : List ℕ) → g.InputWidth name v text → IsParted (text ++ behind)
width_parted name = number_parted 1 128 (g.InputEnd name)

zeros_pair : Pair (0, 0) (pair 0 0)
zeros_pair = pair_out 0 0 (omega arith) (omega arith)

pub flip_some : (first : Bool) (text : List ℕ) → IsBit first text → Some_ (g.FlipPair first)
flip_some first text is = some_then Pair (g.FlipEnd first) (0, 0) (pair 0 0) zeros_pair (some_ended (Some (line.Flip (record { first = first; literal = 0; enable = 0 }))))

pub carry_some : (a : ℕ) (text : List ℕ) → IsLiteral a text → Some_ (g.CarryPair a)
carry_some a text is = some_then Pair (g.CarryEnd a) (0, 0) (pair 0 0) zeros_pair (some_ended (Some (line.Gate (gate.Carry a 0 0))))

pub literals_some : (name text : List ℕ) → IsNameField name text → Some_ (g.OutputLiterals name)
literals_some name text is =
    some_then (AreNumbers 1 128 greatest) (g.OutputEnd name) (zeros 1) (flat_map number (zeros 1)) (zeros_there 1 128 1 (omega arith) (omega arith)) (some_ended (Some (line.Output (record { name = name; literals = zeros 1 }))))

pub literals_parted : (name : List ℕ) (v : Option Line) (text behind : List ℕ) → g.OutputLiterals name v text → IsParted (text ++ behind)
literals_parted name = numbers_parted 1 128 (g.OutputEnd name) (λ ns v text behind is. ended_parted (Some (line.Output (record { name = name; literals = ns }))) v text behind is)

pub literals_end : (name ns : List ℕ) (v : Option Line) (text behind : List ℕ) → g.OutputEnd name ns v text → EndNumbers 128 ns (text ++ behind)
literals_end name ns v text behind is =
    let made = Some (line.Output (record { name = name; literals = ns })) in
    (ended_parted made v text behind is, λ fewer. ended_line made v text behind is)

pub tail_some : (k : Key) → Some_ (Tail k)
tail_some key.Clock = some_then IsNameField g.ClockEnd a_name (field a_name) name_there (some_ended (Some (line.Clock a_name)))
tail_some key.Input = some_then IsNameField g.InputWidth a_name (field a_name) name_there (width_some a_name (field a_name) name_there)
tail_some key.Flip = some_then IsBit g.FlipPair false (bit false) refl (flip_some false (bit false) refl)
tail_some key.And = some_then Pair g.AndEnd (0, 0) (pair 0 0) zeros_pair (some_ended (Some (line.Gate (gate.And 0 0))))
tail_some key.Xor = some_then Pair g.XorEnd (0, 0) (pair 0 0) zeros_pair (some_ended (Some (line.Gate (gate.Xor 0 0))))
tail_some key.Carry = some_then IsLiteral g.CarryPair 0 (number 0) zero_there (carry_some 0 (number 0) zero_there)
tail_some key.Output = some_then IsNameField g.OutputLiterals a_name (field a_name) name_there (literals_some a_name (field a_name) name_there)
tail_some key.End = some_ended None

-- the end's line, and the others
tail_none : (k : Key) (text : List ℕ) → Tail k None text → (k ≡ key.End) × (text ≡ line_end)
tail_none key.Clock text (a, f, b, h, ended, e) = cc (ended.0)
tail_none key.Input text (a, f, b, h, (c, i, j, k, ended, d), e) = cc (ended.0)
tail_none key.Flip text (a, f, b, h, (c, i, j, k, ended, d), e) = cc (ended.0)
tail_none key.And text (a, f, b, h, ended, e) = cc (ended.0)
tail_none key.Xor text (a, f, b, h, ended, e) = cc (ended.0)
tail_none key.Carry text (a, f, b, h, (c, i, j, k, ended, d), e) = cc (ended.0)
tail_none key.Output text (a, f, b, h, (c, i, j, k, ended, d), e) = cc (ended.0)
tail_none key.End text ended = (refl, ended.1)

pub next_line : (n : NetworkValue) (bytes : List ℕ) → After (LineOrLast IsLine g.MayEnd end_line n) Anything bytes (IsNext (keys_of n)) bytes
next_line n bytes = after_same (IsNext (keys_of n)) (after_start (LineOrLast IsLine g.MayEnd end_line n) Anything bytes) to from
  where
    to : (v : Option Line) (text : List ℕ) → IsNext (keys_of n) v text → LineOrLast IsLine g.MayEnd end_line n v text
    to None text (k, front, back, isk, tail, e) =
        let last = tail_none k back tail in
        let o = opens n k front isk in
        (tt, e ∙ (λ i. (o.1 ∙ ap key_word last.0) i ++ last.1 i))
    to (Some l) text is = is

    from : (v : Option Line) (text : List ℕ) → LineOrLast IsLine g.MayEnd end_line n v text → IsNext (keys_of n) v text
    from None text is = (key.End, key_word key.End, line_end, last_comes key_word key.End (keys_of n), (refl, refl), is.1)
    from (Some l) text is = is

pub lines_some : (n : NetworkValue) (l : Line) (text : List ℕ) → IsLine n l text → (v : NetworkValue) × (more : List ℕ) × Rest (with_line n l) v more
lines_some n l text is = (with_line n l, end_line, ([], (tt, refl, refl)))

-- what stands behind the model's name
pub rest_some : (name : List ℕ) → Some_ (Rest (bare name))
rest_some name = (bare name, end_line, ([], (tt, refl, refl)))

pub behind_some : (name : List ℕ) → Some_ (g.Behind name)
behind_some name = some_then (IsWord line_end) (λ w. Rest (bare name)) tt line_end refl (rest_some name)

pub behind_parted : (name : List ℕ) (v : NetworkValue) (text behind : List ℕ) → g.Behind name v text → IsParted (text ++ behind)
behind_parted name v text behind (w, front, back, is, more, e) = inr (back ++ behind, ap (λ t. t ++ behind) (e ∙ ap (λ t. t ++ back) is))

pub name_some : Some_ (Then IsNameField g.Behind)
name_some = some_then IsNameField g.Behind a_name (field a_name) name_there (behind_some a_name)

-- a line has bytes
word_least : (k : Key) → 1 ≤ length (key_word k)
word_least key.Clock = omega arith
word_least key.Input = omega arith
word_least key.Flip = omega arith
word_least key.And = omega arith
word_least key.Xor = omega arith
word_least key.Carry = omega arith
word_least key.Output = omega arith
word_least key.End = omega arith

pub next_less : (n : NetworkValue) (left : List ℕ) (v : Option Line) (rest : List ℕ) → Takes (IsNext (keys_of n)) Anything left v rest → length rest < length left
next_less n left v rest t =
    let o = opens n t.is.0 t.is.1 t.is.3 in
    let least : 1 ≤ length t.is.1 = subst (λ w. 1 ≤ length w) (sym o.1) (word_least t.is.0) in
    omega (arith, least, ap (λ (l : List ℕ). length l) t.split, length-append t.front rest, ap (λ (l : List ℕ). length l) t.is.5, length-append t.is.1 t.is.2)
