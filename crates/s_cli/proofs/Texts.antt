-- Files that were read, and one more.
use Rattle.std.proofs.Common.{◌≡◌, ◌<◌, ◌+◌, ℕ, List, [], ◌∷◌, ◌++◌, length, take, Option, None, Some, Vec, refl, sym, ap, subst, arith, ◌∙◌, inl, inr}
use Rattle.std.specs.Prelude.{String, slice_get}
use Rattle.std.specs.declared.alloc.Global.{Global}
use Rattle.std.proofs.lemmas.List.{length-append, length-take-le}
use Rattle.std.proofs.lemmas.Option.{slice_get_within}
use Rattle.lz_base.proofs.Lists.{take_next}
use Rattle.lz_base.specs.Outside.{Told}
use Rattle.s_cli.specs.Texts.{AreShort, AreUnder, AreWhole, AnyMissing, IsMissing, IsShort, IsWhole, StandsSo, WereRead}
use Rattle.s_cli.specs.declared.forms.Command.{Command}
use Rattle.s_cli.specs.declared.forms.Command.TheVariants as command
use Rattle.s_cli.specs.Words.{command_of, limits_of, names_for, names_in}

abbrev Texts : Type 0
Texts = List (Option (Vec ℕ Global))

-- bytes under names and one more name
under_split : (content : List ℕ → Option (List ℕ)) (names : List (List ℕ)) (name : List ℕ) (contents : List (List ℕ)) → AreUnder (Some content) (names ++ name ∷ []) contents
    → (front : List (List ℕ)) × (last : List ℕ) × (contents ≡ front ++ last ∷ []) × AreUnder (Some content) names front × (content name ≡ Some last)
under_split content [] name [] h = absurd h
under_split content [] name (b ∷ []) h = ([], b, refl, tt, h.0)
under_split content [] name (b ∷ c ∷ more) h = absurd h.1
under_split content (n ∷ names) name [] h = absurd h
under_split content (n ∷ names) name (b ∷ contents) h =
    let r = under_split content names name contents h.1 in
    (b ∷ r.0, r.1, ap (λ l. b ∷ l) r.2, (h.0, r.3), r.4)

whole_more : (limits : List ℕ) (texts : Texts) (contents : List (List ℕ)) (limit : ℕ) (text : Option (Vec ℕ Global)) (bytes : List ℕ) → AreWhole limits texts contents → IsWhole limit text bytes
    → AreWhole (limits ++ limit ∷ []) (texts ++ text ∷ []) (contents ++ bytes ∷ [])
whole_more [] [] [] limit text bytes h one = (one, tt)
whole_more [] [] (b ∷ contents) limit text bytes h one = absurd h
whole_more [] (t ∷ texts) contents limit text bytes h one = absurd h
whole_more (l ∷ limits) [] contents limit text bytes h one = absurd h
whole_more (l ∷ limits) (t ∷ texts) [] limit text bytes h one = absurd h
whole_more (l ∷ limits) (t ∷ texts) (b ∷ contents) limit text bytes h one = (h.0, whole_more limits texts contents limit text bytes h.1 one)

-- one file more was read
read_more : (told : Told) (names : List (List ℕ)) (limits : List ℕ) (texts : Texts) (name : List ℕ) (limit : ℕ) (text : Option (Vec ℕ Global)) → WereRead told names limits texts
    → StandsSo told name (IsWhole limit text) → WereRead told (names ++ name ∷ []) (limits ++ limit ∷ []) (texts ++ text ∷ [])
read_more None names limits texts name limit text read stands = λ contents under. absurd under
read_more (Some content) names limits texts name limit text read stands = λ contents under.
    let r = under_split content names name contents under in
    let same : stands.0 ≡ r.1 = let a = stands.1 in let b = r.4 in cc in
    rw r.2 (whole_more limits texts r.0 limit text r.1 (read r.0 r.3) (subst (IsWhole limit text) same stands.2))

missing_more : (content : List ℕ → Option (List ℕ)) (names : List (List ℕ)) (name bytes : List ℕ) → content name ≡ Some bytes → (AnyMissing content names → ⊥) → AnyMissing content (names ++ name ∷ []) → ⊥
missing_more content [] name bytes is none (inl e) = absurd (cc (e, is))
missing_more content [] name bytes is none (inr h) = absurd h
missing_more content (n ∷ names) name bytes is none (inl e) = none (inl e)
missing_more content (n ∷ names) name bytes is none (inr h) = missing_more content names name bytes is (λ m. none (inr m)) h

-- and is there too
there_more : (told : Told) (names : List (List ℕ)) (name : List ℕ) (P : List ℕ → Type 0) → StandsSo told name P → (IsMissing told names → ⊥) → IsMissing told (names ++ name ∷ []) → ⊥
there_more None names name P stands none h = h
there_more (Some content) names name P stands none h = missing_more content names name stands.0 stands.1 none h

short_more : (limits : List ℕ) (texts : Texts) (limit : ℕ) (text : Option (Vec ℕ Global)) → length texts ≡ length limits → AreShort limits texts → IsShort limit text → AreShort (limits ++ limit ∷ []) (texts ++ text ∷ [])
short_more [] [] limit text same h one = (one, tt)
short_more [] (t ∷ texts) limit text same h one = absurd (omega (arith, same))
short_more (l ∷ limits) [] limit text same h one = absurd (omega (arith, same))
short_more (l ∷ limits) (t ∷ texts) limit text same h one = (h.0, short_more limits texts limit text (omega (arith, same)) h.1 one)

-- The files before an index were read.
pub record ReadTo (told : Told) (names : List (List ℕ)) (limits : List ℕ) (i : ℕ) (texts : Texts) : Type 0 where
  pub read : WereRead told (take i names) (take i limits) texts
  pub there : IsMissing told (take i names) → ⊥
  pub count : length texts ≡ i
  pub short : AreShort (take i limits) texts

-- and the one there too
pub read_next : (told : Told) (names : List (List ℕ)) (limits : List ℕ) (i : ℕ) (texts more : Texts) (name : List ℕ) (limit : ℕ) (text : Option (Vec ℕ Global))
    → ReadTo told names limits i texts → slice_get names i ≡ Some name → slice_get limits i ≡ Some limit → StandsSo told name (IsWhole limit text) → IsShort limit text
    → more ≡ texts ++ text ∷ [] → ReadTo told names limits (i + 1) more
read_next told names limits i texts more name limit text before at_name at_limit stands short_one grown =
    let within : i < length limits = slice_get_within limits i limit at_limit in
    let limits_on = take_next limits i limit at_limit in
    let names_on = take_next names i name at_name in
    record {
      read = rw (grown, limits_on, names_on) (read_more told (take i names) (take i limits) texts name limit text before.read stands);
      there = rw names_on (there_more told (take i names) name (IsWhole limit text) stands before.there);
      count = rw grown (length-append texts (text ∷ []) ∙ ap (λ k. k + 1) before.count);
      short = rw (grown, limits_on) (short_more (take i limits) texts limit text (before.count ∙ sym (length-take-le i limits (omega (arith, within)))) before.short short_one);
    }

-- a form has a limit for each of its files
pub names_count : (words : List (String Global)) (c : Command) → command_of words ≡ Some c → length (names_in words) ≡ length (limits_of c)
names_count words c is = rw is (counted c) where
  counted : (c : Command) → length (names_for (Some c) words) ≡ length (limits_of c)
  counted command.Synth = refl
  counted command.Map = refl
  counted command.MapFile = refl
  counted command.Simv = refl
  counted command.SimvBy = refl
  counted command.Simn = refl
  counted (command.Lanes count) = refl
  counted command.Upgrade = refl
