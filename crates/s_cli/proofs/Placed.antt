-- Which words name the files of a form.
use Rattle.std.proofs.Common.{◌≡◌, ◌<◌, ◌≤◌, ◌∙◌, List, [], ◌∷◌, length, get_or, Bool, true, false, Option, None, Some, ℕ, zero, suc, refl, sym, ap, arith, if◌then◌else◌}
use Rattle.std.specs.Prelude.{◌+◌, ◌-◌, ◌*◌, ◌&&◌, codes, String, string_bytes, slice_get, option_map, IfSome}
use Rattle.std.specs.declared.alloc.Global.{Global}
use Rattle.std.proofs.lemmas.Option.{slice_get-map}
use Rattle.lz_base.specs.Names.{is_between}
use Rattle.s_cli.specs.declared.forms.Command.{Command}
use Rattle.s_cli.specs.declared.forms.Command.TheVariants as command
use Rattle.s_cli.specs.Words.{bytes_of, command_of, is_word, lanes_by, lanes_if, limits_of, names_in, places_of}

-- how many words a form has
abbrev pub word_count : Command → ℕ
word_count command.Synth = 2
word_count command.Map = 2
word_count command.MapFile = 3
word_count command.Simv = 4
word_count command.SimvBy = 6
word_count command.Simn = 3
word_count (command.Lanes count) = 4
word_count command.Upgrade = 2

abbrev Counts : ℕ → Option Command → Type 0
Counts n c = IfSome c (λ (form : Command). word_count form ≡ n)

lanes_if_counted : (b : Bool) (count : ℕ) → Counts 4 (lanes_if b count)
lanes_if_counted true count = refl
lanes_if_counted false count = tt

lanes_counted : (last : List ℕ) → Counts 4 (lanes_by last)
unfolding lanes_by
lanes_counted [] = tt
lanes_counted (d ∷ []) = lanes_if_counted (is_between 49 57 d) (d - 48)
lanes_counted (d ∷ e ∷ []) =
    lanes_if_counted (is_between 48 57 d && is_between 48 57 e && is_between 1 64 ((d - 48) * 10 + (e - 48))) ((d - 48) * 10 + (e - 48))
lanes_counted (d ∷ e ∷ f ∷ more) = tt

one_counted : (a b c : Bool) → Counts 2 (if a then Some command.Synth else (if b then Some command.Map else (if c then Some command.Upgrade else None)))
one_counted true b c = refl
one_counted false true c = refl
one_counted false false true = refl
one_counted false false false = tt

two_counted : (a b : Bool) → Counts 3 (if a then Some command.MapFile else (if b then Some command.Simn else None))
two_counted true b = refl
two_counted false true = refl
two_counted false false = tt

three_counted : (a b : Bool) (last : List ℕ) → Counts 4 (if a then Some command.Simv else (if b then lanes_by last else None))
three_counted true b last = refl
three_counted false true last = lanes_counted last
three_counted false false last = tt

option_counted : (a b : Bool) → Counts 6 (if a then (if b then Some command.SimvBy else None) else None)
option_counted true true = refl
option_counted true false = tt
option_counted false b = tt

all_counted : (words : List (String Global)) → Counts (length words) (command_of words)
all_counted [] = tt
all_counted (a ∷ []) = tt
all_counted (a ∷ b ∷ []) = one_counted (is_word a (codes "synth")) (is_word a (codes "map")) (is_word a (codes "upgrade"))
all_counted (a ∷ b ∷ c ∷ []) = two_counted (is_word a (codes "map")) (is_word a (codes "simn"))
all_counted (a ∷ b ∷ c ∷ d ∷ []) = three_counted (is_word a (codes "simv")) (is_word a (codes "lanes")) (string_bytes d)
all_counted (a ∷ b ∷ c ∷ d ∷ e ∷ []) = tt
all_counted (a ∷ b ∷ c ∷ d ∷ e ∷ f ∷ []) = option_counted (is_word a (codes "simv")) (is_word e (codes "--schedule"))
all_counted (a ∷ b ∷ c ∷ d ∷ e ∷ f ∷ g ∷ more) = tt

counted : (words : List (String Global)) (c : Command) → command_of words ≡ Some c → word_count c ≡ length words
counted words c is = rw is at (all_counted words)

-- the word that names the file at an index
abbrev pub place_of : ℕ → ℕ
place_of zero = 1
place_of (suc zero) = 2
place_of (suc (suc zero)) = 3
place_of (suc (suc (suc i))) = 5

-- it is the one of that index, and there is such a word
abbrev Placed : Command → ℕ → Type 0
Placed c i = (slice_get (places_of c) i ≡ Some (place_of i)) × (place_of i < word_count c)

placed : (c : Command) (i : ℕ) → i < length (limits_of c) → Placed c i
placed command.Synth zero h = (refl, omega arith)
placed command.Synth (suc i) h = absurd (omega (arith, h))
placed command.Map zero h = (refl, omega arith)
placed command.Map (suc i) h = absurd (omega (arith, h))
placed command.MapFile zero h = (refl, omega arith)
placed command.MapFile (suc zero) h = (refl, omega arith)
placed command.MapFile (suc (suc i)) h = absurd (omega (arith, h))
placed command.Simv zero h = (refl, omega arith)
placed command.Simv (suc zero) h = (refl, omega arith)
placed command.Simv (suc (suc zero)) h = (refl, omega arith)
placed command.Simv (suc (suc (suc i))) h = absurd (omega (arith, h))
placed command.SimvBy zero h = (refl, omega arith)
placed command.SimvBy (suc zero) h = (refl, omega arith)
placed command.SimvBy (suc (suc zero)) h = (refl, omega arith)
placed command.SimvBy (suc (suc (suc zero))) h = (refl, omega arith)
placed command.SimvBy (suc (suc (suc (suc i)))) h = absurd (omega (arith, h))
placed command.Simn zero h = (refl, omega arith)
placed command.Simn (suc zero) h = (refl, omega arith)
placed command.Simn (suc (suc i)) h = absurd (omega (arith, h))
placed (command.Lanes count) zero h = (refl, omega arith)
placed (command.Lanes count) (suc zero) h = (refl, omega arith)
placed (command.Lanes count) (suc (suc i)) h = absurd (omega (arith, h))
placed command.Upgrade zero h = (refl, omega arith)
placed command.Upgrade (suc i) h = absurd (omega (arith, h))

pub place_near : (i place : ℕ) → i < 3 → place ≡ i + 1 → place ≡ place_of i
place_near zero place h is = is
place_near (suc zero) place h is = is
place_near (suc (suc zero)) place h is = is
place_near (suc (suc (suc i))) place h is = absurd (omega (arith, h))

pub place_far : (i place : ℕ) → 3 ≤ i → place ≡ 5 → place ≡ place_of i
place_far zero place h is = absurd (omega (arith, h))
place_far (suc zero) place h is = absurd (omega (arith, h))
place_far (suc (suc zero)) place h is = absurd (omega (arith, h))
place_far (suc (suc (suc i))) place h is = is

pub place_within : (words : List (String Global)) (c : Command) (i place : ℕ) → command_of words ≡ Some c → i < length (limits_of c) → place ≡ place_of i → place < length words
place_within words c i place is h at = omega (arith, at, (placed c i h).1, counted words c is)

bytes_at : (words : List (String Global)) (place : ℕ) (word : String Global) → place < length words → word ≡ get_or words place word → get_or (bytes_of words) place [] ≡ string_bytes word
bytes_at [] place word h is = absurd (omega (arith, h))
bytes_at (w ∷ words) zero word h is = ap (λ (s : String Global). string_bytes s) (sym is)
bytes_at (w ∷ words) (suc place) word h is = bytes_at words place word (omega (arith, h)) is

pub name_there : (words : List (String Global)) (c : Command) (i place : ℕ) (word : String Global) → command_of words ≡ Some c → i < length (limits_of c) → place ≡ place_of i
    → word ≡ get_or words place word → slice_get (names_in words) i ≡ Some (string_bytes word)
name_there words c i place word is h at word_is =
    let named : (λ (p : ℕ). get_or (bytes_of words) p []) place ≡ string_bytes word = bytes_at words place word (place_within words c i place is h at) word_is in
    rw is (slice_get-map (λ (p : ℕ). get_or (bytes_of words) p []) (places_of c) i ∙ ap (option_map (λ (p : ℕ). get_or (bytes_of words) p [])) ((placed c i h).0 ∙ ap Some (sym at)) ∙ ap Some named)
