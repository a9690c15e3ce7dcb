-- What the words of the command line ask for.
use Rattle.std.specs.Prelude.{ℕ, List, [], ◌∷◌, ◌+◌, ◌-◌, ◌*◌, ◌≤◌, ⊤, length, map, take, get_or, codes, Option, None, Some, String, string_bytes, Bool, ◌&&◌, ◌==◌, if◌then◌else◌}
use lib.Pointwise.{pointwise}
use Rattle.std.specs.declared.alloc.Global.{Global}
use Rattle.lz_base.specs.Limits.{source_limit, text_limit}
use Rattle.lz_base.specs.Names.{is_between}
use Rattle.s_cli.specs.declared.forms.Command.{Command}
use Rattle.s_cli.specs.declared.forms.Command.TheVariants as command

-- the bytes of the words
abbrev pub bytes_of : List (String Global) → List (List ℕ)
bytes_of words = map (λ word. string_bytes word) words

abbrev pub lanes_if : Bool → ℕ → Option Command
lanes_if fits count = if fits then Some (command.Lanes count) else None

-- one or two decimal digits, from 1 to 64
unfoldable pub lanes_by : List ℕ → Option Command
lanes_by [] = None
lanes_by (d ∷ []) = lanes_if (is_between 49 57 d) (d - 48)
lanes_by (d ∷ e ∷ []) =
    lanes_if (is_between 48 57 d && is_between 48 57 e && is_between 1 64 ((d - 48) * 10 + (e - 48))) ((d - 48) * 10 + (e - 48))
lanes_by (d ∷ e ∷ f ∷ more) = None

abbrev pub is_word : String Global → List ℕ → Bool
is_word word bytes = pointwise ◌==◌ (string_bytes word) bytes

-- the form that a word stands for with so many words behind it

abbrev pub with_one : String Global → Option Command
with_one verb =
    if is_word verb (codes "synth") then Some command.Synth
    else (if is_word verb (codes "map") then Some command.Map else (if is_word verb (codes "upgrade") then Some command.Upgrade else None))

abbrev pub with_two : String Global → Option Command
with_two verb = if is_word verb (codes "map") then Some command.MapFile else (if is_word verb (codes "simn") then Some command.Simn else None)

abbrev pub with_three : String Global → String Global → Option Command
with_three verb last = if is_word verb (codes "simv") then Some command.Simv else (if is_word verb (codes "lanes") then lanes_by (string_bytes last) else None)

abbrev pub with_option : String Global → String Global → Option Command
with_option verb option = if is_word verb (codes "simv") then (if is_word option (codes "--schedule") then Some command.SimvBy else None) else None

-- the form of words; the first one and `--schedule` are compared byte by byte, and names of files are any words
abbrev pub command_of : List (String Global) → Option Command
command_of [] = None
command_of (a ∷ []) = None
command_of (a ∷ b ∷ []) = with_one a
command_of (a ∷ b ∷ c ∷ []) = with_two a
command_of (a ∷ b ∷ c ∷ d ∷ []) = with_three a d
command_of (a ∷ b ∷ c ∷ d ∷ e ∷ []) = None
command_of (a ∷ b ∷ c ∷ d ∷ e ∷ f ∷ []) = with_option a e
command_of (a ∷ b ∷ c ∷ d ∷ e ∷ f ∷ g ∷ more) = None

-- how many bytes each file of a form may have, in the order of the words
abbrev pub limits_of : Command → List ℕ
limits_of command.Synth = source_limit ∷ []
limits_of command.Map = text_limit ∷ []
limits_of command.MapFile = text_limit ∷ text_limit ∷ []
limits_of command.Simv = source_limit ∷ text_limit ∷ text_limit ∷ []
limits_of command.SimvBy = source_limit ∷ text_limit ∷ text_limit ∷ text_limit ∷ []
limits_of command.Simn = text_limit ∷ text_limit ∷ []
limits_of (command.Lanes count) = text_limit ∷ text_limit ∷ []
limits_of command.Upgrade = text_limit ∷ []

-- which of the words, from 0, name its files: the first three behind the verb, and the one behind the option
abbrev pub places_of : Command → List ℕ
places_of c = take (length (limits_of c)) (1 ∷ 2 ∷ 3 ∷ 5 ∷ [])

-- the names of the files
abbrev pub names_for : Option Command → List (String Global) → List (List ℕ)
names_for None words = []
names_for (Some c) words = map (λ place. get_or (bytes_of words) place []) (places_of c)

abbrev pub names_in : List (String Global) → List (List ℕ)
names_in words = names_for (command_of words) words

-- the count of lanes is from 1 to 64
abbrev pub IsForm : Command → Type 0
IsForm command.Synth = ⊤
IsForm command.Map = ⊤
IsForm command.MapFile = ⊤
IsForm command.Simv = ⊤
IsForm command.SimvBy = ⊤
IsForm command.Simn = ⊤
IsForm (command.Lanes count) = (1 ≤ count) × (count ≤ 64)
IsForm command.Upgrade = ⊤
