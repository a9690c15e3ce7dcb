-- The turns of parts side by side.
use Rattle.std.proofs.Common.{◌≡◌, ◌≤◌, ◌<◌, ◌+◌, ap, sym, subst, ◌∙◌, refl, arith, ℕ, ◌++◌, ◌-◌, ◌/◌, ◌%◌, append_assoc, length, get_or, drop, List, ◌∷◌, Bool, true, ◌&&◌}
use Rattle.std.specs.Prelude.{◌^◌, nat_le}
use Rattle.std.proofs.lemmas.List.{drop_all, append-nil}
use Rattle.std.proofs.lemmas.List.Folds.{list_all-append}
use Rattle.std.proofs.lemmas.Nat.{shr_below, mod_below, pow_pos}
use Rattle.v_meaning.specs.Views.{View, Write}
use Rattle.v_meaning.specs.Targets.{parts_width, parts_writes}
use Rattle.v_meaning.specs.declared.names.Kind.{Kind}
use Rattle.v_meaning.specs.declared.names.Kind.TheVariants as k
use Rattle.v_meaning.specs.declared.names.Entry.{Entry}
use Rattle.v_core.specs.declared.typed.Typed.{Typed}
use Rattle.v_core.specs.declared.statement.TypedTarget.{TypedTarget}
use Rattle.v_core.specs.declared.statement.TypedTarget.TheVariants as t
use Rattle.v_core.specs.Values.{entry_at}
use Rattle.v_core.specs.Formed.{is_width, selected_width}
use Rattle.v_core.specs.Statements.{target_in}
use Rattle.v_values.specs.Kept.{is_kept_target, senses_in}
use Rattle.v_values.specs.Moments.{Shape}
use Rattle.v_values.specs.Writes.{all_fit, write_fits}
use Rattle.v_values.proofs.Tests.{first_of}
use Rattle.v_values.proofs.Chains.{next_is}
use Rattle.v_values.proofs.TargetLaws.{part_keeps, select_keeps}

pub word_of_part : (x : TypedTarget) (name at low w : ℕ) (names : List Entry) (sites : List ℕ) → x ≡ t.Part name at low w → is_kept_target x names sites ≡ true → is_width w ≡ true
word_of_part x name at low w names sites is h = first_of (is_width w) (nat_le (low + w) (entry_at names name).width) (part_keeps x name at low w names sites is h)

selected_word : (kind : Kind) (w : ℕ) → is_width w ≡ true → is_width (selected_width kind w) ≡ true
selected_word (k.Parameter value) w h = refl
selected_word k.Clock w h = refl
selected_word (k.Input n) w h = refl
selected_word (k.Net n) w h = refl
selected_word (k.Combinational n) w h = refl
selected_word (k.Variable n) w h = refl
selected_word (k.Memory n low count) w h = h

pub word_of_select : (x : TypedTarget) (name at bits w : ℕ) (s : Bool) (index : Typed) (names : List Entry) (sites : List ℕ) → x ≡ t.Select name at bits w s index →
    is_kept_target x names sites ≡ true → is_width bits ≡ true
word_of_select x name at bits w s index names sites is h =
    let all = select_keeps x name at bits w s index names sites is h in
    subst (λ (n : ℕ). is_width n ≡ true) (sym all.bits_are) (selected_word (entry_at names name).kind (entry_at names name).width all.word)

-- so many bits, and those of the parts that are left, are all
pub width_next : (names : List Entry) (parts : List TypedTarget) (i : ℕ) (x : TypedTarget) (width bits : ℕ) → i < length parts → x ≡ get_or parts i x →
    bits ≡ (target_in x names).width → width + parts_width (senses_in names (drop i parts)) ≡ parts_width (senses_in names parts) →
    (width + bits) + parts_width (senses_in names (drop (i + 1) parts)) ≡ parts_width (senses_in names parts)
width_next names parts i x width bits h is p before =
    let e : parts_width (senses_in names (drop i parts)) ≡ (target_in x names).width + parts_width (senses_in names (drop (i + 1) parts)) =
    ap (λ (ps : List TypedTarget). parts_width (senses_in names ps)) (next_is parts i x h is) in
    omega (arith, e, p, before)

pub width_last : (names : List Entry) (parts : List TypedTarget) (i width : ℕ) → length parts ≤ i →
    width + parts_width (senses_in names (drop i parts)) ≡ parts_width (senses_in names parts) → width ≡ parts_width (senses_in names parts)
width_last names parts i width h before =
    omega (arith, before, ap (λ (ps : List TypedTarget). parts_width (senses_in names ps)) (drop_all i parts h))

-- ---- the writes of parts

-- what is left of the parts writes what all of them write, and its writes fit only where all do
pub record Behind (names : List Entry) (s : Shape) (v : View) (all left : List TypedTarget) (whole queue : List Write) (bits behind value : ℕ) : Type 0 where
  pub behind_is : behind ≡ parts_width (senses_in names left)
  pub below : value < 2 ^ behind
  pub narrow : behind ≤ 128
  pub writes : queue ++ parts_writes (senses_in names left) v value ≡ whole
  pub fit : all_fit s (parts_writes (senses_in names left) v value) ≡ true → all_fit s (parts_writes (senses_in names all) v bits) ≡ true

parts_are : (names : List Entry) (v : View) (x : TypedTarget) (left more : List TypedTarget) (value after cut : ℕ) → left ≡ x ∷ more →
    after ≡ parts_width (senses_in names more) → cut ≡ value % 2 ^ after →
    (target_in x names).writes v (value / 2 ^ after) ++ parts_writes (senses_in names more) v cut ≡ parts_writes (senses_in names left) v value
parts_are names v x left more value after cut is e q =
    (λ i. (target_in x names).writes v (value / 2 ^ e i) ++ parts_writes (senses_in names more) v ((q ∙ ap (λ (k : ℕ). value % 2 ^ k) e) i))
    ∙ sym (ap (λ (ps : List TypedTarget). parts_writes (senses_in names ps) v value) is)

pub bits_left : (names : List Entry) (x : TypedTarget) (left more : List TypedTarget) (behind bits : ℕ) → left ≡ x ∷ more → behind ≡ parts_width (senses_in names left) →
    bits ≡ (target_in x names).width → behind ≡ bits + parts_width (senses_in names more)
bits_left names x left more behind bits is p q =
    p ∙ ap (λ (ps : List TypedTarget). parts_width (senses_in names ps)) is ∙ ap (λ (n : ℕ). n + parts_width (senses_in names more)) (sym q)

-- the value of the leftmost part has as many bits as the part
pub part_bits : (names : List Entry) (s : Shape) (v : View) (x : TypedTarget) (all left more : List TypedTarget) (whole queue : List Write) (bits behind value w after shifted : ℕ) →
    left ≡ x ∷ more → w ≡ (target_in x names).width → after ≡ behind - w → shifted ≡ value / 2 ^ after → Behind names s v all left whole queue bits behind value →
    shifted < 2 ^ (target_in x names).width
part_bits names s v x all left more whole queue bits behind value w after shifted is q a e b =
    let k : behind ≡ w + after = omega (arith, a, bits_left names x left more behind w is b.behind_is q) in
    subst (λ (n : ℕ). shifted < 2 ^ n) q (subst (λ (n : ℕ). n < 2 ^ w) (sym e) (shr_below value w after (subst (λ (n : ℕ). value < 2 ^ n) k b.below)))

pub behind_next : (names : List Entry) (s : Shape) (v : View) (x : TypedTarget) (all left more : List TypedTarget) (whole queue next : List Write)
    (bits behind value w after shifted cut : ℕ) → left ≡ x ∷ more → w ≡ (target_in x names).width → after ≡ behind - w → shifted ≡ value / 2 ^ after → cut ≡ value % 2 ^ after →
    next ≡ queue ++ (target_in x names).writes v shifted → all_fit s ((target_in x names).writes v shifted) ≡ true →
    Behind names s v all left whole queue bits behind value → Behind names s v all more whole next bits after cut
behind_next names s v x all left more whole queue next bits behind value w after shifted cut is q a e c n f b =
    let k : after ≡ parts_width (senses_in names more) = omega (arith, a, bits_left names x left more behind w is b.behind_is q) in
    let same : (target_in x names).writes v shifted ++ parts_writes (senses_in names more) v cut ≡ parts_writes (senses_in names left) v value =
    ap (λ (m : ℕ). (target_in x names).writes v m ++ parts_writes (senses_in names more) v cut) e ∙ parts_are names v x left more value after cut is k c in
    record {
      behind_is = k;
      below = subst (λ (m : ℕ). m < 2 ^ after) (sym c) (mod_below value (2 ^ after) (pow_pos after));
      narrow = omega (arith, a, b.narrow);
      writes = ap (λ (ws : List Write). ws ++ parts_writes (senses_in names more) v cut) n
          ∙ append_assoc queue ((target_in x names).writes v shifted) (parts_writes (senses_in names more) v cut)
          ∙ ap (λ (ws : List Write). queue ++ ws) same ∙ b.writes;
      fit = λ h. b.fit
          (sym (ap (all_fit s) same) ∙ list_all-append (write_fits s) ((target_in x names).writes v shifted) (parts_writes (senses_in names more) v cut) ∙ (λ i. f i && h i));
    }

pub behind_last : (names : List Entry) (s : Shape) (v : View) (parts : List TypedTarget) (i : ℕ) (whole queue : List Write) (bits behind value : ℕ) → length parts ≤ i →
    Behind names s v parts (drop i parts) whole queue bits behind value → (queue ≡ whole) × (all_fit s (parts_writes (senses_in names parts) v bits) ≡ true)
behind_last names s v parts i whole queue bits behind value h b =
    let e = drop_all i parts h in (
      sym (append-nil queue) ∙ sym (ap (λ (ps : List TypedTarget). queue ++ parts_writes (senses_in names ps) v value) e) ∙ b.writes,
      b.fit (ap (λ (ps : List TypedTarget). all_fit s (parts_writes (senses_in names ps) v value)) e),
    )
