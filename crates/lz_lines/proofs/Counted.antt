-- What is read of several numbers.
use Rattle.std.proofs.Common.{◌≡◌, ◌⊎◌, inl, inr, ℕ, zero, suc, ◌+◌, ◌-◌, ◌≤◌, ◌<◌, List, [], ◌∷◌, ◌++◌, Bool, true, false, ◌&&◌, ◌||◌, length, flat_map, refl, arith, ap, sym, subst, ◌∙◌, append_assoc, append-nil}
use Rattle.std.specs.Prelude.{nat_lt}
use Rattle.std.proofs.lemmas.List.{length-append}
use Rattle.std.proofs.lemmas.List.Concat.{flat_map-cons, flat_map-append}
use Rattle.std.proofs.lemmas.Bool.Decides.{nat_tests}
use Rattle.lz_lines.specs.Fields.{AllUpTo, AreNumbers, IsNumber, number}
use Rattle.lz_lines.specs.Forms.{Takes, Breaks, EndNumbers, IsParted, IsLineEnd, Parted, Then, Done, GoAlike}
use Rattle.lz_lines.specs.Readers.{begins_field, wants_number}
use Rattle.lz_lines.proofs.Forms.{After, after_start, after_same, after_where, after_then, after_breaks, after_takes, then_broken, done_takes}

-- Some numbers were read, and behind them these still come.
pub record AreMore (low high most : ℕ) (read ns text : List ℕ) : Type 0 where
  pub more : List ℕ
  pub whole : ns ≡ read ++ more
  pub many : low ≤ length ns
  pub few : length ns ≤ high
  pub small : AllUpTo most more
  pub spelled : text ≡ flat_map number more

-- nothing was read yet
pub more_start : (low high most : ℕ) (bytes : List ℕ) → After (AreNumbers low high most) (EndNumbers high) bytes (AreMore low high most []) bytes
more_start low high most bytes = after_same (AreMore low high most []) (after_start (AreNumbers low high most) (EndNumbers high) bytes) to from
  where
    to : (ns text : List ℕ) → AreMore low high most [] ns text → AreNumbers low high most ns text
    to ns text m = (m.many, m.few, subst (AllUpTo most) (sym m.whole) m.small, m.spelled ∙ ap (flat_map number) (sym m.whole))

    from : (ns text : List ℕ) → AreNumbers low high most ns text → AreMore low high most [] ns text
    from ns text is = record { more = ns; whole = refl; many = is.0; few = is.1; small = is.2; spelled = is.3 }

wants_split : (count low high : ℕ) (b : Bool) → (nat_lt count low || (nat_lt count high && b)) ≡ true → (count < low) ⊎ ((count < high) × (b ≡ true))
wants_split count low high b e = grind (arith, nat_tests)

wants_field : (count low high : ℕ) (b : Bool) → count < high → b ≡ true → (nat_lt count low || (nat_lt count high && b)) ≡ true
wants_field count low high b h e = grind (arith, nat_tests)

alike_field : (rest other : List ℕ) → GoAlike rest other → begins_field other ≡ begins_field rest
alike_field [] other alike = ap begins_field alike
alike_field (b ∷ bs) other alike = ap begins_field alike.1

line_end_field : (bytes : List ℕ) → IsLineEnd bytes → begins_field bytes ≡ false
line_end_field bytes is = ap begins_field is.1

lengths : (read more ns : List ℕ) → ns ≡ read ++ more → length ns ≡ length read + length more
lengths read more ns e = ap (λ (l : List ℕ). length l) e ∙ length-append read more

-- one more is wanted, so a number comes first
pub more_comes : (low high most : ℕ) (read : List ℕ) {bytes rest : List ℕ} → wants_number (length read) low high rest ≡ true → After (AreNumbers low high most) (EndNumbers high) bytes (AreMore low high most read) rest
    → After (AreNumbers low high most) (EndNumbers high) bytes (Then (IsNumber 0 most) (λ n. AreMore low high most (read ++ n ∷ []))) rest
more_comes low high most read {rest = rest} wants h = after_where (Then (IsNumber 0 most) (λ n. AreMore low high most (read ++ n ∷ []))) h to from
  where
    to : (ns text : List ℕ) → Then (IsNumber 0 most) (λ n. AreMore low high most (read ++ n ∷ [])) ns text → AreMore low high most read ns text
    to ns text (n, front, back, is, m, e) = record {
      more = n ∷ m.more;
      whole = m.whole ∙ append_assoc read (n ∷ []) m.more;
      many = m.many;
      few = m.few;
      small = (is.1, m.small);
      spelled = e ∙ ap (λ l. l ++ back) is.2 ∙ ap (λ l. number n ++ l) m.spelled ∙ sym (flat_map-cons number n m.more);
    }

    from : (ns text behind other : List ℕ) → AreMore low high most read ns text → EndNumbers high ns behind → GoAlike rest other → other ≡ text ++ behind
        → Then (IsNumber 0 most) (λ n. AreMore low high most (read ++ n ∷ [])) ns text
    from ns text behind other m ends alike e = at m.more m.whole m.small m.spelled
      where
        at : (more : List ℕ) → ns ≡ read ++ more → AllUpTo most more → text ≡ flat_map number more → Then (IsNumber 0 most) (λ n. AreMore low high most (read ++ n ∷ [])) ns text
        at [] whole small spelled = absurd (none (wants_split (length read) low high (begins_field rest) wants))
          where
            none : (length read < low) ⊎ ((length read < high) × (begins_field rest ≡ true)) → ⊥
            none (inl less) = omega (arith, less, m.many, lengths read [] ns whole)
            none (inr room) =
                let count : length ns ≡ length read + 0 = lengths read [] ns whole in
                let here : other ≡ behind = e ∙ ap (λ l. l ++ behind) spelled in
                let no : begins_field rest ≡ false = sym (alike_field rest other alike) ∙ ap begins_field here ∙ line_end_field behind (ends.1 (omega (arith, room.0, count))) in
                cc (no, room.1)
        at (n ∷ more) whole small spelled = (
          n,
          number n,
          flat_map number more,
          (omega arith, small.0, refl),
          record { more = more; whole = whole ∙ sym (append_assoc read (n ∷ []) more); many = m.many; few = m.few; small = small.1; spelled = refl },
          spelled ∙ flat_map-cons number n more,
        )

-- a number stands in front of a number, or of what stands behind them all
pub more_parted : (low high most : ℕ) (read ns text behind : List ℕ) → AreMore low high most read ns text → EndNumbers high ns behind → IsParted (text ++ behind)
more_parted low high most read ns text behind m ends = at m.more m.spelled
  where
    at : (more : List ℕ) → text ≡ flat_map number more → IsParted (text ++ behind)
    at [] e = subst (λ l. IsParted (l ++ behind)) (sym e) ends.0
    at (n ∷ ns) e = inl (_, ap (λ l. l ++ behind) e)

-- a number more was read
pub more_read : (low high most : ℕ) (read : List ℕ) (n : ℕ) {bytes rest left : List ℕ} → wants_number (length read) low high rest ≡ true → After (AreNumbers low high most) (EndNumbers high) bytes (AreMore low high most read) rest
    → Takes (IsNumber 0 most) Parted rest n left → After (AreNumbers low high most) (EndNumbers high) bytes (AreMore low high most (read ++ n ∷ [])) left
more_read low high most read n wants h t =
    after_then (IsNumber 0 most) Parted (λ n. AreMore low high most (read ++ n ∷ [])) (more_comes low high most read wants h) (λ n. more_parted low high most (read ++ n ∷ [])) t

-- so many numbers that are small
zeros : ℕ → List ℕ
zeros zero = []
zeros (suc k) = 0 ∷ zeros k

zeros_small : (most k : ℕ) → AllUpTo most (zeros k)
unfolding zeros
zeros_small most zero = tt
zeros_small most (suc k) = (omega arith, zeros_small most k)

zeros_length : (k : ℕ) → length (zeros k) ≡ k
unfolding zeros
zeros_length zero = refl
zeros_length (suc k) = omega (arith, zeros_length k)

-- a number that has to come, or does, is none
pub more_broken : (low high most : ℕ) (read : List ℕ) {bytes rest : List ℕ} {left : ℕ} → low ≤ high → length read < high → wants_number (length read) low high rest ≡ true
    → After (AreNumbers low high most) (EndNumbers high) bytes (AreMore low high most read) rest → Breaks (IsNumber 0 most) Parted rest left → Breaks (AreNumbers low high most) (EndNumbers high) bytes left
more_broken low high most read order room wants h b =
    after_breaks (more_comes low high most read wants h)
    (then_broken (IsNumber 0 most) Parted (λ n. AreMore low high most (read ++ n ∷ [])) (EndNumbers high) some (λ n. more_parted low high most (read ++ n ∷ [])) b)
  where
    some : (n : ℕ) (text : List ℕ) → IsNumber 0 most n text → (ns : List ℕ) × (more : List ℕ) × AreMore low high most (read ++ n ∷ []) ns more
    some n text is =
        let rest = zeros (low - (length read + 1)) in
        let count : length ((read ++ n ∷ []) ++ rest) ≡ length read + 1 + (low - (length read + 1)) =
        length-append (read ++ n ∷ []) rest ∙ ap (λ k. k + length rest) (length-append read (n ∷ [])) ∙ ap (λ k. length read + 1 + k) (zeros_length (low - (length read + 1))) in (
          (read ++ n ∷ []) ++ rest,
          flat_map number rest,
          record { more = rest; whole = refl; many = omega (arith, count); few = omega (arith, count); small = zeros_small most (low - (length read + 1)); spelled = refl },
        )

-- no more are wanted
pub more_end : (low high most : ℕ) (read : List ℕ) {bytes rest : List ℕ} → low ≤ length read → length read ≤ high → wants_number (length read) low high rest ≡ false
    → After (AreNumbers low high most) (EndNumbers high) bytes (AreMore low high most read) rest → Takes (AreNumbers low high most) (EndNumbers high) bytes read rest
more_end low high most read {rest = rest} many few wants h = after_takes (after_where (Done read) h to from) (done_takes (EndNumbers high) read rest)
  where
    to : (ns text : List ℕ) → Done read ns text → AreMore low high most read ns text
    to ns text is = record {
      more = [];
      whole = is.0 ∙ sym (append-nil read);
      many = subst (λ (l : List ℕ). low ≤ length l) (sym is.0) many;
      few = subst (λ (l : List ℕ). length l ≤ high) (sym is.0) few;
      small = tt;
      spelled = is.1;
    }

    from : (ns text behind other : List ℕ) → AreMore low high most read ns text → EndNumbers high ns behind → GoAlike rest other → other ≡ text ++ behind → Done read ns text
    from ns text behind other m ends alike e = at m.more m.whole m.spelled
      where
        at : (more : List ℕ) → ns ≡ read ++ more → text ≡ flat_map number more → Done read ns text
        at [] whole spelled = (whole ∙ append-nil read, spelled)
        at (n ∷ more) whole spelled =
            let count : length ns ≡ length read + length (n ∷ more) = lengths read (n ∷ more) ns whole in
            let room : length read < high = omega (arith, m.few, count) in
            let blank : begins_field rest ≡ true = sym (alike_field rest other alike) ∙ ap begins_field (e ∙ ap (λ l. l ++ behind) (spelled ∙ flat_map-cons number n more)) in
            let yes = wants_field (length read) low high (begins_field rest) room blank in
            cc (yes, wants)

pub wants_room : (count low high : ℕ) (bytes : List ℕ) → wants_number count low high bytes ≡ true → low ≤ high → count < high
wants_room count low high bytes e h = at (wants_split count low high (begins_field bytes) e)
  where
    at : (count < low) ⊎ ((count < high) × (begins_field bytes ≡ true)) → count < high
    at (inl less) = omega arith
    at (inr room) = room.0

pub wants_many : (count low high : ℕ) (b : Bool) → (nat_lt count low || (nat_lt count high && b)) ≡ false → low ≤ count
wants_many count low high b e = grind (arith, nat_tests)

-- one number more
pub small_more : (most : ℕ) (ns : List ℕ) (n : ℕ) → AllUpTo most ns → n ≤ most → AllUpTo most (ns ++ n ∷ [])
small_more most [] n h one = (one, tt)
small_more most (m ∷ ms) n h one = (h.0, small_more most ms n h.1 one)

pub numbers_more : (ns : List ℕ) (n : ℕ) (bytes left after : List ℕ) → bytes ≡ flat_map number ns ++ left → left ≡ number n ++ after → bytes ≡ flat_map number (ns ++ n ∷ []) ++ after
numbers_more ns n bytes left after e f =
    e ∙ ap (λ l. flat_map number ns ++ l) f ∙ sym (append_assoc (flat_map number ns) (number n) after)
    ∙ ap (λ l. l ++ after) (sym (flat_map-append number ns (n ∷ []) ∙ ap (λ l. flat_map number ns ++ l) (flat_map-cons number n [] ∙ append-nil (number n))))
