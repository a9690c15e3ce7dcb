-- What is read of the numbers of processes in a line.
use Rattle.std.proofs.Common.{◌≡◌, ◌⊎◌, inl, inr, ℕ, ◌-◌, ◌<◌, List, [], ◌∷◌, ◌++◌, true, false, flat_map, refl, arith, ap, sym, subst, ◌∙◌, append_assoc, append-nil}
use Rattle.std.proofs.lemmas.List.Concat.{flat_map-cons}
use Rattle.lz_lines.specs.Fields.{IsNumber, number}
use Rattle.lz_lines.specs.Forms.{Takes, Breaks, Parted, IsParted, Then, Done, GoAlike}
use Rattle.lz_lines.specs.Readers.{begins_field}
use Rattle.lz_lines.proofs.Forms.{After, after_start, after_same, after_where, after_then, after_breaks, after_takes, then_broken, done_takes}
use Rattle.t_choices.specs.Repeated.{Spelled}
use Rattle.t_choices.specs.ScheduleTexts.{AreProcesses, BeforeEnd}

abbrev pub Entries : ℕ → List ℕ → List ℕ → Type 0
Entries processes = Spelled (flat_map number) (AreProcesses processes)

-- Some numbers were read, and behind them these still come.
pub record MoreEntries (processes : ℕ) (read all text : List ℕ) : Type 0 where
  pub more : List ℕ
  pub whole : all ≡ read ++ more
  pub fit : AreProcesses processes more
  pub spelled : text ≡ flat_map number more

-- nothing was read yet
pub entries_start : (processes : ℕ) (bytes : List ℕ) → After (Entries processes) BeforeEnd bytes (MoreEntries processes []) bytes
entries_start processes bytes = after_same (MoreEntries processes []) (after_start (Entries processes) BeforeEnd bytes)
    (λ all text m. (subst (AreProcesses processes) (sym m.whole) m.fit, m.spelled ∙ ap (flat_map number) (sym m.whole)))
    (λ all text is. record { more = all; whole = refl; fit = is.0; spelled = is.1 })

alike_field : (rest other : List ℕ) → GoAlike rest other → begins_field other ≡ begins_field rest
alike_field [] other alike = ap begins_field alike
alike_field (b ∷ bs) other alike = ap begins_field alike.1

-- one comes next, and then the others
abbrev pub NextEntry : ℕ → List ℕ → List ℕ → List ℕ → Type 0
NextEntry processes read = Then (IsNumber 0 (processes - 1)) (λ n. MoreEntries processes (read ++ n ∷ []))

entry_comes : (processes : ℕ) (read : List ℕ) {bytes rest : List ℕ} → (0 < processes) × (begins_field rest ≡ true) → After (Entries processes) BeforeEnd bytes (MoreEntries processes read) rest
    → After (Entries processes) BeforeEnd bytes (NextEntry processes read) rest
entry_comes processes read {rest = rest} wants h = after_where (NextEntry processes read) h to from
  where
    to : (all text : List ℕ) → NextEntry processes read all text → MoreEntries processes read all text
    to all text (n, front, back, is, m, e) = record {
      more = n ∷ m.more;
      whole = m.whole ∙ append_assoc read (n ∷ []) m.more;
      fit = (omega (arith, is.1, wants.0), m.fit);
      spelled = e ∙ ap (λ l. l ++ back) is.2 ∙ ap (λ l. number n ++ l) m.spelled ∙ sym (flat_map-cons number n m.more);
    }

    from : (all text behind other : List ℕ) → MoreEntries processes read all text → BeforeEnd all behind → GoAlike rest other → other ≡ text ++ behind → NextEntry processes read all text
    from all text behind other m ends alike e = at m.more m.whole m.fit m.spelled
      where
        at : (more : List ℕ) → all ≡ read ++ more → AreProcesses processes more → text ≡ flat_map number more → NextEntry processes read all text
        at [] whole fit spelled =
            let none : begins_field rest ≡ false = sym (alike_field rest other alike) ∙ ap begins_field (e ∙ ap (λ l. l ++ behind) spelled ∙ ends.1) in
            absurd (cc (none, wants.1))
        at (n ∷ ns) whole fit spelled = (
          n,
          number n,
          flat_map number ns,
          (omega arith, omega (arith, fit.0), refl),
          record { more = ns; whole = whole ∙ sym (append_assoc read (n ∷ []) ns); fit = fit.1; spelled = refl },
          spelled ∙ flat_map-cons number n ns,
        )

-- a number stands in front of a number or of the end of the line
entry_parted : (processes : ℕ) (read all text behind : List ℕ) → MoreEntries processes read all text → BeforeEnd all behind → IsParted (text ++ behind)
entry_parted processes read all text behind m ends = at m.more m.spelled
  where
    at : (more : List ℕ) → text ≡ flat_map number more → IsParted (text ++ behind)
    at [] e = inr (ends.0, ap (λ l. l ++ behind) e ∙ ends.1)
    at (n ∷ ns) e = inl (_, ap (λ l. l ++ behind) e)

-- one more was read
pub entry_read : (processes : ℕ) (read : List ℕ) (n : ℕ) {bytes rest left : List ℕ} → (0 < processes) × (begins_field rest ≡ true) → After (Entries processes) BeforeEnd bytes (MoreEntries processes read) rest
    → Takes (IsNumber 0 (processes - 1)) Parted rest n left → After (Entries processes) BeforeEnd bytes (MoreEntries processes (read ++ n ∷ [])) left
entry_read processes read n wants h t = after_then (IsNumber 0 (processes - 1)) Parted (λ n. MoreEntries processes (read ++ n ∷ [])) (entry_comes processes read wants h) (λ n. entry_parted processes (read ++ n ∷ [])) t

-- the next is none
pub entry_broken : (processes : ℕ) (read : List ℕ) {bytes rest : List ℕ} {k : ℕ} → (0 < processes) × (begins_field rest ≡ true) → After (Entries processes) BeforeEnd bytes (MoreEntries processes read) rest
    → Breaks (IsNumber 0 (processes - 1)) Parted rest k → Breaks (Entries processes) BeforeEnd bytes k
entry_broken processes read wants h b =
    after_breaks (entry_comes processes read wants h)
    (then_broken (IsNumber 0 (processes - 1)) Parted (λ n. MoreEntries processes (read ++ n ∷ [])) BeforeEnd
    (λ n text is. (read ++ n ∷ [], [], record { more = []; whole = sym (append-nil (read ++ n ∷ [])); fit = tt; spelled = refl })) (λ n. entry_parted processes (read ++ n ∷ [])) b)

-- no more can come
pub entries_end : (processes : ℕ) (read : List ℕ) {bytes rest : List ℕ} → (processes ≡ 0) ⊎ (begins_field rest ≡ false) → After (Entries processes) BeforeEnd bytes (MoreEntries processes read) rest → Takes (Entries processes) BeforeEnd bytes read rest
entries_end processes read {rest = rest} wants h = after_takes (after_where (Done read) h to from) (done_takes BeforeEnd read rest)
  where
    to : (all text : List ℕ) → Done read all text → MoreEntries processes read all text
    to all text is = record { more = []; whole = is.0 ∙ sym (append-nil read); fit = tt; spelled = is.1 }

    from : (all text behind other : List ℕ) → MoreEntries processes read all text → BeforeEnd all behind → GoAlike rest other → other ≡ text ++ behind → Done read all text
    from all text behind other m ends alike e = at m.more m.whole m.fit m.spelled
      where
        none : (n : ℕ) (ns : List ℕ) → n < processes → text ≡ flat_map number (n ∷ ns) → (processes ≡ 0) ⊎ (begins_field rest ≡ false) → ⊥
        none n ns less spelled (inl zero_) = omega (arith, less, zero_)
        none n ns less spelled (inr other_) =
            let blank : begins_field rest ≡ true = sym (alike_field rest other alike) ∙ ap begins_field (e ∙ ap (λ l. l ++ behind) (spelled ∙ flat_map-cons number n ns)) in
            cc (blank, other_)

        at : (more : List ℕ) → all ≡ read ++ more → AreProcesses processes more → text ≡ flat_map number more → Done read all text
        at [] whole fit spelled = (whole ∙ append-nil read, spelled)
        at (n ∷ ns) whole fit spelled = absurd (none n ns fit.0 spelled wants)
