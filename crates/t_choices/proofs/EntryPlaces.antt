-- Where the entries of a schedule stand.
use Rattle.std.proofs.Common.{◌≡◌, ℕ, zero, suc, ◌+◌, ◌<◌, ◌≤◌, List, [], ◌∷◌, ◌++◌, length, take, get_or, flat_map, refl, arith, ap, sym, ◌∙◌}
use Rattle.std.proofs.lemmas.List.{length-append}
use Rattle.lz_lines.specs.Fields.{number}
use Rattle.lz_lines.proofs.Listed.{flat_length}
use Rattle.t_choices.specs.Places.{before_entry, blank_of, cycle_places, entry_places, number_places, place_of}
use Rattle.t_choices.specs.Repeated.{last_line}
use Rattle.t_choices.specs.ScheduleTexts.{cycle_line, first_line, schedule_text}

-- one entry more
pub number_places_more : (start : ℕ) (ns : List ℕ) (n : ℕ) → number_places start (ns ++ n ∷ []) ≡ number_places start ns ++ (start + length (flat_map number ns) + 1) ∷ []
number_places_more start [] n = ap (λ k. (k + 1) ∷ []) (omega arith)
number_places_more start (m ∷ ms) n =
    let e : start + length (number m) + length (flat_map number ms) ≡ start + length (flat_map number (m ∷ ms)) = omega (arith, flat_length number m ms) in
    ap (λ l. (start + 1) ∷ l) (number_places_more (start + length (number m)) ms n ∙ ap (λ k. number_places (start + length (number m)) ms ++ (k + 1) ∷ []) e)

-- one cycle more
pub cycle_places_more : (start : ℕ) (cycles : List (List ℕ)) (entries : List ℕ) → cycle_places start (cycles ++ entries ∷ []) ≡ cycle_places start cycles ++ entry_places (start + length (flat_map cycle_line cycles) + 5) entries ∷ []
cycle_places_more start [] entries = ap (λ k. entry_places (k + 5) entries ∷ []) (omega arith)
cycle_places_more start (c ∷ cs) entries =
    let e : start + length (cycle_line c) + length (flat_map cycle_line cs) ≡ start + length (flat_map cycle_line (c ∷ cs)) = omega (arith, flat_length cycle_line c cs) in
    ap (λ l. entry_places (start + 5) c ∷ l) (cycle_places_more (start + length (cycle_line c)) cs entries ∙ ap (λ k. cycle_places (start + length (cycle_line c)) cs ++ entry_places (k + 5) entries ∷ []) e)

-- how many places there are
pub cycle_places_length : (start : ℕ) (cycles : List (List ℕ)) → length (cycle_places start cycles) ≡ length cycles
cycle_places_length start [] = refl
cycle_places_length start (c ∷ cs) = ap suc (cycle_places_length (start + length (cycle_line c)) cs)

number_places_length : (start : ℕ) (ns : List ℕ) → length (number_places start ns) ≡ length ns
number_places_length start [] = refl
number_places_length start (n ∷ ns) = ap suc (number_places_length (start + length (number n)) ns)

pub entry_places_length : (start : ℕ) (ns : List ℕ) → length (entry_places start ns) ≡ length ns + 1
entry_places_length start ns = length-append (number_places start ns) ((start + length (flat_map number ns)) ∷ []) ∙ ap (λ k. k + 1) (number_places_length start ns)

-- the places of a cycle
pub cycle_places_at : (start : ℕ) (cycles : List (List ℕ)) (c : ℕ) → c < length cycles → get_or (cycle_places start cycles) c [] ≡ entry_places (start + length (flat_map cycle_line (take c cycles)) + 5) (get_or cycles c [])
cycle_places_at start [] c within = absurd (omega (arith, within))
cycle_places_at start (e ∷ es) zero within = ap (λ k. entry_places (k + 5) e) (omega arith)
cycle_places_at start (e ∷ es) (suc c) within =
    let k : start + length (cycle_line e) + length (flat_map cycle_line (take c es)) ≡ start + length (flat_map cycle_line (e ∷ take c es)) = omega (arith, flat_length cycle_line e (take c es)) in
    cycle_places_at (start + length (cycle_line e)) es c (omega (arith, within)) ∙ ap (λ k. entry_places (k + 5) (get_or es c [])) k

-- the place of an entry in its line
pub entry_places_at : (start : ℕ) (ns : List ℕ) (i : ℕ) → i ≤ length ns → get_or (entry_places start ns) i 0 ≡ start + length (flat_map number (take i ns)) + length (blank_of ns i)
entry_places_at start [] zero within = omega arith
entry_places_at start [] (suc i) within = absurd (omega (arith, within))
entry_places_at start (n ∷ ns) zero within = omega arith
entry_places_at start (n ∷ ns) (suc i) within =
    let e : start + length (flat_map number (n ∷ ns)) ≡ start + length (number n) + length (flat_map number ns) = omega (arith, flat_length number n ns) in
    let k : start + length (number n) + length (flat_map number (take i ns)) ≡ start + length (flat_map number (n ∷ take i ns)) = omega (arith, flat_length number n (take i ns)) in
    ap (λ x. get_or (number_places (start + length (number n)) ns ++ x ∷ []) i 0) e ∙ entry_places_at (start + length (number n)) ns i (omega (arith, within)) ∙ ap (λ x. x + length (blank_of ns i)) k

-- the length of what the text has before an entry
before_length : (ns : List ℕ) (i : ℕ) → length (before_entry ns i) ≡ 5 + length (flat_map number (take i ns)) + length (blank_of ns i)
before_length ns i = let e = length-append (flat_map number (take i ns)) (blank_of ns i) in omega (arith, e)

place_sum : (cycles : List (List ℕ)) (c i : ℕ) → place_of cycles c i ≡ 11 + length (flat_map cycle_line (take c cycles)) + 5 + length (flat_map number (take i (get_or cycles c []))) + length (blank_of (get_or cycles c []) i)
place_sum cycles c i =
    let lines = flat_map cycle_line (take c cycles) in
    let e = length-append (first_line ++ lines) (before_entry (get_or cycles c []) i) in
    let f = length-append first_line lines in
    omega (arith, e, f, before_length (get_or cycles c []) i)

-- the places that are kept are those of what is seen
pub rows_are : {rows kept : List (List ℕ)} (own : List (List ℕ)) {seen : List (List ℕ)} → rows ≡ kept → kept ≡ cycle_places 11 own → own ≡ seen → rows ≡ cycle_places 11 seen
rows_are own is keeps same = is ∙ keeps ∙ ap (cycle_places 11) same

pub row_there : {rows : List (List ℕ)} (cycles : List (List ℕ)) {c : ℕ} → rows ≡ cycle_places 11 cycles → c < length cycles → c < length rows
row_there cycles is within = omega (arith, within, ap (λ (l : List (List ℕ)). length l) is, cycle_places_length 11 cycles)

row_is : (rows cycles : List (List ℕ)) (c : ℕ) → rows ≡ cycle_places 11 cycles → c < length cycles → get_or rows c [] ≡ entry_places (11 + length (flat_map cycle_line (take c cycles)) + 5) (get_or cycles c [])
row_is rows cycles c is within = ap (λ (l : List (List ℕ)). get_or l c []) is ∙ cycle_places_at 11 cycles c within

pub place_there : {rows : List (List ℕ)} (cycles : List (List ℕ)) (c i : ℕ) → rows ≡ cycle_places 11 cycles → c < length cycles → i ≤ length (get_or cycles c []) → i < length (get_or rows c [])
place_there {rows = rows} cycles c i is within few =
    let e = ap (λ (l : List ℕ). length l) (row_is rows cycles c is within) ∙ entry_places_length (11 + length (flat_map cycle_line (take c cycles)) + 5) (get_or cycles c []) in
    omega (arith, e, few)

pub place_is : {rows : List (List ℕ)} (cycles : List (List ℕ)) (c i : ℕ) → rows ≡ cycle_places 11 cycles → c < length cycles → i ≤ length (get_or cycles c []) → get_or (get_or rows c []) i 0 ≡ place_of cycles c i
place_is {rows = rows} cycles c i is within few =
    ap (λ l. get_or l i 0) (row_is rows cycles c is within) ∙ entry_places_at (11 + length (flat_map cycle_line (take c cycles)) + 5) (get_or cycles c []) i few ∙ sym (place_sum cycles c i)

-- it is one of the text
entry_within : (ns : List ℕ) (i : ℕ) → length (flat_map number (take i ns)) + length (blank_of ns i) ≤ length (flat_map number ns)
entry_within [] zero = omega arith
entry_within [] (suc i) = omega arith
entry_within (n ∷ ns) zero = omega (arith, flat_length number n ns)
entry_within (n ∷ ns) (suc i) = let e = entry_within ns i in omega (arith, e, flat_length number n ns, flat_length number n (take i ns))

cycle_within : (cycles : List (List ℕ)) (c : ℕ) → c < length cycles → length (flat_map cycle_line (take c cycles)) + length (cycle_line (get_or cycles c [])) ≤ length (flat_map cycle_line cycles)
cycle_within [] c within = absurd (omega (arith, within))
cycle_within (e ∷ es) zero within = omega (arith, flat_length cycle_line e es)
cycle_within (e ∷ es) (suc c) within = let more = cycle_within es c (omega (arith, within)) in omega (arith, more, flat_length cycle_line e es, flat_length cycle_line e (take c es))

line_length : (ns : List ℕ) → length (cycle_line ns) ≡ 5 + length (flat_map number ns) + 1
line_length ns = let e = length-append (flat_map number ns) (10 ∷ []) in omega (arith, e)

text_length : (cycles : List (List ℕ)) → length (schedule_text cycles) ≡ 11 + length (flat_map cycle_line cycles) + 4
text_length cycles = let e = length-append (flat_map cycle_line cycles) last_line in omega (arith, e)

place_within : (cycles : List (List ℕ)) (c i : ℕ) → c < length cycles → place_of cycles c i < length (schedule_text cycles)
place_within cycles c i within =
    let entries = get_or cycles c [] in
    omega (arith, place_sum cycles c i, entry_within entries i, cycle_within cycles c within, line_length entries, text_length cycles)

pub kept_within : {rows : List (List ℕ)} (cycles : List (List ℕ)) (c i : ℕ) → rows ≡ cycle_places 11 cycles → c < length cycles → i ≤ length (get_or cycles c []) → get_or (get_or rows c []) i 0 < length (schedule_text cycles)
kept_within cycles c i is within few = rw (place_is cycles c i is within few) (place_within cycles c i within)
