-- The texts of netlists are those of the grammar.
use Rattle.std.proofs.Common.{◌≡◌, ℕ, List, [], ◌∷◌, ◌++◌, Result, Err, inl, inr, refl, ap, sym, subst, ◌∙◌, append_assoc, length, arith}
use Rattle.std.proofs.lemmas.List.{length-append}
use Rattle.lz_base.specs.Answers.{Answers, IfFault}
use Rattle.lz_base.specs.declared.fault.Stop.{Stop}
use Rattle.lz_base.specs.declared.fault.Stop.TheVariants as stop
use Rattle.lz_base.specs.declared.rule.Rule.TheVariants.{N1, N2}
use Rattle.lz_lines.specs.declared.unread.Unread.{Unread}
use Rattle.lz_lines.specs.declared.unread.Unread.TheVariants as unread
use Rattle.lz_lines.specs.Fields.{field, line_end}
use Rattle.lz_lines.specs.Forms.{AreLines, Breaks, Nothing, Obtains, Takes}
use Rattle.lz_lines.specs.References.{IsWrong}
use Rattle.lz_lines.specs.Unread.{IsWithin, stop_of}
use Rattle.lz_lines.proofs.Forms.{After, after_same, after_start}
use Rattle.lz_lines.proofs.Places.{none_is, unreadable, whole_is, whole_only}
use Rattle.lz_lines.specs.Sections.{end_line}
use Rattle.n_cells.specs.declared.format.Format.{Format}
use Rattle.n_cells.specs.Form.{HasForm}
use Rattle.n_cells.specs.Netlist.{NetlistValue}
use Rattle.n_text.specs.declared.line.Line.{Line}
use Rattle.n_text.specs.Answers.{IsRefusal, IsText, IsTextOf}
use Rattle.n_text.specs.Grammar.{IsLine, MayEnd, Whole}
use Rattle.n_text.specs.Raw.{bare, body, head, with_line}
use Rattle.n_text.specs.Referred.{wrong_places}
use Rattle.n_text.proofs.Growing.{grows, bare_form}
use Rattle.n_text.proofs.Sections.{lines_go}
use Rattle.n_text.proofs.Wholes.{text_is}

-- lines that go on from a netlist with the form
rest_in : (format : Format) (n m : NetlistValue) (ls : List Line) (bytes : List ℕ) → HasForm format n → AreLines (IsLine format) with_line MayEnd end_line n ls m bytes
    → HasForm format m × (m.name ≡ n.name) × (body format n ++ bytes ≡ body format m ++ end_line)
rest_in format n m [] bytes h is = (subst (λ (x : NetlistValue). HasForm format x) (sym is.1) h, ap (λ (x : NetlistValue). x.name) is.1, λ i. body format (sym is.1 i) ++ is.2 i)
rest_in format n m (l ∷ ls) bytes h (front, back, isline, more, e) =
    let g = grows format n l front h isline in
    let r = rest_in format (with_line n l) m ls back g.form more in
    (r.0, r.1 ∙ g.name, ap (λ x. body format n ++ x) e ∙ sym (append_assoc (body format n) front back) ∙ ap (λ x. x ++ back) (sym g.spelled) ∙ r.2)

whole_to : (format : Format) (v : NetlistValue) (bytes : List ℕ) → Whole format v bytes → IsText format v bytes
whole_to format v bytes (w, f1, b1, is1, (name, f2, b2, named, (x, f3, b3, is3, lines, e3), e2), e1) =
    let r = rest_in format (bare name) v lines.0 b3 (bare_form format name named.0) lines.1 in
    let behind : b3 ≡ body format v ++ end_line = r.2 in
    (r.0, e1 ∙ (λ i. is1 i ++ (e2 ∙ (λ j. (named.1 ∙ ap field (sym r.1)) j ++ (e3 ∙ (λ k. is3 k ++ behind k)) j)) i) ∙ sym (text_is format v))

whole_from : (format : Format) (v : NetlistValue) (bytes : List ℕ) → IsText format v bytes → Whole format v bytes
whole_from format v bytes h =
    let rest = body format v ++ end_line in
    (tt, head format, field v.name ++ (line_end ++ rest), refl, (v.name, field v.name, line_end ++ rest, (h.0.name, refl), (tt, line_end, rest, refl, lines_go format v h.0, refl), refl), h.1 ∙ text_is format v)

pub after_whole : (format : Format) (bytes : List ℕ) → After (IsText format) Nothing bytes (Whole format) bytes
after_whole format bytes = after_same (Whole format) (after_start (IsText format) Nothing bytes) (whole_to format) (whole_from format)

-- where the bytes are no text
pub broken_within : {X V : Type 0} (Is Behind : V → List ℕ → Type 0) (value : X → V) (after : X → List ℕ) (bytes : List ℕ) (result : Result X Unread) (u : Unread) → result ≡ Err u
    → Obtains Is Behind value after bytes result → IsWithin (length bytes) u
broken_within Is Behind value after bytes result (unread.Broken e) is o =
    let b : Breaks Is Behind bytes e.left = subst (λ r. Obtains Is Behind value after bytes r) is o in
    omega (arith, b.size, ap (λ (l : List ℕ). length l) b.split, length-append b.front b.back)
broken_within Is Behind value after bytes result unread.OutOfMemory is o = tt

pub broken_fault : {X : Type 0} (Y : Type 0) (format : Format) (value : X → NetlistValue) (after : X → List ℕ) (bytes : List ℕ) (result : Result X Unread) (u : Unread) (s : Stop) → result ≡ Err u
    → Obtains (IsText format) Nothing value after bytes result → s ≡ stop_of (length bytes) N1 u → IfFault {X = Y} (Err s) (IsRefusal format bytes)
broken_fault Y format value after bytes result (unread.Broken e) s is o t =
    let b : Breaks (IsText format) Nothing bytes e.left = subst (λ r. Obtains (IsText format) Nothing value after bytes r) is o in
    subst (λ (x : Stop). IfFault {X = Y} (Err x) (IsRefusal format bytes)) (sym t) (inl (unreadable N1 b))
broken_fault Y format value after bytes result unread.OutOfMemory s is o t = subst (λ (x : Stop). IfFault {X = Y} (Err x) (IsRefusal format bytes)) (sym t) tt

pub broken_only : {X Y : Type 0} (format : Format) (value : X → NetlistValue) (after : X → List ℕ) (bytes : List ℕ) (seen : Y → NetlistValue) (result : Result X Unread) (u : Unread) (s : Stop) (n : NetlistValue)
    → result ≡ Err u → Obtains (IsText format) Nothing value after bytes result → s ≡ stop_of (length bytes) N1 u → IsText format n bytes → Answers seen (Err s) n
broken_only format value after bytes seen result (unread.Broken e) s n is o t h =
    let b : Breaks (IsText format) Nothing bytes e.left = subst (λ r. Obtains (IsText format) Nothing value after bytes r) is o in
    absurd (none_is b n h)
broken_only format value after bytes seen result unread.OutOfMemory s n is o t h = subst (λ (x : Stop). Answers seen (Err x) n) (sym t) tt

-- where they are one
pub text_of : (format : Format) (bytes : List ℕ) (n : NetlistValue) → Takes (IsText format) Nothing bytes n [] → IsTextOf format bytes n
text_of format bytes n t = let h = whole_is t in record { form = h.0; spelled = h.1; alone = λ m form spelled. sym (whole_only t m (form, spelled)) }

-- no reference is wrong, so there is no fault
pub answers_wrong : {X : Type 0} (seen : X → NetlistValue) (result : Result X Stop) (e : Stop) (n : NetlistValue) (places : List ℕ) → result ≡ Err e → IsWrong N2 places e → places ≡ [] → Answers seen result n
answers_wrong seen result (stop.Fault f) n places is h none = let some : f.at ∷ h.1 ≡ [] = sym h.2 ∙ none in cc
answers_wrong seen result stop.OutOfMemory n places is h none = rw is tt

-- a reference is wrong in the one netlist that has this text
pub refused : {X : Type 0} (format : Format) (result : Result X Stop) (e : Stop) (bytes : List ℕ) (n : NetlistValue) → result ≡ Err e → IsWrong N2 (wrong_places format n) e → IsTextOf format bytes n → IfFault result (IsRefusal format bytes)
refused format result (stop.Fault f) bytes n is h t = rw is (inr (record { rule = h.0; netlist = n; is = t; more = h.1; first = h.2 }))
refused format result stop.OutOfMemory bytes n is h t = rw is tt
