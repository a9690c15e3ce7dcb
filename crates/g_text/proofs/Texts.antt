-- The texts of networks are those of the grammar.
use Rattle.std.proofs.Common.{◌≡◌, ℕ, List, [], ◌∷◌, ◌++◌, length, Result, Err, inl, inr, refl, ap, sym, subst, ◌∙◌, append_assoc}
use Rattle.lz_base.specs.Answers.{Answers, IfFault}
use Rattle.lz_base.specs.declared.fault.Stop.{Stop}
use Rattle.lz_base.specs.declared.fault.Stop.TheVariants as stop
use Rattle.lz_base.specs.declared.rule.Rule.TheVariants.{G1, G2}
use Rattle.lz_lines.specs.declared.unread.Unread.{Unread}
use Rattle.lz_lines.specs.declared.unread.Unread.TheVariants as unread
use Rattle.lz_lines.specs.Fields.{field, line_end}
use Rattle.lz_lines.specs.Forms.{AreLines, Breaks, Fails, Nothing, Takes}
use Rattle.lz_lines.specs.References.{IsWrong}
use Rattle.lz_lines.specs.Unread.{stop_of}
use Rattle.lz_lines.proofs.Forms.{After, after_same, after_start}
use Rattle.lz_lines.proofs.Places.{none_is, unreadable, whole_is, whole_only}
use Rattle.lz_lines.specs.Sections.{end_line}
use Rattle.g_net.specs.Network.{NetworkValue}
use Rattle.g_text.specs.declared.line.Line.{Line}
use Rattle.g_text.specs.Answers.{IsRefusal, IsText, IsTextOf}
use Rattle.g_text.specs.Form.{HasForm}
use Rattle.g_text.specs.Grammar.{IsLine, MayEnd, Whole}
use Rattle.g_text.specs.Raw.{bare, body, with_line}
use Rattle.g_text.specs.Referred.{wrong_places}
use Rattle.g_text.specs.Text.{head}
use Rattle.g_text.proofs.Growing.{grows, bare_form}
use Rattle.g_text.proofs.Sections.{lines_go}
use Rattle.g_text.proofs.Wholes.{text_is}

-- lines that go on from a network with the form
rest_in : (n m : NetworkValue) (ls : List Line) (bytes : List ℕ) → HasForm n → AreLines IsLine with_line MayEnd end_line n ls m bytes → HasForm m × (m.name ≡ n.name) × (body n ++ bytes ≡ body m ++ end_line)
rest_in n m [] bytes h is = (subst (λ (x : NetworkValue). HasForm x) (sym is.1) h, ap (λ (x : NetworkValue). x.name) is.1, λ i. body (sym is.1 i) ++ is.2 i)
rest_in n m (l ∷ ls) bytes h (front, back, isline, more, e) =
    let g = grows n l front h isline in
    let r = rest_in (with_line n l) m ls back g.form more in
    (r.0, r.1 ∙ g.name, ap (λ x. body n ++ x) e ∙ sym (append_assoc (body n) front back) ∙ ap (λ x. x ++ back) (sym g.spelled) ∙ r.2)

whole_to : (v : NetworkValue) (bytes : List ℕ) → Whole v bytes → IsText v bytes
whole_to v bytes (w, f1, b1, is1, (name, f2, b2, named, (x, f3, b3, is3, lines, e3), e2), e1) =
    let r = rest_in (bare name) v lines.0 b3 (bare_form name named.0) lines.1 in
    let behind : b3 ≡ body v ++ end_line = r.2 in
    (r.0, e1 ∙ (λ i. is1 i ++ (e2 ∙ (λ j. (named.1 ∙ ap field (sym r.1)) j ++ (e3 ∙ (λ k. is3 k ++ behind k)) j)) i) ∙ sym (text_is v))

whole_from : (v : NetworkValue) (bytes : List ℕ) → IsText v bytes → Whole v bytes
whole_from v bytes h =
    let rest = body v ++ end_line in
    (tt, head, field v.name ++ (line_end ++ rest), refl, (v.name, field v.name, line_end ++ rest, (h.0.name, refl), (tt, line_end, rest, refl, lines_go v h.0, refl), refl), h.1 ∙ text_is v)

pub after_whole : (bytes : List ℕ) → After IsText Nothing bytes Whole bytes
after_whole bytes = after_same Whole (after_start IsText Nothing bytes) whole_to whole_from

-- where the bytes are no text
pub broken_fault : (X : Type 0) (bytes : List ℕ) (u : Unread) (s : Stop) → Fails IsText Nothing bytes u → s ≡ stop_of (length bytes) G1 u → IfFault {X = X} (Err s) (IsRefusal bytes)
broken_fault X bytes (unread.Broken e) s b t = subst (λ (x : Stop). IfFault {X = X} (Err x) (IsRefusal bytes)) (sym t) (inl (unreadable G1 b))
broken_fault X bytes unread.OutOfMemory s b t = subst (λ (x : Stop). IfFault {X = X} (Err x) (IsRefusal bytes)) (sym t) tt

-- where they are one
pub text_of : (bytes : List ℕ) (n : NetworkValue) → Takes IsText Nothing bytes n [] → IsTextOf bytes n
text_of bytes n t = let h = whole_is t in record { form = h.0; spelled = h.1; alone = λ m form spelled. sym (whole_only t m (form, spelled)) }

-- no reference is wrong, so there is no fault
pub answers_wrong : {X : Type 0} (seen : X → NetworkValue) (result : Result X Stop) (e : Stop) (n : NetworkValue) (places : List ℕ) → result ≡ Err e → IsWrong G2 places e → places ≡ [] → Answers seen result n
answers_wrong seen result (stop.Fault f) n places is h none = let some : f.at ∷ h.1 ≡ [] = sym h.2 ∙ none in cc
answers_wrong seen result stop.OutOfMemory n places is h none = rw is tt

-- a reference is wrong in the one network that has this text
pub refused : {X : Type 0} (result : Result X Stop) (e : Stop) (bytes : List ℕ) (n : NetworkValue) → result ≡ Err e → IsWrong G2 (wrong_places n) e → IsTextOf bytes n → IfFault result (IsRefusal bytes)
refused result (stop.Fault f) bytes n is h t = rw is (inr (record { rule = h.0; network = n; is = t; more = h.1; first = h.2 }))
refused result stop.OutOfMemory bytes n is h t = rw is tt
