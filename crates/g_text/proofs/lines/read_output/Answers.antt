use Rattle.std.proofs.Common.{Some}
use Rattle.lz_lines.specs.Fields.{AreNumbers, IsBit, IsNameField, IsNumber, greatest}
use Rattle.lz_lines.specs.Forms.{Anything, EndNumbers, Parted}
use Rattle.lz_lines.proofs.Forms.{after_breaks, after_obtains, after_start, after_then, then_broken, then_obtains}
use Rattle.lz_lines.proofs.Standing.{ended_parted, hand_broken, hand_on, some_ended}
use Rattle.g_net.specs.declared.network.Gate.TheVariants as gate
use Rattle.g_text.specs.declared.line.Key.TheVariants as key
use Rattle.g_text.specs.declared.line.Line.TheVariants as line
use Rattle.g_text.specs.Grammar as g
use Rattle.g_text.specs.Grammar.{IsLiteral, Pair, Tail}
use Rattle.g_text.proofs.Standing as standing
use Rattle.g_text.proofs.lines.read_output.Goals as goal
use Rattle.std.proofs.Common.{Option, ◌≡◌, ◌∙◌, subst}
use Rattle.lz_lines.specs.Forms.{Ended, Obtains}
use Rattle.g_text.specs.declared.line.Line.{Line}

pub returns-in_err-name : goal.returns-in_err-name
returns-in_err-name c =
    hand_on _ _ _ _ _ _ _ _ _ _ c.from_residual.result c.read_name_copy.result _ c.from_residual.ensures.1 c.in_err-name.was c.read_name_copy.ensures
    (λ l b. then_broken IsNameField Parted g.OutputLiterals Anything standing.literals_some (λ a v text behind is d. standing.literals_parted a v text behind is) b)

pub returns-in_err-rest : goal.returns-in_err-rest
returns-in_err-rest c =
    let name = c.in_ok-name.name in
    let one = after_then IsNameField Parted g.OutputLiterals (after_start (Tail key.Output) Anything c.args.bytes.now) (λ a v text behind is d. standing.literals_parted a v text behind is) c.in_ok-name.ensures in
    hand_on _ _ _ _ _ _ _ _ _ _ c.from_residual-in_err-rest.result c.read_numbers.result _ c.from_residual-in_err-rest.ensures.1 c.in_err-rest.was c.read_numbers.ensures.reads
    (λ l b. after_breaks one (then_broken (AreNumbers 1 128 greatest) (EndNumbers 128) (g.OutputEnd name) Anything (λ ns text is. some_ended (Some (line.Output (record { name = name; literals = ns })))) (λ ns v text behind is d. standing.literals_end name ns v text behind is) b))

pub returns : goal.returns
returns c =
    let name = c.in_ok-name.name in
    let ns = c.read_numbers.new.numbers.items in
    let one = after_then IsNameField Parted g.OutputLiterals (after_start (Tail key.Output) Anything c.args.bytes.now) (λ a v text behind is d. standing.literals_parted a v text behind is) c.in_ok-name.ensures in
    let two = after_then (AreNumbers 1 128 greatest) (EndNumbers 128) (g.OutputEnd name) one (λ ns v text behind is d. standing.literals_end name ns v text behind is) c.in_ok-rest.ensures.reads in
    let kept : c.in_ok-literals.literals ≡ ns = c.in_ok-literals.ensures ∙ c.deref.ensures.value in
    let same : Some (line.Output (record { name = name; literals = c.in_ok-literals.literals })) ≡ Some (line.Output (record { name = name; literals = ns })) = λ i. Some (line.Output (record { name = name; literals = kept i })) in
    after_obtains _ _ c.end_line.result two (subst (λ (l : Option Line). Obtains (Ended l) Anything (λ r. r.0) (λ r. r.1.now) c.in_ok-rest.rest.now c.end_line.result) same c.end_line.ensures.reads)
