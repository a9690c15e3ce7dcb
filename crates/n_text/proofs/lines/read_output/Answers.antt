use Rattle.std.proofs.Common.{length, Some, Option, subst, ◌∙◌, ◌≡◌}
use Rattle.lz_lines.specs.Fields.{AreNumbers, IsNameField, greatest}
use Rattle.lz_lines.specs.Forms.{Anything, Ended, EndNumbers, Obtains, Parted}
use Rattle.lz_lines.proofs.Forms.{after_breaks, after_obtains, after_start, after_then, then_broken}
use Rattle.lz_lines.proofs.Standing.{hand_on, some_ended}
use Rattle.n_cells.specs.declared.format.Format.TheVariants as format_
use Rattle.n_text.specs.declared.line.Key.TheVariants as key
use Rattle.n_text.specs.declared.line.Line.{Line}
use Rattle.n_text.specs.declared.line.Line.TheVariants as line
use Rattle.n_text.specs.Grammar as g
use Rattle.n_text.specs.Grammar.{Tail}
use Rattle.n_text.proofs.Standing as standing
use Rattle.n_text.proofs.lines.read_output.Goals as goal

pub returns-in_err-name : goal.returns-in_err-name
returns-in_err-name c =
    hand_on _ _ _ _ _ _ _ _ _ _ c.from_residual.result c.read_name_copy.result _ c.from_residual.ensures.1 c.in_err-name.was c.read_name_copy.ensures
    (λ l b. then_broken IsNameField Parted g.OutputNets Anything standing.nets_some (λ a v text behind is d. standing.nets_parted a v text behind is) b)

pub returns-in_err-rest : goal.returns-in_err-rest
returns-in_err-rest c =
    let name = c.in_ok-name.name in
    let one = after_then IsNameField Parted g.OutputNets (after_start (Tail format_.Two key.Output) Anything c.args.bytes.now) (λ a v text behind is d. standing.nets_parted a v text behind is) c.in_ok-name.ensures in
    hand_on _ _ _ _ _ _ _ _ _ _ c.from_residual-in_err-rest.result c.read_numbers.result _ c.from_residual-in_err-rest.ensures.1 c.in_err-rest.was c.read_numbers.ensures.reads
    (λ l b. after_breaks one (then_broken (AreNumbers 1 128 greatest) (EndNumbers 128) (g.OutputEnd name) Anything (λ ns text is. some_ended (Some (line.Output (record { name = name; width = length ns }) ns))) (λ ns v text behind is d. standing.nets_end name ns v text behind is) b))

pub returns : goal.returns
returns c =
    let name = c.in_ok-name.name in
    let nets = c.read_numbers.new.numbers.items in
    let one = after_then IsNameField Parted g.OutputNets (after_start (Tail format_.Two key.Output) Anything c.args.bytes.now) (λ a v text behind is d. standing.nets_parted a v text behind is) c.in_ok-name.ensures in
    let two = after_then (AreNumbers 1 128 greatest) (EndNumbers 128) (g.OutputEnd name) one (λ ns v text behind is d. standing.nets_end name ns v text behind is) c.in_ok-rest.ensures.reads in
    let kept : c.in_ok-nets.nets ≡ nets = c.in_ok-nets.ensures ∙ c.deref.ensures.value in
    let width : c.len.result ≡ length nets = cc (c.len.ensures) in
    let same : Some (line.Output (record { name = name; width = c.len.result }) c.in_ok-nets.nets) ≡ Some (line.Output (record { name = name; width = length nets }) nets) =
    λ i. Some (line.Output (record { name = name; width = width i }) (kept i)) in
    after_obtains _ _ c.end_line.result two (subst (λ (l : Option Line). Obtains (Ended l) Anything (λ r. r.0) (λ r. r.1.now) c.in_ok-rest.rest.now c.end_line.result) same c.end_line.ensures.reads)
