use Rattle.std.proofs.Common.{◌≡◌, List, ℕ, Option, None, Some, true, false, subst, sym}
use Rattle.lz_lines.specs.Forms.{Anything, Breaks, Done, Nothing, Takes}
use Rattle.lz_lines.proofs.Forms.{After, after_breaks, after_line, after_start, after_takes, done_takes, line_broken}
use Rattle.lz_lines.proofs.Places.{end_breaks}
use Rattle.lz_lines.specs.Sections.{end_line}
use Rattle.g_net.specs.Network.{NetworkValue}
use Rattle.g_text.specs.declared.line.Key.{Key}
use Rattle.g_text.specs.declared.line.Line.{Line}
use Rattle.g_text.specs.Grammar.{IsLine, IsNext, MayEnd, Rest}
use Rattle.g_text.specs.Keys.{keys_of}
use Rattle.g_text.specs.Raw.{bare, with_line}
use Rattle.lz_lines.proofs.Standing.{hand_broken, hand_on}
use Rattle.g_text.proofs.Standing.{lines_some, next_less, next_line}
use Rattle.g_text.proofs.raw_reading.read_lines.Goals as goal

pub lines-init : goal.lines-init
lines-init c =
    subst (λ (n : NetworkValue). After (Rest (bare c.args.name)) Nothing c.args.bytes.now (Rest n) c.args.bytes.now) (sym c.new-raw.ensures) (after_start (Rest (bare c.args.name)) Nothing c.args.bytes.now)

pub returns-in_err-line : goal.returns-in_err-line
returns-in_err-line c =
    hand_on _ _ _ _ _ _ _ _ _ _ c.from_residual.result c.read_line.result _ c.from_residual.ensures.1 c.in_err-line.was c.read_line.ensures
    (λ l b.
    line_broken IsLine with_line MayEnd end_line c.lines.raw (lines_some c.lines.raw) c.lines.invariant
    (after_breaks (next_line c.lines.raw c.lines.left.now) (subst (λ (ks : List Key). Breaks (IsNext ks) Anything c.lines.left.now l) c.keys.ensures.keys b)))

pub returns-in_err-read_end : goal.returns-in_err-read_end
returns-in_err-read_end c =
    let taken = subst (λ (ks : List Key). Takes (IsNext ks) Anything c.lines.left.now c.in_ok-line.line c.in_ok-line.rest.now) c.keys.ensures.keys c.in_ok-line.ensures in
    let none : c.in_ok-line.line ≡ None = c.in_default.is in
    let last = subst (λ (o : Option Line). Takes (IsNext (keys_of c.lines.raw)) Anything c.lines.left.now o c.in_ok-line.rest.now) none taken in
    let after = after_line IsLine with_line MayEnd end_line c.lines.raw None c.lines.invariant (after_takes (next_line c.lines.raw c.lines.left.now) last) in
    hand_broken _ _ _ _ _ c.from_residual-in_err-read_end.result _ c.from_residual-in_err-read_end.ensures.1
    (after_breaks after (subst (λ l. Breaks (Done c.lines.raw) Nothing c.in_ok-line.rest.now l) (sym c.in_err-read_end.ensures.left) (end_breaks c.lines.raw c.in_ok-line.rest.now (λ e. let no : false ≡ true = c.in_err-read_end.ensures.only e in cc))))

pub returns-in_default : goal.returns-in_default
returns-in_default c =
    let taken = subst (λ (ks : List Key). Takes (IsNext ks) Anything c.lines.left.now c.in_ok-line.line c.in_ok-line.rest.now) c.keys.ensures.keys c.in_ok-line.ensures in
    let none : c.in_ok-line.line ≡ None = c.in_default.is in
    let last = subst (λ (o : Option Line). Takes (IsNext (keys_of c.lines.raw)) Anything c.lines.left.now o c.in_ok-line.rest.now) none taken in
    let after = after_line IsLine with_line MayEnd end_line c.lines.raw None c.lines.invariant (after_takes (next_line c.lines.raw c.lines.left.now) last) in
    subst (λ (l : List ℕ). Takes (Rest (bare c.args.name)) Nothing c.args.bytes.now c.lines.raw l) c.in_ok-read_end.ensures.found (after_takes after (done_takes Nothing c.lines.raw c.in_ok-line.rest.now))

pub lines-preserved : goal.lines-preserved
lines-preserved c =
    let taken = subst (λ (ks : List Key). Takes (IsNext ks) Anything c.lines.left.now c.in_ok-line.line c.in_ok-line.rest.now) c.keys.ensures.keys c.in_ok-line.ensures in
    let next = subst (λ (o : Option Line). Takes (IsNext (keys_of c.lines.raw)) Anything c.lines.left.now o c.in_ok-line.rest.now) c.in-Some.is taken in
    subst (λ (n : NetworkValue). After (Rest (bare c.args.name)) Nothing c.args.bytes.now (Rest n) c.in_ok-line.rest.now) (sym c.in_ok-add.ensures)
    (after_line IsLine with_line MayEnd end_line c.lines.raw (Some c.in-Some.line) c.lines.invariant (after_takes (next_line c.lines.raw c.lines.left.now) next))

pub lines-smaller : goal.lines-smaller
lines-smaller c =
    let taken = subst (λ (ks : List Key). Takes (IsNext ks) Anything c.lines.left.now c.in_ok-line.line c.in_ok-line.rest.now) c.keys.ensures.keys c.in_ok-line.ensures in
    next_less c.lines.raw c.lines.left.now c.in_ok-line.line c.in_ok-line.rest.now taken
