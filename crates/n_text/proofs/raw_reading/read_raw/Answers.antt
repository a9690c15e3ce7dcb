use Rattle.std.proofs.Common.{List, ℕ, subst}
use Rattle.lz_lines.specs.Fields.{IsNameField, IsWord, line_end}
use Rattle.lz_lines.specs.Forms.{Anything, Breaks, Nothing, Parted, Takes, Then}
use Rattle.lz_lines.proofs.Forms.{after_breaks, after_obtains, after_then, then_broken}
use Rattle.lz_lines.proofs.Standing.{hand_broken, hand_on}
use Rattle.n_text.specs.Grammar as g
use Rattle.n_text.specs.Grammar.{Rest}
use Rattle.n_text.specs.Raw.{bare, head}
use Rattle.n_text.proofs.Standing.{behind_parted, behind_some, name_some, rest_some}
use Rattle.n_text.proofs.Texts.{after_whole}
use Rattle.n_text.proofs.raw_reading.read_raw.Goals as goal

pub returns-in_err-rest : goal.returns-in_err-rest
returns-in_err-rest c =
    let broken = subst (λ (w : List ℕ). Breaks (IsWord w) Anything c.args.bytes.now c.in_err-rest.field-0.0.left) c.head.ensures c.in_err-rest.ensures.reads in
    hand_broken _ _ _ _ _ c.from_residual.result _ c.from_residual.ensures.1
    (after_breaks (after_whole c.args.format c.args.bytes.now) (then_broken (IsWord (head c.args.format)) Anything (λ w. Then IsNameField (g.Behind c.args.format)) Nothing (λ w text is. name_some c.args.format) (λ a v text behind is d. tt) broken))

pub returns-in_err-name : goal.returns-in_err-name
returns-in_err-name c =
    let headed = subst (λ (w : List ℕ). Takes (IsWord w) Anything c.args.bytes.now tt c.in_ok-rest.rest.now) c.head.ensures c.in_ok-rest.ensures.reads in
    let one = after_then (IsWord (head c.args.format)) Anything (λ w. Then IsNameField (g.Behind c.args.format)) (after_whole c.args.format c.args.bytes.now) (λ a v text behind is d. tt) headed in
    hand_on _ _ _ _ _ _ _ _ _ _ c.from_residual-in_err-name.result c.read_name_copy.result _ c.from_residual-in_err-name.ensures.1 c.in_err-name.was c.read_name_copy.ensures
    (λ l b. after_breaks one (then_broken IsNameField Parted (g.Behind c.args.format) Nothing (λ name text is. behind_some c.args.format name) (λ a v text behind is d. behind_parted c.args.format a v text behind is) b))

pub returns-in_err-rest-2 : goal.returns-in_err-rest-2
returns-in_err-rest-2 c =
    let headed = subst (λ (w : List ℕ). Takes (IsWord w) Anything c.args.bytes.now tt c.in_ok-rest.rest.now) c.head.ensures c.in_ok-rest.ensures.reads in
    let one = after_then (IsWord (head c.args.format)) Anything (λ w. Then IsNameField (g.Behind c.args.format)) (after_whole c.args.format c.args.bytes.now) (λ a v text behind is d. tt) headed in
    let two = after_then IsNameField Parted (g.Behind c.args.format) one (λ a v text behind is d. behind_parted c.args.format a v text behind is) c.in_ok-name.ensures in
    hand_broken _ _ _ _ _ c.from_residual-in_err-rest-2.result _ c.from_residual-in_err-rest-2.ensures.1
    (after_breaks two (then_broken (IsWord line_end) Anything (λ w. Rest c.args.format (bare c.in_ok-name.name)) Nothing (λ w text is. rest_some c.args.format c.in_ok-name.name) (λ a v text behind is d. tt) c.in_err-rest-2.ensures.reads))

pub returns : goal.returns
returns c =
    let headed = subst (λ (w : List ℕ). Takes (IsWord w) Anything c.args.bytes.now tt c.in_ok-rest.rest.now) c.head.ensures c.in_ok-rest.ensures.reads in
    let one = after_then (IsWord (head c.args.format)) Anything (λ w. Then IsNameField (g.Behind c.args.format)) (after_whole c.args.format c.args.bytes.now) (λ a v text behind is d. tt) headed in
    let two = after_then IsNameField Parted (g.Behind c.args.format) one (λ a v text behind is d. behind_parted c.args.format a v text behind is) c.in_ok-name.ensures in
    let three = after_then (IsWord line_end) Anything (λ w. Rest c.args.format (bare c.in_ok-name.name)) two (λ a v text behind is d. tt) c.in_ok-rest-2.ensures.reads in
    after_obtains _ _ c.read_lines.result three c.read_lines.ensures
