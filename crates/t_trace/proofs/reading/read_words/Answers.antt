use Rattle.std.proofs.Common.{ℕ, ◌+◌, ◌<◌, ◌≤◌, ◌∙◌, Err, List, length, get_or, drop, arith, ap, subst, sym}
use Rattle.std.proofs.lemmas.List.{drop_more, drop_all}
use Rattle.std.proofs.lemmas.Result.{err_from_is_err_and}
use Rattle.lz_base.specs.WordValue.{WordValue}
use Rattle.lz_lines.specs.Forms.{Anything}
use Rattle.lz_lines.proofs.Forms.{After, obtains_err}
use Rattle.t_trace.specs.Lines.{AreWords}
use Rattle.t_trace.proofs.Words.{AreRest, width_low, width_high, rest_start, rest_read, rest_broken, rest_end}
use Rattle.t_trace.proofs.reading.read_words.Goals as goal

pub loop-width-init : goal.loop-width-init
loop-width-init c = rw c.in_ok-words.ensures.items (rest_start c.args.widths.now c.args.bytes.now)

pub read_hex-requires : goal.read_hex-requires
read_hex-requires c =
    let within : c.loop-width.width-index < length c.args.widths.now = omega arith in
    record {
      low = width_low c.args.widths.now c.loop-width.width-index c.requires within;
      high = width_high c.args.widths.now c.loop-width.width-index c.requires within;
    }

pub invariant_of-push : goal.invariant_of-push
invariant_of-push c =
    let within : c.loop-width.width-index < length c.args.widths.now = omega arith in
    (width_low c.args.widths.now c.loop-width.width-index c.requires within, width_high c.args.widths.now c.loop-width.width-index c.requires within, c.in_ok-value.ensures.found.0)

pub returns-in_err-value : goal.returns-in_err-value
returns-in_err-value c =
    let widths = c.args.widths.now in
    let i = c.loop-width.width-index in
    let within : i < length widths = omega arith in
    let p = err_from_is_err_and c.from_residual-in_err-value.result c.from_residual-in_err-value.ensures.1 in
    obtains_err _ _ _ _ _ c.from_residual-in_err-value.result _ (p.1 ∙ ap Err p.2)
    (rest_broken widths (get_or widths i 0) (drop (i + 1) widths) c.loop-width.words.items
    (subst (λ (xs : List ℕ). After (AreWords widths) Anything c.args.bytes.now (AreRest xs c.loop-width.words.items) c.loop-width.left.now) (drop_more widths i 0 within) c.loop-width.invariant)
    c.in_err-value.ensures.reads)

pub loop-width-preserved : goal.loop-width-preserved
loop-width-preserved c =
    let widths = c.args.widths.now in
    let i = c.loop-width.width-index in
    let within : i < length widths = omega arith in
    subst (λ (ws : List WordValue). After (AreWords widths) Anything c.args.bytes.now (AreRest (drop (i + 1) widths) ws) c.in_ok-value.rest.now) (sym c.in_ok-push.ensures.items)
    (rest_read widths (get_or widths i 0) c.in_ok-value.value (drop (i + 1) widths) c.loop-width.words.items
    (subst (λ (xs : List ℕ). After (AreWords widths) Anything c.args.bytes.now (AreRest xs c.loop-width.words.items) c.loop-width.left.now) (drop_more widths i 0 within) c.loop-width.invariant)
    c.in_ok-value.ensures.reads)

pub returns : goal.returns
returns c =
    let widths = c.args.widths.now in
    let past : length widths ≤ c.loop-width.width-index = omega arith in
    rw c.from_vec.ensures
    (rest_end widths c.loop-width.words.items
    (subst (λ (xs : List ℕ). After (AreWords widths) Anything c.args.bytes.now (AreRest xs c.loop-width.words.items) c.loop-width.left.now) (drop_all c.loop-width.width-index widths past) c.loop-width.invariant))
