use Rattle.std.proofs.Common.{◌≡◌, ◌∙◌, ◌++◌, ◌∷◌, [], ◌+◌, ◌-◌, ◌*◌, ◌/◌, ◌%◌, ◌^◌, suc, arith, ap, sym, append_assoc}
use Rattle.lz_lines.specs.Fields.{hex_digit, hex_digits}
use Rattle.lz_lines.proofs.Hex.{front}
use Rattle.lz_lines.proofs.printing.push_digits.Goals as goal

pub loop-i-preserved : goal.loop-i-preserved
loop-i-preserved c =
    let k = c.args.count - (c.loop-i.i + 1) in
    let one : c.args.count - c.loop-i.i ≡ suc k = omega arith in
    let same : c.args.count - 1 - c.loop-i.i ≡ k = omega arith in
    let digit : c.digit.result ≡ hex_digit (c.args.value / 2 ^ (4 * k) % 16) = c.digit.ensures ∙ ap (λ j. hex_digit (c.args.value / 2 ^ (4 * j) % 16)) same in
    ap (λ l. l ++ hex_digits k c.args.value) c.in_ok-push.ensures.items ∙ append_assoc c.loop-i.out.items (c.digit.result ∷ []) (hex_digits k c.args.value)
    ∙ ap (λ d. c.loop-i.out.items ++ d ∷ hex_digits k c.args.value) digit
    ∙ ap (λ l. c.loop-i.out.items ++ l) (sym (ap (λ j. hex_digits j c.args.value) one ∙ front k c.args.value)) ∙ c.loop-i.invariant
