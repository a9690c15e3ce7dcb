-- The three masks, cut to the width.
use Rattle.std.proofs.Common.{◌≡◌, ◌%◌, ◌^◌, ap, sym, ◌∙◌}
use Rattle.v_meaning.specs.Literals.{digit_bits, digit_value, digits_in, is_x, is_z, mask_of, number_in, radix_of}
use Rattle.v_numbers.proofs.Padded.{cut_again, padded}
use Rattle.v_numbers.proofs.reading.literal_behind.Goals as goal

pub returns : goal.returns
returns c =
    let ones : c.cut.result ≡ number_in (radix_of c.args.letter) digit_value (digits_in c.args.bytes.now) % 2 ^ c.args.width =
    c.cut.ensures.value ∙ sym (cut_again _ _ c.requires.within) ∙ ap (λ n. n % 2 ^ c.args.width) c.masks_of-masks.ensures.ones
    ∙ cut_again _ _ c.requires.within
    ∙ ap (λ r. number_in r digit_value (digits_in c.args.bytes.now) % 2 ^ c.args.width) c.base_of.ensures.radix in
    let unknown : c.cut-2.result ≡ mask_of is_x (digit_bits c.args.letter) c.args.width (digits_in c.args.bytes.now) =
    c.cut-2.ensures.value ∙ sym (cut_again _ _ c.requires.within) ∙ ap (λ n. n % 2 ^ c.args.width) c.masks_of-masks.ensures.unknown
    ∙ cut_again _ _ c.requires.within ∙ padded is_x _ _ (digits_in c.args.bytes.now) c.requires.within
    ∙ ap (λ b. mask_of is_x b c.args.width (digits_in c.args.bytes.now)) c.base_of.ensures.bits in
    let impedance : c.cut-3.result ≡ mask_of is_z (digit_bits c.args.letter) c.args.width (digits_in c.args.bytes.now) =
    c.cut-3.ensures.value ∙ sym (cut_again _ _ c.requires.within) ∙ ap (λ n. n % 2 ^ c.args.width) c.masks_of-masks.ensures.impedance
    ∙ cut_again _ _ c.requires.within ∙ padded is_z _ _ (digits_in c.args.bytes.now) c.requires.within
    ∙ ap (λ b. mask_of is_z b c.args.width (digits_in c.args.bytes.now)) c.base_of.ensures.bits in
    λ i. record { width = c.args.width; signed = c.args.signed; ones = ones i; unknown = unknown i; impedance = impedance i }
