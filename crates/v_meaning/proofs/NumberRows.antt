-- Worked rows of numbers: padding, cuts, x and z digits, sizes and signs.
use Rattle.std.specs.Prelude.{◌≡◌, refl, true, false, codes}
use Rattle.v_syntax.specs.declared.expr.Spelling.TheVariants as s
use Rattle.v_meaning.specs.Literals.{literal_of, literal_value, open_bits, digit_in, is_x}

-- 4'bx1 is padded with x: three bits are open, of which the first is the most significant
padded_x : literal_of (s.Sized (codes "4") (codes "'bx1")) ≡ record { width = 4; signed = false; ones = 1; unknown = 14; impedance = 0 }
padded_x = refl

three_open : open_bits (literal_of (s.Sized (codes "4") (codes "'bx1"))) ≡ 3
three_open = refl

filled_in : literal_value (literal_of (s.Sized (codes "4") (codes "'bx1"))) 5 ≡ 11
filled_in = refl

-- 4'b1x1 is padded with 0
padded_zero : literal_of (s.Sized (codes "4") (codes "'b1x1")) ≡ record { width = 4; signed = false; ones = 5; unknown = 2; impedance = 0 }
padded_zero = refl

-- 8'sh?f: z where ? stands, signed, and padded digit by digit
padded_z : literal_of (s.Sized (codes "1_0") (codes "'Sh ?_f")) ≡ record { width = 10; signed = true; ones = 15; unknown = 0; impedance = 1008 }
padded_z = refl

-- an x alone fills a decimal number
all_x : literal_of (s.Sized (codes "3") (codes "'dX_")) ≡ record { width = 3; signed = false; ones = 0; unknown = 7; impedance = 0 }
all_x = refl

-- too many digits are cut on the left; a cut x is no open bit, but a digit of the text
cut_x : literal_of (s.Sized (codes "1") (codes "'bx0")) ≡ record { width = 1; signed = false; ones = 0; unknown = 0; impedance = 0 }
cut_x = refl

cut_x_stands : digit_in is_x (s.Sized (codes "1") (codes "'bx0")) ≡ true
cut_x_stands = refl

cut_octal : (literal_of (s.Sized (codes "4") (codes "'o77"))).ones ≡ 15
cut_octal = refl

-- a decimal is taken modulo 2 to the width, which is 32 without a size
cut_decimal : literal_of (s.Based (codes "'d4294967297")) ≡ record { width = 32; signed = false; ones = 1; unknown = 0; impedance = 0 }
cut_decimal = refl

sized_decimal : (literal_of (s.Sized (codes "4") (codes "'sd25"))).ones ≡ 9
sized_decimal = refl

-- a decimal number by itself is signed
plain : literal_of (s.Decimal (codes "1_000")) ≡ record { width = 32; signed = true; ones = 1000; unknown = 0; impedance = 0 }
plain = refl

hexadecimal : (literal_of (s.Sized (codes "16") (codes "'h\tAf_9"))).ones ≡ 2809
hexadecimal = refl
