-- First values of declared names that keep to their widths (1364-2005, 6.2.1).
use Rattle.std.specs.Prelude.{ℕ, ◌^◌, Bool, true, nat_lt, Option, None, Some}
use Rattle.v_meaning.specs.declared.names.Entry.{Entry}

abbrev pub fits_first : ℕ → Option ℕ → Bool
fits_first width None = true
fits_first width (Some value) = nat_lt value (2 ^ width)

abbrev pub keeps_first : Entry → Bool
keeps_first e = fits_first e.width e.first
