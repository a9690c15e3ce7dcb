-- The sites that were found, as the definitions have them.
use Rattle.std.specs.Prelude.{List, map, Bool}
use Rattle.std.specs.List.{list_all}
use Rattle.v_meaning.specs.Sites.{Site}
use Rattle.v_core.specs.declared.modules.TypedSite.{TypedSite}
use Rattle.v_core.specs.Formed.{is_width}

abbrev pub site_in : TypedSite → Site
site_in s = record { at = s.at; width = s.width }

-- each site has 1 to 128 bits
abbrev pub are_words : List TypedSite → Bool
are_words sites = list_all is_width (map (λ (s : TypedSite). s.width) sites)
