-- The places where a module of these names breaks a rule of processes, nets and weight; and which items are combinational
-- processes. No public clause names them.
use Rattle.std.specs.Prelude.{ℕ, List, Bool, true, false}
use Rattle.lz_base.specs.declared.rule.Rule.{Rule}
use Rattle.lz_base.specs.declared.rule.Rule.TheVariants as r
use Rattle.v_syntax.specs.declared.module.Event.TheVariants as w
use Rattle.v_syntax.specs.declared.module.Item.{Item}
use Rattle.v_syntax.specs.declared.module.Item.TheVariants as i
use Rattle.v_syntax.specs.declared.module.Module.{Module}
use Rattle.v_meaning.specs.declared.names.Entry.{Entry}
use Rattle.v_meaning.specs.Uses.{uses_of}
use Rattle.v_meaning.specs.Weights.{weight_of}
use Rattle.v_meaning.specs.Broken.{use_places, too_heavy}

abbrev pub process_places : List Entry → Module → Rule → List ℕ
process_places names m r.W1 = too_heavy (weight_of names m.items) m.name.at
process_places names m rule = use_places rule (uses_of names m)

abbrev pub is_combinational : Item → Bool
is_combinational (i.Always w.Any body) = true
is_combinational _ = false
