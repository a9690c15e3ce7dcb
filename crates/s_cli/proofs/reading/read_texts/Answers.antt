use Rattle.std.proofs.Common.{◌∙◌, rules}
use Rattle.s_cli.proofs.Texts.{read_next}
use Rattle.s_cli.proofs.reading.read_texts.Goals as goal

pub loop-i-preserved : goal.loop-i-preserved
loop-i-preserved g c = record {
  told = c.read_text.ensures.told ∙ c.loop-i.invariant.told;
  faults = search rules;
  read = read_next _ _ _ _ _ _ _ _ c.in_ok-text.text c.loop-i.invariant.read c.file_name.ensures c.limit.ensures.limit
      (rw (c.loop-i.invariant.told, c.as_str-name.ensures.value) at c.in_ok-text.ensures.read)
      c.in_ok-text.ensures.short c.in_ok-push.ensures.items;
}
