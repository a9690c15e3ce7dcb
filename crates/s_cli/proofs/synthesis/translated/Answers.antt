use Rattle.s_cli.specs.Synthesis.{IsTranslation}
use Rattle.s_cli.proofs.Judged.{small_refused, judged_done}
use Rattle.s_cli.proofs.synthesis.translated.Goals as goal

pub returns-in-Err : goal.returns-in-Err
returns-in-Err c =
    small_refused (record { tokens = c.one_reading.ensures.tokens; place = c.one_reading.ensures.place; apart = c.one_reading.ensures.apart; modules = c.one_module.ensures }) c.args.source.now c.in-Err.stop c.requires c.in-Err.ensures

pub returns : goal.returns
returns c =
    let t : IsTranslation c.args.source.now c.in_ok-print.field-0.items = record {
      module_ = c.in-Ok.module;
      netlist = c.in_ok-netlist.netlist;
      within = c.requires;
      spelled = c.in-Ok.ensures;
      form = c.in_ok-print.ensures.form;
      formed = c.in_ok-netlist.ensures.formed;
      realised = c.in_ok-netlist.ensures.realises;
      printed = c.in_ok-print.ensures.text;
    } in
    (t, judged_done (record { tokens = c.one_reading.ensures.tokens; place = c.one_reading.ensures.place; apart = c.one_reading.ensures.apart; modules = c.one_module.ensures }) c.args.source.now _ t)
