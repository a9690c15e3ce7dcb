use Rattle.v_statements.proofs.ReadLaws.{read_label}
use Rattle.v_statements.proofs.items.opened_label.Goals as goal

pub returns-in_ok-items-in-Items-clause-sited : goal.returns-in_ok-items-in-Items-clause-sited
returns-in_ok-items-in-Items-clause-sited c widths read =
    c.in_ok-items-in-Items.ensures.sited widths (read_label widths c.args.sites.now c.args.names.now c.args.label.now _ _ c.in-Items.is c.as_slice.ensures read)
