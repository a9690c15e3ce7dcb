use Rattle.std.proofs.Common.{◌∙◌, sym}
use Rattle.v_depends.proofs.MarkedNames.{marks_more, marks_same}
use Rattle.v_depends.proofs.following.mark_name.Goals as goal

pub returns-in-Some : goal.returns-in-Some
returns-in-Some c = λ names ons n m.
    marks_more names ons c.args.marks.now c.mark.new.self c.args.name.now c.in-Some.number.now (sym (n.found c.args.name) ∙ sym c.in-Some.ensures.value) c.mark.ensures m

pub returns-in-None : goal.returns-in-None
returns-in-None c = λ names ons n m. marks_same names ons c.args.marks.now c.args.name.now (c.in-None.ensures.value ∙ n.found c.args.name) m
