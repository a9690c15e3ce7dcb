use Rattle.std.proofs.Common.{◌∙◌, sym, arith}
use Rattle.v_names.proofs.Maps.{places_new, places_again, one_longer}
use Rattle.v_names.proofs.sites.Sites.push.Goals as goal

pub invariant_of-self-then-contains_key : goal.invariant_of-self-then-contains_key
invariant_of-self-then-contains_key c =
    rw c.in_ok-push.ensures.ok (record {
      found = places_again c.self.inside.numbers _ c.args.place (sym c.contains_key.ensures ∙ c.if-contains_key.true) c.self.invariant.found;
      few = omega (arith, one_longer c.self.inside.places c.args.place, c.len-count.ensures, c.if-count.false);
    })

pub invariant_of-self-in-Ok : goal.invariant_of-self-in-Ok
invariant_of-self-in-Ok c =
    rw c.in_ok-push-2.ensures.ok (record {
      found = places_new c.self.inside.numbers c.insert.new.self _ c.args.place _ c.len-count.ensures (sym c.contains_key.ensures ∙ c.if-contains_key.false) c.in-Ok.ensures.updates c.self.invariant.found;
      few = omega (arith, one_longer c.self.inside.places c.args.place, c.len-count.ensures, c.if-count.false);
    })
