use Rattle.std.proofs.Common.{◌≡◌, ◌<◌, ℕ, List, ◌∷◌, length, map, take, ap, subst, ◌∙◌, arith, Bor}
use Rattle.std.specs.Prelude.{IfOk, IsTrue, ◌↔◌}
use Rattle.std.proofs.lemmas.List.{take_all}
use Rattle.lz_base.specs.Names.{AreDistinct}
use Rattle.v_syntax.specs.Small.{port_names}
use Rattle.v_small.proofs.PortNames.{listed}
use Rattle.v_small.proofs.names.is_distinct_list.Goals as goal

pub loop-port-preserved : goal.loop-port-preserved
loop-port-preserved c =
    let within : c.loop-port.port-index < length c.args.ports.now = omega arith in
    listed c.loop-port.names.items c.push-in-loop-port.new.self.items c.name_of.result c.args.clock.now.name c.args.ports.now c.loop-port.port-index c.port-item.result within c.port-item.is
    c.in_ok-push-2.ensures.items c.name_of.ensures c.loop-port.invariant

pub returns : goal.returns
returns c =
    let all : take c.loop-port.port-index c.args.ports.now ≡ c.args.ports.now = take_all c.loop-port.port-index c.args.ports.now c.loop-port-test.false in
    let names : map (λ (n : Bor (List ℕ)). n.now) c.as_slice.result.now ≡ c.args.clock.now.name ∷ port_names c.args.ports.now =
    ap (map (λ (n : Bor (List ℕ)). n.now)) c.as_slice.ensures.value ∙ c.loop-port.invariant ∙ ap (λ ports. c.args.clock.now.name ∷ port_names ports) all in
    subst (λ (xs : List (List ℕ)). IfOk c.is_distinct.result (λ b. IsTrue b ↔ AreDistinct xs)) names c.is_distinct.ensures
