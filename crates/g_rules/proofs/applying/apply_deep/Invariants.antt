use Rattle.std.proofs.Common.{drop}
use Rattle.g_rules.specs.declared.applying.Outcome.{Outcome}
use Rattle.g_rules.specs.declared.applying.Outcome.TheVariants as outcome
use Rattle.g_rules.specs.declared.shapes.Shape.{Shape}
use Rattle.g_rules.specs.Applying.{Leaves, IsOutcome, deep_of}
use Rattle.g_rules.proofs.applying.apply_deep.Given as goal

abbrev pub invariant-loop-rule : goal.invariant-loop-rule
invariant-loop-rule g l = record {
  right : (first : Shape) → IsOutcome (g.G.Gates.gate_at l.gates) first (outcome.Gate l.fn.from l.fn.inverted) → IsOutcome (g.G.Gates.gate_at l.gates) first (outcome.Gate l.shape l.invert);
  order : (last : Outcome) → Leaves (λ rule s r. (goal.Fn-dyn g).post (rule.f.vtable, rule.f.value) (deep_of (g.G.Gates.gate_at l.gates) s, tt) r) (drop l.rule-index l.rules) (outcome.Gate l.shape l.invert) last
      → Leaves (λ rule s r. (goal.Fn-dyn g).post (rule.f.vtable, rule.f.value) (deep_of (g.G.Gates.gate_at l.gates) s, tt) r) l.rules (outcome.Gate l.fn.from l.fn.inverted) last;
}
