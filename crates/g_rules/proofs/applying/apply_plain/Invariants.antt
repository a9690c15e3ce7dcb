use Rattle.std.proofs.Common.{None, false, drop}
use Rattle.g_rules.specs.declared.applying.Outcome.{Outcome}
use Rattle.g_rules.specs.declared.applying.Outcome.TheVariants as outcome
use Rattle.g_rules.specs.Applying.{Leaves, IsOutcome}
use Rattle.g_rules.proofs.applying.apply_plain.Given as goal

abbrev pub invariant-loop-rule : goal.invariant-loop-rule
invariant-loop-rule g l = record {
  right : IsOutcome (λ node. None) l.fn.first (outcome.Gate l.shape l.invert);
  order : (last : Outcome) → Leaves (λ rule s r. (goal.Fn-dyn g).post (rule.f.vtable, rule.f.value) (s, tt) r) (drop l.rule-index l.rules) (outcome.Gate l.shape l.invert) last
      → Leaves (λ rule s r. (goal.Fn-dyn g).post (rule.f.vtable, rule.f.value) (s, tt) r) l.rules (outcome.Gate l.fn.first false) last;
}
