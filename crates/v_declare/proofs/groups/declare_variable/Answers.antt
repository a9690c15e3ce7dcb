use Rattle.std.proofs.Common.{ap, ◌++◌, ◌∷◌, []}
use Rattle.v_syntax.specs.declared.module.Variable.{Variable}
use Rattle.v_meaning.specs.Declarations.{variable_entry}
use Rattle.v_meaning.specs.ConstantRules.{variable_faults}
use Rattle.v_declare.specs.Walks.{first_of}
use Rattle.v_declare.proofs.Walking.{same_answer}
use Rattle.v_declare.proofs.Items.{same_names}
use Rattle.v_declare.proofs.groups.declare_variable.Goals as goal

pub returns-in-Memory-clause-judged : goal.returns-in-Memory-clause-judged
returns-in-Memory-clause-judged c =
    same_answer c.declare_memory.result _ _ (ap (λ (x : Variable). first_of (variable_faults c.args.names.now x)) c.in-Memory.is) c.declare_memory.ensures.judged

pub returns-in-Memory-clause-behind : goal.returns-in-Memory-clause-behind
returns-in-Memory-clause-behind c =
    same_names c.declare_memory.result _ _ _
    (ap (λ (x : Variable). c.args.names.now ++ variable_entry c.args.roles.now c.args.names.now c.args.signed c.args.range.now x ∷ []) c.in-Memory.is) c.declare_memory.ensures.behind
