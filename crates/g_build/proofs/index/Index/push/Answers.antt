use Rattle.std.proofs.Common.{rules, refl, sym, ◌∙◌}
use Rattle.g_build.proofs.Indexing.{indexes_new, indexes_known}
use Rattle.g_build.proofs.index.Index.push.Goals as goal

pub returns-then-not-contains_key : goal.returns-then-not-contains_key
returns-then-not-contains_key c = λ gates h long.
    indexes_new c.args.self.now _ gates c.args.gate c.args.index _ h long (sym c.contains_key.ensures ∙ c.if-not-contains_key.true) (rw c.unwrap.ensures at c.insert.ensures.updates) (search rules) c.own.ensures

pub returns-else-not-contains_key : goal.returns-else-not-contains_key
returns-else-not-contains_key c = λ gates h long.
    indexes_known c.args.self.now _ gates c.args.gate c.args.index h long (sym c.contains_key.ensures ∙ c.if-not-contains_key.false) refl c.own.ensures
