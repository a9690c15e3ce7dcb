-- A listed call fails.
use Rattle.std.proofs.Common.{inl, refl, ap}
use Rattle.lz_base.specs.MemoryFiles.{FilesValue}
use Rattle.lz_base.proofs.Listed.{listed_in}
use Rattle.lz_base.proofs.memory_files.MemFilesFiles.open.Goals as goal

pub returns-then-contains-clause-fails : goal.returns-then-contains-clause-fails
returns-then-contains-clause-fails c =
    let fail_is = ap (λ (v : FilesValue). v.fail) c.self.view_is in
    let next_is = ap (λ (v : FilesValue). v.next) c.self.view_is in
    (λ _. inl (listed_in _ _ _ _ _ next_is fail_is c.deref.ensures.value c.if-contains.ensures.value), λ _. refl)
