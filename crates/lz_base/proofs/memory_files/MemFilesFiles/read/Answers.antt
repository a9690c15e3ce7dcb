-- A read fails where it is listed or nothing is open, and else takes the front of what is left.
use Rattle.std.proofs.Common.{◌≡◌, ◌∙◌, ap, sym, arith, Some, drop, inl, inr, refl}
use Rattle.lz_base.specs.MemoryFiles.{FilesValue, files_of, bytes_at}
use Rattle.lz_base.proofs.Listed.{listed_in}
use Rattle.lz_base.proofs.Pieces.{read_takes}
use Rattle.lz_base.proofs.memory_files.MemFilesFiles.read.Goals as goal
use Rattle.lz_base.proofs.memory_files.MemFilesFiles.read.Goals.{in_default-via-in-Some+else-not-contains, in_default-via-in_default}

pub returns-in_default-clause-fails : goal.returns-in_default-clause-fails
returns-in_default-clause-fails c =
    let fail_is = ap (λ (v : FilesValue). v.fail) c.self.view_is in
    let next_is = ap (λ (v : FilesValue). v.next) c.self.view_is in
    let rest_is = ap (λ (v : FilesValue). v.rest) c.self.view_is in (
      λ _. elim c.in_default.branch [
        | in_default-via-in-Some+else-not-contains w ↦ inl (listed_in _ _ _ _ _ next_is fail_is w.deref.ensures.value w.if-not-contains.ensures.value)
        | in_default-via-in_default w ↦ inr (sym rest_is ∙ rw w.in_default.is refl)
      ],
      λ _. refl,
    )

pub returns-in-Some-clause-bytes : goal.returns-in-Some-clause-bytes
returns-in-Some-clause-bytes c =
    let all = bytes_at (files_of c.self.inside.files.items) c.in-Some.file in
    let was : c.args.self.now.rest ≡ Some (drop c.in-Some.byte all) = sym (ap (λ (v : FilesValue). v.rest) c.self.view_is) ∙ rw c.in-Some.is (cc) in
    rw was (read_takes c.in-Some.byte c.copy_front-count.result all c.left_at.result.now c.copy_front-count.new.to
    (c.left_at.ensures.left ∙ ap (λ fs. drop c.in-Some.byte (bytes_at (files_of fs) c.in-Some.file)) c.deref-in-Some.ensures.value)
    (omega (arith, c.copy_front-count.ensures.count, c.copy_front-count.auto.to)) c.copy_front-count.ensures.copied)
