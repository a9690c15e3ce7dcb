-- The name stands first among all files where it stands first among those that are left.
use Rattle.std.proofs.Common.{◌≡◌, drop}
use Rattle.lz_base.specs.MemoryFiles.{content_of}
use Rattle.lz_base.specs.MemoryFiles.{files_of}
use Rattle.lz_base.proofs.memory_files.find.Given as goal

abbrev pub invariant-loop-i : goal.invariant-loop-i
invariant-loop-i l = content_of (files_of l.files) l.name ≡ content_of (files_of (drop l.i l.files)) l.name
