-- The file of this name is the first of those that are left, and so of all.
use Rattle.std.proofs.Common.{◌≡◌, ◌<◌, ◌∙◌, arith, length, true, string_bytes, ◌==◌}
use lib.Pointwise.{pointwise}
use Rattle.lz_base.proofs.Contents.{content_found, length_files_of}
use Rattle.lz_base.proofs.memory_files.find.Goals as goal

pub returns-then-eq : goal.returns-then-eq
returns-then-eq c =
    let within : c.loop-i.i < length c.args.files.now = omega arith in
    let same : pointwise ◌==◌ (string_bytes c.index-files-i.result.0) c.args.name.now ≡ true = cc (c.if-eq.ensures, c.as_str.ensures.value) in
    (rw length_files_of within, c.loop-i.invariant ∙ content_found _ _ _ _ within c.index-files-i.is same)
