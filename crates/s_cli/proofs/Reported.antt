-- What was written to the errors: a note, and then the line of a status.
use Rattle.std.proofs.Common.{ℕ, List, ◌++◌, length, take, Option, None, Some, append_assoc, arith, inl, inr, ◌∙◌}
use Rattle.std.specs.Io.KnownBytes.{Appends}
use Rattle.std.proofs.Math.Seq.{take-length}
use Rattle.lz_base.specs.Causes.{Rose}
use Rattle.lz_base.specs.Outside.{Told}
use Rattle.s_cli.specs.declared.forms.Command.{Command}
use Rattle.s_cli.specs.declared.status.Status.{Status}
use Rattle.s_cli.specs.declared.status.Status.TheVariants as status
use Rattle.s_cli.specs.Answers.{ForOutput}
use Rattle.s_cli.specs.Mapping.{Answering}
use Rattle.s_cli.specs.Status.{OnDone, OnWriteFault, Writes, WritesBoth, status_line}

appends_then : (a b c : Option (List ℕ)) (first second : List ℕ) → Appends a b first → Appends b c second → Appends a c (first ++ second)
appends_then None b c first second went more = tt
appends_then (Some x) None c first second went more = absurd went
appends_then (Some x) (Some y) None first second went more = absurd more
appends_then (Some x) (Some y) (Some z) first second went more = rw (more, went) (append_assoc x first second)

rose_then : (a b c : ℕ) → Rose a b → Rose b c → Rose a c
rose_then a b c rose more = omega (arith, rose, more)

-- the one and then the other
pub writes_both : (a b c : ℕ) (x y z : Option (List ℕ)) (first second : List ℕ) → Writes a b x y first → Writes b c y z second → WritesBoth a c x z first second
writes_both a b c x y z first second (inl went) (inl more) = inl (more.0 ∙ went.0, appends_then x y z first second went.1 more.1)
writes_both a b c x y z first second (inl went) (inr more) =
    inr (rw (← went.0) more.0, (length first, more.1.0, rw (take-length first) (appends_then x y z first (take more.1.0 second) went.1 more.1.1)))
writes_both a b c x y z first second (inr went) (inl more) =
    inr (rw more.0 went.0, (went.1.0, length second, rw (take-length second) (appends_then x y z (take went.1.0 first) second went.1.1 more.1)))
writes_both a b c x y z first second (inr went) (inr more) =
    inr (rose_then a b c went.0 more.0, (went.1.0, more.1.0, appends_then x y z (take went.1.0 first) (take more.1.0 second) went.1.1 more.1.1))

-- a text with what is known of it, and the same once the line has gone out too
reported : (P : List ℕ → List ℕ → Type 0) (a b c : ℕ) (x y z : Option (List ℕ)) (form : Option Command) (may_answer : Answering) (told : Told) (names : List (List ℕ)) (line : List ℕ)
    → ForOutput form may_answer told names (λ output note. P output note × Writes a b x y note) → Writes b c y z line → ForOutput form may_answer told names (λ output note. P output note × WritesBoth a c x z note line)
reported P a b c x y z form may_answer told names line o wrote = (o.0, o.1, o.2, (o.3.0, writes_both a b c x y z o.1 line o.3.1 wrote))

pub done_reported : (P : List ℕ → List ℕ → Type 0) (a b c : ℕ) (x y z : Option (List ℕ)) (form : Option Command) (may_answer : Answering) (told : Told) (names : List (List ℕ)) (s : Status)
    → OnDone s (ForOutput form may_answer told names (λ output note. P output note × Writes a b x y note)) → Writes b c y z (status_line s)
    → OnDone s (ForOutput form may_answer told names (λ output note. P output note × WritesBoth a c x z note (status_line s)))
done_reported P a b c x y z form may_answer told names status.Ok o wrote = reported P a b c x y z form may_answer told names (status_line status.Ok) o wrote
done_reported P a b c x y z form may_answer told names (status.Refused fault) o wrote = tt
done_reported P a b c x y z form may_answer told names status.Usage o wrote = tt
done_reported P a b c x y z form may_answer told names status.ReadFault o wrote = tt
done_reported P a b c x y z form may_answer told names status.WriteFault o wrote = tt
done_reported P a b c x y z form may_answer told names status.OutOfMemory o wrote = tt

pub part_reported : (P : List ℕ → List ℕ → Type 0) (a b c : ℕ) (x y z : Option (List ℕ)) (form : Option Command) (may_answer : Answering) (told : Told) (names : List (List ℕ)) (s : Status)
    → OnWriteFault s (ForOutput form may_answer told names (λ output note. P output note × Writes a b x y note)) → Writes b c y z (status_line s)
    → OnWriteFault s (ForOutput form may_answer told names (λ output note. P output note × WritesBoth a c x z note (status_line s)))
part_reported P a b c x y z form may_answer told names status.Ok o wrote = tt
part_reported P a b c x y z form may_answer told names (status.Refused fault) o wrote = tt
part_reported P a b c x y z form may_answer told names status.Usage o wrote = tt
part_reported P a b c x y z form may_answer told names status.ReadFault o wrote = tt
part_reported P a b c x y z form may_answer told names status.WriteFault o wrote = reported P a b c x y z form may_answer told names (status_line status.WriteFault) o wrote
part_reported P a b c x y z form may_answer told names status.OutOfMemory o wrote = tt
