-- The calls that are to fail, through equal numbers and lists.
use Rattle.std.proofs.Common.{◌≡◌, ◌∙◌, ℕ, List, true, ap, sym}
use Rattle.lz_base.specs.MemoryFiles.{is_listed}

-- a call that the search found in a list is listed in an equal one
pub listed_in : (call next : ℕ) (fail items searched : List ℕ)
    → next ≡ call → items ≡ fail → searched ≡ items → true ≡ is_listed next searched → is_listed call fail ≡ true
listed_in call next fail items searched same_call same_fail same found =
    ap (λ n. is_listed n fail) (sym same_call) ∙ ap (λ l. is_listed next l) (sym same_fail ∙ sym same) ∙ sym found
