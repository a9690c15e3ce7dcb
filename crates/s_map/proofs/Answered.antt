-- What the reader of networks answers, in the words of this crate.
use Rattle.std.proofs.Common.{◌≡◌, ◌≤◌, ℕ, List, length, Result, Ok, Err}
use Rattle.std.specs.Prelude.{IfOk}
use Rattle.lz_base.specs.Answers.{Answers, IfFault}
use Rattle.lz_base.specs.Limits.{text_limit}
use Rattle.lz_base.specs.declared.fault.Stop.{Stop}
use Rattle.lz_base.specs.declared.fault.Stop.TheVariants as stop
use Rattle.g_net.specs.Network.{NetworkValue, IsWellFormed}
use Rattle.g_text.specs.Answers.{IsTextOf}
use Rattle.g_text.specs.Form.{HasForm}
use Rattle.g_text.specs.Text.{text}
use Rattle.s_map.specs.Texts.{IsNetwork}

pub is_network : (bytes : List ℕ) (r : Result NetworkValue Stop) → length bytes ≤ text_limit → IfOk r (IsTextOf bytes) → IfOk r IsWellFormed → IfOk r (IsNetwork bytes)
is_network bytes (Ok n) within is formed = record { within = within; form = is.form; formed = formed; printed = is.spelled }
is_network bytes (Err e) within is formed = tt

pub is_alone : (bytes : List ℕ) (r : Result NetworkValue Stop) → IfOk r (IsTextOf bytes) → IfOk r (λ (n : NetworkValue). (other : NetworkValue) → IsNetwork bytes other → other ≡ n)
is_alone bytes (Ok n) is = λ other read. is.alone other read.form read.printed
is_alone bytes (Err e) is = tt

-- no fault is answered for the text of a network
pub no_fault : (bytes : List ℕ) (n : NetworkValue) (r : Result NetworkValue Stop) → ((m : NetworkValue) → HasForm m → IsWellFormed m → bytes ≡ text m → Answers {X = NetworkValue} {A = NetworkValue} (λ k. k) r m)
    → IsNetwork bytes n → IfFault r (λ _. ⊥)
no_fault bytes n (Ok m) only read = tt
no_fault bytes n (Err (stop.Fault fault)) only read = only n read.form read.formed read.printed
no_fault bytes n (Err stop.OutOfMemory) only read = tt
