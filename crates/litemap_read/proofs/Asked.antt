-- What a function that reads a source returns.
--     asked_refused      memory ran out;  asked_failed      the source returned an error
use Rattle.std.proofs.Common.{◌≡◌, ◌≤◌, ℕ, List, Result, Ok, Err}
use Rattle.std.specs.Result.{IsErrAnd}
use Rattle.litemap_read.specs.Source.{IsAsked, IsLater}
use Rattle.litemap_read.specs.declared.source.ReadFault.{ReadFault}
use Rattle.litemap_read.specs.declared.source.ReadFault.TheVariants.{NoRoom, Source}

module _ {S P E A : Type 0} {gives : S → List P → Type 0} {left : S → ℕ} {allows : S → E → Type 0} {ends : S → Type 0} {leads : S → S → Type 0}
    {s t : S} where
  pub asked_refused : (r : Result A (ReadFault E)) → IsErrAnd r (λ e. e ≡ NoRoom) → IsLater gives s t → leads s t → 1 ≤ left s
      → IsAsked gives left allows ends leads s t r
  asked_refused (Ok x) is later led some = absurd is
  asked_refused (Err NoRoom) is later led some = record { ends = tt; empty = tt; error = tt; rest = later; leads = led; refused_some = λ _. some }
  asked_refused (Err (Source e)) is later led some = cc

  pub asked_failed : (e : E) → allows s e → IsLater gives s t → leads s t → IsAsked {A = A} gives left allows ends leads s t (Err (Source e))
  asked_failed e fault later led = record { ends = tt; empty = tt; error = fault; rest = later; leads = led; refused_some = λ is. cc }
