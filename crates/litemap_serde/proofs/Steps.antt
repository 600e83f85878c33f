-- Writing, pair by pair.
use Rattle.std.proofs.Common.{◌≡◌, ℕ, ◌+◌, ◌≤◌, List, length, take, slice_get, Some, sym, subst}
use Rattle.std.proofs.lemmas.List.{take_all}
use Rattle.std.proofs.lemmas.Option.{get_or_from_slice_get, slice_get_within}
use Rattle.serde.specs.Event.{Log, WritesEach}
use Rattle.serde.proofs.Events.{WritesEach-more}

pub more : {A : Type 0} (w : A → Log → Log → Type 0) (xs : List A) (i : ℕ) (x : A) (old mid new : Log) → slice_get xs i ≡ Some x
    → WritesEach w (take i xs) old mid → w x mid new
    → WritesEach w (take (i + 1) xs) old new
more w xs i x old mid new is h k = WritesEach-more w xs i x old mid new (slice_get_within xs i x is) (sym (get_or_from_slice_get xs i x x is)) h k

pub all : {A : Type 0} (w : A → Log → Log → Type 0) (xs : List A) (i : ℕ) (old new : Log) → length xs ≤ i → WritesEach w (take i xs) old new
    → WritesEach w xs old new
all w xs i old new past h = subst (λ ys. WritesEach w ys old new) (take_all i xs past) h
