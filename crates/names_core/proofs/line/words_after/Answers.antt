use Rattle.std.proofs.Common.{◌≡◌, ◌==◌, ◌∷◌, [], ap, ◌∙◌, refl, subst}
use Rattle.std.specs.List.{join_with_byte, slice_split}
use Rattle.std.proofs.lemmas.List.Splits.{join_with_byte-slice_split, slice_split_at, slice_split_none}
use Rattle.names_core.specs.Line.{IsWord}
use Rattle.names_core.proofs.Cuts.{words_split}
use Rattle.names_core.proofs.line.words_after.Goals as goal

pub returns-in_err-key : goal.returns-in_err-key
returns-in_err-key c = rw c.from_residual-in_err-key.ensures (λ key value e k v.
    let parts = words_split _ _ _ key value c.in_ok-after_prefix.ensures e k v in
    absurd (cc (slice_split_none (λ b. b == 32) _ c.in_err-key.ensures)))

pub returns-in_err-word : goal.returns-in_err-word
returns-in_err-word c = rw c.from_residual-in_err-word.ensures (λ key value e k v.
    let parts = rw c.in_ok-key.ensures.0 at (words_split _ _ _ key value c.in_ok-after_prefix.ensures e k v) in
    c.in_err-word.ensures (subst IsWord (cc (slice_split_at (λ b. b == 32) _ 32 c.in_ok-key.value.now c.in_ok-key.ensures.1 refl)) k))

pub returns-in_err-word-2 : goal.returns-in_err-word-2
returns-in_err-word-2 c = rw c.from_residual-in_err-word-2.ensures (λ key value e k v.
    let parts = rw c.in_ok-key.ensures.0 at (words_split _ _ _ key value c.in_ok-after_prefix.ensures e k v) in
    let one : value ∷ [] ≡ slice_split (λ b. b == 32) c.in_ok-key.value.now =
    cc (slice_split_at (λ b. b == 32) _ 32 c.in_ok-key.value.now c.in_ok-key.ensures.1 refl) in
    c.in_err-word-2.ensures (subst IsWord (ap (join_with_byte 32) one ∙ join_with_byte-slice_split 32 c.in_ok-key.value.now) v))
