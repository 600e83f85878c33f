-- Lemmas on words, and on lines that are cut at a space.
use Rattle.std.proofs.Common.{◌≡◌, ◌<◌, ◌++◌, ◌∷◌, ◌==◌, ℕ, List, [], false, refl, sym, ap, ◌∙◌, arith}
use Rattle.std.specs.List.{All, slice_split}
use Rattle.std.specs.Str.{IsUtf8}
use Rattle.std.proofs.lemmas.Bool.{ne_eqb}
use Rattle.std.proofs.lemmas.List.{append_cancel_left}
use Rattle.std.proofs.lemmas.List.Splits.{slice_split_at, slice_split_none}
use Rattle.std.proofs.lemmas.List.Elements.{All-weaker}
use Rattle.std.proofs.lemmas.Str.{IsUtf8-from_ascii}
use Rattle.std.proofs.lemmas.Str.Ascii.{IsAscii-from_all}
use Rattle.names_core.specs.Line.{IsGraphic, IsWord}

-- a word is UTF-8
pub IsUtf8_word : (bytes : List ℕ) → IsWord bytes → IsUtf8 bytes
IsUtf8_word bytes w = IsUtf8-from_ascii bytes (IsAscii-from_all bytes (All-weaker IsGraphic (λ b. b < 128) (λ b p. omega arith) bytes w.1))

-- two words are what stands between the spaces of their text
pub words_split : (name line rest key value : List ℕ) → line ≡ name ++ rest → line ≡ name ++ (key ++ (32 ∷ value)) → IsWord key → IsWord value
    → slice_split (λ b. b == 32) rest ≡ key ∷ (value ∷ [])
words_split name line rest key value is e k v =
    rw (append_cancel_left name rest (key ++ (32 ∷ value)) (sym is ∙ e))
    (slice_split_at (λ b. b == 32) key 32 value (whole key k) refl ∙ ap (λ parts. key ∷ parts) (slice_split_none (λ b. b == 32) value (whole value v)))
  where
    whole : (word : List ℕ) → IsWord word → All (λ b. (b == 32) ≡ false) word
    whole word w = All-weaker IsGraphic (λ b. (b == 32) ≡ false) (λ b p. ne_eqb b 32 (λ e. omega arith)) word w.1
