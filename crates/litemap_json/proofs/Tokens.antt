-- A token that is written for a string, a boolean or a number is the tree of it.
use Rattle.std.proofs.Common.{◌≡◌, ℕ, ◌^◌, ◌<◌, ℤ, pos, negsuc, List, [], ◌∷◌, ◌++◌, Bool, true, false, cond, Some, None, option_and_then, decimal, nat_lt}
use Rattle.std.proofs.Common.{SFits, w64, refl, sym, ap, ◌∙◌, arith, append-nil, append_assoc}
use Rattle.std.specs.Fmt.{signed_decimal}
use Rattle.json.specs.Json as json
use Rattle.json.specs.Lex.{tokens}
use Rattle.json.specs.Print.{ArePrintable}
use Rattle.json.specs.Tree.{depth, json_tokens}
use Rattle.json.specs.Token as token
use Rattle.json.specs.Token.{Token}
use Rattle.json.proofs.Numbered.{ArePrintableOrBad-tokens, value-HasNumbers}
use Rattle.json.proofs.Printed.Trees.{ArePrintable-json_tokens, value-json_tokens}
use Rattle.serde_json.specs.Data.{Num, unsigned, negative, float, Data, boolean, number, string}
use Rattle.serde_json.specs.Find.{as_bool, as_i64, as_number, as_str, as_u64, is_float}
use Rattle.serde_json.specs.Read.{number_of}
use Rattle.serde_json.specs.Written.{unless_float}
use Rattle.serde_json.proofs.Numbers.{number_of-decimal, number_of-negative}
use Rattle.serde_json.proofs.Texts.{unless_float-number_of}
use Rattle.litemap_json.specs.Item.{pair_json}
use Rattle.litemap_json.specs.Written.{WritesTree}

pub writes_text : (d : Data) (s : List ℕ) (old new : List Token) → as_str d ≡ Some s → new ≡ old ++ token.string s ∷ [] → WritesTree d old new
writes_text (string r) s old new e t = let same : s ≡ r = cc in (json.string s, t, ap json.string same)
writes_text _ s old new e t = absurd cc

pub writes_flag : (d : Data) (b : Bool) (old new : List Token) → as_bool d ≡ Some b → new ≡ old ++ token.boolean b ∷ [] → WritesTree d old new
writes_flag (boolean c) b old new e t = let same : b ≡ c = cc in (json.boolean b, t, ap json.boolean same)
writes_flag _ b old new e t = absurd cc

-- a number's text, which is no float's, is kept
kept : (s : List ℕ) (n : Num) → number_of s ≡ Some n → is_float n ≡ false → unless_float s ≡ s
kept s n e h = unless_float-number_of s n e ∙ rw h

pub kept_signed : (z : ℤ) → SFits w64 z → unless_float (signed_decimal z) ≡ signed_decimal z
kept_signed (pos n) fits = kept (decimal n) (unsigned n) (number_of-decimal n (grind arith)) refl
kept_signed (negsuc n) fits = kept (signed_decimal (negsuc n)) (negative (negsuc n)) (number_of-negative n (grind arith)) refl

of_unsigned : (m : Num) (n : ℕ) (old new : List Token) → n < 2 ^ 64 → as_u64 m ≡ Some n → new ≡ old ++ token.number (decimal n) ∷ []
    → WritesTree (number m) old new
of_unsigned (unsigned m) n old new h e t =
    let same : n ≡ m = cc in (json.number (decimal n), t, ap json.number (kept (decimal n) (unsigned n) (number_of-decimal n h) refl ∙ ap decimal same))
of_unsigned _ n old new h e t = absurd cc

pub writes_unsigned : (d : Data) (n : ℕ) (old new : List Token) → n < 2 ^ 64 → option_and_then as_u64 (as_number d) ≡ Some n
    → new ≡ old ++ token.number (decimal n) ∷ [] → WritesTree d old new
writes_unsigned (number m) n old new h e t = of_unsigned m n old new h e t
writes_unsigned _ n old new h e t = absurd cc

-- the text is no float's
abbrev Kept : ℤ → Type 0
Kept z = unless_float (signed_decimal z) ≡ signed_decimal z

small : (m : ℕ) (z : ℤ) (b : Bool) → cond b (Some (pos m)) None ≡ Some z → pos m ≡ z
small m z true e = cc
small m z false e = absurd cc

of_signed : (m : Num) (z : ℤ) (old new : List Token) → Kept z → as_i64 m ≡ Some z → new ≡ old ++ token.number (signed_decimal z) ∷ []
    → WritesTree (number m) old new
of_signed (unsigned m) z old new h e t =
    let same : pos m ≡ z = small m z (nat_lt m (2 ^ 63)) e in (json.number (signed_decimal z), t, ap json.number (h ∙ ap signed_decimal (sym same)))
of_signed (negative y) z old new h e t = let same : z ≡ y = cc in (json.number (signed_decimal z), t, ap json.number (h ∙ ap signed_decimal same))
of_signed (float x) z old new h e t = absurd cc

pub writes_signed : (d : Data) (z : ℤ) (old new : List Token) → Kept z → option_and_then as_i64 (as_number d) ≡ Some z
    → new ≡ old ++ token.number (signed_decimal z) ∷ [] → WritesTree d old new
writes_signed (number m) z old new h e t = of_signed m z old new h e t
writes_signed _ z old new h e t = absurd cc

-- the tokens of two trees between brackets
pub writes_two : (d e : Data) (old opened first second new : List Token) → opened ≡ old ++ token.begin_array ∷ [] → WritesTree d opened first
    → WritesTree e first second → new ≡ second ++ token.end_array ∷ []
    → WritesTree (pair_json d e) old new
writes_two d e old opened first second new o a b c = (
  json.array (json.item a.0 (json.item b.0 json.no_items)),
  c ∙ ap (λ ts. ts ++ token.end_array ∷ []) (b.1 ∙ ap (λ ts. ts ++ json_tokens b.0) (a.1 ∙ ap (λ ts. ts ++ json_tokens a.0) o))
      ∙ simp append_assoc,
  rw (a.2, b.2),
)

-- a text that has the tokens of a tree has no bad one
pub printable : (text : List ℕ) (j : json.Json) → tokens text ≡ json_tokens j → ArePrintable (tokens text)
printable text j e =
    let read = ap (json.value (depth j)) (e ∙ sym (append-nil (json_tokens j))) ∙ value-json_tokens j (depth j) [] (omega arith) in
    rw e (ArePrintable-json_tokens j (value-HasNumbers (depth j) (tokens text) [] j (ArePrintableOrBad-tokens text) read))
