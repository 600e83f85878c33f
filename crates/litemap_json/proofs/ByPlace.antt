-- A list that is read index by index.
use Rattle.std.proofs.Common.{◌≡◌, ℕ, suc, ◌+◌, ◌<◌, List, [], ◌∷◌, ◌++◌, length, get_or, drop, slice_get, refl, Option, Some, None, option_map, Ok, Err}
use Rattle.std.proofs.Common.{Result, sym, ◌∙◌, ap, add-one, drop-cons, append_assoc}
use Rattle.std.proofs.lemmas.List.{map-append}
use Rattle.std.proofs.lemmas.Option.{get_or_from_slice_get, slice_get_within}
use Rattle.serde_json.specs.Data.{Data, Members, put}
use Rattle.litemap_json.specs.Json.{object_with, prepended}
use Rattle.litemap_json.specs.Reading.{after, pair_seen, seen}
use Rattle.litemap_json.specs.declared.fault.JsonFault.{JsonFault}
use Rattle.litemap_json.specs.declared.fault.WriteFault.{WriteFault}
use Rattle.litemap_json.specs.declared.fault.WriteFault.TheVariants.{KeyWithoutText}

pub at_place : {X : Type 0} (L : List X) (i : ℕ) (x : X) → Some x ≡ slice_get L i → (i < length L) × (x ≡ get_or L i x)
at_place L i x e = (slice_get_within L i x (sym e), sym (get_or_from_slice_get L i x x (sym e)))

pub next : {X : Type 0} (L : List X) (i : ℕ) (x : X) → i < length L → x ≡ get_or L i x → drop i L ≡ x ∷ drop (i + 1) L
next L i x h e = rw add-one (drop-cons L i x h ∙ ap (λ y. y ∷ drop (suc i) L) (sym e))

module _ {K V : Type 0} (text : K → Option (List ℕ)) (key_json : K → Data) (json : V → Data) where
  pub made_step : (L : List (K × V)) (i : ℕ) (x : K × V) (s : List ℕ) (ms : Members) (r : Result Data WriteFault) → i < length L → x ≡ get_or L i x
      → text x.0 ≡ Some s
      → object_with text key_json json i ms (drop i L) ≡ r → object_with text key_json json (i + 1) (put s (json x.1) ms) (drop (i + 1) L) ≡ r
  made_step L i x s ms r h e named made = (rw (next L i x h e, named) at made)

  pub made_stop : {N : Type 0} (bytes : N → List ℕ) (L : List (K × V)) (i : ℕ) (x : K × V) (name : Option N) (ms : Members) (r : Result Data WriteFault)
      → Some x ≡ slice_get L i → option_map bytes name ≡ text x.0 → name ≡ None
      → object_with text key_json json i ms (drop i L) ≡ r → r ≡ Err (KeyWithoutText i)
  made_stop bytes L i x name ms r here made none so_far =
      let found = at_place L i x here in
      let unnamed : text x.0 ≡ None = sym made ∙ ap (option_map bytes) none in
      sym (rw (next L i x found.0 found.1, unnamed) at so_far)

pub after_none : (r : Result (List (Data × Data)) JsonFault) → r ≡ after [] r
after_none (Err e) = refl
after_none (Ok qs) = refl

after_more : (ps : List (Data × Data)) (p : Data × Data) (r : Result (List (Data × Data)) JsonFault) → after ps (prepended (Ok p) r) ≡ after (ps ++ p ∷ []) r
after_more ps p (Err e) = refl
after_more ps p (Ok qs) = ap Ok (sym (append_assoc ps (p ∷ []) qs))

-- a pair more is read
pub seen_more : {K V : Type 0} (key_json : K → Data) (json : V → Data) (L M : List (K × V)) (x : K × V) (all next : Result (List (Data × Data)) JsonFault)
    (a : Result (Data × Data) JsonFault)
    → M ≡ L ++ x ∷ [] → a ≡ Ok (pair_seen key_json json x) → all ≡ after (seen key_json json L) (prepended a next) → all ≡ after (seen key_json json M) next
seen_more key_json json L M x all next a pushed read so_far =
    rw pushed (rw (map-append (pair_seen key_json json) L (x ∷ [])) ((rw read at so_far) ∙ after_more (seen key_json json L) (pair_seen key_json json x) next))
