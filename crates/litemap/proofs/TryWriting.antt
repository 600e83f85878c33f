-- What a closure writes into a list of pairs up to its first error.
--     with_written      a list with another value at an index, by its parts;  keys-written_until      what is left has the same keys
use Rattle.litemap.proofs.Common.{◌≡◌, ℕ, ◌+◌, List, [], ◌∷◌, ◌++◌, take, drop, slice_get, Some, ap, ◌∙◌, sym, append_assoc, Result, Ok, Err, Bor, MutBor, Mut}
use Rattle.litemap.proofs.Common.{set_value, keys_of, map, subst, OnOk}
use Rattle.std.proofs.lemmas.List.{take-append-drop}
use Rattle.std.specs.Result.{MatchResult}
use Rattle.litemap.specs.TryWritten.{TryWrites, WrittenUntil}
use Rattle.litemap.proofs.Writing.{drop-written, take-written}

pub with_written : {K V : Type 0} (L : List (K × V)) (i : ℕ) (p : K × V) (w : V) → slice_get L i ≡ Some p
    → set_value L i w ≡ take i L ++ (p.0, w) ∷ drop (i + 1) L
with_written L i p w e =
    sym (take-append-drop (i + 1) (set_value L i w)) ∙ ap (λ N. N ++ drop (i + 1) (set_value L i w)) (take-written L i p w e)
    ∙ append_assoc (take i L) ((p.0, w) ∷ []) (drop (i + 1) (set_value L i w)) ∙ ap (λ N. take i L ++ (p.0, w) ∷ N) (drop-written L i w)

module _ {F K V E : Type 0} (g : Mut F (Bor K × (MutBor V × Unit {0})) (Result (Unit {0}) E × (MutBor V × Unit {0}))) where
  pub keys-written_until : (f : F) (L M : List (K × V)) (r : Result (Unit {0}) E) → WrittenUntil g f L M r → keys_of M ≡ keys_of L
  keys-written_until f [] M r h = ap keys_of h.0
  keys-written_until f (p ∷ L) M r (q, f', answer, c, rest) =
      (elim answer as (λ a. MatchResult a (λ _. (N : List (K × V)) × WrittenUntil g f' L N r × (M ≡ q ∷ N)) (λ e. (r ≡ Err e) × (M ≡ q ∷ L))
      → keys_of M ≡ keys_of (p ∷ L)) [
        | Ok u ↦ λ h. ap keys_of h.2 ∙ ap (λ k. k ∷ keys_of h.0) (ap (λ x. x.0) c.leaves) ∙ ap (λ ks. p.0 ∷ ks) (keys-written_until f' L h.0 r h.1)
        | Err e ↦ λ h. ap keys_of h.1 ∙ ap (λ k. k ∷ keys_of L) (ap (λ x. x.0) c.leaves)
      ]) rest

  pub always_ok : (r : Result (Unit {0}) E) {P : Type 0} → P → OnOk r P
  always_ok (Ok u) p = p
  always_ok (Err e) p = tt

  pub map-written_until : (f : F) (write : K → V → V) → TryWrites g f write → (L M : List (K × V)) (r : Result (Unit {0}) E) → WrittenUntil g f L M r
      → OnOk r (M ≡ map (λ p. (p.0, write p.0 p.1)) L)
  map-written_until f write s [] M r h = always_ok r h.0
  map-written_until f write s (p ∷ L) M r (q, f', answer, c, rest) =
      let a = s p q answer f' c in
      (elim answer as (λ x. MatchResult x (λ _. (N : List (K × V)) × WrittenUntil g f' L N r × (M ≡ q ∷ N)) (λ e. (r ≡ Err e) × (M ≡ q ∷ L))
      → OnOk r (M ≡ map (λ p. (p.0, write p.0 p.1)) (p ∷ L))) [
        | Ok u ↦ λ h. more r (map-written_until f write s L h.0 r (subst (λ x. WrittenUntil g x L h.0 r) a.1 h.1)) (λ e. h.2 ∙ (λ i. a.0 i ∷ e i))
        | Err e ↦ λ h. subst (λ x. OnOk x (M ≡ map (λ p. (p.0, write p.0 p.1)) (p ∷ L))) (sym h.0) tt
      ]) rest
    where
      more : (r : Result (Unit {0}) E) {P Q : Type 0} → OnOk r P → (P → Q) → OnOk r Q
      more (Ok u) p h = h p
      more (Err e) p h = tt
