-- A merge in which a closure writes values of the other map.
--     keys-combined, length-combined      the keys stay;  combined-from      if the closure computes a function, the list is mapped by it
--     callable_each      if it may be called on each key that a lookup finds, it may be called on each pair
--     value_at-combined      what a query finds in the merge
use Rattle.litemap.proofs.Common.{◌≡◌, List, [], ◌∷◌, Equal, Option, Some, None, option_map, length, arith, refl, ap, ◌∙◌}
use Rattle.std.specs.Prelude.{MatchOption}
use Rattle.litemap.proofs.Common.{Ordering, is_eq, true, false, Bor, MutBor, IsTotalOrder, tied_itself, Shared, keys_of}
use Rattle.litemap.proofs.Common.{option_map_or, option_or, Merge, Rising, at, value_at, at-rising, at-same, key_alike, key_same}
use Rattle.litemap.proofs.Common.{value_at-merged, at_in}
use Rattle.litemap_store.proofs.Lists.Membership.{from_each}
use Rattle.litemap.specs.Combined.{CallableOnCommon, CallableOnEachOf, Combined, Combines, LeavesOfBoth, combined, found_with}

-- one pair of them
abbrev combined_pair : {K V : Type 0} → (K → K → Ordering) → (K → V → V → V) → List (K × V) → K × V → K × V
combined_pair cmp combine L p = (p.0, option_map_or (λ here. combine p.0 here p.1) (value_at cmp L p.0) p.1)

module _ {F K V : Type 0} (g : Shared F (Bor K × (Bor V × (MutBor V × Unit {0}))) (Unit {0} × (MutBor V × Unit {0}))) (f : F) (cmp : K → K → Ordering)
    (L : List (K × V)) where
  pub keys-combined : (J M : List (K × V)) → Combined g f cmp L J M → keys_of M ≡ keys_of J
  keys-combined [] M h = ap keys_of h
  keys-combined (p ∷ J) M (w, N, s, h, is) = ap keys_of is ∙ ap (λ ks. p.0 ∷ ks) (keys-combined J N h)

  pub length-combined : (J M : List (K × V)) → Combined g f cmp L J M → length M ≡ length J
  length-combined [] M h = ap length h
  length-combined (p ∷ J) M (w, N, s, h, is) = omega (arith, ap length is, length-combined J N h)

  module _ (combine : K → V → V → V) (by : Combines g f combine) where
    settled : (k : K) (o : Option V) (w w' : V) → MatchOption o (w' ≡ w) (λ here. LeavesOfBoth g f k here w w')
        → w' ≡ option_map_or (λ here. combine k here w) o w
    settled k None w w' s = s
    settled k (Some here) w w' s = by k here w w' s

    pub combined-from : (J M : List (K × V)) → Combined g f cmp L J M → M ≡ combined cmp combine L J
    combined-from [] M h = h
    combined-from (p ∷ J) M (w, N, s, h, is) =
        is ∙ ap (λ x. (p.0, x) ∷ N) (settled p.0 (value_at cmp L p.0) p.1 w s) ∙ ap (λ ps. combined_pair cmp combine L p ∷ ps) (combined-from J N h)

  pub callable_each : IsTotalOrder cmp → (J : List (K × V)) → Rising cmp J → CallableOnCommon g f cmp L J → CallableOnEachOf g f cmp L J
  callable_each o J r c =
      from_each _ J (λ p i here is. c p.0 here p.1 is (at-rising cmp o cmp p.0 (key_same o p.0) (key_alike o p.0) J p r i (tied_itself o p.0)))

-- for any query, as in `MergeLookups`
module _ {K Q V : Type 0} (cmp : K → K → Ordering) (o : IsTotalOrder cmp) (order : K → Q → Ordering) (q : Q)
    (same : (x y : K) → order x q ≡ Equal → order y q ≡ Equal → cmp x y ≡ Equal)
    (alike : (x y : K) → cmp x y ≡ Equal → order x q ≡ Equal → order y q ≡ Equal)
    (combine : K → V → V → V) (A B M : List (K × V)) where
  at-combined : (J : List (K × V)) → at order (combined cmp combine A J) q ≡ option_map (combined_pair cmp combine A) (at order J q)
  at-combined [] = refl
  at-combined (p ∷ J) =
      (elim (is_eq (order p.0 q)) as
      (λ t. is_eq (order p.0 q) ≡ t → at order (combined cmp combine A (p ∷ J)) q ≡ option_map (combined_pair cmp combine A) (at order (p ∷ J) q)) [
        | true ↦ λ e. rw e refl
        | false ↦ λ e. rw e (at-combined J)
      ]) refl

  found_by : (a : Option V) (b : Option (K × V)) → ((p : K × V) → b ≡ Some p → value_at cmp A p.0 ≡ a)
      → option_or (option_map (λ (p : K × V). p.1) (option_map (combined_pair cmp combine A) b)) a ≡ found_with combine a b
  found_by None None h = refl
  found_by (Some v) None h = refl
  found_by None (Some p) h = rw (h p refl) refl
  found_by (Some v) (Some p) h = rw (h p refl) refl

  pub value_at-combined : Merge cmp A (combined cmp combine A B) M → value_at order M q ≡ found_with combine (value_at order A q) (at order B q)
  value_at-combined merge =
      value_at-merged cmp o order q same alike A (combined cmp combine A B) M merge
      ∙ ap (λ b. option_or (option_map (λ (p : K × V). p.1) b) (value_at order A q)) (at-combined B)
      ∙ found_by (value_at order A q) (at order B q)
      (λ p is. ap (option_map (λ (r : K × V). r.1)) (at-same cmp o order q same alike A p.0 (at_in order B q p is).1))
