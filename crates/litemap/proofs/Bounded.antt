-- What keys find in the part of a map within two bounds.
use Rattle.litemap.proofs.Common.{◌≡◌, ◌∙◌, ◌&&◌, ◌-◌, ◌∷◌, [], Bool, true, false, true≢false, not, ℕ, List, Option, None, Some, length, slice_get}
use Rattle.litemap.proofs.Common.{ap, subst, sym, refl, keys_of, option_map, Ordering, Less, Equal, Greater, is_eq, is_gt, is_le, is_lt, equal_from_is_eq}
use Rattle.litemap.proofs.Common.{less_from_is_lt}
use Rattle.std.proofs.Common.{All, IfSome}
use Rattle.std.proofs.lemmas.List.Elements.{All-from_recursion}
use Rattle.std.specs.List.{AllByRecursion}
use Rattle.std.specs.declared.ops.Bound.{Bound}
use Rattle.std.specs.declared.ops.Bound.TheVariants.{Included, Excluded, Unbounded}
use Rattle.litemap_store.specs.Queries.{Respects}
use Rattle.litemap_store.proofs.Lists.Joined.{In-slice_get}
use Rattle.litemap_store.proofs.Lists.Membership.{In-from_filter, from_each}
use Rattle.litemap_store.specs.Last.{In}
use Rattle.litemap.specs.Within.{AreBetween, FindsBetween, IsBetween, IsFrom, IsUpTo, is_before, is_up_to, within}
use Rattle.litemap.proofs.Queried.{keeps_part}

past : (s : Ordering) → is_le s ≡ false → s ≡ Greater
past Less e = absurd (true≢false e)
past Equal e = absurd (true≢false e)
past Greater e = refl

up_to : (s : Ordering) → is_le s ≡ true → is_gt s ≡ false
up_to Less e = refl
up_to Equal e = refl
up_to Greater e = absurd (true≢false (sym e))

not_past : (s : Ordering) → is_gt s ≡ false → is_le s ≡ true
not_past Less e = refl
not_past Equal e = refl
not_past Greater e = absurd (true≢false e)

-- what holds of each pair by its key, of the keys
pub all_keys : {K V : Type 0} (P : K → Type 0) (M : List (K × V)) → AllByRecursion (λ p. P p.0) M → All P (keys_of M)
all_keys {K} {V} P M h = All-from_recursion P (keys_of M) (by M h)
  where
    by : (L : List (K × V)) → AllByRecursion (λ p. P p.0) L → AllByRecursion P (keys_of L)
    by [] k = tt
    by (p ∷ L) k = (k.0, by L k.1)

module _ {K Q : Type 0} (order : K → Q → Ordering) where
  from_test : (from : Bound Q) (k : K) → is_before order from k ≡ false → IsFrom order from k
  from_test (Included q) k e = e
  from_test (Excluded q) k e = past (order k q) e
  from_test Unbounded k e = tt

  test_from : (from : Bound Q) (k : K) → IsFrom order from k → is_before order from k ≡ false
  test_from (Included q) k h = h
  test_from (Excluded q) k h = ap is_le h
  test_from Unbounded k h = refl

  up_to_test : (to : Bound Q) (k : K) → is_up_to order to k ≡ true → IsUpTo order to k
  up_to_test (Included q) k e = up_to (order k q) e
  up_to_test (Excluded q) k e = less_from_is_lt (order k q) e
  up_to_test Unbounded k e = tt

  test_up_to : (to : Bound Q) (k : K) → IsUpTo order to k → is_up_to order to k ≡ true
  test_up_to (Included q) k h = not_past (order k q) h
  test_up_to (Excluded q) k h = ap is_lt h
  test_up_to Unbounded k h = refl

  module _ (from to : Bound Q) where
    -- the test by which `within` filters
    abbrev keep : K → Bool
    keep k = not (is_before order from k) && is_up_to order to k

    between_kept : (k : K) → keep k ≡ true → IsBetween order from to k
    between_kept k = by (is_before order from k) (is_up_to order to k) refl refl
      where
        by : (b u : Bool) → is_before order from k ≡ b → is_up_to order to k ≡ u → not b && u ≡ true → IsBetween order from to k
        by false true e f h = (from_test from k e, up_to_test to k f)
        by false false e f h = absurd (true≢false (sym h))
        by true u e f h = absurd (true≢false (sym h))

    kept_between : (k : K) → IsBetween order from to k → keep k ≡ true
    kept_between k h = rw (test_from from k h.0, test_up_to to k h.1) refl

    dropped : (k : K) → (IsBetween order from to k → ⊥) → keep k ≡ false
    dropped k n = by (keep k) refl
      where
        by : (b : Bool) → keep k ≡ b → b ≡ false
        by true e = absurd (n (between_kept k e))
        by false e = refl

    module _ {cmp : K → K → Ordering} (respects : Respects cmp order) (x k : K) (same : cmp x k ≡ Equal) where
      before_alike : (b : Bound Q) → is_before order b x ≡ is_before order b k
      before_alike (Included q) = ap is_lt (respects q x k same)
      before_alike (Excluded q) = ap is_le (respects q x k same)
      before_alike Unbounded = refl

      up_to_alike : (b : Bound Q) → is_up_to order b x ≡ is_up_to order b k
      up_to_alike (Included q) = ap is_le (respects q x k same)
      up_to_alike (Excluded q) = ap is_lt (respects q x k same)
      up_to_alike Unbounded = refl

      keep_alike : keep x ≡ keep k
      keep_alike = rw (before_alike from, up_to_alike to) refl

    module _ {V : Type 0} (L M : List (K × V)) (part : M ≡ within order L from to) where
      inside_part : (p : K × V) → In p M → IsBetween order from to p.0
      inside_part p i = between_kept p.0 (In-from_filter (λ x. keep x.0) L p (subst (In p) part i)).1

      inside_at : (i : ℕ) → IfSome (slice_get M i) (λ p. IsBetween order from to p.0)
      inside_at i = by (slice_get M i) refl
        where
          by : (o : Option (K × V)) → slice_get M i ≡ o → IfSome o (λ p. IsBetween order from to p.0)
          by None e = tt
          by (Some p) e = inside_part p (In-slice_get M i p e)

      pub each_between : AllByRecursion (λ p. IsBetween order from to p.0) M
      each_between = from_each _ M inside_part

      pub are_between : AreBetween order from to M
      are_between = record {
        each = All-from_recursion _ M each_between;
        first = inside_at 0;
        last = inside_at (length M - 1);
      }

      pub finds_between : {cmp : K → K → Ordering} → Respects cmp order → FindsBetween cmp order from to L M
      finds_between {cmp} respects =
          let parts = keeps_part (λ p. keep p.0) L M part in
          record {
            stays = λ k h. ap (option_map (λ p. p.1)) (parts.stays.found (λ p. is_eq (cmp p.0 k))
                (λ p t. keep_alike respects p.0 k (equal_from_is_eq (cmp p.0 k) t) ∙ kept_between k h));
            gone = λ k n. ap (option_map (λ p. p.1)) (parts.gone (λ p. is_eq (cmp p.0 k))
                (λ p t. keep_alike respects p.0 k (equal_from_is_eq (cmp p.0 k) t) ∙ dropped k n));
          }
