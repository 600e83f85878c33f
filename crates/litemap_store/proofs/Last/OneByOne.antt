-- A pair that is moved to its place among the first of a list, from after them.
--     put_over, put_between      replacing the pair of an equal key, and between others
--     kept_put      what is kept so far, with one more pair
use Rattle.litemap_store.proofs.Names.{[], ℕ, ◌++◌, ◌+◌, ◌-◌, ◌<◌, ◌∙◌, ◌∷◌, ◌≡◌, ◌≤◌, ap, arith, drop, drop-append_seam, drop-take, drop_more, get_or}
use Rattle.litemap_store.proofs.Names.{get_or-drop, get_or_from_slice_get, IsFoundAt, IsMissingAt, IsPutIn, IsTotalOrder, Last, length, length-drop}
use Rattle.litemap_store.proofs.Names.{length-take-le, length_push, List, Ordering, set, slice_get, slice_get_within, Some, subst₂, suc, swap, swap_is, sym}
use Rattle.litemap_store.proofs.Names.{take, take-append-add, take-append-le, take-append_seam, take-set-le, take-set-lt, take-take, take_more}
use Rattle.std.proofs.lemmas.Slice.{drop-put_mid}
use borrow.Rule.Slice.PartMut.{mid_of, put_mid}
use Rattle.litemap_store.proofs.Last.KeepLast.{KeptLast, drop-swap}
use Rattle.litemap_store.proofs.Last.Pairs.{Last-put}
use Rattle.litemap_store.proofs.Lists.Seams.{found_over, found_within, missing_between, missing_within}

-- a part whose last element was brought to its front
turned : {X : Type 0} (part M ys : List X) (x : X) → part ≡ M ++ x ∷ [] → ys ≡ drop (length part - 1) part ++ take (length part - 1) part → ys ≡ x ∷ M
turned part M ys x e is =
    let long : length part - 1 ≡ length M = omega (arith, ap length e, length_push M x) in
    is ∙ ap (λ n. drop n part ++ take n part) long ∙ ap (λ L. drop (length M) L ++ take (length M) L) e
    ∙ ap (λ L. L ++ take (length M) (M ++ x ∷ [])) (drop-append_seam M (x ∷ [])) ∙ ap (λ L. x ∷ L) (take-append_seam M (x ∷ []))

module _ {K V : Type 0} (cmp : K → K → Ordering) (xs : List (K × V)) (k at : ℕ) (p : K × V) (before : k ≤ at) (within : at < length xs)
    (is : slice_get xs at ≡ Some p) where
  first : length (take k xs) ≡ k
  first = length-take-le k xs (omega arith)

  pub put_over : (i : ℕ) → IsFoundAt cmp (take k xs) p.0 i → IsPutIn cmp xs (swap xs i at) k k at
  put_over i f =
      let low : i < length (take k xs) = found_within cmp (take k xs) p.0 i f in
      let len = first in
      let lower : i < k = omega arith in
      record {
        pair = p;
        is = is;
        put = ap (take k) (sym (swap_is xs i at p (omega arith) within)) ∙ take-set-le k _ at _ before ∙ take-set-lt k xs i (get_or xs at p) lower
            ∙ ap (set (take k xs) i) (get_or_from_slice_get xs at p p is) ∙ found_over cmp (take k xs) p.0 i f p;
        after = drop-swap xs i at p (omega arith) within;
      }

  -- those from i on, of which p is the last
  part : (i : ℕ) → i ≤ at → mid_of i (at + 1 - i) xs ≡ take (at - i) (drop i xs) ++ p ∷ []
  part i low =
      let more : at + 1 - i ≡ at - i + 1 = omega arith in
      let there : i + (at - i) ≡ at = omega arith in
      let long = length-drop i xs in
      ap (λ n. take n (drop i xs)) more ∙ take_more (drop i xs) (at - i) p (omega arith)
      ∙ ap (λ x. take (at - i) (drop i xs) ++ x ∷ []) (get_or-drop i xs (at - i) p ∙ ap (λ n. get_or xs n p) there ∙ get_or_from_slice_get xs at p p is)

  -- the first i, then p, then the others of the first k
  lifted : (i : ℕ) (ys rest : List (K × V)) → i ≤ k → ys ≡ p ∷ take (at - i) (drop i xs) → take (k + 1) (take i xs ++ (ys ++ rest)) ≡ take i (take k xs)
      ++ p ∷ drop i (take k xs)
  lifted i ys rest low e =
      let M = take (at - i) (drop i xs) in
      let len : length (take i xs) ≡ i = length-take-le i xs (omega arith) in
      let more : k + 1 ≡ length (take i xs) + suc (k - i) = omega arith in
      let long = length-drop i xs in
      let enough : length M ≡ at - i = length-take-le (at - i) (drop i xs) (omega arith) in
      let all : k ≡ i + (k - i) = omega arith in
      let others : take (k - i) (M ++ rest) ≡ drop i (take k xs) =
      take-append-le (k - i) M rest (omega arith) ∙ take-take (k - i) (at - i) (drop i xs) (omega arith) ∙ sym (drop-take i (k - i) xs)
      ∙ ap (λ n. drop i (take n xs)) (sym all) in
      ap (λ n. take n (take i xs ++ (ys ++ rest))) more ∙ take-append-add (take i xs) (ys ++ rest) (suc (k - i))
      ∙ ap (λ L. take i xs ++ take (suc (k - i)) (L ++ rest)) e
      ∙ ap (λ L. take i xs ++ p ∷ L) others ∙ ap (λ L. L ++ p ∷ drop i (take k xs)) (sym (take-take i k xs low))

  pub put_between : (i : ℕ) (ys : List (K × V)) → IsMissingAt cmp (take k xs) p.0 i → length ys ≡ length (mid_of i (at + 1 - i) xs)
      → ys ≡ drop (length (mid_of i (at + 1 - i) xs) - 1) (mid_of i (at + 1 - i) xs) ++ take (length (mid_of i (at + 1 - i) xs) - 1) (mid_of i (at + 1 - i) xs)
      → IsPutIn cmp xs (put_mid i (at + 1 - i) xs ys) k (k + 1) at
  put_between i ys m same e =
      let len = first in
      let low : i ≤ k = let l = missing_within cmp (take k xs) p.0 i m in omega arith in
      let long = length-drop i xs in
      let room : length (mid_of i (at + 1 - i) xs) ≡ at + 1 - i = length-take-le (at + 1 - i) (drop i xs) (omega arith) in
      record {
        pair = p;
        is = is;
        put = lifted i ys _ low (turned _ _ ys p (part i (omega arith)) e) ∙ missing_between cmp (take k xs) p.0 i m p;
        after = drop-put_mid i (at + 1 - i) xs ys (at + 1) (omega arith) (omega arith) (same ∙ room);
      }

pub kept_put : {K V : Type 0} (cmp : K → K → Ordering) → IsTotalOrder cmp → (S xs ys : List (K × V)) (k n i : ℕ) → KeptLast cmp S xs k i → length ys ≡ length xs
    → IsPutIn cmp xs ys k n i → KeptLast cmp S ys n (i + 1)
kept_put cmp o S xs ys k n i kept same put =
    let p = put.pair in
    let long = kept.long in
    let within : i < length xs = slice_get_within xs i p put.is in
    let a = drop_more xs i p within in
    let b = drop_more S i p (omega arith) in
    let c = kept.rest in
    let read = get_or_from_slice_get xs i p p put.is in
    let both : (get_or S i p ≡ p) × (drop (i + 1) xs ≡ drop (i + 1) S) = (cc, cc) in
    let all : take (i + 1) S ≡ take i S ++ p ∷ [] = take_more S i p (omega arith) ∙ ap (λ x. take i S ++ x ∷ []) both.0 in
    record {
      long = same ∙ long;
      last = subst₂ (Last cmp) (sym all) (sym put.put) (Last-put cmp o (take i S) (take k xs) kept.last p);
      rest = put.after ∙ both.1;
    }
