-- Numbers at keys, as in a count of words: each key's number after one is raised. For the proofs of callers.
--     value_at_equal      equal keys find the same value
--     number_at_raised      one more at each equal key, else as before
use Rattle.litemap_store.proofs.Names.{[], ℕ, ◌+◌, ◌∙◌, ◌∷◌, ◌≡◌, alike_right, ap, at, cond, Equal, Greater, is_eq, IsTotalOrder}
use Rattle.litemap_store.proofs.Names.{Less, List, Ordering, put, refl, Some, sym, tied_back, unwrap_or, value_at}
use Rattle.litemap_store.proofs.Callers.Lookups.{value_at-put, value_at-put_other}

module _ {K : Type 0} {cmp : K → K → Ordering} where
  at_equal : {V : Type 0} → IsTotalOrder cmp → (L : List (K × V)) (k q : K) → cmp k q ≡ Equal → at cmp L q ≡ at cmp L k
  at_equal o [] k q e = refl
  at_equal o (p ∷ L) k q e =
      ap (λ r. cond (is_eq r) (Some p) (at cmp L q)) (sym (alike_right o k q p.0 e)) ∙ ap (λ r. cond (is_eq (cmp p.0 k)) (Some p) r) (at_equal o L k q e)

  pub value_at_equal : {V : Type 0} → IsTotalOrder cmp → (L : List (K × V)) (k q : K) → cmp k q ≡ Equal → value_at cmp L q ≡ value_at cmp L k
  value_at_equal o L k q e = rw (at_equal o L k q e) refl

  by_case : (r : Ordering) (L : List (K × ℕ)) (k q : K) → IsTotalOrder cmp → cmp k q ≡ r
      → unwrap_or (value_at cmp (put cmp L k (unwrap_or (value_at cmp L k) 0 + 1)) q) 0 ≡ cond (is_eq r) (unwrap_or (value_at cmp L q) 0 + 1)
      (unwrap_or (value_at cmp L q) 0)
  by_case Equal L k q o e =
      let n = unwrap_or (value_at cmp L k) 0 + 1 in
      ap (λ v. unwrap_or v 0) (value_at_equal o (put cmp L k n) k q e ∙ value_at-put o k L n) ∙ ap (λ v. unwrap_or v 0 + 1) (sym (value_at_equal o L k q e))
  by_case Less L k q o e = ap (λ v. unwrap_or v 0) (value_at-put_other o L k q (λ h. let d : Less ≡ Equal = sym e ∙ tied_back o q k h in cc) _)
  by_case Greater L k q o e = ap (λ v. unwrap_or v 0) (value_at-put_other o L k q (λ h. let d : Greater ≡ Equal = sym e ∙ tied_back o q k h in cc) _)

  pub number_at_raised : (L : List (K × ℕ)) (k q : K) → IsTotalOrder cmp
      → unwrap_or (value_at cmp (put cmp L k (unwrap_or (value_at cmp L k) 0 + 1)) q) 0 ≡ cond (is_eq (cmp k q)) (unwrap_or (value_at cmp L q) 0 + 1)
      (unwrap_or (value_at cmp L q) 0)
  number_at_raised L k q o = by_case (cmp k q) L k q o refl
