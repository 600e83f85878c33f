-- A key above the last one of an ascending list.
use Rattle.litemap_store.proofs.Names.{[], ℕ, ◌++◌, ◌-◌, ◌∷◌, ◌≡◌, AllBelow, arith, IsTotalOrder, length, Less, List, Ordering}
use Rattle.litemap_store.proofs.Names.{Rising, slice_get, Some, subst, suc}
use Rattle.litemap_store.proofs.Lists.Joined.{In-slice_get, last_split}
use Rattle.litemap_store.proofs.Last.KeepLast.{all_below}
use Rattle.litemap_store.proofs.Lists.Membership.{each}
use Rattle.litemap_store.proofs.Search.Splitting.{each-append}

module _ {K V : Type 0} (cmp : K → K → Ordering) where
  -- if all keys are below k, so is the key at each index
  pub AllBelow-at : (L : List (K × V)) (k : K) (i : ℕ) (p : K × V) → AllBelow cmp L k → slice_get L i ≡ Some p → cmp p.0 k ≡ Less
  AllBelow-at L k i p b e = each (λ (q : K × V). cmp q.0 k ≡ Less) L b p (In-slice_get L i p e)

  -- a pair whose key is above all others goes after them
  pub Rising-push : (L : List (K × V)) (k : K) (v : V) → Rising cmp L → AllBelow cmp L k → Rising cmp (L ++ (k, v) ∷ [])
  Rising-push [] k v r b = (tt, tt)
  Rising-push (p ∷ L) k v r b = (each-append (λ (q : K × V). cmp p.0 q.0 ≡ Less) L ((k, v) ∷ []) r.0 (b.0, tt), Rising-push L k v r.1 b.1)

-- if the last key is below k, so are all
pub AllBelow-from_last : {K V : Type 0} {cmp : K → K → Ordering} → IsTotalOrder cmp → (L : List (K × V)) (k : K) (i : ℕ) (p : K × V) → Rising cmp L
    → suc i ≡ length L → slice_get L i ≡ Some p → cmp p.0 k ≡ Less → AllBelow cmp L k
AllBelow-from_last {K} {V} {cmp} o L k i p r n e l =
    let end = last_split L p (subst (λ (j : ℕ). slice_get L j ≡ Some p) {x = i} {y = length L - 1} (omega arith) e) in
    all_below o L end.0 p k r end.1 l
