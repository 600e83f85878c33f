-- Parts of a list whose keys ascend.
--     Rising-sub, Rising-drop      the pairs between two indices ascend, and those from one on
--     Less-from_Rising      of two neighbours the later one has the greater key
use Rattle.litemap_store.proofs.Names.{ℕ, ◌&&◌, ◌+◌, ◌-◌, ◌<◌, ◌≡◌, ◌≤◌, arith, Bool, cond, drop, false, get_or, get_or-drop, get_or-take}
use Rattle.litemap_store.proofs.Names.{get_or_from_slice_get, is_lt, length, length-drop, length-take, Less, List, min, nat_le, None, Ordering, Rising}
use Rattle.litemap_store.proofs.Names.{slice_get, slice_get_within, slice_range, Some, sub, subst, sym, take, true}
use Rattle.litemap_store.proofs.Lists.Places.{AllPairs-from_Rising, Rising-from_AllPairs}
use Rattle.litemap_store.proofs.Search.Splitting.{less_from_is_lt}

module _ {K V : Type 0} (cmp : K → K → Ordering) where
  pub Rising-take : (L : List (K × V)) (n : ℕ) → Rising cmp L → Rising cmp (take n L)
  Rising-take L n r = Rising-from_AllPairs cmp (take n L) (λ i j d lt h.
      let w : j < min n (length L) = rw length-take at h in
      rw (get_or-take n L i d (omega arith), get_or-take n L j d (omega arith)) (AllPairs-from_Rising cmp L r i j d lt (omega arith)))

  pub Rising-drop : (L : List (K × V)) (n : ℕ) → Rising cmp L → Rising cmp (drop n L)
  Rising-drop L n r = Rising-from_AllPairs cmp (drop n L) (λ i j d lt h.
      let w : j < length L - n = rw length-drop at h in
      rw (get_or-drop n L i d, get_or-drop n L j d) (AllPairs-from_Rising cmp L r (n + i) (n + j) d (omega arith) (omega arith)))

  where_defined : (t : Bool) (P M : List (K × V)) → Rising cmp P → Some M ≡ cond t (Some P) None → Rising cmp M
  where_defined true P M r e = let is : P ≡ M = cc in subst (Rising cmp) is r
  where_defined false P M r e = cc

  pub Rising-sub : (L : List (K × V)) (a b : ℕ) (M : List (K × V)) → Rising cmp L → Some M ≡ sub L a b → Rising cmp M
  Rising-sub L a b M r e = where_defined (nat_le a b && nat_le b (length L)) (slice_range L a b) M (Rising-take (drop a L) (b - a) (Rising-drop L a r)) e

  -- of two neighbours of an ascending list the later one has the greater key
  pub Less-from_Rising : (L : List (K × V)) (n : ℕ) (p q : K × V) → 1 ≤ n → Rising cmp L → slice_get L (n - 1) ≡ Some p → slice_get L n ≡ Some q
      → cmp p.0 q.0 ≡ Less
  Less-from_Rising L n p q l r a b =
      let h : n < length L = slice_get_within L n q b in
      let step : cmp (get_or L (n - 1) p).0 (get_or L n p).0 ≡ Less = AllPairs-from_Rising cmp L r (n - 1) n p (omega arith) h in
      rw (get_or_from_slice_get L (n - 1) p p a, get_or_from_slice_get L n q p b) at step

pub Less-from_is_lt : (o : Ordering) → true ≡ is_lt o → o ≡ Less
Less-from_is_lt o e = less_from_is_lt o (sym e)
