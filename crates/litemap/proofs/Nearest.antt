-- The pair next to a query, on either side, by what a search found.
--     Nearest-floor_equal, Nearest-ceiling_equal      the pair with an equal key;  Nearest-floor, Nearest-no_floor, Nearest-ceiling      those beside where an
-- absent key would go
--     missing-index_of      an index at which a key would go is where a search finds none
use Rattle.litemap.proofs.Common.{◌≡◌, ◌≢◌, ◌+◌, ◌-◌, ◌<◌, ◌∙◌, ◌++◌, ◌∷◌, [], ℕ, zero, suc, List, Option, Some, None, Ok, Err, true, false, ap, arith, refl}
use Rattle.litemap.proofs.Common.{subst, sym, inl, inr, Ordering, Less, Equal, Greater, IsTotalOrder, tied_itself, is_lt, is_gt, is_some, IsSome, length}
use Rattle.litemap.proofs.Common.{option_map, slice_get, Rising, above, at, at_in, below, index_of, place, value_at, found_get, greater_back, slice_get-None}
use Rattle.std.specs.Prelude.{if◌then◌else◌}
use Rattle.litemap_store.specs.Queries.{OneSide, Respects, key_one_side}
use Rattle.litemap_store.specs.Splits.{IsFoundAt, IsMissingAt}
use Rattle.litemap_store.proofs.Names.{In}
use Rattle.litemap_store.proofs.Callers.LastLookups.{at-Rising}
use Rattle.litemap_store.proofs.Last.KeepLast.{rising_across}
use Rattle.litemap_store.proofs.Lists.Joined.{In-slice_get, empty_from_first, last_split}
use Rattle.litemap_store.proofs.Lists.Membership.{In-cases, In-filter, In-from_filter, each}
use Rattle.litemap_store.proofs.Search.Splitting.{Rising-filter, none_equal, parted}
use Rattle.litemap.specs.Nearest.{Nearest}

-- the last before a seam, and the first after it
before_seam : {X : Type 0} (A B : List X) (i : ℕ) → i < length A → slice_get (A ++ B) i ≡ slice_get A i
before_seam [] B i u = absurd (omega (arith, u))
before_seam (x ∷ A) B zero u = refl
before_seam (x ∷ A) B (suc i) u = before_seam A B i (omega (arith, u))

after_seam : {X : Type 0} (A B : List X) → slice_get (A ++ B) (length A) ≡ slice_get B 0
after_seam [] B = refl
after_seam (x ∷ A) B = after_seam A B

is_less : (s : Ordering) → s ≢ Equal → s ≢ Greater → is_lt s ≡ true
is_less Less n m = refl
is_less Equal n m = absurd (n refl)
is_less Greater n m = absurd (m refl)

is_more : (s : Ordering) → s ≢ Equal → s ≢ Less → is_gt s ≡ true
is_more Less n m = absurd (m refl)
is_more Equal n m = absurd (n refl)
is_more Greater n m = refl

module _ {K V : Type 0} {cmp : K → K → Ordering} (o : IsTotalOrder cmp) where
  not_past : (past : Ordering) → past ≢ Equal → (p r : K × V) → r ≡ p → cmp r.0 p.0 ≢ past
  not_past past n p r s e = n (sym e ∙ ap (λ (x : K × V). cmp x.0 p.0) s ∙ tied_itself o p.0)

  last_top : (M : List (K × V)) (p r : K × V) → Rising cmp M → slice_get M (length M - 1) ≡ Some p → In r M → cmp r.0 p.0 ≢ Greater
  last_top M p r rises e i =
      let end = last_split M p e in
      elim (In-cases end.0 (p ∷ []) r (subst (In r) end.1 i)) [
        | inl j ↦ λ h. let l : cmp r.0 p.0 ≡ Less = rising_across cmp end.0 (p ∷ []) (subst (Rising cmp) end.1 rises) r p j (inl refl) in cc
        | inr (inl s) ↦ not_past Greater (λ h. cc) p r (sym s)
        | inr (inr none) ↦ absurd none
      ]

  first_top : (M : List (K × V)) (p r : K × V) → Rising cmp M → slice_get M 0 ≡ Some p → In r M → cmp r.0 p.0 ≢ Less
  first_top [] p r rises e i = absurd i
  first_top (x ∷ M) p r rises e (inl s) = let t : x ≡ p = cc in not_past Less (λ h. cc) p r (sym s ∙ t)
  first_top (x ∷ M) p r rises e (inr i) = λ h.
      let t : x ≡ p = cc in
      let l : cmp p.0 r.0 ≡ Less = subst (λ (z : K × V). cmp z.0 r.0 ≡ Less) t (each (λ q. cmp x.0 q.0 ≡ Less) M rises.0 r i) in
      let back = o.trans p.0 r.0 p.0 l h in
      let same = tied_itself o p.0 in cc

module _ {K Q V : Type 0} {cmp : K → K → Ordering} (o : IsTotalOrder cmp) {order : K → Q → Ordering} (one : OneSide cmp order)
    (respects : Respects cmp order) (L : List (K × V)) (q : Q) (rising : Rising cmp L) where
  -- the pair at a key that is found
  pair_of : (k : K) → IsSome (value_at cmp L k) → (r : K × V) × In r L × (cmp r.0 k ≡ Equal)
  pair_of k there = by (at cmp L k) refl there
    where
      by : (r : Option (K × V)) → at cmp L k ≡ r → IsSome (option_map (λ p. p.1) r) → (r : K × V) × In r L × (cmp r.0 k ≡ Equal)
      by None e h = absurd (cc)
      by (Some r) e h = (r, (at_in cmp L k r e).0, (at_in cmp L k r e).1)

  nearest : (past : Ordering) (p : K × V) → In p L → order p.0 q ≢ past → ((r : K × V) → In r L → order r.0 q ≢ past → cmp r.0 p.0 ≢ past)
      → Nearest cmp order past L q (Some p)
  nearest past p i s next = record {
    there = at-Rising o L p.0 p rising i (tied_itself o p.0);
    side = s;
    next = λ k there n.
        let r = pair_of k there in
        (p, refl, λ h. next r.0 r.1 (λ e. n (sym (respects q r.0.0 k r.2) ∙ e)) (o.congr r.0.0 k p.0 r.2 ∙ h));
  }

  nothing : (past : Ordering) → ((r : K × V) → In r L → order r.0 q ≢ past → ⊥) → Nearest cmp order past L q None
  nothing past other = record {
    there = tt;
    side = tt;
    next = λ k there n. let r = pair_of k there in absurd (other r.0 r.1 (λ e. n (sym (respects q r.0.0 k r.2) ∙ e)));
  }

  -- a key is equal, at index i
  module _ (i : ℕ) (found : IsFoundAt order L q i) where
    here : In found.pair L
    here = In-slice_get L i found.pair (found_get order L q i found)

    pub Nearest-floor_equal : Nearest cmp order Greater L q (slice_get L i)
    Nearest-floor_equal = rw (found_get order L q i found)
        (nearest Greater found.pair here (λ h. let e = found.equal in cc)
        (λ r j n h. elim (one q found.pair.0 r.0 (greater_back o r.0 found.pair.0 h)) [ inl l ↦ (let e = found.equal in cc) | inr g ↦ n g ]))

    pub Nearest-ceiling_equal : Nearest cmp order Less L q (slice_get L i)
    Nearest-ceiling_equal = rw (found_get order L q i found)
        (nearest Less found.pair here (λ h. let e = found.equal in cc)
        (λ r j n h. elim (one q r.0 found.pair.0 h) [ inl l ↦ n l | inr g ↦ (let e = found.equal in cc) ]))

  -- no key is equal, and i keys are smaller
  module _ (i : ℕ) (missing : IsMissingAt order L q i) where
    unlike : (r : K × V) → In r L → order r.0 q ≢ Equal
    unlike = each (λ r. order r.0 q ≢ Equal) L (none_equal order L q missing.missing)

    low : (r : K × V) → In r L → order r.0 q ≢ Greater → In r (below order L q)
    low r j n = In-filter (λ p. is_lt (order p.0 q)) L r j (is_less (order r.0 q) (unlike r j) n)

    high : (r : K × V) → In r L → order r.0 q ≢ Less → In r (above order L q)
    high r j n = In-filter (λ p. is_gt (order p.0 q)) L r j (is_more (order r.0 q) (unlike r j) n)

    pub Nearest-floor : (j : ℕ) → i ≡ j + 1 → Nearest cmp order Greater L q (slice_get L j)
    Nearest-floor j e = by (slice_get L j) refl
      where
        long : suc j ≡ length (below order L q)
        long = let m = missing.place in omega arith

        same : slice_get L j ≡ slice_get (below order L q) j
        same = ap (λ M. slice_get M j) missing.is ∙ before_seam (below order L q) (above order L q) j (let l = long in omega arith)

        by : (found : Option (K × V)) → slice_get L j ≡ found → Nearest cmp order Greater L q found
        by None there = absurd (slice_get-None (below order L q) j (sym same ∙ there) (let l = long in omega arith))
        by (Some p) there =
            let last : slice_get (below order L q) (length (below order L q) - 1) ≡ Some p =
            subst (λ k. slice_get (below order L q) k ≡ Some p) {x = j} {y = length (below order L q) - 1} (let l = long in omega arith) (sym same ∙ there) in
            let inside = In-from_filter (λ x. is_lt (order x.0 q)) L p (In-slice_get (below order L q) _ p last) in
            nearest Greater p inside.0 (λ h. let l = inside.1 in let m : is_lt (order p.0 q) ≡ false = rw h refl in cc)
            (λ r k n. last_top o (below order L q) p r (Rising-filter cmp _ L rising) last (low r k n))

    pub Nearest-no_floor : i ≡ 0 → Nearest cmp order Greater L q None
    Nearest-no_floor e = nothing Greater (λ r j n. nowhere (below order L q) (sym missing.place ∙ e) r (low r j n))
      where
        nowhere : (M : List (K × V)) → length M ≡ 0 → (r : K × V) → In r M → ⊥
        nowhere [] e r j = j
        nowhere (x ∷ M) e r j = omega (arith, e)

    pub Nearest-ceiling : Nearest cmp order Less L q (slice_get L i)
    Nearest-ceiling =
        subst (Nearest cmp order Less L q)
        (sym (ap (slice_get L) missing.place ∙ ap (λ M. slice_get M (length (below order L q))) missing.is ∙ after_seam (below order L q) (above order L q)))
        (by (slice_get (above order L q) 0) refl)
      where
        by : (found : Option (K × V)) → slice_get (above order L q) 0 ≡ found → Nearest cmp order Less L q found
        by None e = nothing Less (λ r j n. subst (In r) (empty_from_first (above order L q) e) (high r j n))
        by (Some p) e =
            let inside = In-from_filter (λ x. is_gt (order x.0 q)) L p (In-slice_get (above order L q) 0 p e) in
            nearest Less p inside.0 (λ h. let l = inside.1 in let m : is_gt (order p.0 q) ≡ false = rw h refl in cc)
            (λ r k n. first_top o (above order L q) p r (Rising-filter cmp _ L rising) e (high r k n))

-- ---- an index at which an absent key would go
pub missing-index_of : {K V : Type 0} {cmp : K → K → Ordering} → IsTotalOrder cmp → (L : List (K × V)) (k : K) (i : ℕ) → Rising cmp L → index_of cmp L k ≡ Err i
    → IsMissingAt cmp L k i
missing-index_of {K} {V} {cmp} o L k i r e = by (at cmp L k) refl e
  where
    by : (x : Option (K × V)) → at cmp L k ≡ x → (if is_some x then Ok (place cmp L k) else Err (place cmp L k)) ≡ Err i → IsMissingAt cmp L k i
    by (Some p) h e = absurd (cc)
    by None h e = record { is = rw h at (parted (key_one_side o) L k r); place = (let s : place cmp L k ≡ i = cc in sym s); missing = h }
