-- What a stable sort keeps, and a pass that keeps the last of each run of equal keys.
--     last_by_stable      the same pairs are last after it;  KeptLast, passed_over, passed_more      what the pass has kept so far, and after one more pair
--     Last-push      a pair above all goes after the last pairs;  all_below      keys below one above the last;  filter_all, filter_none, last_cases      lists
use Rattle.litemap_store.proofs.Names.{[], ℕ, ◌++◌, ◌+◌, ◌<◌, ◌↔◌, ◌∙◌, ◌∷◌, ◌≡◌, ◌≢◌, ◌≤◌, ◌⊎◌, above, alike_right, AllBelow, ap, append-nil, arith, below}
use Rattle.litemap_store.proofs.Names.{Bool, cases_lt, cond, drop, drop-set-lt, drop_more, Equal, false, filter, filter-append, get_or, get_or_default, Greater}
use Rattle.litemap_store.proofs.Names.{In, inl, inr, is_eq, is_gt, is_lt, IsSortedByKey, IsTotalOrder, Last, length, length-swap, Less, List, Ordering}
use Rattle.litemap_store.proofs.Names.{ranks_by, refl, Rising, set, set-set, sorted_far, StandsLast, subst, subst₂, suc, swap, swap_is, sym, take, take-set-le}
use Rattle.litemap_store.proofs.Names.{take_more, take_more_set, tied_back, tied_itself, true, true≢false, zero}
use Rattle.std.specs.List.Sorted.{IsStableBy, ties}
use Rattle.litemap_store.proofs.Lists.Membership.{In-right, In-filter, In-from_filter, each, from_each}
use Rattle.litemap_store.proofs.Last.Pairs.{In-from_last, Last-put}
use Rattle.litemap_store.proofs.Search.Splitting.{each-append, equal_from_is_eq, greater_back}

-- ---- filters that keep all or none
pub filter_all : {X : Type 0} (t : X → Bool) (L : List X) → ((x : X) → In x L → t x ≡ true) → filter t L ≡ L
filter_all t [] f = refl
filter_all t (y ∷ L) f = rw (f y (inl refl)) (ap (λ M. y ∷ M) (filter_all t L (λ x i. f x (inr i))))

pub filter_none : {X : Type 0} (t : X → Bool) (L : List X) → ((x : X) → In x L → t x ≡ false) → filter t L ≡ []
filter_none t [] f = refl
filter_none t (y ∷ L) f = rw (f y (inl refl)) (filter_none t L (λ x i. f x (inr i)))

pub In-take : {X : Type 0} (i : ℕ) (L : List X) (x : X) → In x (take i L) → (k : ℕ) × (k < i) × (k < length L) × ((d : X) → get_or L k d ≡ x)
In-take zero L x h = absurd h
In-take (suc i) [] x h = absurd h
In-take (suc i) (y ∷ L) x (inl e) = (0, omega arith, omega arith, λ d. e)
In-take (suc i) (y ∷ L) x (inr h) = let r = In-take i L x h in (suc r.0, (let a = r.1 in omega arith), (let b = r.2 in omega arith), r.3)

pub last_cases : {X : Type 0} (L : List X) → (L ≡ []) ⊎ ((N : List X) × (q : X) × (L ≡ N ++ q ∷ []))
last_cases [] = inl refl
last_cases (x ∷ L) = inr (elim (last_cases L) [
  | inl e ↦ ([], x, ap (λ M. x ∷ M) e)
  | inr h ↦ (x ∷ h.0, h.1, ap (λ M. x ∷ M) h.2)
])

-- ---- a swap that brings the element at i down to k
pub take-swap : {X : Type 0} (xs : List X) (k i : ℕ) (d : X) → k ≤ i → i < length xs → take (k + 1) (swap xs k i) ≡ take k xs ++ get_or xs i d ∷ []
take-swap xs k i d le h =
    let is = swap_is xs k i d (omega arith) h in
    elim (cases_lt k i) [
      | inl before ↦ rw (← is)
          (take-set-le (k + 1) (set xs k (get_or xs i d)) i (get_or xs k d) (omega arith) ∙ take_more_set xs k (get_or xs i d) (omega arith))
      | inr not_before ↦ let e : k ≡ i = omega arith in rw (← is, e, set-set) (take_more_set xs i (get_or xs i d) h)
    ]

pub drop-swap : {X : Type 0} (xs : List X) (k i : ℕ) (d : X) → k ≤ i → i < length xs → drop (i + 1) (swap xs k i) ≡ drop (i + 1) xs
drop-swap xs k i d le h =
    let is = swap_is xs k i d (omega arith) h in
    rw (← is) (drop-set-lt (i + 1) (set xs k (get_or xs i d)) i (get_or xs k d) (omega arith) ∙ drop-set-lt (i + 1) xs k (get_or xs i d) (omega arith))

pub rising_across : {K V : Type 0} (cmp : K → K → Ordering) (A B : List (K × V)) → Rising cmp (A ++ B) → (a b : K × V) → In a A → In b B → cmp a.0 b.0 ≡ Less
rising_across cmp [] B r a b i j = absurd i
rising_across {K} {V} cmp (x ∷ A) B r a b (inl e) j =
    subst (λ (y : K × V). cmp y.0 b.0 ≡ Less) e (each (λ (q : K × V). cmp x.0 q.0 ≡ Less) (A ++ B) r.0 b (In-right A B b j))
rising_across cmp (x ∷ A) B r a b (inr i) j = rising_across cmp A B r.1 a b i j

-- if the last key is below k, so are all
pub all_below : {K V : Type 0} {cmp : K → K → Ordering} → IsTotalOrder cmp → (L N : List (K × V)) (l : K × V) (k : K) → Rising cmp L → L ≡ N ++ l ∷ []
    → cmp l.0 k ≡ Less → AllBelow cmp L k
all_below {K} {V} {cmp} o L N l k r e less =
    rw e (each-append (λ (q : K × V). cmp q.0 k ≡ Less) N (l ∷ [])
    (from_each (λ (q : K × V). cmp q.0 k ≡ Less) N (λ x i. o.trans x.0 l.0 k (rising_across cmp N (l ∷ []) (subst (Rising cmp) e r) x l i (inl refl)) less))
    (less, tt))

-- the first i pairs of S are passed, and the first k of xs are those kept of them
pub record KeptLast {K V : Type 0} (cmp : K → K → Ordering) (S xs : List (K × V)) (k i : ℕ) : Type 0 where
  pub long : length xs ≡ length S
  pub last : Last cmp (take i S) (take k xs)
  pub rest : drop i xs ≡ drop i S

module _ {K : Type 0} (cmp : K → K → Ordering) (o : IsTotalOrder cmp) where
  -- ---- what a filter that passes equal keys keeps
  pub StandsLast-filter : {V : Type 0} (t : K × V → Bool) (p : K × V) (J : List (K × V)) → ((q : K × V) → cmp p.0 q.0 ≡ Equal → t q ≡ true) → StandsLast cmp p J
      → StandsLast cmp p (filter t J)
  StandsLast-filter t p [] f h = h
  StandsLast-filter {V} t p (q ∷ J) f (inl h) =
      let yes : t q ≡ true = f q (subst (λ (x : K × V). cmp p.0 x.0 ≡ Equal) (sym h.0) (tied_itself o p.0)) in
      rw yes (inl (
        h.0,
        from_each (λ (x : K × V). cmp p.0 x.0 ≢ Equal) (filter t J)
            (λ x i. each (λ (x : K × V). cmp p.0 x.0 ≢ Equal) J h.1 x (In-from_filter t J x i).0),
      ))
  StandsLast-filter t p (q ∷ J) f (inr h) =
      let rest : StandsLast cmp p (filter t J) = StandsLast-filter t p J f h in
      elim (t q) as (λ b. StandsLast cmp p (cond b (q ∷ filter t J) (filter t J))) [ true ↦ inr rest | false ↦ rest ]

  pub StandsLast-from_filter : {V : Type 0} (t : K × V → Bool) (p : K × V) (J : List (K × V)) → ((q : K × V) → cmp p.0 q.0 ≡ Equal → t q ≡ true)
      → StandsLast cmp p (filter t J) → StandsLast cmp p J
  StandsLast-from_filter t p [] f h = h
  StandsLast-from_filter {V} t p (q ∷ J) f h = by (t q) (StandsLast-from_filter t p J f) h
    where
      by : (b : Bool) → (StandsLast cmp p (filter t J) → StandsLast cmp p J) → StandsLast cmp p (cond b (q ∷ filter t J) (filter t J))
          → StandsLast cmp p (q ∷ J)
      by true rest (inl e) =
          inl (
            e.0,
            from_each (λ (x : K × V). cmp p.0 x.0 ≢ Equal) J
                (λ x i same. each (λ (x : K × V). cmp p.0 x.0 ≢ Equal) (filter t J) e.1 x (In-filter t J x i (f x same)) same),
          )
      by true rest (inr e) = inr (rest e)
      by false rest e = inr (rest e)

  tie : {V : Type 0} (p q : K × V) → cmp p.0 q.0 ≡ Equal → ties (λ (x y : K × V). is_lt (cmp x.0 y.0)) p q ≡ true
  tie p q e = rw (e, tied_back o p.0 q.0 e) refl

  pub last_by_stable : {V : Type 0} (J S : List (K × V)) → IsStableBy (λ (x y : K × V). is_lt (cmp x.0 y.0)) J S → (p : K × V)
      → StandsLast cmp p S ↔ StandsLast cmp p J
  last_by_stable {V} J S stable p =
      let t : K × V → Bool = ties (λ (x y : K × V). is_lt (cmp x.0 y.0)) p in
      let e : filter t S ≡ filter t J = stable p in (
        λ h. StandsLast-from_filter t p J (tie p) (subst (StandsLast cmp p) e (StandsLast-filter t p S (tie p) h)),
        λ h. StandsLast-from_filter t p S (tie p) (subst (StandsLast cmp p) (sym e) (StandsLast-filter t p J (tie p) h)),
      )

  less_of : (a b : K) (r : Ordering) → cmp a b ≡ r → r ≢ Equal → is_lt (cmp b a) ≡ false → cmp a b ≡ Less
  less_of a b Less e n l = e
  less_of a b Equal e n l = absurd (n refl)
  less_of a b Greater e n l = let h = greater_back o a b e in absurd (true≢false (sym (ap is_lt h) ∙ l))

  -- ---- one more pair, which is not below any
  module _ {V : Type 0} (J M : List (K × V)) (last : Last cmp J M) (p : K × V) where
    pub Last-push : ((x : K × V) → In x M → cmp x.0 p.0 ≡ Less) → Last cmp (J ++ p ∷ []) (M ++ p ∷ [])
    Last-push f =
        let a : below cmp M p.0 ≡ M = filter_all _ M (λ x i. ap is_lt (f x i)) in
        let b : above cmp M p.0 ≡ [] = filter_none _ M (λ x i. ap is_gt (f x i)) in
        rw (a, b) at (Last-put cmp o J M last p)

    pub Last-push_over : (N : List (K × V)) (q : K × V) → M ≡ N ++ q ∷ [] → cmp q.0 p.0 ≡ Equal → Last cmp (J ++ p ∷ []) (N ++ p ∷ [])
    Last-push_over N q e same =
        let r : Rising cmp (N ++ q ∷ []) = subst (Rising cmp) e last.rising in
        let less : (x : K × V) → In x N → cmp x.0 p.0 ≡ Less = λ x i. sym (alike_right o q.0 p.0 x.0 same) ∙ rising_across cmp N (q ∷ []) r x q i (inl refl) in
        let a : below cmp (N ++ q ∷ []) p.0 ≡ N =
        filter-append (λ (x : K × V). is_lt (cmp x.0 p.0)) N (q ∷ [])
        ∙ rw (filter_all (λ (x : K × V). is_lt (cmp x.0 p.0)) N (λ x i. ap is_lt (less x i)), same) (append-nil N) in
        let b : above cmp (N ++ q ∷ []) p.0 ≡ [] =
        filter-append (λ (x : K × V). is_gt (cmp x.0 p.0)) N (q ∷ [])
        ∙ rw (filter_none (λ (x : K × V). is_gt (cmp x.0 p.0)) N (λ x i. ap is_gt (less x i)), same) refl in
        rw (e, a, b) at (Last-put cmp o J M last p)

  -- ---- the pass
  module _ {V : Type 0} (S xs : List (K × V)) (k i : ℕ) (d : K × V) (kept : KeptLast cmp S xs (k + 1) i) (before : k < i) (within : i < length S) where
    -- the next pair, and the rest, are those of S
    next_same : (get_or xs i d ≡ get_or S i d) × (drop (i + 1) xs ≡ drop (i + 1) S)
    next_same =
        let long = kept.long in
        let a = drop_more xs i d (omega arith) in
        let b = drop_more S i d within in
        let c = kept.rest in
        (cc, cc)

    -- the next pair replaces the last kept one, which has an equal key
    pub kept_over : cmp (get_or xs k d).0 (get_or xs i d).0 ≡ Equal → KeptLast cmp S (swap xs k i) (k + 1) (i + 1)
    kept_over same =
        let long = kept.long in
        let p = get_or xs i d in
        let h = Last-push_over (take i S) (take (k + 1) xs) kept.last p (take k xs) (get_or xs k d) (take_more xs k d (omega arith)) same in
        let f : take (i + 1) S ≡ take i S ++ p ∷ [] = take_more S i d within ∙ ap (λ (x : K × V). take i S ++ x ∷ []) (sym next_same.0) in
        record {
          long = length-swap xs k i ∙ long;
          last = subst₂ (Last cmp) (sym f) (sym (take-swap xs k i d (omega arith) (omega arith))) h;
          rest = drop-swap xs k i d (omega arith) (omega arith) ∙ next_same.1;
        }

    -- or goes after it
    pub kept_more : IsSortedByKey (λ (x : K × V). x.0) cmp S → cmp (get_or xs k d).0 (get_or xs i d).0 ≢ Equal
        → KeptLast cmp S (swap xs (k + 1) i) ((k + 1) + 1) (i + 1)
    kept_more sorted differ =
        let long = kept.long in
        let p = get_or xs i d in
        let q = get_or xs k d in
        let t : take (k + 1) xs ≡ take k xs ++ q ∷ [] = take_more xs k d (omega arith) in
        let there : In q (take (k + 1) xs) = subst (In q) (sym t) (In-right (take k xs) (q ∷ []) q (inl refl)) in
        let at = In-take i S q (In-from_last cmp q (take i S) ((kept.last.exactly q).0 there)) in
        let far : is_lt (cmp (get_or S i d).0 (get_or S at.0 d).0) ≡ false =
        sorted_far (λ (x y : K × V). is_lt (cmp x.0 y.0)) (ranks_by o (λ (x : K × V). x.0)) S sorted at.0 i d (let a = at.1 in omega arith) within in
        let not_less : is_lt (cmp p.0 q.0) ≡ false = subst₂ (λ (x y : K × V). is_lt (cmp x.0 y.0) ≡ false) (sym next_same.0) (at.3 d) far in
        let first : cmp q.0 p.0 ≡ Less = less_of q.0 p.0 (cmp q.0 p.0) refl differ not_less in
        let all = each (λ (x : K × V). cmp x.0 p.0 ≡ Less) (take (k + 1) xs) (all_below o (take (k + 1) xs) (take k xs) q p.0 kept.last.rising t first) in
        let h = Last-push (take i S) (take (k + 1) xs) kept.last p all in
        let f : take (i + 1) S ≡ take i S ++ p ∷ [] = take_more S i d within ∙ ap (λ (x : K × V). take i S ++ x ∷ []) (sym next_same.0) in
        record {
          long = length-swap xs (k + 1) i ∙ long;
          last = subst₂ (Last cmp) (sym f) (sym (take-swap xs (k + 1) i d (omega arith) (omega arith))) h;
          rest = drop-swap xs (k + 1) i d (omega arith) (omega arith) ∙ next_same.1;
        }

  -- the same as the code reads the pairs
  module _ {V : Type 0} (S xs ys : List (K × V)) (k n i : ℕ) (q p : K × V) (r : Ordering) (kept : KeptLast cmp S xs (k + 1) i) (before : k < i)
      (within : i < length S) (read_q : q ≡ get_or xs k q) (read_p : p ≡ get_or xs i p) (asked : r ≡ cmp q.0 p.0) where
    q_is : q ≡ get_or xs k p
    q_is = let long = kept.long in read_q ∙ get_or_default xs k q p (omega arith)

    pub passed_over : is_eq r ≡ true → ys ≡ swap xs k i → n ≡ k → KeptLast cmp S ys (n + 1) (i + 1)
    passed_over is_equal e f = rw (e, f) (kept_over S xs k i p kept before within (rw (← q_is, ← read_p) (sym asked ∙ equal_from_is_eq r is_equal)))

    pub passed_more : IsSortedByKey (λ (x : K × V). x.0) cmp S → is_eq r ≡ false → ys ≡ swap xs (k + 1) i → n ≡ k + 1 → KeptLast cmp S ys (n + 1) (i + 1)
    passed_more sorted not_eq e f =
        rw (e, f) (kept_more S xs k i p kept before within sorted (rw (← q_is, ← read_p) (λ same. true≢false (sym (ap is_eq (asked ∙ same)) ∙ not_eq))))
