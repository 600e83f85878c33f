-- Lists that a test cuts in two.
--     before_found, before_missing, after_found, after_missing      the cut before a query and the one after it, from what a search found
--     length-before, take-cut, drop-cut, first_cut, last_cut      what is before a cut, and after it
--     between, sub_between, length-between, outside      what is between two cuts, and the rest
use Rattle.litemap.proofs.Common.{◌≡◌, ℕ, zero, suc, ◌+◌, ◌-◌, ◌≤◌, Bool, true, false, not, ◌&&◌, cond, List, [], ◌∷◌, ◌++◌}
use Rattle.litemap.proofs.Common.{length, filter, take, drop, slice_range, nat_le, Some, None, length-drop, length-take, refl}
use Rattle.litemap.proofs.Common.{sym, ap, ◌∙◌, subst, arith, is_gt, is_le, is_lt, Ordering, Less, Equal, Greater, le-leb}
use Rattle.litemap.proofs.Common.{AllByRecursion, above, below, greater_from_is_gt, less_from_is_lt}
use Rattle.std.proofs.lemmas.Bool.{and_right}
use Rattle.litemap_store.specs.Splits.{IsFoundAt, IsMissingAt}
use Rattle.litemap_store.proofs.Last.KeepLast.{filter_all, filter_none}
use Rattle.litemap_store.proofs.Lists.Membership.{In-from_filter, each, from_each}
use Rattle.litemap.specs.Within.{IsCut}

-- ---- where a list is cut
module _ {X : Type 0} (test : X → Bool) where
  IsCut-zero : (L : List X) → AllByRecursion (λ y. test y ≡ false) L → IsCut test L 0
  IsCut-zero [] h = refl
  IsCut-zero (x ∷ L) h = h

  pub IsCut-append : (A B : List X) → AllByRecursion (λ y. test y ≡ true) A → AllByRecursion (λ y. test y ≡ false) B → IsCut test (A ++ B) (length A)
  IsCut-append [] B h k = IsCut-zero B k
  IsCut-append (x ∷ A) B h k = (h.0, IsCut-append A B h.1 k)

  IsCut-seam : (A : List X) (x : X) (B : List X) → AllByRecursion (λ y. test y ≡ true) A → test x ≡ true → AllByRecursion (λ y. test y ≡ false) B
      → IsCut test (A ++ x ∷ B) (suc (length A))
  IsCut-seam [] x B h e k = (e, IsCut-zero B k)
  IsCut-seam (y ∷ A) x B h e k = (h.0, IsCut-seam A x B h.1 e k)

  pub IsCut-none : (L : List X) → ((x : X) → test x ≡ false) → IsCut test L 0
  IsCut-none [] h = refl
  IsCut-none (x ∷ L) h = (h x, from_each (λ y. test y ≡ false) L (λ y i. h y))

  pub IsCut-all : (L : List X) → ((x : X) → test x ≡ true) → IsCut test L (length L)
  IsCut-all [] h = refl
  IsCut-all (x ∷ L) h = (h x, IsCut-all L h)

  -- ---- what is before a cut, and after it
  none : (L : List X) → AllByRecursion (λ y. test y ≡ false) L → filter test L ≡ []
  none L h = filter_none test L (each (λ y. test y ≡ false) L h)

  pub within-cut : (L : List X) (n : ℕ) → IsCut test L n → n ≤ length L
  within-cut [] n h = omega arith
  within-cut (x ∷ L) zero h = omega arith
  within-cut (x ∷ L) (suc n) h = let k = within-cut L n h.1 in omega arith

  pub take-cut : (L : List X) (n : ℕ) → IsCut test L n → take n L ≡ filter test L
  take-cut [] zero h = refl
  take-cut [] (suc n) h = refl
  take-cut (x ∷ L) zero h = sym (none (x ∷ L) h)
  take-cut (x ∷ L) (suc n) h = rw h.0 (ap (λ M. x ∷ M) (take-cut L n h.1))

  pub length-before : (L : List X) (n : ℕ) → IsCut test L n → length (filter test L) ≡ n
  length-before L n h = omega (arith, ap length (take-cut L n h), length-take n L, within-cut L n h)

  all_left : (L : List X) → AllByRecursion (λ y. test y ≡ false) L → L ≡ filter (λ y. not (test y) && true) L
  all_left [] h = refl
  all_left (x ∷ L) h = rw h.0 (ap (λ M. x ∷ M) (all_left L h.1))

  pub drop-cut : (L : List X) (n : ℕ) → IsCut test L n → drop n L ≡ filter (λ y. not (test y) && true) L
  drop-cut [] zero h = refl
  drop-cut [] (suc n) h = refl
  drop-cut (x ∷ L) zero h = all_left (x ∷ L) h
  drop-cut (x ∷ L) (suc n) h = rw h.0 (drop-cut L n h.1)

  -- if nothing is before a cut, and if nothing is after it
  pub first_cut : (L : List X) (n : ℕ) → IsCut test L n → filter test L ≡ [] → n ≡ 0
  first_cut L n h e = sym (length-before L n h) ∙ ap length e

  pub last_cut : (L : List X) (n : ℕ) → IsCut test L n → filter (λ y. not (test y) && true) L ≡ [] → n ≡ length L
  last_cut L n h e = omega (arith, length-drop n L, ap length (drop-cut L n h ∙ e), within-cut L n h)

-- ---- what is between two cuts
module _ {X : Type 0} (early late : X → Bool) where
  none_late : (L : List X) → AllByRecursion (λ y. late y ≡ false) L → filter (λ x. not (early x) && late x) L ≡ []
  none_late L h = filter_none (λ x. not (early x) && late x) L (λ x i. and_right (not (early x)) (late x) (each (λ y. late y ≡ false) L h x i))

  pub between : (L : List X) (a c m : ℕ) → m ≡ c - a → IsCut early L a → IsCut late L c → take m (drop a L) ≡ filter (λ x. not (early x) && late x) L
  between [] zero c zero e p r = refl
  between [] zero c (suc m) e p r = refl
  between [] (suc a) c zero e p r = refl
  between [] (suc a) c (suc m) e p r = refl
  between (x ∷ L) zero zero zero e p r = sym (none_late (x ∷ L) r)
  between (x ∷ L) zero zero (suc m) e p r = absurd (omega arith)
  between (x ∷ L) zero (suc c) zero e p r = absurd (omega arith)
  between (x ∷ L) zero (suc c) (suc m) e p r = rw p.0 (rw r.0 (ap (λ M. x ∷ M) (between L zero c m (omega arith) (IsCut-zero early L p.1) r.1)))
  between (x ∷ L) (suc a) zero zero e p r = sym (none_late (x ∷ L) r)
  between (x ∷ L) (suc a) zero (suc m) e p r = absurd (omega arith)
  between (x ∷ L) (suc a) (suc c) m e p r = rw p.0 (between L a c m (omega arith) p.1 r.1)

  -- the rest
  pub outside : (L : List X) (a c : ℕ) → a ≤ c → IsCut early L a → IsCut late L c → take a L ++ drop c L ≡ filter (λ x. not (not (early x) && late x)) L
  outside [] zero zero h p r = refl
  outside [] zero (suc c) h p r = refl
  outside [] (suc a) zero h p r = refl
  outside [] (suc a) (suc c) h p r = refl
  outside (x ∷ L) zero zero h p r = sym (filter_all (λ x. not (not (early x) && late x)) (x ∷ L)
      (λ y i. ap not (and_right (not (early y)) (late y) (each (λ z. late z ≡ false) (x ∷ L) r y i))))
  outside (x ∷ L) zero (suc c) h p r = rw (p.0, r.0) (outside L zero c (omega arith) (IsCut-zero early L p.1) r.1)
  outside (x ∷ L) (suc a) zero h p r = absurd (omega arith)
  outside (x ∷ L) (suc a) (suc c) h p r = rw p.0 (ap (λ M. x ∷ M) (outside L a c (omega arith) p.1 r.1))

  pub length-between : (L : List X) (a c : ℕ) → IsCut early L a → IsCut late L c → length (filter (λ x. not (early x) && late x) L) ≡ c - a
  length-between L a c p r = omega (arith, ap length (between L a c (c - a) refl p r), length-take (c - a) (drop a L), length-drop a L, within-cut late L c r)

  -- the part of a list between two indices
  pub sub_between : (L : List X) (a c m b : ℕ) → m ≡ c - a → b ≡ a + m → IsCut early L a → IsCut late L c
      → cond (nat_le a b && nat_le b (length L)) (Some (slice_range L a b)) None ≡ Some (filter (λ x. not (early x) && late x) L)
  sub_between L a c m b e s p r =
      let u = within-cut early L a p in
      let v = within-cut late L c r in
      let first : a ≤ b = omega arith in
      let second : b ≤ length L = omega arith in
      rw (le-leb a b first) (rw (le-leb b (length L) second) (ap Some (between L a c (b - a) (omega arith) p r)))

-- ---- where a query cuts a list
module _ {K Q V : Type 0} (order : K → Q → Ordering) (test : Ordering → Bool) (less : test Less ≡ true) (greater : test Greater ≡ false) (q : Q) where
  each-below : (L : List (K × V)) → AllByRecursion (λ (y : K × V). test (order y.0 q) ≡ true) (below order L q)
  each-below L = from_each (λ (y : K × V). test (order y.0 q) ≡ true) (below order L q)
      (λ x i. ap test (less_from_is_lt _ (In-from_filter (λ (p : K × V). is_lt (order p.0 q)) L x i).1) ∙ less)

  each-above : (L : List (K × V)) → AllByRecursion (λ (y : K × V). test (order y.0 q) ≡ false) (above order L q)
  each-above L = from_each (λ (y : K × V). test (order y.0 q) ≡ false) (above order L q)
      (λ x i. ap test (greater_from_is_gt _ (In-from_filter (λ (p : K × V). is_gt (order p.0 q)) L x i).1) ∙ greater)

  cut_missing : (L : List (K × V)) (i : ℕ) → IsMissingAt order L q i → IsCut (λ p. test (order p.0 q)) L i
  cut_missing L i m =
      rw m.place (subst (λ M. IsCut (λ p. test (order p.0 q)) M (length (below order L q))) (sym m.is)
      (IsCut-append (λ p. test (order p.0 q)) (below order L q) (above order L q) (each-below L) (each-above L)))

  cut_found : (L : List (K × V)) (i : ℕ) → IsFoundAt order L q i → test Equal ≡ false → IsCut (λ p. test (order p.0 q)) L i
  cut_found L i f e =
      rw f.place (subst (λ M. IsCut (λ p. test (order p.0 q)) M (length (below order L q))) (sym f.is)
      (IsCut-append (λ p. test (order p.0 q)) (below order L q) (f.pair ∷ above order L q) (each-below L) (ap test f.equal ∙ e, each-above L)))

  cut_past_found : (L : List (K × V)) (i : ℕ) → IsFoundAt order L q i → test Equal ≡ true → IsCut (λ p. test (order p.0 q)) L (i + 1)
  cut_past_found L i f e =
      let next : i + 1 ≡ suc (length (below order L q)) = omega (arith, f.place) in
      rw next (subst (λ M. IsCut (λ p. test (order p.0 q)) M (suc (length (below order L q)))) (sym f.is)
      (IsCut-seam (λ p. test (order p.0 q)) (below order L q) f.pair (above order L q) (each-below L) (ap test f.equal ∙ e) (each-above L)))

module _ {K Q V : Type 0} (order : K → Q → Ordering) (q : Q) (L : List (K × V)) (i : ℕ) where
  pub before_found : IsFoundAt order L q i → IsCut (λ p. is_lt (order p.0 q)) L i
  before_found f = cut_found order is_lt refl refl q L i f refl

  pub before_missing : IsMissingAt order L q i → IsCut (λ p. is_lt (order p.0 q)) L i
  before_missing m = cut_missing order is_lt refl refl q L i m

  pub after_found : IsFoundAt order L q i → IsCut (λ p. is_le (order p.0 q)) L (i + 1)
  after_found f = cut_past_found order is_le refl refl q L i f refl

  pub after_missing : IsMissingAt order L q i → IsCut (λ p. is_le (order p.0 q)) L i
  after_missing m = cut_missing order is_le refl refl q L i m
