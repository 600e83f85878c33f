-- Parts of an ascending list by their indices.
--     Rising-cut_range      what is left without a range ascends
--     take-placed, range-placed, outside-placed      a part is a filter by the index of each key
use Rattle.litemap.proofs.Common.{◌≡◌, ◌≤◌, ◌<◌, ◌+◌, ◌-◌, ◌∙◌, ℕ, zero, suc, List, [], ◌++◌, ◌∷◌, Bool, true, false, ap, append-nil, arith, below, cond}
use Rattle.litemap.proofs.Common.{drop, filter, inl, inr, is_lt, length, length-append, length-drop, length-take, less_back, not, place, refl, rules}
use Rattle.litemap.proofs.Common.{slice_range, subst, sym, take, tied_itself, AllByRecursion, IsTotalOrder, Less, Ordering, Rising}
use Rattle.std.proofs.Common.{nat_lt}
use Rattle.std.proofs.lemmas.List.{take-append-drop}
use Rattle.litemap_store.specs.Last.{In}
use Rattle.litemap_store.proofs.Last.KeepLast.{filter_all, filter_none, rising_across}
use Rattle.litemap_store.proofs.Lists.Membership.{from_each}
use Rattle.litemap_store.proofs.Names.{filter-append}
use Rattle.litemap.proofs.Cuts.{IsCut-append, between, outside}
use Rattle.litemap.specs.Within.{IsCut, stands_within}
use Rattle.litemap_store.proofs.Lists.Parts.{Rising-drop}

module _ {X : Type 0} (P : X → Type 0) where
  each-drop : (L : List X) (b : ℕ) → AllByRecursion P L → AllByRecursion P (drop b L)
  each-drop L zero h = h
  each-drop [] (suc b) h = h
  each-drop (x ∷ L) (suc b) h = each-drop L b h.1

  each-cut_range : (L : List X) (a b : ℕ) → a ≤ b → AllByRecursion P L → AllByRecursion P (take a L ++ drop b L)
  each-cut_range L zero b le h = each-drop L b h
  each-cut_range L (suc a) zero le h = absurd (omega (arith, le))
  each-cut_range [] (suc a) (suc b) le h = h
  each-cut_range (x ∷ L) (suc a) (suc b) le h = (h.0, each-cut_range L a b (omega (arith, le)) h.1)

module _ {K V : Type 0} (cmp : K → K → Ordering) where
  pub Rising-cut_range : (L : List (K × V)) (a b : ℕ) → a ≤ b → Rising cmp L → Rising cmp (take a L ++ drop b L)
  Rising-cut_range L zero b le h = Rising-drop cmp L b h
  Rising-cut_range L (suc a) zero le h = absurd (omega (arith, le))
  Rising-cut_range [] (suc a) (suc b) le h = h
  Rising-cut_range (p ∷ L) (suc a) (suc b) le h =
      (each-cut_range (λ q. cmp p.0 q.0 ≡ Less) L a b (omega (arith, le)) h.0, Rising-cut_range L a b (omega (arith, le)) h.1)

-- ---- how many elements a filter keeps
module _ {X : Type 0} (test : X → Bool) where
  at_most : (L : List X) → length (filter test L) ≤ length L
  at_most [] = omega arith
  at_most (y ∷ L) = elim (test y) as (λ b. length (cond b (y ∷ filter test L) (filter test L)) ≤ length (y ∷ L))
      [ true ↦ omega (arith, at_most L) | false ↦ omega (arith, at_most L) ]

  fewer : (L : List X) (x : X) → In x L → test x ≡ false → length (filter test L) < length L
  fewer [] x i n = absurd i
  fewer (y ∷ L) x (inl e) n = rw (ap test e ∙ n) (omega (arith, at_most L))
  fewer (y ∷ L) x (inr i) n = elim (test y) as (λ b. length (cond b (y ∷ filter test L) (filter test L)) < length (y ∷ L))
      [ true ↦ omega (arith, fewer L x i n) | false ↦ omega (arith, fewer L x i n) ]

some_in : {X : Type 0} (L : List X) (x : X) → In x L → 0 < length L
some_in [] x i = absurd i
some_in (y ∷ L) x i = omega arith

lt_true : (a n : ℕ) → a < n → nat_lt a n ≡ true
lt_true a n h = search rules

lt_false : (a n : ℕ) → n ≤ a → nat_lt a n ≡ false
lt_false a n h = search rules

-- ---- the index of each key
module _ {K V : Type 0} {cmp : K → K → Ordering} (o : IsTotalOrder cmp) where
  module _ (A B : List (K × V)) (r : Rising cmp (A ++ B)) (x : K × V) where
    abbrev lower : K × V → Bool
    lower p = is_lt (cmp p.0 x.0)

    both : place cmp (A ++ B) x.0 ≡ place cmp A x.0 + place cmp B x.0
    both = ap length (filter-append lower A B) ∙ length-append (below cmp A x.0) (below cmp B x.0)

    placed_in : In x A → place cmp (A ++ B) x.0 < length A
    placed_in i =
        let none : below cmp B x.0 ≡ [] = filter_none lower B (λ y j. ap is_lt (less_back o x.0 y.0 (rising_across cmp A B r x y i j))) in
        omega (arith, both, ap length none, fewer lower A x i (ap is_lt (tied_itself o x.0)))

    placed_after : In x B → length A ≤ place cmp (A ++ B) x.0
    placed_after i =
        let all : below cmp A x.0 ≡ A = filter_all lower A (λ y j. ap is_lt (rising_across cmp A B r y x j i)) in
        omega (arith, both, ap length all)

  module _ (L : List (K × V)) (r : Rising cmp L) where
    abbrev before : ℕ → K × V → Bool
    before n p = nat_lt (place cmp L p.0) n

    rises : (n : ℕ) → Rising cmp (take n L ++ drop n L)
    rises n = subst (Rising cmp) (sym (take-append-drop n L)) r

    same : (n : ℕ) (x : K × V) → place cmp (take n L ++ drop n L) x.0 ≡ place cmp L x.0
    same n x = ap (λ M. place cmp M x.0) (take-append-drop n L)

    first : (n : ℕ) (x : K × V) → In x (take n L) → before n x ≡ true
    first n x i = lt_true _ _ (omega (arith, placed_in (take n L) (drop n L) (rises n) x i, same n x, length-take n L))

    later : (n : ℕ) (x : K × V) → In x (drop n L) → before n x ≡ false
    later n x i =
        lt_false _ _
        (omega (arith, placed_after (take n L) (drop n L) (rises n) x i, same n x, length-take n L, length-drop n L, some_in (drop n L) x i))

    pub take-placed : (n : ℕ) → take n L ≡ filter (before n) L
    take-placed n = sym
        (ap (filter (before n)) (sym (take-append-drop n L)) ∙ filter-append (before n) (take n L) (drop n L)
        ∙ ap (λ M. M ++ filter (before n) (drop n L)) (filter_all (before n) (take n L) (first n))
        ∙ ap (λ M. take n L ++ M) (filter_none (before n) (drop n L) (later n)) ∙ append-nil (take n L))

    is_cut : (n : ℕ) → n ≤ length L → IsCut (before n) L n
    is_cut n h =
        let e : length (take n L) ≡ n = omega (arith, length-take n L) in
        let cut = IsCut-append (before n) (take n L) (drop n L) (from_each _ (take n L) (first n)) (from_each _ (drop n L) (later n)) in
        subst (λ M. IsCut (before n) M n) (take-append-drop n L) (subst (IsCut (before n) (take n L ++ drop n L)) e cut)

    pub range-placed : (a b : ℕ) → a ≤ b → b ≤ length L → slice_range L a b ≡ filter (λ p. stands_within cmp L a b p.0) L
    range-placed a b h w = between (before a) (before b) L a b (b - a) refl (is_cut a (omega arith)) (is_cut b w)

    pub outside-placed : (a b : ℕ) → a ≤ b → b ≤ length L → take a L ++ drop b L ≡ filter (λ p. not (stands_within cmp L a b p.0)) L
    outside-placed a b h w = outside (before a) (before b) L a b h (is_cut a (omega arith)) (is_cut b w)
