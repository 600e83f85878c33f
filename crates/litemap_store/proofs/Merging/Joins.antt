-- Merges of lists with all keys of one above the other's, and merges that are joined.
--     Merge-none, Merge-all      one list is empty;  Merge-after, Merge-before      one is above the other
--     left-after, left-before      and nothing is displaced;  Merge-join      merges of which one is above the other are joined
use Rattle.litemap_store.proofs.Names.{[], ◌++◌, ◌≡◌, ◌≢◌, Apart, append-nil, Equal, Greater, In, inl, inr, IsMerged}
use Rattle.litemap_store.proofs.Names.{IsTotalOrder, left, Less, List, Merge, NoneEqual, Ordering, refl, Rising, subst₂}
use Rattle.litemap_store.proofs.Lists.Joined.{Rising-from_Rises}
use Rattle.litemap_store.proofs.Last.KeepLast.{rising_across}
use Rattle.litemap_store.proofs.Lists.Membership.{In-left, In-right, In-cases, each, from_each}
use Rattle.litemap_store.proofs.Merging.Merges.{left_none}
use Rattle.litemap_store.proofs.Search.Splitting.{Rising-append, each-append, less_back}

-- ---- one list is empty
pub Merge-none : {K V : Type 0} (cmp : K → K → Ordering) (A : List (K × V)) → Rising cmp A → Merge cmp A [] A
Merge-none {K} {V} cmp A r = record { rising = r; exactly = λ p. (λ i. inl (i, tt), back p) }
  where
    back : (p : K × V) → IsMerged cmp A [] p → In p A
    back p (inl h) = h.0
    back p (inr (inl h)) = absurd h.0
    back p (inr (inr h)) = absurd h.1.2

pub Merge-all : {K V : Type 0} (cmp : K → K → Ordering) (B : List (K × V)) → Rising cmp B → Merge cmp [] B B
Merge-all {K} {V} cmp B r = record { rising = r; exactly = λ p. (λ i. inr (inl (i, tt)), back p) }
  where
    back : (p : K × V) → IsMerged cmp [] B p → In p B
    back p (inl h) = absurd h.0
    back p (inr (inl h)) = h.0
    back p (inr (inr h)) = absurd h.0.1

module _ {K V : Type 0} (cmp : K → K → Ordering) (o : IsTotalOrder cmp) where
  pub none_above : (k : K) (Y : List (K × V)) → ((y : K × V) → In y Y → cmp k y.0 ≡ Less) → NoneEqual cmp k Y
  none_above k Y f = from_each (λ (q : K × V). cmp k q.0 ≢ Equal) Y (λ y i e. let l : cmp k y.0 ≡ Less = f y i in cc)

  pub none_below : (k : K) (X : List (K × V)) → ((x : K × V) → In x X → cmp x.0 k ≡ Less) → NoneEqual cmp k X
  none_below k X f = from_each (λ (q : K × V). cmp k q.0 ≢ Equal) X (λ x i e. let l : cmp k x.0 ≡ Greater = less_back o x.0 k (f x i) in cc)

  none_left : (k : K) (X Y : List (K × V)) → NoneEqual cmp k (X ++ Y) → NoneEqual cmp k X
  none_left k X Y n = from_each (λ (q : K × V). cmp k q.0 ≢ Equal) X (λ x i. each (λ (q : K × V). cmp k q.0 ≢ Equal) (X ++ Y) n x (In-left X Y x i))

  none_right : (k : K) (X Y : List (K × V)) → NoneEqual cmp k (X ++ Y) → NoneEqual cmp k Y
  none_right k X Y n = from_each (λ (q : K × V). cmp k q.0 ≢ Equal) Y (λ x i. each (λ (q : K × V). cmp k q.0 ≢ Equal) (X ++ Y) n x (In-right X Y x i))

  -- a merged pair has a key of one of the lists
  side : (A B : List (K × V)) (p : K × V) → IsMerged cmp A B p → (q : K × V) × In q (A ++ B) × (q.0 ≡ p.0)
  side A B p (inl h) = (p, In-left A B p h.0, refl)
  side A B p (inr (inl h)) = (p, In-right A B p h.0, refl)
  side A B p (inr (inr h)) = ((p.0, h.0.0), In-left A B (p.0, h.0.0) h.0.1, refl)

  -- every key of X is below every key of Y
  abbrev pub Across : List (K × V) → List (K × V) → Type 0
  Across X Y = (x y : K × V) → In x X → In y Y → cmp x.0 y.0 ≡ Less

  module _ (A₁ A₂ B₁ B₂ M₁ M₂ : List (K × V)) (m : Merge cmp A₁ B₁ M₁) (n : Merge cmp A₂ B₂ M₂) (f : Across (A₁ ++ B₁) (A₂ ++ B₂)) where
    across : Across M₁ M₂
    across x y i j =
        let s = side A₁ B₁ x ((m.exactly x).0 i) in
        let t = side A₂ B₂ y ((n.exactly y).0 j) in
        subst₂ (λ (a b : K). cmp a b ≡ Less) s.2 t.2 (f s.0 t.0 s.1 t.1)

    from_first : (p : K × V) → IsMerged cmp A₁ B₁ p → IsMerged cmp (A₁ ++ A₂) (B₁ ++ B₂) p
    from_first p (inl h) =
        inl (
          In-left A₁ A₂ p h.0,
          each-append (λ (q : K × V). cmp p.0 q.0 ≢ Equal) B₁ B₂ h.1
              (none_above p.0 B₂ (λ y i. f p y (In-left A₁ B₁ p h.0) (In-right A₂ B₂ y i))),
        )
    from_first p (inr (inl h)) =
        inr (inl (
          In-left B₁ B₂ p h.0,
          each-append (λ (q : K × V). cmp p.0 q.0 ≢ Equal) A₁ A₂ h.1
              (none_above p.0 A₂ (λ y i. f p y (In-right A₁ B₁ p h.0) (In-left A₂ B₂ y i))),
        ))
    from_first p (inr (inr h)) = inr (inr ((h.0.0, In-left A₁ A₂ (p.0, h.0.0) h.0.1), (h.1.0, h.1.1, In-left B₁ B₂ (h.1.0, p.1) h.1.2)))

    from_second : (p : K × V) → IsMerged cmp A₂ B₂ p → IsMerged cmp (A₁ ++ A₂) (B₁ ++ B₂) p
    from_second p (inl h) =
        inl (
          In-right A₁ A₂ p h.0,
          each-append (λ (q : K × V). cmp p.0 q.0 ≢ Equal) B₁ B₂
              (none_below p.0 B₁ (λ x i. f x p (In-right A₁ B₁ x i) (In-left A₂ B₂ p h.0))) h.1,
        )
    from_second p (inr (inl h)) =
        inr (inl (
          In-right B₁ B₂ p h.0,
          each-append (λ (q : K × V). cmp p.0 q.0 ≢ Equal) A₁ A₂
              (none_below p.0 A₁ (λ x i. f x p (In-left A₁ B₁ x i) (In-right A₂ B₂ p h.0))) h.1,
        ))
    from_second p (inr (inr h)) = inr (inr ((h.0.0, In-right A₁ A₂ (p.0, h.0.0) h.0.1), (h.1.0, h.1.1, In-right B₁ B₂ (h.1.0, p.1) h.1.2)))

    back : (p : K × V) → IsMerged cmp (A₁ ++ A₂) (B₁ ++ B₂) p → In p (M₁ ++ M₂)
    back p (inl h) = elim (In-cases A₁ A₂ p h.0) [
      | inl i ↦ In-left M₁ M₂ p ((m.exactly p).1 (inl (i, none_left p.0 B₁ B₂ h.1)))
      | inr i ↦ In-right M₁ M₂ p ((n.exactly p).1 (inl (i, none_right p.0 B₁ B₂ h.1)))
    ]
    back p (inr (inl h)) = elim (In-cases B₁ B₂ p h.0) [
      | inl i ↦ In-left M₁ M₂ p ((m.exactly p).1 (inr (inl (i, none_left p.0 A₁ A₂ h.1))))
      | inr i ↦ In-right M₁ M₂ p ((n.exactly p).1 (inr (inl (i, none_right p.0 A₁ A₂ h.1))))
    ]
    back p (inr (inr h)) =
        let a : K × V = (p.0, h.0.0) in
        let b : K × V = (h.1.0, p.1) in
        elim (In-cases A₁ A₂ a h.0.1) [
          | inl i ↦ elim (In-cases B₁ B₂ b h.1.2) [
            | inl j ↦ In-left M₁ M₂ p ((m.exactly p).1 (inr (inr ((h.0.0, i), (h.1.0, h.1.1, j)))))
            | inr j ↦ absurd (let e = h.1.1 in let l : cmp p.0 h.1.0 ≡ Less = f a b (In-left A₁ B₁ a i) (In-right A₂ B₂ b j) in cc)
          ]
          | inr i ↦ elim (In-cases B₁ B₂ b h.1.2) [
            | inl j ↦ absurd (let e = h.1.1 in let l : cmp p.0 h.1.0 ≡ Greater = less_back o h.1.0 p.0 (f b a (In-right A₁ B₁ b j) (In-left A₂ B₂ a i)) in cc)
            | inr j ↦ In-right M₁ M₂ p ((n.exactly p).1 (inr (inr ((h.0.0, i), (h.1.0, h.1.1, j)))))
          ]
        ]

    there : (p : K × V) → In p (M₁ ++ M₂) → IsMerged cmp (A₁ ++ A₂) (B₁ ++ B₂) p
    there p i = elim (In-cases M₁ M₂ p i) [
      | inl j ↦ from_first p ((m.exactly p).0 j)
      | inr j ↦ from_second p ((n.exactly p).0 j)
    ]

    pub Merge-join : Merge cmp (A₁ ++ A₂) (B₁ ++ B₂) (M₁ ++ M₂)
    Merge-join = record { rising = Rising-append cmp M₁ M₂ m.rising n.rising across; exactly = λ p. (there p, back p) }

  -- ---- one is above the other
  module _ (A B : List (K × V)) (r : Rising cmp A) (s : Rising cmp B) where
    in_left : (X : List (K × V)) (x : K × V) → In x (X ++ []) → In x X
    in_left X x i = elim (In-cases X [] x i) [ inl j ↦ j | inr j ↦ absurd j ]

    pub Merge-after : Rising cmp (A ++ B) → Merge cmp A B (A ++ B)
    Merge-after t =
        let h : Merge cmp (A ++ []) B (A ++ B) =
        Merge-join A [] [] B A B (Merge-none cmp A r) (Merge-all cmp B s) (λ x y i j. rising_across cmp A B t x y (in_left A x i) j) in
        rw append-nil at h

    pub Merge-before : Rising cmp (B ++ A) → Merge cmp A B (B ++ A)
    Merge-before t =
        let h : Merge cmp A (B ++ []) (B ++ A) =
        Merge-join [] A B [] B A (Merge-all cmp B s) (Merge-none cmp A r) (λ x y i j. rising_across cmp B A t x y i (in_left A y j)) in
        rw append-nil at h

    pub left-after : Rising cmp (A ++ B) → left cmp A B ≡ []
    left-after t = left_none cmp o A B (from_each (λ (b : K × V). NoneEqual cmp b.0 A) B (λ y j. none_below y.0 A (λ x i. rising_across cmp A B t x y i j)))

    pub left-before : Rising cmp (B ++ A) → left cmp A B ≡ []
    left-before t = left_none cmp o A B (from_each (λ (b : K × V). NoneEqual cmp b.0 A) B (λ y j. none_above y.0 A (λ x i. rising_across cmp B A t y x j i)))

    -- they are apart only if one can be joined to the other
    pub not_apart : (Rising cmp (A ++ B) → ⊥) → (Rising cmp (B ++ A) → ⊥) → Apart cmp A B → ⊥
    not_apart n m (inl e) = n (rw e s)
    not_apart n m (inr (inl e)) = n (rw (e, append-nil) r)
    not_apart n m (inr (inr (inl h))) = n (Rising-from_Rises cmp A B r h)
    not_apart n m (inr (inr (inr h))) = m (Rising-from_Rises cmp B A s h)
