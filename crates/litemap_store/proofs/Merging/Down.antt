-- A merge from the last pair of B down to the first.
--     Merge-one      one pair into another with an equal key;  length-parts      how long the parts below and above a key are
--     taken_found, found_drop, missing_drop      the parts by the index that a search found
--     Merge-down, left-down      one step: what is merged above the last key of B, and what is displaced there
--     left-same      what is displaced depends on what the keys of B find;  length-after, length-option      how long a list is that was read from its end
use Rattle.litemap_store.proofs.Names.{[], ℕ, ◌++◌, ◌+◌, ◌∙◌, ◌∷◌, ◌≡◌, ◌≤◌, above, alike_right, ap, append_assoc, arith, at, below, cons_option, drop}
use Rattle.litemap_store.proofs.Names.{drop-append-add, drop-append_seam, Equal, filter_map-append, In, inl, inr, is_gt, is_lt, IsFoundAt, IsMissingAt}
use Rattle.litemap_store.proofs.Names.{IsTotalOrder, key_one_side, key_or, left, length, length-append, length-reverse, Less, List, Merge, None, Option}
use Rattle.litemap_store.proofs.Names.{option_map, Ordering, put, refl, reverse, Rising, same_from_push, Some, subst, sym, take, take-append-add}
use Rattle.litemap_store.proofs.Last.KeepLast.{rising_across}
use Rattle.litemap_store.proofs.Callers.Lookups.{at-filter_kept}
use Rattle.litemap_store.proofs.Lists.Membership.{In-cases, from_each}
use Rattle.litemap_store.proofs.Merging.Joins.{Across, Merge-before, Merge-join, Merge-none}
use Rattle.litemap_store.proofs.Merging.Merges.{Merge-put}
use Rattle.litemap_store.proofs.Search.Splitting.{Rising-filter, at_in, kept_above, kept_below, parted}

module _ {K V : Type 0} (cmp : K → K → Ordering) (o : IsTotalOrder cmp) where
  pub length-parts : (L : List (K × V)) (k : K) → Rising cmp L → length (below cmp L k) + length (above cmp L k) ≤ length L
  length-parts L k r = by (at cmp L k) (ap length (parted (key_one_side o) L k r))
    where
      by : (s : Option (K × V)) → length L ≡ length (below cmp L k ++ cons_option s (above cmp L k)) → length (below cmp L k) + length (above cmp L k)
          ≤ length L
      by None e = omega (arith, length-append (below cmp L k) (above cmp L k))
      by (Some a) e = omega (arith, length-append (below cmp L k) (a ∷ above cmp L k))

  -- ---- the parts by an index
  module _ (L : List (K × V)) (k : K) (i : ℕ) where
    pub found_drop : IsFoundAt cmp L k i → drop (i + 1) L ≡ above cmp L k
    found_drop f =
        ap (λ M. drop (i + 1) M) f.is
        ∙ ap (λ j. drop (j + 1) (below cmp L k ++ f.pair ∷ above cmp L k)) f.place
        ∙ drop-append-add (below cmp L k) (f.pair ∷ above cmp L k) 1

    -- the last of the pairs up to there is the one that was found
    pub taken_found : IsFoundAt cmp L k i → (T N : List (K × V)) (p : K × V) → T ≡ take (i + 1) L → T ≡ N ++ p ∷ []
        → (N ≡ below cmp L k) × (at cmp L k ≡ Some p)
    taken_found f T N p t s =
        let upto : take (i + 1) L ≡ below cmp L k ++ f.pair ∷ [] =
        ap (λ M. take (i + 1) M) f.is
        ∙ ap (λ j. take (j + 1) (below cmp L k ++ f.pair ∷ above cmp L k)) f.place
        ∙ take-append-add (below cmp L k) (f.pair ∷ above cmp L k) 1 in
        let same = same_from_push N (below cmp L k) p f.pair (sym s ∙ t ∙ upto) in
        (same.0, f.found ∙ ap Some (sym same.1))

    pub missing_drop : IsMissingAt cmp L k i → drop i L ≡ above cmp L k
    missing_drop m =
        ap (λ M. drop i M) m.is
        ∙ ap (λ j. drop j (below cmp L k ++ above cmp L k)) m.place
        ∙ drop-append_seam (below cmp L k) (above cmp L k)

  -- ---- one pair into another with an equal key
  pub Merge-one : (a b : K × V) → cmp a.0 b.0 ≡ Equal → Merge cmp (a ∷ []) (b ∷ []) ((a.0, b.1) ∷ [])
  Merge-one a b e =
      let h : Merge cmp (a ∷ []) (b ∷ []) (put cmp (a ∷ []) b.0 b.1) = Merge-put cmp o (a ∷ []) [] (a ∷ []) (Merge-none cmp (a ∷ []) (tt, tt)) b tt in
      rw e at h

  -- ---- above the last key of B
  module _ (A B : List (K × V)) (b : K × V) (r : Rising cmp A) (s : Rising cmp (B ++ b ∷ [])) where
    is_before : (x : K × V) → In x B → cmp x.0 b.0 ≡ Less
    is_before x i = rising_across cmp B (b ∷ []) s x b i (inl refl)

    above_rises : Rising cmp (above cmp A b.0)
    above_rises = Rising-filter cmp (λ (q : K × V). is_gt (cmp q.0 b.0)) A r

    top : (t : Option (K × V)) → at cmp A b.0 ≡ t → Merge cmp (cons_option t (above cmp A b.0)) (b ∷ []) ((key_or t b.0, b.1) ∷ above cmp A b.0)
    top None e = Merge-before cmp o (above cmp A b.0) (b ∷ []) above_rises (tt, tt)
        (from_each (λ (q : K × V). cmp b.0 q.0 ≡ Less) (above cmp A b.0) (kept_above o A b.0), above_rises)
    top (Some a) e =
        let same : cmp a.0 b.0 ≡ Equal = (at_in cmp A b.0 a e).1 in
        let over : Across cmp o (a ∷ b ∷ []) (above cmp A b.0 ++ []) = (λ x y i j. elim (In-cases (above cmp A b.0) [] y j) [
          | inl k ↦ elim i [
            | inl f ↦ subst (λ (q : K × V). cmp q.0 y.0 ≡ Less) f (o.congr a.0 b.0 y.0 same ∙ kept_above o A b.0 y k)
            | inr (inl f) ↦ subst (λ (q : K × V). cmp q.0 y.0 ≡ Less) f (kept_above o A b.0 y k)
            | inr (inr n) ↦ absurd n
          ]
          | inr k ↦ absurd k
        ]) in
        Merge-join cmp o (a ∷ []) (above cmp A b.0) (b ∷ []) [] ((a.0, b.1) ∷ []) (above cmp A b.0) (Merge-one a b same)
        (Merge-none cmp (above cmp A b.0) above_rises) over

    -- what is below b is below its pair in A, and above
    under : (t : Option (K × V)) → at cmp A b.0 ≡ t → (x y : K × V) → cmp x.0 b.0 ≡ Less → In y (cons_option t (above cmp A b.0)) → cmp x.0 y.0 ≡ Less
    under None e x y l i = o.trans x.0 b.0 y.0 l (kept_above o A b.0 y i)
    under (Some a) e x y l (inl f) = subst (λ (q : K × V). cmp x.0 q.0 ≡ Less) f (alike_right o a.0 b.0 x.0 (at_in cmp A b.0 a e).1 ∙ l)
    under (Some a) e x y l (inr i) = o.trans x.0 b.0 y.0 l (kept_above o A b.0 y i)

    low : (x : K × V) → In x (below cmp A b.0 ++ B) → cmp x.0 b.0 ≡ Less
    low x i = elim (In-cases (below cmp A b.0) B x i) [ inl j ↦ kept_below o A b.0 x j | inr j ↦ is_before x j ]

    apart : Across cmp o (below cmp A b.0 ++ B) (cons_option (at cmp A b.0) (above cmp A b.0) ++ b ∷ [])
    apart x y i j = elim (In-cases (cons_option (at cmp A b.0) (above cmp A b.0)) (b ∷ []) y j) [
      | inl k ↦ under (at cmp A b.0) refl x y (low x i) k
      | inr (inl f) ↦ subst (λ (q : K × V). cmp x.0 q.0 ≡ Less) f (low x i)
      | inr (inr n) ↦ absurd n
    ]

    Merge-above : (M : List (K × V)) → Merge cmp (below cmp A b.0) B M → Merge cmp A (B ++ b ∷ []) (M ++ (key_or (at cmp A b.0) b.0, b.1) ∷ above cmp A b.0)
    Merge-above M m =
        let whole : List (K × V) = M ++ (key_or (at cmp A b.0) b.0, b.1) ∷ above cmp A b.0 in
        subst (λ (L : List (K × V)). Merge cmp L (B ++ b ∷ []) whole) (sym (parted (key_one_side o) A b.0 r))
        (Merge-join cmp o (below cmp A b.0) (cons_option (at cmp A b.0) (above cmp A b.0)) B (b ∷ []) M ((key_or (at cmp A b.0) b.0, b.1) ∷ above cmp A b.0) m
        (top (at cmp A b.0) refl) apart)

  -- ---- what is displaced
  -- a lower key finds below a key what it finds in the whole list
  at-below : (L : List (K × V)) (k j : K) → cmp j k ≡ Less → at cmp (below cmp L k) j ≡ at cmp L j
  at-below L k j l = at-filter_kept cmp j (λ x. is_lt (cmp x k)) (λ x e. ap is_lt (o.congr x j k e ∙ l)) L

  pub left-same : (A A' B : List (K × V)) → ((y : K × V) → In y B → at cmp A y.0 ≡ at cmp A' y.0) → left cmp A B ≡ left cmp A' B
  left-same A A' [] f = refl
  left-same A A' (y ∷ B) f =
      ap (λ t. cons_option (option_map (λ (a : K × V). let p : K × V = (y.0, a.1) in p) t) (left cmp A B)) (f y (inl refl))
      ∙ ap (λ W. cons_option (option_map (λ (a : K × V). let p : K × V = (y.0, a.1) in p) (at cmp A' y.0)) W) (left-same A A' B (λ x i. f x (inr i)))

  left-below : (A B : List (K × V)) (k : K) → ((x : K × V) → In x B → cmp x.0 k ≡ Less) → left cmp A B ≡ left cmp (below cmp A k) B
  left-below A B k f = left-same A (below cmp A k) B (λ y i. sym (at-below A k y.0 (f y i)))

  cons_onto : (t : Option (K × V)) (R : List (K × V)) → cons_option t [] ++ R ≡ cons_option t R
  cons_onto None R = refl
  cons_onto (Some p) R = refl

  left-above : (A B R : List (K × V)) (b : K × V) → Rising cmp (B ++ b ∷ [])
      → left cmp A (B ++ b ∷ []) ++ R ≡ left cmp (below cmp A b.0) B
      ++ cons_option (option_map (λ (a : K × V). let p : K × V = (b.0, a.1) in p) (at cmp A b.0)) R
  left-above A B R b s =
      let t : Option (K × V) = option_map (λ (a : K × V). let p : K × V = (b.0, a.1) in p) (at cmp A b.0) in
      ap (λ W. W ++ R) (filter_map-append (λ (x : K × V). option_map (λ (a : K × V). let p : K × V = (x.0, a.1) in p) (at cmp A x.0)) B (b ∷ [])
      ∙ ap (λ W. W ++ cons_option t []) (left-below A B b.0 (λ x i. rising_across cmp B (b ∷ []) s x b i (inl refl))))
      ∙ append_assoc (left cmp (below cmp A b.0) B) (cons_option t []) R
      ∙ ap (λ W. left cmp (below cmp A b.0) B ++ W) (cons_onto t R)

  -- ---- one step down: b was the last pair of N, and S is left of L; R is what was taken aside, read from its end
  module _ (A B L N S B₀ : List (K × V)) (b : K × V) (split : N ≡ B₀ ++ b ∷ []) (rises : Rising cmp N) (is : S ≡ below cmp L b.0) where
    rises_split : Rising cmp (B₀ ++ b ∷ [])
    rises_split = subst (Rising cmp) split rises

    pub Merge-down : (R R' : List (K × V)) → Rising cmp L → R' ≡ (key_or (at cmp L b.0) b.0, b.1) ∷ (above cmp L b.0 ++ R)
        → ((M : List (K × V)) → Merge cmp L N M → Merge cmp A B (M ++ R)) → (M : List (K × V)) → Merge cmp S B₀ M → Merge cmp A B (M ++ R')
    Merge-down R R' r e f M m =
        let low : Merge cmp (below cmp L b.0) B₀ M = subst (λ (X : List (K × V)). Merge cmp X B₀ M) is m in
        let whole : List (K × V) = M ++ (key_or (at cmp L b.0) b.0, b.1) ∷ above cmp L b.0 in
        let up : Merge cmp L N whole = subst (λ (X : List (K × V)). Merge cmp L X whole) (sym split) (Merge-above L B₀ b r rises_split M low) in
        subst (λ (X : List (K × V)). Merge cmp A B (M ++ X)) (sym e) (rw append_assoc at (f whole up))

    pub left-down : (R R' : List (K × V)) → R' ≡ cons_option (option_map (λ (a : K × V). let p : K × V = (b.0, a.1) in p) (at cmp L b.0)) R
        → left cmp A B ≡ left cmp L N ++ R → left cmp A B ≡ left cmp S B₀ ++ R'
    left-down R R' e f =
        f
        ∙ ap (λ (X : List (K × V)). left cmp L X ++ R) split
        ∙ left-above L B₀ R b rises_split
        ∙ ap (λ (X : List (K × V)). left cmp X B₀ ++ cons_option (option_map (λ (a : K × V). let p : K × V = (b.0, a.1) in p) (at cmp L b.0)) R) (sym is)
        ∙ ap (λ (X : List (K × V)). left cmp S B₀ ++ X) (sym e)

-- ---- lists that are read from their ends
pub length-after : {X : Type 0} (L D M : List X) → reverse L ≡ D ++ reverse M → length L ≡ length D + length M
length-after L D M e = omega (arith, length-reverse L, length-reverse M, ap length e, length-append D (reverse M))

pub length-option : {X : Type 0} (L : List X) (t : Option X) (M : List X) → reverse L ≡ cons_option t (reverse M) → length L ≤ length M + 1
length-option L None M e = omega (arith, length-reverse L, length-reverse M, ap length e)
length-option L (Some x) M e = omega (arith, length-reverse L, length-reverse M, ap length e)
