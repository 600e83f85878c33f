-- What any query finds, by its test of pairs, in what a call leaves that changes more than one key.
--     keeps_part      in a part;  takes_at      once a pair was taken out;  is_least, is_greatest      at the ends
--     retains      in what a closure keeps;  leaves_of      in what a closure wrote
--     member      the value that is found is one of the map's
use Rattle.litemap.proofs.Common.{◌≡◌, ◌≢◌, ◌∙◌, ◌∷◌, ◌++◌, ◌-◌, ◌&&◌, [], Bool, true, false, true≢false, List, Option, None, Some, ap, arith, cond, drop}
use Rattle.litemap.proofs.Common.{filter, ℕ, ◌+◌, drop_at, remove, suc, inl, inr, length, option_map, refl, slice_get, subst, sym, take, items_where_true}
use Rattle.litemap.proofs.Common.{Bor, MutBor, Mut, Ordering, at_in, equal_from_is_eq, is_eq, IsNone, IsSome, at, Less, Equal, Greater, IsTotalOrder}
use Rattle.litemap.proofs.Common.{value_at, Rising, at-rising, deref_pair, greater_back, key_alike, key_same, less_back, tied_itself}
use Rattle.std.proofs.Common.{All, find, IfSome}
use Rattle.std.proofs.lemmas.List.Elements.{All-from_recursion}
use Rattle.std.specs.List.{AllByRecursion, IsAmong}
use Rattle.std.specs.Map.{values_of}
use Rattle.std.specs.Option.{option_copied}
use Rattle.std.specs.List.Retain.{ReturnsInTurn}
use Rattle.std.proofs.lemmas.List.Folds.{find-append}
use Rattle.std.proofs.lemmas.List.{take-append-drop}
use Rattle.litemap_store.specs.Last.{In}
use Rattle.litemap_store.specs.Retain.{CalledOnPair, Kept}
use Rattle.litemap_store.proofs.Last.KeepLast.{rising_across}
use Rattle.litemap_store.proofs.Lists.Membership.{In-from_filter, In-right, each, from_each}
use Rattle.litemap.specs.Retained.{Retains, ReturnsFor}
use Rattle.litemap.specs.Updates.{IsGreatest, IsLeast, KeepsPart, Stays, TakesPair}
use Rattle.litemap.specs.Written.{LeavesOf, WritesPair, Written}
use Rattle.litemap_store.specs.Queries.{key_respects}
use Rattle.litemap.proofs.MergedTests.{none_found}
use Rattle.litemap.proofs.Updating.{keys_stay, stay}
use Rattle.litemap.proofs.Ends.{at-index, greatest, least}

module _ {X : Type 0} (test : X → Bool) where
  find-kept : (keep : X → Bool) → ((x : X) → test x ≡ true → keep x ≡ true) → (L : List X) → find test (filter keep L) ≡ find test L
  find-kept keep h [] = refl
  find-kept keep h (x ∷ L) = by (test x) (keep x) refl refl (find-kept keep h L)
    where
      by : (s k : Bool) → test x ≡ s → keep x ≡ k → find test (filter keep L) ≡ find test L → find test (cond k (x ∷ filter keep L) (filter keep L))
          ≡ cond s (Some x) (find test L)
      by true true e f rest = rw e refl
      by true false e f rest = absurd (true≢false (sym (h x e) ∙ f))
      by false true e f rest = rw e rest
      by false false e f rest = rest

  find-dropped : (keep : X → Bool) → ((x : X) → test x ≡ true → keep x ≡ false) → (L : List X) → find test (filter keep L) ≡ None
  find-dropped keep h [] = refl
  find-dropped keep h (x ∷ L) = by (test x) (keep x) refl refl (find-dropped keep h L)
    where
      by : (s k : Bool) → test x ≡ s → keep x ≡ k → find test (filter keep L) ≡ None → find test (cond k (x ∷ filter keep L) (filter keep L)) ≡ None
      by true true e f rest = absurd (true≢false (sym f ∙ h x e))
      by true false e f rest = rest
      by false true e f rest = rw e rest
      by false false e f rest = rest

  found_by : (c : Bool) (x : X) (L : List X) (y : X) → test x ≡ c → cond c (Some x) (find test L) ≡ Some y → (find test L ≡ Some y → In y L) → In y (x ∷ L)
  found_by true x L y t e rest = inl (cc)
  found_by false x L y t e rest = inr (rest e)

  pub In-found : (L : List X) (y : X) → find test L ≡ Some y → In y L
  In-found [] y e = absurd (cc)
  In-found (x ∷ L) y e = found_by (test x) x L y refl e (In-found L y)

  not-passed : (x : X) → (test x ≡ true → ⊥) → test x ≡ false
  not-passed x n = by (test x) refl
    where
      by : (c : Bool) → test x ≡ c → c ≡ false
      by true e = absurd (n e)
      by false e = refl

-- the same with a test that is equal for each pair
pub keeps_alike : {K V : Type 0} (keep keep' : K × V → Bool) (L M : List (K × V)) → ((p : K × V) → keep p ≡ keep' p) → M ≡ filter keep L → KeepsPart keep' L M
keeps_alike keep keep' L M same e = record {
  stays = stay (λ test h. ap (find test) e ∙ find-kept test keep (λ x t. same x ∙ h x t) L);
  gone = λ test h. ap (find test) e ∙ find-dropped test keep (λ x t. same x ∙ h x t) L;
}

pub and_true : (b : Bool) → b && true ≡ b
and_true true = refl
and_true false = refl

pub keeps_part : {K V : Type 0} (keep : K × V → Bool) (L M : List (K × V)) → M ≡ filter keep L → KeepsPart keep L M
keeps_part keep L M e = record {
  stays = stay (λ test h. ap (find test) e ∙ find-kept test keep h L);
  gone = λ test h. ap (find test) e ∙ find-dropped test keep h L;
}

module _ {K V : Type 0} {cmp : K → K → Ordering} (o : IsTotalOrder cmp) (A B : List (K × V)) (p : K × V) (r : Rising cmp (A ++ p ∷ B)) where
  module _ (test : K × V → Bool) (own : (x : K × V) → test x ≡ true → cmp x.0 p.0 ≡ Equal) where
    none-before : find test A ≡ None
    none-before = none_found test A
        (λ x i. not-passed test x (λ t. let l : cmp x.0 p.0 ≡ Less = rising_across cmp A (p ∷ B) r x p i (inl refl) in let e = own x t in cc))

    none-after : find test B ≡ None
    none-after = none_found test B
        (λ x i. not-passed test x
        (λ t. let l : cmp x.0 p.0 ≡ Greater = less_back o p.0 x.0
        (rising_across cmp (A ++ p ∷ []) B (subst (Rising cmp) (seam A) r) p x (In-right A (p ∷ []) p (inl refl)) i) in let e = own x t in cc))
      where
        seam : (A : List (K × V)) → A ++ p ∷ B ≡ (A ++ p ∷ []) ++ B
        seam [] = refl
        seam (x ∷ A) = ap (λ L. x ∷ L) (seam A)

    found-between : test p ≡ true → find test (A ++ p ∷ B) ≡ Some p
    found-between t = find-append test A (p ∷ B) ∙ rw none-before (rw t refl)

    gone-between : find test (A ++ B) ≡ None
    gone-between = find-append test A B ∙ rw (none-before, none-after) refl

  takes_parts : TakesPair cmp p (A ++ p ∷ B) (A ++ B)
  takes_parts = record {
    found = found-between (λ x. is_eq (cmp x.0 p.0)) (λ x t. equal_from_is_eq (cmp x.0 p.0) t) (ap is_eq (tied_itself o p.0));
    gone = gone-between (λ x. is_eq (cmp x.0 p.0)) (λ x t. equal_from_is_eq (cmp x.0 p.0) t);
    others = others;
    keys = keys_stay (key_respects o) p.0 (A ++ p ∷ B) (A ++ B) others;
  }
    where
      others : Stays (λ test. (x : K × V) → cmp x.0 p.0 ≡ Equal → test x ≡ false) (A ++ p ∷ B) (A ++ B)
      others = stay (λ test apart. find-append test A B ∙ sym (find-append test A (p ∷ B) ∙ rw (apart p (tied_itself o p.0)) refl))

module _ {K V : Type 0} {cmp : K → K → Ordering} (o : IsTotalOrder cmp) (L : List (K × V)) (p : K × V) (r : Rising cmp L) where
  pub takes_at : (i : ℕ) → slice_get L i ≡ Some p → TakesPair cmp p L (remove L i)
  takes_at i g =
      let n : i + 1 ≡ suc i = omega arith in
      let e : L ≡ take i L ++ p ∷ drop (suc i) L = sym (take-append-drop i L) ∙ ap (λ M. take i L ++ M) (drop_at L i p g ∙ ap (λ m. p ∷ drop m L) n) in
      subst (λ N. TakesPair cmp p N (remove L i)) (sym e) (takes_parts o (take i L) (drop (suc i) L) p (subst (Rising cmp) e r))

  pub is_least : slice_get L 0 ≡ Some p → IsLeast cmp p L
  is_least g k there = by (at cmp L k) refl there
    where
      by : (a : Option (K × V)) → at cmp L k ≡ a → IsSome (option_map (λ x. x.1) a) → cmp p.0 k ≢ Greater
      by None e h = absurd (cc)
      by (Some x) e h =
          let f = at_in cmp L k x e in
          elim (least cmp L p x r g f.0) [
            | inl s ↦ λ t. let u : cmp p.0 k ≡ Equal = rw s f.1 in cc
            | inr l ↦ λ t. let u : cmp x.0 p.0 ≡ Less = o.congr x.0 k p.0 f.1 ∙ greater_back o p.0 k t in let v : cmp x.0 p.0 ≡ Greater =
                less_back o p.0 x.0 l in cc
          ]

  pub is_greatest : slice_get L (length L - 1) ≡ Some p → IsGreatest cmp p L
  is_greatest g k there = by (at cmp L k) refl there
    where
      by : (a : Option (K × V)) → at cmp L k ≡ a → IsSome (option_map (λ x. x.1) a) → cmp k p.0 ≢ Greater
      by None e h = absurd (cc)
      by (Some x) e h =
          let f = at_in cmp L k x e in
          elim (greatest cmp L p x r g f.0) [
            | inl s ↦ λ t. let u : cmp x.0 p.0 ≡ Greater = o.congr x.0 k p.0 f.1 ∙ t in let v : cmp x.0 p.0 ≡ Equal = rw s (tied_itself o x.0) in cc
            | inr l ↦ λ t. let u : cmp x.0 p.0 ≡ Greater = o.congr x.0 k p.0 f.1 ∙ t in cc
          ]

-- the value that a lookup finds is among those of the pairs
module _ {K Q V : Type 0} (order : K → Q → Ordering) (q : Q) where
  among : (L : List (K × V)) → IfSome (value_at order L q) (IsAmong (values_of L))
  among [] = tt
  among (p ∷ L) = elim (is_eq (order p.0 q)) as (λ b. IfSome (option_map (λ x. x.1) (cond b (Some p) (at order L q))) (IsAmong (values_of (p ∷ L)))) [
    | true ↦ (0, (omega arith, refl))
    | false ↦ later (value_at order L q) (among L)
  ]
    where
      later : (o : Option V) → IfSome o (IsAmong (values_of L)) → IfSome o (IsAmong (values_of (p ∷ L)))
      later None h = tt
      later (Some v) h = (suc h.0, (omega (arith, h.1.0), h.1.1))

  pub member : (L : List (K × V)) (o : Option V) → o ≡ value_at order L q → IfSome o (IsAmong (values_of L))
  member L o e = subst (λ r. IfSome r (IsAmong (values_of L))) (sym e) (among L)

  pub member_lent : (L : List (K × V)) (r : Option (Bor V)) → option_copied r ≡ value_at order L q → IfSome r (λ v. IsAmong (values_of L) v.now)
  member_lent L None e = tt
  member_lent L (Some v) e = member L (Some v.now) e

-- what is found at an index, at an end or by a filter, also as a pair of references
module _ {K V : Type 0} {cmp : K → K → Ordering} (o : IsTotalOrder cmp) (L : List (K × V)) (r : Rising cmp L) where
  pub found_there : (i : ℕ) (p : Option (Bor K × Bor V)) → option_map deref_pair p ≡ slice_get L i → IfSome p (λ q. at cmp L q.0.now ≡ Some (deref_pair q))
  found_there i None e = tt
  found_there i (Some q) e = at-index cmp o cmp q.0.now (key_same o q.0.now) (key_alike o q.0.now) L i (deref_pair q) r (sym e) (tied_itself o q.0.now)

  -- each pair is what its key finds, and so are those that a filter keeps
  pub each_found : (p : K × V) → In p L → at cmp L p.0 ≡ Some p
  each_found p i = at-rising cmp o cmp p.0 (key_same o p.0) (key_alike o p.0) L p r i (tied_itself o p.0)

  pub all_found : All (λ p. at cmp L p.0 ≡ Some p) L
  all_found = All-from_recursion _ L (from_each _ L each_found)

  pub kept_found : (keep : K × V → Bool) (M : List (K × V)) → M ≡ filter keep L → AllByRecursion (λ p. at cmp L p.0 ≡ Some p) M
  kept_found keep M e = subst (AllByRecursion (λ p. at cmp L p.0 ≡ Some p)) (sym e)
      (from_each (λ p. at cmp L p.0 ≡ Some p) (filter keep L) (λ p i. each_found p (In-from_filter keep L p i).0))

  pub least_there : (p : Option (Bor K × Bor V)) → option_map deref_pair p ≡ slice_get L 0 → IfSome p (λ q. IsLeast cmp (deref_pair q) L)
  least_there None e = tt
  least_there (Some q) e = is_least o L (deref_pair q) r (sym e)

  pub greatest_there : (p : Option (Bor K × Bor V)) → option_map deref_pair p ≡ slice_get L (length L - 1) → IfSome p (λ q. IsGreatest cmp (deref_pair q) L)
  greatest_there None e = tt
  greatest_there (Some q) e = is_greatest o L (deref_pair q) r (sym e)

pub empty_there : {K V : Type 0} (p : Option (Bor K × Bor V)) (q : Option (K × V)) → IsNone p → option_map deref_pair p ≡ q → q ≡ None
empty_there None q n e = sym e
empty_there (Some x) q n e = absurd (cc)

-- ---- what a closure keeps
module _ {F K V : Type 0} (g : Mut F (Bor K × (Bor V × Unit {0})) Bool) (test : K × V → Bool) where
  later : (f f' : F) (p : K × V) (L : List (K × V)) (b : Bool) → f' ≡ f → test p ≡ false → ReturnsFor g f test (p ∷ L) b → ReturnsFor g f' test L b
  later f f' p L b same n a = subst (λ h. ReturnsFor g h test L b) (sym same) (λ q c h called. ((a q c h called).0, λ t is. (a q c h called).1 t (rw n is)))

  skipped : (b : Bool) (bs : List Bool) (p : K × V) (L : List (K × V)) (r : Option (K × V)) → test p ≡ false
      → find test (items_where_true bs L) ≡ r → find test (items_where_true (b ∷ bs) (p ∷ L)) ≡ r
  skipped true bs p L r n is = rw n is
  skipped false bs p L r n is = is

  first_stays : (b : Bool) (bs : List Bool) (p : K × V) (L : List (K × V)) → test p ≡ true → b ≡ true → find test (items_where_true (b ∷ bs) (p ∷ L)) ≡ Some p
  first_stays true bs p L t y = rw t refl
  first_stays false bs p L t y = absurd (cc)

  first_goes : (b : Bool) (bs : List Bool) (p : K × V) (L : List (K × V)) → b ≡ false → find test (items_where_true bs L) ≡ None
      → find test (items_where_true (b ∷ bs) (p ∷ L)) ≡ None
  first_goes true bs p L y is = absurd (cc)
  first_goes false bs p L y is = is

  In-picked : (bs : List Bool) (L : List (K × V)) (x : K × V) → In x (items_where_true bs L) → In x L
  In-picked [] L x i = absurd i
  In-picked (b ∷ bs) [] x i = absurd i
  In-picked (true ∷ bs) (p ∷ L) x (inl e) = inl e
  In-picked (true ∷ bs) (p ∷ L) x (inr i) = inr (In-picked bs L x i)
  In-picked (false ∷ bs) (p ∷ L) x i = inr (In-picked bs L x i)

  kept-stays : (bs : List Bool) (L : List (K × V)) (f f' : F) → length bs ≡ length L → ReturnsInTurn (CalledOnPair g) f bs L f' → ReturnsFor g f test L true
      → find test (items_where_true bs L) ≡ find test L
  kept-stays [] [] f f' n turn a = refl
  kept-stays [] (p ∷ L) f f' n turn a = absurd (omega arith)
  kept-stays (b ∷ bs) [] f f' n turn a = absurd turn
  kept-stays (b ∷ bs) (p ∷ L) f f' n turn a =
      let one = a p b turn.0 turn.1 in
      (elim (test p) as (λ t. test p ≡ t → find test (items_where_true (b ∷ bs) (p ∷ L)) ≡ find test (p ∷ L)) [
        | true ↦ λ e. first_stays b bs p L e (one.1 e (rw e refl)) ∙ rw e refl
        | false ↦ λ e. skipped b bs p L _ e (rw e (kept-stays bs L turn.0 f' (omega arith) turn.2 (later f turn.0 p L true one.0 e a)))
      ]) refl

  module _ (cmp : K → K → Ordering) (own : (p q : K × V) → test p ≡ true → test q ≡ true → cmp p.0 q.0 ≡ Equal) where
    kept-gone : (bs : List Bool) (L : List (K × V)) (f f' : F) → length bs ≡ length L → Rising cmp L → ReturnsInTurn (CalledOnPair g) f bs L f'
        → ReturnsFor g f test L false
        → find test (items_where_true bs L) ≡ None
    kept-gone [] L f f' n h turn a = refl
    kept-gone (b ∷ bs) [] f f' n h turn a = refl
    kept-gone (b ∷ bs) (p ∷ L) f f' n h turn a =
        let one = a p b turn.0 turn.1 in
        (elim (test p) as (λ t. test p ≡ t → find test (items_where_true (b ∷ bs) (p ∷ L)) ≡ None) [
          | true ↦ λ e. first_goes b bs p L (one.1 e (rw e refl)) (none_found test (items_where_true bs L) (λ x i. not-passed test x (λ t.
              let l : cmp p.0 x.0 ≡ Less = each (λ (y : K × V). cmp p.0 y.0 ≡ Less) L h.0 x (In-picked bs L x i) in let s = own p x e t in cc)))
          | false ↦ λ e. skipped b bs p L None e (kept-gone bs L turn.0 f' (omega arith) h.1 turn.2 (later f turn.0 p L false one.0 e a))
        ]) refl

pub retains : {F K V : Type 0} (g : Mut F (Bor K × (Bor V × Unit {0})) Bool) (cmp : K → K → Ordering) (f : F) (L L' M : List (K × V)) → Kept g f L M → L ≡ L'
    → Rising cmp L → Retains g f cmp L' M
retains g cmp f L L' M kept is r = record {
  stays = stay (λ test a. ap (find test) (kept.4) ∙ kept-stays g test kept.0 L f kept.1 kept.2 kept.3 (subst (λ N. ReturnsFor g f test N true) (sym is) a)
      ∙ ap (find test) is);
  gone = λ test own a. ap (find test) (kept.4) ∙ kept-gone g test cmp own kept.0 L f kept.1 kept.2 r kept.3
      (subst (λ N. ReturnsFor g f test N false) (sym is) a);
}

-- ---- what a closure wrote
module _ {F K V : Type 0} (g : Mut F (Bor K × (MutBor V × Unit {0})) (Unit {0} × (MutBor V × Unit {0}))) (test : K × V → Bool)
    (alike : (k : K) (v w : V) → test (k, v) ≡ test (k, w)) where
  abbrev Leaves : F → (V → V) → Type 0
  Leaves f h = (p q : K × V) (f' : F) → WritesPair g f p q f' → (f' ≡ f) × (test p ≡ true → q.1 ≡ h p.1)

  written-found : (h : V → V) (L M : List (K × V)) (f : F) → Leaves f h → Written g f L M
      → option_map (λ p. p.1) (find test M) ≡ option_map h (option_map (λ p. p.1) (find test L))
  written-found h [] M f a w = rw w refl
  written-found h (p ∷ L) M f a w =
      let one = a p w.0 w.1 w.3 in
      by (test p) refl one.1 (written-found h L w.2 w.1 (subst (λ e. Leaves e h) (sym one.0) a) w.4)
    where
      by : (c : Bool) → test p ≡ c → (test p ≡ true → w.0.1 ≡ h p.1)
          → option_map (λ x. x.1) (find test w.2) ≡ option_map h (option_map (λ x. x.1) (find test L))
          → option_map (λ x. x.1) (find test M) ≡ option_map h (option_map (λ x. x.1) (find test (p ∷ L)))
      by true t v rest = rw (w.5, w.3.leaves) (rw (alike p.0 w.3.left.now p.1) (rw t (ap Some (sym (ap (λ q. q.1) w.3.leaves) ∙ v t))))
      by false t v rest = rw (w.5, w.3.leaves) (rw (alike p.0 w.3.left.now p.1) (rw t rest))

  written-stays : (L M : List (K × V)) (f : F) → Leaves f (λ v. v) → Written g f L M → find test M ≡ find test L
  written-stays [] M f a w = rw w refl
  written-stays (p ∷ L) M f a w =
      let one = a p w.0 w.1 w.3 in
      by (test p) refl one.1 (written-stays L w.2 w.1 (subst (λ e. Leaves e (λ v. v)) (sym one.0) a) w.4)
    where
      by : (c : Bool) → test p ≡ c → (test p ≡ true → w.0.1 ≡ p.1) → find test w.2 ≡ find test L → find test M ≡ find test (p ∷ L)
      by true t v rest = let s : w.3.left.now ≡ p.1 = sym (ap (λ q. q.1) w.3.leaves) ∙ v t in rw (w.5, w.3.leaves) (rw (s, t) refl)
      by false t v rest = rw (w.5, w.3.leaves) (rw (alike p.0 w.3.left.now p.1) (rw t rest))

pub leaves_of : {F K V : Type 0} (g : Mut F (Bor K × (MutBor V × Unit {0})) (Unit {0} × (MutBor V × Unit {0}))) (f : F) (L L' M : List (K × V))
    → Written g f L M → L ≡ L' → LeavesOf g f L' M
leaves_of g f L L' M w is = record {
  written = subst (λ N. Written g f N M) is w;
  found = λ test h alike a. written-found g test alike h L M f a w ∙ ap (λ N. option_map h (option_map (λ p. p.1) (find test N))) is;
  stays = λ test alike a. written-stays g test alike L M f a w ∙ ap (find test) is;
}
