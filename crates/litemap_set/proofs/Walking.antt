-- What a walk along two ascending lists yields.
--     walk_alone, walk_last      what it yields if one list is at its end
--     walk-ascends, contains-walk, walk-own      it ascends, which keys are in it, and which of two equal keys
--     subset_if_none, disjoint_if_none      what it says of two sets that a walk yields nothing
--     walk-union, walk-intersection, walk-difference, walk-symmetric_difference      which keys are in the four that sets have
use Rattle.litemap_store.proofs.Names.{[], ◌∙◌, ◌∷◌, ◌≡◌, ◌⊎◌, AllByRecursion, ap, Bool, cond, Equal, false, Greater, In, inl, inr, is_eq, IsTotalOrder, Less}
use Rattle.litemap_store.proofs.Names.{List, not, Ordering, refl, sym, true, subst}
use Rattle.std.specs.Prelude.{◌&&◌, ◌||◌, ◌↔◌, IsTrue, None, Option, Some, is_some}
use Rattle.std.specs.List.Sorted.{IsStrictlySortedBy}
use Rattle.std.specs.Map.Iter.{TakesFirst}
use Rattle.std.specs.Ordering.{match_ordering}
use Rattle.std.proofs.lemmas.Cmp.{tied_itself}
use Rattle.litemap_store.proofs.Lists.Membership.{each}
use Rattle.litemap_store.proofs.Search.Splitting.{each-weaker, equal_from_is_eq, greater_back, less_back}
use Rattle.litemap_set.specs.Sets.{IsDisjoint, IsSubset, contains}
use Rattle.litemap_set.specs.Walks.{all_if, cons_if, walk}

by_rank : {X : Type 0} (P : X → Type 0) (r : Ordering) (a b c : X) → (r ≡ Less → P a) → (r ≡ Equal → P b) → (r ≡ Greater → P c) → P (match_ordering r a b c)
by_rank P Less a b c f g h = f refl
by_rank P Equal a b c f g h = g refl
by_rank P Greater a b c f g h = h refl

module _ {K : Type 0} (cmp : K → K → Ordering) (first both second : Bool) where
  pub walk_alone : (A : List K) → walk cmp (first, both, second) A [] ≡ all_if first A
  walk_alone [] = nothing second ∙ sym (nothing first)
    where
      nothing : (b : Bool) → all_if {K = K} b [] ≡ []
      nothing true = refl
      nothing false = refl
  walk_alone (x ∷ A) = refl

  -- the first key of a list whose other is at its end
  pub walk_last : first ≡ true → (A A' B : List K) (x : K) → A ≡ x ∷ A' → B ≡ [] → walk cmp (first, both, second) A B ≡ x ∷ walk cmp (first, both, second) A' B
  walk_last on A A' B x a b = rw (a, b) (ap (λ t. all_if t (x ∷ A')) on ∙ ap (λ L. x ∷ L) (sym (walk_alone A' ∙ ap (λ t. all_if t A') on)))

  -- ---- what holds of all keys of both lists
  module _ (P : K → Type 0) where
    all_cons : (b : Bool) (x : K) (L : List K) → P x → AllByRecursion P L → AllByRecursion P (cons_if b x L)
    all_cons true x L p h = (p, h)
    all_cons false x L p h = h

    all_all : (b : Bool) (L : List K) → AllByRecursion P L → AllByRecursion P (all_if b L)
    all_all true L h = h
    all_all false L h = tt

    all_walk : (A B : List K) → AllByRecursion P A → AllByRecursion P B → AllByRecursion P (walk cmp (first, both, second) A B)
    all_walk [] B a b = all_all second B b
    all_walk (x ∷ A) [] a b = all_all first (x ∷ A) a
    all_walk (x ∷ A) (y ∷ B) a b = by_rank (AllByRecursion P) (cmp x y) _ _ _
        (λ e. all_cons first x _ a.0 (all_walk A (y ∷ B) a.1 b))
        (λ e. all_cons both x _ a.0 (all_walk A B a.1 b.1))
        (λ e. all_cons second y _ b.0 (all_walk (x ∷ A) B a b.1))

module _ {K : Type 0} {cmp : K → K → Ordering} (o : IsTotalOrder cmp) where
  abbrev Under : K → List K → Type 0
  Under x L = AllByRecursion (λ y. cmp x y ≡ Less) L

  under_all : (x y : K) (L : List K) → cmp x y ≡ Less → Under y L → Under x (y ∷ L)
  under_all x y L e h = (e, each-weaker (λ (z : K) l. o.trans x y z e l) L h)

  under_level : (x y : K) (L : List K) → cmp x y ≡ Equal → Under y L → Under x L
  under_level x y L e h = each-weaker (λ (z : K) l. o.congr x y z e ∙ l) L h

  sorted_cons : (b : Bool) (x : K) (L : List K) → Under x L → IsStrictlySortedBy cmp L → IsStrictlySortedBy cmp (cons_if b x L)
  unfolding IsStrictlySortedBy
  sorted_cons true x L u s = (u, s)
  sorted_cons false x L u s = s

  sorted_all : (b : Bool) (L : List K) → IsStrictlySortedBy cmp L → IsStrictlySortedBy cmp (all_if b L)
  unfolding IsStrictlySortedBy
  sorted_all true L s = s
  sorted_all false L s = tt

  module _ (first both second : Bool) where
    pub walk-ascends : (A B : List K) → IsStrictlySortedBy cmp A → IsStrictlySortedBy cmp B → IsStrictlySortedBy cmp (walk cmp (first, both, second) A B)
    unfolding IsStrictlySortedBy
    walk-ascends [] B a b = sorted_all second B b
    walk-ascends (x ∷ A) [] a b = sorted_all first (x ∷ A) a
    walk-ascends (x ∷ A) (y ∷ B) a b = by_rank (IsStrictlySortedBy cmp) (cmp x y) _ _ _
        (λ e. sorted_cons first x _ (all_walk cmp first both second (λ z. cmp x z ≡ Less) A (y ∷ B) a.0 (under_all x y B e b.0)) (walk-ascends A (y ∷ B) a.1 b))
        (λ e. sorted_cons both x _ (all_walk cmp first both second (λ z. cmp x z ≡ Less) A B a.0 (under_level x y B e b.0)) (walk-ascends A B a.1 b.1))
        (λ e. sorted_cons second y _ (all_walk cmp first both second (λ z. cmp y z ≡ Less) (x ∷ A) B (under_all y x A (greater_back o x y e) a.0) b.0)
        (walk-ascends (x ∷ A) B a b.1))

    -- ---- which keys are in it
    module _ (q : K) where
      abbrev has : List K → Bool
      has L = contains cmp L q

      abbrev same : K → Bool
      same x = is_eq (cmp x q)

      -- a key equal to x is in no list above x
      clear : (x : K) (L : List K) → Under x L → same x ≡ true → has L ≡ false
      clear x [] u e = refl
      clear x (y ∷ L) u e = ap (λ b. b || has L) (ap is_eq (less_back o q y (sym (o.congr x q y (equal_from_is_eq (cmp x q) e)) ∙ u.0))) ∙ clear x L u.1 e

      -- whether a key is yielded that is in the first list if a is true, and in the second if b is
      abbrev chosen : Bool → Bool → Bool
      chosen a b = cond a (cond b both first) (b && second)

      has_cons : (s : Bool) (x : K) (L : List K) → has (cons_if s x L) ≡ ((s && same x) || has L)
      has_cons true x L = refl
      has_cons false x L = refl

      has_all : (s : Bool) (L : List K) → has (all_if s L) ≡ (has L && s)
      has_all true L = and_true (has L)
        where
          and_true : (b : Bool) → b ≡ (b && true)
          and_true true = refl
          and_true false = refl
      has_all false L = and_false (has L)
        where
          and_false : (b : Bool) → false ≡ (b && false)
          and_false true = refl
          and_false false = refl

      pub contains-walk : (A B : List K) → IsStrictlySortedBy cmp A → IsStrictlySortedBy cmp B → has (walk cmp (first, both, second) A B)
          ≡ chosen (has A) (has B)
      unfolding IsStrictlySortedBy
      contains-walk [] B a b = has_all second B
      contains-walk (x ∷ A) [] a b = has_all first (x ∷ A) ∙ elim (has (x ∷ A)) as (λ h. (h && first) ≡ chosen h false) [ true ↦ refl | false ↦ refl ]
      contains-walk (x ∷ A) (y ∷ B) a b = by_rank (λ L. has L ≡ chosen (has (x ∷ A)) (has (y ∷ B))) (cmp x y) _ _ _
          (λ e. has_cons first x _ ∙ ap (λ h. (first && same x) || h) (contains-walk A (y ∷ B) a.1 b)
          ∙ lower (same x) (has A) (has (y ∷ B)) (clear x A a.0) (clear x (y ∷ B) (under_all x y B e b.0)))
          (λ e. has_cons both x _ ∙ ap (λ h. (both && same x) || h) (contains-walk A B a.1 b.1)
          ∙ level (same x) (has A) (has B) (clear x A a.0) (clear x B (under_level x y B e b.0))
          ∙ ap (λ t. chosen (same x || has A) (t || has B)) (ap is_eq (o.congr x y q e)))
          (λ e. has_cons second y _ ∙ ap (λ h. (second && same y) || h) (contains-walk (x ∷ A) B a b.1)
          ∙ higher (same y) (has (x ∷ A)) (has B) (clear y (x ∷ A) (under_all y x A (greater_back o x y e) a.0)) (clear y B b.0))
        where
          or_false : (s : Bool) → (s || false) ≡ s
          or_false true = refl
          or_false false = refl

          and_yes : (s c : Bool) → ((s && true) || c) ≡ (s || c)
          and_yes true c = refl
          and_yes false c = refl

          and_no : (s c : Bool) → ((s && false) || c) ≡ c
          and_no true c = refl
          and_no false c = refl

          lower : (t a b : Bool) → (t ≡ true → a ≡ false) → (t ≡ true → b ≡ false) → ((first && t) || chosen a b) ≡ chosen (t || a) b
          lower true a b f g = rw (f refl, g refl) (and_yes first false ∙ or_false first)
          lower false a b f g = and_no first (chosen a b)

          level : (t a b : Bool) → (t ≡ true → a ≡ false) → (t ≡ true → b ≡ false) → ((both && t) || chosen a b) ≡ chosen (t || a) (t || b)
          level true a b f g = rw (f refl, g refl) (and_yes both false ∙ or_false both)
          level false a b f g = and_no both (chosen a b)

          higher : (t a b : Bool) → (t ≡ true → a ≡ false) → (t ≡ true → b ≡ false) → ((second && t) || chosen a b) ≡ chosen a (t || b)
          higher true a b f g = rw (f refl, g refl) (and_yes second false ∙ or_false second)
          higher false a b f g = and_no second (chosen a b)

    -- ---- whose keys are in it
    module _ (k : K) where
      abbrev Own : List K → List K → Type 0
      Own A B = In k A ⊎ (In k B × (contains cmp A k ≡ false))

      In-cons : {P : Type 0} (b : Bool) (x : K) (L : List K) → (x ≡ k → P) → (In k L → P) → In k (cons_if b x L) → P
      In-cons true x L f g (inl e) = f e
      In-cons true x L f g (inr i) = g i
      In-cons false x L f g i = g i

      In-all : (b : Bool) (L : List K) → In k (all_if b L) → In k L
      In-all true L i = i
      In-all false L i = absurd i

      not_first : (x : K) (A B : List K) → Under x B → In k B → contains cmp A k ≡ false → contains cmp (x ∷ A) k ≡ false
      not_first x A B u i h = ap (λ b. b || contains cmp A k) (ap is_eq (each (λ y. cmp x y ≡ Less) B u k i)) ∙ h

      pub walk-own : (A B : List K) → IsStrictlySortedBy cmp A → IsStrictlySortedBy cmp B → In k (walk cmp (first, both, second) A B) → Own A B
      unfolding IsStrictlySortedBy
      walk-own [] B a b = λ i. inr (In-all second B i, refl)
      walk-own (x ∷ A) [] a b = λ i. inl (In-all first (x ∷ A) i)
      walk-own (x ∷ A) (y ∷ B) a b = by_rank (λ L. In k L → Own (x ∷ A) (y ∷ B)) (cmp x y) _ _ _
          (λ e. In-cons first x _ (λ h. inl (inl h)) (λ i. elim (walk-own A (y ∷ B) a.1 b i) [
            | inl j ↦ inl (inr j)
            | inr j ↦ inr (j.0, not_first x A (y ∷ B) (under_all x y B e b.0) j.0 j.1)
          ]))
          (λ e. In-cons both x _ (λ h. inl (inl h)) (λ i. elim (walk-own A B a.1 b.1 i) [
            | inl j ↦ inl (inr j)
            | inr j ↦ inr (inr j.0, not_first x A B (under_level x y B e b.0) j.0 j.1)
          ]))
          (λ e. In-cons second y _
          (λ h. inr (inl h, clear k y (x ∷ A) (under_all y x A (greater_back o x y e) a.0) (ap is_eq (subst (λ z. cmp y z ≡ Equal) h (tied_itself o y)))))
          (λ i. elim (walk-own (x ∷ A) B a b.1 i) [
            | inl j ↦ inl j
            | inr j ↦ inr (inr j.0, j.1)
          ]))

  -- ---- the four that sets have
  module _ (A B : List K) (a : IsStrictlySortedBy cmp A) (b : IsStrictlySortedBy cmp B) where
    pub walk-union : (q : K) → contains cmp (walk cmp (true, true, true) A B) q ≡ (contains cmp A q || contains cmp B q)
    walk-union q = contains-walk true true true q A B a b ∙ by (contains cmp A q) (contains cmp B q)
      where
        by : (s t : Bool) → cond s (cond t true true) (t && true) ≡ (s || t)
        by true true = refl
        by true false = refl
        by false true = refl
        by false false = refl

    pub walk-intersection : (q : K) → contains cmp (walk cmp (false, true, false) A B) q ≡ (contains cmp A q && contains cmp B q)
    walk-intersection q = contains-walk false true false q A B a b ∙ by (contains cmp A q) (contains cmp B q)
      where
        by : (s t : Bool) → cond s (cond t true false) (t && false) ≡ (s && t)
        by true true = refl
        by true false = refl
        by false true = refl
        by false false = refl

    pub walk-difference : (q : K) → contains cmp (walk cmp (true, false, false) A B) q ≡ (contains cmp A q && not (contains cmp B q))
    walk-difference q = contains-walk true false false q A B a b ∙ by (contains cmp A q) (contains cmp B q)
      where
        by : (s t : Bool) → cond s (cond t false true) (t && false) ≡ (s && not t)
        by true true = refl
        by true false = refl
        by false true = refl
        by false false = refl

    pub walk-symmetric_difference : (q : K) → contains cmp (walk cmp (true, false, true) A B) q
        ≡ cond (contains cmp A q) (not (contains cmp B q)) (contains cmp B q)
    walk-symmetric_difference q = contains-walk true false true q A B a b ∙ by (contains cmp A q) (contains cmp B q)
      where
        by : (s t : Bool) → cond s (cond t false true) (t && true) ≡ cond s (not t) t
        by true true = refl
        by true false = refl
        by false true = refl
        by false false = refl

  -- ---- an iterator ends at once exactly if no key is in it
  module _ {X : Type 0} (shows : X → K) (L M : List K) (r : Option X) (steps : TakesFirst shows L r M) (b : Bool) (ends : is_some r ≡ not b) where
    not_false : (c : Bool) → not c ≡ false → c ≡ true
    not_false true h = refl
    not_false false h = absurd cc

    none_first : (P : K → Bool) → ((q : K) → contains cmp L q ≡ P q) → (b ≡ true → (q : K) → P q ≡ false) × (((q : K) → P q ≡ false) → b ≡ true)
    none_first P members = by r steps ends
      where
        by : (s : Option X) → TakesFirst shows L s M → is_some s ≡ not b → (b ≡ true → (q : K) → P q ≡ false) × (((q : K) → P q ≡ false) → b ≡ true)
        by None t e = (λ h q. sym (members q) ∙ ap (λ N. contains cmp N q) t.0, λ h. not_false b (sym e))
        by (Some x) t e =
            let there : P (shows x) ≡ true =
            sym (members (shows x)) ∙ ap (λ N. contains cmp N (shows x)) t ∙ ap (λ c. is_eq c || contains cmp M (shows x)) (tied_itself o (shows x)) in
            (λ h. absurd (let f : true ≡ false = e ∙ ap not h in cc), λ h. absurd (let f : true ≡ false = sym there ∙ h (shows x) in cc))

    module _ (A B : List K) where
      pub subset_if_none : ((q : K) → contains cmp L q ≡ (contains cmp A q && not (contains cmp B q))) → IsTrue b ↔ IsSubset cmp A B
      subset_if_none members =
          let h = none_first (λ q. contains cmp A q && not (contains cmp B q)) members in (
            λ is q there. in_both (contains cmp A q) (contains cmp B q) (h.0 is q) there,
            λ all. h.1 (λ q. none_left (contains cmp A q) (contains cmp B q) (all q)),
          )
        where
          in_both : (s t : Bool) → (s && not t) ≡ false → s ≡ true → t ≡ true
          in_both true true e f = refl
          in_both true false e f = absurd cc
          in_both false t e f = absurd cc

          none_left : (s t : Bool) → (s ≡ true → t ≡ true) → (s && not t) ≡ false
          none_left true true f = refl
          none_left true false f = absurd (let e : false ≡ true = f refl in cc)
          none_left false t f = refl

      pub disjoint_if_none : ((q : K) → contains cmp L q ≡ (contains cmp A q && contains cmp B q)) → IsTrue b ↔ IsDisjoint cmp A B
      disjoint_if_none members =
          let h = none_first (λ q. contains cmp A q && contains cmp B q) members in (
            λ is q there. in_one (contains cmp A q) (contains cmp B q) (h.0 is q) there,
            λ all. h.1 (λ q. none_common (contains cmp A q) (contains cmp B q) (all q)),
          )
        where
          in_one : (s t : Bool) → (s && t) ≡ false → s ≡ true → t ≡ false
          in_one true true e f = absurd cc
          in_one true false e f = refl
          in_one false t e f = absurd cc

          none_common : (s t : Bool) → (s ≡ true → t ≡ false) → (s && t) ≡ false
          none_common true true f = absurd (let e : true ≡ false = f refl in cc)
          none_common true false f = refl
          none_common false t f = refl
