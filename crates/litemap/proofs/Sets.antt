-- Two ascending lists, one walked beside the other.
--     list_all-past      whether each is found, after the first one
--     at_end, at_equal, at_greater      what a key finds, and the pairs past it, by the first pair;  Kept-beside      what a closure keeps that walks the other
-- list
--     value_at-kept      what each key finds in it;  found_in_each      what it finds if each key is in the other list
use Rattle.litemap.proofs.Common.{◌≡◌, IsSome, Bool, true, false, cond, List, [], ◌∷◌, length, filter, is_some, slice_get, Option}
use Rattle.litemap.proofs.Common.{None, Some, option_map, refl, sym, ap, ◌∙◌, subst, arith, is_eq, is_gt, Ordering, Less, Equal}
use Rattle.litemap.proofs.Common.{Greater, Bor, IsTotalOrder, AllByRecursion, items_where_true, list_all, TakesFirst, deref_pair}
use Rattle.litemap.proofs.Common.{BelowAll, Rising, above, at, value_at, at-filter_kept, Rising-filter, above_all}
use Rattle.litemap.proofs.Common.{at_past, each-weaker, equal_from_is_eq, greater_back, less_back, Called, Mut}
use Rattle.std.proofs.lemmas.Bool.{and_parts}
use Rattle.std.specs.List.Retain.{ReturnsInTurn}
use Rattle.litemap_store.specs.Retain.{CalledOnPair, Kept}
use Rattle.litemap_store.proofs.Callers.Tallies.{value_at_equal}
use Rattle.litemap.specs.Updates.{KeepsPart}
use Rattle.litemap.proofs.Updating.{value_at-no_part, value_at-part}

module _ {K : Type 0} {cmp : K → K → Ordering} (o : IsTotalOrder cmp) {W : Type 0} where
  -- past a key, a greater one finds what it found before
  at-above : (k q : K) → cmp k q ≡ Less → (R : List (K × W)) → at cmp (above cmp R k) q ≡ at cmp R q
  at-above k q lower R = at-filter_kept cmp q (λ x. is_gt (cmp x k)) (λ x e. ap is_gt (o.congr x q k e ∙ less_back o k q lower)) R

  module _ {V : Type 0} (k : K) (R : List (K × W)) where
    filter-above : (t : Bool → Bool) (L : List (K × V)) → BelowAll cmp k L → filter (λ p. t (is_some (at cmp (above cmp R k) p.0))) L
        ≡ filter (λ p. t (is_some (at cmp R p.0))) L
    filter-above t [] h = refl
    filter-above t (q ∷ L) h = rw (at-above k q.0 h.0 R) (rw (filter-above t L h.1) refl)

    list_all-above : (L : List (K × V)) → BelowAll cmp k L → list_all (λ p. is_some (at cmp (above cmp R k) p.0)) L ≡ list_all (λ p. is_some (at cmp R p.0)) L
    list_all-above [] h = refl
    list_all-above (q ∷ L) h = rw (at-above k q.0 h.0 R) (rw (list_all-above L h.1) refl)

    -- the first key of a list was found, so the others decide, by what is past it
    pub list_all-past : (R' : List (K × W)) (v : V) (L M : List (K × V)) → R' ≡ above cmp R k → is_some (at cmp R k) ≡ true → M ≡ (k, v) ∷ L → BelowAll cmp k L
        → list_all (λ p. is_some (at cmp R' p.0)) L ≡ list_all (λ p. is_some (at cmp R p.0)) M
    list_all-past R' v L M past there first h = rw first (rw past (rw there (list_all-above L h)))

  -- ---- the keys past k, if the first one is not below it
  module _ (k : K) where
    past : (R : List (K × W)) → AllByRecursion (λ y. cmp k y.0 ≡ Less) R → (above cmp R k ≡ R) × (at cmp R k ≡ None)
    past R h = let above_k = each-weaker (λ (y : K × W). less_back o k y.0) R h in (above_all cmp R k above_k, at_past cmp R k above_k)

    -- the list ends
    pub at_end : (R : List (K × W)) → None ≡ slice_get R 0 → (R ≡ above cmp R k) × (false ≡ is_some (at cmp R k))
    at_end [] e = (refl, refl)
    at_end (x ∷ R) e = absurd (cc)

    -- its first pair is equal to k, and is taken
    pub at_equal : (x : K × W) (R R' : List (K × W)) (r : Option (Bor K × Bor W)) → Some x ≡ slice_get R 0 → TakesFirst deref_pair R r R' → Equal ≡ cmp x.0 k
        → Rising cmp R → (R' ≡ above cmp R k) × (true ≡ is_some (at cmp R k))
    at_equal x [] R' r s t e h = absurd (cc)
    at_equal x (y ∷ R) R' None s t e h = absurd (let n : y ∷ R ≡ [] = t.0 in cc)
    at_equal x (y ∷ R) R' (Some z) s t e h =
        let same : x ≡ y = (let u : Some x ≡ Some y = s in cc) in
        let rest : R ≡ R' = (let u : y ∷ R ≡ deref_pair z ∷ R' = t in cc) in
        let q : cmp y.0 k ≡ Equal = subst (λ (w : K × W). cmp w.0 k ≡ Equal) same (sym e) in
        rw q (sym rest ∙ sym (past R (each-weaker (λ (z : K × W) l. sym (o.congr y.0 k z.0 q) ∙ l) R h.0)).0, refl)

    -- its first pair is above k
    pub at_greater : (x : K × W) (R : List (K × W)) → Some x ≡ slice_get R 0 → Greater ≡ cmp x.0 k → Rising cmp R
        → (R ≡ above cmp R k) × (false ≡ is_some (at cmp R k))
    at_greater x [] s e h = absurd (cc)
    at_greater x (y ∷ R) s e h =
        let same : x ≡ y = (let u : Some x ≡ Some y = s in cc) in
        let l : cmp k y.0 ≡ Less = greater_back o y.0 k (subst (λ (w : K × W). cmp w.0 k ≡ Greater) same (sym e)) in
        let i = past (y ∷ R) (l, each-weaker (λ (z : K × W) m. o.trans k y.0 z.0 l m) R h.0) in
        (sym i.0, ap is_some (sym i.1))

  -- ---- what a closure keeps that skips each key in another list, and returns whether it was there
  module _ {V F : Type 0} (g : Mut F (Bor K × (Bor V × Unit {0})) Bool) (rest : F → List (K × W)) (t : Bool → Bool)
      (steps : (f : F) (k : Bor K) (v : Bor V) (b : Bool) (f' : F) → Called g f (k, (v, tt)) b f' → Rising cmp (rest f)
      → (rest f' ≡ above cmp (rest f) k.now) × (b ≡ t (is_some (at cmp (rest f) k.now)))) where
    step : (f : F) (p : K × V) (b : Bool) (f' : F) → CalledOnPair g f p b f' → Rising cmp (rest f)
        → (rest f' ≡ above cmp (rest f) p.0) × (b ≡ t (is_some (at cmp (rest f) p.0)))
    step f p b f' c r = rw (← c.shows.0) (steps f c.key c.value b f' c.called r)

    first_kept : (p : K × V) (b c : Bool) (bs : List Bool) (L N : List (K × V)) → b ≡ c → items_where_true bs L ≡ N
        → items_where_true (b ∷ bs) (p ∷ L) ≡ cond c (p ∷ N) N
    first_kept p true c bs L N e is = rw (← e) (ap (λ M. p ∷ M) is)
    first_kept p false c bs L N e is = rw (← e) is

    kept : (bs : List Bool) (L : List (K × V)) (f f' : F) → length bs ≡ length L → Rising cmp L → Rising cmp (rest f) → ReturnsInTurn (CalledOnPair g) f bs L f'
        → items_where_true bs L ≡ filter (λ p. t (is_some (at cmp (rest f) p.0))) L
    kept [] [] f f' e h r k = refl
    kept [] (p ∷ L) f f' e h r k = absurd (omega arith)
    kept (b ∷ bs) [] f f' e h r k = absurd k
    kept (b ∷ bs) (p ∷ L) f f' e h r k =
        let one = step f p b k.0 k.1 r in
        let rises : Rising cmp (rest k.0) = subst (Rising cmp) (sym one.0) (Rising-filter cmp _ (rest f) r) in
        let later = kept bs L k.0 f' (omega arith) h.1 rises k.2 in
        let same = later ∙ ap (λ R. filter (λ (q : K × V). t (is_some (at cmp R q.0))) L) one.0 ∙ filter-above p.0 (rest f) t L h.0 in
        first_kept p b (t (is_some (at cmp (rest f) p.0))) bs L _ one.1 same

    pub Kept-beside : (f : F) (L L' M : List (K × V)) (R R' : List (K × W)) → Kept g f L M → Rising cmp L → L ≡ L' → rest f ≡ R → Rising cmp R → R ≡ R'
        → M ≡ filter (λ p. t (is_some (at cmp R' p.0))) L'
    Kept-beside f L L' M R R' k h is from r same = rw (← same) (rw (← is) (rw (← from) (k.4 ∙ kept k.0 L f k.1 k.2 h (subst (Rising cmp) (sym from) r) k.3)))

-- ---- what each key finds if those of another list are kept, or dropped
module _ {K : Type 0} {cmp : K → K → Ordering} (o : IsTotalOrder cmp) {W : Type 0} (t : Bool → Bool) (M : List (K × W)) where
  abbrev keeps : K → Bool
  keeps x = t (is_some (at cmp M x))

  is_some-value : (p : Option (K × W)) → is_some (option_map (λ q. q.1) p) ≡ is_some p
  is_some-value None = refl
  is_some-value (Some p) = refl

  same_key : (x y : K) → cmp x y ≡ Equal → keeps x ≡ keeps y
  same_key x y e = ap t (sym (is_some-value (at cmp M x)) ∙ ap is_some (sym (value_at_equal o M x y e)) ∙ is_some-value (at cmp M y))

  pub value_at-kept : {V : Type 0} (L N : List (K × V)) → KeepsPart (λ q. keeps q.0) L N → (k : K)
      → value_at cmp N k ≡ cond (keeps k) (value_at cmp L k) None
  value_at-kept L N part k = (elim (keeps k) as (λ b. keeps k ≡ b → value_at cmp N k ≡ cond b (value_at cmp L k) None)
      [ true ↦ value_at-part keeps same_key L N part k | false ↦ value_at-no_part keeps same_key L N part k ]) refl

-- ---- what a lookup finds if each key is in another list
module _ {K W : Type 0} {cmp : K → K → Ordering} (o : IsTotalOrder cmp) (M : List (K × W)) (k : K) where
  found_at : (x : K) → cmp x k ≡ Equal → is_some (at cmp M x) ≡ true → IsSome (value_at cmp M k)
  found_at x e is = rw (value_at_equal o M x k e)
      (elim (at cmp M x) as (λ r. is_some r ≡ true → IsSome (option_map (λ q. q.1) r)) [ None ↦ λ n. n | Some p ↦ λ n. refl ] is)

  pub found_in_each : {V : Type 0} (L : List (K × V)) → list_all (λ p. is_some (at cmp M p.0)) L ≡ true → IsSome (value_at cmp L k) → IsSome (value_at cmp M k)
  found_in_each [] all is = absurd (cc)
  found_in_each (p ∷ L) all is =
      let both = and_parts (is_some (at cmp M p.0)) (list_all (λ q. is_some (at cmp M q.0)) L) all in
      (elim (is_eq (cmp p.0 k)) as (λ t. is_eq (cmp p.0 k) ≡ t → IsSome (value_at cmp M k)) [
        | true ↦ λ e. found_at p.0 (equal_from_is_eq (cmp p.0 k) e) both.0
        | false ↦ λ e. found_in_each L both.1 (rw e at is)
      ]) refl
