-- Where a query is in an ascending list, from what a search found. All that is needed of the order is here.
--     Ascends-by_query      how keys compare with a query ascends over an ascending list
--     Splits-from_Finds      what such a search finds splits the list
--     index_of-, there-from_Splits      and is the query's index, at which its pair is;  Rising-put, Rising-remove, ..      what the calls leave ascends
use Rattle.litemap_store.proofs.Names.{[], ℕ, ◌++◌, ◌<◌, ◌∙◌, ◌∷◌, ◌≡◌, ◌≢◌, ◌≤◌, above, alike_right, AllByRecursion, ap, arith, Ascends, at, below, BelowAll}
use Rattle.litemap_store.proofs.Names.{Bool, cond, cons_option, Equal, Err, false, filter, FindsEqual, get_or, Greater, IfOk, In, index_of, inl, inr, is_eq}
use Rattle.litemap_store.proofs.Names.{is_gt}
use Rattle.litemap_store.proofs.Names.{is_lt, IsFoundAt, IsTotalOrder, key_or, length, Less, List, None, Ok, OneSide, Ordering, ordering_index}
use Rattle.litemap_store.proofs.Names.{ordering_reverse, put, recursion_from_All, refl, remove, Result, Rising, set_value, slice_get, Some, Splits, subst, suc}
use Rattle.litemap_store.proofs.Names.{sym, tied_itself, true, zero}
use Rattle.litemap_store.proofs.Lists.Membership.{In-from_filter, each, from_each}
use Rattle.litemap_store.proofs.Lists.Seams.{each-set_value, found_there, set_value-suc}
use Rattle.litemap_store.proofs.Lists.Places.{AllPairs-from_Rising}

-- ---- an ordering by its test
pub less_from_is_lt : (r : Ordering) → is_lt r ≡ true → r ≡ Less
less_from_is_lt Less h = refl
less_from_is_lt Equal h = absurd (cc)
less_from_is_lt Greater h = absurd (cc)

pub greater_from_is_gt : (r : Ordering) → is_gt r ≡ true → r ≡ Greater
greater_from_is_gt Less h = absurd (cc)
greater_from_is_gt Equal h = absurd (cc)
greater_from_is_gt Greater h = refl

pub equal_from_is_eq : (r : Ordering) → is_eq r ≡ true → r ≡ Equal
equal_from_is_eq Less h = absurd (cc)
equal_from_is_eq Equal h = refl
equal_from_is_eq Greater h = absurd (cc)

pub not_is_eq : (r : Ordering) → r ≢ Equal → is_eq r ≡ false
not_is_eq Less n = refl
not_is_eq Equal n = absurd (n refl)
not_is_eq Greater n = refl

-- ---- what holds of each element

-- if P implies Q, and P holds of each element, so does Q
pub each-weaker : {X : Type 0} {P Q : X → Type 0} → ((x : X) → P x → Q x) → (L : List X) → AllByRecursion P L → AllByRecursion Q L
each-weaker f [] h = tt
each-weaker f (x ∷ L) h = (f x h.0, each-weaker f L h.1)

each-filter : {X : Type 0} (P : X → Type 0) (test : X → Bool) (L : List X) → AllByRecursion P L → AllByRecursion P (filter test L)
each-filter P test L h = from_each P (filter test L) (λ x i. each P L h x (In-from_filter test L x i).0)

pub each-append : {X : Type 0} (P : X → Type 0) (A B : List X) → AllByRecursion P A → AllByRecursion P B → AllByRecursion P (A ++ B)
each-append P [] B h t = t
each-append P (x ∷ A) B h t = (h.0, each-append P A B h.1 t)

each-remove : {X : Type 0} (P : X → Type 0) (L : List X) (i : ℕ) → AllByRecursion P L → AllByRecursion P (remove L i)
each-remove P [] zero h = tt
each-remove P [] (suc i) h = tt
each-remove P (x ∷ L) zero h = h.1
each-remove P (x ∷ L) (suc i) h = (h.0, each-remove P L i h.1)

-- ---- joined and filtered lists ascend
module _ {K V : Type 0} (cmp : K → K → Ordering) where
  pub Rising-append : (A B : List (K × V)) → Rising cmp A → Rising cmp B → ((a b : K × V) → In a A → In b B → cmp a.0 b.0 ≡ Less) → Rising cmp (A ++ B)
  Rising-append [] B r s f = s
  Rising-append (a ∷ A) B r s f = (
    each-append (λ (q : K × V). cmp a.0 q.0 ≡ Less) A B r.0 (from_each (λ (q : K × V). cmp a.0 q.0 ≡ Less) B (λ x i. f a x (inl refl) i)),
    Rising-append A B r.1 s (λ x y i j. f x y (inr i) j),
  )

  pub Rising-filter : (test : K × V → Bool) (L : List (K × V)) → Rising cmp L → Rising cmp (filter test L)
  Rising-filter test [] r = r
  Rising-filter test (p ∷ L) r =
      let rest : Rising cmp (filter test L) = Rising-filter test L r.1 in
      elim (test p) as (λ b. Rising cmp (cond b (p ∷ filter test L) (filter test L)))
      [ true ↦ (each-filter (λ (q : K × V). cmp p.0 q.0 ≡ Less) test L r.0, rest) | false ↦ rest ]

module _ {K Q V : Type 0} (order : K → Q → Ordering) where
  -- every key of the list is above q
  abbrev AllPast : List (K × V) → Q → Type 0
  AllPast L q = AllByRecursion (λ p. order p.0 q ≡ Greater) L

  pub below_none : (L : List (K × V)) (q : Q) → AllPast L q → below order L q ≡ []
  below_none [] q h = refl
  below_none (p ∷ L) q h = rw h.0 (below_none L q h.1)

  pub above_all : (L : List (K × V)) (q : Q) → AllPast L q → above order L q ≡ L
  above_all [] q h = refl
  above_all (p ∷ L) q h = rw h.0 (ap (λ M. p ∷ M) (above_all L q h.1))

  pub at_none : (L : List (K × V)) (q : Q) → AllByRecursion (λ p. order p.0 q ≢ Equal) L → at order L q ≡ None
  at_none [] q n = refl
  at_none (p ∷ L) q n = rw (not_is_eq (order p.0 q) n.0) (at_none L q n.1)

  pub at_past : (L : List (K × V)) (q : Q) → AllPast L q → at order L q ≡ None
  at_past [] q h = refl
  at_past (p ∷ L) q h = rw h.0 (at_past L q h.1)

  -- what a lookup that finds nothing tells, and what it finds
  pub none_equal : (L : List (K × V)) (q : Q) → at order L q ≡ None → AllByRecursion (λ p. order p.0 q ≢ Equal) L
  none_equal [] q e = tt
  none_equal (p ∷ L) q e = by (is_eq (order p.0 q)) refl e (none_equal L q)
    where
      by : (b : Bool) → is_eq (order p.0 q) ≡ b → cond b (Some p) (at order L q) ≡ None → (at order L q ≡ None → AllByRecursion (λ p. order p.0 q ≢ Equal) L)
          → AllByRecursion (λ p. order p.0 q ≢ Equal) (p ∷ L)
      by true f h rest = absurd (cc)
      by false f h rest = ((λ s. let d : false ≡ true = sym f ∙ ap is_eq s in cc), rest h)

  pub at_in : (L : List (K × V)) (q : Q) (p : K × V) → at order L q ≡ Some p → In p L × (order p.0 q ≡ Equal)
  at_in [] q p e = absurd (cc)
  at_in (x ∷ L) q p e = by (is_eq (order x.0 q)) refl e (at_in L q p)
    where
      by : (b : Bool) → is_eq (order x.0 q) ≡ b → cond b (Some x) (at order L q) ≡ Some p → (at order L q ≡ Some p → In p L × (order p.0 q ≡ Equal))
          → In p (x ∷ L) × (order p.0 q ≡ Equal)
      by true f h rest = let s : x ≡ p = cc in (inl s, subst (λ (y : K × V). order y.0 q ≡ Equal) s (equal_from_is_eq _ f))
      by false f h rest = let t = rest h in (inr t.0, t.1)

  -- the index in a search's result is the query's index
  pub index_of-from_Splits : (L : List (K × V)) (q : Q) (r : Result ℕ ℕ) → Splits order L q r → r ≡ index_of order L q
  index_of-from_Splits L q (Ok i) s = rw s.found (ap Ok s.place)
  index_of-from_Splits L q (Err i) s = rw s.missing (ap Err s.place)

  -- the pair at an index that is found is that of the key
  pub there-from_Splits : (L : List (K × V)) (q : Q) (r : Result ℕ ℕ) → Splits order L q r → IfOk r (λ i. slice_get L i ≡ at order L q)
  there-from_Splits L q (Ok i) s = found_there order L q i s
  there-from_Splits L q (Err i) s = tt

-- ---- what a query finds in an ascending list
module _ {K Q : Type 0} {cmp : K → K → Ordering} {order : K → Q → Ordering} (one : OneSide cmp order) where
  past : (q : Q) (x y : K) → order x q ≢ Less → cmp x y ≡ Less → order y q ≡ Greater
  past q x y n l = elim (one q x y l) [ inl h ↦ absurd (n h) | inr g ↦ g ]

  before_equal : (q : Q) (x y : K) → order y q ≡ Equal → cmp x y ≡ Less → order x q ≡ Less
  before_equal q x y e l = elim (one q x y l) [ inl h ↦ h | inr g ↦ absurd (cc) ]

  after : (q : Q) (x y : K) (r s : Ordering) → cmp x y ≡ Less → order x q ≡ r → order y q ≡ s → ordering_index r ≤ ordering_index s
  after q x y Less s h e f = omega arith
  after q x y Equal s h e f = let u : s ≡ Greater = sym f ∙ past q x y (λ n. cc) h in rw u (omega arith)
  after q x y Greater s h e f = let u : s ≡ Greater = sym f ∙ past q x y (λ n. cc) h in rw u (omega arith)

  module _ {V : Type 0} where
    pub Ascends-by_query : (L : List (K × V)) (q : Q) → Rising cmp L → Ascends (λ x. order x q) L
    Ascends-by_query L q r i j d a b = after q _ _ _ _ (AllPairs-from_Rising cmp L r i j d a b) refl refl

    pub found_at : (L : List (K × V)) (q : Q) (i : ℕ) → Rising cmp L → i < length L → ((d : K × V) → order (get_or L i d).0 q ≡ Equal) → IsFoundAt order L q i
    found_at [] q i r h e = absurd (omega arith)
    found_at (p ∷ L) q zero r h e =
        let c : order p.0 q ≡ Equal = e p in
        let later : AllPast order L q = each-weaker (λ (x : K × V). past q p.0 x.0 (λ n. cc)) L r.0 in
        record {
          pair = p;
          equal = c;
          is = rw c (rw (below_none order L q later) (rw (above_all order L q later) refl));
          place = rw c (rw (below_none order L q later) refl);
          found = rw c refl;
        }
    found_at (p ∷ L) q (suc i) r h e =
        let f = found_at L q i r.1 (omega arith) e in
        let later : cmp p.0 (get_or L i p).0 ≡ Less = AllPairs-from_Rising cmp (p ∷ L) r zero (suc i) p (omega arith) h in
        let less : order p.0 q ≡ Less = before_equal q _ _ (e p) later in
        record {
          pair = f.pair;
          equal = f.equal;
          is = rw less (ap (λ M. p ∷ M) f.is);
          place = rw less (ap suc f.place);
          found = rw less f.found;
        }

    parted_by : (p : K × V) (L : List (K × V)) (q : Q) (r : Ordering) → order p.0 q ≡ r → BelowAll cmp p.0 L
        → L ≡ below order L q ++ cons_option (at order L q) (above order L q)
        → p ∷ L ≡ below order (p ∷ L) q ++ cons_option (at order (p ∷ L) q) (above order (p ∷ L) q)
    parted_by p L q Less e b is = rw e (ap (λ M. p ∷ M) is)
    parted_by p L q Equal e b is =
        let later : AllPast order L q = each-weaker (λ (x : K × V). past q p.0 x.0 (λ n. cc)) L b in
        rw e (rw (below_none order L q later) (rw (above_all order L q later) refl))
    parted_by p L q Greater e b is =
        let later : AllPast order L q = each-weaker (λ (x : K × V). past q p.0 x.0 (λ n. cc)) L b in
        rw e (rw (below_none order L q later) (rw (at_past order L q later) (rw (above_all order L q later) refl)))

    -- what is below the query, the pair that it finds if there is one, and what is above
    pub parted : (L : List (K × V)) (q : Q) → Rising cmp L → L ≡ below order L q ++ cons_option (at order L q) (above order L q)
    parted [] q r = refl
    parted (p ∷ L) q r = parted_by p L q (order p.0 q) refl r.0 (parted L q r.1)

    pub Splits-from_Finds : (L : List (K × V)) (q : Q) → Rising cmp L → (r : Result ℕ ℕ) → FindsEqual (λ x. order x q) L r → Splits order L q r
    Splits-from_Finds L q r (Ok i) f = found_at L q i r f.0 f.1
    Splits-from_Finds L q r (Err i) f =
        let none = at_none order L q (recursion_from_All (λ (p : K × V). order p.0 q ≢ Equal) L f.0) in
        record { is = rw none at (parted L q r); place = f.1; missing = none }

module _ {K : Type 0} {cmp : K → K → Ordering} (o : IsTotalOrder cmp) where
  pub less_back : (a b : K) → cmp a b ≡ Less → cmp b a ≡ Greater
  less_back a b e = o.antisymm b a ∙ ap ordering_reverse e

  pub greater_back : (a b : K) → cmp a b ≡ Greater → cmp b a ≡ Less
  greater_back a b e = o.antisymm b a ∙ ap ordering_reverse e

  module _ {V : Type 0} where
    -- ---- the parts below and above a key
    pub kept_below : (L : List (K × V)) (k : K) (x : K × V) → In x (below cmp L k) → cmp x.0 k ≡ Less
    kept_below L k x i = less_from_is_lt _ (In-from_filter (λ (q : K × V). is_lt (cmp q.0 k)) L x i).1

    pub kept_above : (L : List (K × V)) (k : K) (x : K × V) → In x (above cmp L k) → cmp k x.0 ≡ Less
    kept_above L k x i = greater_back x.0 k (greater_from_is_gt _ (In-from_filter (λ (q : K × V). is_gt (cmp q.0 k)) L x i).1)

    -- a pair with an equal key between them
    pub Rising-between : (L : List (K × V)) (k : K) (p : K × V) → cmp p.0 k ≡ Equal → Rising cmp L → Rising cmp (below cmp L k ++ p ∷ above cmp L k)
    Rising-between L k p e r =
        Rising-append cmp (below cmp L k) (p ∷ above cmp L k) (Rising-filter cmp _ L r)
        (from_each (λ (q : K × V). cmp p.0 q.0 ≡ Less) (above cmp L k) (λ x i. o.congr p.0 k x.0 e ∙ kept_above L k x i), Rising-filter cmp _ L r)
        (λ a b i j. elim j [
          | inl f ↦ subst (λ (q : K × V). cmp a.0 q.0 ≡ Less) f (alike_right o p.0 k a.0 e ∙ kept_below L k a i)
          | inr h ↦ o.trans a.0 k b.0 (kept_below L k a i) (kept_above L k b h)
        ])

    -- the key that a put leaves
    pub key_or_equal : (k : K) (L : List (K × V)) → cmp (key_or (at cmp L k) k) k ≡ Equal
    key_or_equal k L = (elim (at cmp L k) as
        (λ a. at cmp L k ≡ a → cmp (key_or a k) k ≡ Equal) [ None ↦ λ e. tied_itself o k | Some p ↦ λ e. (at_in cmp L k p e).1 ]) refl

    pub Rising-put : (L : List (K × V)) (k : K) (v : V) → Rising cmp L → Rising cmp (put cmp L k v)
    Rising-put L k v r = Rising-between L k (key_or (at cmp L k) k, v) (key_or_equal k L) r

module _ {K V : Type 0} (cmp : K → K → Ordering) where
  pub Rising-remove : (L : List (K × V)) (i : ℕ) → Rising cmp L → Rising cmp (remove L i)
  Rising-remove [] zero h = h
  Rising-remove [] (suc i) h = h
  Rising-remove (p ∷ L) zero h = h.1
  Rising-remove (p ∷ L) (suc i) h = (each-remove _ L i h.0, Rising-remove L i h.1)

  -- another value leaves the keys
  pub Rising-set_value : (L : List (K × V)) (i : ℕ) (v : V) → Rising cmp L → Rising cmp (set_value L i v)
  Rising-set_value [] i v h = h
  Rising-set_value (p ∷ L) zero v h = h
  Rising-set_value (p ∷ L) (suc i) v h =
      subst (Rising cmp) (sym (set_value-suc p L i v)) (each-set_value (λ k. cmp p.0 k ≡ Less) L i v h.0, Rising-set_value L i v h.1)
