-- A search that halves an interval: what its steps keep, and what its end says.
--     Narrowed ord l low high      what is known of the indices below low and from high on
--     Narrowed-whole, -less, -greater      at the start, and after a result at the index m;  Finds-here, Finds-nowhere      at the two ends
--     Seen ord l hit low left, Seen-next, left_next      the same for the search that notes a hit and the number of indices left
--     takes, takes_next      from `Callable`: the closure may be called on a key of the list; each call uses up one of n
--     next      the same of `Shape`, and what the closure returns
use Rattle.litemap_store.proofs.Names.{[], ℕ, ◌+◌, ◌-◌, ◌/◌, ◌<◌, ◌∙◌, ◌∷◌, ◌≡◌, ◌≢◌, ◌≤◌, AllWithin, Any, ap, arith, Ascends, Bool, Bor, Callable, CalledAt}
use Rattle.litemap_store.proofs.Names.{cases_lt, cond, digits, digits-halved, Equal, Err, false, filter, FindsEqual, get_or_from_slice_get, Greater, inl, inr}
use Rattle.litemap_store.proofs.Names.{is_eq}
use Rattle.litemap_store.proofs.Names.{is_lt, length, Less, List, Mut, Ok, Ordering, ordering_index, refl, Shape, slice_get, slice_get_within, slice_index_or}
use Rattle.litemap_store.proofs.Names.{Some, subst, suc, sym, TakesAt, true, zero}

top : (o : Ordering) → 2 ≤ ordering_index o → o ≡ Greater
top Less h = absurd (omega arith)
top Equal h = absurd (omega arith)
top Greater h = refl

bottom : (o : Ordering) → ordering_index o ≤ 0 → o ≡ Less
bottom Less h = refl
bottom Equal h = absurd (omega arith)
bottom Greater h = absurd (omega arith)

-- what passes a test is at the first n indices
counted : {X : Type 0} (p : X → Bool) (xs : List X) (n : ℕ) → n ≤ length xs
    → ((k : ℕ) (d : X) → k < n → p (slice_index_or xs k d) ≡ true) → ((k : ℕ) (d : X) → n ≤ k → k < length xs → p (slice_index_or xs k d) ≡ false)
    → n ≡ length (filter p xs)
counted p [] zero h passes fails = refl
counted p [] (suc n) h passes fails = absurd (omega arith)
counted p (x ∷ xs) zero h passes fails =
    let e : p x ≡ false = fails 0 x (omega arith) (omega arith) in
    let r : 0 ≡ length (filter p xs) = counted p xs 0 (omega arith) (λ k d l. absurd (omega arith)) (λ k d a b. fails (suc k) d (omega arith) (omega arith)) in
    rw e r
counted p (x ∷ xs) (suc n) h passes fails =
    let e : p x ≡ true = passes 0 x (omega arith) in
    let r : n ≡ length (filter p xs) =
    counted p xs n (omega arith) (λ k d l. passes (suc k) d (omega arith)) (λ k d a b. fails (suc k) d (omega arith) (omega arith)) in
    rw e (ap suc r)

-- how many indices are left of some after a result at the middle
abbrev pub left_after : Bool → Ordering → ℕ → ℕ
left_after is_small answer left =
    cond (is_lt answer) (left / 2) (cond (is_eq answer) (cond is_small (left / 2) 0) (cond is_small (left / 2) (left - left / 2 - 1)))

module _ {K V : Type 0} (ord : K → Ordering) (l : List (K × V)) where
  -- Less below low, and Greater from high on
  pub record Narrowed (low high : ℕ) : Type 0 where
    pub front : AllWithin (λ p. ord p.0 ≡ Less) l 0 low
    pub back : AllWithin (λ p. ord p.0 ≡ Greater) l high (length l)

  pub Narrowed-whole : (n : ℕ) → length l ≤ n → Narrowed 0 n
  Narrowed-whole n h = record { front = λ k d a b. absurd (omega arith); back = λ k d a b. absurd (omega arith) }

  module _ (ascends : Ascends ord l) (low high m : ℕ) (k : K) (v : V) (e : slice_get l m ≡ Some (k, v)) (n : Narrowed low high) where
    read : (d : K × V) → ord (slice_index_or l m d).0 ≡ ord k
    read d = ap (λ p. ord p.0) (get_or_from_slice_get l m (k, v) d e)

    within : m < length l
    within = slice_get_within l m (k, v) e

    pub Narrowed-less : ord k ≡ Less → Narrowed (m + 1) high
    Narrowed-less is = record {
      front = λ i d a b. elim (cases_lt i m) as (λ _. ord (slice_index_or l i d).0 ≡ Less) [
        | inl h ↦ bottom _ (rw (read d ∙ is) at (ascends i m d h within))
        | inr h ↦ subst (λ (j : ℕ). ord (slice_index_or l j d).0 ≡ Less) {x = m} {y = i} (omega arith) (read d ∙ is)
      ];
      back = n.back;
    }

    pub Narrowed-greater : ord k ≡ Greater → Narrowed low m
    Narrowed-greater is = record {
      front = n.front;
      back = λ i d a b. elim (cases_lt m i) as (λ _. ord (slice_index_or l i d).0 ≡ Greater) [
        | inl h ↦ top _ (rw (read d ∙ is) at (ascends m i d h b))
        | inr h ↦ subst (λ (j : ℕ). ord (slice_index_or l j d).0 ≡ Greater) {x = m} {y = i} (omega arith) (read d ∙ is)
      ];
    }

  pub FindsEqual-here : (m : ℕ) (k : K) (v : V) → slice_get l m ≡ Some (k, v) → ord k ≡ Equal → FindsEqual ord l (Ok m)
  FindsEqual-here m k v e is = (slice_get_within l m (k, v) e, λ d. ap (λ p. ord p.0) (get_or_from_slice_get l m (k, v) d e) ∙ is)

  pub FindsEqual-nowhere : (low high : ℕ) → high ≤ low → low ≤ length l → Narrowed low high → FindsEqual ord l (Err low)
  FindsEqual-nowhere low high u h n = (
    λ k d b. elim (cases_lt k low) as (λ _. ord (slice_index_or l k d).0 ≢ Equal) [
      | inl a ↦ (λ e. let u : ord (slice_index_or l k d).0 ≡ Less = n.front k d (omega arith) a in cc)
      | inr a ↦ (λ e. let u : ord (slice_index_or l k d).0 ≡ Greater = n.back k d (omega arith) b in cc)
    ],
    counted (λ p. is_lt (ord p.0)) l low h (λ k d a. ap is_lt (n.front k d (omega arith) a)) (λ k d a b. ap is_lt (n.back k d (omega arith) b)),
  )

  -- less may be known than is
  Narrowed-wider : (low high a b : ℕ) → a ≤ low → high ≤ b → Narrowed low high → Narrowed a b
  Narrowed-wider low high a b h j n = record { front = λ k d c e. n.front k d c (omega arith); back = λ k d c e. n.back k d (omega arith) e }

  -- ord is Equal at the index before hit, or, if hit is 0, it is known of all but the indices from low on that are left
  pub record Seen (hit low left : ℕ) : Type 0 where
    pub open_ : hit ≡ 0 → Narrowed low (low + left)
    pub closed : 0 < hit → FindsEqual ord l (Ok (hit - 1))

  -- after a result at the middle
  pub Seen-next : Ascends ord l → (is_small : Bool) (hit low left : ℕ) (k : K) (v : V) (answer : Ordering) → 0 < left
      → slice_get l (low + (left - left / 2) - 1) ≡ Some (k, v) → Seen hit low left → ord k ≡ answer
      → Seen (cond (is_eq answer) (low + (left - left / 2)) hit) (cond (is_lt answer) (low + (left - left / 2)) low)
      (left_after is_small answer left)
  Seen-next ascends is_small hit low left k v Less h e seen is = record {
    open_ = λ u. Narrowed-wider (low + (left - left / 2) - 1 + 1) (low + left) _ _ (omega arith) (omega arith)
        (Narrowed-less ascends low (low + left) (low + (left - left / 2) - 1) k v e (seen.open_ u) is);
    closed = seen.closed;
  }
  Seen-next ascends is_small hit low left k v Equal h e seen is = record {
    open_ = λ u. absurd (omega arith);
    closed = λ u. FindsEqual-here (low + (left - left / 2) - 1) k v e is;
  }
  Seen-next ascends true hit low left k v Greater h e seen is = record {
    open_ = λ u. Narrowed-wider low (low + (left - left / 2) - 1) _ _ (omega arith) (omega arith)
        (Narrowed-greater ascends low (low + left) (low + (left - left / 2) - 1) k v e (seen.open_ u) is);
    closed = seen.closed;
  }
  Seen-next ascends false hit low left k v Greater h e seen is = record {
    open_ = λ u. Narrowed-wider low (low + (left - left / 2) - 1) _ _ (omega arith) (omega arith)
        (Narrowed-greater ascends low (low + left) (low + (left - left / 2) - 1) k v e (seen.open_ u) is);
    closed = seen.closed;
  }

-- what is left after a result is within the list, and has a digit less
pub left_next : (is_small : Bool) (answer : Ordering) (low left n : ℕ) → low + left ≤ n → 0 < left
    → (cond (is_lt answer) (low + (left - left / 2)) low + left_after is_small answer left ≤ n)
    × (digits (left_after is_small answer left) + 1 ≤ digits left)
left_next is_small Less low left n w p = (omega arith, digits-halved _ _ p (omega arith))
left_next true Equal low left n w p = (omega arith, digits-halved _ _ p (omega arith))
left_next false Equal low left n w p = (omega arith, digits-halved _ _ p (omega arith))
left_next true Greater low left n w p = (omega arith, digits-halved _ _ p (omega arith))
left_next false Greater low left n w p = (omega arith, digits-halved _ _ p (omega arith))

-- the index after a hit is within the list
pub hit_next : (answer : Ordering) (low left n hit : ℕ) → low + left ≤ n → 0 < left → hit ≤ n → cond (is_eq answer) (low + (left - left / 2)) hit ≤ n
hit_next Less low left n hit w p h = h
hit_next Equal low left n hit w p h = omega arith
hit_next Greater low left n hit w p h = h

known : {K V : Type 0} (l : List (K × V)) (m : ℕ) (k : K) (v : V) → slice_get l m ≡ Some (k, v) → Any (λ q. q.0 ≡ k) l
known l m k v e = (m, (k, v), slice_get_within l m (k, v) e, get_or_from_slice_get l m (k, v) (k, v) e, refl)

module _ {F K V : Type 0} (g : Mut F (Bor K × Unit {0}) Ordering) (l : List (K × V)) where
  pub takes : (n i : ℕ) (f : F) (k : K) (v : V) → 1 ≤ n → Callable g l n f → slice_get l i ≡ Some (k, v) → TakesAt g f k
  takes n i f k v h s there p e = s.at [] f p (omega arith) refl (subst (λ (x : K). Any (λ q. q.0 ≡ x) l) (sym e) (known l i k v there))

  -- after a call, one call less is left
  pub takes_next : (m n i : ℕ) (f : F) (k : K) (v : V) (r : Ordering) (f' : F) → m + 1 ≤ n → Callable g l n f → slice_get l i ≡ Some (k, v)
      → CalledAt g f k r f' → Callable g l m f'
  takes_next m n i f k v r f' h s there c =
      let b : Any (λ q. q.0 ≡ c.shown.now) l = subst (λ (x : K). Any (λ q. q.0 ≡ x) l) (sym c.shows) (known l i k v there) in
      record { at = λ asked f'' p few calls there. s.at (c.shown ∷ asked) f'' p (omega arith) (f', (b, (r, c.called)), calls) there }

module _ {F K V : Type 0} (g : Mut F (Bor K × Unit {0}) Ordering) (l : List (K × V)) (ord : K → Ordering) where
  -- after a call, one call less is left
  pub next : (m n i : ℕ) (f : F) (k : K) (v : V) (r : Ordering) (f' : F) → m + 1 ≤ n → Shape g l ord n f → slice_get l i ≡ Some (k, v) → CalledAt g f k r f'
      → (ord k ≡ r) × Shape g l ord m f'
  next m n i f k v r f' h s there c =
      let b : Any (λ q. q.0 ≡ c.shown.now) l = subst (λ (x : K). Any (λ q. q.0 ≡ x) l) (sym c.shows) (known l i k v there) in (
        sym (((s.answers.at (c.shown ∷ []) (omega arith) b).1 r f' c.called).0 ∙ ap ord c.shows),
        record { answers = record { at = λ ps few. ((s.answers.at (c.shown ∷ ps) (omega arith) b).1 r f' c.called).1 }; ascends = s.ascends },
      )
