-- From the pairs of a map to the keys of a set.
--     length-keys, find-keys, contains-keys      how many keys there are, and what is found among them
--     contains-put, length-put, keys-put, keys_of-put      after a put
--     GivesSome-from_more      what an iterator yields;  on_err, on_ok_both      what calls return
--     has_last      the last pairs of a list;  union_of_merge      a merge
--     any-kept, none-kept, keys-cut, length-cut      after a cut, which is a filter of the keys
use Rattle.litemap_store.proofs.Names.{[], ℕ, ◌++◌, ◌+◌, ◌∙◌, ◌∷◌, ◌≡◌, ap, arith, Bool, cond, cons_option, Equal, false, filter, filter-append}
use Rattle.litemap_store.proofs.Names.{Greater, In, inl, inr, is_eq, is_gt, is_lt, is_some, IsTotalOrder, length, length-append, Less, List, None, not, Option}
use Rattle.litemap_store.proofs.Names.{option_map, Ordering, refl, reverse, reverse-append, Some, suc, sym, tied_back, true}
use Rattle.std.specs.Prelude.{◌||◌, ◌≤◌, Err, Ok, OnErr, OnOk, Result, find}
use Rattle.std.specs.BTreeMap.{insert_entry}
use Rattle.std.specs.BTreeSet.{insert_key}
use Rattle.std.specs.List.{list_any}
use Rattle.std.specs.Ordering.{match_ordering}
use Rattle.std.specs.Map.{keys_of}
use Rattle.std.proofs.lemmas.List.{map-append}
use Rattle.std.proofs.lemmas.List.Folds.{list_any-append}
use Rattle.litemap_store.specs.Pairs.{Rising, above, at, below, cut, key_or, put, value_at}
use Rattle.litemap_store.specs.Queries.{OneSide, key_one_side}
use Rattle.litemap_store.specs.Bulk.{Gives, GivesSome}
use Rattle.litemap_store.specs.Last.{Last, Rises}
use Rattle.litemap_store.proofs.Callers.LastLookups.{at-Last}
use Rattle.litemap_store.proofs.Callers.Lookups.{value_at-put, value_at-put_other}
use Rattle.litemap_store.proofs.Callers.Tallies.{value_at_equal}
use Rattle.litemap_store.proofs.Lists.Membership.{In-from_filter}
use Rattle.litemap_store.proofs.Merging.Merges.{at_none, keys_of_merge}
use Rattle.litemap_store.specs.Merge.{Merge}
use Rattle.std.specs.Option.{option_or}
use Rattle.litemap_store.proofs.Last.FirstGiven.{GivesSome-from_some, Rises-none}
use Rattle.litemap_store.proofs.Last.KeepLast.{filter_all}
use Rattle.litemap_store.proofs.Search.Splitting.{at_in, parted}
use Rattle.litemap.proofs.StdMaps.{put-insert_entry, sorted_from_Rising}
use Rattle.litemap_set.specs.Sets.{HasLast, IsUnion, contains, key_at}

pub length-keys : {K V : Type 0} (L : List (K × V)) → length (keys_of L) ≡ length L
length-keys [] = refl
length-keys (p ∷ L) = ap suc (length-keys L)

module _ {K Q V : Type 0} (order : K → Q → Ordering) (q : Q) where
  pub find-keys : (L : List (K × V)) → option_map (λ p. p.0) (at order L q) ≡ find (λ k. is_eq (order k q)) (keys_of L)
  find-keys [] = refl
  find-keys (p ∷ L) =
      elim (is_eq (order p.0 q)) as
      (λ b. option_map (λ x. x.0) (cond b (Some p) (at order L q)) ≡ cond b (Some p.0) (find (λ k. is_eq (order k q)) (keys_of L))) [
        | true ↦ refl
        | false ↦ find-keys L
      ]

  pub contains-keys : (L : List (K × V)) → is_some (at order L q) ≡ contains order (keys_of L) q
  contains-keys [] = refl
  contains-keys (p ∷ L) =
      elim (is_eq (order p.0 q)) as (λ b. is_some (cond b (Some p) (at order L q)) ≡ (b || contains order (keys_of L) q)) [
        | true ↦ refl
        | false ↦ contains-keys L
      ]

  is_some-value : (a : Option (K × V)) → is_some (option_map (λ p. p.1) a) ≡ is_some a
  is_some-value None = refl
  is_some-value (Some p) = refl

  -- the value of the pair that is found tells whether there is one
  pub contains-value : (L : List (K × V)) → is_some (value_at order L q) ≡ contains order (keys_of L) q
  contains-value L = is_some-value (at order L q) ∙ contains-keys L

  -- a key is new exactly if there was no old value
  pub new_if_absent : (L : List (K × V)) (old : Option V) (is_new : Bool) → is_some old ≡ not is_new → old ≡ value_at order L q
      → is_new ≡ not (contains order (keys_of L) q)
  new_if_absent L old is_new e f = by is_new (is_some old) e ∙ ap not (ap is_some f ∙ contains-value L)
    where
      by : (a b : Bool) → b ≡ not a → a ≡ not b
      by true b h = ap not (sym h)
      by false b h = ap not (sym h)

-- ---- a put
module _ {K V : Type 0} {cmp : K → K → Ordering} (o : IsTotalOrder cmp) (L : List (K × V)) (k : K) (v : V) where
  pub contains-put : (q : K) → contains cmp (keys_of (put cmp L k v)) q ≡ (is_eq (cmp k q) || contains cmp (keys_of L) q)
  contains-put q = sym (contains-value cmp q (put cmp L k v)) ∙ by (cmp k q) refl ∙ ap (λ b. is_eq (cmp k q) || b) (contains-value cmp q L)
    where
      by : (r : Ordering) → cmp k q ≡ r → is_some (value_at cmp (put cmp L k v) q) ≡ (is_eq r || is_some (value_at cmp L q))
      by Equal e = ap is_some (value_at_equal o (put cmp L k v) k q e ∙ value_at-put o k L v)
      by Less e = ap is_some (value_at-put_other o L k q (λ h. let d : Less ≡ Equal = sym e ∙ tied_back o q k h in cc) v)
      by Greater e = ap is_some (value_at-put_other o L k q (λ h. let d : Greater ≡ Equal = sym e ∙ tied_back o q k h in cc) v)

  module _ (r : Rising cmp L) where
    keys_parted : keys_of L ≡ keys_of (below cmp L k) ++ keys_of (cons_option (at cmp L k) (above cmp L k))
    keys_parted = ap keys_of (parted (key_one_side o) L k r) ∙ map-append (λ p. p.0) (below cmp L k) (cons_option (at cmp L k) (above cmp L k))

    -- a present key stays, and so do all others; an absent one is one more
    pub keys-put : is_some (at cmp L k) ≡ true → keys_of (put cmp L k v) ≡ keys_of L
    keys-put there =
        map-append (λ p. p.0) (below cmp L k) ((key_or (at cmp L k) k, v) ∷ above cmp L k)
        ∙ elim (at cmp L k) as
        (λ a. is_some a ≡ true → keys_of (below cmp L k) ++ key_or a k ∷ keys_of (above cmp L k) ≡ keys_of (below cmp L k)
        ++ keys_of (cons_option a (above cmp L k))) [
          | None ↦ λ h. absurd (cc)
          | Some p ↦ λ h. refl
        ] there
        ∙ sym keys_parted

    pub length-put : length (keys_of (put cmp L k v)) ≡ length (keys_of L) + cond (not (is_some (at cmp L k))) 1 0
    length-put =
        ap length (map-append (λ p. p.0) (below cmp L k) ((key_or (at cmp L k) k, v) ∷ above cmp L k))
        ∙ length-append (keys_of (below cmp L k)) (key_or (at cmp L k) k ∷ keys_of (above cmp L k))
        ∙ elim (at cmp L k) as (λ a. length (keys_of (below cmp L k)) + suc (length (keys_of (above cmp L k)))
        ≡ (length (keys_of (below cmp L k)) + length (keys_of (cons_option a (above cmp L k)))) + cond (not (is_some a)) 1 0) [
          | None ↦ omega arith
          | Some p ↦ omega arith
        ]
        ∙ ap (λ n. n + cond (not (is_some (at cmp L k))) 1 0)
        (sym (length-append (keys_of (below cmp L k)) (keys_of (cons_option (at cmp L k) (above cmp L k)))) ∙ ap length (sym keys_parted))

    -- as std's `BTreeSet` has it
    pub keys_of-put : keys_of (put cmp L k v) ≡ insert_key cmp (keys_of L) k
    keys_of-put = ap keys_of (put-insert_entry o L k v r) ∙ by L
      where
        by : (M : List (K × V)) → keys_of (insert_entry cmp M k v) ≡ insert_key cmp (keys_of M) k
        by [] = refl
        by (p ∷ M) = elim (cmp k p.0) as
            (λ c. keys_of (match_ordering c ((k, v) ∷ p ∷ M) ((p.0, v) ∷ M) (p ∷ insert_entry cmp M k v))
            ≡ match_ordering c (k ∷ p.0 ∷ keys_of M) (p.0 ∷ keys_of M) (p.0 ∷ insert_key cmp (keys_of M) k)) [
              | Less ↦ refl
              | Equal ↦ refl
              | Greater ↦ ap (λ ks. p.0 ∷ ks) (by M)
            ]

-- ---- the last pairs of a list
any-reverse : {X : Type 0} (test : X → Bool) (L : List X) → list_any test (reverse L) ≡ list_any test L
any-reverse test [] = refl
any-reverse test (x ∷ L) =
    ap (list_any test) (reverse-append (x ∷ []) L) ∙ list_any-append test (reverse L) (x ∷ []) ∙ ap (λ b. b || (test x || false)) (any-reverse test L)
    ∙ turned (list_any test L) (test x)
  where
    turned : (a b : Bool) → (a || (b || false)) ≡ (b || a)
    turned true true = refl
    turned true false = refl
    turned false true = refl
    turned false false = refl

-- an iterator yields something if no call fails for nothing
pub GivesSome-from_more : {U T K V : Type 0} (becomes : U → T → Type 0) (steps : T → Option K → T → Type 0) (iter : U)
    (cmp : K → K → Ordering) (room : ℕ) (old L : List (K × V)) → Gives becomes steps iter (keys_of L)
    → (Rises cmp old L → length L ≤ room → ⊥) → GivesSome becomes steps iter
GivesSome-from_more becomes steps iter cmp room old [] g some = absurd (some (Rises-none cmp old) (omega arith))
GivesSome-from_more becomes steps iter cmp room old (p ∷ L) g some = GivesSome-from_some becomes steps iter (p.0 ∷ keys_of L) g (omega arith)

-- what follows from two things that hold if a call succeeds
pub on_ok_both : {X E P Q R : Type 0} (r : Result X E) → (P → Q → R) → OnOk r P → OnOk r Q → OnOk r R
on_ok_both (Ok x) f p q = f p q
on_ok_both (Err e) f p q = tt

-- what holds if a call fails
pub on_err : {X E P : Type 0} (r : Result X E) → P → OnErr r P
on_err (Ok x) p = tt
on_err (Err e) p = p

module _ {K V : Type 0} {cmp : K → K → Ordering} (o : IsTotalOrder cmp) (q : K) where
  any-keys : (L : List (K × V)) → list_any (λ p. is_eq (cmp p.0 q)) L ≡ contains cmp (keys_of L) q
  any-keys [] = refl
  any-keys (p ∷ L) = ap (λ b. is_eq (cmp p.0 q) || b) (any-keys L)

  contains-last : (J M : List (K × V)) → Last cmp J M → contains cmp (keys_of M) q ≡ contains cmp (keys_of J) q
  contains-last J M last =
      sym (contains-keys cmp q M) ∙ ap is_some (at-Last o J M last q) ∙ contains-keys cmp q (reverse J)
      ∙ sym (any-keys (reverse J)) ∙ any-reverse (λ p. is_eq (cmp p.0 q)) J ∙ any-keys J

  contains-last_of_more : (L J M : List (K × V)) → Last cmp (L ++ J) M
      → contains cmp (keys_of M) q ≡ (contains cmp (keys_of L) q || contains cmp (keys_of J) q)
  contains-last_of_more L J M last =
      contains-last (L ++ J) M last ∙ ap (λ ks. contains cmp ks q) (map-append (λ p. p.0) L J) ∙ list_any-append (λ k. is_eq (cmp k q)) (keys_of L) (keys_of J)

keys_of-reverse : {K V : Type 0} (L : List (K × V)) → keys_of (reverse L) ≡ reverse (keys_of L)
keys_of-reverse [] = refl
keys_of-reverse (p ∷ L) =
    ap keys_of (reverse-append (p ∷ []) L) ∙ map-append (λ x. x.0) (reverse L) (p ∷ []) ∙ ap (λ M. M ++ p.0 ∷ []) (keys_of-reverse L)
    ∙ sym (reverse-append (p.0 ∷ []) (keys_of L))

pub has_last : {K V : Type 0} {cmp : K → K → Ordering} (o : IsTotalOrder cmp) (L J M : List (K × V)) → Last cmp (L ++ J) M
    → HasLast cmp (keys_of L) (keys_of J) (keys_of M)
has_last {cmp = cmp} o L J M last = record {
  members = λ q. contains-last_of_more o q L J M last;
  last = λ q.
      sym (find-keys cmp q M) ∙ ap (option_map (λ p. p.0)) (at-Last o (L ++ J) M last q) ∙ find-keys cmp q (reverse (L ++ J))
      ∙ ap (λ ks. key_at cmp ks q) (keys_of-reverse (L ++ J) ∙ ap reverse (map-append (λ p. p.0) L J));
}

-- ---- a merge
module _ {K V : Type 0} {cmp : K → K → Ordering} (o : IsTotalOrder cmp) where
  in_pairs : (k : K) (L : List (K × V)) → In k (keys_of L) → (v : V) × In (k, v) L
  in_pairs k [] i = absurd i
  in_pairs k (p ∷ L) (inl e) = (p.1, inl (λ j. (e j, p.1)))
  in_pairs k (p ∷ L) (inr i) = let h = in_pairs k L i in (h.0, inr h.1)

  in_keys : (k : K) (L : List (K × V)) (v : V) → In (k, v) L → In k (keys_of L)
  in_keys k [] v i = absurd i
  in_keys k (p ∷ L) v (inl e) = inl (ap (λ x. x.0) e)
  in_keys k (p ∷ L) v (inr i) = inr (in_keys k L v i)

  pub union_of_merge : (A B M : List (K × V)) → Merge cmp A B M
      → ((q : K) → value_at cmp M q ≡ option_or (value_at cmp B q) (value_at cmp A q)) → IsUnion cmp (keys_of A) (keys_of B) (keys_of M)
  union_of_merge A B M merge found = record {
    members = λ q. sym (contains-value cmp q M) ∙ ap is_some (found q) ∙ either (value_at cmp B q) (value_at cmp A q)
        ∙ (λ j. contains-value cmp q A j || contains-value cmp q B j);
    own = λ k i. elim ((keys_of_merge cmp o A B M merge k).0 (in_pairs k M i)) [
      | inl h ↦ inl (in_keys k A h.0 h.1)
      | inr h ↦ inr (in_keys k B h.0.0 h.0.1, sym (contains-keys cmp k A) ∙ ap is_some (at_none cmp o A k h.1))
    ];
    ascending = sorted_from_Rising cmp M merge.rising;
  }
    where
      either : (b a : Option V) → is_some (option_or b a) ≡ (is_some a || is_some b)
      either None None = refl
      either None (Some y) = refl
      either (Some x) None = refl
      either (Some x) (Some y) = refl

-- ---- a cut
module _ {K Q : Type 0} (order : K → Q → Ordering) (q : Q) where
  abbrev other : K → Bool
  other k = not (is_eq (order k q))

  -- a test that no equal key passes finds the same among the others
  pub any-kept : (test : K → Bool) → ((k : K) → order k q ≡ Equal → test k ≡ false) → (ks : List K) → list_any test (filter other ks) ≡ list_any test ks
  any-kept test apart [] = refl
  any-kept test apart (k ∷ ks) =
      (elim (order k q) as (λ r. order k q ≡ r → list_any test (cond (not (is_eq r)) (k ∷ filter other ks) (filter other ks)) ≡ (test k || list_any test ks)) [
        | Less ↦ λ e. ap (λ b. test k || b) (any-kept test apart ks)
        | Equal ↦ λ e. any-kept test apart ks ∙ ap (λ b. b || list_any test ks) (sym (apart k e))
        | Greater ↦ λ e. ap (λ b. test k || b) (any-kept test apart ks)
      ]) refl

  pub none-kept : (ks : List K) → contains order (filter other ks) q ≡ false
  none-kept [] = refl
  none-kept (k ∷ ks) =
      (elim (is_eq (order k q)) as (λ r. is_eq (order k q) ≡ r → contains order (cond (not r) (k ∷ filter other ks) (filter other ks)) q ≡ false) [
        | true ↦ λ e. none-kept ks
        | false ↦ λ e. ap (λ b. b || contains order (filter other ks) q) e ∙ none-kept ks
      ]) refl

pub keys-filter : {K V : Type 0} (keep : K → Bool) (L : List (K × V)) → keys_of (filter (λ p. keep p.0) L) ≡ filter keep (keys_of L)
keys-filter keep [] = refl
keys-filter keep (p ∷ L) =
    elim (keep p.0) as (λ b. keys_of (cond b (p ∷ filter (λ x. keep x.0) L) (filter (λ x. keep x.0) L)) ≡ cond b (p.0 ∷ filter keep (keys_of L))
    (filter keep (keys_of L))) [
      | true ↦ ap (λ M. p.0 ∷ M) (keys-filter keep L)
      | false ↦ keys-filter keep L
    ]

module _ {K Q V : Type 0} {cmp : K → K → Ordering} (order : K → Q → Ordering) (side : OneSide cmp order) (q : Q) (L : List (K × V)) (r : Rising cmp L) where
  low : filter (λ p. other order q p.0) (below order L q) ≡ below order L q
  low = filter_all (λ p. other order q p.0) (below order L q)
      (λ x i. elim (order x.0 q) as (λ c. is_lt c ≡ true → not (is_eq c) ≡ true) [ Less ↦ λ h. refl | Equal ↦ λ h. absurd cc | Greater ↦ λ h. refl ]
      (In-from_filter (λ (p : K × V). is_lt (order p.0 q)) L x i).1)

  up : filter (λ p. other order q p.0) (above order L q) ≡ above order L q
  up = filter_all (λ p. other order q p.0) (above order L q)
      (λ x i. elim (order x.0 q) as (λ c. is_gt c ≡ true → not (is_eq c) ≡ true) [ Less ↦ λ h. refl | Equal ↦ λ h. absurd cc | Greater ↦ λ h. refl ]
      (In-from_filter (λ (p : K × V). is_gt (order p.0 q)) L x i).1)

  high : filter (λ p. other order q p.0) (cons_option (at order L q) (above order L q)) ≡ above order L q
  high = (elim (at order L q) as (λ a. at order L q ≡ a → filter (λ p. other order q p.0) (cons_option a (above order L q)) ≡ above order L q) [
    | None ↦ λ e. up
    | Some p ↦ λ e. rw ((at_in order L q p e).1) up
  ]) refl

  cut-filter : cut order L q ≡ filter (λ p. other order q p.0) L
  cut-filter =
      sym (ap (λ M. M ++ filter (λ p. other order q p.0) (cons_option (at order L q) (above order L q))) low ∙ ap (λ M. below order L q ++ M) high)
      ∙ sym (filter-append (λ p. other order q p.0) (below order L q) (cons_option (at order L q) (above order L q)))
      ∙ ap (filter (λ p. other order q p.0)) (sym (parted side L q r))

  pub keys-cut : keys_of (cut order L q) ≡ filter (λ k. not (is_eq (order k q))) (keys_of L)
  keys-cut = ap keys_of cut-filter ∙ keys-filter (other order q) L

  -- one key fewer, if one is equal
  pub length-cut : length (keys_of (cut order L q)) + cond (contains order (keys_of L) q) 1 0 ≡ length (keys_of L)
  length-cut =
      ap (λ b. length (keys_of (cut order L q)) + cond b 1 0) (sym (contains-keys order q L))
      ∙ ap (λ n. n + cond (is_some (at order L q)) 1 0) (length-keys (cut order L q) ∙ length-append (below order L q) (above order L q))
      ∙ elim (at order L q) as
      (λ a. (length (below order L q) + length (above order L q)) + cond (is_some a) 1 0
      ≡ length (below order L q) + length (cons_option a (above order L q))) [
        | None ↦ omega arith
        | Some p ↦ omega arith
      ]
      ∙ sym (length-append (below order L q) (cons_option (at order L q) (above order L q)))
      ∙ ap length (sym (parted side L q r))
      ∙ sym (length-keys L)
