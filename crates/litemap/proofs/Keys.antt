-- Keys of any type, looked up by keys: what lookups find after a change, at an index, and in maps that are made of the pairs of a
-- vector. Each lemma asks for the law of the order, which the search finds in the set (of numbers, strings and slices), in a
-- function's bound, or in what `keys_ascend` promises. A caller's function takes these by an attribute, as
-- `#[tactic(auto, using(litemap::proofs::Keys::number_keys))]`.
--     keys      for any key;  number_keys, signed_keys, string_keys      with the law of unsigned numbers and `char`, of signed numbers, of strings
--     key_lists      what is found in a map of a list, and after more pairs; that an ascending list is the map's
--     write_same, none_above      by any query: the value that is there, written again; nothing is found above an equal key
use Rattle.litemap.proofs.Common.{◌≡◌, ◌≢◌, ◌∙◌, ◌∷◌, ◌++◌, [], ℕ, ℤ, List, Option, Some, None, IsSome, IsTotalOrder, Ordering, Equal, Less}
use Rattle.litemap.proofs.Common.{BelowAll, Merge, Rising, above, ap, at, below, cond, cut, int_cmp, int_cmp_total, is_some}
use Rattle.litemap.proofs.Common.{key_alike, key_same, left, nat_cmp, nat_cmp_total, option_map, option_map_or, option_or, put, refl, reverse, sym}
use Rattle.litemap.proofs.Common.{slice_get, slice_set, value_at, value_at-cut, value_at-cut_other, value_at-left, value_at-merged}
use Rattle.litemap.proofs.Common.{value_at-put, value_at-put_other, value_at-set, value_at-write}
use Rattle.litemap.proofs.Common.{value_at-written_apart, value_in-set, write}
use Rattle.std.proofs.lemmas.Cmp.{tied_itself}
use Rattle.std.proofs.lemmas.Map.Lookups.{exact_signed, exact_unsigned}
use Rattle.std.specs.String.{string_cmp_total}
use Rattle.litemap_store.specs.Last.{Last}
use Rattle.litemap_store.proofs.Callers.LastLookups.{value_at-last, value_at-last_of_more, value_at-last_of_rising}
use Rattle.litemap_store.proofs.Last.Pairs.{Last-rising, Last-unique}
use Rattle.litemap_store.proofs.Names.{cons_option}
use Rattle.litemap_store.proofs.Search.Splitting.{not_is_eq, parted}
use Rattle.litemap_store.specs.Queries.{OneSide, key_one_side}
use Rattle.litemap.proofs.Ends.{at-index}
use Rattle.litemap.proofs.KeptKeys.{remove_key_number}

module _ {K Q V : Type 0} {cmp : K → K → Ordering} {order : K → Q → Ordering} where
  pub write_same : OneSide cmp order → (L : List (K × V)) (q : Q) → Rising cmp L → (v : V) → value_at order L q ≡ Some v → write order L q v ≡ L
  write_same one L q r v e = by (at order L q) refl
    where
      by : (a : Option (K × V)) → at order L q ≡ a → option_map_or (λ p. below order L q ++ (p.0, v) ∷ above order L q) (at order L q) L ≡ L
      by None f = rw f refl
      by (Some p) f =
          let g : Some p.1 ≡ Some v = sym (ap (option_map (λ x. x.1)) f) ∙ e in
          let h : p.1 ≡ v = cc in
          rw f (ap (λ w. below order L q ++ (p.0, w) ∷ above order L q) (sym h)
          ∙ ap (λ o. below order L q ++ cons_option o (above order L q)) (sym f) ∙ sym (parted one L q r))

pub none_above : {K Q V : Type 0} {cmp : K → K → Ordering} (order : K → Q → Ordering) (q : Q)
    → ((x y : K) → order x q ≡ Equal → order y q ≡ Equal → cmp x y ≡ Equal) → (k : K) (N : List (K × V)) → BelowAll cmp k N
    → order k q ≡ Equal → value_at order N q ≡ None
none_above order q same k [] b e = refl
none_above {cmp = cmp} order q same k (y ∷ N) b e =
    rw (not_is_eq (order y.0 q) (λ f. let s : cmp k y.0 ≡ Equal = same k y.0 e f in let l : cmp k y.0 ≡ Less = b.0 in absurd (cc)))
    (none_above order q same k N b.1 e)

module _ {K V : Type 0} {cmp : K → K → Ordering} where
  pub key_put_found : (L : List (K × V)) (k : K) (v : V) → IsTotalOrder cmp → value_at cmp (put cmp L k v) k ≡ Some v
  key_put_found L k v o = value_at-put o k L v

  pub key_put_others : (L : List (K × V)) (k q : K) (v : V) → IsTotalOrder cmp → cmp q k ≢ Equal → value_at cmp (put cmp L k v) q ≡ value_at cmp L q
  key_put_others L k q v o n = value_at-put_other o L k q n v

  pub key_write_found : (L : List (K × V)) (k : K) (v : V) → IsTotalOrder cmp → IsSome (at cmp L k) → value_at cmp (write cmp L k v) k ≡ Some v
  key_write_found L k v o there = value_at-write cmp k L v there

  pub key_write_same : (L : List (K × V)) (k : K) (v : V) → IsTotalOrder cmp → Rising cmp L → value_at cmp L k ≡ Some v → write cmp L k v ≡ L
  key_write_same L k v o r e = write_same (key_one_side o) L k r v e

  -- what a write leaves if it finds the key
  pub key_written_others : (L : List (K × V)) (k q : K) (p : K × V) (v : V) → IsTotalOrder cmp → at cmp L k ≡ Some p → cmp q k ≢ Equal
      → value_at cmp (below cmp L k ++ (p.0, v) ∷ above cmp L k) q ≡ value_at cmp L q
  key_written_others L k q p v o is n = value_at-written_apart cmp k cmp q (cmp q k) n (λ x e. o.congr x q k e) L p v is

  -- what a write at an index leaves if a pair is there
  pub key_set_others : (L : List (K × V)) (i : ℕ) (q : K) (p : K × V) (v : V) → IsTotalOrder cmp → slice_get L i ≡ Some p → cmp p.0 q ≢ Equal
      → value_at cmp (slice_set L i (p.0, v)) q ≡ value_at cmp L q
  key_set_others L i q p v o is n = value_at-set cmp q L i p v is n

  pub key_cut_gone : (L : List (K × V)) (k : K) → IsTotalOrder cmp → value_at cmp (cut cmp L k) k ≡ None
  key_cut_gone L k o = value_at-cut cmp k L

  pub key_cut_others : (L : List (K × V)) (k q : K) → IsTotalOrder cmp → cmp q k ≢ Equal → value_at cmp (cut cmp L k) q ≡ value_at cmp L q
  key_cut_others L k q o n = value_at-cut_other o L k q n

  pub key_merged : (A B M : List (K × V)) (k : K) → IsTotalOrder cmp → Merge cmp A B M → value_at cmp M k ≡ option_or (value_at cmp B k) (value_at cmp A k)
  key_merged A B M k o merge = value_at-merged cmp o cmp k (key_same o k) (key_alike o k) A B M merge

  pub key_left : (A B : List (K × V)) (k : K) → IsTotalOrder cmp → value_at cmp (left cmp A B) k ≡ cond (is_some (at cmp B k)) (value_at cmp A k) None
  key_left A B k o = value_at-left cmp o cmp k (key_same o k) (key_alike o k) A B

  pub key_index_found : (L : List (K × V)) (i : ℕ) (k : K) (v : V) → IsTotalOrder cmp → Rising cmp L → slice_get L i ≡ Some (k, v) → value_at cmp L k ≡ Some v
  key_index_found L i k v o r g = ap (option_map (λ p. p.1)) (at-index cmp o cmp k (key_same o k) (key_alike o k) L i (k, v) r g (tied_itself o k))

  -- the first key finds none of the pairs after it
  pub key_first_only : (L : List (K × V)) (k : K) → IsTotalOrder cmp → BelowAll cmp k L → value_at cmp L k ≡ None
  key_first_only L k o b = none_above cmp k (key_same o k) k L b (tied_itself o k)

  -- ---- maps of lists
  pub key_list_last : (J M : List (K × V)) (k : K) → IsTotalOrder cmp → Last cmp J M → value_at cmp M k ≡ value_at cmp (reverse J) k
  key_list_last J M k o last = value_at-last cmp o cmp k (key_same o k) (key_alike o k) J M last

  pub key_list_rising : (J M : List (K × V)) → IsTotalOrder cmp → Last cmp J M → Rising cmp J → M ≡ J
  key_list_rising J M o last r = Last-unique cmp o J M J last (Last-rising cmp J r)

  pub key_more_last : (L J M : List (K × V)) (k : K) → IsTotalOrder cmp → Last cmp (L ++ J) M → Rising cmp L
      → value_at cmp M k ≡ option_or (value_at cmp (reverse J) k) (value_at cmp L k)
  key_more_last L J M k o last r = value_at-last_of_more cmp o cmp k (key_same o k) (key_alike o k) L J M last r

  pub key_more_rising : (L J M : List (K × V)) (k : K) → IsTotalOrder cmp → Last cmp (L ++ J) M → Rising cmp L → Rising cmp J
      → value_at cmp M k ≡ option_or (value_at cmp J k) (value_at cmp L k)
  key_more_rising L J M k o last r s = value_at-last_of_rising cmp o cmp k (key_same o k) (key_alike o k) L J M last r s

-- numbers that differ aren't equal
pub unsigned_apart : (q k : ℕ) → q ≢ k → nat_cmp q k ≢ Equal
unsigned_apart q k n e = n (exact_unsigned q k e)

pub signed_apart : (q k : ℤ) → q ≢ k → int_cmp q k ≢ Equal
signed_apart q k n e = n (exact_signed q k e)

pub ruleset keys = (
  key_put_found,
  key_put_others,
  key_write_found,
  key_written_others,
  key_set_others,
  key_cut_gone,
  key_cut_others,
  key_merged,
  key_left,
  key_index_found,
  key_write_same,
  value_in-set,
)

pub ruleset number_keys = (keys, nat_cmp_total, unsigned_apart, remove_key_number)

pub ruleset signed_keys = (keys, int_cmp_total, signed_apart)

pub ruleset string_keys = (keys, string_cmp_total)

pub ruleset key_lists = (key_list_last, key_list_rising, key_more_last, key_more_rising)
