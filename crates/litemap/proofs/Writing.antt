-- What a closure writes into a list of pairs.
--     written_on, written_all      from one pair to the next, and after the last
--     CallableOnValues-here, -after      what may be called at an index, and after it
--     keys-written, Rising-keys, map-written      what is left has the same keys, ascends, and is mapped
--     keys_of-write, length-write      once a value is written at a query
use Rattle.litemap.proofs.Common.{◌≡◌, ℕ, ◌+◌, List, [], ◌∷◌, ◌++◌, map, take, drop, drop-set-lt, slice_get, slice_set, Some}
use Rattle.litemap.proofs.Common.{None, refl, ap, ◌∙◌, subst, arith, Ordering, Less, Bor, MutBor, ◌≤◌, length, sym, append_assoc}
use Rattle.litemap.proofs.Common.{append-nil, drop_all, take_all, take_more_set, slice_get_within, keys_of, option_map_or}
use Rattle.litemap.proofs.Common.{BelowAll, Rising, set_value, drop_at, Mut, Result, Ok, Err, above, below, write}
use Rattle.std.proofs.lemmas.Map.Entries.{length-keys_of}
use Rattle.litemap_store.specs.Splits.{Splits}
use Rattle.std.specs.Fn.{Takes}
use Rattle.litemap.specs.KeptWritten.{CallableOnValues, LeavesPair}
use Rattle.litemap.specs.Written.{Writes, Written}

module _ {K V : Type 0} where
  -- with another value at index i: the pairs after it, and those up to it
  pub drop-written : (L : List (K × V)) (i : ℕ) (v : V) → drop (i + 1) (set_value L i v) ≡ drop (i + 1) L
  drop-written L i v =
      elim (slice_get L i) as (λ o. drop (i + 1) (option_map_or (λ p. slice_set L i (p.0, v)) o L) ≡ drop (i + 1) L)
      [ None ↦ refl | Some p ↦ drop-set-lt (i + 1) L i (p.0, v) (omega arith) ]

  pub take-written : (L : List (K × V)) (i : ℕ) (p : K × V) (v : V) → slice_get L i ≡ Some p → take (i + 1) (set_value L i v) ≡ take i L ++ (p.0, v) ∷ []
  take-written L i p v e = rw e (take_more_set L i (p.0, v) (slice_get_within L i p e))

  -- what is written so far of a list, with one more pair, and with all of them
  module _ (Done : List (K × V) → Type 0) (L : List (K × V)) (i : ℕ) where
    pub written_on : (Rest Later : List (K × V) → List (K × V) → Type 0) (p : K × V) (w : V) → slice_get L i ≡ Some p
        → ((M : List (K × V)) → Later (drop (i + 1) L) M → Rest (p ∷ drop (i + 1) L) ((p.0, w) ∷ M))
        → ((M : List (K × V)) → Rest (drop i L) M → Done (take i L ++ M))
        → (M : List (K × V)) → Later (drop (i + 1) (set_value L i w)) M → Done (take (i + 1) (set_value L i w) ++ M)
    written_on Rest Later p w there more so_far M later =
        subst Done (sym (append_assoc (take i L) ((p.0, w) ∷ []) M) ∙ ap (λ N. N ++ M) (sym (take-written L i p w there)))
        (so_far ((p.0, w) ∷ M) (subst (λ N. Rest N ((p.0, w) ∷ M)) (sym (drop_at L i p there)) (more M (subst (λ N. Later N M) (drop-written L i w) later))))

    pub written_all : (Rest : List (K × V) → List (K × V) → Type 0) → length L ≤ i → Rest [] []
        → ((M : List (K × V)) → Rest (drop i L) M → Done (take i L ++ M)) → Done L
    written_all Rest h none so_far = subst Done (append-nil (take i L) ∙ take_all i L h) (so_far [] (subst (λ N. Rest N []) (sym (drop_all i L h)) none))

-- f may be called on the pair p at index i, and then on those after it
module _ {F K V R : Type 0} (g : Mut F (Bor K × (MutBor V × Unit {0})) (R × (MutBor V × Unit {0}))) (f : F) (L : List (K × V)) (i : ℕ) (p : K × V)
    (there : slice_get L i ≡ Some p) (c : CallableOnValues g f (drop i L)) where
  from_here : CallableOnValues g f (p ∷ drop (i + 1) L)
  from_here = subst (CallableOnValues g f) (drop_at L i p there) c

  pub CallableOnValues-here : (k : Bor K) (v : MutBor V) → k.now ≡ p.0 → v.now ≡ p.1 → Takes g f (k, (v, tt))
  CallableOnValues-here = from_here.at [] (drop (i + 1) L) f p refl refl

  pub CallableOnValues-after : (r : R) (f' : F) (q : K × V) → LeavesPair g f p r f' q → CallableOnValues g f' (drop (i + 1) L)
  CallableOnValues-after r f' q w = record { at = λ before after s x is folds. from_here.at (p ∷ before) after s x (ap (λ N. p ∷ N) is) (f', (r, q, w), folds) }

module _ {F K V : Type 0} (g : Mut F (Bor K × (MutBor V × Unit {0})) (Unit {0} × (MutBor V × Unit {0}))) where
  pub keys-written : (f : F) (L M : List (K × V)) → Written g f L M → keys_of M ≡ keys_of L
  keys-written f [] M h = ap keys_of h
  keys-written f (p ∷ L) M (q, f', N, w, h, is) = ap keys_of is ∙ ap (λ k. k ∷ keys_of N) (ap (λ x. x.0) w.leaves) ∙ ap (λ ks. p.0 ∷ ks) (keys-written f' L N h)

  pub map-written : (f : F) (write : K → V → V) → Writes g f write → (L M : List (K × V)) → Written g f L M → M ≡ map (λ p. (p.0, write p.0 p.1)) L
  map-written f write s [] M h = h
  map-written f write s (p ∷ L) M (q, f', N, w, h, is) =
      let same : f' ≡ f = (s p q f' w).1 in
      is ∙ ap (λ x. x ∷ N) (s p q f' w).0 ∙ ap (λ ps. (p.0, write p.0 p.1) ∷ ps) (map-written f write s L N (subst (λ x. Written g x L N) same h))

module _ {K V : Type 0} (cmp : K → K → Ordering) where
  BelowAll-keys : (k : K) (L M : List (K × V)) → keys_of M ≡ keys_of L → BelowAll cmp k L → BelowAll cmp k M
  BelowAll-keys k [] [] e h = tt
  BelowAll-keys k [] (q ∷ M) e h = absurd (cc)
  BelowAll-keys k (p ∷ L) [] e h = absurd (cc)
  BelowAll-keys k (p ∷ L) (q ∷ M) e h = let s : p.0 ≡ q.0 = cc in let t : keys_of M ≡ keys_of L =
      cc in (subst (λ x. cmp k x ≡ Less) s h.0, BelowAll-keys k L M t h.1)

  -- a list with the keys of an ascending one ascends
  pub Rising-keys : (L M : List (K × V)) → keys_of M ≡ keys_of L → Rising cmp L → Rising cmp M
  Rising-keys [] [] e h = tt
  Rising-keys [] (q ∷ M) e h = absurd (cc)
  Rising-keys (p ∷ L) [] e h = absurd (cc)
  Rising-keys (p ∷ L) (q ∷ M) e h = let s : p.0 ≡ q.0 = cc in let t : keys_of M ≡ keys_of L =
      cc in (subst (λ x. BelowAll cmp x M) s (BelowAll-keys p.0 L M t h.0), Rising-keys L M t h.1)

-- ---- the keys once a value is written at a query, which are as they were
module _ {K Q V : Type 0} (order : K → Q → Ordering) (q : Q) where
  keys-between : (A : List (K × V)) (p : K × V) (v : V) (B : List (K × V)) → keys_of (A ++ (p.0, v) ∷ B) ≡ keys_of (A ++ p ∷ B)
  keys-between [] p v B = refl
  keys-between (a ∷ A) p v B = ap (λ M. a.0 ∷ M) (keys-between A p v B)

  pub keys_of-write : (L : List (K × V)) (r : Result ℕ ℕ) → Splits order L q r → (v : V) → keys_of (write order L q v) ≡ keys_of L
  keys_of-write L (Ok i) s v =
      ap (λ o. keys_of (option_map_or (λ p. below order L q ++ (p.0, v) ∷ above order L q) o L)) s.found
      ∙ keys-between (below order L q) s.pair v (above order L q)
      ∙ sym (ap keys_of s.is)
  keys_of-write L (Err i) s v = ap (λ o. keys_of (option_map_or (λ p. below order L q ++ (p.0, v) ∷ above order L q) o L)) s.missing

  pub length-write : (L : List (K × V)) (r : Result ℕ ℕ) → Splits order L q r → (v : V) → length (write order L q v) ≡ length L
  length-write L r s v = sym (length-keys_of (write order L q v)) ∙ ap length (keys_of-write L r s v) ∙ length-keys_of L
