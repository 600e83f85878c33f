-- The maps that one tree is read as have the same trees of keys and items.
use Rattle.std.proofs.Common.{◌≡◌, ℕ, List, [], ◌∷◌, ◌++◌, Bool, true, false, cond, filter, Option, Result, Ok, Ordering, Equal, refl, sym, ap, ap₂, ◌∙◌}
use Rattle.std.proofs.Common.{append-nil, append_assoc}
use Rattle.std.proofs.lemmas.List.{map-append}
use Rattle.std.specs.Cmp.{IsTotalOrder}
use Rattle.std.specs.Ordering.{is_gt, is_lt, ordering_reverse}
use Rattle.serde_json.specs.Data.{Data}
use Rattle.litemap_store.specs.Last.{Last}
use Rattle.litemap_store.specs.Pairs.{above, below}
use Rattle.litemap_store.proofs.Last.Pairs.{Last-put, Last-rising, Last-unique}
use Rattle.litemap_json.specs.declared.item.ItemFault.{ItemFault}
use Rattle.litemap_json.specs.Reading.{ReadsAs, pair_seen, seen}
use Rattle.litemap_json.specs.declared.fault.JsonFault.{JsonFault}

module _ {K V : Type 0} (cmp : K → K → Ordering) (total : IsTotalOrder cmp) (key_json : K → Data) (json : V → Data)
    (told : (x y : K) → key_json x ≡ key_json y → cmp x y ≡ Equal) where
  abbrev the_ok : List (Data × Data) → Result (List (Data × Data)) JsonFault
  the_ok x = Ok x

  abbrev Sees : List (K × V) → List (Data × Data)
  Sees ps = seen key_json json ps

  cmp_alike : (x y a b : K) → key_json x ≡ key_json a → key_json y ≡ key_json b → cmp x y ≡ cmp a b
  cmp_alike x y a b e f =
      total.congr x a y (told x a e) ∙ total.antisymm a y ∙ ap ordering_reverse (total.congr y b a (told y b f)) ∙ sym (total.antisymm a b)

  -- the pairs that are kept by how their keys compare with a key
  kept_alike : (t : Ordering → Bool) (k l : K) → key_json k ≡ key_json l → (L M : List (K × V)) → Sees L ≡ Sees M
      → Sees (filter (λ p. t (cmp p.0 k)) L) ≡ Sees (filter (λ p. t (cmp p.0 l)) M)
  kept_alike t k l e [] [] s = refl
  kept_alike t k l e (p ∷ L) (q ∷ M) s =
      let here : pair_seen key_json json p ≡ pair_seen key_json json q = cc in
      let rest : Sees L ≡ Sees M = cc in
      let others = kept_alike t k l e L M rest in
      let same = cmp_alike p.0 k q.0 l (ap (λ (d : Data × Data). d.0) here) e in
      let L' = filter (λ (x : K × V). t (cmp x.0 k)) L in
      let M' = filter (λ (x : K × V). t (cmp x.0 l)) M in
      rw same (elim (t (cmp q.0 l)) as
      (λ b. Sees (cond b (p ∷ L') L') ≡ Sees (cond b (q ∷ M') M')) [ true ↦ ap₂ (λ d ds. d ∷ ds) here others | false ↦ others ])
  kept_alike t k l e _ _ s = absurd cc

  put_alike : (p q : K × V) → pair_seen key_json json p ≡ pair_seen key_json json q → (L M : List (K × V)) → Sees L ≡ Sees M
      → Sees (below cmp L p.0 ++ p ∷ above cmp L p.0) ≡ Sees (below cmp M q.0 ++ q ∷ above cmp M q.0)
  put_alike p q e L M s =
      let keys = ap (λ (d : Data × Data). d.0) e in
      map-append (pair_seen key_json json) (below cmp L p.0) (p ∷ above cmp L p.0)
      ∙ ap₂ (λ ds es. ds ++ es) (kept_alike is_lt p.0 q.0 keys L M s) (ap₂ (λ d ds. d ∷ ds) e (kept_alike is_gt p.0 q.0 keys L M s))
      ∙ sym (map-append (pair_seen key_json json) (below cmp M q.0) (q ∷ above cmp M q.0))

  -- L and M are the last pairs of the lists so far, N and O of all
  last_alike : (D E J I L M N O : List (K × V)) → Sees J ≡ Sees I → Sees L ≡ Sees M → Last cmp D L → Last cmp E M → Last cmp (D ++ J) N → Last cmp (E ++ I) O
      → Sees N ≡ Sees O
  last_alike D E [] [] L M N O e s a b c d =
      let first = Last-unique cmp total D L N a (rw append-nil at c) in
      let second = Last-unique cmp total E M O b (rw append-nil at d) in
      sym (ap Sees first) ∙ s ∙ ap Sees second
  last_alike D E (p ∷ J) (q ∷ I) L M N O e s a b c d =
      let here : pair_seen key_json json p ≡ pair_seen key_json json q = cc in
      let rest : Sees J ≡ Sees I = cc in
      last_alike (D ++ p ∷ []) (E ++ q ∷ []) J I _ _ N O rest (put_alike p q here L M s) (Last-put cmp total D L a p) (Last-put cmp total E M b q)
      (rw (append_assoc D (p ∷ []) J) c) (rw (append_assoc E (q ∷ []) I) d)
  last_alike D E _ _ L M N O e s a b c d = absurd cc

  pub one_reading : (key : List ℕ → Option Data) (key_item json_item : Data → Result Data ItemFault) (d : Data) (L M : List (K × V))
      → ReadsAs cmp key key_item json_item key_json json d L → ReadsAs cmp key key_item json_item key_json json d M → Sees L ≡ Sees M
  one_reading key key_item json_item d L M a b =
      let both : the_ok (Sees a.given) ≡ the_ok (Sees b.given) = sym a.gives ∙ b.gives in
      let same : Sees a.given ≡ Sees b.given = cc in
      let none = Last-rising cmp [] tt in
      last_alike [] [] a.given b.given [] [] L M same refl none none a.last b.last

-- if a tree tells its key, and another its item, the trees of a list tell the list
module _ {K V : Type 0} (key_json : K → Data) (json : V → Data) (keys : (x y : K) → key_json x ≡ key_json y → x ≡ y)
    (items : (v w : V) → json v ≡ json w → v ≡ w) where
  same_pair : (p q : K × V) → pair_seen key_json json p ≡ pair_seen key_json json q → p ≡ q
  same_pair p q e =
      let k = keys p.0 q.0 (ap (λ (d : Data × Data). d.0) e) in
      let v = items p.1 q.1 (ap (λ (d : Data × Data). d.1) e) in
      λ i. (k i, v i)

  pub same_pairs : (L M : List (K × V)) → seen key_json json L ≡ seen key_json json M → L ≡ M
  same_pairs [] [] e = refl
  same_pairs (p ∷ L) (q ∷ M) e =
      let here : pair_seen key_json json p ≡ pair_seen key_json json q = cc in
      let rest : seen key_json json L ≡ seen key_json json M = cc in
      let first = same_pair p q here in
      let others = same_pairs L M rest in
      λ i. first i ∷ others i
  same_pairs _ _ e = absurd cc
