-- What was written reads as the same list.
use Rattle.std.proofs.Common.{◌≡◌, ◌≢◌, ℕ, ◌+◌, List, [], ◌∷◌, ◌++◌, ◌⊎◌, inl, inr, ◌↔◌, Option, Some, Result, Ok, Ordering, Less, Equal, Greater, refl, sym}
use Rattle.std.proofs.Common.{ap, subst, ◌∙◌, nat_cmp, length, get_or, drop, take, slice_get, suc, ◌<◌, ◌≤◌}
use Rattle.std.proofs.lemmas.List.{take_more, take_all}
use Rattle.std.proofs.lemmas.Map.Lookups.{exact_bytes}
use Rattle.std.specs.Cmp.{IsTotalOrder}
use Rattle.std.specs.Cmp.Lexicographic.{slice_cmp}
use Rattle.std.specs.Ordering.{match_ordering, ordering_reverse}
use lib.Seq.{split_at}
use Rattle.serde_json.specs.Data.{Data, array, object, Members, no_members, member, put}
use Rattle.litemap_store.specs.Last.{In, StandsLast}
use Rattle.litemap_store.specs.Pairs.{Rising}
use Rattle.litemap_store.proofs.Last.KeepLast.{rising_across}
use Rattle.litemap_store.proofs.Last.Pairs.{In-from_last, Last-rising}
use Rattle.litemap_store.proofs.Lists.Membership.{In-cases, In-left, In-right, from_each}
use Rattle.litemap_store.proofs.Search.Splitting.{each-append}
use Rattle.litemap_json.specs.declared.item.ItemFault.{ItemFault}
use Rattle.litemap_json.specs.Json.{rows, row_pairs, member_pairs, object_with}
use Rattle.litemap_json.specs.Reading.{AllReadBack, ReadsAs, ReadsBack, seen}
use Rattle.litemap_json.proofs.ByPlace.{at_place, made_step}

module _ {K V : Type 0} (cmp : K → K → Ordering) (total : IsTotalOrder cmp) (text : K → Option (List ℕ)) (key : List ℕ → Option Data)
    (key_item json_item : Data → Result Data ItemFault) (key_json : K → Data) (json : V → Data) where
  -- no two pairs have equal keys
  abbrev pub Distinct : List (K × V) → Type 0
  Distinct [] = Unit {0}
  Distinct (p ∷ ps) = ((q : K × V) → In q ps → cmp p.0 q.0 ≢ Equal) × Distinct ps

  last_from : (p : K × V) (J : List (K × V)) → Distinct J → In p J → StandsLast cmp p J
  last_from p [] d i = absurd i
  last_from p (q ∷ qs) d (inl e) = inl (e, from_each (λ (r : K × V). cmp p.0 r.0 ≢ Equal) qs (λ r i. rw (sym e) (d.0 r i)))
  last_from p (q ∷ qs) d (inr i) = inr (last_from p qs d.1 i)

  rows_read : (place : ℕ) (L : List (K × V)) → AllReadBack key_item json_item key_json json L
      → row_pairs key key_item json_item place (rows text key_json json L) ≡ Ok (seen key_json json L)
  rows_read place [] h = refl
  rows_read place (p ∷ ps) h = rw (h.0.0, h.0.1, rows_read (place + 1) ps h.1)

  pub array_again : (L : List (K × V)) → Rising cmp L → AllReadBack key_item json_item key_json json L
      → ReadsAs cmp key key_item json_item key_json json (array (rows text key_json json L)) L
  array_again L r h = record { given = L; gives = rows_read 0 L h; last = Last-rising cmp L r }

  -- the members spell the pairs, one by one
  abbrev pub Spells : List (K × V) → Members → Type 0
  Spells [] no_members = Unit {0}
  Spells (p ∷ ps) (member s d ms) = (text p.0 ≡ Some s) × (key s ≡ Some (key_json p.0)) × (d ≡ json p.1) × (json_item d ≡ Ok d) × Spells ps ms
  Spells _ _ = ⊥

  pub members_read : (place : ℕ) (J : List (K × V)) (ms : Members) → Spells J ms → member_pairs key key_item json_item place ms ≡ Ok (seen key_json json J)
  members_read place [] no_members h = refl
  members_read place (p ∷ ps) (member s d ms) h = rw (h.1, h.3, members_read (place + 1) ps ms h.4, h.2)
  members_read place _ _ h = absurd h

  -- J has x and the pairs of I, and no two equal keys
  abbrev pub Adds : K × V → List (K × V) → Members → Type 0
  Adds x I ms = (J : List (K × V)) × Spells J ms × ((p : K × V) → In p J ↔ ((x ≡ p) ⊎ In p I)) × Distinct J

  module _ (told : (x y : K) → key_json x ≡ key_json y → cmp x y ≡ Equal) (x : K × V) (s : List ℕ) (named : text x.0 ≡ Some s)
      (known : key s ≡ Some (key_json x.0)) (read : json_item (json x.1) ≡ Ok (json x.1)) where
    apart_back : (q : K × V) → cmp x.0 q.0 ≢ Equal → cmp q.0 x.0 ≢ Equal
    apart_back q a e = a (total.antisymm x.0 q.0 ∙ ap ordering_reverse e)

    adds_at : (o : Ordering) (q : K × V) (I : List (K × V)) (l : List ℕ) (e : Data) (ms : Members) → slice_cmp nat_cmp s l ≡ o → Spells (q ∷ I) (member l e ms)
        → Distinct (q ∷ I)
        → ((r : K × V) → In r (q ∷ I) → cmp x.0 r.0 ≢ Equal) → Adds x I (put s (json x.1) ms)
        → Adds x (q ∷ I) (match_ordering o (member s (json x.1) (member l e ms)) (member l (json x.1) ms) (member l e (put s (json x.1) ms)))
    adds_at Less q I l e ms is h d a rest = (x ∷ q ∷ I, (named, known, refl, read, h), λ p. (λ i. i, λ i. i), (a, d))
    adds_at Equal q I l e ms is h d a rest =
        let same : s ≡ l = exact_bytes s l is in
        let one : key s ≡ Some (key_json q.0) = rw same h.1 in
        let tree : key_json x.0 ≡ key_json q.0 = cc in
        absurd (a q (inl refl) (told x.0 q.0 tree))
    adds_at Greater q I l e ms is h d a rest = (
      q ∷ rest.0,
      (h.0, h.1, h.2, h.3, rest.1),
      λ p. (
        λ i. elim i [ inl e ↦ inr (inl e) | inr j ↦ elim ((rest.2 p).0 j) [ inl e ↦ inl e | inr k ↦ inr (inr k) ] ],
        λ i. elim i [ inl e ↦ inr ((rest.2 p).1 (inl e)) | inr j ↦ elim j [ inl e ↦ inl e | inr k ↦ inr ((rest.2 p).1 (inr k)) ] ],
      ),
      (λ r i. elim ((rest.2 r).0 i) [ inl e ↦ (rw (sym e) (apart_back q (a q (inl refl)))) | inr k ↦ d.0 r k ], rest.3),
    )

    pub adds : (I : List (K × V)) (ms : Members) → Spells I ms → Distinct I → ((q : K × V) → In q I → cmp x.0 q.0 ≢ Equal) → Adds x I (put s (json x.1) ms)
    adds [] no_members h d a = (x ∷ [], (named, known, refl, read, tt), λ p. (λ i. i, λ i. i), (λ r i. absurd i, tt))
    adds (q ∷ I) (member l e ms) h d a = adds_at (slice_cmp nat_cmp s l) q I l e ms refl h d a (adds I ms h.4 d.1 (λ r i. a r (inr i)))
    adds _ _ h d a = absurd h

  -- the members spell the pairs of `done`, each once
  abbrev pub Gathered : Members → List (K × V) → Type 0
  Gathered ms done = (J : List (K × V)) × Spells J ms × ((p : K × V) → In p J ↔ In p done) × Distinct J

  pub gathered_none : Gathered no_members []
  gathered_none = ([], tt, λ p. (λ i. i, λ i. i), tt)

  in_end : (x p : K × V) (done : List (K × V)) → ((x ≡ p) ⊎ In p done) ↔ In p (done ++ x ∷ [])
  in_end x p done = (
    λ i. elim i [ inl e ↦ In-right done (x ∷ []) p (inl e) | inr j ↦ In-left done (x ∷ []) p j ],
    λ i. elim (In-cases done (x ∷ []) p i) [ inl j ↦ inr j | inr j ↦ elim j [ inl e ↦ inl e | inr k ↦ absurd k ] ],
  )

  pub gathered_more : (told : (x y : K) → key_json x ≡ key_json y → cmp x y ≡ Equal) (x : K × V) (s : List ℕ) → text x.0 ≡ Some s → key s ≡ Some (key_json x.0)
      → json_item (json x.1) ≡ Ok (json x.1)
      → (ms : Members) (done : List (K × V)) → Gathered ms done → ((q : K × V) → In q done → cmp x.0 q.0 ≢ Equal)
      → Gathered (put s (json x.1) ms) (done ++ x ∷ [])
  gathered_more told x s named known read ms done g apart =
      let more = adds told x s named known read g.0 ms g.1 g.3 (λ q i. apart q ((g.2 q).0 i)) in (
        more.0,
        more.1,
        λ p. (
          λ i. (in_end x p done).0 (elim ((more.2 p).0 i) [ inl e ↦ inl e | inr j ↦ inr ((g.2 p).0 j) ]),
          λ i. (more.2 p).1 (elim ((in_end x p done).1 i) [ inl e ↦ inl e | inr j ↦ inr ((g.2 p).1 j) ]),
        ),
        more.3,
      )

  -- no pair before x has an equal key
  pub apart_before : (L : List (K × V)) (i : ℕ) (x : K × V) → i < length L → x ≡ get_or L i x → Rising cmp L → (q : K × V) → In q (take i L)
      → cmp x.0 q.0 ≢ Equal
  apart_before L i x h e r q j =
      let parts = split_at L i x h in
      let less : cmp q.0 x.0 ≡ Less = rising_across cmp (take i L) (get_or L i x ∷ drop (suc i) L) (subst (Rising cmp) parts r) q x j (inl (sym e)) in
      λ equal. (let back : cmp q.0 x.0 ≡ Equal = total.antisymm q.0 x.0 ∙ ap ordering_reverse equal in cc)

  take_next : (L : List (K × V)) (i : ℕ) (x : K × V) → i < length L → x ≡ get_or L i x → take (i + 1) L ≡ take i L ++ x ∷ []
  take_next L i x h e = take_more L i x h ∙ ap (λ y. take i L ++ y ∷ []) (sym e)

  -- the members are those of the pairs before an index, each once, and go on to the object of all
  abbrev pub Gathers : List (K × V) → ℕ → Members → Type 0
  Gathers L i ms = (object_with text key_json json i ms (drop i L) ≡ object_with text key_json json 0 no_members L) × Gathered ms (take i L)

  pub object_step : (told : (x y : K) → key_json x ≡ key_json y → cmp x y ≡ Equal) (L : List (K × V)) (i : ℕ) (x : K × V) (s : List ℕ) (ms : Members)
      → Some x ≡ slice_get L i → Rising cmp L
      → text x.0 ≡ Some s → key s ≡ Some (key_json x.0) → json_item (json x.1) ≡ Ok (json x.1) → Gathers L i ms → Gathers L (i + 1) (put s (json x.1) ms)
  object_step told L i x s ms here r named known read g =
      let found = at_place L i x here in (
        made_step text key_json json L i x s ms _ found.0 found.1 named g.0,
        subst (λ done. Gathered (put s (json x.1) ms) done) (sym (take_next L i x found.0 found.1))
            (gathered_more told x s named known read ms (take i L) g.1 (apart_before L i x found.0 found.1 r)),
      )

  pub object_end : (L : List (K × V)) (i : ℕ) (ms : Members) (d : Data) → length L ≤ i → Rising cmp L → d ≡ object ms → Gathers L i ms
      → ReadsAs cmp key key_item json_item key_json json d L
  object_end L i ms d h r e g =
      let all : Gathered ms L = subst (λ done. Gathered ms done) (take_all i L h) g.1 in
      rw e (record {
        given = all.0;
        gives = members_read 0 all.0 ms all.1;
        last = record { rising = r; exactly = λ p. (λ i. last_from p all.0 all.3 ((all.2 p).1 i), λ h. (all.2 p).0 (In-from_last cmp p all.0 h)) };
      })

  pub array_step : (L : List (K × V)) (i : ℕ) (x : K × V) → i < length L → x ≡ get_or L i x → AllReadBack key_item json_item key_json json (take i L)
      → ReadsBack key_item json_item key_json json x
      → AllReadBack key_item json_item key_json json (take (i + 1) L)
  array_step L i x h e all here =
      subst (λ done. AllReadBack key_item json_item key_json json done) (sym (take_next L i x h e))
      (each-append (ReadsBack key_item json_item key_json json) (take i L) (x ∷ []) all (here, tt))
