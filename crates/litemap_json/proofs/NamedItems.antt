-- Items by their names: one more, wherever its name belongs.
use Rattle.std.proofs.Common.{◌≡◌, ◌≢◌, ℕ, ◌+◌, ◌<◌, ◌≤◌, List, [], ◌∷◌, ◌++◌, length, get_or, drop, Option, Some, Ok, Ordering, Less, Equal, Greater, inl, inr}
use Rattle.std.proofs.Common.{refl, sym, ap, subst, ◌∙◌}
use Rattle.std.proofs.lemmas.List.{drop_all}
use Rattle.std.proofs.lemmas.Map.Lookups.{exact_bytes}
use Rattle.std.specs.Ordering.{nat_cmp, is_gt, is_lt, ordering_reverse}
use Rattle.std.specs.Cmp.{IsTotalOrder, on_total}
use Rattle.std.specs.Cmp.Lexicographic.{nat_list_cmp_total, slice_cmp}
use Rattle.serde_json.specs.Data.{Data, object, member, no_members, put}
use Rattle.litemap_store.specs.Last.{In, Last}
use Rattle.litemap_store.specs.Pairs.{BelowAll, Rising, above, below}
use Rattle.litemap_store.specs.Queries.{key_one_side}
use Rattle.litemap_store.proofs.Last.KeepLast.{filter_all, filter_none}
use Rattle.litemap_store.proofs.Last.Pairs.{Last-put, Last-rising, Last-unique}
use Rattle.litemap_store.proofs.Lists.Membership.{each}
use Rattle.litemap_json.specs.Json.{object_with}
use Rattle.litemap_json.specs.Written.{named}
use Rattle.litemap_json.proofs.ByPlace.{made_step}

module _ {N V : Type 0} (bytes : N → List ℕ) (json : V → Data) where
  abbrev name_cmp : N → N → Ordering
  name_cmp x y = slice_cmp nat_cmp (bytes x) (bytes y)

  name_cmp_total : IsTotalOrder name_cmp
  name_cmp_total = on_total bytes nat_list_cmp_total

  abbrev With : N × V → List (N × V) → List (N × V)
  With p M = below name_cmp M p.0 ++ p ∷ above name_cmp M p.0

  -- if the first name is not below p's, all others are above
  past : (p q : N × V) (M : List (N × V)) → name_cmp q.0 p.0 ≢ Less → BelowAll name_cmp q.0 M → (below name_cmp M p.0 ≡ []) × (above name_cmp M p.0 ≡ M)
  past p q M n b =
      let later = λ (x : N × V) (i : In x M).
      elim (key_one_side name_cmp_total p.0 q.0 x.0 (each (λ (y : N × V). name_cmp q.0 y.0 ≡ Less) M b x i)) as
      (λ _. name_cmp x.0 p.0 ≡ Greater) [ inl h ↦ absurd (n h) | inr g ↦ g ] in
      (filter_none _ M (λ x i. ap is_lt (later x i)), filter_all _ M (λ x i. ap is_gt (later x i)))

  put_at : (o : Ordering) (p q : N × V) (M : List (N × V)) → name_cmp q.0 p.0 ≡ o → BelowAll name_cmp q.0 M
      → named bytes json (With p M) ≡ put (bytes p.0) (json p.1) (named bytes json M)
      → named bytes json (With p (q ∷ M)) ≡ put (bytes p.0) (json p.1) (named bytes json (q ∷ M))
  put_at Less p q M e b rest =
      let back : name_cmp p.0 q.0 ≡ Greater = name_cmp_total.antisymm p.0 q.0 ∙ ap ordering_reverse e in
      rw (e, back) (ap (member (bytes q.0) (json q.1)) rest)
  put_at Equal p q M e b rest =
      let back : name_cmp p.0 q.0 ≡ Equal = name_cmp_total.antisymm p.0 q.0 ∙ ap ordering_reverse e in
      let all = past p q M (λ l. cc) b in
      rw (e, back, all.0, all.1) (ap (λ s. member s (json p.1) (named bytes json M)) (exact_bytes _ _ back))
  put_at Greater p q M e b rest =
      let back : name_cmp p.0 q.0 ≡ Less = name_cmp_total.antisymm p.0 q.0 ∙ ap ordering_reverse e in
      let all = past p q M (λ l. cc) b in
      rw (e, back, all.0, all.1)

  pub named-put : (p : N × V) (M : List (N × V)) → Rising name_cmp M → named bytes json (With p M) ≡ put (bytes p.0) (json p.1) (named bytes json M)
  named-put p [] r = refl
  named-put p (q ∷ M) r = put_at (name_cmp q.0 p.0) p q M refl r.0 (named-put p M r.1)

  module _ {K W : Type 0} (text : K → Option (List ℕ)) (key_json : K → Data) (json_of : W → Data) where
    -- the names so far have the members of the pairs before an index
    abbrev pub Named : List (K × W) → ℕ → List (N × V) → Type 0
    Named L i names = (M : List (N × V)) × Last name_cmp names M
        × (object_with text key_json json_of i (named bytes json M) (drop i L) ≡ object_with text key_json json_of 0 no_members L)

    pub name_none : (L : List (K × W)) (names : List (N × V)) → names ≡ [] → Named L 0 names
    name_none L names e = ([], subst (λ ns. Last name_cmp ns []) (sym e) (Last-rising name_cmp [] tt), refl)

    pub name_more : (L : List (K × W)) (i : ℕ) (x : K × W) (p : N × V) (names : List (N × V)) → i < length L → x ≡ get_or L i x → text x.0 ≡ Some (bytes p.0)
        → json p.1 ≡ json_of x.1 → Named L i names → Named L (i + 1) (names ++ p ∷ [])
    name_more L i x p names h e is same held =
        let M = held.0 in (
          With p M,
          Last-put name_cmp name_cmp_total names M held.1 p,
          subst (λ ms. object_with text key_json json_of (i + 1) ms (drop (i + 1) L) ≡ object_with text key_json json_of 0 no_members L)
              (ap (λ d. put (bytes p.0) d (named bytes json M)) (sym same) ∙ sym (named-put p M held.1.rising))
              (made_step text key_json json_of L i x (bytes p.0) (named bytes json M) (object_with text key_json json_of 0 no_members L) h e is held.2),
        )

    pub name_end : (L : List (K × W)) (i : ℕ) (names N : List (N × V)) → length L ≤ i → Named L i names → Last name_cmp names N
        → object_with text key_json json_of 0 no_members L ≡ Ok (object (named bytes json N))
    name_end L i names N h held last =
        sym held.2 ∙ ap (object_with text key_json json_of i (named bytes json held.0)) (drop_all i L h) ∙ ap (λ M. Ok (object (named bytes json M)))
        (Last-unique name_cmp name_cmp_total names held.0 N held.1 last)
