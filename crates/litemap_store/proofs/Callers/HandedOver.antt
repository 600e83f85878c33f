-- What is made of pairs that are passed one by one: lemmas for the proofs of callers.
--     given_by_owned      what an iterator that owns a list yields
--     rebuilt      no pairs, extended by an ascending list, are that list
--     extends, gathered      what the last pairs of old and given ones find, and when they stay
use Rattle.litemap_store.proofs.Names.{[], ◌++◌, ◌∙◌, ◌≡◌, ap, Drains, Gives, IsGathered, IsTotalOrder, Last, length, List, map-id, None}
use Rattle.litemap_store.proofs.Names.{Option, Ordering, Rising, Some, subst, sym, YieldsFirst}
use Rattle.std.proofs.iter.Yields.{gives_Drains, listed}
use Rattle.litemap_store.proofs.Callers.LastLookups.{value_at-Last_of_more}
use Rattle.litemap_store.specs.Bulk.{Extends}
use Rattle.litemap_store.proofs.Last.Pairs.{Last-rising, Last-unique}

module _ {T X : Type 0} (steps : T → Option X → T → Type 0) (owned : T → List X)
    (first : (s : T) (r : Option X) (t : T) → steps s r t → YieldsFirst owned s r t) where
  pub given_by_owned : (s : T) (xs : List X) → Drains steps s xs → xs ≡ owned s
  given_by_owned s xs d =
      sym (map-id xs)
      ∙ gives_Drains steps (λ x. x) xs (owned s) s (listed steps (λ x. x) owned (λ s t p. ap length (first s None t p).0) (λ s x t p. first s (Some x) t p) s) d

module _ {U T K V : Type 0} {cmp : K → K → Ordering} (o : IsTotalOrder cmp) (becomes : U → T → Type 0) (steps : T → Option (K × V) → T → Type 0)
    (owned : T → List (K × V)) (first : (s : T) (r : Option (K × V)) (t : T) → steps s r t → YieldsFirst owned s r t)
    (pairs : U → List (K × V)) (shown : (u : U) (t : T) → becomes u t → owned t ≡ pairs u) where
  pub rebuilt : (u : U) (new : List (K × V)) → Rising cmp (pairs u) → IsGathered cmp (Gives becomes steps u) [] new → new ≡ pairs u
  rebuilt u new r e =
      let given : e.given ≡ pairs u = given_by_owned steps owned first e.gives.0 e.given e.gives.2 ∙ shown u e.gives.0 e.gives.1 in
      Last-unique cmp o (pairs u) new (pairs u) (subst (λ J. Last cmp J new) given e.last) (Last-rising cmp (pairs u) r)

module _ {K V : Type 0} {cmp : K → K → Ordering} (o : IsTotalOrder cmp) (old new : List (K × V)) (r : Rising cmp old) where
  pub extends : (given : List (K × V)) → Last cmp (old ++ given) new → Extends cmp old given new
  extends given last = record {
    last = last;
    found = value_at-Last_of_more o old given new r last;
    stays = λ rises. Last-unique cmp o (old ++ given) new (old ++ given) last (Last-rising cmp (old ++ given) rises);
  }

  pub gathered : (AreGiven : List (K × V) → Type 0) (given : List (K × V)) → AreGiven given → Last cmp (old ++ given) new → IsGathered cmp AreGiven old new
  gathered AreGiven given gives last =
      let e = extends given last in record { given = given; gives = gives; last = last; found = e.found; stays = e.stays }
