-- What may be called on each pair of a map.
--     among      an element of a list that is split there
--     on_each, on_values      a closure that takes the pairs of a map may be called on each of its store
--     folds_by      what steps do to a part of the state
--     always      the set for callers that pass on a closure of theirs which may always be called
use Rattle.litemap.proofs.Common.{◌≡◌, ◌++◌, [], ◌∷◌, List, Bor, MutBor, Bool, Mut, Ordering, IsTotalOrder, Rising, Some, ap, arith, inl, refl, subst, suc, sym}
use Rattle.litemap.proofs.Common.{map, option_map, value_at}
use denote.Param.Always.{always_mut, mut_next}
use Rattle.std.specs.List.{FoldsTo, IsAmong}
use Rattle.litemap_store.specs.Retain.{AsksOfPair, CallableOnEach}
use Rattle.litemap_store.proofs.Lists.Membership.{In-right}
use Rattle.litemap.specs.Callable.{IsPairOf, TakesPairs, TakesValues}
use Rattle.litemap.specs.KeptWritten.{AsksOfValue, CallableOnValues}
use Rattle.litemap.proofs.Queried.{each_found, member}

pub among : {X : Type 0} (before after : List X) (x : X) → IsAmong (before ++ x ∷ after) x
among [] after x = (0, (omega arith, refl))
among (y ∷ before) after x = let r = among before after x in (suc r.0, (omega (arith, r.1.0), r.1.1))

module _ {K V : Type 0} {cmp : K → K → Ordering} (o : IsTotalOrder cmp) (L L' : List (K × V)) (same : L ≡ L') (rising : Rising cmp L) where
  pair_of : (before after : List (K × V)) (p : K × V) → L ≡ before ++ p ∷ after → (k : K) (v : V) → k ≡ p.0 → v ≡ p.1 → IsPairOf cmp L before after k v
  pair_of before after p is k v a b =
      let found : value_at cmp L p.0 ≡ Some p.1 = ap (option_map (λ q. q.1)) (each_found o L rising p (rw is (In-right before (p ∷ after) p (inl refl)))) in
      rw (a, b) (record { between = is; found = found; pair = rw is (among before after p); value = member cmp p.0 L (Some p.1) (sym found) })

  module _ {F : Type 0} (f : F) where
    pub on_each : (g : Mut F (Bor K × (Bor V × Unit {0})) Bool) → TakesPairs g cmp f L' → CallableOnEach g f L
    on_each g h = record {
      at = λ before after s p is folds k v a b.
          (subst (TakesPairs g cmp f) (sym same) h).at before after s k v (pair_of before after p is k.now v.now a b) folds;
    }

    pub on_values : {R : Type 0} (g : Mut F (Bor K × (MutBor V × Unit {0})) (R × (MutBor V × Unit {0}))) → TakesValues g cmp f L' → CallableOnValues g f L
    on_values g h = record {
      at = λ before after s p is folds k v a b.
          (subst (TakesValues g cmp f) (sym same) h).at before after s k v (pair_of before after p is k.now v.now a b) folds;
    }

-- what no step takes away holds after all of them
folds_keep : {F X : Type 0} (Step : F → X → F → Type 0) (Holds : F → Type 0) → ((f : F) (x : X) (s : F) → Step f x s → Holds f → Holds s)
    → (xs : List X) (f s : F) → FoldsTo Step f xs s → Holds f → Holds s
folds_keep Step Holds keeps [] f s is h = subst Holds is h
folds_keep Step Holds keeps (x ∷ xs) f s (t, step, folds) h = folds_keep Step Holds keeps xs t s folds (keeps f x t step h)

pub folds_by : {A B X Y : Type 0} (h : A → B) (j : X → Y) (R : A → X → A → Type 0) (S : B → Y → B → Type 0)
    → ((a : A) (x : X) (b : A) → R a x b → S (h a) (j x) (h b)) → (xs : List X) (a b : A) → FoldsTo R a xs b → FoldsTo S (h a) (map j xs) (h b)
folds_by h j R S step [] a b is = ap h is
folds_by h j R S step (x ∷ xs) a b (t, r, folds) = (h t, step a x t r, folds_by h j R S step xs t b folds)

module _ {F K V : Type 0} (cmp : K → K → Ordering) (L : List (K × V)) (f : F) where
  pub always_pairs : (g : Mut F (Bor K × (Bor V × Unit {0})) Bool) → always_mut g f → TakesPairs g cmp f L
  always_pairs g h = record {
    at = λ before after s k v is folds.
        ((folds_keep (AsksOfPair g) (always_mut g) (λ e p t asked a. mut_next g e _ _ t t asked.1.called refl a) before f s folds h).at ((k, (v, tt)) ∷ [])).0;
  }

  pub always_values : {R : Type 0} (g : Mut F (Bor K × (MutBor V × Unit {0})) (R × (MutBor V × Unit {0}))) → always_mut g f → TakesValues g cmp f L
  always_values g h = record {
    at = λ before after s k v is folds.
        ((folds_keep (AsksOfValue g) (always_mut g) (λ e p t asked a. mut_next g e _ _ t t asked.2.called refl a) before f s folds h).at ((k, (v, tt)) ∷ [])).0;
  }

pub ruleset always = (always_pairs, always_values)
