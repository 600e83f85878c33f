-- What is found in the pairs that a closure keeps.
--     length-kept      no more pairs than before;  value_at-stays, value_at-gone      if the closure returns true, or false, for the pair with the key
use Rattle.litemap.proofs.Common.{◌≡◌, ◌≤◌, ◌∙◌, Bool, true, false, List, [], ◌∷◌, None, length, option_map, ap, arith, is_eq, Ordering, Bor}
use Rattle.litemap.proofs.Common.{IsTotalOrder, items_where_true, value_at, equal_from_is_eq, Mut}
use Rattle.std.proofs.lemmas.Cmp.{tied_back}
use Rattle.litemap_store.specs.Retain.{Kept}
use Rattle.litemap.specs.Retained.{Retains, ReturnsAt, ReturnsFor}

length-picked : {X : Type 0} (bs : List Bool) (L : List X) → length (items_where_true bs L) ≤ length L
length-picked [] L = omega arith
length-picked (b ∷ bs) [] = omega arith
length-picked (true ∷ bs) (x ∷ L) = omega (arith, length-picked bs L)
length-picked (false ∷ bs) (x ∷ L) = omega (arith, length-picked bs L)

pub length-kept : {F K V : Type 0} (g : Mut F (Bor K × (Bor V × Unit {0})) Bool) (f : F) (L L' M : List (K × V)) → Kept g f L M → L ≡ L' → length M ≤ length L'
length-kept g f L L' M kept is = rw (kept.4) (rw (← is) (length-picked kept.0 L))

-- what a key finds, from what its test of pairs finds
module _ {F K V : Type 0} (g : Mut F (Bor K × (Bor V × Unit {0})) Bool) (f : F) {cmp : K → K → Ordering} (o : IsTotalOrder cmp) (L M : List (K × V))
    (kept : Retains g f cmp L M) (k : K) where
  for_test : (b : Bool) → ReturnsAt g f cmp L k b → ReturnsFor g f (λ p. is_eq (cmp p.0 k)) L b
  for_test b a = λ p c f' called. ((a p c f' called).0, λ t is. (a p c f' called).1 (equal_from_is_eq _ t) is)

  pub value_at-stays : ReturnsAt g f cmp L k true → value_at cmp M k ≡ value_at cmp L k
  value_at-stays a = ap (option_map (λ p. p.1)) (kept.stays.found (λ p. is_eq (cmp p.0 k)) (for_test true a))

  pub value_at-gone : ReturnsAt g f cmp L k false → value_at cmp M k ≡ None
  value_at-gone a = ap (option_map (λ p. p.1)) (kept.gone (λ p. is_eq (cmp p.0 k)) (λ p q s t.
      o.congr p.0 k q.0 (equal_from_is_eq _ s) ∙ tied_back o q.0 k (equal_from_is_eq _ t)) (for_test false a))
