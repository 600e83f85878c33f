-- A list of pairs with other values.
--     keys-set_values      it has the same keys;  zip-parts      the keys beside the values are the pairs
use Rattle.litemap.proofs.Common.{◌≡◌, List, [], ◌∷◌, refl, ap, ◌∙◌, sym, length, keys_of}
use lib.ListN.{length-map}
use Rattle.std.specs.List.{length_refill, refill, zip}
use Rattle.std.specs.Map.{values_of}
use Rattle.std.proofs.lemmas.Map.Made.{keys_of-zip}
use Rattle.litemap_store.specs.Lent.{set_values}

module _ {K V : Type 0} where
  pub keys-set_values : (L : List (K × V)) (ws : List V) → keys_of (set_values L ws) ≡ keys_of L
  keys-set_values L ws =
      keys_of-zip (keys_of L) (refill (length L) (values_of L) ws)
      (sym (length_refill (length L) (values_of L) ws (sym (length-map L (λ p. p.1)))) ∙ sym (length-map L (λ p. p.0)))

  pub zip-parts : (L : List (K × V)) → zip (keys_of L) (values_of L) ≡ L
  zip-parts [] = refl
  zip-parts (p ∷ L) = ap (λ l. p ∷ l) (zip-parts L)
