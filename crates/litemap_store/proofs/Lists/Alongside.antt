-- Lists whose elements are in a relation, index by index.
--     alongside-push      one more element at the end of each;  alongside-more      the element at the next index, and one at the end of the other list
--     alongside-zip      of keys and of values, and so of the pairs;  zip_with_none      no pair, if there is no value
use Rattle.litemap_store.proofs.Names.{[], ℕ, ◌++◌, ◌+◌, ◌∙◌, ◌∷◌, ◌≡◌, AllZip, ap, arith, get_or_from_slice_get, length, List, refl, slice_get}
use Rattle.litemap_store.proofs.Names.{slice_get_within, Some, subst, sym, take, take_more, zip}

module _ {A B : Type 0} (R : A → B → Type 0) where
  pub alongside-push : (xs : List A) (ys : List B) (x : A) (y : B) → AllZip R xs ys → R x y → AllZip R (xs ++ x ∷ []) (ys ++ y ∷ [])
  alongside-push [] [] x y h r = (r, tt)
  alongside-push [] (z ∷ ys) x y h r = absurd h
  alongside-push (w ∷ xs) [] x y h r = absurd h
  alongside-push (w ∷ xs) (z ∷ ys) x y h r = (h.0, alongside-push xs ys x y h.1 r)

  pub alongside-more : (xs : List A) (ys : List B) (i : ℕ) (x : A) (y : B) → slice_get xs i ≡ Some x → R x y → AllZip R (take i xs) ys
      → AllZip R (take (i + 1) xs) (ys ++ y ∷ [])
  alongside-more xs ys i x y is r h =
      subst (λ l. AllZip R l (ys ++ y ∷ []))
      (ap (λ z. take i xs ++ z ∷ []) (sym (get_or_from_slice_get xs i x x is)) ∙ sym (take_more xs i x (slice_get_within xs i x is)))
      (alongside-push (take i xs) ys x y h r)

module _ {K L V W : Type 0} (C : K → L → Type 0) (D : V → W → Type 0) where
  pub alongside-zip : (ks : List K) (js : List L) (vs : List V) (ws : List W) → AllZip C ks js → AllZip D vs ws
      → AllZip (λ p q. C p.0 q.0 × D p.1 q.1) (zip ks vs) (zip js ws)
  alongside-zip [] [] vs ws c d = tt
  alongside-zip [] (j ∷ js) vs ws c d = absurd c
  alongside-zip (k ∷ ks) [] vs ws c d = absurd c
  alongside-zip (k ∷ ks) (j ∷ js) [] [] c d = tt
  alongside-zip (k ∷ ks) (j ∷ js) [] (w ∷ ws) c d = absurd d
  alongside-zip (k ∷ ks) (j ∷ js) (v ∷ vs) [] c d = absurd d
  alongside-zip (k ∷ ks) (j ∷ js) (v ∷ vs) (w ∷ ws) c d = ((c.0, d.0), alongside-zip ks js vs ws c.1 d.1)

pub zip_with_none : {K V : Type 0} (ks : List K) (vs : List V) → length vs ≡ 0 → zip ks vs ≡ []
zip_with_none [] vs h = refl
zip_with_none (k ∷ ks) [] h = refl
zip_with_none (k ∷ ks) (v ∷ vs) h = absurd (omega (arith, h))
