-- How the caller of a search by a closure shows that the result of the closure depends on the key alone, and so what was found:
-- each lemma gives a `Shape`, for the `at` of `Found`.
--     shape_counted      by a fact of the closure and of how many calls are left;  shape_kept      however many are left
--     shape_steady      if a call leaves the closure as it is
use Rattle.litemap_store.proofs.Names.{[], ℕ, ◌∷◌, ◌≡◌, ◌≤◌, ReturnsEach, Any, arith, Ascends, Bor, Called, length, List, Mut}
use Rattle.litemap_store.proofs.Names.{Ordering, refl, Shape, subst, suc, sym, zero}

module _ {F K V : Type 0} (g : Mut F (Bor K × Unit {0}) Ordering) (l : List (K × V)) (ord : K → Ordering) where
  -- f may be called on the key p, returns what ord says of it, and has the fact `Then` afterwards
  abbrev ReturnsOne : (F → Type 0) → F → Bor K → Type 0
  ReturnsOne Then f p =
      g.pre f (p, tt) × ((r : Ordering) (f' : F) → Called g f (p, tt) r f' → (r ≡ ord p.now) × Then f')

  -- by a fact I of the closure and of how many calls are left, which allows a call on a key of the list, and which each call
  -- keeps
  module _
      (I : ℕ → F → Type 0)
      (step : (n : ℕ) (f : F) (p : Bor K) → Any (λ q. q.0 ≡ p.now) l → I (suc n) f → ReturnsOne (I n) f p) where
    returns_each : (n : ℕ) (ps : List (Bor K)) (f : F) → length ps ≤ n → I n f → ReturnsEach g l ord f ps
    returns_each n [] f h i = tt
    returns_each zero (p ∷ ps) f h i = absurd (omega arith)
    returns_each (suc n) (p ∷ ps) f h i = λ a.
        let one = step n f p a i in
        (one.0, λ r f' c. let next = one.1 r f' c in (next.0, returns_each n ps f' (omega arith) next.1))

    pub shape_counted : (n : ℕ) (f : F) → I n f → Ascends ord l → Shape g l ord n f
    shape_counted n f i ascends =
        record { answers = record { at = λ ps h. returns_each n ps f h i }; ascends = ascends }

  -- by such a fact, however many calls are left
  pub shape_kept : {n : ℕ} (I : F → Type 0)
      → ((f : F) (p : Bor K) → Any (λ q. q.0 ≡ p.now) l → I f → ReturnsOne I f p)
      → (f : F) → I f → Ascends ord l → Shape g l ord n f
  shape_kept {n} I step f i ascends = shape_counted (λ _. I) (λ _ f p a i. step f p a i) n f i ascends

  -- if a call leaves the closure as it is
  pub shape_steady : {n : ℕ} (f : F) → ((p : Bor K) → Any (λ q. q.0 ≡ p.now) l → g.pre f (p, tt))
      → ((p : Bor K) (r : Ordering) (f' : F) → Called g f (p, tt) r f' → (r ≡ ord p.now) × (f' ≡ f))
      → Ascends ord l → Shape g l ord n f
  shape_steady f pre says ascends =
      shape_kept (λ s. s ≡ f)
      (λ s p a i. subst (λ (t : F). ReturnsOne (λ t'. t' ≡ f) t p) (sym i) (pre p a, says p)) f refl ascends
