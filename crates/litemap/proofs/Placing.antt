-- What `try_find_or_insert` leaves, together with the value that is then returned.
use Rattle.litemap.proofs.Common.{◌≡◌, ℕ, ◌+◌, ◌<◌, ◌≤◌, Result, Ok, Err, Option, Some, IsNone, IsSome, IsOk, IfOk, OnOk, OnErr}
use Rattle.litemap.proofs.Common.{length, slice_get, unwrap_or, option_map, refl, sym, ap, ◌∙◌, subst, Ordering, Bor}
use Rattle.litemap.proofs.Common.{FnOnceReturnsAt, Once, Contents, at, place, put, value_at, value_in, put_value}
use Rattle.litemap.specs.declared.try_fault.TryFault.{TryFault}
use Rattle.litemap.specs.declared.try_fault.TryFault.TheVariants.{Closure, NoRoom}
use Rattle.litemap.specs.TryFault.{FailsAs, IfClosure, IsInsertedAt, Shown}

same_value : {V : Type 0} (v w : V) → Some v ≡ Some w → v ≡ w
same_value {V} v w e = ap (λ (o : Option V). unwrap_or o v) e

module _ {F K V E : Type 0} (g : Once F (Bor K × Unit {0}) (Result V E)) (f : F) (cmp : K → K → Ordering) (key : K) (old n : Contents K V) where
  -- what `try_find_or_insert` ensures of its result r, and of the map n that it leaves
  pub record Found (r : Result ℕ (TryFault K V E)) : Type 0 where
    pub place : IfOk r (λ i. i ≡ place cmp old.entries key)
    pub within : IfOk r (λ i. i < length n.entries)
    pub there : IfOk r (λ i. slice_get n.entries i ≡ at cmp n.entries key)
    pub present : IsSome (at cmp old.entries key) → IsOk r × (n ≡ old)
    pub put : IsNone (at cmp old.entries key) → OnOk r ((v : V) × FnOnceReturnsAt g f key (Ok v) × (n.entries ≡ put cmp old.entries key v))
    pub room : old.room ≤ n.room + 1
    pub errors : FailsAs g f key old.room r
    pub unchanged : OnErr r (n.entries ≡ old.entries)
    pub unchanged_by_closure : IfClosure r (λ _. n ≡ old)

  fails_alike : (e : TryFault K V E) → FailsAs g f key old.room {A = ℕ} (Err e) → FailsAs g f key old.room {A = ℕ × Bor V} (Err e)
  fails_alike (Closure e) h = record { closure = h.closure; full = tt; back = tt }
  fails_alike (NoRoom k v) h = record { closure = tt; full = h.full; back = h.back }

  still_unmoved : (e : TryFault K V E) → IfClosure {A = ℕ} (Err e) (λ _. n ≡ old) → IfClosure {A = ℕ × Bor V} (Err e) (λ _. n ≡ old)
  still_unmoved (Closure e) h = h
  still_unmoved (NoRoom k v) h = tt

  -- all that `try_get_or_insert` ensures
  pub record Told (t : Result (ℕ × Bor V) (TryFault K V E)) : Type 0 where
    pub leaves : IsInsertedAt g f cmp key old t n
    pub place : IfOk t (λ there. there.0 ≡ place cmp old.entries key)
    pub present : IsSome (at cmp old.entries key) → IsOk t
    pub within : IsSome (at cmp old.entries key) → IfOk t (λ there. there.0 < length old.entries)
    pub value : IsSome (at cmp old.entries key) → IfOk t (λ there. Some there.1.now ≡ value_at cmp old.entries key)
    pub answered : IsNone (at cmp old.entries key) → IfOk t (λ there. FnOnceReturnsAt g f key (Ok there.1.now))
    pub errors : FailsAs g f key old.room t

  pub told : (r : Result ℕ (TryFault K V E)) → Found r → (t : Result (ℕ × Bor V) (TryFault K V E)) → Shown n.entries r t → Told t
  told r found (Ok there) shown =
      let is = shown.0 in
      let place-is = subst (λ s. IfOk s (λ i. i ≡ place cmp old.entries key)) is found.place in
      let made : IsNone (at cmp old.entries key) → (v : V) × FnOnceReturnsAt g f key (Ok v) × (n.entries ≡ put cmp old.entries key v) =
      λ none. subst (λ s. OnOk s ((v : V) × FnOnceReturnsAt g f key (Ok v) × (n.entries ≡ put cmp old.entries key v))) is (found.put none) in
      let same : (none : IsNone (at cmp old.entries key)) → (made none).0 ≡ there.1.now =
      λ none. same_value (made none).0 there.1.now
      (sym (put_value cmp old.entries key (made none).0) ∙ ap (value_in _) (sym place-is) ∙ ap (λ L. value_in L there.0) (sym (made none).2) ∙ shown.1) in
      record {
        leaves = record {
          present = λ some. (found.present some).1;
          put = λ none. (made none).2 ∙ ap (put cmp old.entries key) (same none);
          room = found.room;
          unchanged = tt;
          unchanged_by_closure = tt;
        };
        place = place-is;
        present = λ some. refl;
        within = λ some. subst (λ m. there.0 < length m.entries) (found.present some).1 (subst (λ s. IfOk s (λ i. i < length n.entries)) is found.within);
        value = λ some. sym shown.1 ∙ ap (option_map (λ p. p.1)) (subst (λ s. IfOk s (λ i. slice_get n.entries i ≡ at cmp n.entries key)) is found.there)
            ∙ ap (λ m. value_at cmp m.entries key) (found.present some).1;
        answered = λ none. subst (λ v. FnOnceReturnsAt g f key (Ok v)) (same none) (made none).1;
        errors = record { closure = tt; full = tt; back = tt };
      }
  told r found (Err e) shown =
      record {
        leaves = record {
          present = λ some. (found.present some).1;
          put = λ none. tt;
          room = found.room;
          unchanged = subst (λ s. OnErr s (n.entries ≡ old.entries)) shown found.unchanged;
          unchanged_by_closure = still_unmoved e (subst (λ s. IfClosure s (λ _. n ≡ old)) shown found.unchanged_by_closure);
        };
        place = tt;
        present = λ some. subst IsOk shown (found.present some).0;
        within = λ some. tt;
        value = λ some. tt;
        answered = λ none. tt;
        errors = fails_alike e (subst (FailsAs g f key old.room) shown found.errors);
      }
