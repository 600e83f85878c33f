-- What any query finds after a merge, by its test of pairs: for the clauses `overlays`, `displaced` and `none_common`.
use Rattle.litemap.proofs.Common.{◌≡◌, ◌∙◌, ◌∷◌, ◌++◌, [], Bool, true, false, List, Option, None, Some, ap, cond, is_eq, is_some, inl, inr, option_map}
use Rattle.litemap.proofs.Common.{option_or, refl, reverse, subst, sym}
use Rattle.litemap.proofs.Common.{Contents, Err, IfOk, IsSome, Ok, Result, Rising}
use Rattle.litemap.proofs.Common.{Ordering, IsTotalOrder, Merge, at, key_alike, key_same, left, value_at, value_at-merged, value_at-left}
use Rattle.std.specs.Prelude.{◌↔◌, IsNone, if◌then◌else◌}
use Rattle.std.proofs.Common.{find}
use Rattle.litemap_store.specs.Last.{In, Last}
use Rattle.std.proofs.lemmas.Map.Lookups.{exact_bytes}
use Rattle.litemap.specs.Updates.{Displaces, IsKeyTest, NoCommon, Overlays}
use Rattle.litemap_store.proofs.Callers.LastLookups.{value_at-last_of_more}
use Rattle.litemap_store.proofs.Names.{IfSome}

module _ {X : Type 0} where
  find_ext : (f g : X → Bool) → ((x : X) → f x ≡ g x) → (L : List X) → find f L ≡ find g L
  find_ext f g e [] = refl
  find_ext f g e (x ∷ L) = ap (λ b. cond b (Some x) (find f L)) (e x) ∙ ap (λ r. cond (g x) (Some x) r) (find_ext f g e L)

  module _ (test : X → Bool) where
    passes_by : (x : X) (L : List X) (y : X) (b : Bool) → test x ≡ b → cond b (Some x) (find test L) ≡ Some y → (find test L ≡ Some y → test y ≡ true)
        → test y ≡ true
    passes_by x L y true t e rest = let s : x ≡ y = cc in subst (λ z. test z ≡ true) s t
    passes_by x L y false t e rest = rest e

    pub find_passes : (L : List X) (y : X) → find test L ≡ Some y → test y ≡ true
    find_passes [] y e = absurd (cc)
    find_passes (x ∷ L) y e = passes_by x L y (test x) refl e (find_passes L y)

    pub none_found : (L : List X) → ((x : X) → In x L → test x ≡ false) → find test L ≡ None
    none_found [] n = refl
    none_found (x ∷ L) n = rw (n x (inl refl)) (none_found L (λ y i. n y (inr i)))

module _ {K V : Type 0} (cmp : K → K → Ordering) (test : K × V → Bool) (key : IsKeyTest cmp test) where
  abbrev found : List (K × V) → Option V
  found L = option_map (λ p. p.1) (find test L)

  as_key : (x : K × V) → test x ≡ true → (L : List (K × V)) → find test L ≡ at cmp L x.0
  as_key x t L = find_ext test (λ y. is_eq (cmp y.0 x.0)) (λ y. key x y t) L

  module _ (A B M : List (K × V)) where
    -- an equation of what is found in three lists holds if it does of each key, and if nothing is found
    by_keys : (r : Option V → Option V → Option (K × V) → Option V)
        → ((x : K × V) → value_at cmp M x.0 ≡ r (value_at cmp A x.0) (value_at cmp B x.0) (at cmp B x.0)) → r None None None ≡ None
        → found M ≡ r (found A) (found B) (find test B)
    by_keys r each none = by (find test A) (find test B) (find test M) refl refl refl
      where
        here : (x : K × V) → test x ≡ true → found M ≡ r (found A) (found B) (find test B)
        here x t = rw (as_key x t M, as_key x t A, as_key x t B) (each x)

        by : (a b m : Option (K × V)) → find test A ≡ a → find test B ≡ b → find test M ≡ m → found M ≡ r (found A) (found B) (find test B)
        by (Some x) b m e f g = here x (find_passes test A x e)
        by None (Some y) m e f g = here y (find_passes test B y f)
        by None None (Some z) e f g = here z (find_passes test M z g)
        by None None None e f g = rw (g, e, f) (sym none)

module _ {K V : Type 0} (cmp : K → K → Ordering) (o : IsTotalOrder cmp) where
  pub overlays : (A B M : List (K × V)) → Merge cmp A B M → Overlays cmp A B M
  overlays A B M merge = record {
    all = λ test key. by_keys cmp test key A B M (λ a b _. option_or b a)
        (λ x. value_at-merged cmp o cmp x.0 (key_same o x.0) (key_alike o x.0) A B M merge) refl;
    exact = exact_bytes;
  }

  -- more pairs, of which the last of each key counts
  pub overlays_last : (L J M : List (K × V)) → Last cmp (L ++ J) M → Rising cmp L → Overlays cmp L (reverse J) M
  overlays_last L J M last r = record {
    all = λ test key. by_keys cmp test key L (reverse J) M (λ a b _. option_or b a)
        (λ x. value_at-last_of_more cmp o cmp x.0 (key_same o x.0) (key_alike o x.0) L J M last r) refl;
    exact = exact_bytes;
  }

  displaces : (A B : List (K × V)) → Displaces cmp A B (left cmp A B)
  displaces A B = record {
    each = λ k. value_at-left cmp o cmp k (key_same o k) (key_alike o k) A B;
    all = λ test key. by_keys cmp test key A B (left cmp A B) (λ a _ p. if is_some p then a else None)
        (λ x. value_at-left cmp o cmp x.0 (key_same o x.0) (key_alike o x.0) A B) refl;
  }

  pub displaced_by : {E : Type 0} (A B : List (K × V)) (r : Result (Option (Contents K V)) E)
      → IfOk r (λ rest. IfSome rest (λ s. s.entries ≡ left cmp A B)) → IfOk r (λ rest. IfSome rest (λ s. Displaces cmp A B s.entries))
  displaced_by A B (Ok (Some s)) e = subst (λ L. Displaces cmp A B L) (sym e) (displaces A B)
  displaced_by A B (Ok None) e = e
  displaced_by A B (Err x) e = e

  unless : {X : Type 0} (f : X → V) (b : Option X) (w : Option V) → None ≡ (if is_some b then w else None) → IsSome (option_map f b) → w ≡ None
  unless f (Some x) w e there = sym e
  unless f None w e there = absurd (cc)

  no_common : (A B : List (K × V)) → left cmp A B ≡ [] → NoCommon cmp A B
  no_common A B e =
      let d : Displaces cmp A B [] = subst (λ D. Displaces cmp A B D) e (displaces A B) in
      record {
        each = λ k. unless (λ (p : K × V). p.1) (at cmp B k) (value_at cmp A k) (d.each k);
        all = λ test key. unless (λ (p : K × V). p.1) (find test B) (option_map (λ p. p.1) (find test A)) (d.all test key);
      }

  pub no_common_by : {E : Type 0} (A B : List (K × V)) (r : Result (Option (Contents K V)) E) → IfOk r (λ rest. IsNone rest ↔ (left cmp A B ≡ []))
      → IfOk r (λ rest. IsNone rest → NoCommon cmp A B)
  no_common_by A B (Ok None) e = λ n. no_common A B (e.0 n)
  no_common_by A B (Ok (Some s)) e = λ n. absurd (cc)
  no_common_by A B (Err x) e = e
