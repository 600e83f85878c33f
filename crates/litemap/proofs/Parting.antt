-- What a closure makes of a list of pairs that it parts.
--     Parted-goes, Parted-stays, Parted-all      the steps of a loop over the pairs, and its end
--     Rising-parted      both parts of an ascending list ascend;  filter-parted      if the closure returns a test
use Rattle.litemap.proofs.Common.{◌≡◌, List, [], ◌∷◌, ◌++◌, Bool, true, false, refl, ap, ◌∙◌, subst, sym, Ordering, Bor, Mut, append_assoc, append-nil, filter}
use Rattle.litemap.proofs.Common.{not, BelowAll, Rising}
use Rattle.std.specs.Prelude.{if◌then◌else◌}
use Rattle.litemap_store.specs.Retain.{CalledOnPair, Tests}
use Rattle.litemap.specs.Parted.{Parted}

module _ {F K V : Type 0} (g : Mut F (Bor K × (Bor V × Unit {0})) Bool) where
  -- f₀ was called on the pairs of L₀ before those of L, and is then f: A stay of them, and B go
  abbrev pub SoFar : F → List (K × V) → F → List (K × V) → List (K × V) → List (K × V) → Type 0
  SoFar f₀ L₀ f L A B = (M N : List (K × V)) → Parted g f L M N → Parted g f₀ L₀ (A ++ M) (B ++ N)

  module _ (f₀ : F) (L₀ : List (K × V)) (f : F) (p : K × V) (L A B : List (K × V)) (f' : F) (so_far : SoFar f₀ L₀ f (p ∷ L) A B) where
    pub Parted-goes : CalledOnPair g f p true f' → SoFar f₀ L₀ f' L A (B ++ p ∷ [])
    Parted-goes called M N parted =
        subst (Parted g f₀ L₀ (A ++ M)) (sym (append_assoc B (p ∷ []) N)) (so_far M (p ∷ N) (true, f', called, M, N, parted, refl, refl))

    pub Parted-stays : CalledOnPair g f p false f' → SoFar f₀ L₀ f' L (A ++ p ∷ []) B
    Parted-stays called M N parted =
        subst (λ C. Parted g f₀ L₀ C (B ++ N)) (sym (append_assoc A (p ∷ []) M)) (so_far (p ∷ M) N (false, f', called, M, N, parted, refl, refl))

  pub Parted-all : (f₀ : F) (L₀ : List (K × V)) (f : F) (A B : List (K × V)) → SoFar f₀ L₀ f [] A B → Parted g f₀ L₀ A B
  Parted-all f₀ L₀ f A B so_far =
      subst (λ C. Parted g f₀ L₀ C B) (append-nil A) (subst (Parted g f₀ L₀ (A ++ [])) (append-nil B) (so_far [] [] (refl, refl)))

  pub filter-parted : (f : F) (test : K × V → Bool) → Tests g f test → (L A B : List (K × V)) → Parted g f L A B
      → (A ≡ filter (λ p. not (test p)) L) × (B ≡ filter test L)
  filter-parted f test s [] A B h = h
  filter-parted f test s (p ∷ L) A B (b, f', c, M, N, h, stays, goes) =
      let a = s p b f' c in
      let rest = filter-parted f test s L M N (subst (λ x. Parted g x L M N) a.1 h) in
      (elim b as (λ x. x ≡ test p → A ≡ (if x then M else p ∷ M) → B ≡ (if x then p ∷ N else N) → (A ≡ filter (λ q. not (test q)) (p ∷ L))
      × (B ≡ filter test (p ∷ L))) [
        | true ↦ λ is e t. rw (sym is) (e ∙ rest.0, t ∙ ap (λ X. p ∷ X) rest.1)
        | false ↦ λ is e t. rw (sym is) (e ∙ ap (λ X. p ∷ X) rest.0, t ∙ rest.1)
      ]) a.0 stays goes

module _ {F K V : Type 0} (cmp : K → K → Ordering) (g : Mut F (Bor K × (Bor V × Unit {0})) Bool) where
  each-parted : (k : K) (f : F) (L A B : List (K × V)) → Parted g f L A B → BelowAll cmp k L → BelowAll cmp k A × BelowAll cmp k B
  each-parted k f [] A B h a = (subst (BelowAll cmp k) (sym h.0) tt, subst (BelowAll cmp k) (sym h.1) tt)
  each-parted k f (p ∷ L) A B (b, f', c, M, N, h, stays, goes) a =
      let r = each-parted k f' L M N h a.1 in
      (elim b as (λ x. A ≡ (if x then M else p ∷ M) → B ≡ (if x then p ∷ N else N) → BelowAll cmp k A × BelowAll cmp k B) [
        | true ↦ λ e t. (subst (BelowAll cmp k) (sym e) r.0, subst (BelowAll cmp k) (sym t) (a.0, r.1))
        | false ↦ λ e t. (subst (BelowAll cmp k) (sym e) (a.0, r.0), subst (BelowAll cmp k) (sym t) r.1)
      ]) stays goes

  pub Rising-parted : (f : F) (L A B : List (K × V)) → Parted g f L A B → Rising cmp L → Rising cmp A × Rising cmp B
  Rising-parted f [] A B h r = (subst (Rising cmp) (sym h.0) tt, subst (Rising cmp) (sym h.1) tt)
  Rising-parted f (p ∷ L) A B (b, f', c, M, N, h, stays, goes) r =
      let each = each-parted p.0 f' L M N h r.0 in
      let rest = Rising-parted f' L M N h r.1 in
      (elim b as (λ x. A ≡ (if x then M else p ∷ M) → B ≡ (if x then p ∷ N else N) → Rising cmp A × Rising cmp B) [
        | true ↦ λ e t. (subst (Rising cmp) (sym e) rest.0, subst (Rising cmp) (sym t) (each.1, rest.1))
        | false ↦ λ e t. (subst (Rising cmp) (sym e) (each.0, rest.0), subst (Rising cmp) (sym t) rest.1)
      ]) stays goes
