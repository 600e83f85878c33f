-- If keys keep their order, what they become ascends.
use Rattle.litemap.proofs.Common.{◌≡◌, List, [], ◌∷◌, sym, ◌∙◌, refl, subst, inl, inr, Ordering, Less, IsTotalOrder, alike_right}
use Rattle.litemap.proofs.Common.{BelowAll, Rising}
use Rattle.litemap_store.specs.Clones.{ClonesCompareEqual, PairsBecame}
use Rattle.litemap_store.specs.Last.{In}
use Rattle.litemap.specs.Conversions.{KeysKeepOrder}

module _ {K L V W : Type 0} (cmp : K → K → Ordering) (new_cmp : L → L → Ordering) (C : K → L → Type 0) (D : V → W → Type 0) where
  BelowAll-became : (p : K × V) (a : L) (before : List (K × V)) (after : List (L × W))
      → ((q : K × V) (b : L) → In q before → C q.0 b → cmp p.0 q.0 ≡ Less → new_cmp a b ≡ Less)
      → PairsBecame C D before after → BelowAll cmp p.0 before → BelowAll new_cmp a after
  BelowAll-became p a [] [] k c b = tt
  BelowAll-became p a [] (r ∷ after) k c b = absurd c
  BelowAll-became p a (q ∷ before) [] k c b = absurd c
  BelowAll-became p a (q ∷ before) (r ∷ after) k c b =
      (k q r.0 (inl refl) c.0.0 b.0, BelowAll-became p a before after (λ s d i. k s d (inr i)) c.1 b.1)

  pub Rising-became : (before : List (K × V)) (after : List (L × W)) → KeysKeepOrder cmp new_cmp C before
      → PairsBecame C D before after → Rising cmp before → Rising new_cmp after
  Rising-became [] [] k c r = tt
  Rising-became [] (q ∷ after) k c r = absurd c
  Rising-became (p ∷ before) [] k c r = absurd c
  Rising-became (p ∷ before) (q ∷ after) k c r = (
    BelowAll-became p q.0 before after (λ s d i. k p s q.0 d (inl refl) (inr i) c.0.0) c.1 r.0,
    Rising-became before after (λ s t a b i j. k s t a b (inr i) (inr j)) c.1 r.1,
  )

-- clones that compare Equal to their originals keep their order, and ascend as these do
module _ {K V : Type 0} {cmp : K → K → Ordering} (o : IsTotalOrder cmp) (C : K → K → Type 0) where
  pub KeysKeepOrder-clones : (list seen : List (K × V)) → list ≡ seen → ClonesCompareEqual cmp C seen → KeysKeepOrder cmp cmp C list
  KeysKeepOrder-clones list seen is equal p q a b i j c d less =
      sym (o.congr p.0 a b (equal p a (subst (In p) is i) c)) ∙ sym (alike_right o q.0 b p.0 (equal q b (subst (In q) is j) d)) ∙ less

  pub Rising-clones : (D : V → V → Type 0) (before seen after : List (K × V)) → before ≡ seen → ClonesCompareEqual cmp C seen → PairsBecame C D before after
      → Rising cmp before → Rising cmp after
  Rising-clones D before seen after is equal = Rising-became cmp cmp C D before after (KeysKeepOrder-clones before seen is equal)
