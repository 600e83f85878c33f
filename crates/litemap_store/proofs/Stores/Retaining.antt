-- What a closure keeps of a list of pairs.
--     Kept-none, Kept-more      from one pair to the next;  Moved, Moved_if      what a pair that moves to the front leaves
--     KeptSoFar-takes, -yes, -no, Kept-all      the steps of a loop that brings pairs to the front;  Rising-from_Kept      what is kept of an ascending list
-- ascends
use Rattle.litemap_store.proofs.Names.{[], ℕ, ◌++◌, ◌+◌, ◌<◌, ◌∙◌, ◌∷◌, ◌≡◌, ◌≤◌, AllByRecursion, ap, append-nil, append_assoc, arith, Bool, Bor}
use Rattle.litemap_store.proofs.Names.{CallableOnEach, CalledOnPair, cases_lt, cond, drop, drop_all, false, get_or, get_or_from_slice_get, inl, inr}
use Rattle.litemap_store.proofs.Names.{items_where_true, Kept, KeptSoFar, length, Less, List, Mut, Ordering, refl, Rising, slice_get, slice_get_within}
use Rattle.litemap_store.proofs.Names.{slice_set, Some, subst, suc, swap, swap_is, sym, take, take-set-le, take_more, TakesKeyValue, true, true≢false}
use Rattle.litemap_store.proofs.Last.KeepLast.{drop-swap, take-swap}
use Rattle.litemap_store.proofs.Lists.Places.{drop_at}

module _ {X : Type 0} where
  -- L' has what is after index i of L and before index k, and x there, if it stays
  pub record Moved (L L' : List X) (k i : ℕ) (x : X) (stays : Bool) : Type 0 where
    pub after : drop (i + 1) L' ≡ drop (i + 1) L
    pub before : take k L' ≡ take k L
    pub front : stays ≡ true → take (k + 1) L' ≡ take k L ++ x ∷ []

  -- a swap with the element at index i, or nothing if that is in its place, or is dropped
  pub Moved_if : (L L' : List X) (k i : ℕ) (x : X) (stays moves : Bool) → k ≤ i → slice_get L i ≡ Some x
      → (stays ≡ true → k < i → moves ≡ true) → L' ≡ cond moves (swap L k i) L → Moved L L' k i x stays
  Moved_if L L' k i x stays true u at goes is = let h = slice_get_within L i x at in record {
    after = ap (drop (i + 1)) is ∙ drop-swap L k i x u h;
    before = ap (take k) (is ∙ sym (swap_is L k i x (omega arith) h)) ∙ take-set-le k (slice_set L k (get_or L i x)) i (get_or L k x) u
        ∙ take-set-le k L k (get_or L i x) (omega arith);
    front = λ _. ap (take (k + 1)) is ∙ take-swap L k i x u h ∙ ap (λ y. take k L ++ y ∷ []) (get_or_from_slice_get L i x x at);
  }
  Moved_if L L' k i x stays false u at goes is = let h = slice_get_within L i x at in record {
    after = ap (drop (i + 1)) is;
    before = ap (take k) is;
    front = λ stay.
        let e : k ≡ i = elim (cases_lt k i) [ inl lt ↦ absurd (true≢false (sym (goes stay lt))) | inr not ↦ (omega arith) ] in
        ap (take (k + 1)) is ∙ take_more L k x (omega arith) ∙ ap (λ y. take k L ++ y ∷ []) (ap (λ n. get_or L n x) e ∙ get_or_from_slice_get L i x x at);
  }

module _ {F K V : Type 0} (g : Mut F (Bor K × (Bor V × Unit {0})) Bool) where
  -- of no pairs none is kept
  pub Kept-none : (f : F) → Kept g f [] []
  Kept-none f = ([], f, refl, refl, refl)

  -- the result for the first pair, and then what is kept of the others
  pub Kept-more : (f : F) (p : K × V) (b : Bool) (f' : F) (L M : List (K × V)) → CalledOnPair g f p b f' → Kept g f' L M → Kept g f (p ∷ L) (cond b (p ∷ M) M)
  Kept-more f p true f' L M c k = (true ∷ k.0, k.1, ap suc k.2, (f', c, k.3), ap (λ N. p ∷ N) k.4)
  Kept-more f p false f' L M c k = (false ∷ k.0, k.1, ap suc k.2, (f', c, k.3), k.4)

  -- f may be called on the first pair, and then on the others
  pub CallableOnEach-first : (f : F) (p : K × V) (L : List (K × V)) → CallableOnEach g f (p ∷ L) → TakesKeyValue g f p
  CallableOnEach-first f p L c = c.at [] L f p refl refl

  pub CallableOnEach-rest : (f : F) (p : K × V) (b : Bool) (f' : F) (L : List (K × V)) → CalledOnPair g f p b f' → CallableOnEach g f (p ∷ L)
      → CallableOnEach g f' L
  CallableOnEach-rest f p b f' L called c =
      record { at = λ before after s q is folds. c.at (p ∷ before) after s q (ap (λ N. p ∷ N) is) (f', (b, called), folds) }

  module _ (f₀ : F) (L₀ : List (K × V)) where
    module _ (f : F) (L : List (K × V)) (k i : ℕ) (p : K × V) (now : KeptSoFar g f₀ L₀ f L k i) (at : slice_get L i ≡ Some p) where
      here : drop i L ≡ p ∷ drop (i + 1) L
      here = drop_at L i p at

      pub KeptSoFar-takes : TakesKeyValue g f p
      KeptSoFar-takes = CallableOnEach-first f p (drop (i + 1) L) (subst (CallableOnEach g f) here now.callable)

      -- p is moved to index k, if it stays
      module _ (b : Bool) (f' : F) (called : CalledOnPair g f p b f') (L' : List (K × V)) (moved : Moved L L' k i p b) where
        callable' : CallableOnEach g f' (drop (i + 1) L')
        callable' = subst (CallableOnEach g f') (sym moved.after)
            (CallableOnEach-rest f p b f' (drop (i + 1) L) called (subst (CallableOnEach g f) here now.callable))

        so_far' : (M : List (K × V)) → Kept g f' (drop (i + 1) L') M → Kept g f₀ L₀ (take k L ++ cond b (p ∷ M) M)
        so_far' M kept = now.so_far (cond b (p ∷ M) M)
            (subst (λ N. Kept g f N (cond b (p ∷ M) M)) (sym here) (Kept-more f p b f' (drop (i + 1) L) M called (subst (λ N. Kept g f' N M) moved.after kept)))

        pub KeptSoFar-yes : b ≡ true → KeptSoFar g f₀ L₀ f' L' (k + 1) (i + 1)
        KeptSoFar-yes kept_it = record {
          within = (let w = now.within in omega arith);
          callable = callable';
          so_far = λ M kept. subst (Kept g f₀ L₀)
              (ap (λ c. take k L ++ cond c (p ∷ M) M) kept_it ∙ sym (append_assoc (take k L) (p ∷ []) M) ∙ ap (λ N. N ++ M) (sym (moved.front kept_it)))
              (so_far' M kept);
        }

        pub KeptSoFar-no : b ≡ false → KeptSoFar g f₀ L₀ f' L' k (i + 1)
        KeptSoFar-no left_out = record {
          within = (let w = now.within in omega arith);
          callable = callable';
          so_far = λ M kept. subst (Kept g f₀ L₀)
              (ap (λ c. take k L ++ cond c (p ∷ M) M) left_out ∙ ap (λ N. N ++ M) (sym moved.before))
              (so_far' M kept);
        }

    pub Kept-all : (f : F) (L : List (K × V)) (k i : ℕ) → KeptSoFar g f₀ L₀ f L k i → length L ≤ i → Kept g f₀ L₀ (take k L)
    Kept-all f L k i now all =
        let none : drop i L ≡ [] = drop_all i L all in
        subst (Kept g f₀ L₀) (append-nil (take k L)) (now.so_far [] (subst (λ N. Kept g f N []) (sym none) (Kept-none f)))

each-picked : {X : Type 0} (P : X → Type 0) (bs : List Bool) (L : List X) → AllByRecursion P L → AllByRecursion P (items_where_true bs L)
each-picked P [] L h = tt
each-picked P (b ∷ bs) [] h = tt
each-picked P (true ∷ bs) (x ∷ L) h = (h.0, each-picked P bs L h.1)
each-picked P (false ∷ bs) (x ∷ L) h = each-picked P bs L h.1

module _ {K V : Type 0} (cmp : K → K → Ordering) where
  Rising-picked : (bs : List Bool) (L : List (K × V)) → Rising cmp L → Rising cmp (items_where_true bs L)
  Rising-picked [] L h = tt
  Rising-picked (b ∷ bs) [] h = tt
  Rising-picked (true ∷ bs) (p ∷ L) h = (each-picked (λ (q : K × V). cmp p.0 q.0 ≡ Less) bs L h.0, Rising-picked bs L h.1)
  Rising-picked (false ∷ bs) (p ∷ L) h = Rising-picked bs L h.1

  -- what is kept of an ascending list ascends
  pub Rising-from_Kept : {F : Type 0} (g : Mut F (Bor K × (Bor V × Unit {0})) Bool) (f : F) (L M : List (K × V)) → Kept g f L M → Rising cmp L → Rising cmp M
  Rising-from_Kept g f L M k h = subst (Rising cmp) (sym k.4) (Rising-picked k.0 L h)
