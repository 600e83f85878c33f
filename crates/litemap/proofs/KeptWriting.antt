-- What a closure that may write values keeps of a list of pairs.
--     KeptWritten-yes, -no, -all      the steps of a loop that brings pairs to the front, and its end;  Rising-kept_written      what is kept of an ascending
-- list ascends
use Rattle.litemap.proofs.Common.{◌≡◌, ℕ, zero, suc, ◌+◌, ◌≤◌, List, [], ◌∷◌, ◌++◌, take, drop, slice_get, slice_set, Some, None, Bool, true, false, cond, refl}
use Rattle.litemap.proofs.Common.{ap, ◌∙◌, subst, sym, Ordering, Less, Bor, MutBor, Mut, filter, map, length, append_assoc, append-nil, drop_all, option_map}
use Rattle.litemap.proofs.Common.{option_map_or, BelowAll, Rising, set_value, set_value-suc, drop_at}
use Rattle.litemap_store.proofs.Names.{swap, take-set-le}
use Rattle.litemap_store.proofs.Stores.Retaining.{Moved, Moved_if}
use Rattle.litemap.specs.KeptWritten.{KeptWritten, LeavesPair, WritesAndTests}
use Rattle.litemap.proofs.Writing.{drop-written}

module _ {K V : Type 0} where
  get-written : (L : List (K × V)) (i : ℕ) (p : K × V) (v : V) → slice_get L i ≡ Some p → slice_get (set_value L i v) i ≡ Some (p.0, v)
  get-written [] zero p v e = absurd (cc)
  get-written [] (suc i) p v e = absurd (cc)
  get-written (q ∷ L) zero p v e = ap (option_map (λ (x : K × V). let r : K × V = (x.0, v) in r)) e
  get-written (q ∷ L) (suc i) p v e = ap (λ M. slice_get M (suc i)) (set_value-suc q L i v) ∙ get-written L i p v e

  take-before : (L : List (K × V)) (k i : ℕ) (v : V) → k ≤ i → take k (set_value L i v) ≡ take k L
  take-before L k i v le =
      elim (slice_get L i) as
      (λ o. take k (option_map_or (λ p. slice_set L i (p.0, v)) o L) ≡ take k L) [ None ↦ refl | Some p ↦ take-set-le k L i (p.0, v) le ]

module _ {F K V : Type 0} (g : Mut F (Bor K × (MutBor V × Unit {0})) (Bool × (MutBor V × Unit {0}))) (f₀ : F) (L₀ : List (K × V)) where
  -- f was called on the first i pairs, and the first k are those kept
  abbrev pub SoFar : F → List (K × V) → ℕ → ℕ → Type 0
  SoFar f L k i = (M : List (K × V)) → KeptWritten g f (drop i L) M → KeptWritten g f₀ L₀ (take k L ++ M)

  -- f leaves w as the value of the pair p at index i, and that pair is swapped to index k
  module _ (f : F) (L : List (K × V)) (k i : ℕ) (p : K × V) (w : V) (b : Bool) (f' : F) (called : LeavesPair g f p b f' (p.0, w)) (L' : List (K × V))
      (swapped : L' ≡ swap (set_value L i w) k i) (le : k ≤ i) (there : slice_get L i ≡ Some p) (so_far : SoFar f L k i) where
    q : K × V
    q = (p.0, w)

    moved : Moved (set_value L i w) L' k i (p.0, w) b
    moved = Moved_if (set_value L i w) L' k i (p.0, w) b true le (get-written L i p w there) (λ _ _. refl) swapped

    next : (M : List (K × V)) → KeptWritten g f' (drop (i + 1) L') M → KeptWritten g f₀ L₀ (take k L ++ cond b ((p.0, w) ∷ M) M)
    next M kept =
        so_far (cond b ((p.0, w) ∷ M) M) (subst (λ N. KeptWritten g f N (cond b ((p.0, w) ∷ M) M)) (sym (drop_at L i p there))
        (b, f', (p.0, w), called, M, subst (λ N. KeptWritten g f' N M) (moved.after ∙ drop-written L i w) kept, refl))

    pub KeptWritten-after : drop (i + 1) L' ≡ drop (i + 1) L
    KeptWritten-after = moved.after ∙ drop-written L i w

    pub KeptWritten-yes : b ≡ true → SoFar f' L' (k + 1) (i + 1)
    KeptWritten-yes is = λ M kept.
        subst (KeptWritten g f₀ L₀)
        (ap (λ c. take k L ++ cond c ((p.0, w) ∷ M) M) is ∙ sym (append_assoc (take k L) ((p.0, w) ∷ []) M)
        ∙ ap (λ N. (N ++ (p.0, w) ∷ []) ++ M) (sym (take-before L k i w le)) ∙ ap (λ N. N ++ M) (sym (moved.front is)))
        (next M kept)

    pub KeptWritten-no : b ≡ false → SoFar f' L' k (i + 1)
    KeptWritten-no is = λ M kept.
        subst (KeptWritten g f₀ L₀)
        (ap (λ c. take k L ++ cond c ((p.0, w) ∷ M) M) is ∙ ap (λ N. N ++ M) (sym (take-before L k i w le) ∙ sym moved.before))
        (next M kept)

  pub KeptWritten-all : (f : F) (L : List (K × V)) (k i : ℕ) → length L ≤ i → SoFar f L k i → KeptWritten g f₀ L₀ (take k L)
  KeptWritten-all f L k i h so_far =
      subst (KeptWritten g f₀ L₀) (append-nil (take k L)) (so_far [] (subst (λ N. KeptWritten g f N []) (sym (drop_all i L h)) refl))

module _ {F K V : Type 0} (cmp : K → K → Ordering) (g : Mut F (Bor K × (MutBor V × Unit {0})) (Bool × (MutBor V × Unit {0}))) where
  pub each-kept : (k : K) (f : F) (L M : List (K × V)) → KeptWritten g f L M → BelowAll cmp k L → BelowAll cmp k M
  each-kept k f [] M h a = subst (BelowAll cmp k) (sym h) tt
  each-kept k f (p ∷ L) M (b, f', q, c, N, h, is) a =
      (elim b as (λ x. M ≡ cond x (q ∷ N) N → BelowAll cmp k M) [
        | true ↦ λ e. subst (BelowAll cmp k) (sym e) (subst (λ x. cmp k x ≡ Less) (ap (λ x. x.0) (sym c.leaves)) a.0, each-kept k f' L N h a.1)
        | false ↦ λ e. subst (BelowAll cmp k) (sym e) (each-kept k f' L N h a.1)
      ]) is

  pub Rising-kept_written : (f : F) (L M : List (K × V)) → KeptWritten g f L M → Rising cmp L → Rising cmp M
  Rising-kept_written f [] M h r = subst (Rising cmp) (sym h) tt
  Rising-kept_written f (p ∷ L) M (b, f', q, c, N, h, is) r =
      (elim b as (λ x. M ≡ cond x (q ∷ N) N → Rising cmp M) [
        | true ↦ λ e. subst (Rising cmp) (sym e)
            (subst (λ x. BelowAll cmp x N) (ap (λ x. x.0) (sym c.leaves)) (each-kept p.0 f' L N h r.0), Rising-kept_written f' L N h r.1)
        | false ↦ λ e. subst (Rising cmp) (sym e) (Rising-kept_written f' L N h r.1)
      ]) is

module _ {F K V : Type 0} (g : Mut F (Bor K × (MutBor V × Unit {0})) (Bool × (MutBor V × Unit {0}))) (write : K → V → V) (test : K → V → Bool) where
  abbrev new : K × V → K × V
  new p = (p.0, write p.0 p.1)

  new-cond : (b : Bool) (p : K × V) (L : List (K × V)) → cond b (new p ∷ map new L) (map new L) ≡ map new (cond b (p ∷ L) L)
  new-cond true p L = refl
  new-cond false p L = refl

  pub map-kept_written : (f : F) → WritesAndTests g f write test → (L M : List (K × V)) → KeptWritten g f L M
      → M ≡ map (λ p. (p.0, write p.0 p.1)) (filter (λ p. test p.0 p.1) L)
  map-kept_written f s [] M h = h
  map-kept_written f s (p ∷ L) M (b, f', q, c, N, h, is) =
      let a = s p q b f' c in
      let rest : N ≡ map new (filter (λ p. test p.0 p.1) L) = map-kept_written f s L N (subst (λ x. KeptWritten g x L N) a.2 h) in
      is ∙ (λ i. cond (a.1 i) (a.0 i ∷ rest i) (rest i)) ∙ new-cond (test p.0 p.1) p (filter (λ p. test p.0 p.1) L)
