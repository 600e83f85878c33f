-- One pair after the other is merged.
--     MergedUpTo, MergedUpTo-none, MergedUpTo-more, MergedUpTo-all      what is merged of B
use Rattle.litemap_store.proofs.Names.{[], ◌*◌, ◌++◌, ◌+◌, ◌∙◌, ◌∷◌, ◌≡◌, ◌≤◌, ap, append-nil, append_assoc, arith, at, cons_option, Count, digits, digits-mono}
use Rattle.litemap_store.proofs.Names.{inl, IsTotalOrder, left, length, length-append, List, Merge, None, NoneEqual, Option, option_map, Ordering, put, refl}
use Rattle.litemap_store.proofs.Names.{RisesByAtMost, Rising, Some, subst, suc, suc-mul, sym, zero-mul}
use Rattle.litemap_store.proofs.Stores.Counting.{in_turn, not_asked}
use Rattle.litemap_store.proofs.Last.KeepLast.{rising_across}
use Rattle.litemap_store.proofs.Callers.Lookups.{length-put_absent, length-put_present}
use Rattle.litemap_store.proofs.Merging.Joins.{Merge-none, none_below}
use Rattle.litemap_store.proofs.Merging.Merges.{Merge-put, left-put}

module _ {K V : Type 0} (cmp : K → K → Ordering) (o : IsTotalOrder cmp) where
  length-put : (M : List (K × V)) (k : K) (v : V) → Rising cmp M → length (put cmp M k v) ≤ length M + 1
  length-put M k v r = by (at cmp M k) refl
    where
      by : (a : Option (K × V)) → at cmp M k ≡ a → length (put cmp M k v) ≤ length M + 1
      by None e = let h = length-put_absent o M k r e v in omega arith
      by (Some q) e = let h = length-put_present o M k r (rw e refl) v in omega arith

  -- Y is merged of B, and is followed there by the pairs that are still to come
  pub record MergedUpTo (A B Y Z M rest : List (K × V)) (before now : Count) : Type 0 where
    pub given : Y ++ Z ≡ B
    pub merged : Merge cmp A Y M
    pub left_over : rest ≡ left cmp A Y
    pub long : length M ≤ length A + length Y
    pub cost : RisesByAtMost (length Y * digits (length A + length B)) before now

  pub MergedUpTo-none : (A B Z rest : List (K × V)) (c : Count) → Rising cmp A → Z ≡ B → rest ≡ [] → MergedUpTo A B [] Z A rest c c
  MergedUpTo-none A B Z rest c r e f = record {
    given = e;
    merged = Merge-none cmp A r;
    left_over = f;
    long = omega arith;
    cost = rw zero-mul (not_asked c);
  }

  pub MergedUpTo-more : (A B Y Z M rest : List (K × V)) (before now after : Count) (b : K × V) (Z' M' rest' : List (K × V)) → Rising cmp B
      → MergedUpTo A B Y Z M rest before now
      → Z ≡ b ∷ Z' → M' ≡ put cmp M b.0 b.1 → rest' ≡ rest ++ cons_option (option_map (λ (p : K × V). let q : K × V = (b.0, p.1) in q) (at cmp M b.0)) []
      → RisesByAtMost (digits (length M)) now after
      → MergedUpTo A B (Y ++ b ∷ []) Z' M' rest' before after
  MergedUpTo-more A B Y Z M rest before now after b Z' M' rest' r h z m l c =
      let is : Y ++ b ∷ Z' ≡ B = ap (λ W. Y ++ W) (sym z) ∙ h.given in
      let new : NoneEqual cmp b.0 Y = none_below cmp o b.0 Y (λ x i. rising_across cmp Y (b ∷ Z') (subst (Rising cmp) (sym is) r) x b i (inl refl)) in
      let longer : length (Y ++ b ∷ []) ≡ length Y + 1 = length-append Y (b ∷ []) in
      let all : length Y + length (b ∷ Z') ≡ length B = sym (length-append Y (b ∷ Z')) ∙ ap length is in
      let d = digits (length A + length B) in
      let long = h.long in
      record {
        given = append_assoc Y (b ∷ []) Z' ∙ is;
        merged = rw m (Merge-put cmp o A Y M h.merged b new);
        left_over = l ∙ ap (λ W. W ++ cons_option (option_map (λ (p : K × V). let q : K × V = (b.0, p.1) in q) (at cmp M b.0)) []) h.left_over
            ∙ sym (left-put cmp o A Y M h.merged b new);
        long = (let k = length-put M b.0 b.1 h.merged.rising in let e : length M' ≡ length (put cmp M b.0 b.1) = ap length m in omega arith);
        cost = (
            let low : digits (length M) ≤ d = digits-mono (length M) (length A + length B) (omega arith) in
            let one : suc (length Y) * d ≡ length Y * d + d = suc-mul (length Y) d in
            let next : length (Y ++ b ∷ []) ≡ suc (length Y) = omega arith in
            let two : length (Y ++ b ∷ []) * d ≡ suc (length Y) * d = ap (λ n. n * d) next in
            in_turn (length Y * d) (digits (length M)) (length (Y ++ b ∷ []) * d) (omega arith) h.cost c
            );
      }

  pub MergedUpTo-all : (A B Y Z M rest : List (K × V)) (before now : Count) → MergedUpTo A B Y Z M rest before now → Z ≡ []
      → Merge cmp A B M × ((rest ≡ left cmp A B) × RisesByAtMost (length B * digits (length A + length B)) before now)
  MergedUpTo-all A B Y Z M rest before now h z =
      let all : Y ≡ B = sym (append-nil Y) ∙ ap (λ W. Y ++ W) (sym z) ∙ h.given in (
        subst (λ W. Merge cmp A W M) all h.merged,
        (subst (λ W. rest ≡ left cmp A W) all h.left_over, subst (λ W. RisesByAtMost (length W * digits (length A + length B)) before now) all h.cost),
      )
