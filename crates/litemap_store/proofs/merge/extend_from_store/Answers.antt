use Rattle.litemap_store.proofs.Names.{[], ℕ, ◌++◌, ◌<◌, ◌==◌, ◌∙◌, ◌≡◌, ◌≤◌, ◌⊎◌, ap, append-nil, arith, Bool, eqb-true, false, inl, inr, IsOk, IsTotalOrder}
use Rattle.litemap_store.proofs.Names.{IsTrue, length, List, nil_from_length, None, Ok, Option, Ordering, refl, Result, Rises, Rising, rules, sym, true≢false}
use Rattle.litemap_store.specs.{Merges, MergesInto}
use Rattle.litemap_store.specs.declared.no_room.NoRoom.{NoRoom}
use Rattle.litemap_store.proofs.Lists.Joined.{not_above}
use Rattle.litemap_store.proofs.Merging.Joins.{Merge-before, Merge-after, left-before, left-after, not_apart}
use Rattle.litemap_store.proofs.merge.extend_from_store.Goals as goal

-- what a test that failed does not say
denied : {P : Type 0} (r : Bool) → (P → IsTrue r) → r ≡ false → P → ⊥
denied r says not p = true≢false (sym (says p) ∙ not)

-- a list that is not empty
filled : {X : Type 0} (L : List X) (r : Bool) → r ≡ (length L == 0) → r ≡ false → L ≡ [] → ⊥
filled L r is not e = true≢false (sym (rw e at is) ∙ not)

there_is_room : {a b m n : ℕ} → a ≤ m → b ≤ n → (m < a) ⊎ (n < b) → ⊥
there_is_room r s (inl full) = omega arith
there_is_room r s (inr full) = omega arith

module _ {K V S : Type 0} (cmp : K → K → Ordering) (o : IsTotalOrder cmp) (pairs : S → List (K × V)) (room : S → ℕ) (other before after : S) where
  -- nothing is displaced if all other keys are above
  joined : Rising cmp (pairs before) → Rising cmp (pairs other) → Rising cmp (pairs before ++ pairs other) → pairs after ≡ pairs before ++ pairs other
      → Merges cmp pairs other before after (Ok None)
  joined r s up is = record
      { merged = rw is (Merge-after cmp o _ _ r s up); none = (λ _. left-after cmp o _ _ r s up, λ _. refl); left = tt; unchanged = tt; back = tt }

  -- neither is empty
  of_both : (pairs other ≡ [] → ⊥) → (pairs before ≡ [] → ⊥) → (r : Result (Option S) (NoRoom S)) → Merges cmp pairs other before after r
      → (Rises cmp (pairs before) (pairs other) → length (pairs other) ≤ room before → IsOk r)
      → (Rises cmp (pairs other) (pairs before) → length (pairs other) ≤ room before → length (pairs before) ≤ room other → IsOk r)
      → MergesInto cmp pairs room other before after r
  of_both theirs own r m above below =
      record {
        merges = m;
        succeeds = λ e. absurd (elim e [ inl k ↦ own k | inr k ↦ theirs k ]);
        all_above = above;
        all_below = below;
        unchanged = λ e. absurd
            (theirs e);
        taken = λ e n. absurd (own e);
      }

pub returns-then-lm_is_empty-clause-merged : goal.returns-then-lm_is_empty-clause-merged
returns-then-lm_is_empty-clause-merged g c =
    let none : g.S.Store.pairs c.args.other ≡ [] = nil_from_length _ (eqb-true _ 0 (sym c.lm_is_empty.ensures ∙ c.if-lm_is_empty.true)) in
    let merges = joined g.K.Ord.cmp g.met.K.Ord.total g.S.Store.pairs g.S.Store.room c.args.other c.args.store.now _ c.requires.store c.requires.other
    (rw (none, append-nil) c.requires.store) (rw (none, append-nil) refl) in
    record { merges = merges; succeeds = λ e. refl; all_above = λ h r. refl; all_below = λ h r s. refl; unchanged = λ e. refl; taken = λ e n. absurd (n none) }

pub returns-then-lm_is_empty-2-clause-merged : goal.returns-then-lm_is_empty-2-clause-merged
returns-then-lm_is_empty-2-clause-merged g c =
    let none : g.S.Store.pairs c.args.store.now ≡ [] = nil_from_length _ (eqb-true _ 0 (sym c.lm_is_empty-2.ensures ∙ c.if-lm_is_empty-2.true)) in
    let merges = joined g.K.Ord.cmp g.met.K.Ord.total g.S.Store.pairs g.S.Store.room c.args.other c.args.store.now _ c.requires.store c.requires.other
    (rw none c.requires.other) (rw none refl) in
    record {
      merges = merges;
      succeeds = λ e. refl;
      all_above = λ h r. refl;
      all_below = λ h r s. refl;
      unchanged = λ e. absurd
          (filled _ _ c.lm_is_empty.ensures c.if-lm_is_empty.false e);
      taken = λ e n. refl;
    }

pub returns-then-lies_below-clause-merged : goal.returns-then-lies_below-clause-merged
returns-then-lies_below-clause-merged g c =
    let all : g.S.Store.pairs c.lm_extend_end.new.self ≡ g.S.Store.pairs c.args.store.now ++ g.S.Store.pairs c.args.other = search rules in
    of_both g.K.Ord.cmp g.met.K.Ord.total g.S.Store.pairs g.S.Store.room c.args.other c.args.store.now _
    (filled _ _ c.lm_is_empty.ensures c.if-lm_is_empty.false) (filled _ _ c.lm_is_empty-2.ensures c.if-lm_is_empty-2.false) (Ok None)
    (joined g.K.Ord.cmp g.met.K.Ord.total g.S.Store.pairs g.S.Store.room c.args.other c.args.store.now _ c.requires.store c.requires.other
    (c.lies_below.ensures.below.0 c.if-lies_below.true) all)
    (λ h r. refl) (λ h r s. refl)

pub returns-in-Ok-clause-merged : goal.returns-in-Ok-clause-merged
returns-in-Ok-clause-merged g c =
    let up = c.lies_below-2.ensures.below.0 c.if-lies_below-2.true in
    of_both g.K.Ord.cmp g.met.K.Ord.total g.S.Store.pairs g.S.Store.room c.args.other c.args.store.now _
    (filled _ _ c.lm_is_empty.ensures c.if-lm_is_empty.false) (filled _ _ c.lm_is_empty-2.ensures c.if-lm_is_empty-2.false) (Ok None)
    (record {
      merged = rw c.in-Ok.ensures.ok (Merge-before g.K.Ord.cmp g.met.K.Ord.total _ _ c.requires.store c.requires.other up);
      none =
          (λ _. left-before g.K.Ord.cmp g.met.K.Ord.total _ _ c.requires.store c.requires.other up, λ _. refl);
      left = tt;
      unchanged = tt;
      back = tt;
    })
    (λ h r. refl) (λ h r s. refl)

pub returns-in-Err-extend_start-clause-merged : goal.returns-in-Err-extend_start-clause-merged
returns-in-Err-extend_start-clause-merged g c =
    of_both g.K.Ord.cmp g.met.K.Ord.total g.S.Store.pairs g.S.Store.room c.args.other c.args.store.now _
    (filled _ _ c.lm_is_empty.ensures c.if-lm_is_empty.false) (filled _ _ c.lm_is_empty-2.ensures c.if-lm_is_empty-2.false) _
    (record {
      merged = search rules;
      none = search rules;
      left = search rules;
      unchanged = search rules;
      back = ap
          (λ e. g.S.Store.pairs e.back) c.refuse-in-Err-extend_start.ensures.error ∙ c.in-Err-extend_start.ensures.back;
    })
    (λ h r. absurd (not_above g.K.Ord.cmp _ _ _ c.requires.store c.lies_below.ensures.below.1 c.if-lies_below.false h))
    (λ h r s. absurd (there_is_room r s c.in-Err-extend_start.ensures.full))

pub returns-clause-merged : goal.returns-clause-merged
returns-clause-merged g c =
    of_both g.K.Ord.cmp g.met.K.Ord.total g.S.Store.pairs g.S.Store.room c.args.other c.args.store.now _
    (filled _ _ c.lm_is_empty.ensures c.if-lm_is_empty.false) (filled _ _ c.lm_is_empty-2.ensures c.if-lm_is_empty-2.false) _
    c.merge_mixed.ensures.merges
    (λ h r. absurd (not_above g.K.Ord.cmp _ _ _ c.requires.store c.lies_below.ensures.below.1 c.if-lies_below.false h))
    (λ h r s. absurd (not_above g.K.Ord.cmp _ _ _ c.requires.other c.lies_below-2.ensures.below.1 c.if-lies_below-2.false h))

pub returns-clause-apart : goal.returns-clause-apart
returns-clause-apart g c =
    λ apart. absurd (not_apart g.K.Ord.cmp g.met.K.Ord.total _ _ c.requires.store c.requires.other (denied _ c.lies_below.ensures.below.1 c.if-lies_below.false)
    (denied _ c.lies_below-2.ensures.below.1 c.if-lies_below-2.false) apart)
