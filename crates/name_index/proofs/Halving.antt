-- A search that halves the indices of pairs: what it knows of them, and how often it compared.
--     halved_start      at first;  halved_less, halved_greater, halved_equal, halved_asked      after a comparison with the middle one
--     halved_end      if no index is left
use Rattle.std.proofs.Common.{◌≡◌, ℕ, ◌+◌, ◌-◌, ◌/◌, ◌<◌, ◌≤◌, List, length, Ok, Err, refl, ◌∙◌, arith, Ordering, Less, Equal, Greater}
use Rattle.litemap_store.specs.Counts.{RisesByAtMost, digits, digits-halved}
use Rattle.litemap_store.specs.Search.{Ascends, FindsEqual}
use Rattle.litemap_store.specs.declared.count.Count.{Count}
use Rattle.litemap_store.proofs.Search.Halving.{Narrowed, Narrowed-whole, Narrowed-less, Narrowed-greater, FindsEqual-here, FindsEqual-nowhere}
use Rattle.name_index.specs.{IsKeyAt}

module _ (pairs : List (List ℕ × List ℕ)) (order : List ℕ → Ordering) where
  -- the order ascends over the pairs, those before the indices that are left are less, and those after them greater
  pub record Halved (low high : ℕ) (old new : Count) : Type 0 where
    pub ascends : Ascends order pairs
    pub ordered : low ≤ high
    pub within : high ≤ length pairs
    pub narrowed : Narrowed order pairs low high
    pub same : new.name ≡ old.name
    pub not_lowered : (old.total ≤ new.total) × (old.refusals ≤ new.refusals)
    pub cost : new.total + digits (high - low) ≤ old.total + digits (length pairs)

  pub halved_start : (size : ℕ) (count : Count) → size ≡ length pairs → Ascends order pairs → Halved 0 size count count
  halved_start size count e ascends = record {
    ascends = ascends;
    ordered = omega arith;
    within = omega (arith, e);
    narrowed = Narrowed-whole order pairs size (omega (arith, e));
    same = refl;
    not_lowered = (omega arith, omega arith);
    cost = let f : size - 0 ≡ length pairs = omega (arith, e) in rw f (omega arith);
  }

  module _ {low high : ℕ} {old now new : Count} (name : List ℕ) (h : Halved low high old now) (l : low < high)
      (there : IsKeyAt pairs (low + (high - low) / 2) name) (same : new.name ≡ now.name) (asked : new.total ≡ now.total + 1)
      (kept : new.refusals ≡ now.refusals) where
    to : (from until : ℕ) → from ≤ until → until ≤ length pairs → digits (until - from) + 1 ≤ digits (high - low) → Narrowed order pairs from until
        → Halved from until old new
    to from until o w m n = record {
      ascends = h.ascends;
      ordered = o;
      within = w;
      narrowed = n;
      same = same ∙ h.same;
      not_lowered = (omega (arith, asked, h.not_lowered.0), omega (arith, kept, h.not_lowered.1));
      cost = omega (arith, asked, h.cost, m);
    }

    pub halved_less : order name ≡ Less → Halved (low + (high - low) / 2 + 1) high old new
    halved_less is =
        to (low + (high - low) / 2 + 1) high (omega (arith, l)) h.within (digits-halved _ _ (omega (arith, l)) (omega (arith, l)))
        (Narrowed-less order pairs h.ascends low high (low + (high - low) / 2) name there.0 there.1 h.narrowed is)

    pub halved_greater : order name ≡ Greater → Halved low (low + (high - low) / 2) old new
    halved_greater is =
        to low (low + (high - low) / 2) (omega arith) (omega (arith, l, h.within)) (digits-halved _ _ (omega (arith, l)) (omega (arith, l)))
        (Narrowed-greater order pairs h.ascends low high (low + (high - low) / 2) name there.0 there.1 h.narrowed is)

    pub halved_equal : order name ≡ Equal → FindsEqual order pairs (Ok (low + (high - low) / 2))
    halved_equal is = FindsEqual-here order pairs (low + (high - low) / 2) name there.0 there.1 is

    pub halved_asked : RisesByAtMost (digits (length pairs)) old new
    halved_asked =
        let m : digits 0 + 1 ≤ digits (high - low) = digits-halved 0 _ (omega (arith, l)) (omega arith) in
        record {
          same = same ∙ h.same;
          not_lowered = (omega (arith, asked, h.not_lowered.0), omega (arith, kept, h.not_lowered.1));
          most = omega (arith, asked, h.cost, m);
        }

  pub halved_end : {low high : ℕ} {old new : Count} → Halved low high old new → high ≤ low → FindsEqual order pairs (Err low)
  halved_end {low = low} {high = high} h l = FindsEqual-nowhere order pairs low high l (omega (arith, h.ordered, h.within, l)) h.narrowed
