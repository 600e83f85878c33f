-- Merging two maps: what is left if the pairs of B are put into A one after the other, and what they displace. A present key
-- stays and takes the new value; the old value is displaced, with the new key.
use Rattle.std.specs.Prelude.{◌≡◌, ◌≢◌, ◌⊎◌, ◌↔◌, ℕ, ◌+◌, ◌*◌, ◌≤◌, List, [], length, filter_map, Option, option_map, Result}
use Rattle.std.specs.Prelude.{IfSome, IsNone, IfOk, IfErr, IsOk, OnOk, OnErr}
use Rattle.std.specs.declared.cmp.Ordering.{Ordering}
use Rattle.std.specs.declared.cmp.Ordering.TheVariants.{Equal}
use Rattle.litemap_store.specs.Counts.{digits}
use Rattle.litemap_store.specs.declared.no_room.NoRoom.{NoRoom}
use Rattle.litemap_store.specs.Last.{In, NoneEqual, Rises}
use Rattle.litemap_store.specs.Pairs.{Rising, at}

module _ {K V : Type 0} (cmp : K → K → Ordering) where
  -- A has the key itself, and B has the value under an equal key
  abbrev pub IsOfBoth : List (K × V) → List (K × V) → K × V → Type 0
  IsOfBoth A B p = ((v : V) × In (p.0, v) A) × ((k : K) × (cmp p.0 k ≡ Equal) × In (k, p.1) B)

  -- the pair is of one list, and the other has no equal key; or it has A's key with B's value
  abbrev pub IsMerged : List (K × V) → List (K × V) → K × V → Type 0
  IsMerged A B p = (In p A × NoneEqual cmp p.0 B) ⊎ ((In p B × NoneEqual cmp p.0 A) ⊎ IsOfBoth A B p)

  -- M has, in ascending order, exactly the merged pairs of A and B
  pub record Merge (A B M : List (K × V)) : Type 0 where
    pub rising : Rising cmp M
    pub exactly : (p : K × V) → In p M ↔ IsMerged A B p

  -- what is displaced: for each pair of B whose key is equal to one of A, in B's order, B's key with A's value
  abbrev pub left : List (K × V) → List (K × V) → List (K × V)
  left A B = filter_map (λ b. option_map (λ a. (b.0, a.1)) (at cmp A b.0)) B

  -- one is empty, or all keys of one are above the other's
  abbrev pub Apart : List (K × V) → List (K × V) → Type 0
  Apart A B = (A ≡ []) ⊎ ((B ≡ []) ⊎ (Rises cmp A B ⊎ Rises cmp B A))

-- the comparisons of a merge by searches, at most: one search for each pair of B, among the pairs of both
abbrev pub searches_cost : {X : Type 0} → List X → List X → ℕ
searches_cost A B = length B * digits (length A + length B)

-- what a merge of `other` into `before` leaves and returns
pub record Merges {K V S : Type 0} (cmp : K → K → Ordering) (pairs : S → List (K × V)) (other before after : S)
    (result : Result (Option S) (NoRoom S)) : Type 0 where
  -- the merged pairs, and the displaced ones
  pub merged : OnOk result (Merge cmp (pairs before) (pairs other) (pairs after))
  pub none : IfOk result (λ rest. IsNone rest ↔ (left cmp (pairs before) (pairs other) ≡ []))
  pub left : IfOk result (λ rest. IfSome rest (λ s. pairs s ≡ left cmp (pairs before) (pairs other)))
  -- if it fails, the list stays, and the other one comes back whole
  pub unchanged : OnErr result (pairs after ≡ pairs before)
  pub back : IfErr result (λ refused. pairs refused.back ≡ pairs other)

-- `other` is merged into `before`, which is then `after`: all three are stores, or maps
pub record MergesInto {K V S : Type 0} (cmp : K → K → Ordering) (pairs : S → List (K × V)) (room : S → ℕ) (other before after : S)
    (result : Result (Option S) (NoRoom S)) : Type 0 where
  pub merges : Merges cmp pairs other before after result
  -- it never fails if one is empty, nor if the other's keys are all above or all below, within the room
  pub succeeds : (pairs before ≡ []) ⊎ (pairs other ≡ []) → IsOk result
  pub all_above : Rises cmp (pairs before) (pairs other) → length (pairs other) ≤ room before → IsOk result
  pub all_below : Rises cmp (pairs other) (pairs before) → length (pairs other) ≤ room before
      → length (pairs before) ≤ room other → IsOk result
  pub unchanged : pairs other ≡ [] → after ≡ before
  pub taken : pairs before ≡ [] → pairs other ≢ [] → after ≡ other
