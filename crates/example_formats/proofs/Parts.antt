-- The part of a list that a range has.
use Rattle.std.proofs.Common.{◌≡◌, ◌&&◌, ℕ, Bool, true, false, List, length, nat_le, slice_range, Some, None, cond}
use Rattle.litemap_store.specs.Pairs.{sub}

where_defined : {X : Type 0} (t : Bool) (P M : List X) → cond t (Some P) None ≡ Some M → P ≡ M
where_defined true P M e = cc
where_defined false P M e = absurd (cc)

pub part_is : {K V : Type 0} (L : List (K × V)) (a b : ℕ) (M : List (K × V)) → sub L a b ≡ Some M → slice_range L a b ≡ M
part_is L a b M e = where_defined (nat_le a b && nat_le b (length L)) (slice_range L a b) M e
