-- What the storage of a short store ends as, after one of its items was lent.
use Rattle.std.specs.Prelude.{ℕ}
use Rattle.std.specs.Borrow.{Lends, Fml, RattleType, MutBor}
use Rattle.std.specs.declared.alloc.Allocator.{Ghosts}
use Rattle.litemap_short.specs.Storage.{storage_with_item}
use Rattle.litemap_short.specs.contracts.storage.Storage.{the_row}

module _ (T A : RattleType) (alloc : Ghosts A.Denot) (storage : MutBor (the_row T A alloc).Denot) where
  -- once the borrow r ends, the item at i is the last value written through r
  abbrev pub storage_lends_item : ℕ → MutBor T.Denot → Fml
  storage_lends_item i r = Lends (the_row T A alloc) T storage r (storage_with_item storage.now i)
