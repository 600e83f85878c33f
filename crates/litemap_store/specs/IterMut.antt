-- What the iterator that lends the values of two columns shows.
use Rattle.std.specs.Prelude.{List}
use Rattle.std.specs.Borrow.{GName}
use Rattle.std.specs.List.{zip}
use Rattle.std.specs.Slice.Iter.{iter_mut_name, iter_mut_rest, iter_rest}
use Rattle.litemap_store.specs.declared.iter_mut.IterMut.{IterMut}

module _ {K V : Type 0} where
  -- the pairs still to come
  abbrev pub iter_mut_left : IterMut K V → List (K × V)
  iter_mut_left s = zip (iter_rest s.keys) (iter_mut_rest s.values)

  -- the name of its loan
  abbrev pub iter_mut_loan : IterMut K V → GName
  iter_mut_loan s = iter_mut_name s.values
