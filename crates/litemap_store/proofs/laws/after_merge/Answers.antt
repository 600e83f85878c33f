use Rattle.litemap_store.proofs.Merging.Merges.{Merge-put, Merge-unique, keys_of_merge, left_none, none_from_left}
use Rattle.litemap_store.proofs.laws.after_merge.Goals as goal

pub returns : goal.returns
returns g c =
    let cmp = g.K.Ord.cmp in
    let o = g.met.K.Ord.total in
    record {
      keys = λ A B M k merge. keys_of_merge cmp o A B M merge k;
      one = λ A B M N m n. Merge-unique cmp o A B M N m n;
      one_more = λ A B M b merge new. Merge-put cmp o A B M merge b new;
      left = λ A B. (none_from_left cmp o A B, left_none cmp o A B);
    }
