use Rattle.litemap_store.proofs.Names.{◌∙◌, ap, get_or, length, refl, slice_get_read, Some}
use Rattle.litemap_store.proofs.Last.OneByOne.{put_between, put_over}
use Rattle.litemap_store.proofs.bulk.few.put_next.Goals as goal

pub returns-in-Ok-clause-put : goal.returns-in-Ok-clause-put
returns-in-Ok-clause-put g c =
    let pairs = c.args.pairs.now in let next = c.index-all-at in
    rw c.swap.ensures.after
    (put_over g.K.Ord.cmp pairs c.args.kept c.args.at (get_or pairs c.args.at next.result) c.requires.kept c.requires.at
    (slice_get_read pairs (length pairs) c.args.at next.result refl c.requires.at next.is ∙ ap Some next.is)
    c.in-Ok.index (rw c.new.ensures at c.in-Ok.ensures.splits))

pub returns-in-Err-clause-put : goal.returns-in-Err-clause-put
returns-in-Err-clause-put g c =
    let pairs = c.args.pairs.now in let next = c.index-all-at in
    put_between g.K.Ord.cmp pairs c.args.kept c.args.at (get_or pairs c.args.at next.result) c.requires.kept c.requires.at
    (slice_get_read pairs (length pairs) c.args.at next.result refl c.requires.at next.is ∙ ap Some next.is)
    c.in-Err.index c.rotate_right.new.self (rw c.new.ensures at c.in-Err.ensures.splits) c.rotate_right.ensures.len c.rotate_right.ensures.after
