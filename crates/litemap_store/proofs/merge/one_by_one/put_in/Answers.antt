use Rattle.litemap_store.proofs.Names.{[], ◌++◌, ◌∙◌, ap, cons_option, option_map, set_value, Some, sym}
use Rattle.litemap_store.proofs.Lists.Seams.{found_set_value, found_there, missing_insert}
use Rattle.litemap_store.proofs.merge.one_by_one.put_in.Goals as goal

pub returns-in-Ok-clause-put : goal.returns-in-Ok-clause-put
returns-in-Ok-clause-put g c =
    let pairs = g.S.Store.pairs c.args.store.now in
    g.met.S.StoreMut.writes c.args.store.now c.in-Ok.index c.replace-old.new.dest
    ∙ ap (λ v. set_value pairs c.in-Ok.index v) c.replace-old.ensures.after
    ∙ found_set_value g.K.Ord.cmp pairs c.args.key c.in-Ok.index c.in-Ok.ensures.splits c.args.value

pub returns-in-Ok-clause-rest : goal.returns-in-Ok-clause-rest
returns-in-Ok-clause-rest g c =
    let there = found_there g.K.Ord.cmp (g.S.Store.pairs c.args.store.now) c.args.key c.in-Ok.index c.in-Ok.ensures.splits in
    let found = ap (λ v. Some (c.args.key, v)) c.replace-old.ensures.value
    ∙ sym (ap (option_map (λ p. (c.args.key, p.1))) (sym there ∙ c.lm_pair_mut-slot.ensures.pair)) in
    c.push_reserved.ensures.pairs ∙ ap (λ o. g.S.Store.pairs c.args.rest.now ++ cons_option o []) found

pub returns-in-Err-clause-put : goal.returns-in-Err-clause-put
returns-in-Err-clause-put g c =
    (rw c.unwrap.ensures at c.lm_insert.ensures.ok)
    ∙ missing_insert g.K.Ord.cmp (g.S.Store.pairs c.args.store.now) c.args.key c.in-Err.index c.in-Err.ensures.splits c.args.value
