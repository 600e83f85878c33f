use Rattle.std.proofs.Common.{◌∙◌, [], append_assoc, arith, take_all}
use Rattle.std.proofs.lemmas.List.Folds.{flat_map-map}
use Rattle.litemap.proofs.Places.{is_there}
use Rattle.names_core.specs.Reply.{pair_bytes}
use Rattle.names_core.specs.Told.{pair_text}
use Rattle.names_core.proofs.Pairs.{flat_map_one_more}
use Rattle.names_core.proofs.reply.all.Goals as goal

pub loop-index-preserved : goal.loop-index-preserved
loop-index-preserved g c =
    flat_map_one_more [] (λ pair. pair_text (pair_bytes pair)) c.args.names.now.entries c.loop-index.index _ _ (omega arith) c.loop-index.invariant
    (rw (← c.get_indexed.ensures, c.unwrap.ensures) (c.in_ok-write.ensures.bytes ∙ simp append_assoc))

pub returns : goal.returns
returns g c = rw (flat_map-map, ← take_all c.loop-index.index c.args.names.now.entries (omega arith)) c.loop-index.invariant

pub unwrap-requires : goal.unwrap-requires
unwrap-requires g c =
    is_there _ _ c.args.names.now.entries c.loop-index.index c.get_indexed.ensures (omega (arith, c.loop-index-test.true, c.len-index-end.ensures.len))
