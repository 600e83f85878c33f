use Rattle.std.proofs.Common.{◌++◌, ◌∷◌, ◌∙◌, [], ap, append_assoc, arith, rules, sym, take_all}
use Rattle.json.specs.Token.{begin_object, key, string}
use Rattle.litemap.proofs.Places.{is_there}
use Rattle.names_core.specs.Reply.{pair_bytes, pair_tokens}
use Rattle.names_core.specs.Told.{line}
use Rattle.names_core.proofs.Pairs.{flat_map_one_more, print-object}
use Rattle.names_core.proofs.reply.json.Goals as goal

pub loop-index-preserved : goal.loop-index-preserved
loop-index-preserved g c = (
  search rules,
  flat_map_one_more (begin_object ∷ []) (λ pair. pair_tokens (pair_bytes pair)) c.args.names.now.entries c.loop-index.index _ _
      (omega arith) c.loop-index.invariant.1
      (rw (← c.get_indexed.ensures, c.unwrap.ensures, ← c.as_str.ensures.value, ← c.as_str-in-loop-index.ensures.value)
      (c.in_ok-string.ensures.ok ∙ ap (λ t. t ++ string c.as_str-in-loop-index.result.now ∷ []) c.in_ok-key.ensures.ok ∙ append_assoc c.loop-index.writer.tokens
      (key c.as_str.result.now ∷ []) (string c.as_str-in-loop-index.result.now ∷ []))),
)

pub returns : goal.returns
returns g c =
    let L = c.args.names.now.entries in
    let tokens = rw (take_all c.loop-index.index L (omega arith)) at c.loop-index.invariant.1 in
    rw (c.in_ok-push_str.ensures.bytes, c.written-text.ensures, c.in_ok-end_object.ensures.ok, tokens)
    (ap line (print-object L (sym c.is_empty.ensures ∙ c.if-is_empty.false)))

pub unwrap-requires : goal.unwrap-requires
unwrap-requires g c =
    is_there _ _ c.args.names.now.entries c.loop-index.index c.get_indexed.ensures (omega (arith, c.loop-index-test.true, c.len-index-end.ensures.len))
