use Rattle.std.proofs.Common.{◌≡◌, ap, map, option_map, string_bytes, sym, ◌∙◌}
use Rattle.std.proofs.lemmas.Result.{IfOk-weaker}
use Rattle.litemap_store.specs.Pairs.{value_at}
use Rattle.names_core.specs.Reply.{names_of, pair_bytes}
use Rattle.litemap_store.specs.Queries.{bytes_cmp}
use Rattle.names_core.specs.Told.{Puts, old_text}
use Rattle.names_core.proofs.Bytes.{put-bytes, there, value-bytes}
use Rattle.names_core.proofs.reply.put.Goals as goal

pub returns-in-Ok : goal.returns-in-Ok
returns-in-Ok g c =
    let done = c.in-Ok.ensures.inserts in
    let L = c.args.names.now.entries in
    let key = c.args.key.now in
    IfOk-weaker _ _ (λ text. (string_bytes text ≡ old_text (value_at bytes_cmp (map pair_bytes L) key)) × Puts (names_of c.args.names.now) key c.args.value.now
    (names_of c.insert.new.self))
    (λ text told. rw (← c.in_ok-key.ensures.ok, ← c.in_ok-value.ensures.ok) (
      told ∙ ap old_text (ap (option_map string_bytes) done.old ∙ sym (value-bytes L _)),
      (ap (map pair_bytes) done.put ∙ sym (put-bytes L _ _), done.refused.room, λ h. done.room_kept (there L _ h)),
    ))
    c.old_text.ensures
