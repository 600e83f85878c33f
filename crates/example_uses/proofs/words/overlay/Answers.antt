use Rattle.std.proofs.Common.{◌<◌}
use Rattle.litemap_store.proofs.Callers.Every.{All-merged}
use Rattle.example_uses.proofs.words.overlay.Goals as goal

pub returns : goal.returns
returns c = All-merged (λ n. 0 < n) c.args.counts.now.entries c.args.other.entries _ c.in_ok-extend_from_litemap.ensures.merged.merges.merged c.requires.counts
    c.requires.other
