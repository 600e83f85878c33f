use Rattle.std.proofs.Common.{◌∙◌, filter}
use Rattle.name_index.specs.Names.{begins}
use Rattle.example_formats.proofs.Parts.{part_is}
use Rattle.example_formats.proofs.prefixes.beginning.Goals as goal

pub returns : goal.returns
returns c =
    c.entries_in.ensures
    ∙ part_is c.args.index.now c.prefix_range.result.start c.prefix_range.result.end (filter (λ p. begins p.0 c.args.text.now) c.args.index.now)
    c.prefix_range.ensures.names
