use Rattle.std.proofs.Common.{false, true}
use Rattle.name_index.proofs.Prefixing.{cut_at, edges_part, place_at}
use Rattle.name_index.proofs.names.Names.prefix_range.Goals as goal

pub returns : goal.returns
returns g c =
    let L = g.Self.Entries.pairs c.args.self.now in
    let text = c.args.prefix.now in
    let start = c.index_in-start in
    let end = c.index_in-end in
    record {
      start_is = place_at false text L start.result c.search.result c.search.ensures.splits start.ensures;
      names = edges_part text L start.result end.result (cut_at false text L start.result c.search.result c.search.ensures.splits start.ensures)
          (cut_at true text L end.result c.search-2.result c.search-2.ensures.splits end.ensures);
    }
