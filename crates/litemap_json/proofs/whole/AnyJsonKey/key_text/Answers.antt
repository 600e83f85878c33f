use Rattle.litemap_json.proofs.Printed.{read_whole}
use Rattle.litemap_json.proofs.whole.AnyJsonKey.key_text.Goals as goal

pub returns-clause-reads_back : goal.returns-clause-reads_back
returns-clause-reads_back g c = read_whole g.T.Whole.kind.fits _ c.wide.ensures.fits (g.met.T.Whole.whole.held _ c.wide.ensures.fits)
