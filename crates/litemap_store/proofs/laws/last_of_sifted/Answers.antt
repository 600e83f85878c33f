use Rattle.litemap_store.proofs.Last.Sifting.{Last-sifted}
use Rattle.litemap_store.proofs.laws.last_of_sifted.Goals as goal

pub returns : goal.returns
returns g c = λ J A B M sifted last. Last-sifted g.met.K.Ord.total J A B M sifted last
