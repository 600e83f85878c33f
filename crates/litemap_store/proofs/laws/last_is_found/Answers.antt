use Rattle.litemap_store.proofs.Callers.LastLookups.{at-Last, value_at-Last_of_more, value_at-Last_of_rising}
use Rattle.litemap_store.proofs.laws.last_is_found.Goals as goal

pub returns : goal.returns
returns g c = record {
  backwards = λ J M k last. at-Last g.met.K.Ord.total J M last k;
  after_more = λ L J M k rises last. value_at-Last_of_more g.met.K.Ord.total L J M rises last k;
  after_rising = λ L J M k rises both last. value_at-Last_of_rising g.met.K.Ord.total L J M rises both last k;
}
