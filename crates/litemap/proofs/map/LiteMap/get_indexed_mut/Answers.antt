use Rattle.litemap.proofs.Common.{ap, length-set_value, option_map, refl, subst, sym}
use Rattle.std.proofs.Common.{IfSome}
use Rattle.std.proofs.lemmas.Option.{slice_get_past}
use Rattle.std.specs.List.{IsAmong}
use Rattle.std.specs.Map.{values_of}
use Rattle.litemap.proofs.KeptKeys.{among_in, keys_of-set_value}
use Rattle.litemap.proofs.Updating.{updates_set}
use Rattle.litemap.proofs.map.LiteMap.get_indexed_mut.Goals as goal

pub returns-then-index-len : goal.returns-then-index-len
returns-then-index-len g c =
    let pairs = c.args.self.now.entries in (
      refl,
      record {
        writes_back = tt;
        value = sym c.value_in_mut.ensures.value;
        member = subst (λ o. IfSome o (IsAmong (values_of pairs))) c.value_in_mut.ensures.value (among_in pairs c.args.index);
        updates = λ p v there. updates_set g.met.K.Ord.total pairs c.len.ensures.rising c.args.index p there v;
        keys = keys_of-set_value pairs c.args.index;
        len = length-set_value pairs c.args.index;
        rising = c.len.ensures.rising;
      },
    )

pub returns-else-index-len : goal.returns-else-index-len
returns-else-index-len g c =
    let pairs = c.args.self.now.entries in (
      refl,
      record {
        writes_back = tt;
        value = sym (ap (option_map (λ p. p.1)) (slice_get_past pairs c.args.index (rw c.len.ensures.len at c.if-index-len.false)));
        member = tt;
        updates = λ p v there. updates_set g.met.K.Ord.total pairs c.len.ensures.rising c.args.index p there v;
        keys = keys_of-set_value pairs c.args.index;
        len = length-set_value pairs c.args.index;
        rising = c.len.ensures.rising;
      },
    )
