use Rattle.litemap.proofs.Common.{◌∙◌, ap, sym, with_pairs, keys_of}
use Rattle.std.specs.List.{zip}
use Rattle.litemap_store.specs.Lent.{set_values}
use Rattle.litemap.proofs.Lending.{keys-set_values, zip-parts}
use Rattle.litemap.proofs.Writing.{Rising-keys}
use Rattle.litemap.proofs.map.LiteMap.iter_mut.Goals as goal

pub invariant_of-self-lent : goal.invariant_of-self-lent
invariant_of-self-lent g c =
    λ w. let store = c.self.inside.store in
    Rising-keys g.K.Ord.cmp (g.S.Store.pairs store) _ (ap keys_of (g.met.S.StoreColumns.writes_all store w) ∙ keys-set_values (g.S.Store.pairs store) w)
    c.self.invariant

pub returns : goal.returns
returns g c =
    let store = c.self.inside.store in (
      (
        sym c.new.ensures.loan,
        λ w. (λ j. record { entries = g.met.S.StoreColumns.writes_all store w j; room = g.met.S.StoreColumns.keeps_room_all store w j })
            ∙ ap (λ m. with_pairs m (set_values m.entries w)) c.self.view_is,
      ),
      record {
        writes_back = tt;
        left = c.new.ensures.left ∙ (λ j. zip (c.lm_columns_mut-values.ensures.keys j) (c.lm_columns_mut-values.ensures.values j))
            ∙ zip-parts (g.S.Store.pairs store) ∙ ap (λ m. m.entries) c.self.view_is;
        keys = keys-set_values c.args.self.now.entries;
      },
    )
