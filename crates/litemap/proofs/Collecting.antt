-- From what `extend` of a map promises of an iterator to what std's `Extend` asks of what becomes it.
use Rattle.litemap.proofs.Common.{◌≡◌, List, [], Option, Some, Ordering, Result, Ok, Err, OnOk, OnErr, append-nil, refl, subst, sym}
use Rattle.std.specs.Iterator.{Drains, ExtendsWithItems}
use Rattle.std.specs.Cmp.{IsTotalOrder}
use Rattle.litemap_store.specs.Bulk.{Extends, Gives, GivesSome, IsGathered}
use Rattle.litemap_store.specs.Last.{Last}
use Rattle.litemap_store.specs.Pairs.{Rising}
use Rattle.litemap_store.proofs.Callers.HandedOver.{extends}
use Rattle.litemap_store.proofs.Last.Pairs.{Last-rising}

module _ {U T K V : Type 0} {cmp : K → K → Ordering} (o : IsTotalOrder cmp) (becomes : U → T → Type 0) (steps : T → Option (K × V) → T → Type 0)
    (iter : U) (it : T) where
  pub extends_items : {E : Type 0} (old new : List (K × V)) (r : Result (Unit {0}) E) → becomes iter it → Rising cmp old
      → OnOk r (IsGathered cmp (Gives (λ s t. t ≡ s) steps it) old new) → OnErr r (new ≡ old)
      → ExtendsWithItems becomes steps (Extends cmp) iter old new r
  extends_items old new (Ok u) made rising extended same =
      let gives = extended.gives in (
        it,
        extended.given,
        made,
        record { last = extended.last; found = extended.found; stays = extended.stays },
        subst (λ t. Drains steps t extended.given) gives.1 gives.2,
      )
  extends_items old new (Err e) made rising extended same =
      let last = subst (λ l. Last cmp l new) (sym (append-nil old)) (subst (λ m. Last cmp old m) (sym same) (Last-rising cmp old rising)) in
      (it, [], made, extends o old new rising [] last, (it, refl))

  pub gives_some : becomes iter it → GivesSome (λ s t. t ≡ s) steps it → GivesSome becomes steps iter
  gives_some made some = (it, some.1, some.2, made, subst (λ t. steps t (Some some.2) some.1) some.3 some.4)
