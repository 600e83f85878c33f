use Rattle.litemap_store.proofs.Names.{[], ℕ, ◌++◌, ◌+◌, ◌<◌, ◌∙◌, ◌∷◌, ◌≡◌, ap, arith, drop, drop-append_seam, drop_all, drop_more, get_or, insert, length}
use Rattle.litemap_store.proofs.Names.{length-take-le, List, remove, same_from_push, suc, sym, take, take-append-drop, take_all, take_at}
use Rattle.litemap_store.proofs.reserved.remove_at.Given.{Over}
use Rattle.litemap_store.proofs.reserved.remove_at.Goals as goal
use Rattle.litemap_store.proofs.reserved.remove_at.Goals.{After-take_last}

-- what is removed goes back in its place
insert-remove : {X : Type 0} (L : List X) (i : ℕ) (d : X) → i < length L → L ≡ insert (remove L i) i (get_or L i d)
insert-remove L i d within =
    let A = take i L in let B = drop (suc i) L in let x = get_or L i d in
    let len : length A ≡ i = length-take-le i L (omega arith) in
    let next : i + 1 ≡ suc i = omega arith in
    sym (take-append-drop i L) ∙ ap (λ T. A ++ T) (drop_more L i d within ∙ ap (λ n. x ∷ drop n L) next)
    ∙ ap (λ T. T ++ x ∷ B) (sym (take_at A B i len)) ∙ ap (λ T. take i (A ++ B) ++ x ∷ T) (sym (ap (λ n. drop n (A ++ B)) (sym len) ∙ drop-append_seam A B))

removed : (g : Over) (c : After-take_last g) → (c.take_last.new.self.items ≡ remove c.args.items.now.items c.args.index)
    × (c.take_last.result ≡ get_or c.args.items.now.items c.args.index c.take_last.result)
removed g c =
    let L = c.args.items.now.items in let R = remove L c.args.index in let x = get_or L c.args.index c.take_last.result in
    let now = c.move_to_end.new.items in
    let within : c.args.index < length L = omega (arith, c.requires, c.args.items.now.ok.0) in
    let moved : now ≡ insert R (length R) x =
    c.move_to_end.ensures.moved R x (c.deref_mut.ensures.value ∙ insert-remove L c.args.index c.take_last.result within) in
    let end : insert R (length R) x ≡ R ++ x ∷ [] =
    ap (λ T. T ++ x ∷ drop (length R) R) (take_all (length R) R (omega arith)) ∙ ap (λ T. R ++ x ∷ T) (drop_all (length R) R (omega arith)) in
    let same : length now ≡ length L = c.move_to_end.ensures.len ∙ ap length c.deref_mut.ensures.value in
    let whole : take c.args.items.now.len (now ++ drop (length now) L) ≡ now = take_at now _ c.args.items.now.len (omega (arith, c.args.items.now.ok.0)) in
    same_from_push c.take_last.new.self.items R c.take_last.result x (sym (sym whole ∙ c.take_last.ensures.items) ∙ moved ∙ end)

pub returns-clause-value : goal.returns-clause-value
returns-clause-value g c = (removed g (goal.at.returns-clause-value g c).After-take_last).1

pub returns-clause-items : goal.returns-clause-items
returns-clause-items g c = (removed g (goal.at.returns-clause-items g c).After-take_last).0
