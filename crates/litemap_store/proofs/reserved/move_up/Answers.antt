use Rattle.litemap_store.proofs.Names.{[], ℕ, ◌++◌, ◌+◌, ◌-◌, ◌∙◌, ◌∷◌, ◌≡◌, ◌≤◌, ap, append_assoc, arith, drop, drop-append_seam, drop-drop, insert, length}
use Rattle.litemap_store.proofs.Names.{length-append, length-drop, length-take-le, List, suc, sym, take, take-add, take-append-drop, take_at}
use borrow.Rule.Slice.PartMut.{mid_of}
use Rattle.litemap_store.proofs.reserved.move_up.Goals as goal

-- an item that is rotated from the front of a part to its end
turned : {X : Type 0} (L R : List X) (x : X) (i m : ℕ) → i + m ≤ length R → L ≡ insert R i x
    → (ys : List X) → ys ≡ drop 1 (take (suc m) (drop i L)) ++ take 1 (take (suc m) (drop i L)) → take i L ++ (ys ++ drop (suc m) (drop i L))
    ≡ insert R (i + m) x
turned L R x i m fits is ys e =
    let A = take i R in
    let B = drop i R in
    let len : length A ≡ i = length-take-le i R (omega arith) in
    let front : take i L ≡ A = ap (take i) is ∙ take_at A (x ∷ B) i len in
    let back : drop i L ≡ x ∷ B = ap (drop i) is ∙ ap (λ n. drop n (A ++ x ∷ B)) (sym len) ∙ drop-append_seam A (x ∷ B) in
    let rotated : ys ≡ take m B ++ x ∷ [] = e ∙ ap (λ T. drop 1 (take (suc m) T) ++ take 1 (take (suc m) T)) back in
    let up : take (i + m) R ≡ A ++ take m B = take-add i m R in
    let down : drop m B ≡ drop (i + m) R = drop-drop m i R in
    ap (λ T. T ++ (ys ++ drop (suc m) (drop i L))) front ∙ ap (λ T. A ++ (T ++ drop (suc m) (drop i L))) rotated
    ∙ ap (λ T. A ++ ((take m B ++ x ∷ []) ++ drop (suc m) T)) back
    ∙ ap (λ T. A ++ T) (append_assoc (take m B) (x ∷ []) (drop m B)) ∙ sym (append_assoc A (take m B) (x ∷ drop m B))
    ∙ ap (λ T. T ++ x ∷ drop m B) (sym up) ∙ ap (λ T. take (i + m) R ++ x ∷ T) down

pub returns-clause-moved : goal.returns-clause-moved
returns-clause-moved g c = λ R x is.
    let L = c.args.items.now in let i = c.args.from in let m = c.args.to - i in let n = c.args.to + 1 - i in
    let one : n ≡ suc m = omega (arith, c.requires.order) in
    let there : i + m ≡ c.args.to = omega (arith, c.requires.order) in
    let long : length L ≡ length R + 1 =
    omega (arith, ap length is, length-append (take i R) (x ∷ drop i R), ap length (take-append-drop i R), length-append (take i R) (drop i R)) in
    let fits : i + m ≤ length R = omega (arith, c.requires.within) in
    let after : length (drop i L) ≡ length L - i = length-drop i L in
    let all : length (mid_of i n L) ≡ n = length-take-le n (drop i L) (omega (arith, c.requires.within)) in
    let first : length (mid_of i n L) - m ≡ 1 = omega (arith, c.requires.order) in
    let e : c.rotate_right.new.self ≡ drop 1 (take (suc m) (drop i L)) ++ take 1 (take (suc m) (drop i L)) =
    c.rotate_right.ensures.after ∙ ap (λ k. drop k (mid_of i n L) ++ take k (mid_of i n L)) first
    ∙ ap (λ k. drop 1 (take k (drop i L)) ++ take 1 (take k (drop i L))) one in
    ap (λ k. take i L ++ (c.rotate_right.new.self ++ drop k (drop i L))) one ∙ turned L R x i m fits is c.rotate_right.new.self e ∙ ap (λ k. insert R k x) there
