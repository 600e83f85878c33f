-- The pairs of a text, a turn at a time.
use Rattle.std.proofs.Common.{◌≡◌, ◌≢◌, Bool, ℕ, zero, suc, ◌+◌, ◌-◌, ◌<◌, List, [], ◌∷◌, ◌++◌, length, Some, None, Ok, Err}
use Rattle.std.proofs.Common.{refl, sym, subst, ap, ◌∙◌, arith, append_assoc, length-append}
use Rattle.std.proofs.lemmas.List.{map-append}
use Rattle.json.specs.Lex.{lex, punctuate, tokens}
use Rattle.json.specs.Token.{Token}
use Rattle.serde_json.specs.Data.{Data}
use Rattle.litemap_json.specs.Reading.{pair_seen, seen}
use Rattle.litemap_json.specs.Parse.{Found, Stops, Turn, all_turns, and_more, before_more, found_after, opened}
use Rattle.litemap_json.specs.declared.fault.TextFault.{TextFault}

module _ (turn : ℕ → List Token → Turn) where
  abbrev more : ℕ → ℕ → List Token → Found
  more place n rest = all_turns turn (place + 1) n rest

  turns-pair : (place n : ℕ) (ts rest : List Token) (p : Data × Data) → 0 < n → turn place ts ≡ Ok (Some p, rest)
      → all_turns turn place n ts ≡ before_more p (all_turns turn (place + 1) (n - 1) rest)
  unfolding all_turns
  turns-pair place zero ts rest p some e = absurd (omega (arith, some))
  turns-pair place (suc n) ts rest p some e =
      let less : n ≡ suc n - 1 = omega arith in ap (and_more (more place n)) e ∙ ap (λ m. before_more p (more place m rest)) less

  pub turns-end : (place n : ℕ) (ts rest : List Token) → 0 < n → turn place ts ≡ Ok (None, rest) → all_turns turn place n ts ≡ Ok ([], rest)
  unfolding all_turns
  turns-end place zero ts rest some e = absurd (omega (arith, some))
  turns-end place (suc n) ts rest some e = ap (and_more (more place n)) e

  stop_at : (t : Turn) (next : List Token → Found) (e : TextFault) → Stops t e → Stops (and_more next t) e
  stop_at (Ok q) next e h = absurd h
  stop_at (Err f) next e h = h

  turns-stop : (place n : ℕ) (ts : List Token) (e : TextFault) → 0 < n → Stops (turn place ts) e → Stops (all_turns turn place n ts) e
  unfolding all_turns
  turns-stop place zero ts e some h = absurd (omega (arith, some))
  turns-stop place (suc n) ts e some h = stop_at (turn place ts) (more place n) e h

stop_after : (ps : List (Data × Data)) (r : Found) (e : TextFault) → Stops r e → Stops (found_after ps r) e
stop_after ps (Ok q) e h = absurd h
stop_after ps (Err f) e h = h

-- a turn stops all
pub stopped : (turn : ℕ → List Token → Turn) (ps : List (Data × Data)) (place n : ℕ) (ts : List Token) (e : TextFault) (all : Found) → 0 < n
    → Stops (turn place ts) e → all ≡ found_after ps (all_turns turn place n ts) → Stops all e
stopped turn ps place n ts e all some h so_far =
    subst (λ r. Stops r e) (sym so_far) (stop_after ps (all_turns turn place n ts) e (turns-stop turn place n ts e some h))

-- ---- the pairs that were found so far

after_none : (r : Found) → r ≡ found_after [] r
after_none (Err e) = refl
after_none (Ok q) = refl

after_more : (ps : List (Data × Data)) (p : Data × Data) (r : Found) → found_after ps (before_more p r) ≡ found_after (ps ++ p ∷ []) r
after_more ps p (Err e) = refl
after_more ps p (Ok q) = ap (λ qs. Ok (qs, q.1)) (sym (append_assoc ps (p ∷ []) q.0))

-- a pair more is found
pub found_more : {K V : Type 0} (turn : ℕ → List Token → Turn) (key_json : K → Data) (json : V → Data) (L M : List (K × V)) (x : K × V) (n : ℕ)
    (ts rest : List Token) (all : Found) → 0 < n → M ≡ L ++ x ∷ [] → turn (length L) ts ≡ Ok (Some (pair_seen key_json json x), rest)
    → all ≡ found_after (seen key_json json L) (all_turns turn (length L) n ts)
    → all ≡ found_after (seen key_json json M) (all_turns turn (length M) (n - 1) rest)
found_more turn key_json json L M x n ts rest all some pushed next so_far =
    let longer : length L + 1 ≡ length M = omega (arith, ap length pushed, length-append L (x ∷ [])) in
    let p = pair_seen key_json json x in
    let shown : seen key_json json M ≡ seen key_json json L ++ p ∷ [] = ap (seen key_json json) pushed ∙ map-append (pair_seen key_json json) L (x ∷ []) in
    so_far ∙ ap (found_after (seen key_json json L)) (turns-pair turn (length L) n ts rest p some next)
    ∙ after_more (seen key_json json L) p (all_turns turn (length L + 1) (n - 1) rest)
    ∙ ap (λ m. found_after (seen key_json json L ++ p ∷ []) (all_turns turn m (n - 1) rest)) longer
    ∙ ap (λ ps. found_after ps (all_turns turn (length M) (n - 1) rest)) (sym shown)

-- a text that opens a map is not empty
pub opened_some : (text : List ℕ) (q : Bool × List Token) → opened (tokens text) ≡ Some q → text ≢ []
unfolding lex punctuate
opened_some [] q e = absurd cc
opened_some (x ∷ text) q e = λ h. cc
