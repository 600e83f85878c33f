-- A map that a text spells is one that its tree spells, if equal keys have one name.
use Rattle.std.proofs.Common.{◌≡◌, ◌≢◌, inl, inr, ℕ, ◌+◌, List, [], ◌∷◌, ◌++◌, map, Option, Some, None, option_map, option_and_then, Result, Ok, Err}
use Rattle.std.proofs.Common.{Ordering, Equal, append-nil, append_assoc, nat_cmp, refl, sym, ap, ap₂, ◌∙◌, subst}
use Rattle.std.proofs.lemmas.Cmp.{nat_list_cmp_total, tied_itself}
use Rattle.std.proofs.lemmas.Map.Lookups.{exact_bytes}
use Rattle.std.specs.Cmp.{IsTotalOrder}
use Rattle.std.specs.Cmp.Lexicographic.{slice_cmp}
use Rattle.std.specs.List.{AllByRecursion}
use Rattle.json.specs.Json as json
use Rattle.json.specs.Lex.{tokens}
use Rattle.serde_json.specs.Data.{Data, Members, member, no_members, object, put}
use Rattle.serde_json.specs.Read.{max_depth, of_json, of_members, read}
use Rattle.litemap_store.specs.Last.{In, Last, NoneEqual, StandsLast}
use Rattle.litemap_store.specs.Pairs.{above, below}
use Rattle.litemap_store.proofs.Last.Pairs.{In-from_last, Last-put, Last-rising, Last-same, last_in_rising}
use Rattle.litemap_store.proofs.Lists.Membership.{each, from_each}
use Rattle.litemap_json.specs.declared.item.ItemFault.{ItemFault}
use Rattle.litemap_json.specs.declared.fault.JsonFault.{JsonFault}
use Rattle.litemap_json.specs.Json.{member_at, member_pairs, pair_at, prepended}
use Rattle.litemap_json.specs.Laws.{OneName}
use Rattle.litemap_json.specs.Parse.{SpellsMap, in_order, members_in_order}
use Rattle.litemap_json.specs.Reading.{ReadsAs, pair_seen, seen}
use Rattle.litemap_json.specs.Written.{named}
use Rattle.litemap_json.proofs.NamedItems.{named-put}

module _ {K V : Type 0} (cmp : K → K → Ordering) (total : IsTotalOrder cmp) (key : List ℕ → Option Data)
    (key_item json_item : Data → Result Data ItemFault) (key_json : K → Data) (json_of : V → Data)
    (told : (x y : K) → key_json x ≡ key_json y → cmp x y ≡ Equal) (one_name : OneName cmp key key_json) where
  -- a member's name and tree, and its pair
  abbrev Entry : Type 0
  Entry = List ℕ × (Data × (K × V))

  abbrev by_name : List ℕ → List ℕ → Ordering
  by_name s t = slice_cmp nat_cmp s t

  abbrev Good : Entry → Type 0
  Good t = (key t.0 ≡ Some (key_json t.1.1.0)) × (json_item t.1.0 ≡ Ok (json_of t.1.1.1))

  abbrev pairs_of : List Entry → List (K × V)
  pairs_of T = map (λ t. t.1.1) T

  abbrev members_of : List Entry → Members
  members_of T = named (λ s. s) (λ v. v.0) T

  -- ---- the last pair of a name is the last one of its key

  in_pairs : (T : List Entry) (u : Entry) → In u T → In u.1.1 (pairs_of T)
  in_pairs [] u i = absurd i
  in_pairs (t ∷ T) u (inl e) = inl (ap (λ x. x.1.1) e)
  in_pairs (t ∷ T) u (inr i) = inr (in_pairs T u i)

  same_key : (t u : Entry) → Good t → Good u → by_name t.0 u.0 ≡ Equal → cmp t.1.1.0 u.1.1.0 ≡ Equal
  same_key t u good other same =
      let name : t.0 ≡ u.0 = exact_bytes t.0 u.0 same in
      let found : Some (key_json t.1.1.0) ≡ Some (key_json u.1.1.0) = sym good.0 ∙ ap key name ∙ other.0 in
      let tree : key_json t.1.1.0 ≡ key_json u.1.1.0 = cc in told t.1.1.0 u.1.1.0 tree

  last_by_name : (p : K × V) (T : List Entry) → AllByRecursion Good T → StandsLast cmp p (pairs_of T) → (t : Entry) × StandsLast by_name t T × (t.1.1 ≡ p)
  last_by_name p [] good h = absurd h
  last_by_name p (t ∷ T) good (inl h) = (
    t,
    inl (
      refl,
      from_each (λ (u : Entry). by_name t.0 u.0 ≢ Equal) T (λ u i same.
          each (λ (q : K × V). cmp p.0 q.0 ≢ Equal) (pairs_of T) h.1 u.1.1 (in_pairs T u i)
          (subst (λ (q : K × V). cmp q.0 u.1.1.0 ≡ Equal) h.0 (same_key t u good.0 (each Good T good.1 u i) same))),
    ),
    h.0,
  )
  last_by_name p (t ∷ T) good (inr h) = let r = last_by_name p T good.1 h in (r.0, inr r.1, r.2)

  none_equal : (t : Entry) (T : List Entry) → Good t → AllByRecursion Good T → NoneEqual by_name t.0 T → NoneEqual cmp t.1.1.0 (pairs_of T)
  none_equal t [] here good n = tt
  none_equal t (u ∷ T) here good n = (
    λ same. n.0 (subst (λ s. by_name t.0 s ≡ Equal) (one_name t.1.1.0 u.1.1.0 t.0 u.0 here.0 good.0.0 same) (tied_itself nat_list_cmp_total t.0)),
    none_equal t T here good.1 n.1,
  )

  last_by_key : (t : Entry) (T : List Entry) → AllByRecursion Good T → StandsLast by_name t T → StandsLast cmp t.1.1 (pairs_of T)
  last_by_key t [] good h = absurd h
  last_by_key t (u ∷ T) good (inl h) = inl (ap (λ x. x.1.1) h.0, none_equal t T (subst Good h.0 good.0) good.1 h.1)
  last_by_key t (u ∷ T) good (inr h) = inr (last_by_key t T good.1 h)

  -- ---- members as entries

  members_read : (place : ℕ) (T : List Entry) → AllByRecursion Good T
      → member_pairs key key_item json_item place (members_of T) ≡ Ok (seen key_json json_of (pairs_of T))
  members_read place [] good = refl
  members_read place (t ∷ T) good = rw (good.0.0, good.0.1, members_read (place + 1) T good.1) refl

  abbrev Entries : Members → List (K × V) → Type 0
  Entries ds G = (T : List Entry) × (members_of T ≡ ds) × (pairs_of T ≡ G) × AllByRecursion Good T

  abbrev all_of : List (Data × Data) → Result (List (Data × Data)) JsonFault
  all_of ps = Ok ps

  entry_rest : (s : List ℕ) (d k e : Data) (ds : Members) (r : Result (List (Data × Data)) JsonFault) (G : List (K × V)) → key s ≡ Some k → json_item d ≡ Ok e
      → ((H : List (K × V)) → r ≡ all_of (seen key_json json_of H) → Entries ds H) → prepended (Ok (k, e)) r ≡ all_of (seen key_json json_of G)
      → Entries (member s d ds) G
  entry_rest s d k e ds (Err f) G named_by read rest h = absurd cc
  entry_rest s d k e ds (Ok L) [] named_by read rest h = absurd cc
  entry_rest s d k e ds (Ok L) (p ∷ G) named_by read rest h =
      let x : Data × Data = (k, e) in
      let here : x ≡ pair_seen key_json json_of p = cc in
      let others : L ≡ seen key_json json_of G = cc in
      let r = rest G (ap all_of others) in (
        (s, (d, p)) ∷ r.0,
        ap (member s d) r.1,
        ap (λ l. p ∷ l) r.2,
        ((named_by ∙ ap (λ (y : Data × Data). Some y.0) here, read ∙ ap (λ (y : Data × Data). Ok y.1) here), r.3),
      )

  entry_item : (place : ℕ) (s : List ℕ) (d k : Data) (i : Result Data ItemFault) (ds : Members) (G : List (K × V)) → key s ≡ Some k → json_item d ≡ i
      → ((H : List (K × V)) → member_pairs key key_item json_item (place + 1) ds ≡ all_of (seen key_json json_of H) → Entries ds H)
      → prepended (pair_at place (Ok k) i) (member_pairs key key_item json_item (place + 1) ds) ≡ all_of (seen key_json json_of G) → Entries (member s d ds) G
  entry_item place s d k (Err f) ds G named_by read rest h = absurd cc
  entry_item place s d k (Ok e) ds G named_by read rest h =
      entry_rest s d k e ds (member_pairs key key_item json_item (place + 1) ds) G named_by read rest h

  entry_key : (place : ℕ) (s : List ℕ) (d : Data) (k : Option Data) (ds : Members) (G : List (K × V)) → key s ≡ k
      → ((H : List (K × V)) → member_pairs key key_item json_item (place + 1) ds ≡ all_of (seen key_json json_of H) → Entries ds H)
      → prepended (member_at key key_item json_item place k d) (member_pairs key key_item json_item (place + 1) ds) ≡ all_of (seen key_json json_of G)
      → Entries (member s d ds) G
  entry_key place s d None ds G named_by rest h = absurd cc
  entry_key place s d (Some k) ds G named_by rest h = entry_item place s d k (json_item d) ds G named_by refl rest h

  entries : (place : ℕ) (ds : Members) (G : List (K × V)) → member_pairs key key_item json_item place ds ≡ all_of (seen key_json json_of G) → Entries ds G
  entries place no_members [] h = ([], refl, refl, tt)
  entries place no_members (p ∷ G) h = absurd cc
  entries place (member s d ds) G h = entry_key place s d (key s) ds G refl (entries (place + 1) ds) h

  -- ---- the tree has the last entry of each name

  abbrev Gathered : json.Members → List Entry → List Entry → List Entry → Type 0
  Gathered ms T D A = (E : List Entry) × (of_members ms (members_of A) ≡ Some (members_of E)) × Last by_name (D ++ T) E

  abbrev with_entry : Entry → List Entry → List Entry
  with_entry t A = below by_name A t.0 ++ t ∷ above by_name A t.0

  gather_at : (s : List ℕ) (j : json.Json) (ms : json.Members) (c : Option Data) (o : Option Members) (T D A : List Entry) → of_json j ≡ c
      → members_in_order ms ≡ o
      → ((T' D' A' : List Entry) → members_in_order ms ≡ Some (members_of T') → Last by_name D' A' → Gathered ms T' D' A')
      → option_and_then (λ d. option_map (member s d) o) c ≡ Some (members_of T) → Last by_name D A → Gathered (json.member s j ms) T D A
  gather_at s j ms None o T D A tree more all h last = absurd cc
  gather_at s j ms (Some d) None T D A tree more all h last = absurd cc
  gather_at s j ms (Some d) (Some ds) [] D A tree more all h last = absurd cc
  gather_at s j ms (Some d) (Some ds) (t ∷ T) D A tree more all h last =
      let name : s ≡ t.0 = cc in
      let value : d ≡ t.1.0 = cc in
      let others : ds ≡ members_of T = cc in
      let put_is : put s d (members_of A) ≡ members_of (with_entry t A) = ap₂ (λ a b. put a b (members_of A)) name value
      ∙ sym (named-put (λ x. x) (λ v. v.0) t A last.rising) in
      let r = all T (D ++ t ∷ []) (with_entry t A) (more ∙ ap Some others) (Last-put by_name nat_list_cmp_total D A last t) in (
        r.0,
        ap (option_and_then (λ x. of_members ms (put s x (members_of A)))) tree ∙ ap (of_members ms) put_is ∙ r.1,
        rw (sym (append_assoc D (t ∷ []) T)) r.2,
      )

  gather : (ms : json.Members) (T D A : List Entry) → members_in_order ms ≡ Some (members_of T) → Last by_name D A → Gathered ms T D A
  gather json.no_members [] D A h last = (A, refl, rw (append-nil D) last)
  gather json.no_members (t ∷ T) D A h last = absurd cc
  gather (json.member s j ms) T D A h last = gather_at s j ms (of_json j) (members_in_order ms) T D A refl refl (gather ms) h last

  abbrev Reads : Data → List (K × V) → Type 0
  Reads d L = ReadsAs cmp key key_item json_item key_json json_of d L

  object_reads : (ms : json.Members) (ds es : Members) (L : List (K × V)) → members_in_order ms ≡ Some ds → of_members ms no_members ≡ Some es
      → Reads (object ds) L → Reads (object es) L
  object_reads ms ds es L ordered tree r =
      let t = entries 0 ds r.given r.gives in
      let T = t.0 in
      let g = gather ms T [] [] (ordered ∙ ap Some (sym t.1)) (Last-rising by_name [] tt) in
      let E = g.0 in
      let good : AllByRecursion Good E = from_each Good E (λ u i. each Good T t.3 u (In-from_last by_name u T ((g.2.exactly u).0 i))) in
      let both : Some es ≡ Some (members_of E) = sym tree ∙ g.1 in
      let same : es ≡ members_of E = cc in
      let to : (p : K × V) → StandsLast cmp p (pairs_of T) → StandsLast cmp p (pairs_of E) = λ p h.
      (let u = last_by_name p T t.3 h in
      subst (λ (q : K × V). StandsLast cmp q (pairs_of E)) u.2 (last_by_key u.0 E good (last_in_rising by_name u.0 E g.2.rising ((g.2.exactly u.0).1 u.1)))) in
      let from : (p : K × V) → StandsLast cmp p (pairs_of E) → StandsLast cmp p (pairs_of T) = λ p h.
      (let u = last_by_name p E good h in
      subst (λ (q : K × V). StandsLast cmp q (pairs_of T)) u.2 (last_by_key u.0 T t.3 ((g.2.exactly u.0).0 (In-from_last by_name u.0 E u.1)))) in
      record {
        given = pairs_of E;
        gives = rw same (members_read 0 E good);
        last = Last-same cmp total (pairs_of T) (pairs_of E) L (λ p. (to p, from p)) (rw t.2 r.last);
      }

  object_tree : (ms : json.Members) (o p : Option Members) (c d : Data) (L : List (K × V)) → members_in_order ms ≡ o → of_members ms no_members ≡ p
      → option_map object o ≡ Some c → option_map object p ≡ Some d → Reads c L → Reads d L
  object_tree ms None p c d L ordered tree h k r = absurd cc
  object_tree ms (Some ds) None c d L ordered tree h k r = absurd cc
  object_tree ms (Some ds) (Some es) c d L ordered tree h k r =
      let first : c ≡ object ds = cc in
      let second : object es ≡ d = cc in
      subst (λ x. Reads x L) second (object_reads ms ds es L ordered tree (subst (λ x. Reads x L) first r))

  json_reads : (j : json.Json) (c d : Data) (L : List (K × V)) → in_order j ≡ Some c → of_json j ≡ Some d → Reads c L → Reads d L
  json_reads (json.object ms) c d L h k r = object_tree ms (members_in_order ms) (of_members ms no_members) c d L refl refl h k r
  json_reads (json.array js) c d L h k r = let same : c ≡ d = cc in subst (λ x. Reads x L) same r
  json_reads (json.string s) c d L h k r = let same : c ≡ d = cc in subst (λ x. Reads x L) same r
  json_reads (json.number s) c d L h k r = let same : c ≡ d = cc in subst (λ x. Reads x L) same r
  json_reads (json.boolean b) c d L h k r = let same : c ≡ d = cc in subst (λ x. Reads x L) same r
  json_reads json.null c d L h k r = let same : c ≡ d = cc in subst (λ x. Reads x L) same r

  last_reads : (o : Option json.Json) (c d : Data) (L : List (K × V)) → option_and_then in_order o ≡ Some c → option_and_then of_json o ≡ Some d → Reads c L
      → Reads d L
  last_reads None c d L h k r = absurd cc
  last_reads (Some j) c d L h k r = json_reads j c d L h k r

  pub text_reads : (text : List ℕ) (d : Data) (L : List (K × V)) → SpellsMap cmp key key_item json_item key_json json_of text L → read text ≡ Some d → Reads d L
  text_reads text d L s k = last_reads (option_and_then (λ p. json.if_last p.0 p.1) (json.value max_depth (tokens text))) s.0 d L s.1 k s.2
