-- The graphs of a rule and its daughters force what their structures do, so the verdict on the graphs is that on the node.
use Rattle.std.specs.Prelude.{ℕ, ◌≡◌, ◌↔◌, ◌⊎◌, true, Some, List, [], ◌∷◌, ◌++◌, map, length, ◌≤◌}
use Rattle.std.proofs.Common.{inl, inr, refl, sym, subst, eq-eqb}
use Rattle.fs_model.specs.Claims.{Path, Claim, exists_at, below, at, System, Has, here, there}
use Rattle.fs_model.specs.Sources.{Reader, Part, Tells, tells_exists, tells_same, tells_below, Told, told_claim, told_part}
use Rattle.tree_model.specs.Structures.{Structure, pairs_of, Beside, beside_here, beside_there, Says, says_type, says_equal}
use Rattle.tree_model.specs.Views.{view_type, same_node, view, IsInside, source_of, parts_at, AllInside, inside_none, inside_more}
use Rattle.tree_model.specs.Said.{rule_alone, rule_said}
use Rattle.tree_model.specs.Mothers.{Parts, of_rule, of_daughter}
use Rattle.tree_model.proofs.Closures.{has_pair}
use Rattle.tree_model.proofs.SaidLemmas.{said_is_says}
use Rattle.tree_model.proofs.ViewLemmas.{says_tells, at_root}
use Rattle.forced_types.specs.Forced.{Forced, given_claim, given_front, same_exists, below_exists, prefix, same_refl, same_sym, same_trans, same_extend, same_type, introduced, met, raised, topped, constrained, constrained_front, IsPathIn, IsWithin}
use Rattle.forced_types.specs.Verdicts.{Verdict, Fits, Clash, TooLong, IsVerdict, Clashes, IsTooLong}

-- the claim, or, of one that a path exists, a claim of that path's type
abbrev Covers : (Claim → Type 0) → Claim → Type 0
Covers G c = G c ⊎ ((p : Path) × (t : ℕ) × (c ≡ exists_at p) × G (below p t))

-- what is covered forces no more
module _ (s : System) (most : ℕ) {G H : Claim → Type 0} (covers : (c : Claim) → G c → Covers H c) where
  by_claim : (c : Claim) → Covers H c → IsWithin most c → Forced s most H c
  by_claim c (inl h) w = given_claim c h w
  by_claim c (inr z) w =
      let e = z.2 in
      subst (Forced s most H) (sym e) (below_exists z.0 z.1 (given_claim (below z.0 z.1) z.3 (subst (IsWithin most) e w)))

  by_front : (c : Claim) (p q : Path) → Covers H c → IsPathIn (p ++ q) c → length p ≤ most → Forced s most H (exists_at p)
  by_front c p q (inl h) i l = given_front c p q h i l
  by_front c p q (inr z) i l = given_front (below z.0 z.1) p q z.3 (subst (IsPathIn (p ++ q)) z.2 i) l

  covered : {c : Claim} → Forced s most G c → Forced s most H c
  covered (given_claim c g w) = by_claim c (covers c g) w
  covered (given_front c p q g i l) = by_front c p q (covers c g) i l
  covered (same_exists p q a) = same_exists p q (covered a)
  covered (below_exists p t a) = below_exists p t (covered a)
  covered (prefix p q a) = prefix p q (covered a)
  covered (same_refl p a) = same_refl p (covered a)
  covered (same_sym p q a) = same_sym p q (covered a)
  covered (same_trans p q r a b) = same_trans p q r (covered a) (covered b)
  covered (same_extend p q r a b l) = same_extend p q r (covered a) (covered b) l
  covered (same_type p q t a b) = same_type p q t (covered a) (covered b)
  covered (introduced p f a) = introduced p f (covered a)
  covered (met p t u m a b e) = met p t u m (covered a) (covered b) e
  covered (raised p t u a e) = raised p t u (covered a) e
  covered (topped p a) = topped p (covered a)
  covered (constrained p t c a h w) = constrained p t c (covered a) h w
  covered (constrained_front p t c q r a h i l) = constrained_front p t c q r (covered a) h i l

-- and so gives no other verdict
module _ (s : System) {G H : Claim → Type 0} (to : (c : Claim) → G c → Covers H c) (back : (c : Claim) → H c → Covers G c) where
  clash_to : {p : Path} {t u : ℕ} → Clashes s G p t u → Clashes s H p t u
  clash_to c = record { first = covered s _ to c.first; second = covered s _ to c.second; apart = c.apart }

  clash_back : {p : Path} {t u : ℕ} → Clashes s H p t u → Clashes s G p t u
  clash_back c = record { first = covered s _ back c.first; second = covered s _ back c.second; apart = c.apart }

  long_to : {p : Path} → IsTooLong s G p → IsTooLong s H p
  long_to c = record { forced = covered s _ to c.forced; long = c.long }

  long_back : {p : Path} → IsTooLong s H p → IsTooLong s G p
  long_back c = record { forced = covered s _ back c.forced; long = c.long }

  same_verdict : (v : Verdict) → IsVerdict s G v → IsVerdict s H v
  same_verdict Fits h = (λ p t u c. h.0 p t u (clash_back c), λ p c. h.1 p (long_back c))
  same_verdict (Clash p t u) h = record { clashes = clash_to h.clashes; least = λ q v w c. h.least q v w (clash_back c); smaller = λ v w c. h.smaller v w (clash_back c) }
  same_verdict (TooLong p) h = (λ q t u c. h.0 q t u (clash_back c), record { long = long_to h.1.long; least = λ q c. h.1.least q (long_back c) })

beside_map : {A B : Type 0} (f : A → B) {a : A} {xs : List A} → Has a xs → Beside a (f a) xs (map f xs)
beside_map f here = beside_here
beside_map f (there h) = beside_there (beside_map f h)

-- a graph tells what its structure says, but for paths alone
tells_covers : (ps : List Path) (r : Reader) → IsInside ps r → (c : Claim) → Tells r c → Covers (Says ps (view ps r)) c
tells_covers ps r inside c a = by_tell c a
  where
    typed : (p : Path) (n : ℕ) → r.node_at p ≡ Some n → Says ps (view ps r) (below p (r.type_of n))
    typed p n e =
        let b = beside_map (λ p. view_type r (r.node_at p)) (inside p n e) in
        let y : view_type r (r.node_at p) ≡ Some (r.type_of n) = rw e refl in
        says_type p (r.type_of n) (subst (λ o. Beside p o ps (map (λ p. view_type r (r.node_at p)) ps)) y b)

    by_tell : (c : Claim) → Tells r c → Covers (Says ps (view ps r)) c
    by_tell _ (tells_exists p n e) = inr (p, r.type_of n, refl, typed p n e)
    by_tell _ (tells_below p n e) = inl (typed p n e)
    by_tell _ (tells_same p q n e f) =
        let b = beside_map (λ (pq : Path × Path). same_node (r.node_at pq.0) (r.node_at pq.1)) (has_pair (inside p n e) (inside q n f)) in
        let y : same_node (r.node_at p) (r.node_at q) ≡ true = rw (e, f) (eq-eqb n n refl) in
        inl (says_equal p q (subst (λ o. Beside (p, q) o (pairs_of ps) (map (λ (pq : Path × Path). same_node (r.node_at pq.0) (r.node_at pq.1)) (pairs_of ps))) y b))

-- a claim moved to a place is covered where it is
moved : (place : Path) (G H : Claim → Type 0) → ((d : Claim) → G d → H (at place d)) → (c : Claim) → Covers G c → Covers H (at place c)
moved place G H k c (inl g) = inl (k c g)
moved place G H k c (inr z) = let e = z.2 in inr (place ++ z.0, z.1, subst (λ d. at place d ≡ exists_at (place ++ z.0)) (sym e) refl, k (below z.0 z.1) z.3)

graph_at : (ps : List Path) {place : Path} {m : Structure} {places : List Path} {ms : List Structure} → Beside place m places ms → (rs : List Reader) → ms ≡ map (view ps) rs → (r : Reader) × Beside place r places rs × (view ps r ≡ m)
graph_at ps beside_here [] e = absurd (cc)
graph_at ps beside_here (r ∷ rs) e = (r, beside_here, cc)
graph_at ps (beside_there h) [] e = absurd (cc)
graph_at ps (beside_there {ys = ms} h) (r ∷ rs) e = let z = graph_at ps h rs (let y : ms ≡ map (view ps) rs = cc in y) in (z.0, beside_there z.1, z.2)

view_beside : (ps : List Path) {place : Path} {r : Reader} {places : List Path} {rs : List Reader} → AllInside ps rs → Beside place r places rs → IsInside ps r × Beside place (view ps r) places (map (view ps) rs)
view_beside ps inside_none h = elim h [ ]
view_beside ps (inside_more i is) beside_here = (i, beside_here)
view_beside ps (inside_more i is) (beside_there h) = let z = view_beside ps is h in (z.0, beside_there z.1)

beside_part : (places : List Path) (rs : List Reader) {part : Part} → Has part (parts_at places rs) → Beside part.place part.reader places rs
beside_part [] rs h = elim h [ ]
beside_part (p ∷ ps) [] h = elim h [ ]
beside_part (p ∷ ps) (r ∷ rs) here = beside_here
beside_part (p ∷ ps) (r ∷ rs) (there h) = beside_there (beside_part ps rs h)

part_beside : {place : Path} {r : Reader} {places : List Path} {rs : List Reader} → Beside place r places rs → Has (record { place = place; reader = r }) (parts_at places rs)
part_beside beside_here = here
part_beside (beside_there h) = there (part_beside h)

module _ (s : System) (ps : List Path) (r : Reader) (places : List Path) (rs : List Reader) where
  abbrev Graphs : Claim → Type 0
  Graphs = Told (source_of (rule_alone r places) rs)

  abbrev Structures : Claim → Type 0
  Structures = Parts ps (rule_said ps r places) (map (view ps) rs)

  to_structures : IsInside ps r → AllInside ps rs → (c : Claim) → Graphs c → Covers Structures c
  to_structures inside all c (told_claim _ h) = elim h [ ]
  to_structures inside all _ (told_part part c here a) =
      moved [] (Says ps (view ps r)) Structures (λ d y. subst Structures (sym (at_root d)) (of_rule d ((said_is_says ps (view ps r) d).1 y))) c (tells_covers ps r inside c a)
  to_structures inside all _ (told_part part c (there h) a) =
      let z = view_beside ps all (beside_part places rs h) in
      moved part.place (Says ps (view ps part.reader)) Structures (λ d y. of_daughter part.place (view ps part.reader) d z.1 y) c (tells_covers ps part.reader z.0 c a)

  to_graphs : (c : Claim) → Structures c → Covers Graphs c
  to_graphs c (of_rule _ h) =
      inl (subst Graphs (at_root c) (told_part (record { place = []; reader = r }) c here (says_tells s ps r c ((said_is_says ps (view ps r) c).0 h))))
  to_graphs _ (of_daughter place m c h a) =
      let z = graph_at ps h rs refl in
      inl (told_part (record { place = place; reader = z.0 }) c (there (part_beside z.1)) (says_tells s ps z.0 c (subst (λ x. Says ps x c) (sym z.2) a)))

  -- of graphs whose paths are within those that may be
  pub verdict_on_graphs : IsInside ps r → AllInside ps rs → (v : Verdict) → IsVerdict s Graphs v ↔ IsVerdict s Structures v
  verdict_on_graphs inside all v = (same_verdict s (to_structures inside all) to_graphs v, same_verdict s to_graphs (to_structures inside all) v)
