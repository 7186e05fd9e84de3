-- The walk over a tree that makes structures: each open phrase is the next daughter of the one before it, and what its steps come to.
use Rattle.std.specs.Prelude.{ℕ, zero, suc, ◌≡◌, ◌+◌, ◌<◌, ◌≤◌, All, Some, List, [], ◌∷◌, ◌++◌, length, map, take, drop, replicate, slice_get, Vec}
use Rattle.std.specs.Global.{Global}
use Rattle.std.specs.Arc.{arc_value}
use Rattle.std.specs.declared.sync.Arc.{Arc}
use Rattle.std.proofs.Common.{refl, sym, ap, subst, ◌∙◌, arith, append_assoc}
use Rattle.std.proofs.lemmas.List.{length-map, map-append, drop_more, take_more, take_all}
use Rattle.std.proofs.lemmas.List.Sums.{sum_by_push}
use Rattle.std.proofs.lemmas.List.Elements.{All-nil, All-cons, All-head, All-tail, All-push}
use Rattle.std.proofs.lemmas.Option.{slice_get_within, get_or_from_slice_get}
use Rattle.derivation.specs.Trees.{Derivation, lexical, phrase}
use Rattle.derivation.specs.declared.Tree.{Tree}
use Rattle.derivation.specs.declared.Tree.TheVariants.{Phrase}
use Rattle.derivation.specs.Views.{derivation_of, in_order}
use Rattle.derivation.proofs.Weights.{weight, weights}
use Rattle.derivation.proofs.Rows.{derivation_of-Phrase}
use Rattle.tree_model.specs.Structures.{Structure}
use Rattle.tree_model.specs.Signs.{Signs}
use Rattle.tree_model.specs.Trees.{Full, Fulls, no_fulls, more_fulls}
use Rattle.forest_unpack.specs.Parts.{AreParts, parts_of}
use Rattle.book_signs.specs.Trees.{SignTree, signs_of, HaveArities}
use Rattle.rule_trees.specs.Fulls.{FullTree}
use Rattle.rule_trees.specs.Mothers.{view_in, HasDaughters}
use Rattle.tree_structures.specs.Formed.{IsFormed, AreFormed, count_of}
use Rattle.tree_structures.specs.Known.{view_of}
use Rattle.tree_structures.proofs.Rows.{has_daughters, few}
use Rattle.tree_faults.specs.declared.building.Building.{Building}
use Rattle.tree_faults.specs.declared.building.Next.TheVariants.{Down, Below, Here}
use Rattle.tree_faults.specs.declared.building.Walk.TheVariants.{On, Done, Stuck}
use Rattle.tree_faults.specs.declared.making.Lack.{Lack}
use Rattle.tree_faults.specs.declared.making.Outcome.TheVariants as outcomes
use Rattle.tree_faults.specs.Nodes.{Place}
use Rattle.tree_faults.specs.Inner.Structures.{views_of, LacksAt}
use Rattle.tree_faults.specs.Inner.Building.{daughters_in, open_tree, IsNext, IsBegun, IsBelow, Follows, IsWalking, place_below, rest_of, left_in, left_above, left_of, WalksOn}
use Rattle.tree_faults.proofs.Lacking.{lift_daughter}

pub next_low : (o : Building) (d : Derivation) → IsNext o d → o.known.count < length o.daughters.now
next_low o d n = let low = slice_get_within (daughters_in o) o.known.count d n in let long = length-map o.daughters.now derivation_of in omega (arith, low, long)

down : (whole : Derivation) (os : List Building) (last new : Building) → IsBelow whole os last → IsNext last (open_tree new) → IsBelow whole (os ++ last ∷ []) new
down whole [] last new h n = (open_tree new, h, n, refl)
down whole (o ∷ os) last new h n = (h.0, h.1, h.2, down h.0 os last new h.3 n)

up : (whole : Derivation) (os : List Building) (o last : Building) → IsBelow whole (os ++ o ∷ []) last → IsBelow whole os o × IsNext o (open_tree last)
up whole [] o last h = (h.1, subst (IsNext o) h.3 h.2)
up whole (x ∷ os) o last h = let rest = up h.0 os o last h.3 in ((h.0, h.1, h.2, rest.0), rest.1)

along : (whole : Derivation) (os : List Building) (a b : Building) → IsBelow whole os a → open_tree a ≡ open_tree b → IsBelow whole os b
along whole [] a b h is = h ∙ is
along whole (o ∷ os) a b h is = (h.0, h.1, h.2, along h.0 os a b h.3 is)

same_tree : (a b : Building) → a.rule ≡ b.rule → a.daughters.now ≡ b.daughters.now → open_tree a ≡ open_tree b
same_tree a b r d = ap (λ rule. phrase rule (in_order (daughters_in a))) r ∙ ap (λ ts. phrase b.rule (in_order (map derivation_of ts))) d

take_get : {X : Type 0} (xs : List X) (k : ℕ) (x : X) → slice_get xs k ≡ Some x → take (k + 1) xs ≡ take k xs ++ x ∷ []
take_get xs k x e = take_more xs k x (slice_get_within xs k x e) ∙ ap (λ y. take k xs ++ y ∷ []) (get_or_from_slice_get xs k x x e)

module _ (g : Signs) where
  formed_next : (ds : List Derivation) (k : ℕ) (d : Derivation) → slice_get ds k ≡ Some d → AreFormed g (in_order ds) → IsFormed g d
  formed_next [] k d e h = absurd (cc)
  formed_next (x ∷ xs) zero d e h = let same : x ≡ d = cc in subst (IsFormed g) same h.0
  formed_next (x ∷ xs) (suc k) d e h = formed_next xs k d e h.1

  pub next_formed : (o : Building) (d : Derivation) → IsNext o d → IsFormed g (open_tree o) → IsFormed g d
  next_formed o d n formed = formed_next (daughters_in o) o.known.count d n formed.1

  pub below_formed : (whole : Derivation) (os : List Building) (last : Building) → IsBelow whole os last → IsFormed g whole → IsFormed g (open_tree last)
  below_formed whole [] last h formed = subst (IsFormed g) h formed
  below_formed whole (o ∷ os) last h formed =
      let here : IsFormed g (open_tree o) = subst (IsFormed g) h.1 formed in
      below_formed h.0 os last h.3 (formed_next (daughters_in o) o.known.count h.0 h.2 here.1)

  push : (ds : List Derivation) (d : Derivation) (fs : List Structure) (f : Structure) → Fulls g (in_order ds) fs → Full g d f → Fulls g (in_order (ds ++ d ∷ [])) (fs ++ f ∷ [])
  push [] d _ f no_fulls x = more_fulls x no_fulls
  push (e ∷ ds) d _ f (more_fulls {fs = fs} a all) x = more_fulls a (push ds d fs f all x)

count_in : (ds : List Derivation) → count_of (in_order ds) ≡ length ds
count_in [] = refl
count_in (d ∷ ds) = let c = count_in ds in omega (arith, c)

module _ (g : Signs) (arities : HaveArities g) (o : Building) (formed : IsFormed g (open_tree o)) where
  pub count_daughters : count_of (in_order (daughters_in o)) ≡ length o.daughters.now
  count_daughters = count_in (daughters_in o) ∙ length-map o.daughters.now derivation_of

  most_four : length o.daughters.now ≤ 4
  most_four = let n = few g o.rule (count_of (in_order (daughters_in o))) arities formed.0 in let c = count_daughters in omega (arith, n, c)

  next_four : (d : Derivation) → IsNext o d → o.known.count < 4
  next_four d n = let low = next_low o d n in let most = most_four in omega (arith, low, most)

  -- all daughters have structures
  pub all_has : o.known.count ≡ length o.daughters.now → HasDaughters g o.rule o.known.count
  all_has all = subst (HasDaughters g o.rule) (count_daughters ∙ sym all) (has_daughters g o.rule (count_of (in_order (daughters_in o))) formed.0)

module _ (t : SignTree) where
  abbrev g : Signs
  g = signs_of t

  pub begun_all : (o : Building) → IsBegun t o → length o.daughters.now ≤ o.known.count → Fulls g (in_order (daughters_in o)) (views_of t o.known)
  begun_all o begun all =
      let long = length-map o.daughters.now derivation_of in
      subst (λ ds. Fulls g (in_order ds) (views_of t o.known)) (take_all o.known.count (daughters_in o) (omega (arith, long, all))) begun.full

  -- a phrase that was just opened
  pub begun_new : (o : Building) → AreParts o.known → o.known.count ≡ 0 → parts_of o.known ≡ [] → IsBegun t o
  begun_new o parts none nothing = record {
    parts = parts;
    within = omega (arith, none);
    full = subst (λ k. Fulls g (in_order (take k (daughters_in o))) (views_of t o.known)) (sym none) (subst (λ (xs : List FullTree). Fulls g (in_order []) (map (λ (f : FullTree). view_in t f.graph) xs)) (sym nothing) no_fulls);
  }

  -- one daughter more
  begun_more : (o new : Building) (d : Derivation) (full : Arc FullTree Global) → IsBegun t o → IsNext o d → Full g d (view_of t full) → new.daughters.now ≡ o.daughters.now →
      AreParts new.known → new.known.count ≡ o.known.count + 1 → parts_of new.known ≡ parts_of o.known ++ arc_value full ∷ [] → IsBegun t new
  begun_more o new d full begun next is same parts count known =
      let low = next_low o d next in
      let long : length new.daughters.now ≡ length o.daughters.now = ap length same in
      let viewer = λ (f : FullTree). view_in t f.graph in
      let views : views_of t new.known ≡ views_of t o.known ++ view_of t full ∷ [] = ap (map viewer) known ∙ map-append viewer (parts_of o.known) (arc_value full ∷ []) in
      let more : Fulls g (in_order (take (o.known.count + 1) (daughters_in o))) (views_of t o.known ++ view_of t full ∷ []) =
      subst (λ ds. Fulls g (in_order ds) (views_of t o.known ++ view_of t full ∷ [])) (sym (take_get (daughters_in o) o.known.count d next)) (push g (take o.known.count (daughters_in o)) d (views_of t o.known) (view_of t full) begun.full is) in
      record {
        parts = parts;
        within = omega (arith, low, long, count);
        full = subst (λ k. Fulls g (in_order (take k (daughters_in new))) (views_of t new.known)) (sym count)
            (subst (λ ts. Fulls g (in_order (take (o.known.count + 1) (map derivation_of ts))) (views_of t new.known)) (sym same) (subst (Fulls g (in_order (take (o.known.count + 1) (daughters_in o)))) (sym views) more));
      }

  -- the first node without a structure in an open phrase is that of the whole tree
  lifted : (whole : Derivation) (os : List Building) (last : Building) (place : Place) (lack : Lack) → IsBelow whole os last → All (IsBegun t) os → LacksAt t (open_tree last) place lack → LacksAt t whole (place_below os ++ place) lack
  lifted whole [] last place lack below waits is = subst (λ d. LacksAt t d place lack) (sym below) is
  lifted whole (o ∷ os) last place lack below waits is =
      let inner = lifted below.0 os last place lack below.3 (All-tail (IsBegun t) o os waits) is in
      let begun = All-head (IsBegun t) o os waits in
      let k : suc o.known.count ≡ o.known.count + 1 = omega arith in
      subst (λ d. LacksAt t d (place_below (o ∷ os) ++ place) lack) (sym below.1)
      (subst (λ n. LacksAt t (open_tree o) (n ∷ (place_below os ++ place)) lack) k
      (record { first = lift_daughter g (daughters_in o) o.known.count below.0 below.2 begun.full inner.first; refusal = inner.refusal }))

  last_begun : (xs : List Building) (o : Building) → All (IsBegun t) (xs ++ o ∷ []) → All (IsBegun t) xs × IsBegun t o
  last_begun [] o h = (All-nil (IsBegun t), All-head (IsBegun t) o [] h)
  last_begun (x ∷ xs) o h = let rest = last_begun xs o (All-tail (IsBegun t) x (xs ++ o ∷ []) h) in
      (All-cons (IsBegun t) x xs (All-head (IsBegun t) x (xs ++ o ∷ []) h) rest.0, rest.1)

some_weight : (d : Derivation) → 0 < weight d
some_weight (lexical entry rules words nodes) = omega arith
some_weight (phrase rule ds) = omega arith

rest_next : (o : Building) (d : Derivation) → IsNext o d → left_in o ≡ weight d + left_above o
rest_next o d n =
    let cut = drop_more (daughters_in o) o.known.count d (slice_get_within (daughters_in o) o.known.count d n) in
    let is = get_or_from_slice_get (daughters_in o) o.known.count d d n in
    let whole : rest_of o.known.count o ≡ weight d + rest_of (o.known.count + 1) o = ap (λ ds. weights (in_order ds)) cut ∙ ap (λ x. weight x + rest_of (o.known.count + 1) o) is in
    omega (arith, whole)

down_less : (os : List Building) (o new : Building) → IsNext o (open_tree new) → new.known.count ≡ 0 → left_of (os ++ o ∷ []) new < left_of os o
down_less os o new n none =
    let more = sum_by_push left_above os o in
    let here = rest_next o (open_tree new) n in
    let inner : rest_of new.known.count new ≡ weights (in_order (daughters_in new)) = ap (λ k. rest_of k new) none in
    omega (arith, more, here, inner)

rest_same : (a b : Building) → a.daughters.now ≡ b.daughters.now → (k j : ℕ) → k ≡ j → rest_of k a ≡ rest_of j b
rest_same a b d k j e = ap (λ i. rest_of i a) e ∙ ap (λ ts. weights (in_order (drop j (map derivation_of ts)))) d

leaf_less : (os : List Building) (o new : Building) (d : Derivation) → IsNext o d → new.daughters.now ≡ o.daughters.now → new.known.count ≡ o.known.count + 1 → left_of os new < left_of os o
leaf_less os o new d n same count =
    let here = rest_next o d n in
    let some = some_weight d in
    let on = rest_same new o same new.known.count (o.known.count + 1) count in
    omega (arith, here, some, on)

up_less : (os : List Building) (above o new : Building) → new.daughters.now ≡ above.daughters.now → new.known.count ≡ above.known.count + 1 → left_of os new < left_of (os ++ above ∷ []) o
up_less os above o new same count =
    let more = sum_by_push left_above os above in
    let on = rest_same new above same new.known.count (above.known.count + 1) count in
    omega (arith, more, on)

-- a phrase is the one before it with one more structure
pub record IsOn (o new : Building) (full : Arc FullTree Global) : Type 0 where
  pub rule : new.rule ≡ o.rule
  pub daughters : new.daughters.now ≡ o.daughters.now
  pub known : AreParts o.known → o.known.count < 4 → AreParts new.known × (new.known.count ≡ o.known.count + 1) × (parts_of new.known ≡ parts_of o.known ++ arc_value full ∷ [])

module _ (t : SignTree) (whole : Derivation) (arities : HaveArities (signs_of t)) (formed : IsFormed (signs_of t) whole) where
  pub walk_down : (os new : List Building) (o below : Building) → IsWalking t whole os o → Follows t o (Down below) → new ≡ os ++ o ∷ [] → WalksOn t whole new (left_of os o) (On below)
  walk_down os new o below w f is = subst (λ ws. WalksOn t whole ws (left_of os o) (On below)) (sym is) (
    record { below = down whole os o below w.below f.0; waits = All-push (IsBegun t) os o w.waits w.begun; begun = f.1 },
    down_less os o below f.0 f.2,
  )

  pub walk_leaf : (os : List Building) (o new : Building) (full : Arc FullTree Global) → IsOn o new full → IsWalking t whole os o → Follows t o (Below (outcomes.Full full)) → WalksOn t whole os (left_of os o) (On new)
  walk_leaf os o new full on w f =
      let room = next_four (signs_of t) arities o (below_formed (signs_of t) whole os o w.below formed) f.0 f.1 in
      let k = on.known w.begun.parts room in (
        record {
          below = along whole os o new w.below (sym (same_tree new o on.rule on.daughters));
          waits = w.waits;
          begun = begun_more t o new f.0 full w.begun f.1 f.2 on.daughters k.0 k.1 k.2;
        },
        leaf_less os o new f.0 f.1 on.daughters k.1,
      )

  pub walk_up : (os all : List Building) (o new last : Building) (full : Arc FullTree Global) → IsOn o new full → all ≡ os ++ o ∷ [] → IsWalking t whole all last → Follows t last (Here (outcomes.Full full)) → WalksOn t whole os (left_of all last) (On new)
  walk_up os all o new last full on is w f = subst (λ ws. IsWalking t whole ws last → WalksOn t whole os (left_of ws last) (On new)) (sym is) here w
    where
      here : IsWalking t whole (os ++ o ∷ []) last → WalksOn t whole os (left_of (os ++ o ∷ []) last) (On new)
      here v =
          let above = up whole os o last v.below in
          let d = open_tree last in
          let room = next_four (signs_of t) arities o (below_formed (signs_of t) whole os o above.0 formed) d above.1 in
          let begun = last_begun t os o v.waits in
          let k = on.known begun.1.parts room in (
            record {
              below = along whole os o new above.0 (sym (same_tree new o on.rule on.daughters));
              waits = begun.0;
              begun = begun_more t o new d full begun.1 above.1 f on.daughters k.0 k.1 k.2;
            },
            up_less os o last new on.daughters k.1,
          )

  pub walk_done : (os new : List Building) (o : Building) (full : Arc FullTree Global) (left : ℕ) → length os ≡ 0 → IsWalking t whole os o → Follows t o (Here (outcomes.Full full)) → WalksOn t whole new left (Done full)
  walk_done [] new o full left none w f = subst (λ d. Full (signs_of t) d (view_of t full)) (sym w.below) f
  walk_done (x ∷ xs) new o full left none w f = absurd (omega (arith, none))

  -- the phrase itself lacks a structure
  pub walk_lacks : (os : List Building) (o : Building) (lack : Lack) (left : ℕ) → IsWalking t whole os o → Follows t o (Here (outcomes.Lacking lack)) → WalksOn t whole os left (Stuck lack)
  walk_lacks os o lack left w f = lifted t whole os o (replicate lack.depth 1) lack w.below w.waits f

  -- its next daughter does
  pub walk_below : (os new : List Building) (o : Building) (lack : Lack) (left : ℕ) → IsWalking t whole os o → Follows t o (Below (outcomes.Lacking lack)) → new ≡ os ++ o ∷ [] → WalksOn t whole new left (Stuck lack)
  walk_below os new o lack left w f is = subst (λ ws. LacksAt t whole (place_below ws ++ inner) lack) (sym is) (subst (λ p. LacksAt t whole p lack) place (lifted t whole os o ((o.known.count + 1) ∷ inner) lack w.below w.waits here))
    where
      inner : Place
      inner = replicate lack.depth 1

      here : LacksAt t (open_tree o) ((o.known.count + 1) ∷ inner) lack
      here =
          let k : suc o.known.count ≡ o.known.count + 1 = omega arith in
          subst (λ n. LacksAt t (open_tree o) (n ∷ inner) lack) k
          (record { first = lift_daughter (signs_of t) (daughters_in o) o.known.count f.0 f.1 w.begun.full f.2.first; refusal = f.2.refusal })

      place : place_below os ++ (o.known.count + 1) ∷ inner ≡ place_below (os ++ o ∷ []) ++ inner
      place = sym (ap (λ l. l ++ inner) (map-append (λ (x : Building). x.known.count + 1) os (o ∷ [])) ∙ append_assoc (place_below os) ((o.known.count + 1) ∷ []) inner)

pub walking_begin : (t : SignTree) (ws : List Building) (o : Building) (rule : ℕ) (ds : List Tree) → ws ≡ [] → o.rule ≡ rule → o.daughters.now ≡ ds → AreParts o.known → o.known.count ≡ 0 → parts_of o.known ≡ [] → IsWalking t (phrase rule (in_order (map derivation_of ds))) ws o
walking_begin t ws o rule ds empty r d parts none nothing =
    let is : open_tree o ≡ phrase rule (in_order (map derivation_of ds)) = ap (λ x. phrase x (in_order (daughters_in o))) r ∙ ap (λ ts. phrase rule (in_order (map derivation_of ts))) d in
    subst (λ xs. IsWalking t (phrase rule (in_order (map derivation_of ds))) xs o) (sym empty) (record {
      below = sym is;
      waits = All-nil (IsBegun t);
      begun = begun_new t o parts none nothing;
    })

-- a daughter that is a phrase
pub phrase_follows : (t : SignTree) (o new : Building) (item : Tree) (rule words : ℕ) (daughters : Arc (Vec Tree Global) Global) (read : List Tree) → IsNext o (derivation_of item) → item ≡ Phrase rule words daughters → read ≡ (arc_value daughters).items →
    new.rule ≡ rule → new.daughters.now ≡ read → AreParts new.known → new.known.count ≡ 0 → parts_of new.known ≡ [] → Follows t o (Down new)
phrase_follows t o new item rule words daughters read next is same r d parts none nothing =
    let tree : derivation_of item ≡ phrase rule (in_order (map derivation_of (arc_value daughters).items)) = ap derivation_of is ∙ derivation_of-Phrase rule words daughters in
    let here : open_tree new ≡ phrase rule (in_order (map derivation_of (arc_value daughters).items)) = ap (λ x. phrase x (in_order (daughters_in new))) r ∙ ap (λ ts. phrase rule (in_order (map derivation_of ts))) (d ∙ same) in
    (subst (IsNext o) (tree ∙ sym here) next, begun_new t new parts none nothing, none)
