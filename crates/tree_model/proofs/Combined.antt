-- What a rule makes of one tree of each list, counted without the trees.
use Rattle.std.specs.Prelude.{◌≡◌, ◌⊎◌, ℕ, ◌≤◌, true, List, [], ◌∷◌, ◌++◌, length, map, refl}
use Rattle.std.proofs.Common.{inl, inr, ap, subst, sym, ◌∙◌, arith, append_assoc, append-nil}
use Rattle.std.proofs.lemmas.Nat.{mul-le}
use Rattle.derivation.specs.Trees.{Derivation, phrase}
use Rattle.derivation.specs.Views.{in_order}
use Rattle.tree_model.specs.Readings.{Wholes}
use Rattle.tree_model.specs.Lists.{Has, has_here, has_there, Item, choices, Makes, makes_none, makes}
use Rattle.tree_model.proofs.Members.{has_left, has_right, has_map}
use Rattle.tree_model.proofs.Choices.{Picks, picks_none, picks_more, choice_picks, AllKeyed, keyed_none, keyed_more, differ_choices}
use Rattle.tree_model.proofs.Making.{trees_in, fulls_in, item_of, Made, makes_sound, makes_differ}
use Rattle.tree_model.specs.Counts.{Class, fulls_of, ways, Counts, counts_none, counts_some, CountsAll, all_picked, one_picked, CountsEach, each_stops, each_more}
use Rattle.tree_model.proofs.Apart.{Apart, apart_differ, differ_apart, apart_left, apart_right, apart_between, length_spread, length_map}
use Rattle.tree_model.proofs.Tallies.{Tally, tally_more, Tallied, tallied_wider, gains_tallied}

in_order_one : (xs ys : List Derivation) → in_order xs ≡ in_order ys → xs ≡ ys
in_order_one [] [] e = refl
in_order_one [] (y ∷ ys) e = absurd (cc)
in_order_one (x ∷ xs) [] e = absurd (cc)
in_order_one (x ∷ xs) (y ∷ ys) e =
    let p : in_order xs ≡ in_order ys = cc in
    let q : x ≡ y = cc in
    let r = in_order_one xs ys p in cc

module _ {V : Type 0} where
  -- the items of each of these
  pub data Fronts : List (Class V) → List (List (Item V)) → Type 0 where
    fronts_none : Fronts [] []
    fronts_more : {c : Class V} {cs : List (Class V)} {b : List (Item V)} {bs : List (List (Item V))} → c.times ≤ length b → ((x : Item V) → Has x b → x.full ≡ c.full) → Apart b → Fronts cs bs → Fronts (c ∷ cs) (b ∷ bs)

  -- lists of counts, and what each counts
  pub data AreTallied : List (List (Class V)) → List (List (Item V)) → Type 0 where
    are_none : AreTallied [] []
    are_more : {cs : List (Class V)} {xs : List (Item V)} {css : List (List (Class V))} {xss : List (List (Item V))} → Tally cs xs → Apart xs → AreTallied css xss → AreTallied (cs ∷ css) (xs ∷ xss)

  fronts_push : {cs : List (Class V)} {bs : List (List (Item V))} (c : Class V) (b : List (Item V)) → Fronts cs bs → c.times ≤ length b → ((x : Item V) → Has x b → x.full ≡ c.full) → Apart b → Fronts (cs ++ c ∷ []) (bs ++ b ∷ [])
  fronts_push c b fronts_none many same apart = fronts_more many same apart fronts_none
  fronts_push c b (fronts_more much alike a rest) many same apart = fronts_more much alike a (fronts_push c b rest many same apart)

  fronts_ways : {cs : List (Class V)} {bs : List (List (Item V))} → Fronts cs bs → ways cs ≤ length (choices bs)
  fronts_ways fronts_none = omega arith
  fronts_ways (fronts_more {c = c} {cs = cs} {b = b} {bs = bs} much alike a rest) =
      let n = mul-le c.times (ways cs) (length b) (length (choices bs)) much (fronts_ways rest) in
      let e = length_spread b (choices bs) in
      omega (arith, n, e)

  fronts_keyed : {cs : List (Class V)} {bs : List (List (Item V))} → Fronts cs bs → AllKeyed (λ (i : Item V). i.tree) bs
  fronts_keyed fronts_none = keyed_none
  fronts_keyed (fronts_more much alike a rest) = keyed_more (apart_differ a) (fronts_keyed rest)

  picked_fulls : {cs : List (Class V)} {bs : List (List (Item V))} {ps : List (Item V)} → Fronts cs bs → Picks ps bs → fulls_in ps ≡ fulls_of cs
  picked_fulls fronts_none picks_none = refl
  picked_fulls (fronts_more {c = c} {cs = cs} much alike a rest) (picks_more {x = x} {ps = ps} h more) =
      let e = alike x h in
      let f = picked_fulls rest more in
      rw (e, f) refl

  -- two that were picked from lists that are apart at a place differ
  middle : (fs : List (List (Item V))) (b ys : List (Item V)) (xss : List (List (Item V))) {ps qs : List (Item V)} → Picks ps (fs ++ b ∷ xss) → Picks qs (fs ++ ys ∷ xss) → Apart (b ++ ys) → trees_in ps ≡ trees_in qs → ⊥
  middle [] b ys xss (picks_more {x = x} h _) (picks_more {x = y} g _) apart e = let t : x.tree ≡ y.tree = cc in apart_between b ys apart x y h g t
  middle (f ∷ fs) b ys xss (picks_more {ps = ps} h m) (picks_more {ps = qs} g n) apart e = let t : trees_in ps ≡ trees_in qs = cc in middle fs b ys xss m n apart t

  widened : (fs : List (List (Item V))) (b c : List (Item V)) (xss : List (List (Item V))) {ps : List (Item V)} → ((x : Item V) → Has x b → Has x c) → Picks ps (fs ++ b ∷ xss) → Picks ps (fs ++ c ∷ xss)
  widened [] b c xss go (picks_more {x = x} h m) = picks_more (go x h) m
  widened (f ∷ fs) b c xss go (picks_more h m) = picks_more h (widened fs b c xss go m)

module _ {C V : Type 0} (w : Wholes V C) (rule : ℕ) where
  -- what the rule makes of one of each list
  pub record Comes (xss : List (List (Item V))) (x : Item V) : Type 0 where
    pub parts : List (Item V)
    pub picks : Picks parts xss
    pub full : w.full rule (fulls_in parts) x.full
    pub is : x.tree ≡ phrase (w.place rule) (in_order (trees_in parts))

  same_parts : {xss yss : List (List (Item V))} {x y : Item V} (a : Comes xss x) (b : Comes yss y) → x.tree ≡ y.tree → trees_in a.parts ≡ trees_in b.parts
  same_parts a b e =
      let f : phrase (w.place rule) (in_order (trees_in a.parts)) ≡ phrase (w.place rule) (in_order (trees_in b.parts)) = sym a.is ∙ e ∙ b.is in
      let p : in_order (trees_in a.parts) ≡ in_order (trees_in b.parts) = cc in
      in_order_one (trees_in a.parts) (trees_in b.parts) p

  comes_wider : (fs : List (List (Item V))) (b c : List (Item V)) (xss : List (List (Item V))) (x : Item V) → ((y : Item V) → Has y b → Has y c) → Comes (fs ++ b ∷ xss) x → Comes (fs ++ c ∷ xss) x
  comes_wider fs b c xss x go m = record { parts = m.parts; picks = widened fs b c xss go m.picks; full = m.full; is = m.is }

  -- all choices of items that have the same full structures
  all_made : (v : V) (vs : List V) → w.full rule vs v → (pss : List (List (Item V))) → ((ps : List (Item V)) → Has ps pss → fulls_in ps ≡ vs) → Makes w rule true pss (map (λ ps. item_of w rule true ps v) pss)
  all_made v vs f [] same = makes_none
  all_made v vs f (ps ∷ pss) same = makes ps pss _ v (subst (λ zs. w.full rule zs v) (sym (same ps has_here)) f) (all_made v vs f pss (λ qs h. same qs (has_there h)))

  made_comes : {xss : List (List (Item V))} (x : Item V) → Made w rule true (choices xss) x → Comes xss x
  made_comes {xss = xss} x m = record { parts = m.parts; picks = choice_picks xss m.has; full = m.full; is = ap (λ (i : Item V). i.tree) m.is }

  made_full : (v : V) (pss : List (List (Item V))) (x : Item V) → Has x (map (λ ps. item_of w rule true ps v) pss) → x.full ≡ v
  made_full v pss x h = let r = has_map (λ ps. item_of w rule true ps v) pss h in sym (ap (λ (i : Item V). i.full) r.is)

  counted : {picked old new : List (Class V)} {fs : List (List (Item V))} {Q : Item V → Type 0} → Counts w rule picked old new → Fronts picked fs → Tallied old Q → ((x y : Item V) → Q x → Comes fs y → x.tree ≡ y.tree → ⊥) → Tallied new (λ x. Q x ⊎ Comes fs x)
  counted counts_none fronts t fresh = tallied_wider (λ x q. inl q) t
  counted {picked = picked} {fs = fs} (counts_some v _ full gains) fronts t fresh =
      let makes_all = all_made v (fulls_of picked) full (choices fs) (λ ps h. picked_fulls fronts (choice_picks fs h)) in
      let b = map (λ ps. item_of w rule true ps v) (choices fs) in
      let comes = λ (x : Item V) (h : Has x b). made_comes x (makes_sound w rule true makes_all x h) in
      gains_tallied v (ways picked) b gains t (let n = fronts_ways fronts in let e = length_map (λ ps. item_of w rule true ps v) (choices fs) in omega (arith, n, e)) (made_full v (choices fs))
      (differ_apart b (makes_differ w rule true makes_all (differ_choices (λ (i : Item V). i.tree) (fronts_keyed fronts)))) comes (λ x y q h. fresh x y q (comes y h))

  abbrev Fresh : (Item V → Type 0) → List (List (Item V)) → Type 0
  Fresh Q xss = (x y : Item V) → Q x → Comes xss y → x.tree ≡ y.tree → ⊥

  front_next : (fs : List (List (Item V))) (b : List (Item V)) (xss : List (List (Item V))) → (fs ++ b ∷ []) ++ xss ≡ fs ++ b ∷ xss
  front_next fs b xss = append_assoc fs (b ∷ []) xss

  joined : {Q : Item V → Type 0} (fs : List (List (Item V))) (b ys : List (Item V)) (xss : List (List (Item V))) → Fresh Q (fs ++ (b ++ ys) ∷ xss) → Apart (b ++ ys) → Fresh (λ x. Q x ⊎ Comes ((fs ++ b ∷ []) ++ xss) x) (fs ++ ys ∷ xss)
  joined fs b ys xss fresh apart x y (inl q) c e = fresh x y q (comes_wider fs ys (b ++ ys) xss y (λ z h. has_right b h) c) e
  joined fs b ys xss fresh apart x y (inr d) c e =
      let first = subst (λ zs. Comes zs x) (front_next fs b xss) d in
      middle fs b ys xss first.picks c.picks apart (same_parts first c e)

  both : (Q : Item V → Type 0) (fs : List (List (Item V))) (b ys : List (Item V)) (xss : List (List (Item V))) (x : Item V) → (Q x ⊎ Comes ((fs ++ b ∷ []) ++ xss) x) ⊎ Comes (fs ++ ys ∷ xss) x → Q x ⊎ Comes (fs ++ (b ++ ys) ∷ xss) x
  both Q fs b ys xss x (inl (inl q)) = inl q
  both Q fs b ys xss x (inl (inr d)) = inr (comes_wider fs b (b ++ ys) xss x (λ z h. has_left ys h) (subst (λ zs. Comes zs x) (front_next fs b xss) d))
  both Q fs b ys xss x (inr c) = inr (comes_wider fs ys (b ++ ys) xss x (λ z h. has_right b h) c)

  mutual
    pub all_counted : {picked old new : List (Class V)} {css : List (List (Class V))} {fs xss : List (List (Item V))} {Q : Item V → Type 0} → CountsAll w rule picked css old new → Fronts picked fs → AreTallied css xss → Tallied old Q → Fresh Q (fs ++ xss) → Tallied new (λ x. Q x ⊎ Comes (fs ++ xss) x)
    all_counted {new = new} {fs = fs} {Q = Q} (all_picked counts) fronts are_none t fresh =
        subst (λ zs. Tallied new (λ x. Q x ⊎ Comes zs x)) (sym (append-nil fs)) (counted counts fronts t (subst (λ zs. Fresh Q zs) (append-nil fs) fresh))
    all_counted (one_picked each) fronts (are_more tally apart more) t fresh = each_counted each fronts tally apart more t fresh

    each_counted : {picked old new cs : List (Class V)} {css : List (List (Class V))} {fs xss : List (List (Item V))} {xs : List (Item V)} {Q : Item V → Type 0} → CountsEach w rule picked cs css old new → Fronts picked fs → Tally cs xs → Apart xs → AreTallied css xss → Tallied old Q → Fresh Q (fs ++ xs ∷ xss) → Tallied new (λ x. Q x ⊎ Comes (fs ++ xs ∷ xss) x)
    each_counted each_stops fronts tally apart more t fresh = tallied_wider (λ x q. inl q) t
    each_counted {fs = fs} {xss = xss} {Q = Q} (each_more {c = c} one rest) fronts (tally_more {xs = ys} b many same tally) apart more t fresh =
        let first = all_counted one (fronts_push c b fronts many same (apart_left b ys apart)) more t
        (λ x y q d e. fresh x y q (comes_wider fs b (b ++ ys) xss y (λ z h. has_left ys h) (subst (λ zs. Comes zs y) (front_next fs b xss) d)) e) in
        let others = each_counted rest fronts tally (apart_right b ys apart) more first (joined fs b ys xss fresh apart) in
        tallied_wider (both Q fs b ys xss) others
