-- Lists of one tree for each full structure: every tree of a group has the full structure of one that its list holds.
use Rattle.std.specs.Prelude.{◌≡◌, ℕ, true, false, Some, List, [], ◌∷◌, map, refl}
use Rattle.std.proofs.Common.{ap, subst, sym, ◌∙◌}
use Rattle.chart_model.specs.Calculus.{Calculus, Along, along_none, along_more}
use Rattle.chart_model.specs.At.{At, at_one}
use Rattle.chart_model.specs.Chart.{Chart, Leaf, Limits, Row, OfLeaf, OfWhole, is_free, leaf_row}
use Rattle.chart_model.specs.Finished.{IsComplete}
use Rattle.chart_model.specs.Grown.{Tree, leaf_tree, phrase, Trees, Stands, stands_leaf, stands_phrase, AllStand, none_stand, more_stand}
use Rattle.derivation.specs.Trees as derived
use Rattle.tree_model.specs.Readings.{Wholes, IsAccepted}
use Rattle.tree_model.specs.Forest.{Agree, AreApart, IsForest}
use Rattle.tree_model.specs.Lists.{Has, has_here, has_there, Item, IsFullOf, full_leaf, full_phrase, AreFullOf, no_full, more_full, GroupRow, Gives, gives_leaf, gives_whole, Gather, gather_none, gather_stops, gather_more, Describes, describes_leaf, describes_whole, IsToldGroup}
use Rattle.tree_model.proofs.Members.{has_left, has_map, has_right}
use Rattle.tree_model.proofs.Choices.{Picks, picks_none, picks_more, has_choice}
use Rattle.tree_model.proofs.Making.{fulls_in, item_of, makes_all}
use Rattle.tree_model.proofs.Held.{held}
use Rattle.forest_unpack.specs.Keeping.{Asked}
use Rattle.forest_unpack.specs.Skeletons.{hosts_in, HasRow}

module _ {M C V : Type 0} (k : Calculus M C) (w : Wholes V C) (limits : Limits) (leaves : List (Leaf M C)) (ch : Chart M C) (complete : IsComplete k limits leaves ch) (apart : AreApart k w leaves) where
  -- what is told of a row that is one of these
  record IsTellable (rows : List GroupRow) (i : ℕ) : Type 0 where
    pub row : GroupRow
    pub has : Has row rows
    pub told : Describes leaves ch i row

  tellable : {is : List ℕ} {rows : List GroupRow} → Along (Describes leaves ch) is rows → (i : ℕ) → Has i is → IsTellable rows i
  tellable along_none i h = elim h [ ]
  tellable (along_more {y = row} told more) _ has_here = record { row = row; has = has_here; told = told }
  tellable (along_more told more) i (has_there h) = let r = tellable more i h in record { row = r.row; has = has_there r.has; told = r.told }

  -- a leaf's row is no whole row
  no_leaf : (l rule : ℕ) (leaf : Leaf M C) (row : Row M C) → At leaves l leaf → At ch.rows l row → row.kind ≡ OfWhole rule → ⊥
  no_leaf l rule leaf row at rt kind =
      let e : leaf_row k limits leaf ≡ row = at_one (complete.leaf_rows.row_is l leaf at) rt in
      let p : OfLeaf leaf.name ≡ row.kind = ap (λ r. r.kind) e in cc

  module _ (table : ℕ → List (Item V)) (listed : ℕ → Type 0) where
    -- what one row gives is among the items of all
    record IsPart (row : GroupRow) (all : List (Item V)) : Type 0 where
      pub made : List (Item V)
      pub gives : Gives w false table listed row made
      pub within : (item : Item V) → Has item made → Has item all

    part : {rows : List GroupRow} {all : List (Item V)} → Gather w false table listed rows all → (row : GroupRow) → Has row rows → IsPart row all
    part gather_none row h = elim h [ ]
    part (gather_stops rows e) row h = absurd (cc)
    part (gather_more row rows xs ys given rest) _ has_here = record { made = xs; gives = given; within = λ item a. has_left ys a }
    part (gather_more first rows xs ys given rest) row (has_there h) = let p = part rest row h in record { made = p.made; gives = p.gives; within = λ item a. has_right xs (p.within item a) }

    -- the leaf is what its row gives
    leaf_given : (l : ℕ) (a : Leaf M C) → At leaves l a → {row : GroupRow} {made : List (Item V)} → Describes leaves ch l row → Gives w false table listed row made → Has {A = Item V} (record { tree = w.leaf_tree a.name; full = w.leaf_full a.name }) made
    leaf_given l a at (describes_leaf _ leaf bt) (gives_leaf _) = let e : leaf ≡ a = at_one bt at in subst (λ z. Has {A = Item V} (record { tree = w.leaf_tree a.name; full = w.leaf_full a.name }) (record { tree = w.leaf_tree z.name; full = w.leaf_full z.name } ∷ [])) (sym e) has_here
    leaf_given l a at (describes_whole _ rule row rt kind live) (gives_whole _ _ made there m) = absurd (no_leaf l rule a row at rt kind)

    -- what the daughters' lists give by a whole row
    record AreGiven (rule : ℕ) (ds : List ℕ) (made : List (Item V)) : Type 0 where
      pub there : (d : ℕ) → Has d ds → listed d
      pub each : (parts : List (Item V)) (v : V) → Picks parts (map table ds) → w.full rule (fulls_in parts) v → Has (item_of w rule false parts v) made

    whole_given : (i rule : ℕ) (row : Row M C) → At ch.rows i row → row.kind ≡ OfWhole rule → {told : GroupRow} {made : List (Item V)} → Describes leaves ch i told → Gives w false table listed told made → AreGiven rule row.daughters made
    whole_given i rule row rt kind (describes_leaf _ leaf at) (gives_leaf _) = absurd (no_leaf i rule leaf row at rt kind)
    whole_given i rule row rt kind (describes_whole _ q other at kind2 live) (gives_whole _ _ made there m) =
        let e : other ≡ row = at_one at rt in
        let same : OfWhole q ≡ OfWhole rule = sym kind2 ∙ ap (λ r. r.kind) e ∙ kind in
        let p : q ≡ rule = cc in
        let given : AreGiven q other.daughters made = record {
          there = there;
          each = λ parts v picks f. makes_all w q false refl (apart.one_full q) m parts v (has_choice picks) f;
        } in
        subst (λ z. AreGiven z row.daughters made) p (subst (λ z. AreGiven q z.daughters made) e given)

    -- the list of a host: all trees that the rows of its group give by the lists of their daughters, or one of each full structure
    pub record HasAll (h : ℕ) : Type 0 where
      pub told : List GroupRow
      pub all : List (Item V)
      pub group : IsToldGroup leaves ch h told
      pub gather : Gather w false table listed told all
      pub each : (item : Item V) → Has item all → Has item.full (fulls_in (table h))

    module _ (holds : (h : ℕ) → listed h → HasAll h) where
      record ArePicked (ds : List ℕ) (vs : List V) : Type 0 where
        pub parts : List (Item V)
        pub picks : Picks parts (map table ds)
        pub fulls : fulls_in parts ≡ vs

      picked_more : (d : ℕ) (ds : List ℕ) (v : V) (vs : List V) → Has v (fulls_in (table d)) → ArePicked ds vs → ArePicked (d ∷ ds) (v ∷ vs)
      picked_more d ds v vs h more =
          let m = has_map (λ (item : Item V). item.full) (table d) h in
          record {
            parts = m.source ∷ more.parts;
            picks = picks_more m.has more.picks;
            fulls = ap (λ z. z ∷ fulls_in more.parts) m.is ∙ ap (λ zs. v ∷ zs) more.fulls;
          }

      leaf_held : (l h : ℕ) (a : Leaf M C) → At leaves l a → listed h → Stands leaves ch (leaf_tree l) l h → Has (w.leaf_full a.name) (fulls_in (table h))
      leaf_held l h a at made s =
          let g = holds h made in
          let r = tellable g.group.told_of l (g.group.are.all _ l s) in
          let p = part g.gather r.row r.has in
          g.each (record { tree = w.leaf_tree a.name; full = w.leaf_full a.name }) (p.within _ (leaf_given l a at r.told p.gives))

      -- the row's trees, by the lists of its daughters
      given_by : (t : Tree) (i h rule : ℕ) (row : Row M C) → At ch.rows i row → row.kind ≡ OfWhole rule → listed h → Stands leaves ch t i h → (made : List (Item V)) × (AreGiven rule row.daughters made × ((item : Item V) → Has item made → Has item.full (fulls_in (table h))))
      given_by t i h rule row rt kind made s =
          let g = holds h made in
          let r = tellable g.group.told_of i (g.group.are.all t i s) in
          let p = part g.gather r.row r.has in
          (p.made, (whole_given i rule row rt kind r.told p.gives, λ item a. g.each item (p.within item a)))

      mutual
        -- the full structure of each tree of a group is that of one in the list of the group's host
        pub full_held : {t : Tree} {i h : ℕ} {d : derived.Derivation} {v : V} → listed h → Stands leaves ch t i h → IsFullOf w leaves t d v → Has v (fulls_in (table h))
        full_held {h = h} made (stands_leaf l_ok leads) (full_leaf l a at) = leaf_held l h a at made (stands_leaf l_ok leads)
        full_held {i = i} {h = h} made (stands_phrase row rt kind live ss leads) (full_phrase rule ts ds vs v fs f) =
            let g = given_by (phrase rule ts) i h rule row rt kind made (stands_phrase row rt kind live ss leads) in
            let p = fulls_held g.1.0.there ss fs in
            g.1.1 (item_of w rule false p.parts v) (g.1.0.each p.parts v p.picks (subst (λ zs. w.full rule zs v) (sym p.fulls) f))

        fulls_held : {ts : Trees} {ds : List ℕ} {es : derived.Daughters} {vs : List V} → ((d : ℕ) → Has d ds → listed d) → AllStand leaves ch ts ds → AreFullOf w leaves ts es vs → ArePicked ds vs
        fulls_held there none_stand no_full = record { parts = []; picks = picks_none; fulls = refl }
        fulls_held there (more_stand s ss) (more_full t ts d es v vs f fs) = picked_more _ _ v vs (full_held (there _ has_here) s f) (fulls_held (λ e h. there e (has_there h)) ss fs)

module _ {M C F V : Type 0} (k : Calculus M C) (full : ℕ → List F → F → Type 0) (agrees : M → F → Type 0) (w : Wholes V C) (limits : Limits) (leaves : List (Leaf M C)) (agree : Agree k full agrees w leaves) (apart : AreApart k w leaves) (ch : Chart M C) (forest : IsForest k full agrees limits leaves ch) where
  -- where no full structure in the lists of the hosts that count is asked for, no tree is
  pub none_accepted : (table : ℕ → List (Item V)) (listed : ℕ → Type 0) → ((h : ℕ) → listed h → HasAll k w limits leaves ch forest.complete apart table listed h) → (asked : List (Asked C)) → ((a : Asked C) → Has a asked → HasRow ch a) →
      ((h : ℕ) (row : Row M C) (m : M) (v : V) → At ch.rows h row → row.shape ≡ Some m → is_free ch.into h ≡ true → w.accepted v row.cover → Has h (hosts_in asked)) → ((a : Asked C) → Has a asked → listed a.host) →
      ((a : Asked C) (item : Item V) → Has a asked → Has item (table a.host) → w.accepted item.full a.cover → ⊥) → (t : derived.Derivation) → IsAccepted k w limits leaves t → ⊥
  none_accepted table listed holds asked rows hosts there never t a =
      let p = held k full agrees w limits leaves agree ch forest.holds a.reading in
      let ok = subst (λ c. w.accepted a.class.shape c) (sym p.cover) a.accepted in
      let r = has_map (λ (b : Asked C). b.host) asked (hosts p.host p.row p.shape a.class.shape p.at p.shape_is p.free ok) in
      let one = rows r.source r.has in
      let same : one.row ≡ p.row = at_one one.at (subst (λ h. At ch.rows h p.row) (sym r.is) p.at) in
      let cover : p.row.cover ≡ r.source.cover = ap (λ z. z.cover) (sym same) ∙ one.cover in
      let made = subst listed r.is (there r.source r.has) in
      let full_there = full_held k w limits leaves ch forest.complete apart table listed holds made p.is_in.stands p.is_in.full in
      let m = has_map (λ (item : Item V). item.full) (table p.host) full_there in
      never r.source m.source r.has (subst (λ h. Has m.source (table h)) (sym r.is) m.has) (subst (λ z. w.accepted z r.source.cover) (sym m.is) (subst (λ c. w.accepted a.class.shape c) cover ok))
