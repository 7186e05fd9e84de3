-- What the rows of a group give is the group.
use Rattle.std.specs.Prelude.{◌≡◌, ℕ, Bool, true, false, List, [], ◌∷◌, map, refl}
use Rattle.std.proofs.Common.{ap, subst, sym, ◌∙◌}
use Rattle.chart_model.specs.Calculus.{Calculus, Along, along_none, along_more}
use Rattle.chart_model.specs.At.{At, at_one, at_below}
use Rattle.chart_model.specs.Chart.{Chart, Leaf, Limits, Row, OfLeaf, OfWhole, all_free, leaf_row}
use Rattle.chart_model.specs.Finished.{IsComplete}
use Rattle.chart_model.specs.Grown.{Tree, leaf_tree, phrase, LeadsTo, Stands, stands_leaf, stands_phrase, AllStand}
use Rattle.derivation.specs.Trees as derived
use Rattle.tree_model.specs.Readings.{Wholes}
use Rattle.tree_model.specs.Forest.{AreApart}
use Rattle.tree_model.specs.Lists.{Has, has_here, has_there, AllDiffer, differ_none, differ_more, Item, IsFullOf, full_leaf, full_phrase, IsGroup, choices, GroupRow, Gives, gives_leaf, gives_whole, Gather, gather_none, gather_stops, gather_more, Describes, describes_leaf, describes_whole, IsToldGroup}
use Rattle.tree_model.proofs.Members.{has_map, Either, on_left, on_right, has_append, has_left, has_right, differ_append}
use Rattle.tree_model.proofs.Choices.{choice_picks, has_choice, AllKeyed, keyed_none, keyed_more, differ_choices, map_append}
use Rattle.tree_model.proofs.Making.{trees_in, fulls_in, item_of, Made, makes_sound, makes_all, makes_differ}
use Rattle.tree_model.proofs.Standing.{same_row, AllGroups, groups_none, groups_more, standing, picked}

module _ {M C V : Type 0} (k : Calculus M C) (w : Wholes V C) (limits : Limits) (leaves : List (Leaf M C)) (ch : Chart M C) (complete : IsComplete k limits leaves ch) (apart : AreApart k w leaves) (cut : Bool) (table : ℕ → List (Item V)) (listed : ℕ → Type 0) (groups : (d : ℕ) → listed d → IsGroup w leaves ch cut d (table d)) where
  -- an item of the group of h by row i
  pub record IsInBy (i h : ℕ) (item : Item V) : Type 0 where
    pub tree : Tree
    pub stands : Stands leaves ch tree i h
    pub full : IsFullOf w leaves tree item.tree item.full

  all_groups : (ds : List ℕ) → ((d : ℕ) → Has d ds → listed d) → AllGroups k w limits leaves ch complete apart cut table ds
  all_groups [] made = groups_none
  all_groups (d ∷ ds) made = groups_more (groups d (made d has_here)) (all_groups ds (λ e h. made e (has_there h)))

  keyed : (ds : List ℕ) → AllGroups k w limits leaves ch complete apart cut table ds → AllKeyed (λ item. item.tree) (map table ds)
  keyed [] groups_none = keyed_none
  keyed (d ∷ ds) (groups_more g gs) = keyed_more g.differ (keyed ds gs)

  row_in : (i h rule : ℕ) (row : Row M C) (item : Item V) (tts : List (List (Item V))) → tts ≡ choices (map table row.daughters) → At ch.rows i row → row.kind ≡ OfWhole rule → all_free ch.into row.daughters ≡ true → AllGroups k w limits leaves ch complete apart cut table row.daughters → LeadsTo ch.into i h → Made w rule cut tts item → IsInBy i h item
  row_in i h rule row item tts e at kind live ready leads m =
      let p = choice_picks (map table row.daughters) (subst (λ zs. Has m.parts zs) e m.has) in
      let s = standing k w limits leaves ch complete apart cut table row.daughters m.parts ready p in
      let f : IsFullOf w leaves (phrase rule s.trees) (item_of w rule cut m.parts item.full).tree item.full = full_phrase rule s.trees _ (fulls_in m.parts) item.full s.full m.full in
      record {
        tree = phrase rule s.trees;
        stands = stands_phrase row at kind live s.stand leads;
        full = subst (λ z. IsFullOf w leaves (phrase rule s.trees) z.tree item.full) (sym m.is) f;
      }

  pub gives_sound : {i : ℕ} {r : GroupRow} {made : List (Item V)} → Describes leaves ch i r → Gives w cut table listed r made → (h : ℕ) (item : Item V) → LeadsTo ch.into i h → Has item made → IsInBy i h item
  gives_sound (describes_leaf l leaf at) (gives_leaf _) h _ leads has_here = record { tree = leaf_tree l; stands = stands_leaf (at_below at) leads; full = full_leaf l leaf at }
  gives_sound (describes_leaf l leaf at) (gives_leaf _) h item leads (has_there g) = elim g [ ]
  gives_sound (describes_whole i rule row at kind live) (gives_whole _ _ made there m) h item leads g = row_in i h rule row item (choices (map table row.daughters)) refl at kind live (all_groups row.daughters there) leads (makes_sound w rule cut m item g)

  -- a leaf's row is no whole row
  no_leaf : (l rule : ℕ) (leaf : Leaf M C) (row : Row M C) → At leaves l leaf → At ch.rows l row → row.kind ≡ OfWhole rule → ⊥
  no_leaf l rule leaf row at rt kind =
      let e : leaf_row k limits leaf ≡ row = at_one (complete.leaf_rows.row_is l leaf at) rt in
      let p : OfLeaf leaf.name ≡ row.kind = ap (λ r. r.kind) e in cc

  gives_by : cut ≡ false → {t : Tree} {i h : ℕ} {r : GroupRow} {made : List (Item V)} {d : derived.Derivation} {v : V} → Describes leaves ch i r → Gives w cut table listed r made → Stands leaves ch t i h → IsFullOf w leaves t d v → Has (record { tree = d; full = v }) made
  gives_by whole (describes_leaf _ leaf at) (gives_leaf _) (stands_leaf l_ok leads) (full_leaf l a bt) = let e : leaf ≡ a = at_one at bt in subst (λ z. Has {A = Item V} (record { tree = w.leaf_tree a.name; full = w.leaf_full a.name }) (record { tree = w.leaf_tree z.name; full = w.leaf_full z.name } ∷ [])) (sym e) has_here
  gives_by whole (describes_leaf l leaf at) (gives_leaf _) (stands_phrase row rt kind live ss leads) f = absurd (no_leaf l _ leaf row at rt kind)
  gives_by whole (describes_whole i rule row at kind live) (gives_whole _ _ made there m) (stands_leaf l_ok leads) (full_leaf l a bt) = absurd (no_leaf i rule a row bt at kind)
  gives_by whole (describes_whole i q other at kind live) (gives_whole _ _ made there m) (stands_phrase row rt kind2 live2 ss leads) (full_phrase rule ts ds vs v fs f) =
      let e : row ≡ other = at_one rt at in
      let same : OfWhole rule ≡ OfWhole q = sym kind2 ∙ ap (λ r. r.kind) e ∙ kind in
      let p : rule ≡ q = cc in
      let b = picked k w limits leaves ch complete apart cut table whole (subst (λ z. AllStand leaves ch ts z.daughters) e ss) fs (all_groups other.daughters there) in
      let g = makes_all w q cut whole (apart.one_full q) m b.parts v (has_choice b.picks) (subst (λ zs. w.full q zs v) (sym b.fulls) (subst (λ z. w.full z vs v) p f)) in
      subst (λ z. Has {A = Item V} (record { tree = z; full = v }) made) (let t = b.trees in cc) g

  pub gives_all : cut ≡ false → {i : ℕ} {r : GroupRow} {made : List (Item V)} → Describes leaves ch i r → Gives w cut table listed r made → (h : ℕ) (item : Item V) → IsInBy i h item → Has item made
  gives_all whole told given h item is = gives_by whole told given is.stands is.full

  gives_differ : {i : ℕ} {r : GroupRow} {made : List (Item V)} → Describes leaves ch i r → Gives w cut table listed r made → AllDiffer (trees_in made)
  gives_differ (describes_leaf l leaf at) (gives_leaf _) = differ_more (λ h. elim h [ ]) differ_none
  gives_differ (describes_whole i rule row at kind live) (gives_whole _ _ made there m) = makes_differ w rule cut m (differ_choices (λ item. item.tree) (keyed row.daughters (all_groups row.daughters there)))

  -- an item that these rows give
  pub record IsGiven (is : List ℕ) (h : ℕ) (item : Item V) : Type 0 where
    pub row : ℕ
    pub has : Has row is
    pub by : IsInBy row h item

  given_there : {i : ℕ} {is : List ℕ} {h : ℕ} {item : Item V} → IsGiven is h item → IsGiven (i ∷ is) h item
  given_there g = record { row = g.row; has = has_there g.has; by = g.by }

  abbrev Leads : List ℕ → ℕ → Type 0
  Leads is h = (i : ℕ) → Has i is → LeadsTo ch.into i h

  given_by : (i : ℕ) (is : List ℕ) (h : ℕ) (item : Item V) (xs ys : List (Item V)) → (Has item xs → IsInBy i h item) → (Has item ys → IsGiven is h item) → Either item xs ys → IsGiven (i ∷ is) h item
  given_by i is h item xs ys f g (on_left a) = record { row = i; has = has_here; by = f a }
  given_by i is h item xs ys f g (on_right b) = given_there (g b)

  gather_sound : {is : List ℕ} {rows : List GroupRow} {items : List (Item V)} → Along (Describes leaves ch) is rows → Gather w cut table listed rows items → (h : ℕ) → Leads is h → (item : Item V) → Has item items → IsGiven is h item
  gather_sound along_none gather_none h leads item g = elim g [ ]
  gather_sound along_none (gather_stops rows e) h leads item g = elim g [ ]
  gather_sound (along_more told more) (gather_stops rows e) h leads item g = elim g [ ]
  gather_sound (along_more {x = i} {xs = is} told more) (gather_more row rows xs ys given rest) h leads item g =
      given_by i is h item xs ys (λ a. gives_sound told given h item (leads i has_here) a) (λ b. gather_sound more rest h (λ j a. leads j (has_there a)) item b) (has_append xs g)

  gather_all : cut ≡ false → {is : List ℕ} {rows : List GroupRow} {items : List (Item V)} → Along (Describes leaves ch) is rows → Gather w cut table listed rows items → (h : ℕ) (item : Item V) (i : ℕ) → Has i is → IsInBy i h item → Has item items
  gather_all whole along_none gather_none h item i has by = elim has [ ]
  gather_all whole along_none (gather_stops rows e) h item i has by = absurd (cc)
  gather_all whole (along_more told more) (gather_stops rows e) h item i has by = absurd (cc)
  gather_all whole (along_more told more) (gather_more row rows xs ys given rest) h item _ has_here by = has_left ys (gives_all whole told given h item by)
  gather_all whole (along_more told more) (gather_more row rows xs ys given rest) h item j (has_there a) by = has_right xs (gather_all whole more rest h item j a by)

  -- items with one tree come from one row
  one_row : (i j h : ℕ) (a b : Item V) → IsInBy i h a → IsInBy j h b → a.tree ≡ b.tree → i ≡ j
  one_row i j h a b p q e = (same_row k w limits leaves ch complete apart p.stands q.stands p.full q.full e).row

  gather_differ : {is : List ℕ} {rows : List GroupRow} {items : List (Item V)} → Along (Describes leaves ch) is rows → Gather w cut table listed rows items → (h : ℕ) → AllDiffer is → Leads is h → AllDiffer (trees_in items)
  gather_differ along_none gather_none h d leads = differ_none
  gather_differ along_none (gather_stops rows e) h d leads = differ_none
  gather_differ (along_more told more) (gather_stops rows e) h d leads = differ_none
  gather_differ (along_more {x = i} {xs = is} told more) (gather_more row rows xs ys given rest) h (differ_more not d) leads =
      let firsts = gives_differ told given in
      let others = gather_differ more rest h d (λ j a. leads j (has_there a)) in
      let both = differ_append firsts others
      (λ t p q.
      let x = has_map (λ item. item.tree) xs p in
      let y = has_map (λ item. item.tree) ys q in
      let one = gives_sound told given h x.source (leads i has_here) x.has in
      let two = gather_sound more rest h (λ j a. leads j (has_there a)) y.source y.has in
      let e : i ≡ two.row = one_row i two.row h x.source y.source one two.by (x.is ∙ sym y.is) in
      not (subst (λ n. Has n is) (sym e) two.has)) in
      subst AllDiffer (sym (map_append (λ (z : Item V). z.tree) (λ (z : Item V). z.tree) xs ys)) both

  -- what the rows of a group give, by the groups of their daughters, is the group
  pub group_is : (h : ℕ) (told : List GroupRow) (items : List (Item V)) → IsToldGroup leaves ch h told → Gather w cut table listed told items → IsGroup w leaves ch cut h items
  group_is h told items group gather = record {
    each = λ item a. let g = gather_sound group.told_of gather h group.are.each item a in record { tree = g.by.tree; row = g.row; stands = g.by.stands; full = g.by.full };
    all = λ whole item in_it. gather_all whole group.told_of gather h item in_it.row (group.are.all in_it.tree in_it.row in_it.stands) (record { tree = in_it.tree; stands = in_it.stands; full = in_it.full });
    differ = gather_differ group.told_of gather h group.are.differ group.are.each;
  }
