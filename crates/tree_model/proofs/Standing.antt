-- A derivation stands in one group, by one row, with one full structure.
use Rattle.std.specs.Prelude.{◌≡◌, ℕ, Bool, true, false, List, [], ◌∷◌, map, refl}
use Rattle.std.proofs.Common.{ap, subst, sym, ◌∙◌}
use Rattle.chart_model.specs.Calculus.{Calculus}
use Rattle.chart_model.specs.At.{At, at_one}
use Rattle.chart_model.specs.Chart.{Chart, Leaf, Limits, Row, OfWhole, all_free}
use Rattle.chart_model.specs.Finished.{IsComplete, IsWhole}
use Rattle.chart_model.specs.Grown.{Tree, Trees, no_trees, more_trees, LeadsTo, Stands, stands_leaf, stands_phrase, AllStand, none_stand, more_stand}
use Rattle.chart_model.proofs.Trees.{leads_one}
use Rattle.derivation.specs.Trees as derived
use Rattle.derivation.specs.Views.{in_order}
use Rattle.tree_model.specs.Readings.{Wholes}
use Rattle.tree_model.specs.Forest.{AreApart, IsLexical}
use Rattle.tree_model.specs.Lists.{Has, Item, IsFullOf, full_leaf, full_phrase, AreFullOf, no_full, more_full, IsIn, IsGroup}
use Rattle.tree_model.proofs.Choices.{Picks, picks_none, picks_more}
use Rattle.tree_model.proofs.Making.{trees_in, fulls_in}

module _ {M C V : Type 0} (k : Calculus M C) (w : Wholes V C) (limits : Limits) (leaves : List (Leaf M C)) (ch : Chart M C) (complete : IsComplete k limits leaves ch) (apart : AreApart k w leaves) where
  row_once : (i j : ℕ) (a b : Row M C) (q r : ℕ) → At ch.rows i a → At ch.rows j b → a.kind ≡ OfWhole q → b.kind ≡ OfWhole r → all_free ch.into a.daughters ≡ true → q ≡ r → a.daughters ≡ b.daughters → i ≡ j
  row_once i j a b q r at bt kind other live e same =
      let o = complete.tuples.one_row q a.daughters (complete.tuples.no_other i q a at kind live) in
      o.once i a at kind refl ∙ sym (o.once j b bt (other ∙ ap OfWhole (sym e)) (sym same))

  rule_is : (i q : ℕ) (a : Row M C) → At ch.rows i a → a.kind ≡ OfWhole q → all_free ch.into a.daughters ≡ true → IsWhole k limits leaves ch q a.daughters
  rule_is i q a at kind live = complete.tuples.no_other i q a at kind live

  pub record Same (i h j g : ℕ) (v x : V) : Type 0 where
    pub row : i ≡ j
    pub host : h ≡ g
    pub full : v ≡ x

  leaf_same : (l m h g : ℕ) (a b : Leaf M C) → At leaves l a → At leaves m b → LeadsTo ch.into l h → LeadsTo ch.into m g → w.leaf_tree a.name ≡ w.leaf_tree b.name → Same l h m g (w.leaf_full a.name) (w.leaf_full b.name)
  leaf_same l m h g a b at bt leads others e =
      let p = apart.leaves_apart l m a b at bt e in
      let q : a ≡ b = at_one (subst (λ n. At leaves n a) p at) bt in
      record { row = p; host = leads_one (subst (λ n. LeadsTo ch.into n h) p leads) others; full = ap (λ leaf. w.leaf_full leaf.name) q }

  mutual
    pub same_row : {t u : Tree} {i h j g : ℕ} {d e : derived.Derivation} {v x : V} → Stands leaves ch t i h → Stands leaves ch u j g → IsFullOf w leaves t d v → IsFullOf w leaves u e x → d ≡ e → Same i h j g v x
    same_row {h = h} {g = g} (stands_leaf l_ok leads) (stands_leaf m_ok others) (full_leaf l a at) (full_leaf m b bt) e = leaf_same l m h g a b at bt leads others e
    same_row (stands_leaf l_ok leads) (stands_phrase row rt kind live ss others) (full_leaf l a at) (full_phrase rule ts ds vs v fs f) e = absurd (subst IsLexical e (apart.lexical_leaves l a at))
    same_row (stands_phrase row rt kind live ss others) (stands_leaf l_ok leads) (full_phrase rule ts ds vs v fs f) (full_leaf l a at) e = absurd (subst IsLexical (sym e) (apart.lexical_leaves l a at))
    same_row {i = i} {h = h} {j = j} {g = g} (stands_phrase row rt kind live ss leads) (stands_phrase other ot kind2 live2 rs others) (full_phrase q ts ds vs v fs f) (full_phrase r us es xs x gs b) e =
        let places : w.place q ≡ w.place r = cc in
        let p : q ≡ r = apart.places_apart q r (rule_is i q row rt kind live).rule_is (rule_is j r other ot kind2 live2).rule_is places in
        let lists : ds ≡ es = cc in
        let s = all_same ss rs fs gs lists in
        let n : i ≡ j = row_once i j row other q r rt ot kind kind2 live p s.0 in
        record {
          row = n;
          host = leads_one (subst (λ m. LeadsTo ch.into m h) n leads) others;
          full = apart.one_full r xs v x (subst (λ zs. w.full r zs v) s.1 (subst (λ z. w.full z vs v) p f)) b;
        }

    pub all_same : {ts us : Trees} {hs gs : List ℕ} {ds es : derived.Daughters} {vs xs : List V} → AllStand leaves ch ts hs → AllStand leaves ch us gs → AreFullOf w leaves ts ds vs → AreFullOf w leaves us es xs → ds ≡ es → (hs ≡ gs) × (vs ≡ xs)
    all_same none_stand none_stand no_full no_full e = (refl, refl)
    all_same none_stand (more_stand s ss) no_full (more_full t ts d ds v vs f fs) e = absurd (cc)
    all_same (more_stand s ss) none_stand (more_full t ts d ds v vs f fs) no_full e = absurd (cc)
    all_same (more_stand s ss) (more_stand r rs) (more_full t ts d ds v vs f fs) (more_full u us b bs x xs g gs) e =
        let p : d ≡ b = cc in
        let q : ds ≡ bs = cc in
        let one = same_row s r f g p in
        let two = all_same ss rs fs gs q in
        let hosts = one.host in
        let values = one.full in
        let more = two.0 in
        let others = two.1 in
        (cc, cc)

  module _ (cut : Bool) (table : ℕ → List (Item V)) where
    -- the list of each of these hosts is that of its group
    pub data AllGroups : List ℕ → Type 0 where
      groups_none : AllGroups []
      groups_more : {d : ℕ} {ds : List ℕ} → IsGroup w leaves ch cut d (table d) → AllGroups ds → AllGroups (d ∷ ds)

    pub record Standing (ds : List ℕ) (parts : List (Item V)) : Type 0 where
      pub trees : Trees
      pub stand : AllStand leaves ch trees ds
      pub full : AreFullOf w leaves trees (in_order (trees_in parts)) (fulls_in parts)

    standing_more : (d : ℕ) (ds : List ℕ) (item : Item V) (parts : List (Item V)) → IsIn w leaves ch d item → Standing ds parts → Standing (d ∷ ds) (item ∷ parts)
    standing_more d ds item parts one rest = record {
      trees = more_trees one.tree rest.trees;
      stand = more_stand one.stands rest.stand;
      full = more_full one.tree rest.trees item.tree (in_order (trees_in parts)) item.full (fulls_in parts) one.full rest.full;
    }

    pub standing : (ds : List ℕ) (parts : List (Item V)) → AllGroups ds → Picks parts (map table ds) → Standing ds parts
    standing [] _ groups_none picks_none = record { trees = no_trees; stand = none_stand; full = no_full }
    standing (d ∷ ds) _ (groups_more g gs) (picks_more {x = x} {ps = ps} h more) = standing_more d ds x ps (g.each x h) (standing ds ps gs more)

    pub record Picked (ds : List ℕ) (ts : derived.Daughters) (vs : List V) : Type 0 where
      pub parts : List (Item V)
      pub picks : Picks parts (map table ds)
      pub trees : in_order (trees_in parts) ≡ ts
      pub fulls : fulls_in parts ≡ vs

    picked_more : {d : ℕ} {ds : List ℕ} {t : derived.Derivation} {ts : derived.Daughters} {v : V} {vs : List V} → Has (record { tree = t; full = v }) (table d) → Picked ds ts vs → Picked (d ∷ ds) (derived.first t ts) (v ∷ vs)
    picked_more {t = t} {v = v} h more = record {
      parts = record { tree = t; full = v } ∷ more.parts;
      picks = picks_more h more.picks;
      trees = ap (λ zs. derived.first t zs) more.trees;
      fulls = ap (λ zs. v ∷ zs) more.fulls;
    }

    pub picked : cut ≡ false → {us : Trees} {ds : List ℕ} {ts : derived.Daughters} {vs : List V} → AllStand leaves ch us ds → AreFullOf w leaves us ts vs → AllGroups ds → Picked ds ts vs
    picked whole none_stand no_full groups_none = record { parts = []; picks = picks_none; trees = refl; fulls = refl }
    picked whole (more_stand {i = i} s ss) (more_full t ts d ds v vs f fs) (groups_more g gs) = picked_more (g.all whole (record { tree = d; full = v }) (record { tree = t; row = i; stands = s; full = f })) (picked whole ss fs gs)
