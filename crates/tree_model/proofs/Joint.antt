-- Trees over the leaves are the trees that the item asks for.
use Rattle.std.specs.Prelude.{ℕ, ◌≡◌, ◌↔◌, ◌+◌, ◌<◌, ◌≤◌, ◌⊎◌, Option, Some, List, [], ◌∷◌, length, slice_get}
use Rattle.std.proofs.Common.{refl, sym, ◌∙◌, ap, subst, arith, inl, inr}
use Rattle.std.proofs.lemmas.Bool.{cases_lt}
use Rattle.fs_model.specs.Claims.{IsOrder}
use Rattle.chart_model.specs.At.{At, to_get}
use Rattle.chart_model.specs.Chart as chart
use Rattle.chart_model.specs.Classes.{Class, class_covers, class_shapes, class_level, HostsAreClasses}
use Rattle.chart_model.specs.Grown as forest
use Rattle.chart_model.specs.Limits.{IsLimitAnswer, Within}
use Rattle.derivation.specs.Trees.{Derivation, Daughters, lexical, phrase, first}
use Rattle.tree_model.specs.Structures.{Structure}
use Rattle.tree_model.specs.Mothers.{Rule, Agrees, IsFull}
use Rattle.tree_model.specs.Laws.{rules_full}
use Rattle.tree_model.proofs.MotherLaws.{leaf_agrees}
use Rattle.tree_model.specs.Signs.{Signs, rule_system, placed_rules, place_at}
use Rattle.tree_model.specs.Forest.{IsLexical}
use Rattle.tree_model.specs.Trees.{Full, full_phrase, Fulls, no_fulls, more_fulls, IsPhrase, LeavesAre, leaf_is, leaves_are, AllLeavesAre, no_leaves, more_leaves, Covered, covered_lexical, covered_phrase, AllCovered, no_covers, more_covers}
use Rattle.tree_model.specs.Items.{Item, IsItem, IsWanted, LeafTree, AreLeaves, Limits, calculus, leaves_from, chart_limits}
use Rattle.tree_model.specs.Forests.{leaf_at, derived, derived_all, IsOwn, Grown, IsUnpacked, ForestsAreWanted}
use Rattle.tree_model.proofs.Once.{one}
use Rattle.tree_model.proofs.Places.{same_length, number_of, place_of, map_get, map_got, get_below, get_found, leaf_to, leaf_from}

leaf_tree_is : {leaf : Derivation → Type 0} (t : Derivation) → IsLexical t → leaf t → LeavesAre leaf t
leaf_tree_is (lexical entry rules words nodes) h l = leaf_is l
leaf_tree_is (phrase rule ds) h l = absurd h

lexical_covered : {C : Type 0} {of_leaf : Derivation → C → Type 0} {covers : ℕ → List C → Option C} (t : Derivation) (c : C) → IsLexical t → of_leaf t c → Covered of_leaf covers t c
lexical_covered (lexical entry rules words nodes) c h l = covered_lexical l
lexical_covered (phrase rule ds) c h l = absurd h

module _ {C : Type 0} (item : Item C) (g : Signs) (o : IsOrder g.system) (good : IsItem item) (limits : Limits) (ls : List (LeafTree C)) (leaves : AreLeaves g item ls) where
  abbrev AllGrown : forest.Trees → List (Class Structure C) → Type 0
  AllGrown = forest.AllGrown (calculus g item) (rules_full (rule_system g)) (IsOwn ls) (chart_limits limits) (leaves_from 0 ls)

  abbrev AgreeGrown : forest.Tree → Class Structure C → Type 0
  AgreeGrown = forest.Grown (calculus g item) (rules_full (rule_system g)) (λ leaf f. Agrees (rule_system g) leaf.shape f) (chart_limits limits) (leaves_from 0 ls)

  abbrev AllAgreeGrown : forest.Trees → List (Class Structure C) → Type 0
  AllAgreeGrown = forest.AllGrown (calculus g item) (rules_full (rule_system g)) (λ leaf f. Agrees (rule_system g) leaf.shape f) (chart_limits limits) (leaves_from 0 ls)

  -- a leaf's shape agrees with its own full structure
  own_agrees : (n : ℕ) (leaf : chart.Leaf Structure C) (f : Structure) → At (leaves_from 0 ls) n leaf → IsOwn ls leaf f → Agrees (rule_system g) leaf.shape f
  own_agrees n leaf f at own =
      let z = leaf_from 0 ls n leaf at in
      let name : leaf.name ≡ n = ap (λ (l : chart.Leaf Structure C). l.name) z.2 ∙ omega arith in
      let same : own.0 ≡ z.0 = (let a = to_get own.1 in let b = to_get z.1 in let c : slice_get ls leaf.name ≡ slice_get ls n = ap (λ m. slice_get ls m) name in cc) in
      let is = (leaves.each n z.0 z.1).abstract in
      let fits = leaf_agrees (rule_system g) z.0.shape z.0.full is in
      let full : z.0.full ≡ f = ap (λ (l : LeafTree C). l.full) (sym same) ∙ own.2 in
      let shape : z.0.shape ≡ leaf.shape = ap (λ (l : chart.Leaf Structure C). l.shape) (sym z.2) in
      subst (λ x. Agrees (rule_system g) x f) shape (subst (λ x. Agrees (rule_system g) z.0.shape x) full fits)

  mutual
    agrees_grown : {t : forest.Tree} {c : Class Structure C} → Grown g item limits ls t c → AgreeGrown t c
    agrees_grown (forest.grown_leaf l leaf f at own) = forest.grown_leaf l leaf f at (own_agrees l leaf f at own)
    agrees_grown (forest.grown_rule rule ts ds c f a b all d e) = forest.grown_rule rule ts ds c f a b (all_agree_grown all) d e

    all_agree_grown : {ts : forest.Trees} {cs : List (Class Structure C)} → AllGrown ts cs → AllAgreeGrown ts cs
    all_agree_grown (forest.no_grown) = forest.no_grown
    all_agree_grown (forest.more_grown t ts d ds h l all) = forest.more_grown t ts d ds (agrees_grown h) l (all_agree_grown all)

  -- no tree's level is more than one above the limit
  near : {t : forest.Tree} {c : Class Structure C} → Grown g item limits ls t c → c.level ≤ limits.unary + 1
  near (forest.grown_leaf l leaf f at own) = omega arith
  near (forest.grown_rule rule ts ds c f a b all d e) = over_all all
    where
      over_all : {ts : forest.Trees} {cs : List (Class Structure C)} → AllGrown ts cs → class_level cs ≤ limits.unary + 1
      over_all (forest.no_grown) = omega arith
      over_all (forest.more_grown t ts d ds h l (forest.no_grown)) = omega (arith, l)
      over_all (forest.more_grown t ts d ds h l (forest.more_grown u us e es k m all)) = omega arith

  -- what is known of the derivation of a forest's tree
  record Sound (t : Derivation) (c : Class Structure C) : Type 0 where
    leaves_in : LeavesAre item.leaf t
    covered : Covered item.of_leaf item.covers t c.cover
    full : Full g t c.shape

  record AllSound (ds : Daughters) (cs : List (Class Structure C)) : Type 0 where
    leaves_in : AllLeavesAre item.leaf ds
    covered : AllCovered item.of_leaf item.covers ds (class_covers cs)
    fulls : Fulls g ds (class_shapes cs)

  sound_leaf : (l : ℕ) (leaf : chart.Leaf Structure C) (f : Structure) → At (leaves_from 0 ls) l leaf → IsOwn ls leaf f → Sound (leaf_at (slice_get ls l)) (record { cover = leaf.cover; level = 0; shape = f })
  sound_leaf l leaf f at own =
      let z = leaf_from 0 ls l leaf at in
      let got = to_get z.1 in
      let name : leaf.name ≡ l = ap (λ (x : chart.Leaf Structure C). x.name) z.2 ∙ omega arith in
      let same : own.0 ≡ z.0 = (let a = to_get own.1 in let c : slice_get ls leaf.name ≡ slice_get ls l = ap (λ m. slice_get ls m) name in cc) in
      let is = leaves.each l z.0 z.1 in
      let lex = good.lexical z.0.tree is.leaf in
      let cover : z.0.cover ≡ leaf.cover = ap (λ (x : chart.Leaf Structure C). x.cover) (sym z.2) in
      let full : z.0.full ≡ f = ap (λ (x : LeafTree C). x.full) (sym same) ∙ own.2 in
      let tree : leaf_at (slice_get ls l) ≡ z.0.tree = ap leaf_at got in
      subst (λ t. Sound t (record { cover = leaf.cover; level = 0; shape = f })) (sym tree) (record {
        leaves_in = leaf_tree_is z.0.tree lex is.leaf;
        covered = subst (λ c. Covered item.of_leaf item.covers z.0.tree c) cover (lexical_covered z.0.tree z.0.cover lex is.covered);
        full = subst (Full g z.0.tree) full is.full;
      })

  sound_rule : (rule : ℕ) (ds : Daughters) (cs : List (Class Structure C)) (c : C) (f : Structure) → AllSound ds cs → rule < length (rule_system g).rules → length cs ≡ (calculus g item).arity rule →
      (calculus g item).covers rule (class_covers cs) ≡ Some c → rules_full (rule_system g) rule (class_shapes cs) f → (level : ℕ) →
      Sound (phrase (place_at (slice_get (placed_rules g) rule)) ds) (record { cover = c; level = level; shape = f })
  sound_rule rule ds cs c f all below arity covers full level =
      let r = get_found (rule_system g).rules rule below in
      let p = map_got (λ (x : ℕ × Rule). x.1) (placed_rules g) rule r.0 r.1 in
      let z = place_of 0 rule g.instances p.0 p.1 in
      let place : place_at (slice_get (placed_rules g) rule) ≡ z.offset = ap place_at p.1 ∙ z.place_is ∙ omega arith in
      let rule_is : z.instance.rule ≡ r.0 = z.rule_is ∙ p.2 in
      record {
        leaves_in = leaves_are all.leaves_in;
        covered = covered_phrase (class_covers cs) all.covered covers;
        full = subst (λ n. Full g (phrase n ds) f) (sym place) (full_phrase (class_shapes cs) all.fulls (record {
          instance = z.instance;
          at = z.at;
          kind = z.kind;
          arity = sym (same_length cs) ∙ arity ∙ rw r.1 (ap (λ (q : Rule). length q.places) (sym rule_is));
          full = subst (λ q. IsFull (rule_system g) q (class_shapes cs) f) (sym rule_is) (rw r.1 at full);
        }));
      }

  mutual
    sound : {t : forest.Tree} {c : Class Structure C} → Grown g item limits ls t c → Sound (derived g ls t) c
    sound (forest.grown_leaf l leaf f at own) = sound_leaf l leaf f at own
    sound (forest.grown_rule rule ts ds c f below arity all covers full) = sound_rule rule (derived_all g ls ts) ds c f (all_sound all) below arity covers full (class_level ds)

    all_sound : {ts : forest.Trees} {cs : List (Class Structure C)} → AllGrown ts cs → AllSound (derived_all g ls ts) cs
    all_sound (forest.no_grown) = record { leaves_in = no_leaves; covered = no_covers; fulls = no_fulls }
    all_sound (forest.more_grown t ts d ds h l all) =
        let z = sound h in
        let zs = all_sound all in
        record { leaves_in = more_leaves z.leaves_in zs.leaves_in; covered = more_covers z.covered zs.covered; fulls = more_fulls z.full zs.fulls }

  module _ (ch : chart.Chart Structure C) (hosts : HostsAreClasses (calculus g item) (chart_limits limits) (leaves_from 0 ls) ch)
      (holds : forest.HoldsTrees (calculus g item) (rules_full (rule_system g)) (Agrees (rule_system g)) (chart_limits limits) (leaves_from 0 ls) ch)
      (within : IsLimitAnswer (calculus g item) (chart_limits limits) (leaves_from 0 ls) Within) where
    -- and none is above the limit, since its host would be a unary chain
    low : {t : forest.Tree} {c : Class Structure C} → Grown g item limits ls t c → c.level ≤ limits.unary
    low {t} {c} h = by_level (cases_lt limits.unary c.level)
      where
        chain : c.level ≡ limits.unary + 1 → ⊥
        chain e =
            let z = holds t c (agrees_grown h) in
            let host = hosts.sound (record { cover = c.cover; level = c.level; shape = z.shape }) z.host (record { row = z.row; at = z.at; free = z.free; shape = z.shape_is; cover = z.cover; level = z.level }) in
            within ((calculus g item).size c.cover) (inl (record { top = record { cover = c.cover; level = c.level; shape = z.shape }; member = host.member; level = e; size = omega arith }))

        by_level : (limits.unary < c.level) ⊎ (c.level ≤ limits.unary) → c.level ≤ limits.unary
        by_level (inl d) = absurd (chain (omega (arith, d, near h)))
        by_level (inr d) = d

    -- the tree of a forest that a derivation is
    record Found (t : Derivation) (c : C) (f : Structure) : Type 0 where
      tree : forest.Tree
      level : ℕ
      is : derived g ls tree ≡ t
      grown : Grown g item limits ls tree (record { cover = c; level = level; shape = f })

    record AllFound (ds : Daughters) (cs : List C) (fs : List Structure) : Type 0 where
      trees : forest.Trees
      classes : List (Class Structure C)
      is : derived_all g ls trees ≡ ds
      grown : AllGrown trees classes
      shapes : class_shapes classes ≡ fs
      covers : class_covers classes ≡ cs

    found_leaf : (t : Derivation) (c : C) (f : Structure) → item.leaf t → item.of_leaf t c → Full g t f → Found t c f
    found_leaf t c f leaf covered full =
        let z = leaves.all t leaf in
        let n = z.0 in
        let l = z.1 in
        let own = leaves.each n l z.2 in
        let same : l.full ≡ f = one g o (subst (λ x. Full g x l.full) z.3 own.full) full in
        let cover = good.one_cover t l.cover c (subst (λ x. item.of_leaf x l.cover) z.3 own.covered) covered in
        record {
          tree = forest.leaf_tree n;
          level = 0;
          is = ap leaf_at (to_get z.2) ∙ z.3;
          grown = subst (λ s. Grown g item limits ls (forest.leaf_tree n) (record { cover = s; level = 0; shape = f })) cover
              (forest.grown_leaf n (record { cover = l.cover; shape = l.shape; name = 0 + n }) f (leaf_to 0 ls n l z.2) (l, subst (λ m. At ls m l) (omega arith) z.2, same));
        }

    found_rule : {rule : ℕ} {ds : Daughters} {c : C} {cs : List C} {f : Structure} {fs : List Structure} → AllFound ds cs fs → item.covers rule cs ≡ Some c → IsPhrase g rule fs f → Found (phrase rule ds) c f
    found_rule {rule} {ds} {c} {cs} {f} {fs} xs covers is =
        let z = number_of 0 rule g.instances is.instance is.at is.kind in
        let n = z.number in
        let at : slice_get (placed_rules g) n ≡ Some (rule, is.instance.rule) = z.at ∙ ap (λ m. Some (m, is.instance.rule)) (omega arith) in
        let place : place_at (slice_get (placed_rules g) n) ≡ rule = ap place_at at in
        let got = map_get (λ (r : ℕ × Rule). r.1) (placed_rules g) n (rule, is.instance.rule) at in
        record {
          tree = forest.phrase n xs.trees;
          level = class_level xs.classes;
          is = λ i. phrase (place i) (xs.is i);
          grown = forest.grown_rule n xs.trees xs.classes c f
              (get_below (rule_system g).rules n is.instance.rule got)
              (same_length xs.classes ∙ ap (λ hs. length hs) xs.shapes ∙ is.arity ∙ rw got refl)
              xs.grown
              (ap (λ m. item.covers m (class_covers xs.classes)) place ∙ ap (λ ys. item.covers rule ys) xs.covers ∙ covers)
              (rw (got, xs.shapes) is.full);
        }

    mutual
      found : {t : Derivation} {c : C} {f : Structure} → LeavesAre item.leaf t → Covered item.of_leaf item.covers t c → Full g t f → Found t c f
      found (leaf_is leaf) (covered_lexical k) full = found_leaf _ _ _ leaf k full
      found (leaves_are xs) (covered_phrase _ cs e) (full_phrase _ ys is) = found_rule (all_found xs cs ys) e is

      all_found : {ds : Daughters} {cs : List C} {fs : List Structure} → AllLeavesAre item.leaf ds → AllCovered item.of_leaf item.covers ds cs → Fulls g ds fs → AllFound ds cs fs
      all_found no_leaves no_covers no_fulls = record { trees = forest.no_trees; classes = []; is = refl; grown = forest.no_grown; shapes = refl; covers = refl }
      all_found (more_leaves x xs) (more_covers {c = b} k ks) (more_fulls {f = e} y ys) =
          let z = found x k y in
          let zs = all_found xs ks ys in
          record {
            trees = forest.more_trees z.tree zs.trees;
            classes = record { cover = b; level = z.level; shape = e } ∷ zs.classes;
            is = λ i. first (z.is i) (zs.is i);
            grown = forest.more_grown z.tree zs.trees _ zs.classes z.grown (low z.grown) zs.grown;
            shapes = ap (λ hs. e ∷ hs) zs.shapes;
            covers = ap (λ hs. b ∷ hs) zs.covers;
          }

    pub unpacked : (t : Derivation) → IsUnpacked g item limits ls t ↔ IsWanted g item t
    unpacked t = (to, back)
      where
        to : IsUnpacked g item limits ls t → IsWanted g item t
        to u =
            let z = sound u.grown in
            subst (IsWanted g item) u.is (record { leaves = z.leaves_in; cover = u.class.cover; covered = z.covered; structure = u.class.shape; full = z.full; accepted = u.accepted })

        back : IsWanted g item t → IsUnpacked g item limits ls t
        back l =
            let z = found l.leaves l.covered l.full in
            record { tree = z.tree; class = record { cover = l.cover; level = z.level; shape = l.structure }; grown = z.grown; accepted = l.accepted; is = z.is }

pub forests_are_wanted : {C : Type 0} (item : Item C) → ForestsAreWanted item
forests_are_wanted item g o good limits ls leaves f t = unpacked item g o good limits ls leaves f.chart_is f.hosts f.holds f.within t
