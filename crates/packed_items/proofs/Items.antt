-- An item's leaves fit its grammar, and what is found over them is what is known of the item.
use Rattle.std.specs.Prelude.{ℕ, ◌≡◌, ◌+◌, ◌<◌, ◌≤◌, Bool, true, false, Option, Some, None, List, [], ◌∷◌, length, map, slice_get}
use Rattle.std.proofs.Common.{refl, sym, ◌∙◌, ap, subst, zero, suc, arith}
use Rattle.fs_model.specs.Claims.{IsOrder}
use Rattle.chart_model.specs.At.{At, to_get, at_below}
use Rattle.chart_model.specs.Chart as chart
use Rattle.chart_core.specs.declared.Limits as declared
use Rattle.chart_core.specs.Kept.{limits_seen}
use Rattle.tree_model.specs.Forest.{Agree, AreApart, IsLexical}
use Rattle.derivation.specs.Views.{derivation_of}
use Rattle.tree_model.specs.Structures.{Structure}
use Rattle.tree_model.specs.Mothers.{Rule, IsFullAt, Agrees, arity_at}
use Rattle.tree_model.specs.Laws.{rules_full}
use Rattle.tree_model.proofs.Closures.{closure_ends, kept_ends}
use Rattle.tree_model.proofs.AllLaws.{leaves_agree}
use Rattle.tree_model.specs.Signs.{Signs, Instance, is_phrase_rule, phrase_rules, placed_rules, place_at, rule_system}
use Rattle.tree_model.specs.Items.{Item, IsItem, LeafTree, AreLeaves, calculus, leaves_from}
use Rattle.tree_model.specs.Forests as item
use Rattle.tree_model.proofs.Places.{leaf_from, get_found}
use Rattle.tree_model.proofs.Once.{one_structure}
use Rattle.packed_items.specs.Packed.{Fit, IsPackedWithin, IsFound}
use Rattle.packed_items.specs.Answers.{limits_in, answer_of}
use Rattle.packed_items.specs.declared.Found.{Found}
use Rattle.packed_items.specs.declared.Found.TheVariants as found

-- places of phrase rules rise
low : (p : ℕ) (is : List Instance) (n : ℕ) (r : ℕ × Rule) → slice_get (phrase_rules p is) n ≡ Some r → p ≤ r.0
low p [] n r e = absurd (cc)
low p (i ∷ is) n r e = by_kind (λ m h. low (p + 1) is m r h) (is_phrase_rule i.kind) refl n e
  where
    by_kind : ((m : ℕ) → slice_get (phrase_rules (p + 1) is) m ≡ Some r → p + 1 ≤ r.0) → (b : Bool) → is_phrase_rule i.kind ≡ b → (n : ℕ) → slice_get (phrase_rules p (i ∷ is)) n ≡ Some r → p ≤ r.0
    by_kind go true q zero e = let x : (p, i.rule) ≡ r = (let y : slice_get (phrase_rules p (i ∷ is)) 0 ≡ Some (p, i.rule) = rw q refl in cc) in let z : p ≡ r.0 = ap (λ y. y.0) x in omega (arith, z)
    by_kind go true q (suc n) e = let z = go n (let y : slice_get (phrase_rules p (i ∷ is)) (suc n) ≡ slice_get (phrase_rules (p + 1) is) n = rw q refl in sym y ∙ e) in omega (arith, z)
    by_kind go false q n e = let z = go n (let y : slice_get (phrase_rules p (i ∷ is)) n ≡ slice_get (phrase_rules (p + 1) is) n = rw q refl in sym y ∙ e) in omega (arith, z)

-- a rule's place has one number
one_number : (p : ℕ) (is : List Instance) (n m : ℕ) (r s : ℕ × Rule) → slice_get (phrase_rules p is) n ≡ Some r → slice_get (phrase_rules p is) m ≡ Some s → r.0 ≡ s.0 → n ≡ m
one_number p [] n m r s e f same = absurd (cc)
one_number p (i ∷ is) n m r s e f same = by_kind (λ k l g h. one_number (p + 1) is k l r s g h same) (is_phrase_rule i.kind) refl n m e f
  where
    by_kind : ((k l : ℕ) → slice_get (phrase_rules (p + 1) is) k ≡ Some r → slice_get (phrase_rules (p + 1) is) l ≡ Some s → k ≡ l) → (b : Bool) → is_phrase_rule i.kind ≡ b → (n m : ℕ) → slice_get (phrase_rules p (i ∷ is)) n ≡ Some r → slice_get (phrase_rules p (i ∷ is)) m ≡ Some s → n ≡ m
    by_kind go true q zero zero e f = refl
    by_kind go true q zero (suc m) e f =
        let x : (p, i.rule) ≡ r = (let y : slice_get (phrase_rules p (i ∷ is)) 0 ≡ Some (p, i.rule) = rw q refl in cc) in
        let z : p ≡ r.0 = ap (λ y. y.0) x in
        let l = low (p + 1) is m s (let y : slice_get (phrase_rules p (i ∷ is)) (suc m) ≡ slice_get (phrase_rules (p + 1) is) m = rw q refl in sym y ∙ f) in
        absurd (omega (arith, z, l, same))
    by_kind go true q (suc n) zero e f =
        let x : (p, i.rule) ≡ s = (let y : slice_get (phrase_rules p (i ∷ is)) 0 ≡ Some (p, i.rule) = rw q refl in cc) in
        let z : p ≡ s.0 = ap (λ y. y.0) x in
        let l = low (p + 1) is n r (let y : slice_get (phrase_rules p (i ∷ is)) (suc n) ≡ slice_get (phrase_rules (p + 1) is) n = rw q refl in sym y ∙ e) in
        absurd (omega (arith, z, l, same))
    by_kind go true q (suc n) (suc m) e f =
        ap suc (go n m (let y : slice_get (phrase_rules p (i ∷ is)) (suc n) ≡ slice_get (phrase_rules (p + 1) is) n = rw q refl in sym y ∙ e) (let y : slice_get (phrase_rules p (i ∷ is)) (suc m) ≡ slice_get (phrase_rules (p + 1) is) m = rw q refl in sym y ∙ f))
    by_kind go false q n m e f =
        go n m (let y : slice_get (phrase_rules p (i ∷ is)) n ≡ slice_get (phrase_rules (p + 1) is) n = rw q refl in sym y ∙ e) (let y : slice_get (phrase_rules p (i ∷ is)) m ≡ slice_get (phrase_rules (p + 1) is) m = rw q refl in sym y ∙ f)

map_same : {A : Type 0} (xs : List A) → map (λ x. x) xs ≡ xs
map_same [] = refl
map_same (x ∷ xs) = ap (λ ys. x ∷ ys) (map_same xs)

rules_length : {A B : Type 0} (f : A → B) (xs : List A) → length (map f xs) ≡ length xs
rules_length f [] = refl
rules_length f (x ∷ xs) = ap suc (rules_length f xs)

module _ (g : Signs) (o : IsOrder g.system) where
  one_full : (rule : Option Rule) (vs : List Structure) (v u : Structure) → IsFullAt (rule_system g) rule vs v → IsFullAt (rule_system g) rule vs u → v ≡ u
  one_full None vs v u x y = absurd x
  one_full (Some rule) vs v u x y = one_structure g o (kept_ends (closure_ends g.system)) x.1 y.1

  rule_at : (q : ℕ) → q < length (rule_system g).rules → (r : ℕ × Rule) × (slice_get (placed_rules g) q ≡ Some r)
  rule_at q h = get_found (placed_rules g) q (let e = rules_length (λ (r : ℕ × Rule). r.1) (placed_rules g) in omega (arith, h, e))

  apart : (q r : ℕ) → q < length (rule_system g).rules → r < length (rule_system g).rules → place_at (slice_get (placed_rules g) q) ≡ place_at (slice_get (placed_rules g) r) → q ≡ r
  apart q r h k e =
      let a = rule_at q h in
      let b = rule_at r k in
      one_number 0 g.instances q r a.0 b.0 a.1 b.1 (sym (ap place_at a.1) ∙ e ∙ ap place_at b.1)

module _ {C : Type 0} (it : Item C) (g : Signs) (o : IsOrder g.system) (good : IsItem it) (limits : declared.Limits) (ls : List (LeafTree C)) (leaves : AreLeaves g it ls) where
  -- leaves and rules by number
  abbrev IsNamed : ℕ → Type 0
  IsNamed n = n < length ls

  abbrev IsRuled : ℕ → ℕ → Type 0
  IsRuled rule count = (rule < length (rule_system g).rules) × (count ≡ arity_at (rule_system g) (slice_get (rule_system g).rules rule))

  leaf_is : (l : ℕ) (leaf : chart.Leaf Structure C) → At (leaves_from 0 ls) l leaf → (t : LeafTree C) × At ls l t × (leaf.shape ≡ t.shape) × (leaf.name ≡ l) × (slice_get ls leaf.name ≡ Some t)
  leaf_is l leaf a =
      let z = leaf_from 0 ls l leaf a in
      let n : leaf.name ≡ l = ap (λ (x : chart.Leaf Structure C). x.name) z.2 ∙ omega arith in
      (z.0, z.1, ap (λ (x : chart.Leaf Structure C). x.shape) z.2, n, ap (slice_get ls) n ∙ to_get z.1)

  agree : Agree (calculus g it) (rules_full (rule_system g)) (Agrees (rule_system g)) (item.wholes g it (limits_in limits) ls) (leaves_from 0 ls)
  agree = record {
    seen = λ v. v;
    keeps = λ rule vs v h. subst (λ us. rules_full (rule_system g) rule us v) (sym (map_same vs)) h;
    leaf_agrees = λ l leaf a.
        let z = leaf_is l leaf a in
        let t = z.0 in
        subst (λ m. Agrees (rule_system g) m (item.full_at (slice_get ls leaf.name))) (sym z.2)
        (subst (λ f. Agrees (rule_system g) t.shape f) (sym (ap item.full_at z.4)) (leaves_agree (rule_system g) t.shape t.full (leaves.each l t z.1).abstract));
  }

  are_apart : AreApart (calculus g it) (item.wholes g it (limits_in limits) ls) (leaves_from 0 ls)
  are_apart = record {
    leaves_apart = λ l m a b x y e.
        let p = leaf_is l a x in
        let q = leaf_is m b y in
        leaves.once l m p.0 q.0 p.1 q.1 (sym (ap item.leaf_at p.4) ∙ e ∙ ap item.leaf_at q.4);
    lexical_leaves = λ l a x.
        let p = leaf_is l a x in
        subst IsLexical (sym (ap item.leaf_at p.4)) (good.lexical p.0.tree (leaves.each l p.0 p.1).leaf);
    places_apart = apart g o;
    one_full = λ rule vs v u x y. one_full g o (slice_get (rule_system g).rules rule) vs v u x y;
  }

  pub fit_item : Fit (calculus g it) (rules_full (rule_system g)) (Agrees (rule_system g)) (item.wholes g it (limits_in limits) ls) IsNamed IsRuled (leaves_from 0 ls)
  fit_item = record {
    agree = agree;
    apart = are_apart;
    names = λ l leaf a. let z = leaf_is l leaf a in subst (λ n. n < length ls) (sym z.3) (at_below z.1);
    rules = λ rule h. (h, refl);
  }

  forest_is : IsPackedWithin (calculus g it) (rules_full (rule_system g)) (Agrees (rule_system g)) (limits_seen limits) (leaves_from 0 ls) → item.IsForest g it (limits_in limits) ls
  forest_is f = record { chart_is = f.chart_is; hosts = f.forest.complete.hosts; holds = f.forest.holds; within = f.within }

  pub found_item : (r : Found) → IsFound (calculus g it) (rules_full (rule_system g)) (Agrees (rule_system g)) (item.wholes g it (limits_in limits) ls) limits (leaves_from 0 ls) r → item.IsFound g it (limits_in limits) ls (answer_of r)
  found_item (found.UnaryChain) f = f
  found_item (found.Edges) f = f
  found_item (found.Readings) f = (forest_is f.0, f.1)
  found_item (found.Trees classes trees) f = (forest_is f.0, f.1, f.2, trees_few)
    where
      map_length : {A B : Type 0} (h : A → B) (xs : List A) → length (map h xs) ≡ length xs
      map_length h [] = refl
      map_length h (x ∷ xs) = ap suc (map_length h xs)

      trees_few : length (map derivation_of trees.items) ≤ limits.readings
      trees_few = subst (λ n. n ≤ limits.readings) (sym (map_length derivation_of trees.items)) f.3
