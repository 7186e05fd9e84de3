-- What is picked of told trees are the leaves for an input, where none is too deep.
use Rattle.std.specs.Prelude.{ℕ, ◌≡◌, ◌≤◌, ◌+◌, true, false, Option, List}
use Rattle.std.proofs.Common.{Result, Ok, Err, IfOk, refl, sym, ◌∙◌, ap, subst, arith}
use Rattle.fs_model.specs.Claims.{IsOrder}
use Rattle.chart_model.specs.At.{At}
use Rattle.chart_model.specs.declared.counts.Counts.{Counts}
use Rattle.chart_model.specs.Lists.{all_within}
use Rattle.derivation.specs.Trees.{Derivation}
use Rattle.tree_model.specs.Structures.{Structure}
use Rattle.tree_model.specs.Mothers.{Meant}
use Rattle.tree_model.specs.Signs.{Signs, rule_system}
use Rattle.tree_model.specs.Lexical.{Words, rule_count}
use Rattle.tree_model.specs.Trees.{Full, full_lexical}
use Rattle.tree_model.proofs.Once.{one}
use Rattle.generate_model.specs.Bags.{Word, bag_of, preds_of, distinct, tally, empties, LiesIn, holds}
use Rattle.generate_model.specs.Realizations.{Asked, IsLexicalTree, IsGenLeaf, IsCovering, IsGenTooDeep}
use Rattle.generate_model.specs.Contributions.{Input, Contribution, asked_of}
use Rattle.generate_model.proofs.Contributed.{one_says}
use Rattle.generate_model.proofs.BagLemmas.{counted_some, counted_is}
use Rattle.generated_leaves.specs.Told.{ToldWord, IsToldWord, AreTold}
use Rattle.generated_leaves.specs.Leaves.{WordLeaf, IsLeafOf, AreGenLeaves, GenLexical, TooDeep, Leaves, IsGenLexical}
use Rattle.generated_leaves.specs.Inner.Picking.{leaf_at, cover_of, picked, some_deep, IsPicked}
use Rattle.generated_leaves.proofs.Holding.{held_among, held_within, held_lies, lies_held, within_held}
use Rattle.generated_leaves.proofs.Picked.{IsLeafAt, deep_found, none_deep, picked_from, picked_at, picked_once}

pub if_ok : {T E : Type 0} (r : Result T E) (P Q : T → Type 0) → ((t : T) → P t → Q t) → IfOk r P → IfOk r Q
if_ok (Ok t) P Q f p = f t p
if_ok (Err e) P Q f p = tt

module _ (g : Signs) (o : IsOrder g.system) (words : Words) (input : Input) (own : ℕ → Option Counts) (most empty : ℕ) (xs : List ToldWord) (told : AreTold g words input.types input.paths (most + 1) xs) where
  abbrev bag : List Word
  bag = preds_of input.meaning

  abbrev asked : Asked
  asked = asked_of g input

  abbrev Told : ToldWord → Type 0
  Told x = IsToldWord g words input.types input.paths (most + 1) x

  says_of : (x : ToldWord) → Told x → Contribution g input x.full x.preds
  says_of x t = t.said input refl refl

  full_of : (x : ToldWord) → Told x → Full g x.tree x.full
  full_of x t = subst (λ d. Full g d x.full) (sym t.inflected.is) (full_lexical t.inflected.full)

  lexical_of : (x : ToldWord) → Told x → IsLexicalTree g words x.tree
  lexical_of x t = record { entry = t.inflected.entry; rules = t.inflected.rules; said = t.inflected.said; is = t.inflected.is; spells = t.inflected.spells; structure = x.full; full = t.inflected.full }

  few_rules : (x : ToldWord) → Told x → rule_count x.tree ≤ most + 1
  few_rules x t = subst (λ n. n ≤ most + 1) (sym (ap rule_count t.inflected.is)) t.inflected.few

  -- a lexical tree is told, with what it contributes
  found_of : (d : Derivation) → IsLexicalTree g words d → rule_count d ≤ most + 1 → (n : ℕ) × (y : ToldWord) × At xs n y × (y.tree ≡ d)
  found_of d l few =
      told.all (record { tree = d; full = l.structure })
      (record { entry = l.entry; rules = l.rules; said = l.said; is = l.is; spells = l.spells; full = l.full; few = subst (λ n. n ≤ most + 1) (ap rule_count l.is) few })

  same_preds : (y : ToldWord) → Told y → (d : Derivation) → y.tree ≡ d → (f : Structure) → Full g d f → (ws : List Word) → Contribution g input f ws → y.preds ≡ ws
  same_preds y t d e f full ws says =
      let same : y.full ≡ f = one g o (subst (λ z. Full g z y.full) e (full_of y t)) full in
      one_says g.system o input (Meant (rule_system g) f) input.paths.mrs_path y.preds ws (subst (λ z. Contribution g input z y.preds) same (says_of y t)) says

  pub too_deep : some_deep (bag_of bag) most empty xs ≡ true → IsGenTooDeep g words asked most empty own
  too_deep h =
      let r = deep_found (bag_of bag) most empty xs h in
      let t = told.each r.0 r.1 r.2 in
      let d = r.3 in
      let few = few_rules r.1 t in
      let over = d.deep in
      record {
        tree = r.1.tree;
        is = lexical_of r.1 t;
        deep = omega (arith, few, over);
        structure = r.1.full;
        full = full_of r.1 t;
        contributed = r.1.preds;
        says = says_of r.1 t;
        lies = held_lies r.1.preds bag d.held;
      }

  pub not_deep : some_deep (bag_of bag) most empty xs ≡ false → IsGenTooDeep g words asked most empty own → ⊥
  not_deep h d =
      let deep = d.deep in
      let r = found_of d.tree d.is (omega (arith, deep)) in
      let y = r.1 in
      let e = same_preds y (told.each r.0 y r.2) d.tree r.3 d.structure d.full d.contributed d.says in
      let count : rule_count y.tree ≡ most + 1 = ap rule_count r.3 ∙ deep in
      none_deep (bag_of bag) most empty h r.2 (record { held = lies_held y.preds bag (subst (λ ws. LiesIn ws bag) (sym e) d.lies); deep = omega (arith, count) })

  covering_of : (x : ToldWord) → Told x → IsLeafAt (bag_of bag) most empty x → IsCovering g words asked most empty own x.tree (cover_of (bag_of bag) x.preds)
  covering_of x t l = record { structure = x.full; full = full_of x t; contributed = x.preds; says = says_of x t; is = counted_is (distinct bag) x.preds (empties x.preds) (held_among x.preds bag l.held) }

  leaf_of : (x : ToldWord) → Told x → IsLeafAt (bag_of bag) most empty x → IsLeafOf g words asked most empty own (leaf_at (bag_of bag) x)
  leaf_of x t l = record {
    leaf = record { leaf = (lexical_of x t, l.low); cover = cover_of (bag_of bag) x.preds; covering = covering_of x t l; within = held_within x.preds bag l.held; few = l.few };
    covering = covering_of x t l;
    full = full_of x t;
  }

  each_of : (n : ℕ) (x : WordLeaf) → At (picked (bag_of bag) most empty xs) n x → IsLeafOf g words asked most empty own x
  each_of n x a =
      let r = picked_from (bag_of bag) most empty xs n x a in
      subst (IsLeafOf g words asked most empty own) (sym r.4) (leaf_of r.1 (told.each r.0 r.1 r.2) r.3)

  -- a leaf's tree is one that is picked
  is_picked : (y : ToldWord) → Told y → (d : Derivation) → y.tree ≡ d → IsGenLeaf g words asked most empty own d → IsLeafAt (bag_of bag) most empty y
  is_picked y t d e l =
      let c = l.covering in
      let same = same_preds y t d e c.structure c.full c.contributed c.says in
      let k = counted_some (distinct bag) c.contributed (empties c.contributed) l.cover c.is in
      let within : all_within (tally (distinct bag) c.contributed) (tally (distinct bag) bag) ≡ true = subst (λ ns. all_within ns (tally (distinct bag) bag) ≡ true) k.of l.within in
      let held = within_held c.contributed bag k.among within in
      let few : empties c.contributed ≤ empty = subst (λ n. n ≤ empty) k.empty l.few in
      record {
        held = subst (λ ws. holds (bag_of bag) ws ≡ true) (sym same) held;
        low = subst (λ n. n ≤ most) (sym (ap rule_count e)) l.leaf.1;
        few = subst (λ ws. empties ws ≤ empty) (sym same) few;
      }

  all_of : (d : Derivation) → IsGenLeaf g words asked most empty own d → (n : ℕ) × (x : WordLeaf) × At (picked (bag_of bag) most empty xs) n x × (x.tree ≡ d)
  all_of d l =
      let low = l.leaf.1 in
      let r = found_of d l.leaf.0 (omega (arith, low)) in
      let p = picked_at (bag_of bag) most empty r.2 (is_picked r.1 (told.each r.0 r.1 r.2) d r.3 l) in
      (p.0, leaf_at (bag_of bag) r.1, p.1, r.3)

  pub leaves_are : AreGenLeaves g words asked most empty own (picked (bag_of bag) most empty xs)
  leaves_are = record { each = each_of; all = all_of; once = picked_once (bag_of bag) most empty xs told.once }

  pub lexical_is : (found : GenLexical) → IsPicked (bag_of bag) most empty xs found → IsGenLexical g words asked most empty own found
  lexical_is TooDeep h = too_deep h
  lexical_is (Leaves ls) h = (not_deep h.0, subst (AreGenLeaves g words asked most empty own) (sym h.1) leaves_are)
