-- A rule that doesn't apply to what another says itself of its mothers applies to none of them.
use Rattle.std.proofs.Common.{ℕ, ◌≡◌, Bool, true, false, List, [], ◌∷◌, None, Some, refl, sym, ◌∙◌, ap, subst}
use Rattle.std.specs.Prelude.{◌↔◌, IsTrue, if◌then◌else◌, option_map}
use Rattle.fs_model.specs.Claims.{Path, Claim, IsOrder}
use Rattle.fs_model.specs.Closure.{Closure, given_claim, IsConsistent}
use Rattle.fs_model.specs.Sources.{Reader, Told, Tells, tells_exists, tells_same, tells_below}
use Rattle.fs_graph.specs.GraphMap.{GraphMap, reader_of}
use Rattle.fs_unify.specs.Rules.{system_of}
use Rattle.fs_unify.specs.Owing.{OwedRules}
use Rattle.fs_unify.specs.Placing.{PlacedGraph, source_of}
use Rattle.tree_model.specs.Structures.{Structure, Beside, beside_here, beside_there, Says}
use Rattle.tree_model.specs.Cuts.{Cut, Kept, kept_exists, kept_same, kept_below, is_kept}
use Rattle.tree_model.specs.Mothers.{Rule, RuleSystem, Parts, of_rule, of_daughter, Meant, Whole, Applies, daughters_cut}
use Rattle.tree_model.specs.Views.{view, without, IsKeptOf, inside_none, inside_more, source_of as source_at}
use Rattle.tree_model.proofs.Closures.{grows, moved, falls, keeps_more}
use Rattle.tree_model.proofs.MotherLaws.{full_meant}
use Rattle.tree_model.proofs.SaidLemmas.{said_is_says, said_is_consistent}
use Rattle.tree_model.proofs.ViewLemmas.{says_tells, tells_says, none_applies}
use Rattle.tree_model.specs.Signs.{Instance, Signs, rule_system}
use Rattle.tree_model.specs.Lexical.{IsUnderRule}
use Rattle.book_signs.specs.Signed.{facts_of}
use Rattle.book_signs.specs.Trees.{SignTree, signs_of, rule_at, facts_at, places_at}
use Rattle.rule_trees.specs.Mothers.{graph_view, IsShortIn}
use Rattle.rule_trees.specs.Inner.Placed.{placed_with}
use Rattle.rule_trees.specs.Inner.Following.{IsOwnOf, NeverApplies}
use Rattle.rule_trees.proofs.MakingLemmas.{inside, rule_with, rule_by, rule_is, same_source}
use Rattle.rule_trees.proofs.CopyLemmas.{same_view}

-- what a cut graph tells is what the cut keeps of what the graph tells
kept_node : (cut : Cut) (r : Reader) (p : Path) (n : ℕ) → (without cut r).node_at p ≡ Some n → (is_kept cut p ≡ true) × (r.node_at p ≡ Some n)
kept_node cut r p n h = by_test (is_kept cut p) refl h
  where
    by_test : (b : Bool) → is_kept cut p ≡ b → (if b then r.node_at p else None) ≡ Some n → (is_kept cut p ≡ true) × (r.node_at p ≡ Some n)
    by_test true e k = (e, k)
    by_test false e k = absurd (cc)

tells_kept : (cut : Cut) (r : Reader) (c : Claim) → Tells (without cut r) c → Kept cut (Tells r) c
tells_kept cut r _ (tells_exists p n h) = let k = kept_node cut r p n h in kept_exists p k.0 (tells_exists p n k.1)
tells_kept cut r _ (tells_same p q n h g) = let k = kept_node cut r p n h in let l = kept_node cut r q n g in kept_same p q k.0 l.0 (tells_same p q n k.1 l.1)
tells_kept cut r _ (tells_below p n h) = let k = kept_node cut r p n h in kept_below p (r.type_of n) k.0 (tells_below p n k.1)

module _ (t : SignTree) where
  abbrev g : Signs
  g = signs_of t

  abbrev S : RuleSystem
  S = rule_system g

  -- what is left of a rule's structure without daughters
  pub own_is : (place : ℕ) (structure own : GraphMap) → IsOrder g.system → facts_at g place ≡ Some (facts_of t.book.system structure) → IsShortIn t structure → IsKeptOf (daughters_cut S) (reader_of structure) (reader_of own) → IsOwnOf t place own
  own_is place structure own order facts short kept rule at c x =
      let r = reader_of structure in
      let one : view g.paths (without (daughters_cut S) r) ≡ view g.paths (reader_of own) = same_view g.system order g.paths (without (daughters_cut S) r) (reader_of own) kept in
      let told : Kept (daughters_cut S) (Tells r) c = tells_kept (daughters_cut S) r c (says_tells g.system g.paths (without (daughters_cut S) r) c (subst (λ m. Says g.paths m c) (sym one) x)) in
      let is : rule.facts ≡ facts_of t.book.system structure = (let z : Some rule.facts ≡ Some (facts_of t.book.system structure) = sym (ap (option_map (λ (k : Rule). k.facts)) at) ∙ facts in cc) in
      let said : Kept (daughters_cut S) (Closure g.system (Told (facts_of t.book.system structure))) c =
      keeps_more (λ d a. grows g.system (λ e y. given_claim e ((said_is_says g.paths (view g.paths r) e).1 y)) (tells_says g.system g.paths r (inside t structure short) d a)) told in
      subst (λ fs. Kept (daughters_cut S) (Closure g.system (Told fs)) c) (sym is) said

  -- what unification shows
  pub never_applies : (owed : OwedRules) (place : ℕ) (structure : GraphMap) (places : List Path) (daughter : GraphMap) (parts : List PlacedGraph) (good : Bool) → facts_at g place ≡ Some (facts_of t.book.system structure) → places_at g place ≡ Some places → IsShortIn t structure → IsShortIn t daughter →
      parts ≡ placed_with owed structure places (daughter ∷ []) → IsTrue good ↔ IsConsistent (system_of t.book.system) (Told (source_of parts)) → good ≡ false → NeverApplies t place daughter
  never_applies owed place structure places daughter parts good facts at own short are answer off rule here ok =
      let is : rule_at g place ≡ Some (rule_by t structure places) = rule_is (rule_at g place) (facts_of t.book.system structure) places facts at in
      let same : rule ≡ rule_by t structure places = (let z : Some rule ≡ Some (rule_by t structure places) = sym here ∙ is in cc) in
      let source : source_of parts ≡ source_at (rule_with structure places) (reader_of daughter ∷ []) = ap source_of are ∙ same_source owed structure places (daughter ∷ []) in
      let refused : IsConsistent g.system (Told (source_at (rule_with structure places) (reader_of daughter ∷ []))) → ⊥ =
      λ k. not_true good off (answer.1 (subst (λ src. IsConsistent g.system (Told src)) (sym source) k)) in
      none_applies S (rule_by t structure places) (reader_of daughter ∷ []) (inside_more (inside t daughter short) inside_none)
      (λ k. refused ((said_is_consistent g.system g.paths (reader_of structure) places (reader_of daughter ∷ []) (inside t structure own)).1 k))
      (subst (λ x. Applies S x (graph_view t daughter ∷ [])) same ok)
    where
      not_true : (b : Bool) → b ≡ false → IsTrue b → ⊥
      not_true true e h = cc
      not_true false e h = cc

  one_beside : {place : Path} {places : List Path} {m v e : Structure} → Beside place m places (v ∷ []) → (m ≡ v) × Beside place e places (e ∷ [])
  one_beside beside_here = (refl, beside_here)
  one_beside (beside_there h) = elim h [ ]

  -- a rule that doesn't apply to what another says itself of its mothers applies to none of them
  pub no_follow : (inner outer : ℕ) (own : GraphMap) → IsOwnOf t inner own → NeverApplies t outer own → (d e f : Structure) → IsUnderRule g inner d e → IsUnderRule g outer e f → ⊥
  no_follow inner outer own is never d e f u o =
      never o.instance.rule (ap (option_map (λ (i : Instance). i.rule)) o.at) (falls g.system (λ c a. grows g.system by_part a) o.full.0)
    where
      meant : (c : Claim) → Says g.paths (graph_view t own) c → Meant S e c
      meant c x =
          full_meant S u.instance.rule (d ∷ []) e u.full
          (given_claim c (keeps_more (λ k a. grows g.system (λ m y. given_claim m (of_rule m y)) a) (is u.instance.rule (ap (option_map (λ (i : Instance). i.rule)) u.at) c x)))

      by_part : (c : Claim) → Parts g.paths o.instance.rule (graph_view t own ∷ []) c → Whole S o.instance.rule (e ∷ []) c
      by_part c (of_rule _ h) = given_claim c (of_rule c h)
      by_part _ (of_daughter place m c h x) =
          let z = one_beside h in
          moved g.system place (λ k y. given_claim _ (of_daughter place e k z.1 y)) (meant c (subst (λ s. Says g.paths s c) z.0 x))
