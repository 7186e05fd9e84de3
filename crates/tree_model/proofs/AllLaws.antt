-- The laws of shapes, put together.
use Rattle.std.specs.Prelude.{ℕ, ◌≡◌, ◌↔◌, true, Option, Some, None, List, ◌++◌, map, slice_get}
use Rattle.chart_model.specs.Calculus.{Calculus, AllOver, NoneApplies}
use Rattle.tree_model.specs.Structures.{Structure, over, Along}
use Rattle.tree_model.specs.Mothers.{Rule, RuleSystem, AppliesAt, IsShapeAt, IsFullAt, IsAbstract, Abstract, Whole, Mother, Agrees}
use Rattle.fs_model.specs.Claims.{Claim, below}
use Rattle.fs_model.specs.Closure.{Closure, given_claim}
use Rattle.tree_model.specs.Cuts.{Kept, kept_exists, kept_same, kept_below}
use Rattle.tree_model.specs.Mothers.{restrictors_cut, of_rule, of_daughter}
use Rattle.tree_model.specs.Views.{view}
use Rattle.tree_model.proofs.Closures.{keeps_more, trimmed_inside, closure_ends}
use Rattle.tree_model.specs.Laws.{RulesKeepShapes, RulesAgree, LeavesAgree, by_rule, by_full, TestsAreExact, OneCutDoes, ShapesAreMade, FullsAreMade, LeavesAreMade, NoneWhereRefused, TestsAreSubsumption, TypesRefuse}
use Rattle.tree_model.proofs.Overs.{over_itself, over_on, over_one}
use Rattle.tree_model.proofs.ViewLemmas.{trimmed_shape, trimmed_full, trimmed_abstract, none_applies, over_subsumes, subsumes_over}
use Rattle.tree_model.proofs.MotherLaws.{beside_begins, applies_falls, shapes_monotone, applies_begins, over_meant, meant_over, shape_meant, meant_shape, agrees_applies, mother_agrees, leaf_agrees, over_agrees}

module _ (g : RuleSystem) where
  falls_at : (r : Option Rule) (gs ss : List Structure) → AllOver (over g.system) gs ss → AppliesAt g r ss → AppliesAt g r gs
  falls_at None gs ss o a = a
  falls_at (Some rule) gs ss o a = applies_falls g rule gs ss o a

  monotone_at : (r : Option Rule) (gs ss : List Structure) (n m : Structure) → AllOver (over g.system) gs ss → IsShapeAt g r gs n → IsShapeAt g r ss m → over g.system n m ≡ true
  monotone_at None gs ss n m o a b = absurd a
  monotone_at (Some rule) gs ss n m o a b = shapes_monotone g rule gs ss n m o a b

  has_mother_at : (r : Option Rule) (ms : List Structure) (m : Structure) → IsShapeAt g r ms m → AppliesAt g r ms
  has_mother_at None ms m a = a
  has_mother_at (Some rule) ms m a = a.0

  agrees_at : (r : Option Rule) (ms fs : List Structure) (f : Structure) → Along (Agrees g) ms fs → IsFullAt g r fs f → AppliesAt g r ms
  agrees_at None ms fs f o a = absurd a
  agrees_at (Some rule) ms fs f o a = agrees_applies g rule ms fs f o a

  mother_at : (r : Option Rule) (ms fs : List Structure) (m f : Structure) → Along (Agrees g) ms fs → IsFullAt g r fs f → IsShapeAt g r ms m → Agrees g m f
  mother_at None ms fs m f o a b = absurd a
  mother_at (Some rule) ms fs m f o a b = mother_agrees g rule ms fs m f o a b

pub rules_keep_shapes : RulesKeepShapes
rules_keep_shapes g o = record {
  reflexive = over_itself g.system o;
  transitive = over_on g.system o;
  antisymmetric = over_one g.system o;
  falls = λ rule gs ss h a. falls_at g (slice_get g.rules rule) gs ss h a;
  monotone = λ rule gs ss n m h a b. monotone_at g (slice_get g.rules rule) gs ss n m h a b;
  has_mother = λ rule ms m a. has_mother_at g (slice_get g.rules rule) ms m a;
}

pub rules_agree : RulesAgree
rules_agree g = record {
  applies_too = λ rule ms fs f o a. agrees_at g (slice_get g.rules rule) ms fs f o a;
  mother_agrees = λ rule ms fs m f o a b. mother_at g (slice_get g.rules rule) ms fs m f o a b;
  over_agrees = over_agrees g;
}

pub leaves_agree : LeavesAgree
leaves_agree g = leaf_agrees g

-- where a rule doesn't apply to the beginning of a tuple, it applies to no tuple that begins so
pub none_from_front : {C : Type 0} (g : RuleSystem) (k : Calculus Structure C) (rule : ℕ) (front : List Structure) → ((ms : List Structure) → k.applies rule ms → AppliesAt g (slice_get g.rules rule) ms) → (AppliesAt g (slice_get g.rules rule) front → ⊥) → NoneApplies k rule front
none_from_front g k rule front is refused rest l a = refused (begins_at (slice_get g.rules rule) (is (front ++ rest) a))
  where
    begins_at : (r : Option Rule) → AppliesAt g r (front ++ rest) → AppliesAt g r front
    begins_at None b = b
    begins_at (Some r) b = applies_begins g r front rest b

tests_exact : (g : RuleSystem) (G H : Claim → Type 0) (a b : Structure) → IsAbstract g (Closure g.system G) a → IsAbstract g (Closure g.system H) b →
    (over g.system a b ≡ true) ↔ ((c : Claim) → Abstract g (Closure g.system G) c → Abstract g (Closure g.system H) c)
tests_exact g G H a b x y = (
  λ h c z. meant_shape g (Closure g.system H) b y (over_meant g.system g.paths h (shape_meant g (Closure g.system G) a (closure_ends g.system) x z)),
  λ k. meant_over g.system g.paths x y (λ c z. shape_meant g (Closure g.system H) b (closure_ends g.system) y (k c (meant_shape g (Closure g.system G) a x z))),
)

pub tests_are_exact : TestsAreExact
tests_are_exact g (by_rule r rs) (by_rule q qs) a b x y = tests_exact g _ _ a b x y
tests_are_exact g (by_rule r rs) (by_full f) a b x y = tests_exact g _ _ a b x y
tests_are_exact g (by_full f) (by_rule q qs) a b x y = tests_exact g _ _ a b x y
tests_are_exact g (by_full f) (by_full e) a b x y = tests_exact g _ _ a b x y

pub one_cut_does : OneCutDoes
one_cut_does g lies rule ms c = (λ a. keeps_more (λ d z. trimmed_inside g.system z) a, back c)
  where
    back : (c : Claim) → Kept (restrictors_cut g) (Whole g rule ms) c → Kept (restrictors_cut g) (Mother g rule ms) c
    back _ (kept_exists p e a) = kept_exists p e (given_claim _ (kept_exists p (lies p e) a))
    back _ (kept_same p q e f a) = kept_same p q e f (given_claim _ (kept_same p q (lies p e) (lies q f) a))
    back _ (kept_below p t e a) = kept_below p t e (given_claim _ (kept_below p t (lies p e) a))

pub shapes_are_made : ShapesAreMade
shapes_are_made g = trimmed_shape g

pub fulls_are_made : FullsAreMade
fulls_are_made g = trimmed_full g

pub leaves_are_made : LeavesAreMade
leaves_are_made g = trimmed_abstract g

pub none_where_refused : NoneWhereRefused
none_where_refused g rule rs all refused rest ok = none_applies g rule rs all refused (applies_begins g rule (map (view g.paths) rs) rest ok)

pub tests_are_subsumption : TestsAreSubsumption
tests_are_subsumption g a b inside = (over_subsumes g.system g.paths a b inside, subsumes_over g.system g.paths a b)

pub types_refuse : TypesRefuse
types_refuse g rule front place p m t u b says told none rest ok =
    let z = ok.typed (place ++ p) u t (given_claim _ (of_rule _ told)) (given_claim _ (of_daughter place m (below p t) (beside_begins g rest b) says)) in
    let y : g.system.meet u t ≡ Some z.0 = z.1 in cc
