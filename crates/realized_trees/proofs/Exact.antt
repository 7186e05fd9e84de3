-- What is dropped is hopeless, so dropping it changes nothing of what is asked for.
use Rattle.std.specs.Prelude.{ℕ, ◌≡◌, ◌↔◌, true, Option, Some, None, IfSome, List, [], ◌∷◌, map, All, slice_get}
use Rattle.std.proofs.Common.{refl, sym, ◌∙◌, ap, subst, arith, zero, suc, eq-eqb}
use Rattle.chart_model.specs.Calculus.{Calculus}
use Rattle.chart_model.specs.declared.counts.Counts.{Counts}
use Rattle.chart_model.specs.At.{At}
use Rattle.chart_model.specs.Chart.{Leaf, Limits}
use Rattle.derivation.specs.Trees.{Derivation}
use Rattle.fs_model.specs.Claims.{Path, same, below, Has, here, there, IsOrder}
use Rattle.fs_model.specs.Closure.{given_claim}
use Rattle.fs_model.specs.Sources.{Reader}
use Rattle.fs_graph.specs.GraphMap.{GraphMap, reader_of}
use Rattle.tree_model.specs.Readings.{Wholes, IsAccepted}
use Rattle.tree_model.specs.Structures.{Structure, Beside, beside_here, beside_there, pairs_of, Says, says_type, says_equal}
use Rattle.tree_model.specs.Views.{view_type, same_node, view, IsInside}
use Rattle.tree_model.specs.Mothers.{Meant, arity_at}
use Rattle.tree_model.specs.Signs.{Signs, rule_system}
use Rattle.mrs_model.specs.Meanings.{Meaning}
use Rattle.mrs_places.specs.Paths.{Paths}
use Rattle.mrs_extract.specs.Asked.{ArePaths}
use Rattle.book_signs.specs.Trees.{SignTree, signs_of}
use Rattle.rule_trees.specs.Mothers.{graph_view, IsShortIn}
use Rattle.rule_trees.proofs.MakingLemmas.{inside}
use Rattle.generate_model.specs.Contributions.{Input}
use Rattle.generate_model.specs.Threading.{Fit, Hopeless}
use Rattle.generate_model.proofs.Dropped.{hopeless_may_be_dropped}
use Rattle.generate_model.proofs.Pruned.{pruning_is_exact}
use Rattle.generated_leaves.specs.Leaves.{WordLeaf}
use Rattle.realized_trees.specs.Wholes.{input_of, wholes_of, full_named, IsLeafAt}
use Rattle.relation_fit.specs.Fits.{IsAskedOf, IsPartOf}
use Rattle.relation_fit.specs.Lists.{RelList, list_seen}
use Rattle.relation_fit.proofs.Misfits.{misfit_of, misfit_hopeless}
use Rattle.realized_trees.specs.declared.sifting.Sieve.{Sieve}
use Rattle.realized_trees.specs.Sieves.{IsSieve, IsDropped, sifted}
use Rattle.realized_trees.specs.PrunedLaws.{counted_rules, SievesAreExact}
use Rattle.realized_trees.proofs.OneGraph.{has_pair}

beside_mapped : {A B : Type 0} (f : A → B) {x : A} {xs : List A} → Has x xs → Beside x (f x) xs (map f xs)
beside_mapped f here = beside_here
beside_mapped f (there h) = beside_there (beside_mapped f h)

same_one : (o q : Option ℕ) (n : ℕ) → o ≡ Some n → q ≡ Some n → same_node o q ≡ true
same_one o q n a b = ap (λ x. same_node x q) a ∙ ap (same_node (Some n)) b ∙ eq-eqb n n refl

-- what a graph says is said by the structure that it is
module _ (ps : List Path) (r : Reader) (is : IsInside ps r) where
  said_type : (p : Path) (n : ℕ) → r.node_at p ≡ Some n → Says ps (view ps r) (below p (r.type_of n))
  said_type p n at = says_type p (r.type_of n) (subst (λ o. Beside p o ps (view ps r).types) (ap (view_type r) at) (beside_mapped (λ q. view_type r (r.node_at q)) (is p n at)))

  said_equal : (p q : Path) (n : ℕ) → r.node_at p ≡ Some n → r.node_at q ≡ Some n → Says ps (view ps r) (same p q)
  said_equal p q n a b =
      says_equal p q
      (subst (λ t. let pq : Path × Path = (p, q) in Beside pq t (pairs_of ps) (view ps r).equal) (same_one (r.node_at p) (r.node_at q) n a b)
      (beside_mapped (λ (pq : Path × Path). same_node (r.node_at pq.0) (r.node_at pq.1)) (has_pair ps ps (is p n a) (is q n b))))

pub graph_part : (t : SignTree) (graph : GraphMap) → IsShortIn t graph → IsPartOf (Meant (rule_system (signs_of t)) (graph_view t graph)) (reader_of graph)
graph_part t graph short = record {
  equal = λ p q n a b. given_claim (same p q) (said_equal (signs_of t).paths (reader_of graph) (inside t graph short) p q n a b);
  typed = λ p n a. given_claim (below p ((reader_of graph).type_of n)) (said_type (signs_of t).paths (reader_of graph) (inside t graph short) p n a);
}

all_got : {A : Type 0} (P : A → Type 0) (xs : List A) → All P xs → (n : ℕ) (x : A) → slice_get xs n ≡ Some x → P x
all_got P [] all n x e = absurd (let z : None ≡ Some x = e in cc)
all_got P (y ∷ xs) all zero x e = subst P (let z : Some y ≡ Some x = e in cc) (all 0 y (omega arith))
all_got P (y ∷ xs) all (suc n) x e = all_got P xs (λ k d l. all (suc k) d (omega (arith, l))) n x e

module _ (t : SignTree) (p : Paths) (meaning : Meaning) (xs : List WordLeaf) (order : IsOrder (signs_of t).system) (paths : ArePaths t.book.system.types p) (bound : Counts) where
  abbrev g : Signs
  g = signs_of t

  abbrev input : Input
  input = input_of t p meaning

  abbrev w : Wholes Structure Counts
  w = wholes_of g input bound xs

  module _ (s : Sieve) (is : IsSieve t p meaning xs s) where
    abbrev l : RelList
    l = list_seen s.list.now

    asked : IsAskedOf g input l
    asked = record { order = order; same_below = λ a b. refl; list = is.threaded.list; apart = is.threaded.apart }

    dropped_hopeless : (v : Structure) → IsDropped t p s v → Hopeless (rule_system g) l.rest l.ends w.accepted v
    dropped_hopeless v d = λ n m before u c rv ru low em a.
        misfit_hopeless g input l asked paths s.sought.eps.items is.sought d.graph d.is v (subst (λ x. IsPartOf (Meant (rule_system g) x) (reader_of d.graph)) d.seen (graph_part t d.graph d.short))
        (misfit_of input.types p s.sought.eps.items d.graph l d.misfit) n m before u c rv ru low em a.1

    leaf_fit : (x : WordLeaf) (name : ℕ) → slice_get xs name ≡ Some x → Fit (rule_system g) l.rest l.ends (w.leaf_full name)
    leaf_fit x name at = subst (λ o. Fit (rule_system g) l.rest l.ends (full_named o)) (sym at) (all_got (λ (y : WordLeaf). Fit (rule_system g) l.rest l.ends y.full) xs is.reach name x at)

  module _ (k : Calculus Structure Counts) (arities : (rule : ℕ) → k.arity rule ≡ arity_at (rule_system g) (slice_get (rule_system g).rules rule)) (limits : Limits) (leaves : List (Leaf Structure Counts))
      (named : (n : ℕ) (leaf : Leaf Structure Counts) → At leaves n leaf → IsLeafAt g xs leaf.name) (tree : Derivation) where
    -- whatever the covers are
    pub exact_by : (o : Option Sieve) → IfSome o (IsSieve t p meaning xs) → IsAccepted k (sifted t p o w) limits leaves tree ↔ IsAccepted k w limits leaves tree
    exact_by None is =
        pruning_is_exact Structure Counts Structure k w limits leaves (λ v. Unit {0}) (λ v. ⊥) (λ v. ⊥) (record {
          leaf_fit = λ n leaf a. tt;
          keeps_fit = λ rule vs v e fit full. tt;
          spreads = λ rule vs v u e fit full m h. h;
          refused = λ v c fit h a. h;
          drops = λ v fit d. d;
        }) tree
    exact_by (Some s) is =
        hopeless_may_be_dropped Counts (rule_system g) (list_seen s.list.now).rest (list_seen s.list.now).ends is.threaded.outside is.threaded.threads k arities w refl limits leaves
        (λ n leaf a. (let z = named n leaf a in leaf_fit s is z.leaf leaf.name z.at)) (IsDropped t p s) (dropped_hopeless s is) tree

pub sieves_are_exact : SievesAreExact
sieves_are_exact t p meaning xs o order paths is bound own limits leaves named tree = exact_by t p meaning xs order paths bound (counted_rules t bound own) (λ rule. refl) limits leaves named tree o is
