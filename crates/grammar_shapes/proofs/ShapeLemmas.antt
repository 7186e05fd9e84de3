-- What the calls on graphs give is what the rules make of structures.
use Rattle.std.specs.Prelude.{ℕ, ◌≡◌, ◌++◌, ◌↔◌, Some, List, [], ◌∷◌, All, length, map, slice_get}
use Rattle.std.proofs.Common.{refl, sym, ap, subst, zero, suc, arith}
use Rattle.fs_model.specs.Claims.{Path}
use Rattle.fs_model.specs.Closure.{IsConsistent}
use Rattle.fs_model.specs.Sources.{Reader, Told}
use Rattle.fs_graph.specs.GraphMap.{GraphMap, reader_of}
use Rattle.fs_closing.specs.Rules.{Grammar, system_of}
use Rattle.fs_unify.specs.Owing.{OwedRules}
use Rattle.fs_unify.specs.Placing.{part_of, source_of}
use Rattle.fs_trim.specs.Cutting.{IsShort}
use Rattle.tree_model.specs.Cuts.{Cut}
use Rattle.tree_model.specs.Structures.{Structure}
use Rattle.tree_model.specs.Mothers.{RuleSystem, Applies, IsShapeAt, AppliesAt}
use Rattle.tree_model.specs.Views.{view, IsInside, AllInside, inside_none, inside_more, IsTrimmed, parts_at, source_of as source_at}
use Rattle.tree_model.specs.Said.{rule_alone}
use Rattle.tree_model.proofs.AllLaws.{shapes_are_made, none_where_refused}
use Rattle.tree_model.proofs.SaidLemmas.{said_trims, said_is_consistent}
use Rattle.tree_model.proofs.PathLemmas.{has_path_below}
use Rattle.tree_model.proofs.Closures.{grows, falls}
use Rattle.tree_model.proofs.ViewLemmas.{parts_to, parts_back}
use Rattle.grammar_shapes.specs.declared.phrase_rule.PhraseRule.{PhraseRule}
use Rattle.grammar_shapes.specs.Ruled.{places_of, rule_of, paths_in, system_in, IsRuleIn}
use Rattle.grammar_shapes.specs.Inner.Parts.{parts_for, daughters_at}
use Rattle.grammar_shapes.specs.Shaped.{Shape, graph_of, meaning_in, BelongsIn}

-- a graph that is in range has no path but those that may be
pub inside : (g : Grammar) (graph : GraphMap) → IsShort g graph → IsInside (paths_in g) (reader_of graph)
inside g graph is p n e = has_path_below (length g.introducers) g.path_limit p (is.short p n e) (is.feats_in p n e)

abbrev readers_of : List Shape → List Reader
readers_of ss = map reader_of (map graph_of ss)

all_inside : (g : Grammar) (r : Cut) (checks : List Path) (ss : List Shape) → All (BelongsIn g r checks) ss → AllInside (paths_in g) (readers_of ss)
all_inside g r checks [] all = inside_none
all_inside g r checks (s ∷ ss) all = inside_more (inside g (graph_of s) (all 0 s (omega arith)).short) (all_inside g r checks ss (λ k d l. all (suc k) d (omega (arith, l))))

fused : (g : Grammar) (ss : List Shape) → map (view (paths_in g)) (readers_of ss) ≡ map (meaning_in g) ss
fused g [] = refl
fused g (s ∷ ss) = ap (λ ms. meaning_in g s ∷ ms) (fused g ss)

same_parts : (owed : OwedRules) (ps : List Path) (gs : List GraphMap) → map part_of (daughters_at owed ps gs) ≡ parts_at ps (map reader_of gs)
same_parts owed [] gs = refl
same_parts owed (p ∷ ps) [] = refl
same_parts owed (p ∷ ps) (x ∷ gs) = ap (λ qs. record { place = p; reader = reader_of x } ∷ qs) (same_parts owed ps gs)

same_source : (owed : OwedRules) (r : PhraseRule) (ss : List Shape) → source_of (parts_for owed r (map graph_of ss)) ≡ source_at (rule_alone (reader_of r.structure.now) (places_of r)) (readers_of ss)
same_source owed r ss = ap (λ qs. record { claims = []; parts = record { place = []; reader = reader_of r.structure.now } ∷ qs }) (same_parts owed (places_of r) (map graph_of ss))

pub map_get : {A B : Type 0} (f : A → B) (xs : List A) (n : ℕ) (x : A) → slice_get xs n ≡ Some x → slice_get (map f xs) n ≡ Some (f x)
map_get f [] n x e = absurd (cc)
map_get f (y ∷ xs) zero x e = let z : y ≡ x = cc in ap (λ w. Some (f w)) z
map_get f (y ∷ xs) (suc n) x e = map_get f xs n x e

module _ (g : Grammar) (rules : List PhraseRule) (d r : Cut) (checks : List Path) (owed : OwedRules) where
  abbrev s : RuleSystem
  s = system_in g rules d r

  -- the graph that is answered stands for the mother's shape
  pub made : (rule : ℕ) (pr : PhraseRule) → slice_get rules rule ≡ Some pr → IsRuleIn g pr → (ss : List Shape) → All (BelongsIn g r checks) ss → (m : Shape) → IsShort g (graph_of m) →
      IsTrimmed (system_of g) (source_of (parts_for owed pr (map graph_of ss))) (d ∷ []) r (Some (reader_of (graph_of m))) →
      IsShapeAt s (slice_get s.rules rule) (map (meaning_in g) ss) (meaning_in g m)
  made rule pr at is_in ss all m is t =
      let u = subst (λ src. IsTrimmed (system_of g) src (d ∷ []) r (Some (reader_of (graph_of m)))) (same_source owed pr ss) t in
      let w = said_trims (system_of g) (paths_in g) (reader_of pr.structure.now) (places_of pr) (readers_of ss) (inside g pr.structure.now is_in.structure_in) (d ∷ []) r (Some (reader_of (graph_of m))) u in
      let v = shapes_are_made s (rule_of g pr) (readers_of ss) (reader_of (graph_of m)) (all_inside g r checks ss all) (inside g (graph_of m) is) w in
      rw (map_get (rule_of g) rules rule pr at, ← fused g ss) v

  -- where the parts don't unify, the rule applies to no tuple that begins with these daughters
  pub refused : (rule : ℕ) (pr : PhraseRule) → slice_get rules rule ≡ Some pr → IsRuleIn g pr → (ss : List Shape) → All (BelongsIn g r checks) ss →
      (IsConsistent (system_of g) (Told (source_of (parts_for owed pr (map graph_of ss)))) → ⊥) →
      (rest : List Structure) → AppliesAt s (slice_get s.rules rule) (map (meaning_in g) ss ++ rest) → ⊥
  refused rule pr at is_in ss all clash rest ok =
      let u = subst (λ src. IsConsistent (system_of g) (Told src) → ⊥) (same_source owed pr ss) clash in
      let same = said_is_consistent (system_of g) (paths_in g) (reader_of pr.structure.now) (places_of pr) (readers_of ss) (inside g pr.structure.now is_in.structure_in) in
      none_where_refused s (rule_of g pr) (readers_of ss) (all_inside g r checks ss all) (λ k. u (same.1 k)) rest (rw (map_get (rule_of g) rules rule pr at, ← fused g ss) at ok)

  -- of a whole tuple
  pub refused_whole : (rule : ℕ) (pr : PhraseRule) → slice_get rules rule ≡ Some pr → IsRuleIn g pr → (ss : List Shape) → All (BelongsIn g r checks) ss →
      (IsConsistent (system_of g) (Told (source_of (parts_for owed pr (map graph_of ss)))) → ⊥) → AppliesAt s (slice_get s.rules rule) (map (meaning_in g) ss) → ⊥
  refused_whole rule pr at is_in ss all clash ok = refused rule pr at is_in ss all clash [] (subst (AppliesAt s (slice_get s.rules rule)) (sym (append_none (map (meaning_in g) ss))) ok)
    where
      append_none : (ms : List Structure) → ms ++ [] ≡ ms
      append_none [] = refl
      append_none (m ∷ ms) = ap (λ ns. m ∷ ns) (append_none ms)

  -- the parts unify exactly where the rule, with these daughters alone, has a structure
  unified_there : (pr : PhraseRule) → IsRuleIn g pr → (ss : List Shape) → IsConsistent (system_of g) (Told (source_of (parts_for owed pr (map graph_of ss)))) → Applies s (rule_of g pr) (map (view (paths_in g)) (readers_of ss))
  unified_there pr is_in ss ok =
      let same = said_is_consistent (system_of g) (paths_in g) (reader_of pr.structure.now) (places_of pr) (readers_of ss) (inside g pr.structure.now is_in.structure_in) in
      falls (system_of g) (λ _ a. grows (system_of g) (parts_back s (rule_of g pr) (readers_of ss)) a) (same.0 (subst (λ src. IsConsistent (system_of g) (Told src)) (same_source owed pr ss) ok))

  unified_back : (pr : PhraseRule) → IsRuleIn g pr → (ss : List Shape) → All (BelongsIn g r checks) ss → Applies s (rule_of g pr) (map (view (paths_in g)) (readers_of ss)) → IsConsistent (system_of g) (Told (source_of (parts_for owed pr (map graph_of ss))))
  unified_back pr is_in ss all ok =
      let same = said_is_consistent (system_of g) (paths_in g) (reader_of pr.structure.now) (places_of pr) (readers_of ss) (inside g pr.structure.now is_in.structure_in) in
      subst (λ src. IsConsistent (system_of g) (Told src)) (sym (same_source owed pr ss)) (same.1 (falls (system_of g) (λ _ a. grows (system_of g) (parts_to s (rule_of g pr) (readers_of ss) (all_inside g r checks ss all)) a) ok))

  pub unified : (rule : ℕ) (pr : PhraseRule) → slice_get rules rule ≡ Some pr → IsRuleIn g pr → (ss : List Shape) → All (BelongsIn g r checks) ss →
      IsConsistent (system_of g) (Told (source_of (parts_for owed pr (map graph_of ss)))) ↔ AppliesAt s (slice_get s.rules rule) (map (meaning_in g) ss)
  unified rule pr at is_in ss all = rw (map_get (rule_of g) rules rule pr at, ← fused g ss) (unified_there pr is_in ss, unified_back pr is_in ss all)
