-- What the calls below ask for and give.
use Rattle.std.specs.Prelude.{ℕ, ◌≡◌, ◌<◌, ◌↔◌, Bool, true, false, Some, List, [], ◌∷◌, All, length, map, slice_get, IsTrue}
use Rattle.std.proofs.Common.{refl, sym, subst, zero, suc, arith}
use Rattle.fs_model.specs.Claims.{Path, Has, here, there}
use Rattle.fs_model.specs.Sources.{Subsumes}
use Rattle.fs_graph.specs.GraphMap.{GraphMap, reader_of}
use Rattle.fs_closing.specs.Rules.{Grammar, system_of}
use Rattle.fs_unify.specs.Entering.{IsWellFormed}
use Rattle.fs_unify.specs.Owing.{OwedRules, ListsOwed}
use Rattle.fs_unify.specs.Placing.{PlacedGraph, source_of, IsPlacedIn}
use Rattle.fs_trim.specs.Cutting.{owed_of, IsShort}
use Rattle.tree_model.specs.Cuts.{Cut}
use Rattle.tree_model.specs.Structures.{over}
use Rattle.tree_model.specs.Mothers.{IsShapeAt}
use Rattle.tree_model.specs.Views.{IsTrimmed}
use Rattle.tree_model.proofs.AllLaws.{tests_are_subsumption}
use Rattle.grammar_shapes.specs.declared.phrase_rule.PhraseRule.{PhraseRule}
use Rattle.grammar_shapes.specs.Ruled.{places_of, IsRuleIn, system_in, rule_of}
use Rattle.grammar_shapes.specs.Inner.Parts.{parts_for, daughters_at}
use Rattle.grammar_shapes.specs.Shaped.{Shape, graph_of, meaning_in, BelongsIn}
use Rattle.grammar_shapes.proofs.ShapeLemmas.{inside, made}

module _ (g : Grammar) (cut : Cut) (checks : List Path) (owed : OwedRules) (lists : ListsOwed g (owed_of cut) owed) where
  -- a daughter owes no more than what restrictors cut off
  daughters_in : (ps : List Path) (ss : List Shape) → All (λ p. All (λ f. f < length g.introducers) p) ps → All (BelongsIn g cut checks) ss →
      (p : PlacedGraph) → Has p (daughters_at owed ps (map graph_of ss)) → IsPlacedIn g p
  daughters_in [] ss h k p m = elim m [ ]
  daughters_in (q ∷ ps) [] h k p m = elim m [ ]
  daughters_in (q ∷ ps) (s ∷ ss) h k p here =
      let is = k 0 s (omega arith) in
      record { place_in = h 0 q (omega arith); graph_in = is.short.graph_in; owed_in = record { facts = owed_of cut; lists = lists; well_formed = is.well_formed } }
  daughters_in (q ∷ ps) (s ∷ ss) h k p (there m) = daughters_in ps ss (λ i d l. h (suc i) d (omega (arith, l))) (λ i d l. k (suc i) d (omega (arith, l))) p m

  pub placed_in : (r : PhraseRule) → IsRuleIn g r → IsWellFormed (system_of g) (reader_of r.structure.now) → (ss : List Shape) → All (BelongsIn g cut checks) ss →
      (p : PlacedGraph) → Has p (parts_for owed r (map graph_of ss)) → IsPlacedIn g p
  placed_in r is closed ss k p here = record { place_in = λ i d l. absurd (omega (arith, l)); graph_in = is.structure_in.graph_in; owed_in = closed }
  placed_in r is closed ss k p (there m) = daughters_in (places_of r) ss is.places_in k p m

pub rule_at : {A : Type 0} (P : A → Type 0) (xs : List A) (n : ℕ) (x : A) → slice_get xs n ≡ Some x → All P xs → P x
rule_at P [] n x e h = absurd (cc)
rule_at P (y ∷ xs) zero x e h = let z : y ≡ x = cc in subst P z (h 0 y (omega arith))
rule_at P (y ∷ xs) (suc n) x e h = rule_at P xs n x e (λ i d l. h (suc i) d (omega (arith, l)))

decided : (b : Bool) (A : Type 0) → IsTrue b ↔ A → (c : Bool) → (c ≡ true) ↔ A → b ≡ c
decided true A h c k = sym (k.1 (h.0 refl))
decided false A h true k = h.1 (k.0 refl)
decided false A h false k = refl

pub subsumed : (g : Grammar) (rules : List PhraseRule) (d r : Cut) (a b : Shape) (is_over : Bool) → IsShort g (graph_of a) →
    IsTrue is_over ↔ Subsumes (system_of g) (reader_of (graph_of a)) (reader_of (graph_of b)) → is_over ≡ over (system_of g) (meaning_in g a) (meaning_in g b)
subsumed g rules d r a b is_over is h =
    decided is_over (Subsumes (system_of g) (reader_of (graph_of a)) (reader_of (graph_of b))) h (over (system_of g) (meaning_in g a) (meaning_in g b))
    (tests_are_subsumption (system_in g rules d r) (reader_of (graph_of a)) (reader_of (graph_of b)) (inside g (graph_of a) is))

-- an answer of the call with cuts is a shape
pub whole : (g : Grammar) (rules : List PhraseRule) (d r : Cut) (checks : List Path) (owed : OwedRules) (rule : ℕ) (pr : PhraseRule) → slice_get rules rule ≡ Some pr → IsRuleIn g pr → (ss : List Shape) → All (BelongsIn g r checks) ss →
    (m : Shape) (graph : GraphMap) → graph_of m ≡ graph → IsShort g graph → (placed : List PlacedGraph) → placed ≡ parts_for owed pr (map graph_of ss) →
    IsTrimmed (system_of g) (source_of placed) (d ∷ []) r (Some (reader_of graph)) → IsShapeAt (system_in g rules d r) (slice_get (map (rule_of g) rules) rule) (map (meaning_in g) ss) (meaning_in g m)
whole g rules d r checks owed rule pr at is_in ss all m graph is short placed parts t =
    made g rules d r checks owed rule pr at is_in ss all m (subst (IsShort g) (sym is) short)
    (subst (λ x. IsTrimmed (system_of g) (source_of (parts_for owed pr (map graph_of ss))) (d ∷ []) r (Some (reader_of x))) (sym is)
    (subst (λ ps. IsTrimmed (system_of g) (source_of ps) (d ∷ []) r (Some (reader_of graph))) parts t))
