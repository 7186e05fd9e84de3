-- What a full structure means is told by its graph and the one MRS of that.
use Rattle.std.specs.Prelude.{◌≡◌, ◌<◌, Bool, true, false, IsTrue, Option, Some, None, Result, Ok, Err, IfOk, MatchOption, List, [], ◌∷◌, length, All}
use Rattle.std.specs.Option.{is_some}
use Rattle.std.proofs.Common.{sym, ◌∙◌, subst}
use Rattle.std.proofs.lemmas.List.Elements.{All-nil, All-cons}
use Rattle.fs_model.specs.Claims.{IsOrder, Has, here, there}
use Rattle.fs_graph.specs.GraphMap.{GraphMap, arcs_at}
use Rattle.fs_unify.specs.Rules.{Grammar}
use Rattle.fs_unify.specs.Placing.{IsAnswerIn}
use Rattle.tree_model.specs.Structures.{Structure}
use Rattle.tree_model.specs.Mothers.{Meant}
use Rattle.tree_model.specs.Signs.{Signs, rule_system}
use Rattle.mrs_model.specs.Meanings.{Meaning}
use Rattle.mrs_model.specs.declared.equality.Renaming.{Renaming}
use Rattle.mrs_model.specs.Renaming.{AreEqual, IsRenaming}
use Rattle.mrs_places.specs.Looking.{Sought}
use Rattle.mrs_places.specs.Paths.{Paths}
use Rattle.mrs_extract.specs.Asked.{IsOf}
use Rattle.mrs_extract.specs.Extraction.{HasMrs}
use Rattle.mrs_extract.specs.Laws.{MrsIsOne}
use Rattle.tree_structures.specs.Meant.{IsMeantBy}
use Rattle.tree_structures.specs.Laws.{GraphsAreOne}
use Rattle.generate_model.specs.Contributions.{Input, IsGraphOf, Means}

module _ (g : Signs) (f : Structure) where
  -- the graph that shows what a structure means is the structure of its closure
  pub to_meant : (a : GraphMap) → IsGraphOf g.system (Meant (rule_system g) f) a → IsMeantBy g f a
  to_meant a x = record {
    graph_is = x.graph_is;
    structure = record { paths = x.shows.paths; equalities = x.shows.equalities; types_there = x.shows.types_there; types_above = x.shows.types_above };
  }

  pub from_meant : (a : GraphMap) → IsMeantBy g f a → IsGraphOf g.system (Meant (rule_system g) f) a
  from_meant a x = record {
    graph_is = x.graph_is;
    shows = record { paths = x.structure.paths; equalities = x.structure.equalities; types_there = x.structure.types_there; types_above = x.structure.types_above };
  }

module _ (graphs : GraphsAreOne) (mrss : MrsIsOne) (g : Signs) (o : IsOrder g.system) (input : Input) (f : Structure) (graph : GraphMap) (meant : IsMeantBy g f graph) where
  has_here : (m : Means g input f) → HasMrs graph input.types input.paths m.mrs
  has_here m = subst (λ a. HasMrs a input.types input.paths m.mrs) (graphs g o f m.graph graph (to_meant g f m.graph m.is) meant) m.has

  -- without an MRS it means nothing
  pub means_none : ((m : Meaning) → HasMrs graph input.types input.paths m → ⊥) → Means g input f → ⊥
  means_none none m = none m.mrs (has_here m)

  -- with an MRS it means what is equal to that
  means_own : (own : Meaning) → HasMrs graph input.types input.paths own → AreEqual own input.meaning → Means g input f
  means_own own has equal = record { graph = graph; is = from_meant g f graph meant; mrs = own; has = has; equal = equal }

  one_mrs : (own other : Meaning) → HasMrs graph input.types input.paths own → HasMrs graph input.types input.paths other → other ≡ own
  one_mrs own other x y =
      let a : Sought Meaning = Ok own in
      let b : Sought Meaning = Ok other in
      let e : b ≡ a = mrss graph input.types input.paths b a y x in
      cc

  -- and only that
  pub means_told : (own : Meaning) → HasMrs graph input.types input.paths own → (b : Bool) → (IsTrue b → AreEqual own input.meaning) × (AreEqual own input.meaning → IsTrue b) → (IsTrue b → Means g input f) × (Means g input f → IsTrue b)
  means_told own has b equal =
      (λ t. means_own own has (equal.0 t), λ m. equal.1 (subst (λ x. AreEqual x input.meaning) (one_mrs own m.mrs has (has_here m)) m.equal))

-- what matching answers
pub equal_told : (a m : Meaning) (o : Option Renaming) (b : Bool) → b ≡ is_some o → MatchOption o (AreEqual a m → ⊥) (λ r. IsRenaming a m r.to.items) → (IsTrue b → AreEqual a m) × (AreEqual a m → IsTrue b)
equal_told a m None b e h = (λ t. absurd (let z : false ≡ true = sym e ∙ t in cc), λ q. absurd (h q))
equal_told a m (Some r) b e h = (λ t. (r.to.items, h), λ q. e)

all_from_has : {X : Type 0} (P : X → Type 0) (xs : List X) → ((x : X) → Has x xs → P x) → All P xs
all_from_has P [] h = All-nil P
all_from_has P (x ∷ xs) h = All-cons P x xs (h x here) (all_from_has P xs (λ y k. h y (there k)))

-- an answer of unification is a structure of the grammar's types and features
pub of_answer : (g : Grammar) (p : Paths) (graph : GraphMap) → length p.feats ≡ length g.introducers → IsAnswerIn g graph → IsOf g.types p graph
of_answer g p graph e is = record {
  types_in = is.graph_in.types_in;
  feats_in = λ n l. all_from_has (λ a. a.feat.0 < length p.feats) (arcs_at graph n) (λ a h. subst (λ k. a.feat.0 < k) (sym e) (is.graph_in.feats_in n a l h));
}

pub if_ok : {T E : Type 0} (r : Result T E) (P Q : T → Type 0) → ((x : T) → P x → Q x) → IfOk r P → IfOk r Q
if_ok (Ok x) P Q f p = f x p
if_ok (Err e) P Q f p = tt
