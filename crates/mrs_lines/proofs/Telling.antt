-- What answers of unification are to extraction, and answers in other words.
use Rattle.std.proofs.Common.{◌≡◌, ◌<◌, List, [], ◌∷◌, length, Result, Ok, Err, IfOk, sym, subst}
use Rattle.std.specs.Prelude.{All}
use Rattle.std.proofs.lemmas.List.Elements.{All-nil, All-cons}
use Rattle.fs_model.specs.Claims.{Has, here, there}
use Rattle.fs_graph.specs.GraphMap.{GraphMap, arcs_at}
use Rattle.fs_unify.specs.Rules.{Grammar}
use Rattle.fs_unify.specs.Placing.{IsAnswerIn}
use Rattle.mrs_places.specs.Paths.{Paths}
use Rattle.mrs_extract.specs.Asked.{IsOf}

all_from_has : {X : Type 0} (P : X → Type 0) (xs : List X) → ((x : X) → Has x xs → P x) → All P xs
all_from_has P [] h = All-nil P
all_from_has P (x ∷ xs) h = All-cons P x xs (h x here) (all_from_has P xs (λ y k. h y (there k)))

-- an answer of unification is a structure of the grammar's types and features
pub of_answer : (g : Grammar) (p : Paths) (graph : GraphMap) → length p.feats ≡ length g.introducers → IsAnswerIn g graph → IsOf g.types p graph
of_answer g p graph e is = record {
  types_in = is.graph_in.types_in;
  feats_in = λ n l. all_from_has (λ a. a.feat.0 < length p.feats) (arcs_at graph n) (λ a h. subst (λ k. a.feat.0 < k) (sym e) (is.graph_in.feats_in n a l h));
}

pub if_ok : {T E : Type 0} (r : Result T E) (P Q : T → Type 0) → ((t : T) → P t → Q t) → IfOk r P → IfOk r Q
if_ok (Ok t) P Q f p = f t p
if_ok (Err e) P Q f p = tt
