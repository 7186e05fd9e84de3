-- What parts tell is forced, and so is the root where facts are given.
use Rattle.std.proofs.Common.{ℕ, zero, suc, ◌≡◌, ◌<◌, ◌≤◌, inl, Some, List, [], ◌∷◌, ◌++◌, map, length, refl, sym, ◌∙◌, ap, subst, arith, append-nil, append_assoc, length-append}
use Rattle.fs_model.specs.Claims.{Path, Claim, exists_at, same, below, at, Has, here, there}
use Rattle.fs_model.specs.Sources.{Told, told_claim, told_part, Tells, tells_exists, tells_same, tells_below, Part}
use Rattle.fs_model.proofs.TableLemmas.{walk-append, walk-step, walk_ends}
use Rattle.fs_graph.specs.declared.facts.Fact.{Fact}
use Rattle.fs_graph.specs.Facts.{claim_of, claims_of}
use Rattle.fs_graph.specs.declared.graph.GraphArc.{GraphArc}
use Rattle.fs_graph.specs.GraphMap.{GraphMap, IsGraph, reader_of, node_at, table_of, type_at, arcs_at}
use Rattle.fs_closing.proofs.BesideLemmas.{rises_found}
use Rattle.fs_closing.specs.Rules.{system_of}
use Rattle.forced_types.specs.declared.given.Given.{Given}
use Rattle.forced_types.specs.declared.nodes.Image.{Image}
use Rattle.forced_types.specs.declared.placed.PlacedGraph.{PlacedGraph}
use Rattle.forced_types.specs.Forced.{given_claim, given_front}
use Rattle.forced_types.specs.Views.{part_of}
use Rattle.forced_types.specs.Inner.Sound.{Forces, AreFronts, IsImage, most_of, place_at, graph_at, source_in}
use Rattle.forced_types.proofs.ForcedLemmas.{forced_within}

-- a part by its place in the list
abbrev part_at : List PlacedGraph → ℕ → Part
part_at parts i = record { place = place_at parts i; reader = reader_of (graph_at parts i) }

part_has : (parts : List PlacedGraph) (i : ℕ) → i < length parts → Has (part_at parts i) (map part_of parts)
part_has [] i h = absurd (omega arith)
part_has (p ∷ parts) zero h = here
part_has (p ∷ parts) (suc i) h = there (part_has parts i (omega arith))

module _ (g : Given) (i : ℕ) (i_in : i < length g.parts.now) where
  told_at : (c : Claim) → Tells (reader_of (graph_at g.parts.now i)) c → Told (source_in g) (at (place_at g.parts.now i) c)
  told_at c tells = told_part (part_at g.parts.now i) c (part_has g.parts.now i i_in) tells

  pub forces_exists : (x : Path) (m : ℕ) → node_at (graph_at g.parts.now i) x ≡ Some m → length (place_at g.parts.now i ++ x) ≤ most_of g →
      Forces g (exists_at (place_at g.parts.now i ++ x))
  forces_exists x m e w = given_claim _ (told_at _ (tells_exists x m e)) w

  pub forces_same : (x y : Path) (m : ℕ) → node_at (graph_at g.parts.now i) x ≡ Some m → node_at (graph_at g.parts.now i) y ≡ Some m →
      length (place_at g.parts.now i ++ x) ≤ most_of g → length (place_at g.parts.now i ++ y) ≤ most_of g →
      Forces g (same (place_at g.parts.now i ++ x) (place_at g.parts.now i ++ y))
  forces_same x y m e d v w = given_claim _ (told_at _ (tells_same x y m e d)) (v, w)

  pub forces_below : (x : Path) (m : ℕ) → node_at (graph_at g.parts.now i) x ≡ Some m → length (place_at g.parts.now i ++ x) ≤ most_of g →
      Forces g (below (place_at g.parts.now i ++ x) (type_at (graph_at g.parts.now i) m))
  forces_below x m e w = given_claim _ (told_at _ (tells_below x m e)) w

  pub place_fronts : AreFronts g (place_at g.parts.now i)
  place_fronts q r e l = given_front _ q r (told_at _ (tells_exists [] 0 refl)) (append-nil (place_at g.parts.now i) ∙ sym e) l

-- the path of a node that was made for a node of a graph is within the bound
pub image_short : (g : Given) (path : Path) (im : Image) (h : IsImage g.parts.now path im) → Forces g (exists_at path) → length (place_at g.parts.now im.part ++ h.inside) ≤ most_of g
image_short g path im h f =
    let w : length path ≤ most_of g = forced_within (system_of g.system.now) (most_of g) (Told (source_in g)) (exists_at path) f in
    subst (λ x. length x ≤ most_of g) h.path_is w

pub image_in : (g : Given) (path : Path) (im : Image) (h : IsImage g.parts.now path im) → IsGraph (graph_at g.parts.now im.part) → im.node < length (graph_at g.parts.now im.part).types
image_in g path im h ok = (walk_ends (table_of (graph_at g.parts.now im.part)) ok.numbered.table 0 im.node h.inside ok.numbered.filled h.leads).0

-- a path that goes on along an arc of a graph
pub arc_leads : (graph : GraphMap) (x : Path) (n : ℕ) (a : GraphArc) → IsGraph graph → node_at graph x ≡ Some n → n < length graph.types → Has a (arcs_at graph n) →
    node_at graph (x ++ a.feat.0 ∷ []) ≡ Some a.to.0
arc_leads graph x n a ok e n_in has =
    walk-append (table_of graph) ok.numbered.table 0 n x (a.feat.0 ∷ []) e
    ∙ walk-step (table_of graph) n a.to.0 a.feat.0 [] (rises_found (arcs_at graph n) a (ok.rises n n_in) has)

module _ (g : Given) (path : Path) (im : Image) (h : IsImage g.parts.now path im) (ok : IsGraph (graph_at g.parts.now im.part)) (there : Forces g (exists_at path))
    (a : GraphArc) (has : Has a (arcs_at (graph_at g.parts.now im.part) im.node)) where
  on : node_at (graph_at g.parts.now im.part) (h.inside ++ a.feat.0 ∷ []) ≡ Some a.to.0
  on = arc_leads (graph_at g.parts.now im.part) h.inside im.node a ok h.leads (image_in g path im h ok) has

  longer_path : path ++ a.feat.0 ∷ [] ≡ place_at g.parts.now im.part ++ (h.inside ++ a.feat.0 ∷ [])
  longer_path = ap (λ x. x ++ a.feat.0 ∷ []) h.path_is ∙ append_assoc (place_at g.parts.now im.part) h.inside (a.feat.0 ∷ [])

  longer_in : length path < most_of g → length (place_at g.parts.now im.part ++ (h.inside ++ a.feat.0 ∷ [])) ≤ most_of g
  longer_in l = omega (arith, ap length longer_path, length-append path (a.feat.0 ∷ []))

  pub arc_there : length path < most_of g → Forces g (exists_at (path ++ a.feat.0 ∷ []))
  arc_there l = subst (λ x. Forces g (exists_at x)) (sym longer_path) (forces_exists g im.part h.part_in (h.inside ++ a.feat.0 ∷ []) a.to.0 on (longer_in l))

  pub arc_image : IsImage g.parts.now (path ++ a.feat.0 ∷ []) (record { part = im.part; node = a.to.0 })
  arc_image = record { part_in = h.part_in; inside = h.inside ++ a.feat.0 ∷ []; path_is = longer_path; leads = on }

  pub arc_same : length path < most_of g → (path' : Path) → IsImage g.parts.now path' (record { part = im.part; node = a.to.0 }) → Forces g (exists_at path') →
      Forces g (same (path ++ a.feat.0 ∷ []) path')
  arc_same l path' k there' =
      subst (λ x. Forces g (same x path')) (sym longer_path)
      (subst (λ x. Forces g (same (place_at g.parts.now im.part ++ (h.inside ++ a.feat.0 ∷ [])) x)) (sym k.path_is)
      (forces_same g im.part h.part_in (h.inside ++ a.feat.0 ∷ []) k.inside a.to.0 on k.leads (longer_in l)
      (image_short g path' (record { part = im.part; node = a.to.0 }) k there')))

pub root_given : (g : Given) (facts : List Fact) → g.facts.now ≡ facts → 0 < length facts → Forces g (exists_at [])
root_given g [] is h = absurd (omega arith)
root_given g (fact ∷ facts) is h =
    let told : Told (source_in g) (claim_of fact) = told_claim (claim_of fact) (subst (λ l. Has (claim_of fact) (claims_of l)) (sym is) here) in
    front (claim_of fact) told
  where
    front : (c : Claim) → Told (source_in g) c → Forces g (exists_at [])
    front (exists_at p) t = given_front _ [] p t refl (omega arith)
    front (same p q) t = given_front _ [] p t (inl refl) (omega arith)
    front (below p u) t = given_front _ [] p t refl (omega arith)
