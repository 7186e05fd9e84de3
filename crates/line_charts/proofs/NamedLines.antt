-- The lines of a structure name features and types that are there.
use Rattle.std.proofs.Common.{ℕ, ◌≡◌, ◌<◌, ◌==◌, Bool, true, false, cond, List, [], ◌∷◌, length, All, Option, None, Some, option_map, find, refl, sym, subst, arith}
use Rattle.std.proofs.lemmas.Bool.Decides.{Decides-eqb}
use Rattle.std.proofs.lemmas.List.Elements.{All-cons}
use Rattle.fs_model.specs.Claims.{Path, Has, here, there}
use Rattle.fs_model.specs.Listing.{IsShown}
use Rattle.fs_model.specs.Table.{walk}
use Rattle.fs_graph.specs.Facts.{Line}
use Rattle.fs_graph.specs.Text.{IsNamed, NamesPath}
use Rattle.fs_graph.specs.declared.graph.GraphArc.{GraphArc}
use Rattle.fs_graph.specs.GraphMap.{GraphMap, arc_to, arcs_at, table_of, reader_of, IsGraph}
use Rattle.fs_graph.specs.PathLists.{IsPathList, IsLineOf}
use Rattle.fs_closing.specs.NodeSteps.{IsGraphIn}

found-arc : (arcs : List GraphArc) (f m : ℕ) → arc_to arcs f ≡ Some m → (a : GraphArc) × Has a arcs × (a.feat.0 ≡ f)
found-arc [] f m e = cc
found-arc (a ∷ arcs) f m e = by_cases (a.feat.0 == f) refl (found-arc arcs f m) e
  where
    by_cases : (b : Bool) → (a.feat.0 == f) ≡ b → (arc_to arcs f ≡ Some m → (x : GraphArc) × Has x arcs × (x.feat.0 ≡ f)) → option_map (λ (x : GraphArc). x.to.0) (cond b (Some a) (find (λ x. x.feat.0 == f) arcs)) ≡ Some m → (x : GraphArc) × Has x (a ∷ arcs) × (x.feat.0 ≡ f)
    by_cases true h later is = (a, here, (Decides-eqb a.feat.0 f).0 h)
    by_cases false h later is = let r = later is in (r.0, there r.1, r.2)

-- the features of a path, and the node to which it leads
walk-in : (types feats : ℕ) (g : GraphMap) → IsGraph g → IsGraphIn types feats g → (n : ℕ) (p : Path) (m : ℕ) → n < length g.types → walk (table_of g) n p ≡ Some m → All (λ f. f < feats) p × (m < length g.types)
walk-in types feats g is within n [] m h e = let same : n ≡ m = cc in ((λ k d below. absurd (omega (arith, below))), subst (λ k. k < length g.types) same h)
walk-in types feats g is within n (f ∷ p) m h e = by_cases (arc_to (arcs_at g n) f) refl (λ k. walk-in types feats g is within k p m) e
  where
    by_cases : (o : Option ℕ) → arc_to (arcs_at g n) f ≡ o → ((k : ℕ) → k < length g.types → walk (table_of g) k p ≡ Some m → All (λ x. x < feats) p × (m < length g.types)) → elim o [ None ↦ None | Some k ↦ walk (table_of g) k p ] ≡ Some m → All (λ x. x < feats) (f ∷ p) × (m < length g.types)
    by_cases None a later b = cc
    by_cases (Some k) a later b =
        let arc = found-arc (arcs_at g n) f k a in
        let rest = later k (is.numbered.table.arc_in n f k h a) b in
        (All-cons (λ x. x < feats) f p (subst (λ x. x < feats) arc.2 (within.feats_in n arc.0 h arc.1)) rest.0, rest.1)

named-same : (types feats : ℕ) (g : GraphMap) → IsGraph g → IsGraphIn types feats g → (n : ℕ) (p : Path) (s : Option Path) → IsShown (reader_of g) n p s → NamesPath feats s
named-same types feats g is within n p None h = tt
named-same types feats g is within n p (Some q) h = (walk-in types feats g is within 0 q n is.numbered.filled h.0.leads).0

named-line : (types feats : ℕ) (g : GraphMap) → IsGraph g → IsGraphIn types feats g → (l : Line) → IsLineOf (reader_of g) l → IsNamed types feats l
named-line types feats g is within l h =
    let w = walk-in types feats g is within 0 l.path h.node is.numbered.filled h.leads in
    record { path = w.0; ty = subst (λ t. t < types) (sym h.typed) (within.types_in h.node 0 w.1); same_as = named-same types feats g is within h.node l.path l.same_as h.shown }

pub lines-named : (types feats : ℕ) (g : GraphMap) → IsGraph g → IsGraphIn types feats g → (lines : List Line) → IsPathList (reader_of g) lines → All (IsNamed types feats) lines
lines-named types feats g is within lines list = λ k d below. named-line types feats g is within _ (list.sound k d below)
