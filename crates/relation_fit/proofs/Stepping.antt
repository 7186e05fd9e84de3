-- One step of the walk along the lists of a rule.
use Rattle.std.specs.Prelude.{ℕ, ◌≡◌, Some, List, [], ◌∷◌, ◌++◌, length, map}
use Rattle.std.proofs.Common.{refl, sym, ◌∙◌, ap, subst, arith, zero, suc, get_or}
use Rattle.std.specs.List.{remove}
use Rattle.std.proofs.lemmas.List.{map-append}
use Rattle.std.proofs.lemmas.List.Sorted.{IsPermutation-map, IsPermutation-remove}
use Rattle.fs_model.specs.Claims.{Path}
use Rattle.fs_graph.specs.GraphMap.{GraphMap, node_at}
use Rattle.fs_graph.specs.declared.facts.Feat.{Feat}
use Rattle.fs_graph.specs.Facts.{path_of}
use Rattle.relation_fit.specs.declared.links.DaughterList.{DaughterList}
use Rattle.relation_fit.specs.declared.list.RelationList.{RelationList}
use Rattle.relation_fit.specs.Lists.{list_seen}
use Rattle.relation_fit.specs.Inner.Links.{open_seen, BeginsAt, Linked}
use Rattle.relation_fit.proofs.Linking.{linked_cell, linked_daughter}

pub no_items : {A : Type 0} (xs : List A) → length xs ≡ 0 → xs ≡ []
no_items [] e = refl
no_items (x ∷ xs) e = absurd (omega (arith, e))

get_mapped : {A B : Type 0} (f : A → B) (xs : List A) (k : ℕ) (d : A) → get_or (map f xs) k (f d) ≡ f (get_or xs k d)
get_mapped f [] k d = refl
get_mapped f (x ∷ xs) zero d = refl
get_mapped f (x ∷ xs) (suc k) d = get_mapped f xs k d

mapped_length : {A B : Type 0} (f : A → B) (xs : List A) → length (map f xs) ≡ length xs
mapped_length f [] = refl
mapped_length f (x ∷ xs) = ap suc (mapped_length f xs)

pub step_daughter : (g : GraphMap) (list : RelationList) (places : List Path) (old : List DaughterList) (k : ℕ) (taken : DaughterList) (path : List Feat) (node n : ℕ) →
    taken ≡ get_or old k taken → BeginsAt g (map open_seen old) node k → node_at g (path_of path) ≡ Some node → node_at g (path_of taken.end.items) ≡ Some n →
    Linked g (list_seen list) places (map open_seen old) (path_of path) → Linked g (list_seen list) places (map open_seen (remove old k)) (path_of taken.end.items)
step_daughter g list places old k taken path node n value b here end known =
    linked_daughter g (list_seen list) places (map open_seen old) (map open_seen (remove old k)) (open_seen taken) (path_of path) node n
    (IsPermutation-map open_seen old (taken ∷ remove old k) (IsPermutation-remove old k taken (let i = b.inside in let e = mapped_length open_seen old in omega (arith, i, e)) value))
    here (subst (λ o. node_at g o.start ≡ Some node) (get_mapped open_seen old k taken ∙ ap open_seen (sym value)) (b.begins (open_seen taken))) end known

pub step_cell : (g : GraphMap) (list : RelationList) (places : List Path) (left : List DaughterList) (path : List Feat) (node n : ℕ) →
    node_at g (path_of path) ≡ Some node → node_at g (path_of (path ++ list.rest ∷ [])) ≡ Some n →
    Linked g (list_seen list) places (map open_seen left) (path_of path) → Linked g (list_seen list) places (map open_seen left) (path_of (path ++ list.rest ∷ []))
step_cell g list places left path node n here next known =
    let e : path_of (path ++ list.rest ∷ []) ≡ path_of path ++ list.rest.0 ∷ [] = map-append (λ (f : Feat). f.0) path (list.rest ∷ []) in
    subst (λ p. Linked g (list_seen list) places (map open_seen left) p) (sym e)
    (linked_cell g (list_seen list) places (map open_seen left) (path_of path) node n here (subst (λ p. node_at g p ≡ Some n) e next) known)
