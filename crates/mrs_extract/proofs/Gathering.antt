-- Properties that were found, and the parts of an MRS together.
use Rattle.std.proofs.Common.{ℕ, zero, suc, ◌≡◌, ◌<◌, ◌+◌, ◌↔◌, List, [], ◌∷◌, ◌++◌, length, map, take, get_or, refl, sym, ◌∙◌, ap, subst, arith}
use Rattle.std.specs.Prelude.{Contains, reverse}
use Rattle.std.specs.List.{AllZip, IsDistinct, flat_map}
use Rattle.std.specs.List.Sorted.{IsPermutation}
use Rattle.std.specs.Str.{bytes_eq}
use Rattle.std.proofs.lemmas.List.{append-nil}
use Rattle.std.proofs.lemmas.List.Sorted.{Contains-permutation, IsPermutation-sym}
use Rattle.fs_graph.specs.declared.facts.Feat.{Feat}
use Rattle.fs_graph.specs.GraphMap.{GraphMap, IsGraph}
use Rattle.type_hierarchy.specs.Table.{TypeTable}
use Rattle.mrs_model.specs.declared.Prop.{Prop}
use Rattle.mrs_model.specs.Meanings.{Property, Meaning}
use Rattle.mrs_model.specs.Views.{property_of}
use Rattle.mrs_places.specs.declared.lists.Element.{Element}
use Rattle.mrs_places.specs.declared.looking.Found.{Found}
use Rattle.mrs_places.specs.Paths.{Paths}
use Rattle.mrs_places.specs.Places.{pairs_of, parts_of}
use Rattle.mrs_extract.specs.declared.properties.Waiting.{Waiting}
use Rattle.mrs_extract.specs.Asked.{ArePaths, IsOf}
use Rattle.mrs_extract.specs.Extraction.{open_arcs, IsPropertyAt, Is, IsVariableAt, IsPredicationAt, IsConstraintAt, predication_nodes, constraint_nodes, mentions, noted, all_noted, variable_nodes, IsMrsOf}
use Rattle.mrs_extract.specs.Inner.Routes.{routes, waits, pending, properties_of, numbers_of, AreWaiting}
use Rattle.mrs_extract.proofs.Lists.{in_of, contains_of}
use Rattle.mrs_extract.proofs.Spreading.{first_waiting, first_pending}
use Rattle.mrs_extract.proofs.Joining.{are_properties, properties_differ}
use Rattle.mrs_extract.proofs.Numbering.{Grows, grows_more, noted_grows, all_noted_grows, all_noted_append, is_later, zip_by, zip_more, predication_later, constraint_later}

-- where the search for properties begins
module _ (g : GraphMap) (is : IsGraph g) (p : Paths) (types : TypeTable) (n : ℕ) (lt : n < length g.types) (of_ : IsOf types p g) (feats : ℕ) (count : feats ≡ length p.feats)
    (path : List Feat) (none : path ≡ []) (old rows : List Waiting) (empty : old ≡ []) (rows_are : rows ≡ map (waits 0) (open_arcs g p n) ++ reverse old) where
  begins_with : map (waits 0) (open_arcs g p n) ++ [] ≡ rows
  begins_with = sym (rows_are ∙ ap (λ l. map (waits 0) (open_arcs g p n) ++ reverse l) empty)

  pub begin_waiting : AreWaiting (length g.types) feats (numbers_of path) rows
  begin_waiting =
      subst (λ q. AreWaiting (length g.types) feats (numbers_of q) rows) (sym none)
      (subst (AreWaiting (length g.types) feats []) begins_with (subst (λ (k : ℕ). AreWaiting (length g.types) k [] (map (waits 0) (open_arcs g p n) ++ [])) (sym count) (first_waiting g is p types n lt of_)))

  pub begin_told : (found : List Prop) → found ≡ [] → map property_of found ++ properties_of g types p (pending g p (length g.types) (numbers_of path) rows) ≡ properties_of g types p (routes g p (length g.types) n)
  begin_told found e =
      ap (λ l. map property_of l ++ properties_of g types p (pending g p (length g.types) (numbers_of path) rows)) e
      ∙ ap (λ q. properties_of g types p (pending g p (length g.types) (numbers_of q) rows)) none
      ∙ ap (λ l. properties_of g types p (pending g p (length g.types) [] l)) (sym begins_with)
      ∙ ap (properties_of g types p) (first_pending g is p n lt)

-- where it ends
pub all_found : (g : GraphMap) (types : TypeTable) (p : Paths) (n : ℕ) (path : List ℕ) (rows : List Waiting) (found : List Property) → rows ≡ []
    → found ++ properties_of g types p (pending g p (length g.types) path (reverse rows)) ≡ properties_of g types p (routes g p (length g.types) n) → found ≡ properties_of g types p (routes g p (length g.types) n)
all_found g types p n path rows found none told =
    sym (ap (λ l. found ++ properties_of g types p (pending g p (length g.types) path (reverse l))) none ∙ append-nil found) ∙ told

pub found_differ : (g : GraphMap) (types : TypeTable) (p : Paths) (is : IsGraph g) → ArePaths types p → IsOf types p g → (n : ℕ) → n < length g.types → (found : List Property) → found ≡ properties_of g types p (routes g p (length g.types) n) → IsDistinct bytes_eq (map (λ q. q.name) found)
found_differ g types p is named of_ n lt found e = subst (λ qs. IsDistinct bytes_eq (map (λ q. q.name) qs)) (sym e) (properties_differ g types p is named of_ n lt)

pub told_exactly : (g : GraphMap) (types : TypeTable) (p : Paths) (is : IsGraph g) (n : ℕ) → n < length g.types → (found new : List Property) → found ≡ properties_of g types p (routes g p (length g.types) n) → IsPermutation found new
    → (q : Property) → Contains new q ↔ IsPropertyAt g types p n q.name q.value
told_exactly g types p is n lt found new e same q = (
  (λ c. (let k = Contains-permutation new found q (IsPermutation-sym found new same) c in
      (are_properties g types p is n lt q).0 (in_of (properties_of g types p (routes g p (length g.types) n)) q (subst (λ l. Contains l q) e k)))),
  (λ h. (let i = (are_properties g types p is n lt q).1 h in
      Contains-permutation found new q same (subst (λ l. Contains l q) (sym e) (contains_of (properties_of g types p (routes g p (length g.types) n)) q i)))),
)

take_one : (xs : List ℕ) (k d : ℕ) → k < length xs → take (k + 1) xs ≡ take k xs ++ get_or xs k d ∷ []
take_one [] k d lt = absurd (omega (arith, lt))
take_one (x ∷ xs) zero d lt = refl
take_one (x ∷ xs) (suc k) d lt =
    let q : suc k + 1 ≡ suc (k + 1) = omega arith in
    ap (λ (j : ℕ). take j (x ∷ xs)) q ∙ ap (λ l. x ∷ l) (take_one xs k d (omega (arith, lt)))

map_last : {A B : Type 0} (f : A → B) (xs : List A) (x : A) → map f (xs ++ x ∷ []) ≡ map f xs ++ f x ∷ []
map_last f [] x = refl
map_last f (y ∷ xs) x = ap (λ l. f y ∷ l) (map_last f xs x)

-- one variable more
pub zip_next : {B C : Type 0} (R : ℕ → B → Type 0) (nodes : List ℕ) (k d : ℕ) (view : C → B) (cs more : List C) (c : C) → k < length nodes → more ≡ cs ++ c ∷ [] → R (get_or nodes k d) (view c)
    → AllZip R (take k nodes) (map view cs) → AllZip R (take (k + 1) nodes) (map view more)
zip_next R nodes k d view cs more c lt e r z =
    subst (λ ys. AllZip R (take (k + 1) nodes) ys) (sym (ap (map view) e ∙ map_last view cs c))
    (subst (λ xs. AllZip R xs (map view cs ++ view c ∷ [])) (sym (take_one nodes k d lt)) (zip_more R (take k nodes) (map view cs) (get_or nodes k d) (view c) z r))

-- the parts of an MRS, made in order
module _ (g : GraphMap) (types : TypeTable) (p : Paths) (f : Found) (n0 n1 n2 n3 n4 n5 nodes : List ℕ) (rels hcons icons : List Element) (rels_are : rels ≡ f.rels.items) (hcons_are : hcons ≡ f.hcons.items) (icons_are : icons ≡ f.icons.items)
    (e0 : n0 ≡ []) (e1 : n1 ≡ noted n0 f.top.0) (e2 : n2 ≡ noted n1 f.index.0) (e3 : n3 ≡ all_noted n2 (flat_map (predication_nodes g types p) (pairs_of rels)))
    (e4 : n4 ≡ all_noted n3 (flat_map constraint_nodes (pairs_of hcons))) (e5 : n5 ≡ all_noted n4 (flat_map constraint_nodes (pairs_of icons))) (e6 : nodes ≡ n5) where
  abbrev R : List ℕ
  R = flat_map (predication_nodes g types p) (pairs_of rels)

  abbrev H : List ℕ
  H = flat_map constraint_nodes (pairs_of hcons)

  abbrev I : List ℕ
  I = flat_map constraint_nodes (pairs_of icons)

  first_two : n2 ≡ all_noted [] (f.top.0 ∷ f.index.0 ∷ [])
  first_two = e2 ∙ ap (λ l. noted l f.index.0) (e1 ∙ ap (λ l. noted l f.top.0) e0)

  with_rels : n3 ≡ all_noted [] (f.top.0 ∷ f.index.0 ∷ R)
  with_rels = e3 ∙ ap (λ l. all_noted l R) first_two

  with_hcons : n4 ≡ all_noted [] ((f.top.0 ∷ f.index.0 ∷ R) ++ H)
  with_hcons = e4 ∙ ap (λ l. all_noted l H) with_rels ∙ sym (all_noted_append [] (f.top.0 ∷ f.index.0 ∷ R) H)

  with_icons : n5 ≡ all_noted [] (((f.top.0 ∷ f.index.0 ∷ R) ++ H) ++ I)
  with_icons = e5 ∙ ap (λ l. all_noted l I) with_hcons ∙ sym (all_noted_append [] ((f.top.0 ∷ f.index.0 ∷ R) ++ H) I)

  mentions_are : ((f.top.0 ∷ f.index.0 ∷ R) ++ H) ++ I ≡ mentions g types p (parts_of f)
  mentions_are i = ((f.top.0 ∷ f.index.0 ∷ flat_map (predication_nodes g types p) (pairs_of (rels_are i))) ++ flat_map constraint_nodes (pairs_of (hcons_are i))) ++ flat_map constraint_nodes (pairs_of (icons_are i))

  last_is : n5 ≡ variable_nodes g types p (parts_of f)
  last_is = with_icons ∙ ap (all_noted []) mentions_are

  from_fourth : Grows n4 n5
  from_fourth = subst (Grows n4) (sym e5) (all_noted_grows n4 I)

  from_third : Grows n3 n5
  from_third = grows_more n3 n4 n5 (subst (Grows n3) (sym e4) (all_noted_grows n3 H)) from_fourth

  from_second : Grows n2 n5
  from_second = grows_more n2 n3 n5 (subst (Grows n2) (sym e3) (all_noted_grows n2 R)) from_third

  from_first : Grows n1 n5
  from_first = grows_more n1 n2 n5 (subst (Grows n1) (sym e2) (noted_grows n1 f.index.0)) from_second

  pub gathered : (m : Meaning) → Is n1 f.top.0 m.top → Is n2 f.index.0 m.index → AllZip (IsPredicationAt g types p n3) (pairs_of rels) m.eps → AllZip (IsConstraintAt g types p n4) (pairs_of hcons) m.hcons
      → AllZip (IsConstraintAt g types p n5) (pairs_of icons) m.icons → AllZip (IsVariableAt g types p) nodes m.vars → IsMrsOf g types p (parts_of f) m
  gathered m top index eps hs is vars = record {
    vars = subst (λ ns. AllZip (IsVariableAt g types p) ns m.vars) (e6 ∙ last_is) vars;
    top = subst (λ ns. Is ns f.top.0 m.top) last_is (is_later n1 n5 f.top.0 m.top from_first top);
    index = subst (λ ns. Is ns f.index.0 m.index) last_is (is_later n2 n5 f.index.0 m.index from_second index);
    eps = subst (λ es. AllZip (IsPredicationAt g types p (variable_nodes g types p (parts_of f))) (pairs_of es) m.eps) rels_are
        (subst (λ ns. AllZip (IsPredicationAt g types p ns) (pairs_of rels) m.eps) last_is
        (zip_by (IsPredicationAt g types p n3) (IsPredicationAt g types p n5) (predication_later g types p n3 n5 from_third) (pairs_of rels) m.eps eps));
    hcons = subst (λ es. AllZip (IsConstraintAt g types p (variable_nodes g types p (parts_of f))) (pairs_of es) m.hcons) hcons_are
        (subst (λ ns. AllZip (IsConstraintAt g types p ns) (pairs_of hcons) m.hcons) last_is
        (zip_by (IsConstraintAt g types p n4) (IsConstraintAt g types p n5) (constraint_later g types p n4 n5 from_fourth) (pairs_of hcons) m.hcons hs));
    icons = subst (λ es. AllZip (IsConstraintAt g types p (variable_nodes g types p (parts_of f))) (pairs_of es) m.icons) icons_are
        (subst (λ ns. AllZip (IsConstraintAt g types p ns) (pairs_of icons) m.icons) last_is is);
  }
