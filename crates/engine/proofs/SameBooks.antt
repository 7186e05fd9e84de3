-- Books that are the same up to how nodes are numbered have the same signs.
use Rattle.std.proofs.Common.{ℕ, suc, ◌≡◌, List, [], ◌∷◌, ◌++◌, length, map, Option, None, Some, refl, sym, ◌∙◌, ap, subst}
use Rattle.std.specs.List.{AllZip, range_with_len}
use Rattle.type_hierarchy.specs.Table.{TypeTable}
use Rattle.fs_model.specs.Claims.{Path}
use Rattle.fs_model.specs.Sources.{IsSameStructure}
use Rattle.fs_graph.specs.GraphMap.{GraphMap, type_at, reader_of}
use Rattle.fs_unify.specs.Rules.{Grammar, system_of}
use Rattle.tree_model.specs.Said.{SameViews, source_said}
use Rattle.closed_lists.specs.Names.{ListTree}
use Rattle.closed_lists.specs.Lists.{IsAtOrBelow, arc_named, Elements, ends, goes_on, HasList}
use Rattle.book_shapes.specs.Daughters.{is_rule}
use Rattle.constraint_expand.specs.declared.books.Book.{Book}
use Rattle.constraint_expand.specs.Books.{Numbered, numbered_of, InstanceMap}
use Rattle.book_shapes.specs.Shapes.{lists_of, instances_of}
use Rattle.tree_model.specs.Signs.{Instance, Signs}
use Rattle.book_signs.specs.Signed.{kind_of, known_of, paths_in, facts_of, element_path, AreDaughters, ArePlaces, of_rule, of_other, IsSignOf, IsSignsOf}
use Rattle.grammar_load.specs.Outcomes.{IsSameInstance, IsSameBook}
use Rattle.grammar_load.proofs.SameLists.{walk_on, Meets}

-- the closed lists of two graphs of one structure
module _ (g h : GraphMap) (s : IsSameStructure (reader_of g) (reader_of h)) where
  same_type : (n m : ℕ) → Meets g h n m → type_at g n ≡ type_at h m
  same_type n m t = s.types t.path n m t.left t.right

  same_arc : (n m k : ℕ) (f : Option ℕ) → Meets g h n m → arc_named g n f ≡ Some k → (l : ℕ) × (arc_named h m f ≡ Some l) × Meets g h k l
  same_arc n m k None t e = absurd (let z : None ≡ Some k = e in cc)
  same_arc n m k (Some f) t e =
      let left = walk_on g t.path 0 n f t.left ∙ e in
      let r = s.there (t.path ++ f ∷ []) k left in
      (r.0, sym (walk_on h t.path 0 m f t.right) ∙ r.1, record { path = t.path ++ f ∷ []; left = left; right = r.1 })

  same_elements : (types : TypeTable) (names : ListTree) (n m : ℕ) (xs : List ℕ) → Elements types names g n xs → Meets g h n m → (ys : List ℕ) × Elements types names h m ys × (length xs ≡ length ys)
  same_elements types names n m xs (ends _ at) t = ([], ends m (subst (λ k. IsAtOrBelow types k names.null) (same_type n m t) at), refl)
  same_elements types names n m xs (goes_on _ first rest more nn c f r e) t =
      let a = same_arc n m first names.first t f in
      let b = same_arc n m rest names.rest t r in
      let others = same_elements types names rest b.0 more e b.2 in (
        a.0 ∷ others.0,
        goes_on m a.0 b.0 others.0 (λ z. nn (subst (λ k. IsAtOrBelow types k names.null) (sym (same_type n m t)) z)) (subst (λ k. IsAtOrBelow types k names.cons) (same_type n m t) c) a.1 b.1 others.1,
        ap suc others.2,
      )

-- the places of daughters, by types and names
record Placed (types : TypeTable) (n : Numbered) (g : GraphMap) (places : List Path) : Type 0 where
  elements : List ℕ
  list : HasList types (lists_of n) g n.args_path elements
  first : ℕ
  first_is : n.first ≡ Some first
  rest : ℕ
  rest_is : n.rest ≡ Some rest
  paths : places ≡ map (element_path list.known first rest) (range_with_len 0 (length elements))

placed_on : (types : TypeTable) (n : Numbered) (g h : GraphMap) → IsSameStructure (reader_of g) (reader_of h) → (places : List Path) → Placed types n g places → Placed types n h places
placed_on types n g h s places p =
    let r = s.there p.list.known p.list.node p.list.at in
    let e = same_elements g h s types (lists_of n) p.list.node r.0 p.elements p.list.list (record { path = p.list.known; left = p.list.at; right = r.1 }) in
    record {
      elements = e.0;
      list = record { known = p.list.known; features = p.list.features; node = r.0; at = r.1; list = e.1 };
      first = p.first;
      first_is = p.first_is;
      rest = p.rest;
      rest_is = p.rest_is;
      paths = p.paths ∙ ap (λ k. map (element_path p.list.known p.first p.rest) (range_with_len 0 k)) e.2;
    }

placed_of : (b : Book) (g : GraphMap) (places : List Path) → AreDaughters b g places → Placed b.system.types (numbered_of b.names) g places
placed_of b g places d = record { elements = d.elements; list = d.list; first = d.first; first_is = d.first_is; rest = d.rest; rest_is = d.rest_is; paths = d.paths }

daughters_of : (b : Book) (g : GraphMap) (places : List Path) → Placed b.system.types (numbered_of b.names) g places → AreDaughters b g places
daughters_of b g places d = record { elements = d.elements; list = d.list; first = d.first; first_is = d.first_is; rest = d.rest; rest_is = d.rest_is; paths = d.paths }

module _ (views : SameViews) (b c : Book) (same : IsSameBook b c) where
  places_on : (i j : InstanceMap) → IsSameInstance i j → (places : List Path) → ArePlaces b i places → ArePlaces c j places
  places_on i j s places (of_rule is d) =
      let there = placed_on b.system.types (numbered_of b.names) i.structure j.structure s.structure places (placed_of b i.structure places d) in
      let renamed = subst (λ n. Placed b.system.types n j.structure places) same.numbered there in
      let typed = subst (λ (t : Grammar). Placed t.types (numbered_of c.names) j.structure places) same.system renamed in
      of_rule (sym (ap is_rule s.status) ∙ is) (daughters_of c j.structure places typed)
  places_on i j s places (of_other is none) = of_other (sym (ap is_rule s.status) ∙ is) none

  sign_on : (i j : InstanceMap) → IsSameInstance i j → (x : Instance) → IsSignOf b i x → IsSignOf c j x
  sign_on i j s x p =
      let viewed = ap (source_said (paths_in c.system)) (views (paths_in c.system) (reader_of i.structure) (reader_of j.structure) s.structure) in
      record { kind = p.kind ∙ ap kind_of s.status; facts = p.facts ∙ ap (λ t. facts_of t i.structure) same.system ∙ viewed; places = places_on i j s x.rule.places p.places }

  all_on : (is js : List InstanceMap) → AllZip IsSameInstance is js → (xs : List Instance) → AllZip (IsSignOf b) is xs → AllZip (IsSignOf c) js xs
  all_on [] [] s [] p = tt
  all_on [] [] s (x ∷ xs) p = absurd p
  all_on [] (j ∷ js) s xs p = absurd s
  all_on (i ∷ is) [] s xs p = absurd s
  all_on (i ∷ is) (j ∷ js) s [] p = absurd p
  all_on (i ∷ is) (j ∷ js) s (x ∷ xs) p = (sign_on i j s.0 x p.0, all_on is js s.1 xs p.1)

  pub signs_on : (g : Signs) → IsSignsOf b g → IsSignsOf c g
  signs_on g p = record {
    system = p.system ∙ ap system_of same.system;
    paths = p.paths ∙ ap paths_in same.system;
    instances = all_on (instances_of b) (instances_of c) same.instances g.instances p.instances;
    daughter_features = p.daughter_features ∙ ap (λ (n : Numbered). known_of n.daughter_features) same.numbered;
    restrictors = p.restrictors ∙ ap (λ (n : Numbered). known_of n.restrictors) same.numbered;
  }
