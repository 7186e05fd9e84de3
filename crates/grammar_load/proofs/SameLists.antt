-- Graphs that are one structure have the same closed lists, with the same words.
use Rattle.std.proofs.Common.{ℕ, ◌≡◌, List, [], ◌∷◌, ◌++◌, Option, None, Some, refl, sym, ◌∙◌, ap, subst}
use Rattle.std.specs.List.{AllZip}
use Rattle.std.proofs.lemmas.Slice.Zip.{AllZip-long}
use Rattle.tdl_reader.specs.declared.Status.{Status}
use Rattle.type_hierarchy.specs.Decls.{Name}
use Rattle.type_hierarchy.specs.Table.{TypeTable}
use Rattle.fs_model.specs.Claims.{Path}
use Rattle.fs_model.specs.Sources.{Reader, IsSameStructure}
use Rattle.fs_model.specs.Table.{walk}
use Rattle.fs_graph.specs.GraphMap.{GraphMap, table_of, type_at, arcs_at, arc_to, node_at, reader_of}
use Rattle.lexicon.specs.Words.{Word}
use Rattle.closed_lists.specs.Names.{ListTree}
use Rattle.closed_lists.specs.Lists.{IsAtOrBelow, arc_named, Elements, ends, goes_on, HasList}
use Rattle.closed_lists.specs.Strings.{string_of, AreSpoken, HasWords}
use Rattle.closed_lists.proofs.ListLemmas.{list_one}
use Rattle.closed_lists.proofs.WordLemmas.{spoken_one}
use Rattle.book_shapes.specs.Daughters.{MayHave, HasDaughters, of_rule, no_rule}

pub same_back : (a b : Reader) → IsSameStructure a b → IsSameStructure b a
same_back a b s = record { there = s.there_back; there_back = s.there; equal = s.equal_back; equal_back = s.equal; types = λ p n m e f. sym (s.types p m n f e) }

ends_at : (o : Option ℕ) → elim o [ None ↦ None | Some k ↦ Some k ] ≡ o
ends_at None = refl
ends_at (Some k) = refl

-- a path with one feature more
pub walk_on : (g : GraphMap) (p : Path) (n m f : ℕ) → walk (table_of g) n p ≡ Some m → walk (table_of g) n (p ++ f ∷ []) ≡ arc_to (arcs_at g m) f
walk_on g [] n m f e = let z : Some n ≡ Some m = e in let same : n ≡ m = cc in ends_at (arc_to (arcs_at g n) f) ∙ ap (λ k. arc_to (arcs_at g k) f) same
walk_on g (h ∷ p) n m f e = go (arc_to (arcs_at g n) h) (λ k. walk_on g p k m f) e
  where
    go : (o : Option ℕ) → ((k : ℕ) → walk (table_of g) k p ≡ Some m → walk (table_of g) k (p ++ f ∷ []) ≡ arc_to (arcs_at g m) f)
        → elim o [ None ↦ None | Some k ↦ walk (table_of g) k p ] ≡ Some m → elim o [ None ↦ None | Some k ↦ walk (table_of g) k (p ++ f ∷ []) ] ≡ arc_to (arcs_at g m) f
    go None more i = absurd (let z : None ≡ Some m = i in cc)
    go (Some k) more i = more k i

-- one path leads to both nodes
pub record Meets (g h : GraphMap) (n m : ℕ) : Type 0 where
  pub path : Path
  pub left : node_at g path ≡ Some n
  pub right : node_at h path ≡ Some m

module _ (g h : GraphMap) (s : IsSameStructure (reader_of g) (reader_of h)) where
  met_types : (n m : ℕ) → Meets g h n m → type_at g n ≡ type_at h m
  met_types n m t = s.types t.path n m t.left t.right

  met_arc : (n m k : ℕ) (f : Option ℕ) → Meets g h n m → arc_named g n f ≡ Some k → (l : ℕ) × (arc_named h m f ≡ Some l) × Meets g h k l
  met_arc n m k None t e = absurd (let z : None ≡ Some k = e in cc)
  met_arc n m k (Some f) t e =
      let left : node_at g (t.path ++ f ∷ []) ≡ Some k = walk_on g t.path 0 n f t.left ∙ e in
      let r = s.there (t.path ++ f ∷ []) k left in
      (r.0, sym (walk_on h t.path 0 m f t.right) ∙ r.1, record { path = t.path ++ f ∷ []; left = left; right = r.1 })

  met_elements : (types : TypeTable) (names : ListTree) (n m : ℕ) (xs : List ℕ) → Elements types names g n xs → Meets g h n m → (ys : List ℕ) × Elements types names h m ys × AllZip (Meets g h) xs ys
  met_elements types names n m xs (ends _ at) t = ([], ends m (subst (λ k. IsAtOrBelow types k names.null) (met_types n m t) at), tt)
  met_elements types names n m xs (goes_on _ first rest more nn c f r e) t =
      let a = met_arc n m first names.first t f in
      let b = met_arc n m rest names.rest t r in
      let others = met_elements types names rest b.0 more e b.2 in (
        a.0 ∷ others.0,
        goes_on m a.0 b.0 others.0 (λ z. nn (subst (λ k. IsAtOrBelow types k names.null) (sym (met_types n m t)) z)) (subst (λ k. IsAtOrBelow types k names.cons) (met_types n m t) c) a.1 b.1 others.1,
        (a.2, others.2),
      )

  met_list : (types : TypeTable) (names : ListTree) (path : List (Option ℕ)) (xs : List ℕ) → HasList types names g path xs → (ys : List ℕ) × HasList types names h path ys × AllZip (Meets g h) xs ys
  met_list types names path xs l =
      let r = s.there l.known l.node l.at in
      let e = met_elements types names l.node r.0 xs l.list (record { path = l.known; left = l.at; right = r.1 }) in
      (e.0, record { known = l.known; features = l.features; node = r.0; at = r.1; list = e.1 }, e.2)

  met_strings : (types : TypeTable) (xs ys : List ℕ) (ss : List Name) → AllZip (Meets g h) xs ys → AllZip (λ e t. string_of types (type_at g e) ≡ Some t) xs ss → AllZip (λ e t. string_of types (type_at h e) ≡ Some t) ys ss
  met_strings types [] [] ss z a = a
  met_strings types [] (y ∷ ys) ss z a = absurd z
  met_strings types (x ∷ xs) [] ss z a = absurd z
  met_strings types (x ∷ xs) (y ∷ ys) [] z a = absurd a
  met_strings types (x ∷ xs) (y ∷ ys) (t ∷ ts) z a = (ap (string_of types) (sym (met_types x y z.0)) ∙ a.0, met_strings types xs ys ts z.1 a.1)

  -- the words at a path
  pub words_move : (types : TypeTable) (names : ListTree) (path : List (Option ℕ)) (ws : List Word) → HasWords types names g path ws → HasWords types names h path ws
  words_move types names path ws w =
      let l = met_list types names path w.elements w.list in
      record {
        elements = l.0;
        list = l.1;
        spoken = record { strings = w.spoken.strings; texts = met_strings types w.elements l.0 w.spoken.strings l.2 w.spoken.texts; is = w.spoken.is };
        some = w.some;
      }

  -- the daughters of a rule
  pub daughters_move : (types : TypeTable) (names : ListTree) (args : List (Option ℕ)) (status : Status) → HasDaughters types names args status g → HasDaughters types names args status h
  daughters_move types names args status (of_rule xs l may) =
      let r = met_list types names args xs l in
      of_rule r.0 r.1 (subst (MayHave status) (sym (AllZip-long (Meets g h) xs r.0 r.2)) may)
  daughters_move types names args status (no_rule e) = no_rule e

-- a path has one list of words
pub words_one : (types : TypeTable) (names : ListTree) (g : GraphMap) (path : List (Option ℕ)) (ws vs : List Word) → HasWords types names g path ws → HasWords types names g path vs → ws ≡ vs
words_one types names g path ws vs a b = spoken_one types g b.elements ws vs (subst (λ es. AreSpoken types g es ws) (list_one types names g path a.elements b.elements a.list b.list) a.spoken) b.spoken
