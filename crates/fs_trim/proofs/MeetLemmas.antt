-- Paths that lead to a node in each of two graphs.
use Rattle.std.proofs.Common.{ℕ, ◌≡◌, ◌≢◌, ◌<◌, ◌⊎◌, inl, inr, true, false, Option, Some, None, List, [], ◌∷◌, ◌++◌, length, slice_index, refl, sym, ◌∙◌, ap}
use Rattle.fs_model.specs.Claims.{Path, System}
use Rattle.fs_model.specs.Sources.{Subsumes}
use Rattle.fs_model.specs.Table.{walk}
use Rattle.fs_model.proofs.TableLemmas.{walk-append, walk-step, walk_ends}
use Rattle.fs_model.proofs.SubsumeLemmas.{Subsumes-from_matching}
use Rattle.fs_model.proofs.ListingLemmas.{comes_from}
use Rattle.type_hierarchy.specs.Table.{TypeTable, is_below}
use Rattle.fs_graph.specs.GraphMap.{GraphMap, type_at, table_of, reader_of, IsGraph}
use Rattle.fs_trim.specs.Marks.{unmet}
use Rattle.fs_trim.specs.Matching.{HasOrder, IsApart, NeverSubsumes, Meets, AreArcsKept, IsMatched}

-- a path goes on by an arc
on : (g : GraphMap) → IsGraph g → (n f k : ℕ) (p : Path) → walk (table_of g) 0 p ≡ Some n → (table_of g).arc n f ≡ Some k →
    walk (table_of g) 0 (p ++ f ∷ []) ≡ Some k
on g a n f k p e is = walk-append (table_of g) a.numbered.table 0 n p (f ∷ []) e ∙ walk-step (table_of g) n k f [] is

module _ (g h : GraphMap) (a : IsGraph g) (b : IsGraph h) where
  pub root_meets : Meets g h 0 0
  root_meets = ([], refl, refl)

  pub meets_in : (n m : ℕ) → Meets g h n m → m < length h.types
  meets_in n m e = (walk_ends (table_of h) b.numbered.table 0 m e.0 b.numbered.filled e.2).0

  pub meets_on : (n m f k j : ℕ) → Meets g h n m → (table_of g).arc n f ≡ Some k → (table_of h).arc m f ≡ Some j → Meets g h k j
  meets_on n m f k j e x y = (e.0 ++ f ∷ [], on g a n f k e.0 e.1 x, on h b m f j e.0 e.2 y)

  -- a path that isn't there
  pub no_arc : (n m f k : ℕ) → Meets g h n m → (table_of g).arc n f ≡ Some k → (table_of h).arc m f ≡ None → NeverSubsumes g h
  no_arc n m f k e x y s sub =
      let there = sub.paths (e.0 ++ f ∷ []) k (on g a n f k e.0 e.1 x) in
      let stops : walk (table_of h) 0 (e.0 ++ f ∷ []) ≡ None =
      walk-append (table_of h) b.numbered.table 0 m e.0 (f ∷ []) e.2
      ∙ ap (λ o. elim o as (λ _. Option ℕ) [ None ↦ None | Some i ↦ walk (table_of h) i [] ]) y in
      let both : None ≡ Some there.0 = sym stops ∙ there.1 in
      cc

  -- an equality that isn't there
  pub two_nodes : (k x y : ℕ) → Meets g h k x → Meets g h k y → x ≢ y → NeverSubsumes g h
  two_nodes k x y d e apart s sub =
      let same : Some x ≡ Some y = sym (sub.equalities d.0 e.0 k x d.1 e.1 d.2) ∙ e.2 in
      apart cc

  -- a type that isn't below
  pub type_apart : (types : TypeTable) (n m : ℕ) → Meets g h n m → is_below types (type_at h m) (type_at g n) ≡ false → IsApart types g h
  type_apart types n m e not s order sub =
      let both : true ≡ false = sym (sub.types e.0 n m e.1 e.2) ∙ order (type_at h m) (type_at g n) ∙ not in
      cc

  -- where all nodes of less number are matched, a node is met
  pub next_met : (marks : List ℕ) (n : ℕ) → n < length g.types → slice_index marks 0 ≡ 0 → ((k : ℕ) → k < n → AreArcsKept g h marks k) →
      slice_index marks n ≢ unmet
  next_met marks n l root done = go (comes_from (table_of g) a.least a.numbered a.height a.falls n l)
    where
      go : (n ≡ 0) ⊎ ((m : ℕ) × (f : ℕ) × (m < n) × ((table_of g).arc m f ≡ Some n) × (a.least n ≡ a.least m ++ f ∷ [])) → slice_index marks n ≢ unmet
      go (inl e) = λ is.
          let zero : slice_index marks n ≡ 0 = ap (slice_index marks) e ∙ root in
          let same : 0 ≡ unmet = sym zero ∙ is in
          cc
      go (inr c) = (done c.0 c.2 c.1 n c.3).0

  -- where all nodes are matched, the general one subsumes the special one
  pub all_matched : (types : TypeTable) (marks : List ℕ) → slice_index marks 0 ≡ 0 →
      ((n : ℕ) → n < length g.types → IsMatched types g h marks n) → (s : System) → HasOrder s types → Subsumes s (reader_of g) (reader_of h)
  all_matched types marks root all s order =
      Subsumes-from_matching s (table_of g) (table_of h) a.numbered.table a.numbered.filled (λ n. refl) (λ n. refl) (slice_index marks)
      (record {
        root = root;
        arcs = λ n f m l e. ((all n l).arcs f m e).1;
        types = λ n l. order (type_at h (slice_index marks n)) (type_at g n) ∙ (all n l).type_below;
      })
