-- Lists of relations as they are read.
use Rattle.std.proofs.Common.{ℕ, ◌≡◌, ◌≢◌, ◌+◌, inl, inr, true, false, List, [], ◌∷◌, ◌++◌, length, replicate, option_map, Option, Some, None, Ok, Err, refl, sym, ◌∙◌, ap, subst}
use Rattle.type_hierarchy.specs.Table.{TypeTable}
use Rattle.fs_graph.specs.GraphMap.{GraphMap, type_at}
use Rattle.mrs_places.specs.Paths.{Feature, Paths}
use Rattle.mrs_places.specs.Looking.{NamedPath, Place, Walks, step, follow, below, is_number}
use Rattle.mrs_places.specs.Inner.Walked.{placed, cells_from, IsPassed}
use Rattle.mrs_places.proofs.Walking.{number_is, number_is_not, passed_end, passed_open, passed_no_rest}
use Rattle.generate_model.specs.Contributing.{IsList, and_type, pred_types, PredTypes, listed, unlisted}
use Rattle.generate_model.specs.Inner.Reading.{IsWalked, IsListOf, on_some, types_in}
use Rattle.generate_model.proofs.OneList.{walks_one}

module _ (g : GraphMap) (types : TypeTable) (p : Paths) (last : Option ℕ) (start node t : ℕ) (cells : List ℕ) (typed : t ≡ type_at g node) (passed : IsPassed g types p last start cells node) where
  pub ends_last : is_number last node ≡ true → IsWalked g types p last start (Some cells)
  ends_last e = passed_end g types p last start node cells (inl (number_is last node e)) passed []

  pub ends_null : below types t p.null ≡ true → IsWalked g types p last start (Some cells)
  ends_null e = passed_end g types p last start node cells (inr (ap (λ u. below types u p.null) (sym typed) ∙ e)) passed []

  pub ends_open : is_number last node ≡ false → below types t p.null ≡ false → below types t p.cons ≡ false → IsWalked g types p last start None
  ends_open l n c = (
    [] ++ replicate (length cells) p.rest.name,
    passed_open g types p last start node cells (number_is_not last node l, ap (λ u. below types u p.null) (sym typed) ∙ n, ap (λ u. below types u p.cons) (sym typed) ∙ c) passed [],
  )

  -- what a cell is told by
  pub cell_turn : is_number last node ≡ false → below types t p.null ≡ false → below types t p.cons ≡ true → (last ≢ Some node) × (below types (type_at g node) p.null ≡ false) × (below types (type_at g node) p.cons ≡ true)
  cell_turn l n c = (number_is_not last node l, ap (λ u. below types u p.null) (sym typed) ∙ n, ap (λ u. below types u p.cons) (sym typed) ∙ c)

  pub ends_restless : (more : List ℕ) → more ≡ cells ++ node ∷ [] → is_number last node ≡ false → below types t p.null ≡ false → below types t p.cons ≡ true → step g node p.rest ≡ None → IsWalked g types p last start None
  ends_restless more e l n c s = ([] ++ replicate (length more) p.rest.name, passed_no_rest g types p last start node cells more e (cell_turn l n c) s passed [])

-- one feature after a path
follow_append : (g : GraphMap) (fs : List Feature) (o : Option ℕ) (f : Feature) → follow g (fs ++ f ∷ []) o ≡ follow g (f ∷ []) (follow g fs o)
follow_append g [] None f = refl
follow_append g [] (Some n) f = refl
follow_append g (h ∷ fs) None f = refl
follow_append g (h ∷ fs) (Some n) f = follow_append g fs (step g n h) f

follow_one : (g : GraphMap) (n : ℕ) (f : Feature) → follow g (f ∷ []) (Some n) ≡ step g n f
follow_one g n f = by_step (step g n f)
  where
    by_step : (o : Option ℕ) → follow g [] o ≡ o
    by_step None = refl
    by_step (Some m) = refl

none_some : {P : Type 0} {o : Option ℕ} {n : ℕ} → o ≡ None → o ≡ Some n → P
none_some e f = let z = sym e ∙ f in absurd (cc)

some_one : {o : Option ℕ} {n m : ℕ} → o ≡ Some n → o ≡ Some m → n ≡ m
some_one {o} {n} {m} e f = let z : Some n ≡ Some m = sym e ∙ f in cc

module _ (g : GraphMap) (types : TypeTable) (p : Paths) (base : List Feature) where
  pub no_path : follow g base (Some 0) ≡ None → (cells : List Place) → IsList g types p base cells → ⊥
  no_path e cells x =
      let z : follow g (base ++ p.rels ∷ []) (Some 0) ≡ None = follow_append g base (Some 0) p.rels ∙ ap (follow g (p.rels ∷ [])) e in
      none_some z x.there

  rels_at : (at : ℕ) → follow g base (Some 0) ≡ Some at → follow g (base ++ p.rels ∷ []) (Some 0) ≡ step g at p.rels
  rels_at at e = follow_append g base (Some 0) p.rels ∙ ap (follow g (p.rels ∷ [])) e ∙ follow_one g at p.rels

  pub no_rels : (at : ℕ) → follow g base (Some 0) ≡ Some at → step g at p.rels ≡ None → (cells : List Place) → IsList g types p base cells → ⊥
  no_rels at e s cells x = none_some (rels_at at e ∙ s) x.there

  rels_is : (at rels : ℕ) → follow g base (Some 0) ≡ Some at → step g at p.rels ≡ Some rels → (cells : List Place) (x : IsList g types p base cells) → x.rels ≡ rels
  rels_is at rels e s cells x = some_one x.there (rels_at at e ∙ s)

  pub no_start : (at rels : ℕ) → follow g base (Some 0) ≡ Some at → step g at p.rels ≡ Some rels → step g rels p.diff_list ≡ None → (cells : List Place) → IsList g types p base cells → ⊥
  no_start at rels e s f cells x = none_some f (subst (λ n. step g n p.diff_list ≡ Some x.start) (rels_is at rels e s cells x) x.begins)

  pub list_of : (at rels start : ℕ) (last : Option ℕ) (o : Option (List ℕ)) → follow g base (Some 0) ≡ Some at → step g at p.rels ≡ Some rels → step g rels p.diff_list ≡ Some start → last ≡ step g rels p.diff_last →
      IsWalked g types p last start o → IsListOf g types p base o
  list_of at rels start last (Some cells) e s b l w =
      record { rels = rels; there = rels_at at e ∙ s; start = start; begins = b; walks = subst (λ z. Walks g types p z (record { node = start; path = [] }) (Ok (cells_from p.rest.name [] cells))) l w }
  list_of at rels start last None e s b l w = λ cells x.
      let same = rels_is at rels e s cells x in
      let begin : x.start ≡ start = some_one (subst (λ n. step g n p.diff_list ≡ Some x.start) same x.begins) b in
      let mine : Walks g types p last (record { node = start; path = [] }) (Ok cells) =
      subst (λ z. Walks g types p z (record { node = start; path = [] }) (Ok cells)) (ap (λ n. step g n p.diff_last) same ∙ sym l) (subst (λ n. Walks g types p (step g x.rels p.diff_last) (record { node = n; path = [] }) (Ok cells)) begin x.walks) in
      let z : Err w.0 ≡ Ok cells = walks_one g types p last (record { node = start; path = [] }) (Err w.0) (Ok cells) w.1 mine in
      absurd (cc)

-- the types of cells by their nodes
type_same : (g : GraphMap) (o : Option ℕ) (ts us : List ℕ) → ts ≡ us → and_type g o ts ≡ on_some (option_map (type_at g) o) us
type_same g None ts us e = e
type_same g (Some n) ts us e = ap (λ vs. type_at g n ∷ vs) e

types_same : (g : GraphMap) (p : Paths) (path : ℕ → NamedPath) (k : ℕ) (ns : List ℕ) → pred_types g p (placed path k ns) ≡ types_in g p ns
types_same g p path k [] = refl
types_same g p path k (n ∷ ns) = type_same g (follow g (p.first ∷ p.pred ∷ []) (Some n)) (pred_types g p (placed path (k + 1) ns)) (types_in g p ns) (types_same g p path (k + 1) ns)

pub types_listed : (g : GraphMap) (types : TypeTable) (p : Paths) (base : List Feature) (ns ts : List ℕ) → IsListOf g types p base (Some ns) → ts ≡ types_in g p ns → PredTypes g types p base ts
types_listed g types p base ns ts x e = subst (PredTypes g types p base) (types_same g p (λ k. [] ++ replicate k p.rest.name) 0 ns ∙ sym e) (listed (cells_from p.rest.name [] ns) x)

pub types_unlisted : (g : GraphMap) (types : TypeTable) (p : Paths) (base : List Feature) (ts : List ℕ) → IsListOf g types p base None → ts ≡ [] → PredTypes g types p base ts
types_unlisted g types p base ts x e = subst (PredTypes g types p base) (sym e) (unlisted x)
