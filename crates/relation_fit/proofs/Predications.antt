-- What the elements of a structure's list are in its MRS, and so in what that is equal to.
use Rattle.std.specs.Prelude.{ℕ, ◌≡◌, ◌<◌, Bool, true, false, Option, Some, None, Ok, Err, List, [], ◌∷◌, ◌++◌, length, map, slice_get, slice_index}
use Rattle.std.proofs.Common.{refl, sym, ◌∙◌, ap, subst, arith, zero, suc, inl, inr}
use Rattle.std.specs.List.{AllZip}
use Rattle.std.specs.List.Sorted.{IsPermutation}
use Rattle.std.specs.Char.{to_ascii_lowercase}
use Rattle.std.proofs.lemmas.List.Sorted.{Contains-permutation, IsPermutation-sym}
use Rattle.type_hierarchy.specs.Table.{TypeTable}
use Rattle.fs_model.specs.Claims.{Path, System, IsOrder}
use Rattle.fs_graph.specs.declared.graph.GraphArc.{GraphArc}
use Rattle.fs_graph.specs.GraphMap.{GraphMap, IsGraph, node_at, type_at, arcs_at}
use Rattle.tree_model.specs.Structures.{Structure}
use Rattle.tree_model.specs.Mothers.{Meant}
use Rattle.tree_model.specs.Signs.{Signs, rule_system}
use Rattle.mrs_model.specs.Meanings.{Variable, Filler, of_var, of_text, Argument, Predication, Meaning}
use Rattle.mrs_model.specs.Renaming.{renamed_filler, renamed_argument, renamed_ep, unspanned, IsRenaming}
use Rattle.mrs_places.specs.Paths.{Feature, Paths}
use Rattle.mrs_places.specs.Looking.{Sought, Place, Pair, Parts, chain, and_more, all_there, step, look, look_pair, pairs_in}
use Rattle.mrs_extract.specs.Extraction.{Normal, is_string, type_name, feature_name, is_role, role_arcs, IsVariableAt, IsFillerOf, IsArgumentAt, AreRolesAt, IsPredicationAt, IsMrsOf, variable_nodes}
use Rattle.mrs_extract.proofs.Lists.{In, in_of, contains_of, in_map, of_map, of_filter}
use Rattle.generate_model.specs.Threads.{times, Reaches}
use Rattle.generate_model.specs.Contributions.{Input, Means}
use Rattle.relation_fit.specs.Lists.{RelList, list_in}
use Rattle.relation_fit.specs.Fits.{NullApart, SameBelow}
use Rattle.relation_fit.proofs.Chains.{err_ok, ok_one, more_is}
use Rattle.relation_fit.proofs.Elements.{Begun, one_step, look_ok, looks_begun, known, cell_at}

-- what is there of a list of what is looked for
module _ {A B : Type 0} (f : A → Sought B) where
  pub all_at : (xs : List A) (ys : List B) → all_there (map f xs) ≡ Ok ys → (i : ℕ) (x : A) → slice_get xs i ≡ Some x → (y : B) × (slice_get ys i ≡ Some y) × (f x ≡ Ok y)
  all_at [] ys e i x h = absurd (let z : None ≡ Some x = h in cc)
  all_at (a ∷ xs) ys e i x h = by_first (f a) refl e (λ zs g j k. all_at xs zs g j x k)
    where
      by_place : (b : B) → f a ≡ Ok b → (q : (zs : List B) × (all_there (map f xs) ≡ Ok zs) × (b ∷ zs ≡ ys)) → (i : ℕ) → slice_get (a ∷ xs) i ≡ Some x →
          ((zs : List B) → all_there (map f xs) ≡ Ok zs → (j : ℕ) → slice_get xs j ≡ Some x → (y : B) × (slice_get zs j ≡ Some y) × (f x ≡ Ok y)) → (y : B) × (slice_get ys i ≡ Some y) × (f x ≡ Ok y)
      by_place b t q zero k go = (b, sym (ap (λ l. slice_get l 0) q.2), (let z : Some a ≡ Some x = k in let s : a ≡ x = cc in sym (ap f s) ∙ t))
      by_place b t q (suc j) k go = let z = go q.0 q.1 j k in (z.0, sym (ap (λ l. slice_get l (suc j)) q.2) ∙ z.1, z.2)

      by_first : (o : Sought B) → f a ≡ o → all_there (o ∷ map f xs) ≡ Ok ys →
          ((zs : List B) → all_there (map f xs) ≡ Ok zs → (j : ℕ) → slice_get xs j ≡ Some x → (y : B) × (slice_get zs j ≡ Some y) × (f x ≡ Ok y)) → (y : B) × (slice_get ys i ≡ Some y) × (f x ≡ Ok y)
      by_first (Err path) t z go = err_ok path ys z
      by_first (Ok b) t z go = by_place b t (more_is b ys (all_there (map f xs)) z) i h go

chain_ok : {A B : Type 0} (x : Sought A) (next : A → Sought B) (b : B) → chain x next ≡ Ok b → (a : A) × (x ≡ Ok a) × (next a ≡ Ok b)
chain_ok (Ok a) next b e = (a, refl, e)
chain_ok (Err path) next b e = err_ok path b e

module _ (g : GraphMap) (p : Paths) (one two : Feature) where
  -- the element of a cell, and its first part
  pub record IsPairAt (c : Place) (pair : Pair) : Type 0 where
    pub at : step g c.node p.first ≡ Some pair.at
    pub one_at : step g pair.at one ≡ Some pair.one

  pair_is : (e : Place) (pair : Pair) → look_pair g one two e ≡ Ok pair → (e.node ≡ pair.at) × (step g e.node one ≡ Some pair.one)
  pair_is e pair h =
      let a = chain_ok (look g e (one ∷ [])) (λ a. chain (look g e (two ∷ [])) (λ b. Ok (record { at = e.node; one = a.node; two = b.node }))) pair h in
      let b = chain_ok (look g e (two ∷ [])) (λ b. Ok (record { at = e.node; one = a.0.node; two = b.node })) pair a.2 in
      let q = ok_one (Ok (record { at = e.node; one = a.0.node; two = b.0.node })) (record { at = e.node; one = a.0.node; two = b.0.node }) pair refl b.2 in
      (ap (λ (x : Pair). x.at) q, one_step g e.node a.0.node one (look_ok g e a.0 (one ∷ []) a.1) ∙ ap (λ (x : Pair). Some x.one) q)

  pub pair_at : (cells : List Place) (rels : List Pair) → pairs_in g p one two cells ≡ Ok rels → (i : ℕ) (c : Place) → slice_get cells i ≡ Some c → (pair : Pair) × (slice_get rels i ≡ Some pair) × IsPairAt c pair
  pair_at cells rels e i c h =
      let es = chain_ok (all_there (map (λ d. look g d (p.first ∷ [])) cells)) (λ elements. all_there (map (look_pair g one two) elements)) rels e in
      let x = all_at (λ d. look g d (p.first ∷ [])) cells es.0 es.1 i c h in
      let y = all_at (look_pair g one two) es.0 rels es.2 i x.0 x.1 in
      let q = pair_is x.0 y.0 y.2 in (
        y.0,
        y.1,
        record {
          at = one_step g c.node x.0.node p.first (look_ok g c x.0 (p.first ∷ []) x.2) ∙ ap Some q.0;
          one_at = sym (ap (λ n. step g n one) q.0) ∙ q.1;
        },
      )

-- beside one another
zip_get : {A B : Type 0} (R : A → B → Type 0) (xs : List A) (ys : List B) → AllZip R xs ys → (i : ℕ) (x : A) → slice_get xs i ≡ Some x → (y : B) × (slice_get ys i ≡ Some y) × R x y
zip_get R [] ys z i x h = absurd (let q : None ≡ Some x = h in cc)
zip_get R (a ∷ xs) [] z i x h = absurd z
zip_get R (a ∷ xs) (b ∷ ys) z zero x h = (b, refl, (let q : Some a ≡ Some x = h in let s : a ≡ x = cc in subst (λ w. R w b) s z.0))
zip_get R (a ∷ xs) (b ∷ ys) z (suc i) x h = zip_get R xs ys z.1 i x h

zip_back : {A B : Type 0} (R : A → B → Type 0) (xs : List A) (ys : List B) → AllZip R xs ys → (y : B) → In y ys → (x : A) × In x xs × R x y
zip_back R [] [] z y h = absurd h
zip_back R [] (b ∷ ys) z y h = absurd z
zip_back R (a ∷ xs) [] z y h = absurd h
zip_back R (a ∷ xs) (b ∷ ys) z y (inl e) = (a, inl refl, subst (R a) (sym e) z.0)
zip_back R (a ∷ xs) (b ∷ ys) z y (inr h) = let q = zip_back R xs ys z.1 y h in (q.0, inr q.1, q.2)

pub zip_fore : {A B : Type 0} (R : A → B → Type 0) (xs : List A) (ys : List B) → AllZip R xs ys → (x : A) → In x xs → (y : B) × In y ys × R x y
zip_fore R [] ys z x h = absurd h
zip_fore R (a ∷ xs) [] z x h = absurd z
zip_fore R (a ∷ xs) (b ∷ ys) z x (inl e) = (b, inl refl, subst (λ w. R w b) (sym e) z.0)
zip_fore R (a ∷ xs) (b ∷ ys) z x (inr h) = let q = zip_fore R xs ys z.1 x h in (q.0, inr q.1, q.2)

got_in : {A : Type 0} (xs : List A) (i : ℕ) (x : A) → slice_get xs i ≡ Some x → In x xs
got_in [] i x h = absurd (let q : None ≡ Some x = h in cc)
got_in (a ∷ xs) zero x h = inl (let q : Some a ≡ Some x = h in let s : a ≡ x = cc in sym s)
got_in (a ∷ xs) (suc i) x h = inr (got_in xs i x h)

got_below : {A : Type 0} (xs : List A) (i : ℕ) (x : A) → slice_get xs i ≡ Some x → i < length xs
got_below [] i x h = absurd (let q : None ≡ Some x = h in cc)
got_below (a ∷ xs) zero x h = omega arith
got_below (a ∷ xs) (suc i) x h = let l = got_below xs i x h in omega (arith, l)

moved_in : {A : Type 0} (xs ys : List A) → IsPermutation xs ys → (x : A) → In x xs → In x ys
moved_in xs ys p x h = in_of ys x (Contains-permutation xs ys x p (contains_of xs x h))

-- the variable of a node, by its place
pub record IsVarAt (g : GraphMap) (types : TypeTable) (p : Paths) (vars : List Variable) (n v : ℕ) : Type 0 where
  pub no_text : is_string types (type_at g n) ≡ false
  pub var : Variable
  pub at : slice_get vars v ≡ Some var
  pub is : IsVariableAt g types p n var

-- what fills a role of an element, in the words of an MRS with these variables
abbrev pub IsFilled : GraphMap → TypeTable → Paths → List Variable → ℕ → Filler → Type 0
IsFilled g types p vars n (of_text text) = (is_string types (type_at g n) ≡ true) × (text ≡ type_name types (type_at g n))
IsFilled g types p vars n (of_var v) = IsVarAt g types p vars n v

-- the element at a node is this elementary predication, among these variables
pub record Tells (g : GraphMap) (types : TypeTable) (p : Paths) (vars : List Variable) (n : ℕ) (e : Predication) : Type 0 where
  pub named : ℕ
  pub pred_at : step g n p.pred ≡ Some named
  pub pred : Normal (map to_ascii_lowercase (type_name types (type_at g named))) e.pred
  pub role : (x : Argument) → In x e.args → (a : GraphArc) × In a (arcs_at g n) × (x.role ≡ feature_name p a.feat.0) × IsFilled g types p vars a.to.0 x.filler

module _ (g : GraphMap) (types : TypeTable) (p : Paths) (parts : Parts) (m other : Meaning) (is : IsMrsOf g types p parts m) (to : List ℕ) (renames : IsRenaming m other to) where
  abbrev nodes : List ℕ
  nodes = variable_nodes g types p parts

  -- a variable and what it becomes are told alike
  var_at : (n v : ℕ) → slice_get nodes v ≡ Some n → (x : Variable) × (slice_get other.vars (slice_index to v) ≡ Some x) × IsVariableAt g types p n x
  var_at n v h =
      let z = zip_get (IsVariableAt g types p) nodes m.vars is.vars v n h in
      let l = got_below m.vars v z.0 z.1 in
      let long = renames.vars.every in
      (z.0, renames.vars.kept v (omega (arith, l, long)) ∙ z.1, z.2)

  filled : (n : ℕ) (b : Bool) → is_string types (type_at g n) ≡ b → (f : Filler) → IsFillerOf nodes b (type_name types (type_at g n)) n f → IsFilled g types p other.vars n (renamed_filler to f)
  filled n true e f h = subst (λ x. IsFilled g types p other.vars n (renamed_filler to x)) (sym h) (e, refl)
  filled n false e (of_var v) h = let z = var_at n v h in record { no_text = e; var = z.0; at = z.1; is = z.2 }
  filled n false e (of_text t) h = absurd h

  arg_told : (n : ℕ) (args : List Argument) → AreRolesAt g types p nodes n args → (x : Argument) → In x (map (renamed_argument to) args) → (a : GraphArc) × In a (arcs_at g n) × (x.role ≡ feature_name p a.feat.0) × IsFilled g types p other.vars a.to.0 x.filler
  arg_told n args roles x h =
      let y = of_map (renamed_argument to) x args h in
      let z = zip_back (IsArgumentAt g types p nodes) (role_arcs g p n) roles.by_arc roles.each y.0 (moved_in args roles.by_arc (IsPermutation-sym roles.by_arc args roles.same) y.0 y.1) in
      let a = of_filter (λ (b : GraphArc). is_role p b.feat.0) z.0 (arcs_at g n) z.1 in (
        z.0,
        a.0,
        ap (λ (w : Argument). w.role) y.2 ∙ z.2.role,
        subst (IsFilled g types p other.vars z.0.to.0) (sym (ap (λ (w : Argument). w.filler) y.2)) (filled z.0.to.0 (is_string types (type_at g z.0.to.0)) refl y.0.filler z.2.filler),
      )

  -- an element of the list is some elementary predication of what the MRS is equal to
  pub pair_told : (i : ℕ) (pair : Pair) → slice_get parts.rels i ≡ Some pair → step g pair.at p.pred ≡ Some pair.one → (e : Predication) × In e other.eps × Tells g types p other.vars pair.at e
  pair_told i pair h one =
      let z = zip_get (IsPredicationAt g types p nodes) parts.rels m.eps is.eps i pair h in
      let moved = moved_in (map (renamed_ep to) m.eps) (map unspanned other.eps) renames.eps (renamed_ep to z.0) (in_map (renamed_ep to) z.0 m.eps (got_in m.eps i z.0 z.1)) in
      let y = of_map unspanned (renamed_ep to z.0) other.eps moved in (
        y.0,
        y.1,
        record {
          named = pair.one;
          pred_at = one;
          pred = subst (Normal (map to_ascii_lowercase (type_name types (type_at g pair.one)))) (ap (λ (e : Predication). e.pred) y.2) z.2.pred;
          role = λ x k. arg_told pair.at z.0.args z.2.args x (subst (In x) (sym (ap (λ (e : Predication). e.args) y.2)) k);
        },
      )

-- what stands in a cell of the list of a structure that means the input
pub record CellTold (input : Input) (g : GraphMap) (path : Path) : Type 0 where
  pub cell : ℕ
  pub cell_is : node_at g path ≡ Some cell
  pub element : ℕ
  pub element_is : step g cell input.paths.first ≡ Some element
  pub ep : Predication
  pub among : In ep input.meaning.eps
  pub tells : Tells g input.types input.paths input.meaning.vars element ep

pub cell_told : (g : Signs) → IsOrder g.system → (input : Input) → SameBelow g.system input.types → (l : RelList) → list_in input.paths ≡ Some l → NullApart g.system input.paths l.rest →
    (u : Structure) → (a : Means g input u) → (m : ℕ) → Reaches (Meant (rule_system g) u) l.rest l.ends m → (i : ℕ) → i < m → CellTold input a.graph (l.ends.start ++ times l.rest i)
cell_told g order input same_order l e apart u a m r i lt =
    let k = known input.paths l e in
    let b = looks_begun a.graph input.types input.paths a.has.parts a.has.looks in
    let c = cell_at g.system order input.types same_order input.paths l apart k a.graph a.is.graph_is u g.paths a.is.shows a.has.parts.rels b m r i lt in
    let q = pair_at a.graph input.paths input.paths.pred input.paths.lbl b.cells a.has.parts.rels b.pairs i c.0 c.1 in
    let t = pair_told a.graph input.types input.paths a.has.parts a.mrs input.meaning a.has.is a.equal.0 a.equal.1 i q.0 q.1 q.2.one_at in
    record { cell = c.0.node; cell_is = c.2; element = q.0.at; element_is = q.2.at; ep = t.0; among = t.1; tells = t.2 }
