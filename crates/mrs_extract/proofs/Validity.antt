-- The MRS of a structure is valid.
use Rattle.std.proofs.Common.{ℕ, zero, suc, ◌≡◌, ◌≢◌, ◌<◌, ◌≤◌, ◌+◌, ◌⊎◌, inl, inr, Bool, true, false, cond, Some, List, [], ◌∷◌, ◌++◌, length, map, get_or, refl, sym, ◌∙◌, ap, subst, arith}
use Rattle.std.specs.Prelude.{All, not, codes, nat_lt, ◌||◌, ◌&&◌, ◌==◌}
use Rattle.std.specs.List.{slice_get, AllZip, Any, flat_map, list_any}
use Rattle.std.specs.Str.{bytes_eq, chars, IsUtf8}
use Rattle.std.specs.Char.{to_ascii_lowercase}
use Rattle.std.proofs.lemmas.Bool.{ltb-true, ltb-false}
use Rattle.std.proofs.lemmas.Slice.Eq.{bytes_eq-Decides}
use Rattle.std.proofs.lemmas.List.Sorted.{Contains-permutation, IsPermutation-sym}
use Rattle.std.proofs.lemmas.Str.{chars-append}
use Rattle.fs_graph.specs.declared.graph.GraphArc.{GraphArc}
use Rattle.fs_graph.specs.GraphMap.{GraphMap, IsGraph, arcs_at, type_at}
use Rattle.type_hierarchy.specs.Table.{TypeTable, completed_count}
use Rattle.mrs_model.specs.Meanings.{Property, Variable, Filler, of_var, of_text, Argument, Predication, Constraint, Meaning}
use Rattle.mrs_model.specs.Texts.{IsName, IsSort, IsPred, ends_name, is_capital}
use Rattle.mrs_model.specs.Valid.{IsProperty, IsVariable, IsFiller, IsArgument, IsPredication, IsConstraint, IsValid, StandsIn, IsEnd, Stands}
use Rattle.mrs_places.specs.Paths.{Paths, Sort}
use Rattle.mrs_places.specs.Looking.{Pair, Parts, below}
use Rattle.mrs_places.specs.Places.{IsPairIn, ArePartsIn}
use Rattle.mrs_extract.specs.Asked.{ArePaths, IsOf}
use Rattle.mrs_extract.specs.Extraction.{is_string, type_name, feature_name, sort_at, open_arcs, IsPropertyAt, ends, goes_on, IsVariableAt, Normal, bare, rel, is_role, is_among, role_arcs, Is, IsFillerOf, IsArgumentAt, AreRolesAt, IsPredicationAt, IsConstraintAt, role_nodes, predication_nodes, constraint_nodes, mentions, noted, all_noted, variable_nodes, IsMrsOf}
use Rattle.mrs_extract.proofs.Lists.{In, in_of, contains_of, of_map, of_filter, of_flat, in_either, all_in, all_at, true_false}
use Rattle.mrs_extract.proofs.Spreading.{arc_inside, open_arc}
use Rattle.mrs_extract.proofs.Once.{Once, variables_once}

any_of : {A : Type 0} (P : A → Type 0) (xs : List A) (x : A) → In x xs → P x → Any P xs
any_of P xs x h p = let c = contains_of xs x h in (c.0, x, c.1, c.2, p)

zip_length : {A B : Type 0} (R : A → B → Type 0) (xs : List A) (ys : List B) → AllZip R xs ys → length xs ≡ length ys
zip_length R [] [] z = refl
zip_length R [] (y ∷ ys) z = absurd z
zip_length R (x ∷ xs) [] z = absurd z
zip_length R (x ∷ xs) (y ∷ ys) z = let e = zip_length R xs ys z.1 in omega (arith, e)

-- each has its partner
zip_left : {A B : Type 0} (R : A → B → Type 0) (xs : List A) (ys : List B) (x : A) → AllZip R xs ys → In x xs → (y : B) × In y ys × R x y
zip_left R [] ys x z h = absurd h
zip_left R (a ∷ xs) [] x z h = absurd z
zip_left R (a ∷ xs) (y ∷ ys) x z (inl e) = (y, inl refl, subst (λ w. R w y) (sym e) z.0)
zip_left R (a ∷ xs) (y ∷ ys) x z (inr h) = let r = zip_left R xs ys x z.1 h in (r.0, inr r.1, r.2)

zip_right : {A B : Type 0} (R : A → B → Type 0) (xs : List A) (ys : List B) (y : B) → AllZip R xs ys → In y ys → (x : A) × In x xs × R x y
zip_right R xs [] y z h = absurd h
zip_right R [] (b ∷ ys) y z h = absurd z
zip_right R (x ∷ xs) (b ∷ ys) y z (inl e) = (x, inl refl, subst (λ w. R x w) (sym e) z.0)
zip_right R (x ∷ xs) (b ∷ ys) y z (inr h) = let r = zip_right R xs ys y z.1 h in (r.0, inr r.1, r.2)

there_in : (xs : List ℕ) (v n : ℕ) → slice_get xs v ≡ Some n → v < length xs
there_in [] v n e = absurd (let z = e in cc)
there_in (x ∷ xs) zero n e = omega arith
there_in (x ∷ xs) (suc v) n e = let l = there_in xs v n e in omega (arith, l)

node_at_place : (xs : List ℕ) (v : ℕ) → v < length xs → (n : ℕ) × In n xs × (slice_get xs v ≡ Some n)
node_at_place [] v lt = absurd (omega (arith, lt))
node_at_place (x ∷ xs) zero lt = (x, inl refl, refl)
node_at_place (x ∷ xs) (suc v) lt = let r = node_at_place xs v (omega (arith, lt)) in (r.0, inr r.1, r.2)

-- what is noted was mentioned
noted_from : (nodes : List ℕ) (n m : ℕ) → In m (noted nodes n) → In m nodes ⊎ (m ≡ n)
noted_from nodes n m h = by_test (list_any (λ k. k == n) nodes) refl
  where
    by_test : (b : Bool) → list_any (λ k. k == n) nodes ≡ b → In m nodes ⊎ (m ≡ n)
    by_test true e = inl (subst (In m) (let z : noted nodes n ≡ nodes = rw e refl in z) h)
    by_test false e = elim (in_either m nodes (n ∷ []) (subst (In m) (let z : noted nodes n ≡ nodes ++ n ∷ [] = rw e refl in z) h)) [
      | inl i ↦ inl i
      | inr i ↦ elim i [ inl q ↦ inr q | inr q ↦ absurd q ]
    ]

all_noted_from : (nodes ns : List ℕ) (m : ℕ) → In m (all_noted nodes ns) → In m nodes ⊎ In m ns
all_noted_from nodes [] m h = inl h
all_noted_from nodes (n ∷ ns) m h = elim (all_noted_from (noted nodes n) ns m h) [
  | inl i ↦ elim (noted_from nodes n m i) [ inl j ↦ inl j | inr e ↦ inr (inl e) ]
  | inr i ↦ inr (inr i)
]

-- names of an MRS
chars_dot : (text : List ℕ) → chars (46 ∷ text) ≡ 46 ∷ chars text
unfolding chars
chars_dot [] = refl
chars_dot (b ∷ bs) = refl

abbrev IsGood : ℕ → Type 0
IsGood c = (ends_name c || is_capital c) ≡ false

all_append : {A : Type 0} (P : A → Type 0) (xs ys : List A) → All P xs → All P ys → All P (xs ++ ys)
all_append P xs ys a b = all_in P (xs ++ ys) (λ x h. elim (in_either x xs ys h) [ inl i ↦ all_at P xs x a i | inr i ↦ all_at P ys x b i ])

all_cons : {A : Type 0} (P : A → Type 0) (x : A) (xs : List A) → P x → All P xs → All P (x ∷ xs)
all_cons P x xs p a = all_in P (x ∷ xs) (λ y h. elim h [ inl e ↦ subst P (sym e) p | inr i ↦ all_at P xs y a i ])

longer_filled : (front end : List ℕ) → 0 < length front → 0 < length (front ++ end)
longer_filled [] end l = absurd (omega (arith, l))
longer_filled (x ∷ xs) end l = omega arith

dotted : (front end : List ℕ) → IsUtf8 front → IsName front → IsName end → IsName (front ++ 46 ∷ end)
dotted front end u f e = record {
  filled = longer_filled front (46 ∷ end) f.filled;
  signs = subst (All IsGood) (sym (chars-append front (46 ∷ end) u ∙ ap (λ l. chars front ++ l) (chars_dot end)))
      (all_append IsGood (chars front) (46 ∷ chars end) f.signs (all_cons IsGood 46 (chars end) refl e.signs));
}

not_false : (b : Bool) → not b ≡ false → b ≡ true
not_false true e = refl
not_false false e = absurd (let z : true ≡ false = e in cc)

not_true : (b : Bool) → not b ≡ true → b ≡ false
not_true true e = absurd (let z : false ≡ true = e in cc)
not_true false e = refl

completed : (types : TypeTable) (t : ℕ) → is_string types t ≡ false → t < completed_count types
completed types t e = ltb-true t (completed_count types) (not_false (nat_lt t (completed_count types)) e)

get_in : (xs : List (List ℕ)) (k : ℕ) → k < length xs → In (get_or xs k []) xs
get_in [] k l = absurd (omega (arith, l))
get_in (x ∷ xs) zero l = inl refl
get_in (x ∷ xs) (suc k) l = inr (get_in xs k (omega (arith, l)))

-- lower case
lower_is : (c : ℕ) → is_capital (to_ascii_lowercase c) ≡ false
lower_is c = by_low (nat_lt c 65) refl
  where
    high : (d : ℕ) → 91 ≤ d → is_capital d ≡ false
    high d le = by_test (nat_lt 64 d) (nat_lt d 91) refl
      where
        by_test : (a b : Bool) → nat_lt d 91 ≡ b → (a && b) ≡ false
        by_test true true e = absurd (let l = ltb-true d 91 e in omega (arith, l, le))
        by_test true false e = refl
        by_test false b e = refl

    low : (d : ℕ) → nat_lt d 65 ≡ true → is_capital d ≡ false
    low d e = by_test (nat_lt 64 d) refl
      where
        by_test : (a : Bool) → nat_lt 64 d ≡ a → (a && nat_lt d 91) ≡ false
        by_test true q = absurd (let l = ltb-true d 65 e in let m = ltb-true 64 d q in omega (arith, l, m))
        by_test false q = refl

    by_high : nat_lt c 65 ≡ false → (b : Bool) → nat_lt c 91 ≡ b → is_capital (cond b (c + 32) c) ≡ false
    by_high f true e = high (c + 32) (let l = ltb-false c 65 f in omega (arith, l))
    by_high f false e = high c (ltb-false c 91 e)

    by_low : (b : Bool) → nat_lt c 65 ≡ b → is_capital (cond b c (cond (nat_lt c 91) (c + 32) c)) ≡ false
    by_low true e = low c e
    by_low false e = by_high e (nat_lt c 91) refl

normal_pred : (text pred : List ℕ) → Normal text pred → All (λ b. is_capital b ≡ false) text → IsPred pred
normal_pred _ _ (bare text n) all = record { lower = all; bare = n }
normal_pred _ _ (rel front text n) all = normal_pred front text n (all_in (λ b. is_capital b ≡ false) front (λ b h. all_at (λ c. is_capital c ≡ false) (front ++ codes "_rel") b all (left b front (codes "_rel") h)))
  where
    left : (b : ℕ) (xs ys : List ℕ) → In b xs → In b (xs ++ ys)
    left b [] ys h = absurd h
    left b (x ∷ xs) ys (inl e) = inl e
    left b (x ∷ xs) ys (inr h) = inr (left b xs ys h)

module _ (g : GraphMap) (is : IsGraph g) (types : TypeTable) (p : Paths) (named : ArePaths types p) (of_ : IsOf types p g) (utf8 : All IsUtf8 p.feats) where
  feature_in : (n : ℕ) (a : GraphArc) → n < length g.types → In a (arcs_at g n) → a.feat.0 < length p.feats
  feature_in n a lt h = all_at (λ b. b.feat.0 < length p.feats) (arcs_at g n) a (of_.feats_in n lt) h

  name_of : (f : ℕ) → f < length p.feats → IsName (feature_name p f)
  name_of f lt = all_at IsName p.feats (feature_name p f) named.feature_names (get_in p.feats f lt)

  utf8_of : (f : ℕ) → f < length p.feats → IsUtf8 (feature_name p f)
  utf8_of f lt = all_at IsUtf8 p.feats (feature_name p f) utf8 (get_in p.feats f lt)

  property_named : (n : ℕ) (name value : List ℕ) → n < length g.types → IsPropertyAt g types p n name value → IsName name × IsName value
  property_named n _ _ lt (ends _ a value c v) =
      let arc = open_arc g is p n a (in_of (open_arcs g p n) a c) in
      (name_of a.feat.0 (feature_in n a lt arc), subst IsName (sym v.named) (named.type_names (type_at g a.to.0) (completed types (type_at g a.to.0) v.typed)))
  property_named n _ _ lt (goes_on _ a name value c q) =
      let arc = open_arc g is p n a (in_of (open_arcs g p n) a c) in
      let r = property_named a.to.0 name value (arc_inside g is n a lt arc) q in
      (dotted (feature_name p a.feat.0) name (utf8_of a.feat.0 (feature_in n a lt arc)) (name_of a.feat.0 (feature_in n a lt arc)) r.0, r.1)

  sort_is : (t : ℕ) (ss : List Sort) → ((s : Sort) → In s ss → IsSort s.letters) → IsSort (sort_at types t ss)
  sort_is t [] h = record { filled = omega arith; letters = all_cons (λ b. (nat_lt 96 b && nat_lt b 123) ≡ true) 117 [] refl (all_in (λ b. (nat_lt 96 b && nat_lt b 123) ≡ true) [] (λ x k. absurd k)) }
  sort_is t (s ∷ ss) h = by_test (below types t s.ty) (sort_is t ss (λ r i. h r (inr i)))
    where
      by_test : (b : Bool) → IsSort (sort_at types t ss) → IsSort (cond b s.letters (sort_at types t ss))
      by_test true r = h s (inl refl)
      by_test false r = r

  variable_is : (n : ℕ) (v : Variable) → n < length g.types → IsVariableAt g types p n v → IsVariable v
  variable_is n v lt h = record {
    sort = subst IsSort (sym h.sort) (sort_is (type_at g n) p.sorts (λ s i. all_at (λ r. IsSort r.letters) p.sorts s named.letters i));
    props = all_in IsProperty v.props (by_sort (bytes_eq v.sort (codes "h")) refl);
    order = h.order;
  }
    where
      by_sort : (b : Bool) → bytes_eq v.sort (codes "h") ≡ b → (q : Property) → In q v.props → IsProperty q
      by_sort true e q i = absurd (subst (In q) (h.handle ((bytes_eq-Decides v.sort (codes "h")).0 e)) i)
      by_sort false e q i =
          let opens : v.sort ≢ codes "h" = (λ s. true_false (bytes_eq v.sort (codes "h")) ((bytes_eq-Decides v.sort (codes "h")).1 s) e) in
          let r = property_named n q.name q.value lt ((h.props opens q).0 (contains_of v.props q i)) in
          record { name = r.0; value = r.1 }

  module _ (nodes : List ℕ) where
    place_in : (n v : ℕ) → Is nodes n v → v < length nodes
    place_in n v e = there_in nodes v n e

    filler_is : (b : Bool) (text : List ℕ) (n : ℕ) (f : Filler) → IsFillerOf nodes b text n f → IsFiller (length nodes) f
    filler_is true text n f h = subst (IsFiller (length nodes)) (sym h) tt
    filler_is false text n (of_var v) h = place_in n v h
    filler_is false text n (of_text t) h = absurd h

    or_right : (a b : Bool) → (a || b) ≡ false → b ≡ false
    or_right true b e = absurd (let z : true ≡ false = e in cc)
    or_right false b e = e

    argument_is : (a : GraphArc) (x : Argument) → a.feat.0 < length p.feats → is_role p a.feat.0 ≡ true → IsArgumentAt g types p nodes a x → IsArgument (length nodes) x
    argument_is a x lt role h = record {
      role = subst IsName (sym h.role) (name_of a.feat.0 lt);
      not_label = λ e. (let no = or_right (is_among (p.pred ∷ p.lbl ∷ p.skip_roles) a.feat.0) (bytes_eq (feature_name p a.feat.0) (codes "lbl")) (not_true _ role) in
          true_false (bytes_eq (feature_name p a.feat.0) (codes "lbl")) ((bytes_eq-Decides (feature_name p a.feat.0) (codes "lbl")).1 (sym h.role ∙ e)) no);
      filler = filler_is (is_string types (type_at g a.to.0)) (type_name types (type_at g a.to.0)) a.to.0 x.filler h.filler;
    }

    arguments_are : (n : ℕ) (args : List Argument) → n < length g.types → AreRolesAt g types p nodes n args → All (IsArgument (length nodes)) args
    arguments_are n args lt h = all_in (IsArgument (length nodes)) args (λ x i.
        (let c = Contains-permutation args h.by_arc x (IsPermutation-sym h.by_arc args h.same) (contains_of args x i) in
        let z = zip_right (IsArgumentAt g types p nodes) (role_arcs g p n) h.by_arc x h.each (in_of h.by_arc x c) in
        let f = of_filter (λ a. is_role p a.feat.0) z.0 (arcs_at g n) z.1 in
        argument_is z.0 x (feature_in n z.0 lt f.0) f.1 z.2))

    predication_is : (at : Pair) (e : Predication) → IsPairIn (length g.types) at → IsPredicationAt g types p nodes at e → IsPredication (length nodes) e
    predication_is at e inside h = record {
      pred = normal_pred (map to_ascii_lowercase (type_name types (type_at g at.one))) e.pred h.pred
          (all_in (λ b. is_capital b ≡ false) (map to_ascii_lowercase (type_name types (type_at g at.one)))
          (λ b i. (let m = of_map to_ascii_lowercase b (type_name types (type_at g at.one)) i in subst (λ c. is_capital c ≡ false) (sym m.2) (lower_is m.0))));
      label = place_in at.two e.label h.label;
      args = arguments_are at.at e.args inside.at h.args;
      order = h.args.order;
    }

    relation_is : (t : ℕ) (b : Bool) → is_string types t ≡ b → IsName (cond b p.string_type (type_name types t))
    relation_is t true e = named.string_type
    relation_is t false e = named.type_names t (completed types t e)

    constraint_is : (at : Pair) (c : Constraint) → IsConstraintAt g types p nodes at c → IsConstraint (length nodes) c
    constraint_is at c h = record {
      left = place_in at.one c.left h.left;
      rel = subst IsName (sym h.rel) (relation_is (type_at g at.at) (is_string types (type_at g at.at)) refl);
      right = place_in at.two c.right h.right;
    }

    -- what stands for a node is its one variable
    module _ (once : Once nodes) where
      variable_of : (b : Bool) (text : List ℕ) (n v : ℕ) (f : Filler) → b ≡ false → Is nodes n v → IsFillerOf nodes b text n f → f ≡ of_var v
      variable_of true text n v f e i h = absurd (let z : true ≡ false = e in cc)
      variable_of false text n v (of_var w) e i h = ap of_var (once w v n h i)
      variable_of false text n v (of_text t) e i h = absurd h

      stands_in : (at : Pair) (e : Predication) (n v : ℕ) → Is nodes n v → In n (predication_nodes g types p at) → IsPredicationAt g types p nodes at e → StandsIn v e
      stands_in at e n v i (inl q) h = inl (once e.label v n (subst (λ m. Is nodes m e.label) (sym q) h.label) i)
      stands_in at e n v i (inr k) h =
          let f = of_filter (λ m. not (is_string types (type_at g m))) n (map (λ a. a.to.0) (role_arcs g p at.at)) k in
          let m = of_map (λ a. a.to.0) n (role_arcs g p at.at) f.0 in
          let z = zip_left (IsArgumentAt g types p nodes) (role_arcs g p at.at) h.args.by_arc m.0 h.args.each m.1 in
          let c = Contains-permutation h.args.by_arc e.args z.0 h.args.same (contains_of h.args.by_arc z.0 z.1) in
          let open_ : is_string types (type_at g m.0.to.0) ≡ false = subst (λ k. is_string types (type_at g k) ≡ false) m.2 (not_true _ f.1) in
          inr (any_of (λ x. x.filler ≡ of_var v) e.args z.0 (in_of e.args z.0 c)
          (variable_of (is_string types (type_at g m.0.to.0)) (type_name types (type_at g m.0.to.0)) m.0.to.0 v z.0.filler open_ (subst (λ k. Is nodes k v) m.2 i) z.2.filler))

      is_end : (at : Pair) (c : Constraint) (n v : ℕ) → Is nodes n v → In n (constraint_nodes at) → IsConstraintAt g types p nodes at c → IsEnd v c
      is_end at c n v i (inl q) h = inl (once c.left v n (subst (λ m. Is nodes m c.left) (sym q) h.left) i)
      is_end at c n v i (inr (inl q)) h = inr (once c.right v n (subst (λ m. Is nodes m c.right) (sym q) h.right) i)
      is_end at c n v i (inr (inr q)) h = absurd q

  module _ (parts : Parts) (m : Meaning) (inside : ArePartsIn (length g.types) parts) (h : IsMrsOf g types p parts m) where
    abbrev nodes : List ℕ
    nodes = variable_nodes g types p parts

    once : Once nodes
    once = variables_once g types p parts

    count : length nodes ≡ length m.vars
    count = zip_length (IsVariableAt g types p) nodes m.vars h.vars

    -- nodes that are mentioned are the graph's
    role_in : (n k : ℕ) → n < length g.types → In k (role_nodes g types p n) → k < length g.types
    role_in n k lt i =
        let f = of_filter (λ j. not (is_string types (type_at g j))) k (map (λ a. a.to.0) (role_arcs g p n)) i in
        let q = of_map (λ a. a.to.0) k (role_arcs g p n) f.0 in
        let a = of_filter (λ b. is_role p b.feat.0) q.0 (arcs_at g n) q.1 in
        subst (λ (j : ℕ). j < length g.types) (sym q.2) (arc_inside g is n q.0 lt a.0)

    predication_in : (at : Pair) (k : ℕ) → IsPairIn (length g.types) at → In k (predication_nodes g types p at) → k < length g.types
    predication_in at k i (inl e) = subst (λ (j : ℕ). j < length g.types) (sym e) i.two
    predication_in at k i (inr r) = role_in at.at k i.at r

    constraint_in : (at : Pair) (k : ℕ) → IsPairIn (length g.types) at → In k (constraint_nodes at) → k < length g.types
    constraint_in at k i (inl e) = subst (λ (j : ℕ). j < length g.types) (sym e) i.one
    constraint_in at k i (inr (inl e)) = subst (λ (j : ℕ). j < length g.types) (sym e) i.two
    constraint_in at k i (inr (inr e)) = absurd e

    -- where a node is mentioned
    data Mentioned (n : ℕ) : Type 0 where
      as_top : n ≡ parts.top → Mentioned n
      as_index : n ≡ parts.index → Mentioned n
      as_rel : (at : Pair) → In at parts.rels → In n (predication_nodes g types p at) → Mentioned n
      as_hcon : (at : Pair) → In at parts.hcons → In n (constraint_nodes at) → Mentioned n
      as_icon : (at : Pair) → In at parts.icons → In n (constraint_nodes at) → Mentioned n

    in_predications : (n : ℕ) → In n (parts.top ∷ parts.index ∷ flat_map (predication_nodes g types p) parts.rels) → Mentioned n
    in_predications n (inl e) = as_top e
    in_predications n (inr (inl e)) = as_index e
    in_predications n (inr (inr k)) = let q = of_flat (predication_nodes g types p) n parts.rels k in as_rel q.0 q.1 q.2

    mentioned : (n : ℕ) → In n nodes → Mentioned n
    mentioned n i = elim (all_noted_from [] (mentions g types p parts) n i) [
      | inl k ↦ absurd k
      | inr k ↦ elim (in_either n ((parts.top ∷ parts.index ∷ flat_map (predication_nodes g types p) parts.rels) ++ flat_map constraint_nodes parts.hcons) (flat_map constraint_nodes parts.icons) k) [
        | inl q ↦ elim (in_either n (parts.top ∷ parts.index ∷ flat_map (predication_nodes g types p) parts.rels) (flat_map constraint_nodes parts.hcons) q) [
          | inl r ↦ in_predications n r
          | inr r ↦ (let s = of_flat constraint_nodes n parts.hcons r in as_hcon s.0 s.1 s.2)
        ]
        | inr q ↦ (let s = of_flat constraint_nodes n parts.icons q in as_icon s.0 s.1 s.2)
      ]
    ]

    node_in : (n : ℕ) → Mentioned n → n < length g.types
    node_in n (as_top e) = subst (λ (j : ℕ). j < length g.types) (sym e) inside.top
    node_in n (as_index e) = subst (λ (j : ℕ). j < length g.types) (sym e) inside.index
    node_in n (as_rel at i k) = predication_in at n (all_at (IsPairIn (length g.types)) parts.rels at inside.rels i) k
    node_in n (as_hcon at i k) = constraint_in at n (all_at (IsPairIn (length g.types)) parts.hcons at inside.hcons i) k
    node_in n (as_icon at i k) = constraint_in at n (all_at (IsPairIn (length g.types)) parts.icons at inside.icons i) k

    stands : (n v : ℕ) → Is nodes n v → Mentioned n → Stands m v
    stands n v i (as_top e) = inl (once m.top v n (subst (λ k. Is nodes k m.top) (sym e) h.top) i)
    stands n v i (as_index e) = inr (inl (once m.index v n (subst (λ k. Is nodes k m.index) (sym e) h.index) i))
    stands n v i (as_rel at a k) =
        let z = zip_left (IsPredicationAt g types p nodes) parts.rels m.eps at h.eps a in
        inr (inr (inl (any_of (StandsIn v) m.eps z.0 z.1 (stands_in nodes once at z.0 n v i k z.2))))
    stands n v i (as_hcon at a k) =
        let z = zip_left (IsConstraintAt g types p nodes) parts.hcons m.hcons at h.hcons a in
        inr (inr (inr (inl (any_of (IsEnd v) m.hcons z.0 z.1 (is_end nodes once at z.0 n v i k z.2)))))
    stands n v i (as_icon at a k) =
        let z = zip_left (IsConstraintAt g types p nodes) parts.icons m.icons at h.icons a in
        inr (inr (inr (inr (any_of (IsEnd v) m.icons z.0 z.1 (is_end nodes once at z.0 n v i k z.2)))))

    constraints_are : (ats : List Pair) (cs : List Constraint) → AllZip (IsConstraintAt g types p nodes) ats cs → All (IsConstraint (length m.vars)) cs
    constraints_are ats cs z = all_in (IsConstraint (length m.vars)) cs (λ c i. (let q = zip_right (IsConstraintAt g types p nodes) ats cs c z i in subst (λ k. IsConstraint k c) count (constraint_is nodes q.0 c q.2)))

    pub mrs_valid : IsValid m
    mrs_valid = record {
      top = subst (λ (k : ℕ). m.top < k) count (place_in nodes parts.top m.top h.top);
      index = subst (λ (k : ℕ). m.index < k) count (place_in nodes parts.index m.index h.index);
      vars = all_in IsVariable m.vars (λ v i. (let q = zip_right (IsVariableAt g types p) nodes m.vars v h.vars i in variable_is q.0 v (node_in q.0 (mentioned q.0 q.1)) q.2));
      eps = all_in (IsPredication (length m.vars)) m.eps (λ e i. (let q = zip_right (IsPredicationAt g types p nodes) parts.rels m.eps e h.eps i in
          subst (λ k. IsPredication k e) count (predication_is nodes q.0 e (all_at (IsPairIn (length g.types)) parts.rels q.0 inside.rels q.1) q.2)));
      hcons = constraints_are parts.hcons m.hcons h.hcons;
      icons = constraints_are parts.icons m.icons h.icons;
      standing = λ v lt. (let q = node_at_place nodes v (subst (λ (k : ℕ). v < k) (sym count) lt) in stands q.0 v q.2 (mentioned q.0 q.1));
    }
