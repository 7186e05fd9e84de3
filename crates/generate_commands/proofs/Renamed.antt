-- What equals an MRS up to renaming equals it with other numbers of its variables too.
use Rattle.std.proofs.Common.{ℕ, ◌≡◌, ◌<◌, Bool, true, false, List, [], ◌∷◌, length, map, slice_index, inl, inr, refl, sym, ◌∙◌, ap, subst, arith}
use Rattle.std.specs.List.{AllZip}
use Rattle.std.specs.List.Sorted.{IsPermutation}
use Rattle.std.proofs.lemmas.List.{get_or-map, length-map}
use Rattle.std.proofs.lemmas.Option.{slice_get_within}
use Rattle.std.proofs.lemmas.List.Sorted.{Contains-permutation, IsPermutation-map, IsPermutation-sym}
use Rattle.fs_graph.specs.GraphMap.{GraphMap}
use Rattle.type_hierarchy.specs.Table.{TypeTable}
use Rattle.mrs_places.specs.Paths.{Paths}
use Rattle.mrs_places.specs.Looking.{Pair, Parts}
use Rattle.mrs_model.specs.Meanings.{Variable, Filler, of_var, of_text, Argument, Predication, Constraint, Meaning}
use Rattle.mrs_model.specs.Valid.{IsFiller}
use Rattle.mrs_model.specs.Renaming.{IsVariableMap, IsRenaming, AreEqual, renamed_filler, renamed_argument, renamed_ep, unspanned, renamed_constraint}
use Rattle.mrs_extract.specs.Extraction.{role_arcs, Is, IsFillerOf, IsArgumentAt, IsVariableAt, IsPredicationAt, IsConstraintAt, variable_nodes, IsMrsOf, HasMrs}
use Rattle.mrs_extract.proofs.Lists.{In, in_of, contains_of}
use Rattle.mrs_reading.specs.Laws.{renumbered, IsRenumbering}

-- the variables of an MRS that was extracted are there
record IsInside (m : Meaning) : Type 0 where
  top : m.top < length m.vars
  index : m.index < length m.vars
  labels : (e : Predication) → In e m.eps → e.label < length m.vars
  fillers : (e : Predication) → In e m.eps → (a : Argument) → In a e.args → IsFiller (length m.vars) a.filler
  hcons : (c : Constraint) → In c m.hcons → (c.left < length m.vars) × (c.right < length m.vars)
  icons : (c : Constraint) → In c m.icons → (c.left < length m.vars) × (c.right < length m.vars)

zip-length : {A B : Type 0} (R : A → B → Type 0) (xs : List A) (ys : List B) → AllZip R xs ys → length xs ≡ length ys
zip-length R [] [] z = refl
zip-length R [] (y ∷ ys) z = absurd z
zip-length R (x ∷ xs) [] z = absurd z
zip-length R (x ∷ xs) (y ∷ ys) z = let e = zip-length R xs ys z.1 in omega (arith, e)

right-of : {A B : Type 0} (R : A → B → Type 0) (xs : List A) (ys : List B) (y : B) → AllZip R xs ys → In y ys → (x : A) × R x y
right-of R xs [] y z h = absurd h
right-of R [] (b ∷ ys) y z h = absurd z
right-of R (x ∷ xs) (b ∷ ys) y z (inl e) = (x, subst (λ w. R x w) (sym e) z.0)
right-of R (x ∷ xs) (b ∷ ys) y z (inr h) = right-of R xs ys y z.1 h

module _ (g : GraphMap) (types : TypeTable) (p : Paths) (nodes : List ℕ) (n : ℕ) (count : length nodes ≡ n) where
  is-there : (node v : ℕ) → Is nodes node v → v < n
  is-there node v e = let l = slice_get_within nodes v node e in omega (arith, l, count)

  variable-there : (node : ℕ) (text : List ℕ) (b : Bool) (f : Filler) → IsFillerOf nodes b text node f → IsFiller n f
  variable-there node text true f e = subst (IsFiller n) (sym e) tt
  variable-there node text false (of_var v) e = is-there node v e
  variable-there node text false (of_text t) e = absurd e

  argument-there : (at : Pair) (e : Predication) → IsPredicationAt g types p nodes at e → (a : Argument) → In a e.args → IsFiller n a.filler
  argument-there at e is a i =
      let roles = is.args in
      let c = Contains-permutation e.args roles.by_arc a (IsPermutation-sym roles.by_arc e.args roles.same) (contains_of e.args a i) in
      let z = right-of (IsArgumentAt g types p nodes) (role_arcs g p at.at) roles.by_arc a roles.each (in_of roles.by_arc a c) in
      variable-there z.0.to.0 _ _ a.filler z.1.filler

  constraint-there : (ats : List Pair) (cs : List Constraint) → AllZip (IsConstraintAt g types p nodes) ats cs → (c : Constraint) → In c cs → (c.left < n) × (c.right < n)
  constraint-there ats cs z c i =
      let q = right-of (IsConstraintAt g types p nodes) ats cs c z i in
      (is-there q.0.one c.left q.1.left, is-there q.0.two c.right q.1.right)

inside-of : (g : GraphMap) (types : TypeTable) (p : Paths) (parts : Parts) (m : Meaning) → IsMrsOf g types p parts m → IsInside m
inside-of g types p parts m is =
    let nodes = variable_nodes g types p parts in
    let n = length m.vars in
    let count : length nodes ≡ n = zip-length (IsVariableAt g types p) nodes m.vars is.vars in
    let ep = λ (e : Predication) (i : In e m.eps). right-of (IsPredicationAt g types p nodes) parts.rels m.eps e is.eps i in
    record {
      top = is-there g types p nodes n count parts.top m.top is.top;
      index = is-there g types p nodes n count parts.index m.index is.index;
      labels = λ e i. (let q = ep e i in is-there g types p nodes n count q.0.two e.label q.1.label);
      fillers = λ e i a j. (let q = ep e i in argument-there g types p nodes n count q.0 e q.1 a j);
      hcons = constraint-there g types p nodes n count parts.hcons m.hcons is.hcons;
      icons = constraint-there g types p nodes n count parts.icons m.icons is.icons;
    }

-- one map after another
abbrev then : List ℕ → List ℕ → List ℕ
then to more = map (λ v. slice_index more v) to

then-at : (to more : List ℕ) (v : ℕ) → v < length to → slice_index (then to more) v ≡ slice_index more (slice_index to v)
then-at to more v l = get_or-map (λ w. slice_index more w) to v 0 0 l

then-map : (a b c : List Variable) (to more : List ℕ) → IsVariableMap a b to → IsVariableMap b c more → IsVariableMap a c (then to more)
then-map a b c to more p q =
    let n = length-map to (λ w. slice_index more w) in
    let e = p.every in
    let o = p.onto in
    let f = q.every in
    let at : (v : ℕ) → v < length (then to more) → slice_index (then to more) v ≡ slice_index more (slice_index to v) = λ v l. then-at to more v (omega (arith, n, l)) in
    let in' : (v : ℕ) → v < length (then to more) → slice_index to v < length more = λ v l. (let w = p.within v (omega (arith, n, l)) in omega (arith, w, f)) in
    record {
      every = n ∙ e;
      onto = q.onto ∙ o;
      within = λ v l. rw (at v l) (q.within (slice_index to v) (in' v l));
      one_to_one = λ v w lv lw h. p.one_to_one v w (omega (arith, n, lv)) (omega (arith, n, lw)) (q.one_to_one (slice_index to v) (slice_index to w) (in' v lv) (in' w lw) (sym (at v lv) ∙ h ∙ at w lw));
      kept = λ v l. rw (at v l) (q.kept (slice_index to v) (in' v l) ∙ p.kept v (omega (arith, n, l)));
    }

module _ (to more : List ℕ) (n : ℕ) (every : length to ≡ n) where
  at : (v : ℕ) → v < n → slice_index (then to more) v ≡ slice_index more (slice_index to v)
  at v l = then-at to more v (omega (arith, every, l))

  filler-then : (x : Filler) → IsFiller n x → renamed_filler (then to more) x ≡ renamed_filler more (renamed_filler to x)
  filler-then (of_var v) l = ap of_var (at v l)
  filler-then (of_text t) l = refl

  arguments-then : (xs : List Argument) → ((a : Argument) → In a xs → IsFiller n a.filler) → map (renamed_argument (then to more)) xs ≡ map (renamed_argument more) (map (renamed_argument to) xs)
  arguments-then [] h = refl
  arguments-then (a ∷ xs) h = rw (filler-then a.filler (h a (inl refl)), arguments-then xs (λ b i. h b (inr i))) refl

  ep-then : (e : Predication) → e.label < n → ((a : Argument) → In a e.args → IsFiller n a.filler) → renamed_ep (then to more) e ≡ renamed_ep more (renamed_ep to e)
  ep-then e l h = rw (at e.label l, arguments-then e.args h) refl

  eps-then : (es : List Predication) → ((e : Predication) → In e es → e.label < n) → ((e : Predication) → In e es → (a : Argument) → In a e.args → IsFiller n a.filler)
      → map (renamed_ep (then to more)) es ≡ map (renamed_ep more) (map (renamed_ep to) es)
  eps-then [] l h = refl
  eps-then (e ∷ es) l h = rw (ep-then e (l e (inl refl)) (h e (inl refl)), eps-then es (λ d i. l d (inr i)) (λ d i. h d (inr i))) refl

  constraints-then : (cs : List Constraint) → ((c : Constraint) → In c cs → (c.left < n) × (c.right < n)) → map (renamed_constraint (then to more)) cs ≡ map (renamed_constraint more) (map (renamed_constraint to) cs)
  constraints-then [] h = refl
  constraints-then (c ∷ cs) h = let l = h c (inl refl) in rw (at c.left l.0, at c.right l.1, constraints-then cs (λ d i. h d (inr i))) refl

-- spans stand apart from the numbers
spans-apart : (more : List ℕ) (es : List Predication) → map (renamed_ep more) (map unspanned es) ≡ map unspanned (map (renumbered more) es)
spans-apart more [] = refl
spans-apart more (e ∷ es) = ap (λ xs. renamed_ep more (unspanned e) ∷ xs) (spans-apart more es)

both-ends : {A : Type 0} (ws xs ys zs : List A) → ws ≡ xs → ys ≡ zs → IsPermutation xs ys → IsPermutation ws zs
both-ends {A} ws xs ys zs e f h = subst (λ (l : List A). IsPermutation l zs) (sym e) (subst (λ (l : List A). IsPermutation xs l) f h)

renaming-then : (x m k : Meaning) (to more : List ℕ) → IsInside x → IsRenaming x m to → IsRenumbering m k more → IsRenaming x k (then to more)
renaming-then x m k to more inside r s =
    let n = length x.vars in
    let every : length to ≡ n = r.vars.every in
    let step = λ (v : ℕ) (l : v < n). at to more n every v l in
    record {
      vars = then-map x.vars m.vars k.vars to more r.vars s.vars;
      top = step x.top inside.top ∙ ap (λ v. slice_index more v) r.top ∙ s.top;
      index = step x.index inside.index ∙ ap (λ v. slice_index more v) r.index ∙ s.index;
      eps = both-ends (map (renamed_ep (then to more)) x.eps) (map (renamed_ep more) (map (renamed_ep to) x.eps)) (map (renamed_ep more) (map unspanned m.eps)) (map unspanned k.eps)
          (eps-then to more n every x.eps inside.labels inside.fillers) (spans-apart more m.eps ∙ ap (map unspanned) s.eps)
          (IsPermutation-map (renamed_ep more) (map (renamed_ep to) x.eps) (map unspanned m.eps) r.eps);
      hcons = both-ends (map (renamed_constraint (then to more)) x.hcons) (map (renamed_constraint more) (map (renamed_constraint to) x.hcons)) (map (renamed_constraint more) m.hcons) k.hcons
          (constraints-then to more n every x.hcons inside.hcons) s.hcons
          (IsPermutation-map (renamed_constraint more) (map (renamed_constraint to) x.hcons) m.hcons r.hcons);
      icons = both-ends (map (renamed_constraint (then to more)) x.icons) (map (renamed_constraint more) (map (renamed_constraint to) x.icons)) (map (renamed_constraint more) m.icons) k.icons
          (constraints-then to more n every x.icons inside.icons) s.icons
          (IsPermutation-map (renamed_constraint more) (map (renamed_constraint to) x.icons) m.icons r.icons);
    }

-- an extracted MRS that equals the one equals the other
pub equal-then : (g : GraphMap) (types : TypeTable) (p : Paths) (x m k : Meaning) (more : List ℕ) → HasMrs g types p x → AreEqual x m → IsRenumbering m k more → AreEqual x k
equal-then g types p x m k more has (to, r) s = (then to more, renaming-then x m k to more (inside-of g types p has.parts x has.is) r s)

-- the predicates are the same
pub same-preds : (m k : Meaning) (more : List ℕ) → IsRenumbering m k more → map (λ e. e.pred) m.eps ≡ map (λ e. e.pred) k.eps
same-preds m k more s = kept m.eps ∙ ap (map (λ e. e.pred)) s.eps
  where
    kept : (es : List Predication) → map (λ e. e.pred) es ≡ map (λ e. e.pred) (map (renumbered more) es)
    kept [] = refl
    kept (e ∷ es) = ap (λ ps. e.pred ∷ ps) (kept es)
