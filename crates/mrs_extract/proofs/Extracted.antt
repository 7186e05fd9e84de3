-- The parts of a structure have one MRS.
use Rattle.std.proofs.Common.{ℕ, ◌≡◌, Decides, Bool, true, false, Option, Some, None, Ok, Err, List, [], ◌∷◌, refl, sym, ap, subst, ◌∙◌}
use Rattle.std.specs.Prelude.{codes}
use Rattle.std.specs.List.{AllZip}
use Rattle.std.specs.List.Sorted.{IsPermutation}
use Rattle.std.specs.Str.{bytes_eq}
use Rattle.std.proofs.lemmas.Slice.Eq.{bytes_eq-Decides}
use Rattle.std.proofs.lemmas.List.{append_cancel_right}
use Rattle.std.proofs.lemmas.List.Sorted.{Contains-permutation, IsPermutation-sym}
use Rattle.fs_graph.specs.GraphMap.{GraphMap, type_at}
use Rattle.fs_graph.specs.declared.graph.GraphArc.{GraphArc}
use Rattle.type_hierarchy.specs.Table.{TypeTable}
use Rattle.mrs_model.specs.declared.Extent.{Extent}
use Rattle.mrs_model.specs.Meanings.{Variable, Filler, of_var, of_text, Argument, Predication, Constraint, Meaning}
use Rattle.mrs_places.specs.Paths.{Paths}
use Rattle.mrs_places.specs.Looking.{Sought, Pair, Parts, step}
use Rattle.mrs_places.specs.Laws.{OutcomesAreOne}
use Rattle.mrs_extract.specs.Extraction.{is_string, type_name, IsVariableAt, Normal, bare, rel, role_arcs, IsFillerOf, IsArgumentAt, AreRolesAt, IsNumberAt, IsSpanAt, MaySpanAt, IsPredicationAt, IsConstraintAt, variable_nodes, IsMrsOf, HasMrs, Extracts}
use Rattle.mrs_extract.proofs.Once.{Once, variables_once}
use Rattle.mrs_extract.proofs.Rising.{has_of, contains_of, rising_one}

-- lists that belong to one list element by element
zip_one : {A B : Type 0} (R : A → B → Type 0) → ((a : A) (x y : B) → R a x → R a y → x ≡ y) → (ks : List A) (xs ys : List B) → AllZip R ks xs → AllZip R ks ys → xs ≡ ys
zip_one R one [] [] [] h k = refl
zip_one R one [] [] (y ∷ ys) h k = absurd k
zip_one R one [] (x ∷ xs) ys h k = absurd h
zip_one R one (a ∷ ks) [] ys h k = absurd h
zip_one R one (a ∷ ks) (x ∷ xs) [] h k = absurd k
zip_one R one (a ∷ ks) (x ∷ xs) (y ∷ ys) h k = let e = one a x y h.0 k.0 in let r = zip_one R one ks xs ys h.1 k.1 in λ i. e i ∷ r i

-- predicates
normal_one : (t u a b : List ℕ) → t ≡ u → Normal t a → Normal u b → a ≡ b
normal_one _ _ _ _ e (bare t n) (bare u m) = e
normal_one _ _ _ _ e (bare t n) (rel front b k) = absurd (n front e)
normal_one _ _ _ _ e (rel front a k) (bare u n) = absurd (n front (sym e))
normal_one _ _ _ _ e (rel front a k) (rel other b l) = normal_one front other a b (append_cancel_right front other (codes "_rel") e) k l

module _ (g : GraphMap) (types : TypeTable) (p : Paths) where
  variable_one : (n : ℕ) (v w : Variable) → IsVariableAt g types p n v → IsVariableAt g types p n w → v ≡ w
  variable_one n v w x y =
      let sorts : v.sort ≡ w.sort = x.sort ∙ sym y.sort in
      let props : v.props ≡ w.props = by_sort (bytes_eq v.sort (codes "h")) (bytes_eq-Decides v.sort (codes "h")) in
      λ i. record { sort = sorts i; props = props i }
    where
      open_props : (v.sort ≡ codes "h" → ⊥) → v.props ≡ w.props
      open_props opens =
          let other : w.sort ≡ codes "h" → ⊥ = λ e. opens (x.sort ∙ sym y.sort ∙ e) in
          rising_one (λ q. q.name) v.props w.props x.order y.order
          (λ q h. has_of w.props q ((y.props other q).1 ((x.props opens q).0 (contains_of v.props q h))))
          (λ q h. has_of v.props q ((x.props opens q).1 ((y.props other q).0 (contains_of w.props q h))))

      by_sort : (b : Bool) → Decides b (v.sort ≡ codes "h") → v.props ≡ w.props
      by_sort true d = x.handle (d.0 refl) ∙ sym (y.handle (y.sort ∙ sym x.sort ∙ d.0 refl))
      by_sort false d = open_props (λ e. let z : false ≡ true = d.1 e in cc)

  module _ (nodes : List ℕ) (once : Once nodes) where
    filler_one : (string : Bool) (text : List ℕ) (n : ℕ) (a b : Filler) → IsFillerOf nodes string text n a → IsFillerOf nodes string text n b → a ≡ b
    filler_one true text n a b e f = e ∙ sym f
    filler_one false text n (of_var v) (of_var w) e f = ap of_var (once v w n e f)
    filler_one false text n (of_var v) (of_text t) e f = absurd f
    filler_one false text n (of_text t) b e f = absurd e

    argument_one : (a : GraphArc) (x y : Argument) → IsArgumentAt g types p nodes a x → IsArgumentAt g types p nodes a y → x ≡ y
    argument_one a x y e f =
        let role = e.role ∙ sym f.role in
        let filler = filler_one (is_string types (type_at g a.to.0)) (type_name types (type_at g a.to.0)) a.to.0 x.filler y.filler e.filler f.filler in
        λ i. record { role = role i; filler = filler i }

    roles_one : (n : ℕ) (xs ys : List Argument) → AreRolesAt g types p nodes n xs → AreRolesAt g types p nodes n ys → xs ≡ ys
    roles_one n xs ys a b =
        let same = zip_one (IsArgumentAt g types p nodes) argument_one (role_arcs g p n) a.by_arc b.by_arc a.each b.each in
        let left : IsPermutation a.by_arc ys = subst (λ zs. IsPermutation zs ys) (sym same) b.same in
        rising_one (λ q. q.role) xs ys a.order b.order
        (λ q h. has_of ys q (Contains-permutation a.by_arc ys q left (Contains-permutation xs a.by_arc q (IsPermutation-sym a.by_arc xs a.same) (contains_of xs q h))))
        (λ q h. has_of xs q (Contains-permutation a.by_arc xs q a.same (Contains-permutation ys a.by_arc q (IsPermutation-sym a.by_arc ys left) (contains_of ys q h))))

    number_one : (at : Option ℕ) (n m : ℕ) → IsNumberAt g types at n → IsNumberAt g types at m → n ≡ m
    number_one None n m x y = absurd x
    number_one (Some k) n m x y = x.1.is ∙ sym y.1.is

    span_one : (n : ℕ) (d e : Extent) → IsSpanAt g types p n d → IsSpanAt g types p n e → d ≡ e
    span_one n d e x y =
        let from = number_one (step g n p.cfrom) d.from e.from x.from y.from in
        let to = number_one (step g n p.cto) d.to e.to x.to y.to in
        λ i. record { from = from i; to = to i }

    spans_one : (n : ℕ) (d e : Option Extent) → MaySpanAt g types p n d → MaySpanAt g types p n e → d ≡ e
    spans_one n None None x y = refl
    spans_one n None (Some e) x y = absurd (x e y)
    spans_one n (Some d) None x y = absurd (y d x)
    spans_one n (Some d) (Some e) x y = ap Some (span_one n d e x y)

    predication_one : (at : Pair) (d e : Predication) → IsPredicationAt g types p nodes at d → IsPredicationAt g types p nodes at e → d ≡ e
    predication_one at d e x y =
        let pred = normal_one _ _ d.pred e.pred refl x.pred y.pred in
        let label = once d.label e.label at.two x.label y.label in
        let args = roles_one at.at d.args e.args x.args y.args in
        let span = spans_one at.at d.span e.span x.span y.span in
        λ i. record { pred = pred i; label = label i; args = args i; span = span i }

    constraint_one : (at : Pair) (c d : Constraint) → IsConstraintAt g types p nodes at c → IsConstraintAt g types p nodes at d → c ≡ d
    constraint_one at c d x y =
        let left = once c.left d.left at.one x.left y.left in
        let rel = x.rel ∙ sym y.rel in
        let right = once c.right d.right at.two x.right y.right in
        λ i. record { left = left i; rel = rel i; right = right i }

  parts_one : (parts : Parts) (m k : Meaning) → IsMrsOf g types p parts m → IsMrsOf g types p parts k → m ≡ k
  parts_one parts m k x y =
      let nodes = variable_nodes g types p parts in
      let once = variables_once g types p parts in
      let top = once m.top k.top parts.top x.top y.top in
      let index = once m.index k.index parts.index x.index y.index in
      let vars = zip_one (IsVariableAt g types p) variable_one nodes m.vars k.vars x.vars y.vars in
      let eps = zip_one (IsPredicationAt g types p nodes) (predication_one nodes once) parts.rels m.eps k.eps x.eps y.eps in
      let hcons = zip_one (IsConstraintAt g types p nodes) (constraint_one nodes once) parts.hcons m.hcons k.hcons x.hcons y.hcons in
      let icons = zip_one (IsConstraintAt g types p nodes) (constraint_one nodes once) parts.icons m.icons k.icons x.icons y.icons in
      λ i. record { top = top i; index = index i; vars = vars i; eps = eps i; hcons = hcons i; icons = icons i }

module _ (outcomes : OutcomesAreOne) (g : GraphMap) (types : TypeTable) (p : Paths) where
  mrs_one : (m k : Meaning) → HasMrs g types p m → HasMrs g types p k → m ≡ k
  mrs_one m k a b =
      let e = outcomes g types p (Ok a.parts) (Ok b.parts) a.looks b.looks in
      let same : a.parts ≡ b.parts = cc in
      parts_one g types p a.parts m k a.is (subst (λ q. IsMrsOf g types p q k) (sym same) b.is)

  pub outcome_one : (a b : Sought Meaning) → Extracts g types p a → Extracts g types p b → a ≡ b
  outcome_one (Ok m) (Ok k) a b = ap Ok (mrs_one m k a b)
  outcome_one (Ok m) (Err path) a b = absurd (let z : Ok a.parts ≡ Err path = outcomes g types p (Ok a.parts) (Err path) a.looks b in cc)
  outcome_one (Err path) (Ok k) a b = absurd (let z : Err path ≡ Ok b.parts = outcomes g types p (Err path) (Ok b.parts) a b.looks in cc)
  outcome_one (Err path) (Err other) a b = let z : Err path ≡ Err other = outcomes g types p (Err path) (Err other) a b in let w : path ≡ other = cc in ap Err w
