-- MRSs that are one but for the numbers of their variables are one in the numbers of their text.
use Rattle.std.proofs.Common.{ℕ, zero, suc, ◌+◌, ◌≡◌, ◌<◌, ◌⊎◌, inl, inr, Bool, true, false, List, [], ◌∷◌, ◌++◌, length, map, slice_index, get_or, refl, sym, ◌∙◌, ap, ap₂, subst, arith, ◌==◌}
use Rattle.std.specs.Prelude.{All, Option, Some, None, codes, if◌then◌else◌}
use Rattle.std.specs.List.{flat_map, slice_get}
use Rattle.std.proofs.lemmas.Bool.{eq-eqb, eqb-true}
use Rattle.std.proofs.lemmas.List.Elements.{All-head, All-tail}
use Rattle.mrs_model.specs.Meanings.{Variable, Filler, of_var, of_text, Argument, Predication, Constraint, Meaning}
use Rattle.mrs_model.specs.Valid.{IsFiller, IsArgument, IsPredication, IsConstraint, IsValid}
use Rattle.mrs_model.specs.Renaming.{IsVariableMap, renamed_filler, renamed_argument, renamed_constraint}
use Rattle.mrs_text.specs.Written.{Part, bytes, variable, filler_part, argument_parts, ep_parts, constraint_parts, list_parts, icons_parts, parts, upper, pred_text, span_text, variable_at, option_suc, place_of, seen_after, seen_all, order_of, or_zero, number_of}
use Rattle.mrs_reading.specs.Laws.{renumbered, IsRenumbering}
use Rattle.scope_model.specs.Numbers.{moved_filler, moved_argument, moved_ep, moved_constraint, in_order}

append_map : {A B : Type 0} (f : A → B) (xs ys : List A) → map f (xs ++ ys) ≡ map f xs ++ map f ys
append_map f [] ys = refl
append_map f (x ∷ xs) ys = ap (λ zs. f x ∷ zs) (append_map f xs ys)

-- the parts of the text
abbrev moved_part : List ℕ → Part → Part
moved_part to (bytes b) = bytes b
moved_part to (variable v) = variable (slice_index to v)

module _ (to : List ℕ) where
  flat_moved : {A : Type 0} (g : A → A) (h : A → List Part) → ((a : A) → h (g a) ≡ map (moved_part to) (h a)) → (as' : List A) → flat_map h (map g as') ≡ map (moved_part to) (flat_map h as')
  flat_moved g h e [] = refl
  flat_moved g h e (a ∷ as') = ap₂ (λ xs ys. xs ++ ys) (e a) (flat_moved g h e as') ∙ sym (append_map (moved_part to) (h a) (flat_map h as'))

  closing : (fs gs : List Part) (b : List ℕ) → gs ≡ map (moved_part to) fs → gs ++ bytes b ∷ [] ≡ map (moved_part to) (fs ++ bytes b ∷ [])
  closing fs gs b e = ap (λ xs. xs ++ bytes b ∷ []) e ∙ sym (append_map (moved_part to) fs (bytes b ∷ []))

  filler_moved : (x : Filler) → filler_part (renamed_filler to x) ≡ moved_part to (filler_part x)
  filler_moved (of_var v) = refl
  filler_moved (of_text t) = refl

  argument_moved : (a : Argument) → argument_parts (renamed_argument to a) ≡ map (moved_part to) (argument_parts a)
  argument_moved a = ap (λ z. bytes ((32 ∷ upper a.role) ++ 58 ∷ 32 ∷ []) ∷ z ∷ []) (filler_moved a.filler)

  abbrev front : Predication → List ℕ
  front e = (codes " [ " ++ (pred_text e.pred ++ span_text e.span)) ++ codes " LBL: "

  ep_moved : (e : Predication) → ep_parts (renumbered to e) ≡ map (moved_part to) (ep_parts e)
  ep_moved e = ap (λ xs. bytes (front e) ∷ variable (slice_index to e.label) ∷ xs)
      (closing (flat_map argument_parts e.args) (flat_map argument_parts (map (renamed_argument to) e.args)) (codes " ]") (flat_moved (renamed_argument to) argument_parts argument_moved e.args))

  list_moved : (word : List ℕ) (cs : List Constraint) → list_parts word (map (renamed_constraint to) cs) ≡ map (moved_part to) (list_parts word cs)
  list_moved word cs = ap (λ xs. bytes ((32 ∷ word) ++ codes ": <") ∷ xs)
      (closing (flat_map constraint_parts cs) (flat_map constraint_parts (map (renamed_constraint to) cs)) (codes " >") (flat_moved (renamed_constraint to) constraint_parts (λ c. refl) cs))

  icons_moved : (cs : List Constraint) → icons_parts (map (renamed_constraint to) cs) ≡ map (moved_part to) (icons_parts cs)
  icons_moved [] = refl
  icons_moved (c ∷ cs) = list_moved (codes "ICONS") (c ∷ cs)

  -- the MRS with the variables that the map gives
  abbrev moved : Meaning → List Variable → Meaning
  moved m vars = record {
    top = slice_index to m.top;
    index = slice_index to m.index;
    vars = vars;
    eps = map (renumbered to) m.eps;
    hcons = map (renamed_constraint to) m.hcons;
    icons = map (renamed_constraint to) m.icons;
  }

  abbrev shown : ℕ → ℕ → List Part → List Part → List Part → List Part
  shown top index es hs is = (bytes (codes "[ TOP: ") ∷ variable top ∷ bytes (codes " INDEX: ") ∷ variable index ∷ bytes (codes " RELS: <") ∷ es)
      ++ (bytes (codes " >") ∷ hs) ++ (is ++ bytes (codes " ]") ∷ [])

  shown_moved : (top index : ℕ) (es hs is : List Part) → shown (slice_index to top) (slice_index to index) (map (moved_part to) es) (map (moved_part to) hs) (map (moved_part to) is) ≡ map (moved_part to) (shown top index es hs is)
  shown_moved top index es hs is =
      let last = closing is (map (moved_part to) is) (codes " ]") refl in
      let first = sym (append_map (moved_part to) es (bytes (codes " >") ∷ hs)) in
      let all = ap₂ (λ xs ys. xs ++ ys) first last ∙ sym (append_map (moved_part to) (es ++ bytes (codes " >") ∷ hs) (is ++ bytes (codes " ]") ∷ [])) in
      ap (λ xs. bytes (codes "[ TOP: ") ∷ variable (slice_index to top) ∷ bytes (codes " INDEX: ") ∷ variable (slice_index to index) ∷ bytes (codes " RELS: <") ∷ xs) all

  parts_moved : (m : Meaning) (vars : List Variable) → parts (moved m vars) ≡ map (moved_part to) (parts m)
  parts_moved m vars =
      let t = slice_index to m.top in
      let x = slice_index to m.index in
      let e = flat_moved (renumbered to) ep_parts ep_moved m.eps in
      let h = list_moved (codes "HCONS") m.hcons in
      let i = icons_moved m.icons in
      (λ j. shown t x (e j) (h j) (i j)) ∙ shown_moved m.top m.index (flat_map ep_parts m.eps) (list_parts (codes "HCONS") m.hcons) (icons_parts m.icons)

abbrev Within : ℕ → List ℕ → Type 0
Within n [] = Unit {0}
Within n (v ∷ vs) = (v < n) × Within n vs

abbrev IsInside : ℕ → Part → Type 0
IsInside n (bytes b) = Unit {0}
IsInside n (variable v) = v < n

abbrev Inside : ℕ → List Part → Type 0
Inside n [] = Unit {0}
Inside n (p ∷ ps) = IsInside n p × Inside n ps

inside_both : (n : ℕ) (ps qs : List Part) → Inside n ps → Inside n qs → Inside n (ps ++ qs)
inside_both n [] qs h k = k
inside_both n (p ∷ ps) qs h k = (h.0, inside_both n ps qs h.1 k)

within_more : (n : ℕ) (vs : List ℕ) (v : ℕ) → Within n vs → v < n → Within n (vs ++ v ∷ [])
within_more n [] v h l = (l, tt)
within_more n (w ∷ vs) v h l = (h.0, within_more n vs v h.1 l)

within_after : (n : ℕ) (o : Option ℕ) (vs : List ℕ) (v : ℕ) → Within n vs → v < n → Within n (seen_after o vs v)
within_after n (Some k) vs v h l = h
within_after n None vs v h l = within_more n vs v h l

within_seen : (n : ℕ) (vs : List ℕ) (ps : List Part) → Within n vs → Inside n ps → Within n (seen_all vs ps)
within_seen n vs [] h k = h
within_seen n vs (bytes b ∷ ps) h k = within_seen n vs ps h k.1
within_seen n vs (variable v ∷ ps) h k = within_seen n (seen_after (place_of v vs) vs v) ps (within_after n (place_of v vs) vs v h k.0) k.1

-- the parts of a valid MRS have variables that are there
module _ (n : ℕ) where
  filler_inside : (x : Filler) → IsFiller n x → IsInside n (filler_part x)
  filler_inside (of_var v) l = l
  filler_inside (of_text t) l = tt

  arguments_inside : (xs : List Argument) → All (IsArgument n) xs → Inside n (flat_map argument_parts xs)
  arguments_inside [] a = tt
  arguments_inside (x ∷ xs) a = (tt, (filler_inside x.filler (All-head (IsArgument n) x xs a).filler, arguments_inside xs (All-tail (IsArgument n) x xs a)))

  ep_inside : (e : Predication) → IsPredication n e → Inside n (ep_parts e)
  ep_inside e is = (tt, (is.label, inside_both n (flat_map argument_parts e.args) (bytes (codes " ]") ∷ []) (arguments_inside e.args is.args) (tt, tt)))

  eps_inside : (es : List Predication) → All (IsPredication n) es → Inside n (flat_map ep_parts es)
  eps_inside [] a = tt
  eps_inside (e ∷ es) a = inside_both n (ep_parts e) (flat_map ep_parts es) (ep_inside e (All-head (IsPredication n) e es a)) (eps_inside es (All-tail (IsPredication n) e es a))

  constraints_inside : (cs : List Constraint) → All (IsConstraint n) cs → Inside n (flat_map constraint_parts cs)
  constraints_inside [] a = tt
  constraints_inside (c ∷ cs) a = let is = All-head (IsConstraint n) c cs a in (tt, (is.left, (tt, (is.right, constraints_inside cs (All-tail (IsConstraint n) c cs a)))))

  list_inside : (word : List ℕ) (cs : List Constraint) → All (IsConstraint n) cs → Inside n (list_parts word cs)
  list_inside word cs a = (tt, inside_both n (flat_map constraint_parts cs) (bytes (codes " >") ∷ []) (constraints_inside cs a) (tt, tt))

  icons_inside : (cs : List Constraint) → All (IsConstraint n) cs → Inside n (icons_parts cs)
  icons_inside [] a = tt
  icons_inside (c ∷ cs) a = list_inside (codes "ICONS") (c ∷ cs) a

parts_inside : (m : Meaning) → IsValid m → Inside (length m.vars) (parts m)
parts_inside m is =
    let n = length m.vars in
    let last = inside_both n (icons_parts m.icons) (bytes (codes " ]") ∷ []) (icons_inside n m.icons is.icons) (tt, tt) in
    let hs = bytes (codes " >") ∷ list_parts (codes "HCONS") m.hcons in
    let first = inside_both n (flat_map ep_parts m.eps) hs (eps_inside n m.eps is.eps) (tt, list_inside n (codes "HCONS") m.hcons is.hcons) in
    (tt, (is.top, (tt, (is.index, (tt, inside_both n (flat_map ep_parts m.eps ++ hs) (icons_parts m.icons ++ bytes (codes " ]") ∷ []) first last)))))

abbrev read : {A : Type 0} → A → Option A → A
read d None = d
read d (Some x) = x

at_or : {A : Type 0} (xs : List A) (i : ℕ) (d : A) → get_or xs i d ≡ read d (slice_get xs i)
at_or [] i d = refl
at_or (x ∷ xs) zero d = refl
at_or (x ∷ xs) (suc i) d = at_or xs i d

module _ (m : Meaning) (vars : List Variable) (to : List ℕ) (valid : IsValid m) (map_of : IsVariableMap m.vars vars to) where
  abbrev to_of : ℕ → ℕ
  to_of v = slice_index to v

  same_of : (v w : ℕ) → v < length m.vars → w < length m.vars → slice_index to v ≡ slice_index to w → v ≡ w
  same_of v w l k e = let n = map_of.every in map_of.one_to_one v w (omega (arith, l, n)) (omega (arith, k, n)) e

  test_moved : (v w : ℕ) → v < length m.vars → w < length m.vars → (slice_index to v == slice_index to w) ≡ (v == w)
  test_moved v w l k = by_test (v == w) (slice_index to v == slice_index to w) refl refl
    where
      by_test : (b c : Bool) → b ≡ (v == w) → c ≡ (slice_index to v == slice_index to w) → c ≡ b
      by_test true true d e = refl
      by_test false false d e = refl
      by_test true false d e =
          let t : (slice_index to v == slice_index to w) ≡ true = eq-eqb (slice_index to v) (slice_index to w) (ap to_of (eqb-true v w (sym d))) in
          e ∙ t
      by_test false true d e =
          let t : (v == w) ≡ true = eq-eqb v w (same_of v w l k (eqb-true (slice_index to v) (slice_index to w) (sym e))) in
          sym (d ∙ t)

  place_moved : (v : ℕ) (ws : List ℕ) → v < length m.vars → Within (length m.vars) ws → place_of (slice_index to v) (map to_of ws) ≡ place_of v ws
  place_moved v [] l h = refl
  place_moved v (w ∷ ws) l h = λ i. if test_moved v w l h.0 i then Some 0 else option_suc (place_moved v ws l h.1 i)

  after_moved : (o : Option ℕ) (ws : List ℕ) (v : ℕ) → seen_after o (map to_of ws) (slice_index to v) ≡ map to_of (seen_after o ws v)
  after_moved (Some k) ws v = refl
  after_moved None ws v = sym (append_map to_of ws (v ∷ []))

  seen_moved : (ws : List ℕ) (ps : List Part) → Within (length m.vars) ws → Inside (length m.vars) ps → seen_all (map to_of ws) (map (moved_part to) ps) ≡ map to_of (seen_all ws ps)
  seen_moved ws [] h k = refl
  seen_moved ws (bytes b ∷ ps) h k = seen_moved ws ps h k.1
  seen_moved ws (variable v ∷ ps) h k =
      let o = place_of v ws in
      ap (λ z. seen_all (seen_after z (map to_of ws) (slice_index to v)) (map (moved_part to) ps)) (place_moved v ws k.0 h)
      ∙ ap (λ zs. seen_all zs (map (moved_part to) ps)) (after_moved o ws v)
      ∙ seen_moved (seen_after o ws v) ps (within_after (length m.vars) o ws v h k.0) k.1

  order_moved : order_of (moved to m vars) ≡ map to_of (order_of m)
  order_moved = ap (λ ps. seen_all [] ps) (parts_moved to m vars) ∙ seen_moved [] (parts m) tt (parts_inside m valid)

  order_within : Within (length m.vars) (order_of m)
  order_within = within_seen (length m.vars) [] (parts m) tt (parts_inside m valid)

  number_moved : (v : ℕ) → v < length m.vars → number_of (moved to m vars) (slice_index to v) ≡ number_of m v
  number_moved v l = ap or_zero (ap (place_of (slice_index to v)) order_moved ∙ place_moved v (order_of m) l order_within)

  variables_moved : (vs : List ℕ) → Within (length m.vars) vs → map (variable_at vars) (map to_of vs) ≡ map (variable_at m.vars) vs
  variables_moved [] h = refl
  variables_moved (v ∷ vs) h =
      let n = map_of.every in
      let l = h.0 in
      let none : Variable = record { sort = []; props = [] } in
      let e : variable_at vars (slice_index to v) ≡ variable_at m.vars v = at_or vars (slice_index to v) none ∙ ap (read none) (map_of.kept v (omega (arith, n, l))) ∙ sym (at_or m.vars v none) in
      λ i. e i ∷ variables_moved vs h.1 i

  number_filler : (x : Filler) → IsFiller (length m.vars) x → moved_filler (number_of (moved to m vars)) (renamed_filler to x) ≡ moved_filler (number_of m) x
  number_filler (of_var v) l = ap of_var (number_moved v l)
  number_filler (of_text t) l = refl

  number_arguments : (xs : List Argument) → All (IsArgument (length m.vars)) xs → map (moved_argument (number_of (moved to m vars))) (map (renamed_argument to) xs) ≡ map (moved_argument (number_of m)) xs
  number_arguments [] a = refl
  number_arguments (x ∷ xs) a =
      let e = number_filler x.filler (All-head (IsArgument (length m.vars)) x xs a).filler in
      let r = number_arguments xs (All-tail (IsArgument (length m.vars)) x xs a) in
      λ i. record { role = x.role; filler = e i } ∷ r i

  number_eps : (es : List Predication) → All (IsPredication (length m.vars)) es → map (moved_ep (number_of (moved to m vars))) (map (renumbered to) es) ≡ map (moved_ep (number_of m)) es
  number_eps [] a = refl
  number_eps (e ∷ es) a =
      let is = All-head (IsPredication (length m.vars)) e es a in
      let l = number_moved e.label is.label in
      let x = number_arguments e.args is.args in
      let r = number_eps es (All-tail (IsPredication (length m.vars)) e es a) in
      λ i. record { pred = e.pred; label = l i; args = x i; span = e.span } ∷ r i

  number_constraints : (cs : List Constraint) → All (IsConstraint (length m.vars)) cs → map (moved_constraint (number_of (moved to m vars))) (map (renamed_constraint to) cs) ≡ map (moved_constraint (number_of m)) cs
  number_constraints [] a = refl
  number_constraints (c ∷ cs) a =
      let is = All-head (IsConstraint (length m.vars)) c cs a in
      let l = number_moved c.left is.left in
      let x = number_moved c.right is.right in
      let r = number_constraints cs (All-tail (IsConstraint (length m.vars)) c cs a) in
      λ i. record { left = l i; rel = c.rel; right = x i } ∷ r i

  order_of_moved : in_order m ≡ in_order (moved to m vars)
  order_of_moved =
      let t = number_moved m.top valid.top in
      let x = number_moved m.index valid.index in
      let v = ap (map (variable_at vars)) order_moved ∙ variables_moved (order_of m) order_within in
      let e = number_eps m.eps valid.eps in
      let h = number_constraints m.hcons valid.hcons in
      let c = number_constraints m.icons valid.icons in
      sym (λ i. record { top = t i; index = x i; vars = v i; eps = e i; hcons = h i; icons = c i })

pub one_frame : (m k : Meaning) (to : List ℕ) → IsValid m → IsRenumbering m k to → in_order m ≡ in_order k
one_frame m k to valid r =
    let e : moved to m k.vars ≡ k = λ i. record { top = r.top i; index = r.index i; vars = k.vars; eps = r.eps i; hcons = r.hcons i; icons = r.icons i } in
    order_of_moved m k.vars to valid r.vars ∙ ap in_order e
