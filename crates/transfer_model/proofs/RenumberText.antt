-- The text of an MRS doesn't hang on how its variables are numbered.
use Rattle.std.proofs.Common.{ℕ, zero, suc, ◌≡◌, ◌<◌, Bool, true, false, List, [], ◌∷◌, ◌++◌, length, map, slice_index, get_or, refl, sym, ◌∙◌, ap, ap₂, arith, ◌==◌}
use Rattle.std.specs.Prelude.{All, Option, Some, None, codes, if◌then◌else◌}
use Rattle.std.specs.List.{flat_map, slice_get}
use Rattle.std.proofs.lemmas.Bool.{eq-eqb, eqb-true}
use Rattle.std.proofs.lemmas.List.{length-map, map-append}
use Rattle.std.proofs.lemmas.List.Elements.{All-head, All-tail}
use Rattle.mrs_model.specs.Meanings.{Variable, Filler, of_var, of_text, Argument, Predication, Constraint, Meaning}
use Rattle.mrs_model.specs.Valid.{IsFiller, IsValid}
use Rattle.mrs_reading.specs.Laws.{IsRenumbering}
use Rattle.mrs_text.specs.Written.{Part, bytes, variable, filler_part, argument_parts, ep_parts, constraint_parts, list_parts, icons_parts, parts, upper, pred_text, span_text, variable_at, option_suc, place_of, variable_text, seen_after, text_after, text_of}
use Rattle.transfer_model.proofs.RenumberMoved.{moved_filler, moved_argument, moved_ep, moved_constraint, IsMoved, EpWithin, EndsWithin, IsWithin, valid_within, moved_by_list}

abbrev moved_part : (ℕ → ℕ) → Part → Part
moved_part f (bytes b) = bytes b
moved_part f (variable v) = variable (f v)

abbrev shown : ℕ → ℕ → List Part → List Part → List Part → List Part
shown top index es hs is = (bytes (codes "[ TOP: ") ∷ variable top ∷ bytes (codes " INDEX: ") ∷ variable index ∷ bytes (codes " RELS: <") ∷ es)
    ++ (bytes (codes " >") ∷ hs) ++ (is ++ bytes (codes " ]") ∷ [])

-- the parts of the text are moved
module _ (f : ℕ → ℕ) where
  flat_moved : {A : Type 0} (g : A → A) (h : A → List Part) → ((a : A) → h (g a) ≡ map (moved_part f) (h a)) → (xs : List A) → flat_map h (map g xs) ≡ map (moved_part f) (flat_map h xs)
  flat_moved g h e [] = refl
  flat_moved g h e (a ∷ xs) = ap₂ (λ x y. x ++ y) (e a) (flat_moved g h e xs) ∙ sym (map-append (moved_part f) (h a) (flat_map h xs))

  closing : (fs gs : List Part) (b : List ℕ) → gs ≡ map (moved_part f) fs → gs ++ bytes b ∷ [] ≡ map (moved_part f) (fs ++ bytes b ∷ [])
  closing fs gs b e = ap (λ xs. xs ++ bytes b ∷ []) e ∙ sym (map-append (moved_part f) fs (bytes b ∷ []))

  filler_moved : (x : Filler) → filler_part (moved_filler f x) ≡ moved_part f (filler_part x)
  filler_moved (of_var v) = refl
  filler_moved (of_text t) = refl

  argument_moved : (a : Argument) → argument_parts (moved_argument f a) ≡ map (moved_part f) (argument_parts a)
  argument_moved a = ap (λ z. bytes ((32 ∷ upper a.role) ++ 58 ∷ 32 ∷ []) ∷ z ∷ []) (filler_moved a.filler)

  abbrev front : Predication → List ℕ
  front e = (codes " [ " ++ (pred_text e.pred ++ span_text e.span)) ++ codes " LBL: "

  ep_moved : (e : Predication) → ep_parts (moved_ep f e) ≡ map (moved_part f) (ep_parts e)
  ep_moved e = ap (λ xs. bytes (front e) ∷ variable (f e.label) ∷ xs)
      (closing (flat_map argument_parts e.args) (flat_map argument_parts (map (moved_argument f) e.args)) (codes " ]") (flat_moved (moved_argument f) argument_parts argument_moved e.args))

  list_moved : (word : List ℕ) (cs : List Constraint) → list_parts word (map (moved_constraint f) cs) ≡ map (moved_part f) (list_parts word cs)
  list_moved word cs = ap (λ xs. bytes ((32 ∷ word) ++ codes ": <") ∷ xs)
      (closing (flat_map constraint_parts cs) (flat_map constraint_parts (map (moved_constraint f) cs)) (codes " >") (flat_moved (moved_constraint f) constraint_parts (λ c. refl) cs))

  icons_moved : (cs : List Constraint) → icons_parts (map (moved_constraint f) cs) ≡ map (moved_part f) (icons_parts cs)
  icons_moved [] = refl
  icons_moved (c ∷ cs) = list_moved (codes "ICONS") (c ∷ cs)

  shown_moved : (top index : ℕ) (es hs is : List Part) → shown (f top) (f index) (map (moved_part f) es) (map (moved_part f) hs) (map (moved_part f) is) ≡ map (moved_part f) (shown top index es hs is)
  shown_moved top index es hs is =
      let last = closing is (map (moved_part f) is) (codes " ]") refl in
      let first = sym (map-append (moved_part f) es (bytes (codes " >") ∷ hs)) in
      let all = ap₂ (λ xs ys. xs ++ ys) first last ∙ sym (map-append (moved_part f) (es ++ bytes (codes " >") ∷ hs) (is ++ bytes (codes " ]") ∷ [])) in
      ap (λ xs. bytes (codes "[ TOP: ") ∷ variable (f top) ∷ bytes (codes " INDEX: ") ∷ variable (f index) ∷ bytes (codes " RELS: <") ∷ xs) all

  parts_moved : (a b : Meaning) → IsMoved f a b → parts b ≡ map (moved_part f) (parts a)
  parts_moved a b m =
      let t = m.top in
      let x = m.index in
      let e = sym (flat_moved (moved_ep f) ep_parts ep_moved a.eps) ∙ ap (flat_map ep_parts) m.eps in
      let h = sym (list_moved (codes "HCONS") a.hcons) ∙ ap (list_parts (codes "HCONS")) m.hcons in
      let c = sym (icons_moved a.icons) ∙ ap icons_parts m.icons in
      sym (λ i. shown (t i) (x i) (e i) (h i) (c i)) ∙ shown_moved a.top a.index (flat_map ep_parts a.eps) (list_parts (codes "HCONS") a.hcons) (icons_parts a.icons)

abbrev Below : ℕ → List ℕ → Type 0
Below n [] = Unit {0}
Below n (v ∷ vs) = (v < n) × Below n vs

abbrev IsInside : ℕ → Part → Type 0
IsInside n (bytes b) = Unit {0}
IsInside n (variable v) = v < n

abbrev Inside : ℕ → List Part → Type 0
Inside n [] = Unit {0}
Inside n (p ∷ ps) = IsInside n p × Inside n ps

inside_both : (n : ℕ) (ps qs : List Part) → Inside n ps → Inside n qs → Inside n (ps ++ qs)
inside_both n [] qs h k = k
inside_both n (p ∷ ps) qs h k = (h.0, inside_both n ps qs h.1 k)

below_more : (n : ℕ) (vs : List ℕ) (v : ℕ) → Below n vs → v < n → Below n (vs ++ v ∷ [])
below_more n [] v h l = (l, tt)
below_more n (w ∷ vs) v h l = (h.0, below_more n vs v h.1 l)

below_after : (n : ℕ) (o : Option ℕ) (vs : List ℕ) (v : ℕ) → Below n vs → v < n → Below n (seen_after o vs v)
below_after n (Some k) vs v h l = h
below_after n None vs v h l = below_more n vs v h l

-- the parts have variables below the number of variables
module _ (n : ℕ) where
  filler_inside : (x : Filler) → IsFiller n x → IsInside n (filler_part x)
  filler_inside (of_var v) l = l
  filler_inside (of_text t) l = tt

  arguments_inside : (xs : List Argument) → All (λ a. IsFiller n a.filler) xs → Inside n (flat_map argument_parts xs)
  arguments_inside [] h = tt
  arguments_inside (x ∷ xs) h = (tt, (filler_inside x.filler (All-head (λ a. IsFiller n a.filler) x xs h), arguments_inside xs (All-tail (λ a. IsFiller n a.filler) x xs h)))

  ep_inside : (e : Predication) → EpWithin n e → Inside n (ep_parts e)
  ep_inside e w = (tt, (w.label, inside_both n (flat_map argument_parts e.args) (bytes (codes " ]") ∷ []) (arguments_inside e.args w.args) (tt, tt)))

  eps_inside : (es : List Predication) → All (EpWithin n) es → Inside n (flat_map ep_parts es)
  eps_inside [] h = tt
  eps_inside (e ∷ es) h = inside_both n (ep_parts e) (flat_map ep_parts es) (ep_inside e (All-head (EpWithin n) e es h)) (eps_inside es (All-tail (EpWithin n) e es h))

  constraints_inside : (cs : List Constraint) → All (EndsWithin n) cs → Inside n (flat_map constraint_parts cs)
  constraints_inside [] h = tt
  constraints_inside (c ∷ cs) h = let w = All-head (EndsWithin n) c cs h in (tt, (w.left, (tt, (w.right, constraints_inside cs (All-tail (EndsWithin n) c cs h)))))

  list_inside : (word : List ℕ) (cs : List Constraint) → All (EndsWithin n) cs → Inside n (list_parts word cs)
  list_inside word cs h = (tt, inside_both n (flat_map constraint_parts cs) (bytes (codes " >") ∷ []) (constraints_inside cs h) (tt, tt))

  icons_inside : (cs : List Constraint) → All (EndsWithin n) cs → Inside n (icons_parts cs)
  icons_inside [] h = tt
  icons_inside (c ∷ cs) h = list_inside (codes "ICONS") (c ∷ cs) h

  parts_inside : (a : Meaning) → IsWithin n a → Inside n (parts a)
  parts_inside a w =
      let last = inside_both n (icons_parts a.icons) (bytes (codes " ]") ∷ []) (icons_inside a.icons w.icons) (tt, tt) in
      let hs = bytes (codes " >") ∷ list_parts (codes "HCONS") a.hcons in
      let first = inside_both n (flat_map ep_parts a.eps) hs (eps_inside a.eps w.eps) (tt, list_inside (codes "HCONS") a.hcons w.hcons) in
      (tt, (w.top, (tt, (w.index, (tt, inside_both n (flat_map ep_parts a.eps ++ hs) (icons_parts a.icons ++ bytes (codes " ]") ∷ []) first last)))))

-- places among the variables that were written
module _ (f : ℕ → ℕ) (n : ℕ) (one : (v w : ℕ) → v < n → w < n → f v ≡ f w → v ≡ w) where
  test_moved : (v w : ℕ) → v < n → w < n → (f v == f w) ≡ (v == w)
  test_moved v w l k = by_test (v == w) (f v == f w) refl refl
    where
      by_test : (b c : Bool) → b ≡ (v == w) → c ≡ (f v == f w) → c ≡ b
      by_test true true d e = refl
      by_test false false d e = refl
      by_test true false d e = let t : (f v == f w) ≡ true = eq-eqb (f v) (f w) (ap f (eqb-true v w (sym d))) in e ∙ t
      by_test false true d e = let t : (v == w) ≡ true = eq-eqb v w (one v w l k (eqb-true (f v) (f w) (sym e))) in sym (d ∙ t)

  place_moved : (v : ℕ) (ws : List ℕ) → v < n → Below n ws → place_of (f v) (map f ws) ≡ place_of v ws
  place_moved v [] l h = refl
  place_moved v (w ∷ ws) l h = λ i. if test_moved v w l h.0 i then Some 0 else option_suc (place_moved v ws l h.1 i)

  after_moved : (o : Option ℕ) (ws : List ℕ) (v : ℕ) → seen_after o (map f ws) (f v) ≡ map f (seen_after o ws v)
  after_moved (Some k) ws v = refl
  after_moved None ws v = sym (map-append f ws (v ∷ []))

  text_moved : (vars others : List Variable) → ((v : ℕ) → v < n → variable_at others (f v) ≡ variable_at vars v) → (seen : List ℕ) (ps : List Part) → Below n seen → Inside n ps
      → text_after others (map f seen) (map (moved_part f) ps) ≡ text_after vars seen ps
  text_moved vars others at seen [] h k = refl
  text_moved vars others at seen (bytes b ∷ ps) h k = ap (λ z. b ++ z) (text_moved vars others at seen ps h k.1)
  text_moved vars others at seen (variable v ∷ ps) h k =
      let o = place_of v seen in
      let p = place_moved v seen k.0 h in
      let l = length-map seen f in
      let x = at v k.0 in
      let rest = ap (λ z. text_after others (seen_after z (map f seen) (f v)) (map (moved_part f) ps)) p
      ∙ ap (λ zs. text_after others zs (map (moved_part f) ps)) (after_moved o seen v)
      ∙ text_moved vars others at (seen_after o seen v) ps (below_after n o seen v h k.0) k.1 in
      λ i. variable_text (p i) (l i) (x i) ++ rest i

abbrev read : {A : Type 0} → A → Option A → A
read d None = d
read d (Some x) = x

at_or : {A : Type 0} (xs : List A) (i : ℕ) (d : A) → get_or xs i d ≡ read d (slice_get xs i)
at_or [] i d = refl
at_or (x ∷ xs) zero d = refl
at_or (x ∷ xs) (suc i) d = at_or xs i d

pub one_text : (m k : Meaning) (to : List ℕ) → IsValid m → IsRenumbering m k to → text_of m ≡ text_of k
one_text m k to valid r =
    let n = length m.vars in
    let e = r.vars.every in
    let f = λ (v : ℕ). slice_index to v in
    let none : Variable = record { sort = []; props = [] } in
    let at : (v : ℕ) → v < n → variable_at k.vars (f v) ≡ variable_at m.vars v = λ v l. at_or k.vars (f v) none ∙ ap (read none) (r.vars.kept v (omega (arith, e, l))) ∙ sym (at_or m.vars v none) in
    let one : (v w : ℕ) → v < n → w < n → f v ≡ f w → v ≡ w = λ v w l h q. r.vars.one_to_one v w (omega (arith, e, l)) (omega (arith, e, h)) q in
    sym (ap (text_after k.vars []) (parts_moved f m k (moved_by_list to m k r)) ∙ text_moved f n one m.vars k.vars at [] (parts m) tt (parts_inside n m (valid_within m valid)))
