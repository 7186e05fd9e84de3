-- The frame that is made is the frame of the MRS in the numbers of its text.
use Rattle.std.proofs.Common.{ℕ, zero, suc, ◌≡◌, ◌<◌, ◌+◌, inl, inr, ◌∙◌, Bool, true, false, List, [], ◌∷◌, ◌++◌, append-nil, map, length, get_or, refl, sym, ap, ap₂, subst, arith, ◌==◌, ◌&&◌, not}
use Rattle.std.specs.Prelude.{All, if◌then◌else◌, slice_index, Option, Some, None, codes}
use Rattle.std.specs.List.{flat_map}
use Rattle.std.specs.Str.{bytes_eq}
use Rattle.std.proofs.lemmas.Bool.{eqb-true, eqb-false}
use Rattle.std.proofs.lemmas.List.Elements.{All-head, All-tail}
use Rattle.mrs_model.specs.Meanings.{Variable, Filler, of_var, of_text, Argument, Predication, Constraint, Meaning}
use Rattle.mrs_model.specs.Valid.{IsFiller, IsArgument, IsPredication, IsConstraint, IsValid}
use Rattle.mrs_text.specs.Written.{Part, bytes, variable, filler_part, argument_parts, ep_parts, list_parts, icons_parts, pred_text, span_text, parts, place_of, option_suc, seen_after, seen_all, order_of, or_zero, number_of, variable_at}
use Rattle.scope_model.specs.declared.Opening.{Opening}
use Rattle.scope_model.specs.declared.Quantifier.{Quantifier}
use Rattle.scope_model.specs.declared.Binding.{Binding}
use Rattle.scope_model.specs.declared.Qeq.{Qeq}
use Rattle.scope_model.specs.Numbers.{moved_filler, moved_argument, moved_ep, moved_constraint, in_order}
use Rattle.scope_model.specs.Frames.{Frame, is_handle, handles_in, openings_in, variable_in, at_role, hole_at, quantifier_with, quantifier_of, listed, is_variable, has_variable, placed, bindings_of, bindings_at}
use Rattle.scope_model.specs.Answers.{frame}
use Rattle.scope_model.proofs.Lists.{In, in_left, in_right, in_flat}
use Rattle.scope_resolve.specs.Inner.Building.{AreNumbers, is_handle_in, handle_of, opening_with, openings_with, openings_from, number_at, quantifier_by, quantifier_from, is_number, has_number, bindings_with, bindings_by, bindings_of_quantifier, bindings_from, label_from, qeq_from}

-- places of variables that stand in the text
place_in : (v : ℕ) (ws : List ℕ) → In v ws → (k : ℕ) × (place_of v ws ≡ Some k) × (k < length ws) × (get_or ws k 0 ≡ v)
place_in v [] i = absurd i
place_in v (w ∷ ws) i = by_test (v == w) refl i (λ j. place_in v ws j)
  where
    by_test : (b : Bool) → b ≡ (v == w) → In v (w ∷ ws) → (In v ws → (k : ℕ) × (place_of v ws ≡ Some k) × (k < length ws) × (get_or ws k 0 ≡ v)) → (k : ℕ) × ((if b then Some 0 else option_suc (place_of v ws)) ≡ Some k) × (k < length (w ∷ ws)) × (get_or (w ∷ ws) k 0 ≡ v)
    by_test true q i rest = (0, refl, omega arith, sym (eqb-true v w (sym q)))
    by_test false q (inl e) rest = absurd (eqb-false v w (sym q) e)
    by_test false q (inr j) rest = let r = rest j in let l = r.2 in (suc r.0, ap option_suc r.1 ∙ ap Some (omega arith), omega (arith, l), r.3)

place_known : (v : ℕ) (ws : List ℕ) (k : ℕ) → place_of v ws ≡ Some k → In v ws
place_known v [] k e = absurd (cc)
place_known v (w ∷ ws) k e = by_test (v == w) refl e (λ j q. place_known v ws j q)
  where
    by_rest : (o : Option ℕ) → place_of v ws ≡ o → option_suc o ≡ Some k → ((j : ℕ) → place_of v ws ≡ Some j → In v ws) → In v ws
    by_rest None q d rest = let x : None ≡ Some k = d in absurd (cc)
    by_rest (Some j) q d rest = rest j q

    by_test : (b : Bool) → b ≡ (v == w) → (if b then Some 0 else option_suc (place_of v ws)) ≡ Some k → ((j : ℕ) → place_of v ws ≡ Some j → In v ws) → In v (w ∷ ws)
    by_test true q d rest = inl (eqb-true v w (sym q))
    by_test false q d rest = inr (by_rest (place_of v ws) refl d rest)

seen_now : (v : ℕ) (seen : List ℕ) (o : Option ℕ) → place_of v seen ≡ o → In v (seen_after o seen v)
seen_now v seen None q = in_right v seen (v ∷ []) (inl refl)
seen_now v seen (Some k) q = place_known v seen k q

seen_still : (v w : ℕ) (seen : List ℕ) (o : Option ℕ) → In v seen → In v (seen_after o seen w)
seen_still v w seen None i = in_left v seen (w ∷ []) i
seen_still v w seen (Some k) i = i

seen_on : (v : ℕ) (seen : List ℕ) (ps : List Part) → In v seen → In v (seen_all seen ps)
seen_on v seen [] i = i
seen_on v seen (bytes b ∷ ps) i = seen_on v seen ps i
seen_on v seen (variable w ∷ ps) i = seen_on v (seen_after (place_of w seen) seen w) ps (seen_still v w seen (place_of w seen) i)

seen_in : (v : ℕ) (seen : List ℕ) (ps : List Part) → In (variable v) ps → In v (seen_all seen ps)
seen_in v seen [] i = absurd i
seen_in v seen (bytes b ∷ ps) (inl e) = absurd (cc)
seen_in v seen (bytes b ∷ ps) (inr i) = seen_in v seen ps i
seen_in v seen (variable w ∷ ps) (inl e) =
    let d : v ≡ w = ap (λ (p : Part). or_variable p) e in
    seen_on v (seen_after (place_of w seen) seen w) ps (subst (λ u. In u (seen_after (place_of w seen) seen w)) (sym d) (seen_now w seen (place_of w seen) refl))
  where
    or_variable : Part → ℕ
    or_variable (variable u) = u
    or_variable (bytes b) = 0
seen_in v seen (variable w ∷ ps) (inr i) = seen_in v (seen_after (place_of w seen) seen w) ps i

in_parts : (m : Meaning) (e : Predication) (a : Argument) (v : ℕ) → In e m.eps → In a e.args → a.filler ≡ of_var v → In (variable v) (parts m)
in_parts m e a v i j d =
    let p : In (variable v) (argument_parts a) = inr (inl (sym (ap filler_part d))) in
    let q : In (variable v) (flat_map argument_parts e.args) = in_flat argument_parts a (variable v) e.args j p in
    let r : In (variable v) (ep_parts e) = in_left (variable v) (bytes ((codes " [ " ++ (pred_text e.pred ++ span_text e.span)) ++ codes " LBL: ") ∷ variable e.label ∷ flat_map argument_parts e.args) (bytes (codes " ]") ∷ []) (inr (inr q)) in
    let s : In (variable v) (flat_map ep_parts m.eps) = in_flat ep_parts e (variable v) m.eps i r in
    let first : List Part = bytes (codes "[ TOP: ") ∷ variable m.top ∷ bytes (codes " INDEX: ") ∷ variable m.index ∷ bytes (codes " RELS: <") ∷ flat_map ep_parts m.eps in
    let second : List Part = bytes (codes " >") ∷ list_parts (codes "HCONS") m.hcons in
    in_left (variable v) (first ++ second) (icons_parts m.icons ++ bytes (codes " ]") ∷ []) (in_left (variable v) first second (inr (inr (inr (inr (inr s))))))

get_map : (g : ℕ → Variable) (ws : List ℕ) (k : ℕ) (d : Variable) → k < length ws → get_or (map g ws) k d ≡ g (get_or ws k 0)
get_map g [] k d l = absurd (omega (arith, l))
get_map g (w ∷ ws) zero d l = refl
get_map g (w ∷ ws) (suc k) d l = get_map g ws k d (omega (arith, l))

module _ (m : Meaning) (valid : IsValid m) (ns : List ℕ) (are : AreNumbers m ns) where
  abbrev to : ℕ → ℕ
  to = number_of m

  abbrev k : Meaning
  k = in_order m

  numbered : (v : ℕ) → v < length m.vars → slice_index ns v ≡ to v
  numbered v l = let s = are.size in are.each v (omega (arith, l, s))

  same_variable : (v : ℕ) → In v (order_of m) → variable_at k.vars (to v) ≡ variable_at m.vars v
  same_variable v i =
      let r = place_in v (order_of m) i in
      let e : to v ≡ r.0 = ap or_zero r.1 in
      ap (λ j. variable_at k.vars j) e ∙ (get_map (variable_at m.vars) (order_of m) r.0 _ r.2 ∙ ap (variable_at m.vars) r.3)

  -- what holds of each variable that fills a role
  record Good (x : Filler) : Type 0 where
    number : (v : ℕ) → x ≡ of_var v → slice_index ns v ≡ to v
    sort : (v : ℕ) → x ≡ of_var v → is_handle k (to v) ≡ is_handle_in m.vars v

  filler_in : (n : ℕ) (x : Filler) (v : ℕ) → x ≡ of_var v → IsFiller n x → v < n
  filler_in n x v e is = subst (IsFiller n) e is

  all_at : {A : Type 0} (P : A → Type 0) (xs : List A) (x : A) → All P xs → In x xs → P x
  all_at P [] x a i = absurd i
  all_at P (y ∷ xs) x a (inl e) = subst P (sym e) (All-head P y xs a)
  all_at P (y ∷ xs) x a (inr i) = all_at P xs x (All-tail P y xs a) i

  good : (e : Predication) (a : Argument) → In e m.eps → In a e.args → Good a.filler
  good e a i j = record {
    number = λ v d. numbered v (filler_in _ a.filler v d (all_at (IsArgument (length m.vars)) e.args a (all_at (IsPredication (length m.vars)) m.eps e valid.eps i).args j).filler);
    sort = λ v d. ap (λ (u : Variable). bytes_eq u.sort (codes "h")) (same_variable v (seen_in v [] (parts m) (in_parts m e a v i j d)));
  }

  abbrev AllGood : List Argument → Type 0
  AllGood args = (a : Argument) → In a args → Good a.filler

  rest_good : (a : Argument) (args : List Argument) → AllGood (a ∷ args) → AllGood args
  rest_good a args g b i = g b (inr i)

  label_is : (e : Predication) → In e m.eps → to e.label ≡ slice_index ns e.label
  label_is e i = sym (numbered e.label (all_at (IsPredication (length m.vars)) m.eps e valid.eps i).label)

  -- openings
  opening_is : (l x : ℕ) (f : Filler) → l ≡ x → Good f → map (λ h. record { label = l; hole = h }) (handles_in k (moved_filler to f)) ≡ opening_with x (handle_of m.vars ns (variable_in f))
  opening_is l x (of_text t) e g = refl
  opening_is l x (of_var v) e g = by_test (is_handle k (to v)) (is_handle_in m.vars v) (g.sort v refl)
    where
      by_test : (b c : Bool) → b ≡ c → map (λ h. record { label = l; hole = h }) (if b then to v ∷ [] else []) ≡ opening_with x (if c then Some (slice_index ns v) else None)
      by_test true true q = let n = g.number v refl in (λ j. record { label = e j; hole = sym n j } ∷ [])
      by_test false false q = refl
      by_test true false q = absurd (cc)
      by_test false true q = absurd (cc)

  openings_are : (l x : ℕ) (args : List Argument) → l ≡ x → AllGood args
      → flat_map (λ (a : Argument). map (λ h. record { label = l; hole = h }) (handles_in k a.filler)) (map (moved_argument to) args) ≡ openings_with m.vars ns x args
  openings_are l x [] e g = refl
  openings_are l x (a ∷ args) e g = ap₂ (λ (xs ys : List Opening). xs ++ ys) (opening_is l x a.filler e (g a (inl refl))) (openings_are l x args e (rest_good a args g))

  abbrev Within : List Predication → Type 0
  Within es = (e : Predication) → In e es → In e m.eps

  rest_within : (e : Predication) (es : List Predication) → Within (e ∷ es) → Within es
  rest_within e es w d i = w d (inr i)

  all_openings : (es : List Predication) → Within es → flat_map (openings_in k) (map (moved_ep to) es) ≡ flat_map (openings_from m.vars ns) es
  all_openings [] w = refl
  all_openings (e ∷ es) w =
      ap₂ (λ (xs ys : List Opening). xs ++ ys) (openings_are (to e.label) (slice_index ns e.label) e.args (label_is e (w e (inl refl))) (λ a i. good e a (w e (inl refl)) i)) (all_openings es (rest_within e es w))

  all_labels : (es : List Predication) → Within es → map (λ (e : Predication). e.label) (map (moved_ep to) es) ≡ map (label_from ns) es
  all_labels [] w = refl
  all_labels (e ∷ es) w = ap₂ (λ (x : ℕ) (xs : List ℕ). x ∷ xs) (label_is e (w e (inl refl))) (all_labels es (rest_within e es w))

  -- quantifiers
  filler_hole : (x : Filler) → Good x → hole_at k (variable_in (moved_filler to x)) ≡ handle_of m.vars ns (variable_in x)
  filler_hole (of_text t) g = refl
  filler_hole (of_var v) g = by_test (is_handle k (to v)) (is_handle_in m.vars v) (g.sort v refl)
    where
      by_test : (b c : Bool) → b ≡ c → (if b then Some (to v) else None) ≡ (if c then Some (slice_index ns v) else None)
      by_test true true q = ap Some (sym (g.number v refl))
      by_test false false q = refl
      by_test true false q = absurd (cc)
      by_test false true q = absurd (cc)

  hole_is : (role : List ℕ) (args : List Argument) → AllGood args → hole_at k (at_role role (map (moved_argument to) args)) ≡ handle_of m.vars ns (at_role role args)
  hole_is role [] g = refl
  hole_is role (a ∷ args) g = by_test (bytes_eq a.role role) (hole_is role args (rest_good a args g))
    where
      by_test : (b : Bool) → hole_at k (at_role role (map (moved_argument to) args)) ≡ handle_of m.vars ns (at_role role args)
          → hole_at k (if b then variable_in (moved_filler to a.filler) else at_role role (map (moved_argument to) args)) ≡ handle_of m.vars ns (if b then variable_in a.filler else at_role role args)
      by_test true r = filler_hole a.filler (g a (inl refl))
      by_test false r = r

  filler_number : (x : Filler) → Good x → variable_in (moved_filler to x) ≡ number_at ns (variable_in x)
  filler_number (of_text t) g = refl
  filler_number (of_var v) g = ap Some (sym (g.number v refl))

  bound_is : (role : List ℕ) (args : List Argument) → AllGood args → at_role role (map (moved_argument to) args) ≡ number_at ns (at_role role args)
  bound_is role [] g = refl
  bound_is role (a ∷ args) g = by_test (bytes_eq a.role role) (bound_is role args (rest_good a args g))
    where
      by_test : (b : Bool) → at_role role (map (moved_argument to) args) ≡ number_at ns (at_role role args)
          → (if b then variable_in (moved_filler to a.filler) else at_role role (map (moved_argument to) args)) ≡ number_at ns (if b then variable_in a.filler else at_role role args)
      by_test true r = filler_number a.filler (g a (inl refl))
      by_test false r = r

  with_is : (e : Predication) (r b : Option ℕ) → to e.label ≡ slice_index ns e.label → at_role (codes "arg0") (map (moved_argument to) e.args) ≡ number_at ns (at_role (codes "arg0") e.args)
      → quantifier_with (moved_ep to e) r b ≡ quantifier_by ns e r b
  with_is e (Some r) (Some b) l x = λ j. Some (record { label = l j; rstr = r; body = b; bound = x j })
  with_is e (Some r) None l x = refl
  with_is e None b l x = refl

  quantifier_is : (e : Predication) → In e m.eps → quantifier_of k (moved_ep to e) ≡ quantifier_from m.vars ns e
  quantifier_is e i =
      let g : AllGood e.args = λ a j. good e a i j in
      with_is e _ _ (label_is e i) (bound_is (codes "arg0") e.args g)
      ∙ ap₂ (quantifier_by ns e) (hole_is (codes "rstr") e.args g) (hole_is (codes "body") e.args g)

  all_quantifiers : (es : List Predication) → Within es → flat_map (λ (e : Predication). listed (quantifier_of k e)) (map (moved_ep to) es) ≡ flat_map (λ (e : Predication). listed (quantifier_from m.vars ns e)) es
  all_quantifiers [] w = refl
  all_quantifiers (e ∷ es) w = ap₂ (λ (xs ys : List Quantifier). xs ++ ys) (ap listed (quantifier_is e (w e (inl refl)))) (all_quantifiers es (rest_within e es w))

  -- bindings
  abbrev bound_to : Quantifier → ℕ → Binding
  bound_to q l = record { rstr = q.rstr; body = q.body; label = l }

  abbrev joined : Constraint → Qeq
  joined c = record { left = c.left; right = c.right }

  is_same : (x : ℕ) (f : Filler) → Good f → is_variable x (moved_filler to f) ≡ is_number ns x f
  is_same x (of_text t) g = refl
  is_same x (of_var v) g = ap (λ (n : ℕ). n == x) (sym (g.number v refl))

  has_same : (x : ℕ) (args : List Argument) → AllGood args → has_variable x (map (moved_argument to) args) ≡ has_number ns x args
  has_same x [] g = refl
  has_same x (a ∷ args) g = ap₂ (λ (b c : Bool). if b then b else c) (is_same x a.filler (g a (inl refl))) (has_same x args (rest_good a args g))

  abbrev bound_by : Quantifier → ℕ → ℕ → ℕ × Predication → List Binding
  bound_by q x own s = if (not (s.0 == own) && has_variable x s.1.args) then bound_to q s.1.label ∷ [] else []

  with_all : (q : Quantifier) (x own at : ℕ) (es : List Predication) → Within es → flat_map (bound_by q x own) (placed at (map (moved_ep to) es)) ≡ bindings_with ns q x own at es
  with_all q x own at [] w = refl
  with_all q x own at (e ∷ es) w =
      ap₂ (λ (xs ys : List Binding). xs ++ ys) (by_test _ _ (ap (λ (b : Bool). not (at == own) && b) (has_same x e.args (λ a i. good e a (w e (inl refl)) i)))) (with_all q x own (at + 1) es (rest_within e es w))
    where
      by_test : (b c : Bool) → b ≡ c → (if b then bound_to q (to e.label) ∷ [] else []) ≡ (if c then bound_to q (slice_index ns e.label) ∷ [] else [])
      by_test true true d = let l = label_is e (w e (inl refl)) in (λ j. bound_to q (l j) ∷ [])
      by_test false false d = refl
      by_test true false d = absurd (cc)
      by_test false true d = absurd (cc)

  by_is : (q : Quantifier) (b : Option ℕ) (own : ℕ) → bindings_of q b own (placed 0 k.eps) ≡ bindings_by ns q b own m.eps
  by_is q None own = refl
  by_is q (Some x) own = with_all q x own 0 m.eps (λ e i. i)

  of_is : (o : Option Quantifier) (own : ℕ) → flat_map (λ (q : Quantifier). bindings_of q q.bound own (placed 0 k.eps)) (listed o) ≡ bindings_of_quantifier ns o own m.eps
  of_is None own = refl
  of_is (Some q) own = append-nil _ ∙ by_is q q.bound own

  all_bindings : (at : ℕ) (es : List Predication) → Within es → flat_map (bindings_at k (placed 0 k.eps)) (placed at (map (moved_ep to) es)) ≡ bindings_from m.vars ns m.eps at es
  all_bindings at [] w = refl
  all_bindings at (e ∷ es) w =
      ap₂ (λ (xs ys : List Binding). xs ++ ys)
      (ap (λ (o : Option Quantifier). flat_map (λ (q : Quantifier). bindings_of q q.bound at (placed 0 k.eps)) (listed o)) (quantifier_is e (w e (inl refl))) ∙ of_is (quantifier_from m.vars ns e) at)
      (all_bindings (at + 1) es (rest_within e es w))

  all_qeqs : (cs : List Constraint) → All (IsConstraint (length m.vars)) cs → map joined (map (moved_constraint to) cs) ≡ map (qeq_from ns) cs
  all_qeqs [] a = refl
  all_qeqs (c ∷ cs) a =
      let is = All-head (IsConstraint (length m.vars)) c cs a in
      let l = sym (numbered c.left is.left) in
      let r = sym (numbered c.right is.right) in
      let rest = all_qeqs cs (All-tail (IsConstraint (length m.vars)) c cs a) in
      λ j. record { left = l j; right = r j } ∷ rest j

  pub frame_is : (f : Frame) → f.top ≡ slice_index ns m.top → f.labels ≡ map (label_from ns) m.eps → f.openings ≡ flat_map (openings_from m.vars ns) m.eps
      → f.quantifiers ≡ flat_map (λ (e : Predication). listed (quantifier_from m.vars ns e)) m.eps → f.bindings ≡ bindings_from m.vars ns m.eps 0 m.eps
      → f.qeqs ≡ map (qeq_from ns) m.hcons → f ≡ frame m
  frame_is f top labels openings quantifiers bindings qeqs =
      let t = top ∙ numbered m.top valid.top in
      let l = labels ∙ sym (all_labels m.eps (λ e i. i)) in
      let o = openings ∙ sym (all_openings m.eps (λ e i. i)) in
      let q = quantifiers ∙ sym (all_quantifiers m.eps (λ e i. i)) in
      let b = bindings ∙ sym (all_bindings 0 m.eps (λ e i. i)) in
      let c = qeqs ∙ sym (all_qeqs m.hcons valid.hcons) in
      λ j. record { top = t j; labels = l j; openings = o j; quantifiers = q j; bindings = b j; qeqs = c j }
