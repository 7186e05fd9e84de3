-- A text has one meaning but for the numbers of the variables.
use Rattle.std.proofs.Common.{ℕ, suc, ◌≡◌, ◌+◌, ◌<◌, ◌≤◌, inl, inr, ◌∙◌, Bool, true, false, cond, Option, Some, None, List, [], ◌∷◌, ◌++◌, length, map, get_or, codes, refl, sym, ap, subst, length-append, arith}
use Rattle.std.specs.Prelude.{slice_index}
use Rattle.std.specs.List.{Contains, AllZip, slice_get}
use Rattle.std.specs.Str.{bytes_eq}
use Rattle.std.specs.Char.{is_ascii_digit}
use Rattle.std.proofs.lemmas.Bool.{false≢true}
use Rattle.std.proofs.lemmas.Option.{same_Some, slice_get_within, slice_get-get_or, get_or_from_slice_get}
use Rattle.std.proofs.lemmas.Slice.Eq.{bytes_eq-Decides}
use Rattle.std.proofs.lemmas.List.{length-map, get_or-map, append_cancel_right}
use Rattle.std.proofs.lemmas.List.Elements.{Contains-append_left, Contains-append_right, Contains-append_cases}
use Rattle.mrs_model.specs.declared.Extent.{Extent}
use Rattle.mrs_model.specs.Meanings.{Property, Variable, Filler as Filled, of_var, of_text, Argument, Predication, Constraint, Meaning}
use Rattle.mrs_model.specs.Valid.{Rise}
use Rattle.mrs_model.specs.Renaming.{renamed_filler, renamed_argument, renamed_constraint, IsOneToOne}
use Rattle.mrs_spelling.specs.declared.kinds.Kind.TheVariants.{Filler, Text}
use Rattle.mrs_reading.specs.Meaning.{Piece, low, Is, Normal, bare, with_rel, number_after, AreDigits, Spans, IsPredOf, IsSpanOf, Filling, Known, predications, IsFilledBy, by_variable, by_text, AreArgumentsOf, IsPredicationOf, Linked, links, IsConstraintOf, is_high, is_handle_rel, is_low, is_left, is_variable_rel, is_right, IsMeaningOf}
use Rattle.mrs_reading.specs.Laws.{renumbered, IsRenumbering}
use Rattle.mrs_reading.specs.Inner.Stages.{stage_after, begun, outside, kinds_in}
use Rattle.mrs_reading.proofs.Predicated.{nothing_in, contains_map, map_contains}
use Rattle.mrs_reading.proofs.Moves.{one_top, one_index, first_or_other, is_first, is_other}
use Rattle.mrs_reading.proofs.Rises.{rising_one}
use Rattle.mrs_reading.proofs.Linking.{IsWhole}
use Rattle.mrs_reading.proofs.Validity.{IsFine, some_is, handles_ok, lefts_ok}

-- where a key stands
abbrev place_in : List (List ℕ) → List ℕ → ℕ
place_in [] k = 0
place_in (x ∷ xs) k = cond (bytes_eq x k) 0 (suc (place_in xs k))

placed : (xs : List (List ℕ)) (k : List ℕ) → Contains xs k → slice_get xs (place_in xs k) ≡ Some k
placed [] k h = absurd (nothing_in k h)
placed (x ∷ xs) k h = by (bytes_eq x k) refl (placed xs k)
  where
    by : (b : Bool) → bytes_eq x k ≡ b → (Contains xs k → slice_get xs (place_in xs k) ≡ Some k) → slice_get (x ∷ xs) (cond b 0 (suc (place_in xs k))) ≡ Some k
    by true e f = ap Some ((bytes_eq-Decides x k).0 e)
    by false e f = elim (first_or_other x xs k h) [
      | inl d ↦ absurd (false≢true (sym e ∙ (bytes_eq-Decides x k).1 d))
      | inr d ↦ f d
    ]

-- as many keys as there are, where each stands once
abbrev Once : List (List ℕ) → Type 0
Once xs = (i j : ℕ) (k : List ℕ) → slice_get xs i ≡ Some k → slice_get xs j ≡ Some k → i ≡ j

record Split (xs : List (List ℕ)) (x : List ℕ) : Type 0 where
  pub front : List (List ℕ)
  pub back : List (List ℕ)
  pub is : xs ≡ front ++ x ∷ back

split : (xs : List (List ℕ)) (x : List ℕ) → Contains xs x → Split xs x
split [] x h = absurd (nothing_in x h)
split (y ∷ xs) x h = elim (first_or_other y xs x h) [
  | inl e ↦ record { front = []; back = xs; is = ap (λ z. z ∷ xs) e }
  | inr k ↦ (let w = split xs x k in record { front = y ∷ w.front; back = w.back; is = ap (λ z. y ∷ z) w.is })
]

at_place : (xs : List (List ℕ)) (k : List ℕ) → Contains xs k → (i : ℕ) × (slice_get xs i ≡ Some k)
at_place xs k h = (h.0, slice_get-get_or xs h.0 k h.1 ∙ ap Some h.2)

not_more : (xs ys : List (List ℕ)) → Once xs → ((k : List ℕ) → Contains xs k → Contains ys k) → length xs ≤ length ys
not_more [] ys once h = omega arith
not_more (x ∷ xs) ys once h =
    let w = split ys x (h x (is_first x xs)) in
    let f : (k : List ℕ) → Contains xs k → Contains (w.front ++ w.back) k = λ k c. elim (Contains-append_cases w.front (x ∷ w.back) k (subst (λ (z : List (List ℕ)). Contains z k) w.is (h k (is_other x xs k c)))) [
      | inl a ↦ Contains-append_left w.front w.back k a
      | inr a ↦ (elim (first_or_other x w.back k a) [
        | inl e ↦ absurd (let p = at_place xs k c in let q : 0 ≡ suc p.0 = once 0 (suc p.0) k (ap Some e) p.1 in omega (arith, q))
        | inr b ↦ Contains-append_right w.front w.back k b
      ])
    ] in
    let r = not_more xs (w.front ++ w.back) (λ i j k p q. let e : suc i ≡ suc j = once (suc i) (suc j) k p q in omega (arith, e)) f in
    let a = length-append w.front w.back in
    let b : length ys ≡ length w.front + length (x ∷ w.back) = ap length w.is ∙ length-append w.front (x ∷ w.back) in
    omega (arith, r, a, b)

-- predicates and spans are told in one way
one_normal : (t p q : List ℕ) → Normal t p → Normal t q → p ≡ q
one_normal _ _ q (bare t n) h = other t q n h
  where
    other : (t q : List ℕ) → ((front : List ℕ) → t ≡ front ++ codes "_rel" → ⊥) → Normal t q → t ≡ q
    other _ _ n (bare t m) = refl
    other _ _ n (with_rel front q h) = absurd (n front refl)
one_normal _ _ q (with_rel front p h) k = other (front ++ codes "_rel") q refl k (λ r. one_normal front p q h r)
  where
    other : (t q : List ℕ) → t ≡ front ++ codes "_rel" → Normal t q → (Normal front q → p ≡ q) → p ≡ q
    other _ _ e (bare t m) go = absurd (m front e)
    other _ _ e (with_rel f q r) go = go (subst (λ (z : List ℕ). Normal z q) (append_cancel_right f front (codes "_rel") e) r)

colon_first : (a b c d : List ℕ) → AreDigits a → AreDigits c → a ++ 58 ∷ b ≡ c ++ 58 ∷ d → (a ≡ c) × (b ≡ d)
colon_first [] b [] d h k e = (refl, cc)
colon_first [] b (x ∷ c) d h k e = absurd (let f : 58 ≡ x = cc in false≢true (ap is_ascii_digit f ∙ k.0))
colon_first (x ∷ a) b [] d h k e = absurd (let f : x ≡ 58 = cc in false≢true (sym (ap is_ascii_digit f) ∙ h.0))
colon_first (x ∷ a) b (y ∷ c) d h k e = let f : x ≡ y = cc in let w = colon_first a b c d h.1 k.1 (cc) in (let g = w.0 in cc, w.1)

same_extent : (e f : Extent) → e.from ≡ f.from → e.to ≡ f.to → e ≡ f
same_extent e f a b = rw (a, b) refl

one_span : (t : List ℕ) (e f : Extent) → Spans t e → Spans t f → e ≡ f
one_span t e f h k =
    let w = colon_first h.a h.b k.a k.b h.from.digits k.from.digits (sym h.is ∙ k.is) in
    same_extent e f (h.from.is ∙ ap (number_after 0) w.0 ∙ sym k.from.is) (h.to.is ∙ ap (number_after 0) w.1 ∙ sym k.to.is)

one_mark : (o : Option Piece) (s t : Option Extent) → IsSpanOf o s → IsSpanOf o t → s ≡ t
one_mark None s t h k = h ∙ sym k
one_mark (Some p) None None h k = refl
one_mark (Some p) None (Some f) h k = absurd (h f k)
one_mark (Some p) (Some e) None h k = absurd (k e h)
one_mark (Some p) (Some e) (Some f) h k = ap Some (one_span p.text e f h k)

zip_map : {C A B : Type 0} (f : A → B) (R : C → A → Type 0) (S : C → B → Type 0) (cs : List C) (xs : List A) (ys : List B) → ((c : C) (x : A) (y : B) → R c x → S c y → f x ≡ y) → AllZip R cs xs → AllZip S cs ys → map f xs ≡ ys
zip_map f R S [] [] [] g h k = refl
zip_map f R S [] [] (y ∷ ys) g h k = absurd k
zip_map f R S [] (x ∷ xs) ys g h k = absurd h
zip_map f R S (c ∷ cs) [] ys g h k = absurd h
zip_map f R S (c ∷ cs) (x ∷ xs) [] g h k = absurd k
zip_map f R S (c ∷ cs) (x ∷ xs) (y ∷ ys) g h k = let a = g c x y h.0 k.0 in let b = zip_map f R S cs xs ys g h.1 k.1 in λ i. a i ∷ b i

same_property : (p q : Property) → p.name ≡ q.name → p.value ≡ q.value → p ≡ q
same_property p q a b = rw (a, b) refl

same_variable : (v w : Variable) → v.sort ≡ w.sort → v.props ≡ w.props → v ≡ w
same_variable v w a b = rw (a, b) refl

same_argument : (a b : Argument) → a.role ≡ b.role → a.filler ≡ b.filler → a ≡ b
same_argument a b e f = rw (e, f) refl

same_predication : (a b : Predication) → a.pred ≡ b.pred → a.label ≡ b.label → a.args ≡ b.args → a.span ≡ b.span → a ≡ b
same_predication a b e f g h = rw (e, f, g, h) refl

same_constraint : (a b : Constraint) → a.left ≡ b.left → a.rel ≡ b.rel → a.right ≡ b.right → a ≡ b
same_constraint a b e f g = rw (e, f, g) refl

roles_map : (to : List ℕ) (args : List Argument) → map (λ (a : Argument). a.role) (map (renamed_argument to) args) ≡ map (λ (a : Argument). a.role) args
roles_map to [] = refl
roles_map to (a ∷ args) = ap (λ z. a.role ∷ z) (roles_map to args)

zip_with : {A B : Type 0} (R : A → B → Type 0) (P : A → Type 0) (xs : List A) (ys : List B) → ((x : A) → Contains xs x → P x) → AllZip R xs ys → AllZip (λ x y. R x y × P x) xs ys
zip_with R P [] [] f z = tt
zip_with R P [] (y ∷ ys) f z = absurd z
zip_with R P (x ∷ xs) [] f z = absurd z
zip_with R P (x ∷ xs) (y ∷ ys) f z = ((z.0, f x (is_first x xs)), zip_with R P xs ys (λ w c. f w (is_other x xs w c)) z.1)

abbrev pub numbers : List (List ℕ) → List (List ℕ) → List ℕ
numbers a b = map (place_in b) a

abbrev no_variable : Variable
no_variable = record { sort = []; props = [] }

module _ (ps : List Piece) (m k : Meaning) (h : IsMeaningOf ps m) (g : IsMeaningOf ps k) (st : stage_after (Some begun) (kinds_in ps) ≡ Some outside) (fine : (p : Piece) → Contains ps p → IsFine p) where
  key_in : (key : List ℕ) → Contains h.keys key → Contains g.keys key
  key_in key c = (g.all key).1 ((h.all key).0 c)

  moved_key : (v : ℕ) (key : List ℕ) → slice_get h.keys v ≡ Some key → slice_get g.keys (slice_index (numbers h.keys g.keys) v) ≡ Some key
  moved_key v key i =
      let l = slice_get_within h.keys v key i in
      let e : slice_index (numbers h.keys g.keys) v ≡ place_in g.keys key = get_or-map (place_in g.keys) h.keys v [] 0 l ∙ ap (place_in g.keys) (get_or_from_slice_get h.keys v key [] i) in
      ap (slice_get g.keys) e ∙ placed g.keys key (key_in key (v, l, get_or_from_slice_get h.keys v key key i))

  same_number : (p : Piece) (v w : ℕ) → Is h.keys p v → Is g.keys p w → slice_index (numbers h.keys g.keys) v ≡ w
  same_number p v w i j = g.distinct (slice_index (numbers h.keys g.keys) v) w (low p) (moved_key v (low p) i) j

  key_at : (v : ℕ) → v < length (numbers h.keys g.keys) → slice_get h.keys v ≡ Some (get_or h.keys v [])
  key_at v l = let e = length-map h.keys (place_in g.keys) in slice_get-get_or h.keys v [] (omega (arith, l, e))

  as_many : length k.vars ≡ length m.vars
  as_many =
      let a = not_more h.keys g.keys h.distinct key_in in
      let b = not_more g.keys h.keys g.distinct (λ key c. (h.all key).1 ((g.all key).0 c)) in
      let e = h.even in
      let f = g.even in
      omega (arith, a, b, e, f)

  within : (v : ℕ) → v < length (numbers h.keys g.keys) → slice_index (numbers h.keys g.keys) v < length k.vars
  within v l =
      let a = slice_get_within g.keys (slice_index (numbers h.keys g.keys) v) (get_or h.keys v []) (moved_key v (get_or h.keys v []) (key_at v l)) in
      let f = g.even in
      omega (arith, a, f)

  apart : IsOneToOne (numbers h.keys g.keys)
  apart v w l n e =
      let a = moved_key v (get_or h.keys v []) (key_at v l) in
      let b = moved_key w (get_or h.keys w []) (key_at w n) in
      let c : get_or h.keys v [] ≡ get_or h.keys w [] = same_Some (get_or h.keys v []) (get_or h.keys w []) (sym a ∙ ap (slice_get g.keys) e ∙ b) in
      h.distinct v w (get_or h.keys v []) (key_at v l) (key_at w n ∙ ap Some (sym c))

  kept : (v : ℕ) → v < length (numbers h.keys g.keys) → slice_get k.vars (slice_index (numbers h.keys g.keys) v) ≡ slice_get m.vars v
  kept v l =
      let n = length-map h.keys (place_in g.keys) in
      let e = h.even in
      let u = slice_index (numbers h.keys g.keys) v in
      let x = get_or m.vars v no_variable in
      let y = get_or k.vars u no_variable in
      let a : slice_get m.vars v ≡ Some x = slice_get-get_or m.vars v no_variable (omega (arith, l, n, e)) in
      let b : slice_get k.vars u ≡ Some y = slice_get-get_or k.vars u no_variable (within v l) in
      let p = h.vars v (get_or h.keys v []) x (key_at v l) a in
      let q = g.vars u (get_or h.keys v []) y (moved_key v (get_or h.keys v []) (key_at v l)) b in
      let r : x.props ≡ y.props = rising_one (λ (z : Property). z.name) x.props y.props p.order q.order (λ z c. (q.props z).1 ((p.props z).0 c)) (λ z c. (p.props z).1 ((q.props z).0 c)) in
      b ∙ ap Some (sym (same_variable x y (p.sort ∙ sym q.sort) r)) ∙ sym a

  top_same : slice_index (numbers h.keys g.keys) m.top ≡ k.top
  top_same =
      let r = one_top ps outside st h.top.piece g.top.piece h.top.there g.top.there h.top.kind_is g.top.kind_is in
      same_number g.top.piece m.top k.top (subst (λ (z : Piece). Is h.keys z m.top) r h.top.same) g.top.same

  index_same : slice_index (numbers h.keys g.keys) m.index ≡ k.index
  index_same =
      let r = one_index ps outside st h.index.piece g.index.piece h.index.there g.index.there h.index.kind_is g.index.kind_is in
      same_number g.index.piece m.index k.index (subst (λ (z : Piece). Is h.keys z m.index) r h.index.same) g.index.same

  filler_same : (p : Piece) (a b : Filled) → IsFilledBy h.keys p a → IsFilledBy g.keys p b → renamed_filler (numbers h.keys g.keys) a ≡ b
  filler_same p _ _ (by_variable n e i) (by_variable o f j) = ap of_var (same_number p n o i j)
  filler_same p _ _ (by_variable n e i) (by_text t f j) = absurd (let q : Filler ≡ Text = sym e ∙ f in cc)
  filler_same p _ _ (by_text t e i) (by_variable o f j) = absurd (let q : Text ≡ Filler = sym e ∙ f in cc)
  filler_same p _ _ (by_text t e i) (by_text s f j) = ap of_text (i ∙ sym j)

  args_same : (fills : List Filling) (a b : List Argument) → AreArgumentsOf h.keys fills a → AreArgumentsOf g.keys fills b → map (renamed_argument (numbers h.keys g.keys)) a ≡ b
  args_same fills a b x y =
      rising_one (λ (z : Argument). z.role) (map (renamed_argument (numbers h.keys g.keys)) a) b (subst Rise (sym (roles_map (numbers h.keys g.keys) a)) x.order) y.order
      (λ z c.
      let w = map_contains (renamed_argument (numbers h.keys g.keys)) a z c in
      let u = x.each w.0 w.1 in
      let v = y.all u.filling u.there (λ r. u.other (sym u.role ∙ r)) in
      subst (Contains b) (sym (same_argument (renamed_argument (numbers h.keys g.keys) w.0) v.argument (sym u.role ∙ sym v.role) (filler_same u.filling.by w.0.filler v.argument.filler u.filler v.filler)) ∙ w.2) v.there)
      (λ z c.
      let u = y.each z c in
      let v = x.all u.filling u.there (λ r. u.other (sym u.role ∙ r)) in
      subst (Contains (map (renamed_argument (numbers h.keys g.keys)) a)) (same_argument (renamed_argument (numbers h.keys g.keys) v.argument) z (v.role ∙ u.role) (filler_same u.filling.by v.argument.filler z.filler v.filler u.filler))
      (contains_map (renamed_argument (numbers h.keys g.keys)) a v.argument v.there))

  predication_same : (c : Known) (e f : Predication) → IsPredicationOf h.keys c e → IsPredicationOf g.keys c f → renumbered (numbers h.keys g.keys) e ≡ f
  predication_same c e f x y =
      let p = same_Some x.piece y.piece (sym x.first ∙ y.first) in
      let l = x.label in
      same_predication (renumbered (numbers h.keys g.keys) e) f (one_normal _ e.pred f.pred x.pred (subst (λ (z : Piece). IsPredOf z f.pred) (sym p) y.pred))
      (same_number l.filling.by e.label f.label (l.same l.filling l.there l.role) (y.label.same l.filling l.there l.role)) (args_same c.fills e.args f.args x.args y.args) (one_mark c.mark e.span f.span x.span y.span)

  constraint_same : (l : Linked) (c d : Constraint) → IsConstraintOf h.keys l c × IsWhole l → IsConstraintOf g.keys l d → renamed_constraint (numbers h.keys g.keys) c ≡ d
  constraint_same l c d x y =
      let w = x.1.first_there in
      same_constraint (renamed_constraint (numbers h.keys g.keys) c) d
      (same_number w.0 c.left d.left (some_is l.ends.first w.0 (λ q. Is h.keys q c.left) w.1 x.0.left) (some_is l.ends.first w.0 (λ q. Is g.keys q d.left) w.1 y.left))
      (x.0.rel ∙ sym y.rel) (same_number l.second c.right d.right x.0.right y.right)

  pub renumbering : IsRenumbering m k (numbers h.keys g.keys)
  renumbering = record {
    vars = record { every = length-map h.keys (place_in g.keys) ∙ sym h.even; onto = as_many; within = within; one_to_one = apart; kept = kept };
    top = top_same;
    index = index_same;
    eps = zip_map (renumbered (numbers h.keys g.keys)) (IsPredicationOf h.keys) (IsPredicationOf g.keys) (predications ps) m.eps k.eps predication_same h.eps g.eps;
    hcons = zip_map (renamed_constraint (numbers h.keys g.keys)) (λ l c. IsConstraintOf h.keys l c × IsWhole l) (IsConstraintOf g.keys) (links is_high is_handle_rel is_low ps) m.hcons k.hcons constraint_same
        (zip_with (IsConstraintOf h.keys) IsWhole (links is_high is_handle_rel is_low ps) m.hcons (handles_ok ps m h st fine) h.hcons) g.hcons;
    icons = zip_map (renamed_constraint (numbers h.keys g.keys)) (λ l c. IsConstraintOf h.keys l c × IsWhole l) (IsConstraintOf g.keys) (links is_left is_variable_rel is_right ps) m.icons k.icons constraint_same
        (zip_with (IsConstraintOf h.keys) IsWhole (links is_left is_variable_rel is_right ps) m.icons (lefts_ok ps m h st fine) h.icons) g.icons;
  }
