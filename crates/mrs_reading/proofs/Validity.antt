-- The MRS of a text is valid.
use Rattle.std.proofs.Common.{◌≡◌, ◌∙◌, ◌<◌, inl, inr, Bool, true, false, ℕ, List, [], ◌∷◌, map, Option, Some, IfSome, refl, ap, sym, subst, length, get_or, codes, arith}
use Rattle.std.specs.List.{All, Any, AllZip, Contains, slice_get}
use Rattle.std.specs.Str.{bytes_eq, encode_utf8_all}
use Rattle.std.proofs.lemmas.Bool.{false≢true}
use Rattle.std.proofs.lemmas.Option.{slice_get_within, slice_get-get_or}
use Rattle.std.proofs.lemmas.Slice.Eq.{bytes_eq-Decides}
use Rattle.std.proofs.lemmas.List.Elements.{All-weaker, All-contains_itself, Contains-get_or}
use Rattle.mrs_model.specs.Meanings.{Variable, Filler as Filled, of_var, Argument, Predication, Constraint, Meaning}
use Rattle.mrs_model.specs.Texts.{IsName, IsSort}
use Rattle.mrs_model.specs.Valid.{IsProperty, IsVariable, IsFiller, IsArgument, IsPredication, IsConstraint, StandsIn, IsEnd, Stands, IsValid}
use Rattle.mrs_spelling.specs.declared.kinds.Kind.{Kind}
use Rattle.mrs_spelling.specs.declared.kinds.Kind.TheVariants.{Top, Index, PropName, PropValue, Role, Filler, Text, High, HandleRel, Low, Left, VariableRel, Right}
use Rattle.mrs_spelling.specs.Conditions.{nothing_before}
use Rattle.mrs_spelling.specs.Reading.{Tok}
use Rattle.mrs_reading.specs.Meaning.{Piece, piece_of, low, is_variable, letters_of, Is, Filling, Known, nothing_known, predications, bare_text, IsFilledBy, by_variable, by_text, IsPredicationOf, Linked, links, no_ends, IsConstraintOf, is_top, is_index, is_high, is_handle_rel, is_low, is_left, is_variable_rel, is_right, IsMeaningOf}
use Rattle.mrs_reading.specs.Inner.Stages.{stage_after, begun, outside, kinds_in}
use Rattle.mrs_reading.proofs.Predicated.{map_contains}
use Rattle.mrs_reading.proofs.Texting.{Wanted}
use Rattle.mrs_reading.proofs.Valued.{name_is, sort_is, pred_is}
use Rattle.mrs_reading.proofs.Moves.{in_list, one_top, one_index, is_first, is_other, first_or_other}
use Rattle.mrs_reading.proofs.Standing.{filler_placed, roles_named, given_named}
use Rattle.mrs_reading.proofs.Linking.{IsWhole, links_whole, first_linked, second_linked, waits_handle, told_handle, handle_ends, waits_left, told_left, left_ends}

-- lists
zip_length : {A B : Type 0} (R : A → B → Type 0) (xs : List A) (ys : List B) → AllZip R xs ys → length xs ≡ length ys
zip_length R [] [] z = refl
zip_length R [] (y ∷ ys) z = absurd z
zip_length R (x ∷ xs) [] z = absurd z
zip_length R (x ∷ xs) (y ∷ ys) z = let e = zip_length R xs ys z.1 in omega (arith, e)

zip_left : {A B : Type 0} (R : A → B → Type 0) (xs : List A) (ys : List B) (x : A) → AllZip R xs ys → Contains xs x → (y : B) × Contains ys y × R x y
zip_left R [] [] x z h = absurd (let l = h.1 in omega (arith, l))
zip_left R [] (y ∷ ys) x z h = absurd z
zip_left R (a ∷ xs) [] x z h = absurd z
zip_left R (a ∷ xs) (y ∷ ys) x z h = elim (first_or_other a xs x h) [
  | inl e ↦ (y, is_first y ys, subst (λ w. R w y) e z.0)
  | inr k ↦ (let r = zip_left R xs ys x z.1 k in (r.0, is_other y ys r.0 r.1, r.2))
]

zip_right : {A B : Type 0} (R : A → B → Type 0) (xs : List A) (ys : List B) (y : B) → AllZip R xs ys → Contains ys y → (x : A) × Contains xs x × R x y
zip_right R [] [] y z h = absurd (let l = h.1 in omega (arith, l))
zip_right R [] (b ∷ ys) y z h = absurd z
zip_right R (x ∷ xs) [] y z h = absurd z
zip_right R (x ∷ xs) (b ∷ ys) y z h = elim (first_or_other b ys y h) [
  | inl e ↦ (x, is_first x xs, subst (λ w. R x w) e z.0)
  | inr k ↦ (let r = zip_right R xs ys y z.1 k in (r.0, is_other x xs r.0 r.1, r.2))
]

all_of : {A : Type 0} (P : A → Type 0) (xs : List A) → ((x : A) → Contains xs x → P x) → All P xs
all_of P xs f = All-weaker (Contains xs) P f xs (All-contains_itself xs)

any_of : {A : Type 0} (P : A → Type 0) (xs : List A) (x : A) → Contains xs x → P x → Any P xs
any_of P xs x c p = (c.0, x, c.1, c.2, p)

-- the texts of tokens
abbrev has_name : Kind → Bool
has_name PropName = true
has_name PropValue = true
has_name Role = true
has_name HandleRel = true
has_name VariableRel = true
has_name _ = false

pub record IsFine (p : Piece) : Type 0 where
  pub name : has_name p.kind ≡ true → IsName (low p)
  pub sort : is_variable p.kind ≡ true → IsSort (letters_of (low p))

fine_token : (k : Kind) (s : List ℕ) → Wanted k s → IsFine (record { kind = k; text = encode_utf8_all s })
fine_token PropName s w = record { name = λ e. name_is s w; sort = λ e. absurd (cc) }
fine_token PropValue s w = record { name = λ e. name_is s w; sort = λ e. absurd (cc) }
fine_token Role s w = record { name = λ e. name_is s w; sort = λ e. absurd (cc) }
fine_token HandleRel s w = record { name = λ e. name_is s w; sort = λ e. absurd (cc) }
fine_token VariableRel s w = record { name = λ e. name_is s w; sort = λ e. absurd (cc) }
fine_token Top s w = record { name = λ e. absurd (cc); sort = λ e. sort_is s w }
fine_token Index s w = record { name = λ e. absurd (cc); sort = λ e. sort_is s w }
fine_token Filler s w = record { name = λ e. absurd (cc); sort = λ e. sort_is s w }
fine_token High s w = record { name = λ e. absurd (cc); sort = λ e. sort_is s w }
fine_token Low s w = record { name = λ e. absurd (cc); sort = λ e. sort_is s w }
fine_token Left s w = record { name = λ e. absurd (cc); sort = λ e. sort_is s w }
fine_token Right s w = record { name = λ e. absurd (cc); sort = λ e. sort_is s w }
fine_token _ s w = record { name = λ e. absurd (cc); sort = λ e. absurd (cc) }

pub fine_pieces : (es : List Tok) → ((e : Tok) → Contains es e → Wanted e.kind e.text) → (p : Piece) → Contains (map piece_of es) p → IsFine p
fine_pieces es f p c = let w = map_contains piece_of es p c in subst IsFine w.2 (fine_token w.0.kind w.0.text (f w.0 w.1))

list_name : (k : Kind) → in_list k ≡ true → has_name k ≡ true
list_name PropName e = refl
list_name PropValue e = refl
list_name _ e = absurd (cc)

handle_name : (k : Kind) → is_handle_rel k ≡ true → (has_name k ≡ true) × (is_high k ≡ false)
handle_name HandleRel e = (refl, refl)
handle_name _ e = absurd (cc)

left_name : (k : Kind) → is_variable_rel k ≡ true → (has_name k ≡ true) × (is_left k ≡ false)
left_name VariableRel e = (refl, refl)
left_name _ e = absurd (cc)

pub some_is : (o : Option Piece) (f : Piece) (P : Piece → Type 0) → o ≡ Some f → IfSome o P → P f
some_is o f P e h = subst (λ z. IfSome z P) e h

module _ (ps : List Piece) (m : Meaning) (h : IsMeaningOf ps m) (st : stage_after (Some begun) (kinds_in ps) ≡ Some outside) (fine : (p : Piece) → Contains ps p → IsFine p) where
  within : (p : Piece) (v : ℕ) → Is h.keys p v → v < length m.vars
  within p v i = let l = slice_get_within h.keys v (low p) i in let e = h.even in omega (arith, l, e)

  filler_ok : (p : Piece) (f : Filled) → IsFilledBy h.keys p f → IsFiller (length m.vars) f
  filler_ok p _ (by_variable n e i) = within p n i
  filler_ok p _ (by_text t e i) = tt

  key_at : (v : ℕ) → v < length m.vars → slice_get h.keys v ≡ Some (get_or h.keys v [])
  key_at v l = let e = h.even in slice_get-get_or h.keys v [] (omega (arith, l, e))

  key_there : (v : ℕ) → v < length m.vars → Contains h.keys (get_or h.keys v [])
  key_there v l = let e = h.even in Contains-get_or h.keys v [] (omega (arith, l, e))

  variable_ok : (v : Variable) → Contains m.vars v → IsVariable v
  variable_ok v c =
      let k = get_or h.keys c.0 [] in
      let q = (h.all k).0 (key_there c.0 c.1) in
      let a : slice_get m.vars c.0 ≡ Some v = slice_get-get_or m.vars c.0 v c.1 ∙ ap Some c.2 in
      let w = h.vars c.0 k v (key_at c.0 c.1) a in record {
        sort = subst IsSort (sym w.sort) (subst (λ z. IsSort (letters_of z)) q.same ((fine q.piece q.there).sort q.kind));
        props = all_of IsProperty v.props (λ p d. let g = given_named ps begun outside nothing_before (λ r t e. (fine r t).name (list_name r.kind e)) st (λ e. absurd (cc)) (record { key = k; name = p.name; value = p.value }) ((w.props p).0 d) in
            record { name = g.name; value = g.value });
        order = w.order;
      }

  predication_ok : (x : Predication) → Contains m.eps x → IsPredication (length m.vars) x
  predication_ok x c =
      let z = zip_right (IsPredicationOf h.keys) (predications ps) m.eps x h.eps c in
      let w = z.2 in
      let n = roles_named ps outside (λ p d e. (fine p d).name (ap has_name e)) st z.0 z.1 in record {
        pred = pred_is (bare_text w.piece.kind w.piece.text) x.pred w.pred;
        label = within w.label.filling.by x.label (w.label.same w.label.filling w.label.there w.label.role);
        args = all_of (IsArgument (length m.vars)) x.args (λ a d. let u = w.args.each a d in record { role = subst IsName u.role (n.fills u.filling u.there); not_label = u.other; filler = filler_ok u.filling.by a.filler u.filler });
        order = w.args.order;
      }

  constraint_ok : (first rel second : Kind → Bool) (cs : List Constraint) → ((l : Linked) → Contains (links first rel second ps) l → IsWhole l) → AllZip (IsConstraintOf h.keys) (links first rel second ps) cs → (c : Constraint) → Contains cs c → IsConstraint (length m.vars) c
  constraint_ok first rel second cs f z c d =
      let w = zip_right (IsConstraintOf h.keys) (links first rel second ps) cs c z d in
      let u = f w.0 w.1 in record {
        left = within u.first_there.0 c.left (some_is w.0.ends.first u.first_there.0 (λ q. Is h.keys q c.left) u.first_there.1 w.2.left);
        rel = subst IsName (sym w.2.rel) u.rel_named;
        right = within w.0.second c.right w.2.right;
      }

  pub handles_ok : (l : Linked) → Contains (links is_high is_handle_rel is_low ps) l → IsWhole l
  handles_ok = links_whole is_high is_handle_rel is_low waits_handle told_handle handle_ends ps outside (λ p c e. let w = handle_name p.kind e in ((fine p c).name w.0, w.1)) st

  pub lefts_ok : (l : Linked) → Contains (links is_left is_variable_rel is_right ps) l → IsWhole l
  lefts_ok = links_whole is_left is_variable_rel is_right waits_left told_left left_ends ps outside (λ p c e. let w = left_name p.kind e in ((fine p c).name w.0, w.1)) st

  -- two numbers of one token
  one_number : (p : Piece) (v w : ℕ) → Is h.keys p v → Is h.keys p w → v ≡ w
  one_number p v w i j = h.distinct v w (low p) i j

  filler_is : (p : Piece) (f : Filled) (v : ℕ) → p.kind ≡ Filler → Is h.keys p v → IsFilledBy h.keys p f → f ≡ of_var v
  filler_is p _ v k i (by_variable n e j) = ap of_var (one_number p n v j i)
  filler_is p _ v k i (by_text t e j) = absurd (let q : Filler ≡ Text = sym k ∙ e in cc)

  stands_in : (q : Piece) (v : ℕ) (c : Known) (f : Filling) (x : Predication) → q.kind ≡ Filler → Is h.keys q v → Contains c.fills f → f.by ≡ q → IsPredicationOf h.keys c x → StandsIn v x
  stands_in q v c f x k i d e w = by (bytes_eq f.role (codes "lbl")) refl
    where
      is : Is h.keys f.by v
      is = subst (λ (z : Piece). Is h.keys z v) (sym e) i

      by : (b : Bool) → bytes_eq f.role (codes "lbl") ≡ b → StandsIn v x
      by true g = inl (one_number f.by x.label v (w.label.same f d ((bytes_eq-Decides f.role (codes "lbl")).0 g)) is)
      by false g =
          let u = w.args.all f d (λ r. false≢true (sym g ∙ (bytes_eq-Decides f.role (codes "lbl")).1 r)) in
          inr (any_of (λ (a : Argument). a.filler ≡ of_var v) x.args u.argument u.there (filler_is f.by u.argument.filler v (ap (λ (z : Piece). z.kind) e ∙ k) is u.filler))

  in_predication : (q : Piece) (v : ℕ) → q.kind ≡ Filler → Is h.keys q v → Contains ps q → Any (StandsIn v) m.eps
  in_predication q v k i c =
      let p = filler_placed ps begun nothing_known st (λ e. absurd (cc)) q c k in
      let z = zip_left (IsPredicationOf h.keys) (predications ps) m.eps p.later.known h.eps p.later.there in
      any_of (StandsIn v) m.eps z.0 z.1 (stands_in q v p.later.known p.filling z.0 k i p.later.fills p.by z.2)

  at_first : (first rel second : Kind → Bool) (cs : List Constraint) (q : Piece) (v : ℕ) (l : Linked) → Contains (links first rel second ps) l → l.ends.first ≡ Some q → Is h.keys q v → AllZip (IsConstraintOf h.keys) (links first rel second ps) cs → Any (IsEnd v) cs
  at_first first rel second cs q v l c e i z =
      let w = zip_left (IsConstraintOf h.keys) (links first rel second ps) cs l z c in
      any_of (IsEnd v) cs w.0 w.1 (inl (one_number q w.0.left v (some_is l.ends.first q (λ r. Is h.keys r w.0.left) e w.2.left) i))

  at_second : (first rel second : Kind → Bool) (cs : List Constraint) (q : Piece) (v : ℕ) (l : Linked) → Contains (links first rel second ps) l → l.second ≡ q → Is h.keys q v → AllZip (IsConstraintOf h.keys) (links first rel second ps) cs → Any (IsEnd v) cs
  at_second first rel second cs q v l c e i z =
      let w = zip_left (IsConstraintOf h.keys) (links first rel second ps) cs l z c in
      any_of (IsEnd v) cs w.0 w.1 (inr (one_number q w.0.right v (subst (λ (r : Piece). Is h.keys r w.0.right) e w.2.right) i))

  stands_at : (k : Kind) (q : Piece) (v : ℕ) → q.kind ≡ k → is_variable k ≡ true → Is h.keys q v → Contains ps q → Stands m v
  stands_at Top q v k e i c =
      let r = one_top ps outside st h.top.piece q h.top.there c h.top.kind_is (ap is_top k) in
      inl (one_number q m.top v (subst (λ (z : Piece). Is h.keys z m.top) r h.top.same) i)
  stands_at Index q v k e i c =
      let r = one_index ps outside st h.index.piece q h.index.there c h.index.kind_is (ap is_index k) in
      inr (inl (one_number q m.index v (subst (λ (z : Piece). Is h.keys z m.index) r h.index.same) i))
  stands_at Filler q v k e i c = inr (inr (inl (in_predication q v k i c)))
  stands_at High q v k e i c =
      let w = first_linked is_high is_handle_rel is_low waits_handle told_handle handle_ends ps begun no_ends st q c (ap is_high k) in
      inr (inr (inr (inl (at_first is_high is_handle_rel is_low m.hcons q v w.link w.there w.first_is i h.hcons))))
  stands_at Low q v k e i c =
      let w = second_linked is_high is_handle_rel is_low waits_handle told_handle handle_ends ps no_ends q c (ap is_low k) in
      inr (inr (inr (inl (at_second is_high is_handle_rel is_low m.hcons q v w.0 w.1 w.2 i h.hcons))))
  stands_at Left q v k e i c =
      let w = first_linked is_left is_variable_rel is_right waits_left told_left left_ends ps begun no_ends st q c (ap is_left k) in
      inr (inr (inr (inr (at_first is_left is_variable_rel is_right m.icons q v w.link w.there w.first_is i h.icons))))
  stands_at Right q v k e i c =
      let w = second_linked is_left is_variable_rel is_right waits_left told_left left_ends ps no_ends q c (ap is_right k) in
      inr (inr (inr (inr (at_second is_left is_variable_rel is_right m.icons q v w.0 w.1 w.2 i h.icons))))
  stands_at _ q v k e i c = absurd (cc)

  stands : (v : ℕ) → v < length m.vars → Stands m v
  stands v l =
      let w = (h.all (get_or h.keys v [])).0 (key_there v l) in
      stands_at w.piece.kind w.piece v refl w.kind (key_at v l ∙ ap Some (sym w.same)) w.there

  pub valid : IsValid m
  valid = record {
    top = within h.top.piece m.top h.top.same;
    index = within h.index.piece m.index h.index.same;
    vars = all_of IsVariable m.vars variable_ok;
    eps = all_of (IsPredication (length m.vars)) m.eps predication_ok;
    hcons = all_of (IsConstraint (length m.vars)) m.hcons (constraint_ok is_high is_handle_rel is_low m.hcons handles_ok h.hcons);
    icons = all_of (IsConstraint (length m.vars)) m.icons (constraint_ok is_left is_variable_rel is_right m.icons lefts_ok h.icons);
    standing = stands;
  }
