-- What an application writes has all that a valid MRS has, but that variables may stand nowhere.
use Rattle.std.proofs.Common.{ℕ, zero, suc, ◌+◌, ◌≡◌, ◌<◌, ◌≤◌, inl, inr, Bool, true, false, List, [], ◌∷◌, ◌++◌, map, length, take, drop, get_or, refl, sym, ap, subst, arith}
use Rattle.std.specs.Prelude.{All, Contains, MatchOption, if◌then◌else◌}
use Rattle.std.specs.List.{slice_get, AllZip}
use Rattle.std.proofs.lemmas.Bool.{cases_lt}
use Rattle.std.proofs.lemmas.List.{length-append, length-map, length-take}
use Rattle.std.proofs.lemmas.List.Elements.{All-nil, All-cons, All-head, All-tail, All-append, All-take, All-drop, All-map, All-weaker, All-get_or}
use Rattle.mrs_model.specs.Meanings.{Variable, Filler, of_var, of_text, Argument, Predication, Constraint, Meaning}
use Rattle.mrs_model.specs.Renaming.{renamed_filler, renamed_argument, renamed_ep}
use Rattle.mrs_model.specs.Texts.{IsSort}
use Rattle.mrs_model.specs.Valid.{Rise, IsVariable, IsFiller, IsArgument, IsPredication, IsConstraint, IsValid}
use Rattle.transfer_model.specs.Rules.{Rule, IsRule}
use Rattle.transfer_model.specs.Sites.{Site, HasLetters, IsSite}
use Rattle.transfer_model.specs.Applying.{removed, has, left_of, numbers, variables_at, new_variable, rewritten, IsShaped}
use Rattle.transfer_model.proofs.Lists.{In, contains_of, zip_length}
use Rattle.transfer_model.proofs.Places.{site_length}

all_right : {A : Type 0} (P : A → Type 0) (xs ys : List A) → All P (xs ++ ys) → All P ys
all_right P [] ys a = a
all_right P (x ∷ xs) ys a = all_right P xs ys (All-tail P x (xs ++ ys) a)

-- more variables
filler_more : (n o : ℕ) (f : Filler) → n ≤ o → IsFiller n f → IsFiller o f
filler_more n o (of_var v) l h = omega (arith, l, h)
filler_more n o (of_text t) l h = tt

argument_more : (n o : ℕ) → n ≤ o → (a : Argument) → IsArgument n a → IsArgument o a
argument_more n o l a h = record { role = h.role; not_label = h.not_label; filler = filler_more n o a.filler l h.filler }

predication_more : (n o : ℕ) → n ≤ o → (e : Predication) → IsPredication n e → IsPredication o e
predication_more n o l e h = let k = h.label in record {
  pred = h.pred;
  label = omega (arith, l, k);
  args = All-weaker (IsArgument n) (IsArgument o) (argument_more n o l) e.args h.args;
  order = h.order;
}

constraint_more : (n o : ℕ) → n ≤ o → (c : Constraint) → IsConstraint n c → IsConstraint o c
constraint_more n o l c h = let a = h.left in let b = h.right in record { left = omega (arith, l, a); rel = h.rel; right = omega (arith, l, b) }

-- other variables
roles_renamed : (to : List ℕ) (args : List Argument) → map (λ (a : Argument). a.role) (map (renamed_argument to) args) ≡ map (λ (a : Argument). a.role) args
roles_renamed to [] = refl
roles_renamed to (a ∷ args) = ap (λ (z : List (List ℕ)). a.role ∷ z) (roles_renamed to args)

module _ (to : List ℕ) (n : ℕ) (within : All (λ v. v < n) to) where
  filler_renamed : (f : Filler) → IsFiller (length to) f → IsFiller n (renamed_filler to f)
  filler_renamed (of_var v) l = All-get_or (λ w. w < n) to v 0 l within
  filler_renamed (of_text t) l = tt

  argument_renamed : (a : Argument) → IsArgument (length to) a → IsArgument n (renamed_argument to a)
  argument_renamed a h = record { role = h.role; not_label = h.not_label; filler = filler_renamed a.filler h.filler }

  ep_renamed : (e : Predication) → IsPredication (length to) e → IsPredication n (renamed_ep to e)
  ep_renamed e h = record {
    pred = h.pred;
    label = All-get_or (λ w. w < n) to e.label 0 h.label within;
    args = All-map (IsArgument n) (renamed_argument to) e.args (All-weaker (IsArgument (length to)) (λ a. IsArgument n (renamed_argument to a)) argument_renamed e.args h.args);
    order = subst Rise (sym (roles_renamed to e.args)) h.order;
  }

numbers_length : (n count : ℕ) → length (numbers n count) ≡ count
numbers_length n zero = refl
numbers_length n (suc count) = ap suc (numbers_length (n + 1) count)

numbers_within : (n count o : ℕ) → n + count ≤ o → All (λ v. v < o) (numbers n count)
numbers_within n zero o l = All-nil (λ v. v < o)
numbers_within n (suc count) o l = All-cons (λ v. v < o) n (numbers (n + 1) count) (omega (arith, l)) (numbers_within (n + 1) count o (omega (arith, l)))

all_left : (P : Predication → Type 0) (gone : List ℕ) (k : ℕ) (es : List Predication) → All P es → All P (left_of gone k es)
all_left P gone k [] a = a
all_left P gone k (e ∷ es) a = by (has gone k) (all_left P gone (k + 1) es (All-tail P e es a))
  where
    by : (b : Bool) → All P (left_of gone (k + 1) es) → All P (if b then left_of gone (k + 1) es else e ∷ left_of gone (k + 1) es)
    by true h = h
    by false h = All-cons P e (left_of gone (k + 1) es) (All-head P e es a) h

there : (all : List Variable) (l : List ℕ) (v : ℕ) → MatchOption (slice_get all v) ⊥ (HasLetters l) → v < length all
there [] l v h = absurd h
there (x ∷ xs) l zero h = omega arith
there (x ∷ xs) l (suc v) h = let r = there xs l v h in omega (arith, r)

site_within : (all : List Variable) (letters : List (List ℕ)) (vars : List ℕ) (o : ℕ) → length all ≤ o → AllZip (λ l v. MatchOption (slice_get all v) ⊥ (HasLetters l)) letters vars → All (λ v. v < o) vars
site_within all [] [] o l z = All-nil (λ v. v < o)
site_within all [] (v ∷ vars) o l z = absurd z
site_within all (x ∷ letters) [] o l z = absurd z
site_within all (x ∷ letters) (v ∷ vars) o l z = let h = there all x v z.0 in All-cons (λ w. w < o) v vars (omega (arith, h, l)) (site_within all letters vars o l z.1)

new_is : (l : List ℕ) → IsSort l → IsVariable (new_variable l)
new_is l h = record { sort = h; props = λ k d m. absurd (omega (arith, m)); order = λ k m. absurd (omega (arith, m)) }

module _ (m : Meaning) (r : Rule) (s : Site) (valid : IsValid m) (rule : IsRule r) (site : IsSite m r s) where
  abbrev many : ℕ
  many = length (m.vars ++ map new_variable r.output_letters)

  many_is : many ≡ length m.vars + length r.output_letters
  many_is = let a = length-append m.vars (map new_variable r.output_letters) in let b = length-map r.output_letters new_variable in omega (arith, a, b)

  more : length m.vars ≤ many
  more = omega (arith, many_is)

  vars_within : All (λ v. v < many) (variables_at m r s)
  vars_within = All-append (λ v. v < many) s.vars (numbers (length m.vars) (length r.output_letters))
      (site_within m.vars r.letters s.vars many more site.sorts)
      (numbers_within (length m.vars) (length r.output_letters) many (omega (arith, many_is)))

  vars_length : length (variables_at m r s) ≡ length r.letters + length r.output_letters
  vars_length =
      let a = length-append s.vars (numbers (length m.vars) (length r.output_letters)) in
      let b = numbers_length (length m.vars) (length r.output_letters) in
      let c = zip_length (λ l v. MatchOption (slice_get m.vars v) ⊥ (HasLetters l)) r.letters s.vars site.sorts in
      omega (arith, a, b, c)

  new_eps : All (IsPredication many) (map (renamed_ep (variables_at m r s)) r.output)
  new_eps = All-map (IsPredication many) (renamed_ep (variables_at m r s)) r.output
      (All-weaker (IsPredication (length (variables_at m r s))) (λ e. IsPredication many (renamed_ep (variables_at m r s) e)) (ep_renamed (variables_at m r s) many vars_within) r.output
      (subst (λ (z : ℕ). All (IsPredication z) r.output) (sym vars_length) rule.output))

  old_eps : All (IsPredication many) m.eps
  old_eps = All-weaker (IsPredication (length m.vars)) (IsPredication many) (predication_more (length m.vars) many more) m.eps valid.eps

  pub shaped : (first : ℕ) → IsShaped (rewritten m r s first)
  shaped first =
      let new = map (renamed_ep (variables_at m r s)) r.output in
      let rest = left_of (removed r s) first (drop first m.eps) in
      let top = valid.top in
      let index = valid.index in
      let sorts = all_right IsSort r.filter_letters r.output_letters (all_right IsSort r.letters (r.filter_letters ++ r.output_letters) rule.letters) in
      record {
        top = omega (arith, top, more);
        index = omega (arith, index, more);
        vars = All-append IsVariable m.vars (map new_variable r.output_letters) valid.vars (All-map IsVariable new_variable r.output_letters (All-weaker IsSort (λ l. IsVariable (new_variable l)) new_is r.output_letters sorts));
        eps = All-append (IsPredication many) (take first m.eps) (new ++ rest) (All-take (IsPredication many) first m.eps old_eps)
            (All-append (IsPredication many) new rest new_eps (all_left (IsPredication many) (removed r s) first (drop first m.eps) (All-drop (IsPredication many) first m.eps old_eps)));
        hcons = All-weaker (IsConstraint (length m.vars)) (IsConstraint many) (constraint_more (length m.vars) many more) m.hcons valid.hcons;
        icons = All-weaker (IsConstraint (length m.vars)) (IsConstraint many) (constraint_more (length m.vars) many more) m.icons valid.icons;
      }

-- the least of some numbers
pub record IsFirst (ps : List ℕ) (k : ℕ) : Type 0 where
  pub there : Contains ps k
  pub least : All (λ p. k ≤ p) ps

least_of : (p : ℕ) (ps : List ℕ) → (k : ℕ) × In k (p ∷ ps) × ((q : ℕ) → In q (p ∷ ps) → k ≤ q)
least_of p [] = (p, inl refl, λ q i. elim i [ inl e ↦ omega (arith, e) | inr j ↦ absurd j ])
least_of p (q ∷ qs) = by (least_of q qs)
  where
    by : (k : ℕ) × In k (q ∷ qs) × ((z : ℕ) → In z (q ∷ qs) → k ≤ z) → (k : ℕ) × In k (p ∷ (q ∷ qs)) × ((z : ℕ) → In z (p ∷ (q ∷ qs)) → k ≤ z)
    by w = elim (cases_lt p w.0) [
      | inl l ↦ (p, inl refl, λ z i. elim i [ inl e ↦ omega (arith, e) | inr j ↦ (let h = w.2 z j in omega (arith, h, l)) ])
      | inr l ↦ (w.0, inr w.1, λ z i. elim i [ inl e ↦ omega (arith, e, l) | inr j ↦ w.2 z j ])
    ]

in_at : (xs : List ℕ) (k d : ℕ) → k < length xs → In (get_or xs k d) xs
in_at [] k d h = absurd (omega (arith, h))
in_at (x ∷ xs) zero d h = inl refl
in_at (x ∷ xs) (suc k) d h = inr (in_at xs k d (omega (arith, h)))

first_of_some : (ps : List ℕ) → 0 < length ps → (k : ℕ) × IsFirst ps k
first_of_some [] l = absurd (omega (arith, l))
first_of_some (p ∷ ps) l = let w = least_of p ps in (w.0, record { there = contains_of (p ∷ ps) w.0 w.1; least = λ k d m. w.2 (get_or (p ∷ ps) k d) (in_at (p ∷ ps) k d m) })

pub first_removed : (m : Meaning) (r : Rule) (s : Site) → IsRule r → IsSite m r s → (k : ℕ) × IsFirst (removed r s) k
first_removed m r s rule site =
    let a = site_length m r s site in
    let b = length-append r.input r.context in
    let c = length-take (length r.input) s.places in
    let d = rule.some in
    first_of_some (removed r s) (omega (arith, a, b, c, d))
