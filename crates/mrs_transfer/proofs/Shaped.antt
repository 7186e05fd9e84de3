-- What a rule makes of an MRS at a site, before variables that stand nowhere are dropped.
use Rattle.std.proofs.Common.{ℕ, zero, suc, ◌≡◌, ◌<◌, ◌≤◌, ◌+◌, ◌∙◌, Bool, true, false, cond, Some, None, Option, List, [], ◌∷◌, ◌++◌, append_assoc, length, length-append, get_or, take, drop, refl, sym, subst, ap, arith}
use Rattle.std.specs.Prelude.{All, map, MatchOption}
use Rattle.std.specs.List.{AllZip, slice_get}
use Rattle.std.proofs.lemmas.Option.{slice_get_within}
use Rattle.std.proofs.lemmas.List.{length-map}
use Rattle.std.proofs.lemmas.List.Elements.{All-map, All-append, All-weaker, All-take, All-drop, All-head, All-tail, All-cons}
use Rattle.mrs_model.specs.Meanings.{Filler, of_var, of_text, Variable, Predication, Constraint, Meaning, Argument}
use Rattle.mrs_model.specs.Renaming.{renamed_ep}
use Rattle.mrs_model.specs.Texts.{IsSort}
use Rattle.mrs_model.specs.Valid.{IsFiller, IsVariable, IsArgument, IsPredication, IsConstraint, IsValid}
use Rattle.transfer_model.specs.Rules.{Element, Rule, IsRule}
use Rattle.transfer_model.specs.Sites.{Site, IsSite, Fits, HasLetters}
use Rattle.transfer_model.specs.Applying.{removed, has, left_of, numbers, variables_at, new_variable, replaced, rewritten, renumbered, IsShaped}
use Rattle.mrs_transfer.proofs.Zips.{zip_length}
use Rattle.mrs_transfer.proofs.Renumbered.{ep_gets, ep_below}

-- numbers one after the other
pub length_numbers : (n count : ℕ) → length (numbers n count) ≡ count
length_numbers n zero = refl
length_numbers n (suc count) = ap suc (length_numbers (n + 1) count)

numbers_on : (n count : ℕ) → numbers n (suc count) ≡ numbers n count ++ (n + count) ∷ []
numbers_on n zero = let q : n ≡ n + 0 = omega arith in ap (λ (z : ℕ). z ∷ []) q
numbers_on n (suc count) =
    let q : (n + 1) + count ≡ n + suc count = omega arith in
    ap (λ (zs : List ℕ). n ∷ zs) (numbers_on (n + 1) count ∙ ap (λ (z : ℕ). numbers (n + 1) count ++ z ∷ []) q)

pub numbers_more : (n count : ℕ) → numbers n (count + 1) ≡ numbers n count ++ (n + count) ∷ []
numbers_more n count = let q : count + 1 ≡ suc count = omega arith in ap (numbers n) q ∙ numbers_on n count

pub numbers_push : (base done : List ℕ) (n count next : ℕ) → done ≡ base ++ numbers n count → next ≡ n + count → done ++ next ∷ [] ≡ base ++ numbers n (count + 1)
numbers_push base done n count next e q =
    ap (λ (zs : List ℕ). zs ++ next ∷ []) e
    ∙ (append_assoc base (numbers n count) (next ∷ [])
    ∙ (ap (λ (z : ℕ). base ++ (numbers n count ++ z ∷ [])) q ∙ ap (λ (zs : List ℕ). base ++ zs) (sym (numbers_more n count))))

numbers_below : (n count : ℕ) → All (λ v. v < n + count) (numbers n count)
numbers_below n zero k d l = absurd (omega (arith, l))
numbers_below n (suc count) zero d l = omega arith
numbers_below n (suc count) (suc k) d l = let h = numbers_below (n + 1) count k d (omega (arith, l)) in omega (arith, h)

-- the variables of a site are there
there : (o : Option Variable) (l : List ℕ) → MatchOption o ⊥ (HasLetters l) → (x : Variable) × (o ≡ Some x)
there None l h = absurd h
there (Some x) l h = (x, refl)

vars_there : (m : Meaning) (letters : List (List ℕ)) (vars : List ℕ) → AllZip (λ l v. MatchOption (slice_get m.vars v) ⊥ (HasLetters l)) letters vars → All (λ v. v < length m.vars) vars
vars_there m [] [] z k d l = absurd (omega (arith, l))
vars_there m [] (v ∷ vs) z k d l = absurd z
vars_there m (t ∷ ts) [] z k d l = absurd z
vars_there m (t ∷ ts) (v ∷ vs) z zero d l = let h = there (slice_get m.vars v) t z.0 in slice_get_within m.vars v h.0 h.1
vars_there m (t ∷ ts) (v ∷ vs) z (suc k) d l = vars_there m ts vs z.1 k d (omega (arith, l))

-- the places of a site are there
ep_there : (o : Option Predication) (P : Predication → Type 0) → MatchOption o ⊥ P → (x : Predication) × (o ≡ Some x)
ep_there None P h = absurd h
ep_there (Some x) P h = (x, refl)

pub places_there : (m : Meaning) (vars : List ℕ) (xs : List Element) (places : List ℕ) → AllZip (λ x p. MatchOption (slice_get m.eps p) ⊥ (Fits vars x)) xs places → All (λ p. p < length m.eps) places
places_there m vars [] [] z k d l = absurd (omega (arith, l))
places_there m vars [] (p ∷ ps) z k d l = absurd z
places_there m vars (x ∷ xs) [] z k d l = absurd z
places_there m vars (x ∷ xs) (p ∷ ps) z zero d l = let h = ep_there (slice_get m.eps p) (Fits vars x) z.0 in slice_get_within m.eps p h.0 h.1
places_there m vars (x ∷ xs) (p ∷ ps) z (suc k) d l = places_there m vars xs ps z.1 k d (omega (arith, l))

-- more variables
argument_more : (n m : ℕ) (a : Argument) → n ≤ m → IsArgument n a → IsArgument m a
argument_more n m a l h = record { role = h.role; not_label = h.not_label; filler = filler_more n m a.filler l h.filler }
  where
    filler_more : (n m : ℕ) (f : Filler) → n ≤ m → IsFiller n f → IsFiller m f
    filler_more n m (of_var v) l h = omega (arith, h, l)
    filler_more n m (of_text t) l h = tt

ep_more : (n m : ℕ) (e : Predication) → n ≤ m → IsPredication n e → IsPredication m e
ep_more n m e l h = record { pred = h.pred; label = omega (arith, h.label, l); args = All-weaker (IsArgument n) (IsArgument m) (λ a i. argument_more n m a l i) e.args h.args; order = h.order }

con_more : (n m : ℕ) (c : Constraint) → n ≤ m → IsConstraint n c → IsConstraint m c
con_more n m c l h = record { left = omega (arith, h.left, l); rel = h.rel; right = omega (arith, h.right, l) }

all_left_of : (P : Predication → Type 0) (gone : List ℕ) (k : ℕ) (es : List Predication) → All P es → All P (left_of gone k es)
all_left_of P gone k [] a = a
all_left_of P gone k (e ∷ es) a = by_bit (has gone k) (all_left_of P gone (k + 1) es (All-tail P e es a))
  where
    by_bit : (b : Bool) → All P (left_of gone (k + 1) es) → All P (cond b (left_of gone (k + 1) es) (e ∷ left_of gone (k + 1) es))
    by_bit true rest = rest
    by_bit false rest = All-cons P e (left_of gone (k + 1) es) (All-head P e es a) rest

all_replaced : (P : Predication → Type 0) (gone : List ℕ) (first : ℕ) (new es : List Predication) → All P new → All P es → All P (replaced gone first new es)
all_replaced P gone first new es n a =
    All-append P (take first es) (new ++ left_of gone first (drop first es)) (All-take P first es a)
    (All-append P new (left_of gone first (drop first es)) n (all_left_of P gone first (drop first es) (All-drop P first es a)))

-- without its span an elementary predication is as one
ep_unspanned : (to : List ℕ) (m : ℕ) (e : Predication) → IsPredication m (renumbered to e) → IsPredication m (renamed_ep to e)
ep_unspanned to m e h = record { pred = h.pred; label = h.label; args = h.args; order = h.order }

at_back : {X : Type 0} (P : X → Type 0) (xs ys : List X) → All P (xs ++ ys) → All P ys
at_back P [] ys a = a
at_back P (x ∷ xs) ys a = at_back P xs ys (All-tail P x (xs ++ ys) a)

new_is : (l : List ℕ) → IsSort l → IsVariable (new_variable l)
new_is l h = record { sort = h; props = λ k d m. absurd (omega (arith, m)); order = λ k m. absurd (omega (arith, m)) }

module _ (m : Meaning) (r : Rule) (s : Site) (first : ℕ) (valid : IsValid m) (rule : IsRule r) (site : IsSite m r s) where
  abbrev count : ℕ
  count = length m.vars + length r.output_letters

  pub site_length : length s.vars ≡ length r.letters
  site_length = sym (zip_length (λ l v. MatchOption (slice_get m.vars v) ⊥ (HasLetters l)) r.letters s.vars site.sorts)

  all_there : All (λ v. v < count) (variables_at m r s)
  all_there =
      All-append (λ v. v < count) s.vars (numbers (length m.vars) (length r.output_letters))
      (All-weaker (λ v. v < length m.vars) (λ v. v < count) (λ v l. omega (arith, l)) s.vars (vars_there m r.letters s.vars site.sorts))
      (numbers_below (length m.vars) (length r.output_letters))

  pub variables_length : length (variables_at m r s) ≡ length r.letters + length r.output_letters
  variables_length = omega (arith, length-append s.vars (numbers (length m.vars) (length r.output_letters)), site_length, length_numbers (length m.vars) (length r.output_letters))

  output_is : All (IsPredication count) (map (renamed_ep (variables_at m r s)) r.output)
  output_is = All-map (IsPredication count) (renamed_ep (variables_at m r s)) r.output (λ k d l. made (get_or r.output k d) (rule.output k d l))
    where
      made : (e : Predication) → IsPredication (length r.letters + length r.output_letters) e → IsPredication count (renamed_ep (variables_at m r s) e)
      made e h = ep_unspanned (variables_at m r s) count e
          (ep_gets (variables_at m r s) (length r.letters + length r.output_letters) count e h
          (λ v i. all_there v 0 (omega (arith, ep_below (length r.letters + length r.output_letters) e v h i, variables_length))))

  wider : length m.vars ≤ count
  wider = omega arith

  pub count_is : length (rewritten m r s first).vars ≡ count
  count_is = omega (arith, length-append m.vars (map new_variable r.output_letters), length-map r.output_letters new_variable)

  shaped_by : (n : ℕ) → n ≡ count → (n ≡ length (rewritten m r s first).vars) → IsShaped (rewritten m r s first)
  shaped_by n e q = record {
    top = omega (arith, valid.top, q, e);
    index = omega (arith, valid.index, q, e);
    vars = All-append IsVariable m.vars (map new_variable r.output_letters) valid.vars
        (All-map IsVariable new_variable r.output_letters (λ k d l. new_is (get_or r.output_letters k d) (at_back IsSort r.filter_letters r.output_letters (at_back IsSort r.letters (r.filter_letters ++ r.output_letters) rule.letters) k d l)));
    eps = subst (λ (z : ℕ). All (IsPredication z) (replaced (removed r s) first (map (renamed_ep (variables_at m r s)) r.output) m.eps)) (sym e ∙ q)
        (all_replaced (IsPredication count) (removed r s) first (map (renamed_ep (variables_at m r s)) r.output) m.eps output_is (All-weaker (IsPredication (length m.vars)) (IsPredication count) (λ x h. ep_more (length m.vars) count x wider h) m.eps valid.eps));
    hcons = subst (λ (z : ℕ). All (IsConstraint z) m.hcons) (sym e ∙ q) (All-weaker (IsConstraint (length m.vars)) (IsConstraint count) (λ x h. con_more (length m.vars) count x wider h) m.hcons valid.hcons);
    icons = subst (λ (z : ℕ). All (IsConstraint z) m.icons) (sym e ∙ q) (All-weaker (IsConstraint (length m.vars)) (IsConstraint count) (λ x h. con_more (length m.vars) count x wider h) m.icons valid.icons);
  }

  pub shaped : IsShaped (rewritten m r s first)
  shaped = shaped_by count refl (sym count_is)
