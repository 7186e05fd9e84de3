-- An MRS without the variables that stand nowhere.
use Rattle.std.proofs.Common.{ℕ, zero, suc, ◌≡◌, ◌<◌, ◌≤◌, ◌⊎◌, inl, inr, ◌∙◌, ◌+◌, Bool, true, false, Some, List, [], ◌∷◌, ◌++◌, append_assoc, length, length-append, get_or, take, refl, sym, subst, ap, arith}
use Rattle.std.specs.Prelude.{All, Contains, map, slice_index}
use Rattle.std.specs.List.{Any, AllZip, slice_get}
use Rattle.std.proofs.lemmas.Bool.{cases_lt, false≢true}
use Rattle.std.proofs.lemmas.List.{length_push, get_or_at, get_or_default}
use Rattle.std.proofs.lemmas.Option.{slice_get_within, get_or_from_slice_get, slice_get-get_or}
use Rattle.mrs_model.specs.Meanings.{Variable, Meaning}
use Rattle.mrs_model.specs.Renaming.{renamed_constraint}
use Rattle.mrs_model.specs.Valid.{IsVariable, IsPredication, IsConstraint, StandsIn, IsEnd, Stands, IsValid}
use Rattle.transfer_model.specs.Applying.{renumbered, IsShaped, IsTrimmed}
use Rattle.mrs_transfer.specs.Inner.Trimming.{AreStanding, IsRenumbered, kept_by, marked_from}
use Rattle.mrs_transfer.proofs.Zips.{zip_length}
use Rattle.mrs_transfer.proofs.Kept.{kept_at, kept_has, kept_only, kept_rises, kept_all, rest_marked}
use Rattle.mrs_transfer.proofs.Renumbered.{Back, Stays, Gets, map_back, map_fixed, all_mapped, any_mapped, all_below, ep_back, con_back, ep_fixed, con_fixed, ep_below, con_below, ep_gets, con_gets, ep_stands, con_stands}

stands_below : (a : Meaning) (v : ℕ) → IsShaped a → Stands a v → v < length a.vars
stands_below a v h (inl q) = subst (λ (z : ℕ). z < length a.vars) q h.top
stands_below a v h (inr (inl q)) = subst (λ (z : ℕ). z < length a.vars) q h.index
stands_below a v h (inr (inr (inl i))) = all_below StandsIn (length a.vars) (IsPredication (length a.vars)) (λ e w p s. ep_below (length a.vars) e w p s) a.eps v h.eps i
stands_below a v h (inr (inr (inr (inl i)))) = all_below IsEnd (length a.vars) (IsConstraint (length a.vars)) (λ c w p s. con_below (length a.vars) c w p s) a.hcons v h.hcons i
stands_below a v h (inr (inr (inr (inr i)))) = all_below IsEnd (length a.vars) (IsConstraint (length a.vars)) (λ c w p s. con_below (length a.vars) c w p s) a.icons v h.icons i

-- a number is the same as another one that stands at the same place of rising ones
same_place : (kept : List ℕ) → ((i j : ℕ) → i < j → j < length kept → slice_index kept i < slice_index kept j) → (i j : ℕ) → i < length kept → j < length kept → slice_index kept i ≡ slice_index kept j → i ≡ j
same_place kept rises i j li lj e = by_case (cases_lt i j) (cases_lt j i)
  where
    by_case : (i < j) ⊎ (j ≤ i) → (j < i) ⊎ (i ≤ j) → i ≡ j
    by_case (inl l) c = absurd (omega (arith, rises i j l lj, e))
    by_case (inr l) (inl k) = absurd (omega (arith, rises j i k li, e))
    by_case (inr l) (inr k) = omega (arith, l, k)

all_left : (P : Variable → Type 0) (xs : List Variable) (vs : List ℕ) (ys : List Variable) → All P xs → AllZip (λ v x. slice_get xs v ≡ Some x) vs ys → All P ys
all_left P xs [] [] a z k d l = absurd (omega (arith, l))
all_left P xs [] (y ∷ ys) a z k d l = absurd z
all_left P xs (v ∷ vs) [] a z k d l = absurd z
all_left P xs (v ∷ vs) (y ∷ ys) a z zero d l = subst P (get_or_from_slice_get xs v y y z.0) (a v y (slice_get_within xs v y z.0))
all_left P xs (v ∷ vs) (y ∷ ys) a z (suc k) d l = all_left P xs vs ys a z.1 k d (omega (arith, l))

module _ (a b : Meaning) (marks : List Bool) (to : List ℕ) (shaped : IsShaped a) (marked : AreStanding a marks) (numbers : (v : ℕ) → v < length marks → slice_index to v ≡ length (kept_by (take v marks)))
    (other : IsRenumbered to a b) (left : AllZip (λ v x. slice_get a.vars v ≡ Some x) (kept_by marks) b.vars) where
  is_marked : (v : ℕ) → Stands a v → (v < length marks) × (get_or marks v false ≡ true)
  is_marked v s =
      let l : v < length a.vars = stands_below a v shaped s in
      (omega (arith, l, marked.size), (marked.marks v l).1 s)

  back : (v : ℕ) → Stands a v → Back (kept_by marks) to v
  back v s =
      let m = is_marked v s in
      ap (λ (z : ℕ). slice_index (kept_by marks) z) (numbers v m.0) ∙ (kept_at marks v m.0 m.1).1

  gets : (v : ℕ) → Stands a v → Gets to (length b.vars) v
  gets v s =
      let m = is_marked v s in
      let n : length (kept_by marks) ≡ length b.vars = zip_length (λ v x. slice_get a.vars v ≡ Some x) (kept_by marks) b.vars left in
      let q : slice_index to v ≡ length (kept_by (take v marks)) = numbers v m.0 in
      omega (arith, (kept_at marks v m.0 m.1).0, n, q)

  moved : (w : ℕ) → Stands a w → Stands b (slice_index to w)
  moved w (inl q) = inl (other.top ∙ ap (λ (z : ℕ). slice_index to z) q)
  moved w (inr (inl q)) = inr (inl (other.index ∙ ap (λ (z : ℕ). slice_index to z) q))
  moved w (inr (inr (inl i))) = inr (inr (inl (subst (Any (StandsIn (slice_index to w))) (sym other.eps) (any_mapped StandsIn w (slice_index to w) (renumbered to) (ep_stands to w) a.eps i))))
  moved w (inr (inr (inr (inl i)))) = inr (inr (inr (inl (subst (Any (IsEnd (slice_index to w))) (sym other.hcons) (any_mapped IsEnd w (slice_index to w) (renamed_constraint to) (con_stands to w) a.hcons i)))))
  moved w (inr (inr (inr (inr i)))) = inr (inr (inr (inr (subst (Any (IsEnd (slice_index to w))) (sym other.icons) (any_mapped IsEnd w (slice_index to w) (renamed_constraint to) (con_stands to w) a.icons i)))))

  stood : (w : ℕ) → Contains (kept_by marks) w → (w < length a.vars) × Stands a w
  stood w c =
      let r = kept_only marks w c in
      let l : w < length a.vars = omega (arith, r.0, marked.size) in
      (l, (marked.marks w l).0 r.1)

  stands_left : (v : ℕ) → v < length b.vars → Stands b v
  stands_left v l =
      let n : length (kept_by marks) ≡ length b.vars = zip_length (λ v x. slice_get a.vars v ≡ Some x) (kept_by marks) b.vars left in
      let k : v < length (kept_by marks) = omega (arith, l, n) in
      let w = slice_index (kept_by marks) v in
      let s : Stands a w = (stood w (v, k, get_or_default (kept_by marks) v w 0 k)).1 in
      let g : slice_index to w < length b.vars = gets w s in
      let e : slice_index to w ≡ v = same_place (kept_by marks) (kept_rises marks) (slice_index to w) v (omega (arith, g, n)) k (back w s) in
      subst (Stands b) e (moved w s)

  valid_left : IsValid b
  valid_left = record {
    top = subst (λ (z : ℕ). z < length b.vars) (sym other.top) (gets a.top (inl refl));
    index = subst (λ (z : ℕ). z < length b.vars) (sym other.index) (gets a.index (inr (inl refl)));
    vars = all_left IsVariable a.vars (kept_by marks) b.vars shaped.vars left;
    eps = subst (All (IsPredication (length b.vars))) (sym other.eps)
        (all_mapped StandsIn (Gets to (length b.vars)) (IsPredication (length a.vars)) (IsPredication (length b.vars)) (renumbered to) (ep_gets to (length a.vars) (length b.vars)) a.eps shaped.eps (λ v i. gets v (inr (inr (inl i)))));
    hcons = subst (All (IsConstraint (length b.vars))) (sym other.hcons)
        (all_mapped IsEnd (Gets to (length b.vars)) (IsConstraint (length a.vars)) (IsConstraint (length b.vars)) (renamed_constraint to) (con_gets to (length a.vars) (length b.vars)) a.hcons shaped.hcons (λ v i. gets v (inr (inr (inr (inl i))))));
    icons = subst (All (IsConstraint (length b.vars))) (sym other.icons)
        (all_mapped IsEnd (Gets to (length b.vars)) (IsConstraint (length a.vars)) (IsConstraint (length b.vars)) (renamed_constraint to) (con_gets to (length a.vars) (length b.vars)) a.icons shaped.icons (λ v i. gets v (inr (inr (inr (inr i))))));
    standing = stands_left;
  }

  pub trimmed_left : IsTrimmed a b (kept_by marks)
  trimmed_left = record {
    rises = kept_rises marks;
    standing = λ v. (λ c. stood v c, λ p. let m = is_marked v p.1 in kept_has marks v m.0 m.1);
    vars = left;
    top = ap (λ (z : ℕ). slice_index (kept_by marks) z) other.top ∙ back a.top (inl refl);
    index = ap (λ (z : ℕ). slice_index (kept_by marks) z) other.index ∙ back a.index (inr (inl refl));
    eps = ap (map (renumbered (kept_by marks))) other.eps ∙ map_back StandsIn (Back (kept_by marks) to) (renumbered to) (renumbered (kept_by marks)) (ep_back (kept_by marks) to) a.eps (λ v i. back v (inr (inr (inl i))));
    hcons = ap (map (renamed_constraint (kept_by marks))) other.hcons ∙ map_back IsEnd (Back (kept_by marks) to) (renamed_constraint to) (renamed_constraint (kept_by marks)) (con_back (kept_by marks) to) a.hcons (λ v i. back v (inr (inr (inr (inl i)))));
    icons = ap (map (renamed_constraint (kept_by marks))) other.icons ∙ map_back IsEnd (Back (kept_by marks) to) (renamed_constraint to) (renamed_constraint (kept_by marks)) (con_back (kept_by marks) to) a.icons (λ v i. back v (inr (inr (inr (inr i)))));
    valid = valid_left;
  }

-- all else is of another MRS
abbrev pub with_vars : Meaning → List Variable → Meaning
with_vars m vs = record { top = m.top; index = m.index; vars = vs; eps = m.eps; hcons = m.hcons; icons = m.icons }

pub trimmed_by : (a n : Meaning) (vs : List Variable) (marks : List Bool) (to : List ℕ) → IsShaped a → AreStanding a marks → ((v : ℕ) → v < length marks → slice_index to v ≡ length (kept_by (take v marks))) → IsRenumbered to a n
    → AllZip (λ v x. slice_get a.vars v ≡ Some x) (kept_by marks) vs → IsTrimmed a (with_vars n vs) (kept_by marks)
trimmed_by a n vs marks to shaped marked numbers other left =
    trimmed_left a (with_vars n vs) marks to shaped marked numbers (record { top = other.top; index = other.index; eps = other.eps; hcons = other.hcons; icons = other.icons }) left

-- all are left
at_seam : (front : List Variable) (x : Variable) (xs : List Variable) (n : ℕ) → length front ≡ n → slice_get (front ++ x ∷ xs) n ≡ Some x
at_seam front x xs n e =
    slice_get-get_or (front ++ x ∷ xs) n x (omega (arith, length-append front (x ∷ xs), e)) ∙ ap (λ (y : Variable). Some y) (get_or_at front x xs x n e)

all_stay : (marks : List Bool) (front xs : List Variable) (n : ℕ) → All (λ m. m ≡ true) marks → length marks ≡ length xs → length front ≡ n → AllZip (λ v x. slice_get (front ++ xs) v ≡ Some x) (marked_from n marks) xs
all_stay [] front [] n all size e = tt
all_stay [] front (x ∷ xs) n all size e = absurd (omega (arith, size))
all_stay (m ∷ marks) front [] n all size e = absurd (omega (arith, size))
all_stay (false ∷ marks) front (x ∷ xs) n all size e = absurd (false≢true (all 0 true (omega arith)))
all_stay (true ∷ marks) front (x ∷ xs) n all size e = (
  at_seam front x xs n e,
  subst (λ (zs : List Variable). AllZip (λ v y. slice_get zs v ≡ Some y) (marked_from (n + 1) marks) xs) (append_assoc front (x ∷ []) xs)
      (all_stay marks (front ++ x ∷ []) xs (n + 1) (rest_marked true marks all) (omega (arith, size)) (omega (arith, length_push front x, e))),
)

module _ (a : Meaning) (marks : List Bool) (shaped : IsShaped a) (marked : AreStanding a marks) (all : All (λ m. m ≡ true) marks) where
  all_stand : (v : ℕ) → v < length a.vars → Stands a v
  all_stand v l =
      let k : v < length marks = omega (arith, l, marked.size) in
      (marked.marks v l).0 (all v false k)

  stays : (v : ℕ) → Stands a v → Stays (kept_by marks) v
  stays v s =
      let l : v < length a.vars = stands_below a v shaped s in
      kept_all marks all v (omega (arith, l, marked.size))

  pub trimmed_whole : IsTrimmed a a (kept_by marks)
  trimmed_whole = record {
    rises = kept_rises marks;
    standing = λ v. (
      (λ c. let r = kept_only marks v c in let l : v < length a.vars = omega (arith, r.0, marked.size) in (l, all_stand v l)),
      (λ p. let k : v < length marks = omega (arith, p.0, marked.size) in kept_has marks v k (all v false k)),
    );
    vars = all_stay marks [] a.vars 0 all marked.size refl;
    top = stays a.top (inl refl);
    index = stays a.index (inr (inl refl));
    eps = map_fixed StandsIn (Stays (kept_by marks)) (renumbered (kept_by marks)) (ep_fixed (kept_by marks)) a.eps (λ v i. stays v (inr (inr (inl i))));
    hcons = map_fixed IsEnd (Stays (kept_by marks)) (renamed_constraint (kept_by marks)) (con_fixed (kept_by marks)) a.hcons (λ v i. stays v (inr (inr (inr (inl i)))));
    icons = map_fixed IsEnd (Stays (kept_by marks)) (renamed_constraint (kept_by marks)) (con_fixed (kept_by marks)) a.icons (λ v i. stays v (inr (inr (inr (inr i)))));
    valid = record { top = shaped.top; index = shaped.index; vars = shaped.vars; eps = shaped.eps; hcons = shaped.hcons; icons = shaped.icons; standing = all_stand };
  }
