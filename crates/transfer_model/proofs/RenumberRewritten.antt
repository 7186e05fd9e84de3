-- What a rule writes at a site, where only the numbers of the variables differ.
use Rattle.std.proofs.Common.{ℕ, zero, suc, ◌≡◌, ◌+◌, ◌-◌, ◌<◌, ◌≤◌, ◌⊎◌, inl, inr, Bool, true, false, List, [], ◌∷◌, ◌++◌, length, length-append, map, take, drop, slice_index, refl, sym, ◌∙◌, ap, ap₂, subst, arith}
use Rattle.std.specs.Prelude.{All, MatchOption, None, if◌then◌else◌}
use Rattle.std.specs.List.{slice_get}
use Rattle.std.proofs.lemmas.Bool.{cases_lt}
use Rattle.std.proofs.lemmas.List.{length-map, map-append, take-map, drop-map, get_or_append_left, get_or-append-add}
use Rattle.std.proofs.lemmas.List.Elements.{All-head, All-tail}
use Rattle.mrs_model.specs.Meanings.{Variable, Filler, of_var, of_text, Argument, Predication, Meaning}
use Rattle.mrs_model.specs.Valid.{IsFiller, IsArgument, IsPredication, IsValid}
use Rattle.mrs_model.specs.Renaming.{IsVariableMap, renamed_filler, renamed_argument, renamed_ep}
use Rattle.mrs_reading.specs.Laws.{IsRenumbering}
use Rattle.transfer_model.specs.Rules.{Rule, IsRule}
use Rattle.transfer_model.specs.Sites.{Site, HasLetters, IsSite}
use Rattle.transfer_model.specs.Applying.{removed, has, left_of, numbers, variables_at, new_variable, replaced, rewritten}
use Rattle.transfer_model.proofs.RenumberMoved.{moved_filler, moved_argument, moved_ep, IsMoved, valid_within, moved_by_list, moved_same, renumbering_of}
use Rattle.transfer_model.proofs.RenumberPlaces.{numbers_length, number_at}
use Rattle.transfer_model.proofs.RenumberSites.{moved_vars, moved_site, at_moved, vars_there, zip_length}

-- removing and putting in goes by places alone
module _ (f : Predication → Predication) where
  left_map : (gone : List ℕ) (k : ℕ) (es : List Predication) → map f (left_of gone k es) ≡ left_of gone k (map f es)
  left_map gone k [] = refl
  left_map gone k (e ∷ es) = by (has gone k) (left_map gone (k + 1) es)
    where
      by : (b : Bool) → map f (left_of gone (k + 1) es) ≡ left_of gone (k + 1) (map f es)
          → map f (if b then left_of gone (k + 1) es else e ∷ left_of gone (k + 1) es) ≡ (if b then left_of gone (k + 1) (map f es) else f e ∷ left_of gone (k + 1) (map f es))
      by true h = h
      by false h = ap (λ z. f e ∷ z) h

  replaced_map : (gone : List ℕ) (first : ℕ) (new es : List Predication) → map f (replaced gone first new es) ≡ replaced gone first (map f new) (map f es)
  replaced_map gone first new es =
      let a : map f (take first es) ≡ take first (map f es) = sym (take-map f first es) in
      let b : map f (left_of gone first (drop first es)) ≡ left_of gone first (drop first (map f es)) = left_map gone first (drop first es) ∙ ap (left_of gone first) (sym (drop-map f first es)) in
      map-append f (take first es) (new ++ left_of gone first (drop first es))
      ∙ ap₂ (λ xs ys. xs ++ ys) a (map-append f new (left_of gone first (drop first es)) ∙ ap (λ ys. map f new ++ ys) b)

get_front : {X : Type 0} (xs ys : List X) (v : ℕ) → v < length xs → slice_get (xs ++ ys) v ≡ slice_get xs v
get_front [] ys v l = absurd (omega (arith, l))
get_front (x ∷ xs) ys zero l = refl
get_front (x ∷ xs) ys (suc v) l = get_front xs ys v (omega (arith, l))

get_behind : {X : Type 0} (xs ys zs : List X) (v : ℕ) → length xs ≡ length ys → length xs ≤ v → slice_get (xs ++ zs) v ≡ slice_get (ys ++ zs) v
get_behind [] [] zs v e l = refl
get_behind [] (y ∷ ys) zs v e l = absurd (omega (arith, e))
get_behind (x ∷ xs) [] zs v e l = absurd (omega (arith, e))
get_behind (x ∷ xs) (y ∷ ys) zs zero e l = absurd (omega (arith, l))
get_behind (x ∷ xs) (y ∷ ys) zs (suc v) e l = get_behind xs ys zs v (omega (arith, e)) (omega (arith, l))

-- new variables keep their numbers
abbrev pub with_new : List ℕ → ℕ → ℕ → List ℕ
with_new to n count = to ++ numbers n count

module _ (to : List ℕ) (n count : ℕ) (every : length to ≡ n) where
  pub with_old_at : (v : ℕ) → v < n → slice_index (with_new to n count) v ≡ slice_index to v
  with_old_at v l = get_or_append_left to (numbers n count) 0 v (omega (arith, l, every))

  pub with_new_at : (j : ℕ) → j < count → slice_index (with_new to n count) (n + j) ≡ n + j
  with_new_at j l =
      let e : n + j ≡ length to + j = omega (arith, every) in
      ap (λ z. slice_index (with_new to n count) z) e ∙ get_or-append-add to (numbers n count) j 0 ∙ number_at n count j l

  new_at : (v : ℕ) → n ≤ v → v < n + count → slice_index (with_new to n count) v ≡ v
  new_at v l k =
      let e : n + (v - n) ≡ v = omega (arith, l) in
      ap (λ z. slice_index (with_new to n count) z) (sym e) ∙ with_new_at (v - n) (omega (arith, l, k)) ∙ e

  new_length : length (with_new to n count) ≡ n + count
  new_length = let e = numbers_length n count in let f = length-append to (numbers n count) in omega (arith, e, f, every)

module _ (a b new : List Variable) (to : List ℕ) (m : IsVariableMap a b to) where
  abbrev wider : List ℕ
  wider = with_new to (length a) (length new)

  wider_within : (v : ℕ) → v < length wider → slice_index wider v < length (b ++ new)
  wider_within v l =
      let e = m.every in
      let o = m.onto in
      let n = new_length to (length a) (length new) e in
      let f = length-append b new in
      elim (cases_lt v (length a)) [
        | inl h ↦ (let q = with_old_at to (length a) (length new) e v h in let w = m.within v (omega (arith, h, e)) in omega (arith, q, w, f))
        | inr h ↦ (let q = new_at to (length a) (length new) e v h (omega (arith, l, n)) in omega (arith, q, l, n, f, o))
      ]

  old_below : (v : ℕ) → v < length a → slice_index wider v < length a
  old_below v l =
      let e = m.every in
      let o = m.onto in
      let q = with_old_at to (length a) (length new) e v l in
      let w = m.within v (omega (arith, l, e)) in
      omega (arith, q, w, o)

  wider_one : (v w : ℕ) → v < length wider → w < length wider → slice_index wider v ≡ slice_index wider w → v ≡ w
  wider_one v w l k q = by (cases_lt v (length a)) (cases_lt w (length a))
    where
      at_new : (u : ℕ) → u < length wider → length a ≤ u → slice_index wider u ≡ u
      at_new u h g = let n = new_length to (length a) (length new) m.every in new_at to (length a) (length new) m.every u g (omega (arith, h, n))

      by : (v < length a) ⊎ (length a ≤ v) → (w < length a) ⊎ (length a ≤ w) → v ≡ w
      by (inl h) (inl g) =
          let e = m.every in
          m.one_to_one v w (omega (arith, h, e)) (omega (arith, g, e)) (sym (with_old_at to (length a) (length new) e v h) ∙ q ∙ with_old_at to (length a) (length new) e w g)
      by (inl h) (inr g) = absurd (let x = old_below v h in let y = at_new w k g in omega (arith, x, y, q, g))
      by (inr h) (inl g) = absurd (let x = old_below w g in let y = at_new v l h in omega (arith, x, y, q, h))
      by (inr h) (inr g) = sym (at_new v l h) ∙ q ∙ at_new w k g

  wider_kept : (v : ℕ) → v < length wider → slice_get (b ++ new) (slice_index wider v) ≡ slice_get (a ++ new) v
  wider_kept v l = by (cases_lt v (length a))
    where
      by : (v < length a) ⊎ (length a ≤ v) → slice_get (b ++ new) (slice_index wider v) ≡ slice_get (a ++ new) v
      by (inl h) =
          let e = m.every in
          let w = m.within v (omega (arith, h, e)) in
          ap (λ z. slice_get (b ++ new) z) (with_old_at to (length a) (length new) e v h) ∙ get_front b new (slice_index to v) w ∙ m.kept v (omega (arith, h, e)) ∙ sym (get_front a new v h)
      by (inr h) =
          let n = new_length to (length a) (length new) m.every in
          let o = m.onto in
          ap (λ z. slice_get (b ++ new) z) (new_at to (length a) (length new) m.every v h (omega (arith, l, n))) ∙ get_behind b a new v o (omega (arith, o, h))

  pub wider_map : IsVariableMap (a ++ new) (b ++ new) wider
  wider_map =
      let n = new_length to (length a) (length new) m.every in
      let f = length-append a new in
      let g = length-append b new in
      let o = m.onto in
      record { every = omega (arith, n, f); onto = omega (arith, f, g, o); within = wider_within; one_to_one = wider_one; kept = wider_kept }

-- OUTPUT
module _ (f : ℕ → ℕ) (vars moved : List ℕ) (n : ℕ) (agree : (c : ℕ) → c < n → f (slice_index vars c) ≡ slice_index moved c) where
  output_filler : (x : Filler) → IsFiller n x → moved_filler f (renamed_filler vars x) ≡ renamed_filler moved x
  output_filler (of_var c) l = ap of_var (agree c l)
  output_filler (of_text t) l = refl

  output_arguments : (xs : List Argument) → All (IsArgument n) xs → map (moved_argument f) (map (renamed_argument vars) xs) ≡ map (renamed_argument moved) xs
  output_arguments [] h = refl
  output_arguments (x ∷ xs) h =
      let e = output_filler x.filler (All-head (IsArgument n) x xs h).filler in
      let r = output_arguments xs (All-tail (IsArgument n) x xs h) in
      λ i. record { role = x.role; filler = e i } ∷ r i

  output_moved : (es : List Predication) → All (IsPredication n) es → map (moved_ep f) (map (renamed_ep vars) es) ≡ map (renamed_ep moved) es
  output_moved [] h = refl
  output_moved (e ∷ es) h =
      let is = All-head (IsPredication n) e es h in
      let l = agree e.label is.label in
      let r = output_arguments e.args is.args in
      let rs = output_moved es (All-tail (IsPredication n) e es h) in
      λ i. record { pred = e.pred; label = l i; args = r i; span = None } ∷ rs i

module _ (m k : Meaning) (to : List ℕ) (r : Rule) (s : Site) (valid : IsValid m) (is : IsRule r) (site : IsSite m r s) (same : IsRenumbering m k to) where
  abbrev count : ℕ
  count = length r.output_letters

  abbrev pub grown : List ℕ
  grown = with_new to (length m.vars) count

  abbrev at_grown : ℕ → ℕ
  at_grown v = slice_index grown v

  coreference_moved : (c : ℕ) → c < length r.letters + count → at_grown (slice_index (variables_at m r s) c) ≡ slice_index (variables_at k r (moved_site to s)) c
  coreference_moved c l = by (cases_lt c (length s.vars))
    where
      by : (c < length s.vars) ⊎ (length s.vars ≤ c) → at_grown (slice_index (variables_at m r s) c) ≡ slice_index (variables_at k r (moved_site to s)) c
      by (inl h) =
          let e = length-map s.vars (λ v. slice_index to v) in
          ap at_grown (get_or_append_left s.vars (numbers (length m.vars) count) 0 c h)
          ∙ with_old_at to (length m.vars) count same.vars.every (slice_index s.vars c) (vars_there m.vars k.vars to same.vars r.letters s.vars site.sorts c h)
          ∙ sym (at_moved to s.vars c h)
          ∙ sym (get_or_append_left (moved_vars to s.vars) (numbers (length k.vars) count) 0 c (omega (arith, e, h)))
      by (inr h) =
          let e = length-map s.vars (λ v. slice_index to v) in
          let n = zip_length (λ l v. MatchOption (slice_get m.vars v) ⊥ (HasLetters l)) r.letters s.vars site.sorts in
          let o = same.vars.onto in
          let j = c - length s.vars in
          let w : j < count = omega (arith, l, n, h) in
          let c_is : c ≡ length s.vars + j = omega (arith, h) in
          let d_is : length (moved_vars to s.vars) + j ≡ c = omega (arith, h, e) in
          ap (λ z. at_grown (slice_index (variables_at m r s) z)) c_is
          ∙ ap at_grown (get_or-append-add s.vars (numbers (length m.vars) count) j 0 ∙ number_at (length m.vars) count j w)
          ∙ with_new_at to (length m.vars) count same.vars.every j w
          ∙ ap (λ z. z + j) (sym o)
          ∙ sym (number_at (length k.vars) count j w)
          ∙ sym (get_or-append-add (moved_vars to s.vars) (numbers (length k.vars) count) j 0)
          ∙ ap (λ z. slice_index (variables_at k r (moved_site to s)) z) d_is

  old_moved : IsMoved at_grown m k
  old_moved =
      moved_same (λ v. slice_index to v) at_grown (length m.vars) (λ v l. sym (with_old_at to (length m.vars) count same.vars.every v l)) m k (valid_within m valid) (moved_by_list to m k same)

  pub rewritten_moved : (first : ℕ) → IsRenumbering (rewritten m r s first) (rewritten k r (moved_site to s) first) grown
  rewritten_moved first =
      let new = map new_variable r.output_letters in
      let gone = removed r s in
      let old = old_moved in
      let out = output_moved at_grown (variables_at m r s) (variables_at k r (moved_site to s)) (length r.letters + count) coreference_moved r.output is.output in
      renumbering_of grown (rewritten m r s first) (rewritten k r (moved_site to s) first)
      (subst (λ (z : ℕ). IsVariableMap (m.vars ++ new) (k.vars ++ new) (with_new to (length m.vars) z)) (length-map r.output_letters new_variable) (wider_map m.vars k.vars new to same.vars))
      (record {
        top = old.top;
        index = old.index;
        eps = replaced_map (moved_ep at_grown) gone first (map (renamed_ep (variables_at m r s)) r.output) m.eps ∙ ap₂ (λ xs ys. replaced gone first xs ys) out old.eps;
        hcons = old.hcons;
        icons = old.icons;
      })
