-- Where two sets have a member in common, and which such members have to be looked at.
use Rattle.std.proofs.Common.{ℕ, zero, suc, ◌≡◌, ◌≢◌, ◌≤◌, ◌<◌, ◌+◌, ◌&&◌, ◌==◌, ◌⊎◌, inl, inr, Bool, true, false, List, [], ◌∷◌, length, Vec, All, refl, sym, ◌∙◌, ap, subst, arith}
use Rattle.std.specs.Global.{Global}
use Rattle.std.specs.List.{list_all}
use Rattle.std.proofs.lemmas.Bool.{cases_lt}
use Rattle.type_hierarchy.specs.Bits.{has_bit}
use Rattle.type_hierarchy.specs.Table.{TypeTable, set_of, has_member, IsIntersection}
use Rattle.type_hierarchy.specs.Laws.{IsHierarchy}
use Rattle.type_hierarchy.specs.Inner.Tables.{row_items}
use Rattle.type_hierarchy.proofs.SetLemmas.{differ, bool_cases, eq_true, eq_of, and_left, and_right, and_both, member_bits, member_intersection, rising_filter, rising_below, some_member}
use Rattle.type_hierarchy.proofs.TypeLemmas.{set_row}
use Rattle.type_hierarchy.proofs.FamilyLemmas.{member_common}
use Rattle.glb_completion.specs.Inner.Growing.{IsUpRow, set_at, IsGrowing, IsMet, IsSpread, HasNear}
use Rattle.glb_completion.specs.Inner.Crossings.{IsRowUnder, IsUnder, HasCrossings}
use Rattle.glb_completion.proofs.GrowingLemmas.{inner_met, whole_met}

-- what the rows of the types say of the types
pub under_of : (h : TypeTable) (above : List (Vec ℕ Global)) (x p : ℕ) → x < h.written → ((t : ℕ) → t < h.written → IsUpRow h t (row_items above t)) → IsRowUnder above x p → IsUnder h x p
under_of h above x p x_in up r = record {
  earlier = r.earlier;
  over = sym (up x x_in p p_in) ∙ r.over;
  only = λ u u_in other m. sym (up p p_in u u_in) ∙ r.only u other (up x x_in u u_in ∙ m);
}
  where
    p_in : p < h.written
    p_in = omega (arith, r.earlier, x_in)

-- the row of crossings up to x, and one more
pub one_more : (h : TypeTable) (old new : List ℕ) (x : ℕ) (is_under : Bool) → ((y : ℕ) → y < x → has_bit old y ≡ false → (p : ℕ) × IsUnder h y p) → (is_under ≡ true → (p : ℕ) × IsUnder h x p) →
    (has_bit new x ≡ false → is_under ≡ true) → ((y : ℕ) → y ≢ x → has_bit new y ≡ has_bit old y) → (y : ℕ) → y < x + 1 → has_bit new y ≡ false → (p : ℕ) × IsUnder h y p
one_more h old new x is_under before here marked others y l e = go (cases_lt y x)
  where
    go : (y < x) ⊎ (x ≤ y) → (p : ℕ) × IsUnder h y p
    go (inl k) = before y k (sym (others y (λ same. omega (arith, k, same))) ∙ e)
    go (inr k) = let same : x ≡ y = omega arith in subst (λ z. (p : ℕ) × IsUnder h z p) same (here (marked (subst (λ z. has_bit new z ≡ false) (sym same) e)))

pub and_rest : (p q : Bool) → p ≡ true → (p && q) ≡ false → q ≡ false
and_rest true q e f = f
and_rest false q e f = absurd (differ false e refl)

tail_in : (n t : ℕ) (ts : List ℕ) → All (λ u. u < n) (t ∷ ts) → All (λ u. u < n) ts
tail_in n t ts r k d l = r (suc k) d (omega arith)

-- where what is right above x isn't in an intersection that has x, x is one of its types, and above all of it
pub under_all : (h : TypeTable) (x p : ℕ) → IsUnder h x p → (ts : List ℕ) → All (λ t. t < h.written) ts → list_all (λ t. has_member (set_of h t) x) ts ≡ true → list_all (λ t. has_member (set_of h t) p) ts ≡ false →
    (y : ℕ) → list_all (λ t. has_member (set_of h t) y) ts ≡ true → has_member (set_of h x) y ≡ true
under_all h x p u [] r a b y c = absurd (differ true refl b)
under_all h x p u (t ∷ ts) r a b y c = go (bool_cases (has_member (set_of h t) p)) (bool_cases (t == x))
    (λ q. under_all h x p u ts (tail_in h.written t ts r) (and_right (has_member (set_of h t) x) _ a) (and_rest (has_member (set_of h t) p) _ q b) y (and_right (has_member (set_of h t) y) _ c))
  where
    go : (has_member (set_of h t) p ≡ true) ⊎ (has_member (set_of h t) p ≡ false) → ((t == x) ≡ true) ⊎ ((t == x) ≡ false) → (has_member (set_of h t) p ≡ true → has_member (set_of h x) y ≡ true) → has_member (set_of h x) y ≡ true
    go (inl q) _ ih = ih q
    go (inr q) (inl e) ih = subst (λ z. has_member (set_of h z) y ≡ true) (eq_of t x e) (and_left (has_member (set_of h t) y) _ c)
    go (inr q) (inr e) ih = absurd (differ _ (u.only t (r 0 0 (omega arith)) (λ same. differ _ (ap (λ z. z == x) same ∙ eq_true x) e) (and_left (has_member (set_of h t) x) _ a)) q)

-- a type that shares no crossing member is met: from a member in common one goes up to a crossing one, to the type itself, or past the set
module _ (h : TypeTable) (laws : IsHierarchy h) (keys above : List (Vec ℕ Global)) (at t : ℕ) (cross : List ℕ) (g : IsGrowing h keys above) (in_at : at < length keys) (in_t : t < h.written) (crossed : HasCrossings h cross)
    (far : (x : ℕ) → x < h.written → has_bit (row_items keys at) x ≡ true → has_bit cross x ≡ true → has_member (set_of h t) x ≡ true → ⊥) where
  i : IsIntersection h (set_at h keys at)
  i = g.intersections at in_at

  in_all : (x : ℕ) → x < h.written → has_bit (row_items keys at) x ≡ list_all (λ u. has_member (set_of h u) x) i.types
  in_all x l = sym (member_bits h.written (row_items keys at) x l) ∙ ap (λ s. has_member s x) (sym (set_row h.written keys at in_at)) ∙ ap (λ s. has_member s x) i.is_common ∙ member_common h i.types x l

  climb : (fuel x : ℕ) → x < fuel → x < h.written → has_bit (row_items keys at) x ≡ true → has_member (set_of h t) x ≡ true → IsMet h keys at t
  climb zero x l x_in a m = absurd (omega arith)
  climb (suc fuel) x l x_in a m = go (bool_cases (has_bit cross x)) (λ p k p_in b n'. climb fuel p k p_in b n')
    where
      up : (p : ℕ) → IsUnder h x p → ((t == x) ≡ true) ⊎ ((t == x) ≡ false) → (has_bit (row_items keys at) p ≡ true) ⊎ (has_bit (row_items keys at) p ≡ false) →
          ((q : ℕ) → q < fuel → q < h.written → has_bit (row_items keys at) q ≡ true → has_member (set_of h t) q ≡ true → IsMet h keys at t) → IsMet h keys at t
      up p u (inl e) _ ih = inner_met h laws keys above at t g in_at in_t (subst (λ z. has_bit (row_items keys at) z ≡ true) (sym (eq_of t x e)) a)
      up p u (inr e) (inl b) ih = ih p (omega (arith, l, u.earlier)) (omega (arith, x_in, u.earlier)) b (u.only t in_t (λ same. differ _ (ap (λ z. z == x) same ∙ eq_true x) e) m)
      up p u (inr e) (inr b) ih =
          let p_in : p < h.written = omega (arith, x_in, u.earlier) in
          whole_met h keys above at t g in_at (λ y y_in s. laws.order.down x t y x_in (omega (arith, in_t, laws.order.written_first)) m
          (under_all h x p u i.types i.in_range (sym (in_all x x_in) ∙ a) (sym (in_all p p_in) ∙ b) y (sym (in_all y y_in) ∙ s)))

      go : (has_bit cross x ≡ true) ⊎ (has_bit cross x ≡ false) →
          ((q : ℕ) → q < fuel → q < h.written → has_bit (row_items keys at) q ≡ true → has_member (set_of h t) q ≡ true → IsMet h keys at t) → IsMet h keys at t
      go (inl c) ih = absurd (far x x_in a c m)
      go (inr c) ih = let u = crossed x x_in c in up u.0 u.1 (bool_cases (t == x)) (bool_cases (has_bit (row_items keys at) u.0)) ih

  pub far_met : IsMet h keys at t
  far_met ne =
      let s = some_member _ ne in
      let both = sym (member_intersection (set_at h keys at) (set_of h t) s.0) ∙ s.1 in
      let in_key = ap (λ q. has_member q s.0) (sym (set_row h.written keys at in_at)) ∙ and_right (has_member (set_of h t) s.0) _ both in
      let x_in = rising_below h.written _ s.0 (rising_filter (λ y. has_bit (row_items keys at) y) h.written) in_key in
      climb (s.0 + 1) s.0 (omega arith) x_in (sym (member_bits h.written (row_items keys at) s.0 x_in) ∙ in_key) (and_left (has_member (set_of h t) s.0) _ both) ne

-- a type that isn't near is met
pub near_met : (h : TypeTable) (laws : IsHierarchy h) (keys above : List (Vec ℕ Global)) (at t : ℕ) (cross shared near : List ℕ) → IsGrowing h keys above → at < length keys → t < h.written → HasCrossings h cross →
    ((x : ℕ) → has_bit shared x ≡ (has_bit (row_items keys at) x && has_bit cross x)) → HasNear h shared near → has_bit near t ≡ false → IsMet h keys at t
near_met h laws keys above at t cross shared near g in_at in_t crossed shares n none =
    far_met h laws keys above at t cross g in_at in_t crossed (λ x x_in a c m. differ _ (n x t x_in in_t (shares x ∙ and_both (has_bit (row_items keys at) x) (has_bit cross x) a c) m) none)

-- where no member is a crossing one, all types are met
pub apart_spread : (h : TypeTable) (laws : IsHierarchy h) (keys above : List (Vec ℕ Global)) (at : ℕ) (set cross : List ℕ) → IsGrowing h keys above → at < length keys → HasCrossings h cross → set ≡ row_items keys at →
    ((x : ℕ) → (has_bit set x && has_bit cross x) ≡ false) → IsSpread h keys at
apart_spread h laws keys above at set cross g in_at crossed seen apart t in_t =
    far_met h laws keys above at t cross g in_at in_t crossed (λ x x_in a c m. differ _ (and_both (has_bit set x) (has_bit cross x) (ap (λ q. has_bit q x) seen ∙ a) c) (apart x))

-- where no crossing member is below a written type, all types are met
pub over_spread : (h : TypeTable) (laws : IsHierarchy h) (keys above : List (Vec ℕ Global)) (at : ℕ) (cross over : List ℕ) → IsGrowing h keys above → at < length keys → at < h.written → HasCrossings h cross → HasNear h cross over →
    has_bit over at ≡ false → IsSpread h keys at
over_spread h laws keys above at cross over g in_at at_written crossed n none t in_t =
    far_met h laws keys above at t cross g in_at in_t crossed (λ x x_in a c m. differ _ (n x at x_in at_written c (ap (λ s. has_member s x) (sym (g.written at at_written))
    ∙ ap (λ s. has_member s x) (set_row h.written keys at in_at) ∙ member_bits h.written (row_items keys at) x x_in ∙ a)) none)
