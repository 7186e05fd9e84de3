-- One set of the list met with each type.
use Rattle.std.proofs.Common.{ℕ, ◌≡◌, ◌≢◌, ◌≤◌, ◌<◌, ◌+◌, ◌-◌, ◌*◌, ◌/◌, ◌&&◌, ◌||◌, not, ◌⊎◌, inl, inr, Bool, true, false, List, [], length, Vec, Contains, sym, ◌∙◌, ap, subst, arith}
use Rattle.std.specs.Global.{Global}
use Rattle.std.proofs.lemmas.Bool.{cases_lt}
use Rattle.std.proofs.lemmas.List.{length-map, get_or_default}
use Rattle.type_hierarchy.specs.Bits.{has_bit, bits_below, IsRow}
use Rattle.type_hierarchy.specs.Table.{TypeTable, set_of, has_member, intersection}
use Rattle.type_hierarchy.specs.Laws.{IsHierarchy}
use Rattle.type_hierarchy.specs.Inner.Tables.{sets_of, row_items}
use Rattle.type_hierarchy.proofs.SetLemmas.{differ, bool_cases, and_left, and_right, and_both, or_cases, or_left, or_right, member_bits, member_intersection, not_empty}
use Rattle.type_hierarchy.proofs.TypeLemmas.{set_row}
use Rattle.glb_completion.specs.Completion.{most_completed, HasTooMany, IsCompleteFault}
use Rattle.glb_completion.specs.declared.complete_fault.CompleteFault.{CompleteFault}
use Rattle.glb_completion.specs.declared.complete_fault.CompleteFault.TheVariants.{TooManyTypes, NoMemory}
use Rattle.glb_completion.specs.Inner.Growing.{IsUpRow, set_at, IsGrowing, StartsWith, IsMet, HasNear, IsFull}
use Rattle.glb_completion.proofs.GrowingLemmas.{split, common_set, HasGrown, apart_met, inner_met, outer_met, still_in, set_kept, starts_on, met_on}

-- one more type from which the near ones are reached
pub record IsNearing (h : TypeTable) (set near : List ℕ) (x : ℕ) : Type 0 where
  pub closed : (y z : ℕ) → y < h.written → z < h.written → has_bit near y ≡ true → has_member (set_of h z) y ≡ true → has_bit near z ≡ true
  pub covered : (y : ℕ) → x ≤ y → y < h.written → has_bit set y ≡ true → has_bit near y ≡ true

pub nearer : (h : TypeTable) (laws : IsHierarchy h) (set near up new : List ℕ) (x x' : ℕ) → x ≡ x' + 1 → x' < h.written → IsNearing h set near x → IsUpRow h x' up →
    ((y : ℕ) → has_bit new y ≡ (has_bit near y || has_bit up y)) → IsNearing h set new x'
nearer h laws set near up new x x' e x_in n u is = record {
  closed = λ y z y_in z_in m k. is z ∙ closed y z y_in z_in k (or_cases (has_bit near y) _ (sym (is y) ∙ m));
  covered = λ y low y_in s. is y ∙ covered y low y_in s (cases_lt x' y);
}
  where
    closed : (y z : ℕ) → y < h.written → z < h.written → has_member (set_of h z) y ≡ true → (has_bit near y ≡ true) ⊎ (has_bit up y ≡ true) → (has_bit near z || has_bit up z) ≡ true
    closed y z y_in z_in k (inl m) = or_left (has_bit near z) _ (n.closed y z y_in z_in m k)
    closed y z y_in z_in k (inr m) = or_right (has_bit near z) _ (u z z_in ∙ laws.order.down y z x' y_in (omega (arith, z_in, laws.order.written_first)) k (sym (u y y_in) ∙ m))

    covered : (y : ℕ) → x' ≤ y → y < h.written → has_bit set y ≡ true → (x' < y) ⊎ (y ≤ x') → (has_bit near y || has_bit up y) ≡ true
    covered y low y_in s (inl l) = or_left (has_bit near y) _ (n.covered y (omega arith) y_in s)
    covered y low y_in s (inr l) = or_right (has_bit near y) _ (u y y_in ∙ own)
      where
        same : y ≡ x'
        same = omega arith

        own : has_member (set_of h y) x' ≡ true
        own = subst (λ z. has_member (set_of h y) z ≡ true) same (laws.order.own y y_in)

pub nearing_keeps : (h : TypeTable) (set near : List ℕ) (x x' : ℕ) → x ≡ x' + 1 → IsNearing h set near x → (has_bit set x' ≡ true → has_bit near x' ≡ true) → IsNearing h set near x'
nearing_keeps h set near x x' e n here = record {
  closed = n.closed;
  covered = λ y low y_in s. go y low y_in s (cases_lt x' y);
}
  where
    go : (y : ℕ) → x' ≤ y → y < h.written → has_bit set y ≡ true → (x' < y) ⊎ (y ≤ x') → has_bit near y ≡ true
    go y low y_in s (inl l) = n.covered y (omega arith) y_in s
    go y low y_in s (inr l) = let same : x' ≡ y = omega arith in subst (λ z. has_bit near z ≡ true) same (here (subst (λ z. has_bit set z ≡ true) (sym same) s))

-- a word whose members are all near
pub nearing_passed : (h : TypeTable) (set near : List ℕ) (x word : ℕ) → 0 < x → word ≡ (x - 1) / 64 → ((y : ℕ) → y / 64 ≡ word → has_bit set y ≡ true → has_bit near y ≡ true) → IsNearing h set near x → IsNearing h set near (64 * word)
nearing_passed h set near x word some is all n = record {
  closed = n.closed;
  covered = λ y low y_in s. go y low y_in s (cases_lt y x);
}
  where
    go : (y : ℕ) → 64 * word ≤ y → y < h.written → has_bit set y ≡ true → (y < x) ⊎ (x ≤ y) → has_bit near y ≡ true
    go y low y_in s (inr l) = n.covered y l y_in s
    go y low y_in s (inl l) = all y (omega arith) s

pub near_of : (h : TypeTable) (set near : List ℕ) (x : ℕ) → x ≡ 0 → IsNearing h set near x → HasNear h set near
near_of h set near x e n y t y_in t_in s m = n.closed y t y_in t_in (n.covered y (omega arith) y_in s) m

pub nearing_starts : (h : TypeTable) (set near : List ℕ) (x : ℕ) → x ≡ h.written → ((y : ℕ) → has_bit near y ≡ false) → IsNearing h set near x
nearing_starts h set near x e none = record {
  closed = λ y z y_in z_in m k. absurd (differ _ m (none y));
  covered = λ y low y_in s. absurd (omega arith);
}

-- two rows with a member in common
pub have_common : (h : TypeTable) (laws : IsHierarchy h) (keys : List (Vec ℕ Global)) (at t : ℕ) (set other : List ℕ) (p : Bool) → at < length keys → set ≡ row_items keys at → IsRow h.written set →
    ((x : ℕ) → x < h.written → has_bit other x ≡ has_member (set_of h t) x) → p ≡ false → (((x : ℕ) → (has_bit set x && has_bit other x) ≡ false) → p ≡ true) →
    intersection (set_at h keys at) (set_of h t) ≢ []
have_common h laws keys at t set other p in_at is row e no_ f empty = differ _ (f (λ x. apart x (cases_lt x h.written))) no_
  where
    apart : (x : ℕ) → (x < h.written) ⊎ (h.written ≤ x) → (has_bit set x && has_bit other x) ≡ false
    apart x (inr l) = ap (λ b. b && has_bit other x) (row.none_past x l)
    apart x (inl l) = go (bool_cases (has_bit set x && has_bit other x))
      where
        go : ((has_bit set x && has_bit other x) ≡ true) ⊎ ((has_bit set x && has_bit other x) ≡ false) → (has_bit set x && has_bit other x) ≡ false
        go (inr m) = m
        go (inl m) = absurd (not_empty _ x (member_intersection (set_at h keys at) (set_of h t) x
            ∙ and_both (has_member (set_of h t) x) _ (sym (e x l) ∙ and_right (has_bit set x) _ m)
            (ap (λ s. has_member s x) (set_row h.written keys at in_at) ∙ member_bits h.written (row_items keys at) x l ∙ ap (λ q. has_bit q x) (sym is) ∙ and_left (has_bit set x) _ m)) empty)

pub disjoint_met : (h : TypeTable) (laws : IsHierarchy h) (keys : List (Vec ℕ Global)) (at t : ℕ) (set other : List ℕ) → at < length keys → set ≡ row_items keys at →
    ((x : ℕ) → x < h.written → has_bit other x ≡ has_member (set_of h t) x) → ((x : ℕ) → (has_bit set x && has_bit other x) ≡ false) → IsMet h keys at t
disjoint_met h laws keys at t set other in_at is e apart =
    apart_met h laws keys at t in_at (λ x l a m. differ _ (and_both (has_bit set x) (has_bit other x) (ap (λ q. has_bit q x) is ∙ a) (e x l ∙ m)) (apart x))

-- what is in common is in the list already
pub known_met : (h : TypeTable) (laws : IsHierarchy h) (keys : List (Vec ℕ Global)) (at t k : ℕ) (row other : List ℕ) → at < length keys → t < h.written → k < length keys → row_items keys k ≡ row →
    ((x : ℕ) → has_bit row x ≡ (has_bit (row_items keys at) x && has_bit other x)) → ((x : ℕ) → x < h.written → has_bit other x ≡ has_member (set_of h t) x) → IsMet h keys at t
known_met h laws keys at t k row other in_at in_t l same e f ne = (
  k,
  size,
  get_or_default (sets_of h.written keys) k _ [] size ∙ set_row h.written keys k l ∙ ap (bits_below h.written) same ∙ common_set h laws row (row_items keys at) other t in_t e f
      ∙ ap (λ s. intersection s (set_of h t)) (sym (set_row h.written keys at in_at)),
)
  where
    size : k < length (sets_of h.written keys)
    size = omega (arith, l, length-map keys (λ x. bits_below h.written x.items))

pub met_of_grown : (h : TypeTable) (keys above keys' above' : List (Vec ℕ Global)) (at t : ℕ) → at < length keys → HasGrown h keys above keys' above' (intersection (set_at h keys at) (set_of h t)) → IsMet h keys' at t
met_of_grown h keys above keys' above' at t in_at g _ =
    subst (λ q. Contains (sets_of h.written keys') (intersection q (set_of h t))) (sym (set_kept h keys' keys at g.starts in_at)) g.has

pub full_fault : (h : TypeTable) (keys : List (Vec ℕ Global)) (row : List ℕ) → (((k : ℕ) → k < length keys → row_items keys k ≢ row) → most_completed ≤ length keys → HasTooMany h) → (e : CompleteFault) → IsFull keys row e → IsCompleteFault h e
full_fault h keys row f TooManyTypes full = f full.0 full.1
full_fault h keys row f NoMemory full = tt

-- the work on one set
pub record IsSpreading (h : TypeTable) (first keys above : List (Vec ℕ Global)) (at t : ℕ) : Type 0 where
  pub growing : IsGrowing h keys above
  pub more : StartsWith keys first
  pub met : (u : ℕ) → u < t → IsMet h keys at u

pub spreading_same : (h : TypeTable) (first keys above : List (Vec ℕ Global)) (at t : ℕ) → IsSpreading h first keys above at t → IsMet h keys at t → IsSpreading h first keys above at (t + 1)
spreading_same h first keys above at t s m = record { growing = s.growing; more = s.more; met = λ u l. go u (split u t l) }
  where
    go : (u : ℕ) → (u < t) ⊎ (t ≡ u) → IsMet h keys at u
    go u (inl l) = s.met u l
    go u (inr l) = subst (IsMet h keys at) l m

pub spreading_more : (h : TypeTable) (first keys above keys' above' : List (Vec ℕ Global)) (at t : ℕ) → at < length first → IsSpreading h first keys above at t → IsGrowing h keys' above' → StartsWith keys' keys → IsMet h keys' at t →
    IsSpreading h first keys' above' at (t + 1)
spreading_more h first keys above keys' above' at t in_at s g st m =
    spreading_same h first keys' above' at t (record { growing = g; more = starts_on first keys keys' s.more st; met = λ u l. met_on h keys' keys at u st (still_in keys first at s.more in_at) (s.met u l) }) m

pub closed_met : (h : TypeTable) (laws : IsHierarchy h) (keys above : List (Vec ℕ Global)) (at t : ℕ) (p : Bool) → at < length keys → t < h.written → IsGrowing h keys above →
    p ≡ false → p ≡ (not (has_bit (row_items keys at) t) && not (has_bit (row_items above at) t)) → IsMet h keys at t
closed_met h laws keys above at t p in_at in_t g no_ is = go (bool_cases (has_bit (row_items keys at) t)) (bool_cases (has_bit (row_items above at) t))
  where
    go : (has_bit (row_items keys at) t ≡ true) ⊎ (has_bit (row_items keys at) t ≡ false) → (has_bit (row_items above at) t ≡ true) ⊎ (has_bit (row_items above at) t ≡ false) → IsMet h keys at t
    go (inl a) _ = inner_met h laws keys above at t g in_at in_t a
    go (inr a) (inl b) = outer_met h laws keys above at t g in_at in_t b
    go (inr a) (inr b) = absurd (differ _ (is ∙ and_both (not (has_bit (row_items keys at) t)) (not (has_bit (row_items above at) t)) (ap not a) (ap not b)) no_)

-- types that are met are passed over
pub spreading_passed : (h : TypeTable) (first keys above : List (Vec ℕ Global)) (at from to : ℕ) (near : List ℕ) → at < length first → to ≤ h.written →
    ((t : ℕ) → t < h.written → has_bit near t ≡ false → IsMet h first at t) → ((t : ℕ) → from ≤ t → t < to → has_bit near t ≡ false) →
    IsSpreading h first keys above at from → IsSpreading h first keys above at to
spreading_passed h first keys above at from to near in_at within passed none s = record { growing = s.growing; more = s.more; met = λ t l. go t l (cases_lt t from) }
  where
    go : (t : ℕ) → t < to → (t < from) ⊎ (from ≤ t) → IsMet h keys at t
    go t l (inl before) = s.met t before
    go t l (inr after) = met_on h keys first at t s.more in_at (passed t (omega (arith, l, within)) (none t after l))
