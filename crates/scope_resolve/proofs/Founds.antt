-- Readings that come to those that were found.
use Rattle.std.proofs.Common.{ℕ, ◌≡◌, ◌<◌, ◌≤◌, ◌⊎◌, inl, inr, ◌∙◌, Bool, true, false, List, [], ◌∷◌, ◌++◌, append_assoc, append-nil, length, refl, sym, ap, subst}
use Rattle.std.specs.Prelude.{Contains}
use Rattle.std.proofs.lemmas.List.Elements.{Contains-append_left, Contains-append_right, Contains-append_cases}
use Rattle.scope_model.specs.Frames.{Frame}
use Rattle.scope_model.specs.Readings.{Plugged, IsReading}
use Rattle.scope_model.proofs.Lists.{In, in_of, contains_of}
use Rattle.scope_resolve.specs.Inner.Filling.{AreDistinct, AreFound}

distinct_both : (xs ys : List Plugged) → AreDistinct xs → AreDistinct ys → ((p : Plugged) → Contains xs p → Contains ys p → ⊥) → AreDistinct (xs ++ ys)
distinct_both [] ys a b apart = b
distinct_both (x ∷ xs) ys a b apart =
    (λ c. by_side (Contains-append_cases xs ys x c), distinct_both xs ys a.1 b (λ p c d. apart p (contains_of (x ∷ xs) p (inr (in_of xs p c))) d))
  where
    by_side : Contains xs x ⊎ Contains ys x → ⊥
    by_side (inl c) = a.0 c
    by_side (inr c) = apart x (contains_of (x ∷ xs) x (inl refl)) c

module _ (f : Frame) (max : ℕ) where
  -- no reading is of the kind
  pub found_none : (P : Plugged → Type 0) (old : List Plugged) → ((p : Plugged) → IsReading f p → P p → ⊥) → AreFound f P max true old old
  found_none P old never = record {
    more = [];
    is = sym (append-nil old);
    are = λ p c. absurd (in_of [] p c);
    once = tt;
    all = λ y p r h. absurd (never p r h);
    over = λ y. absurd (cc);
    few = λ y l. l;
  }

  -- those of one kind, and then those of another
  pub found_on : (P Q R : Plugged → Type 0) (done : Bool) (old mid new : List Plugged) → AreFound f P max true old mid → AreFound f Q max done mid new
      → ((p : Plugged) → P p → Q p → ⊥) → ((p : Plugged) → P p → R p) → ((p : Plugged) → Q p → R p) → (done ≡ true → (p : Plugged) → IsReading f p → R p → P p ⊎ Q p) → AreFound f R max done old new
  found_on P Q R done old mid new a b apart left right split = record {
    more = a.more ++ b.more;
    is = b.is ∙ (ap (λ (l : List Plugged). l ++ b.more) a.is ∙ append_assoc old a.more b.more);
    are = λ p c. by_place p (Contains-append_cases a.more b.more p c);
    once = distinct_both a.more b.more a.once b.once (λ p c d. apart p (a.are p c).1 (b.are p d).1);
    all = λ y p r h. by_kind y p r (split y p r h);
    over = b.over;
    few = λ y l. b.few y (a.few refl l);
  }
    where
      by_place : (p : Plugged) → Contains a.more p ⊎ Contains b.more p → IsReading f p × R p
      by_place p (inl c) = let w = a.are p c in (w.0, left p w.1)
      by_place p (inr c) = let w = b.are p c in (w.0, right p w.1)

      by_kind : done ≡ true → (p : Plugged) → IsReading f p → P p ⊎ Q p → Contains (a.more ++ b.more) p
      by_kind y p r (inl h) = Contains-append_left a.more b.more p (a.all refl p r h)
      by_kind y p r (inr h) = Contains-append_right a.more b.more p (b.all y p r h)

  -- the same readings by another name
  pub found_as : (P Q : Plugged → Type 0) (done : Bool) (old new : List Plugged) → ((p : Plugged) → P p → Q p) → ((p : Plugged) → IsReading f p → Q p → P p) → AreFound f P max done old new → AreFound f Q max done old new
  found_as P Q done old new to back a = record {
    more = a.more;
    is = a.is;
    are = λ p c. (let w = a.are p c in (w.0, to p w.1));
    once = a.once;
    all = λ y p r h. a.all y p r (back p r h);
    over = a.over;
    few = a.few;
  }

  -- one reading
  pub found_one : (P : Plugged → Type 0) (done : Bool) (old new : List Plugged) (q : Plugged) → new ≡ old ++ q ∷ [] → IsReading f q → P q → ((p : Plugged) → IsReading f p → P p → p ≡ q) → (done ≡ false → max < length new) → (done ≡ true → length new ≤ max) → AreFound f P max done old new
  found_one P done old new q e r h one over few = record {
    more = q ∷ [];
    is = e;
    are = λ p c. by_place p (in_of (q ∷ []) p c);
    once = (λ c. in_of [] q c, tt);
    all = λ y p s k. contains_of (q ∷ []) p (inl (one p s k));
    over = over;
    few = λ y l. few y;
  }
    where
      by_place : (p : Plugged) → In p (q ∷ []) → IsReading f p × P p
      by_place p (inl d) = (subst (IsReading f) (sym d) r, subst P (sym d) h)
      by_place p (inr i) = absurd i
