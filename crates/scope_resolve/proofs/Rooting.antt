-- The readings from each root.
use Rattle.std.proofs.Common.{ℕ, ◌≡◌, ◌<◌, ◌≤◌, ◌+◌, ◌⊎◌, inl, inr, ◌∙◌, Bool, true, false, List, [], ◌∷◌, ◌++◌, length, get_or, take, refl, sym, ap, subst}
use Rattle.std.specs.Prelude.{Contains, reverse}
use Rattle.std.proofs.lemmas.List.{take_more}
use Rattle.std.proofs.lemmas.List.Elements.{Contains-append_left, Contains-append_cases}
use Rattle.scope_model.specs.Frames.{Frame}
use Rattle.scope_model.specs.Readings.{Plugged, IsLabel}
use Rattle.scope_model.specs.States.{IsTrail, IsWellPlugged}
use Rattle.scope_model.proofs.Lists.{In, in_of, contains_of}
use Rattle.scope_resolve.specs.declared.nets.Net.{Net}
use Rattle.scope_resolve.specs.declared.trail.Trail.{Trail}
use Rattle.scope_resolve.specs.Inner.Nets.{IsNet, frame_in}
use Rattle.scope_resolve.specs.Inner.Filling.{IsGoing, path, state_of, AreFound, GoesOn, HasRoot, HasRootIn, IsAny}
use Rattle.scope_resolve.proofs.Founds.{found_none, found_on, found_as}
use Rattle.scope_resolve.proofs.Steps.{once_at}
use Rattle.scope_resolve.proofs.Tests.{take_whole}

module _ (f : Frame) (t : Trail) (none : t.plugs.items ≡ []) where
  no_path : path t ≡ []
  no_path = ap reverse none

  pub going_first : IsLabel f t.root → IsGoing f t
  going_first is = record {
    trail = subst (IsTrail f t.root) (sym no_path) tt;
    well = subst (IsWellPlugged f t.root) (sym no_path) (record { top = is; labels = λ k c. absurd (in_of [] k c); own = λ k c. absurd (in_of [] k c) });
  }

  pub found_root : (max : ℕ) (done : Bool) (old new : List Plugged) → AreFound f (GoesOn (state_of t)) max done old new → AreFound f (HasRoot t.root) max done old new
  found_root max done old new a = found_as f max (GoesOn (state_of t)) (HasRoot t.root) done old new (λ p x. x.root)
      (λ p r h. record { root = h; plugs = λ k c. absurd (in_of [] k (subst (λ ks. Contains ks k) no_path c)) }) a

module _ (n : Net) (net : IsNet n) (max : ℕ) where
  abbrev f : Frame
  f = frame_in n.parts

  abbrev ls : List ℕ
  ls = n.labels.items

  pub first_none : (old : List Plugged) → AreFound f (HasRootIn []) max true old old
  first_none old = found_none f max (HasRootIn []) old (λ p r h. in_of [] p.top h)

  apart : (i l : ℕ) → i < length ls → l ≡ get_or ls i 0 → (p : Plugged) → HasRootIn (take i ls) p → HasRoot l p → ⊥
  apart i l lt e p a b = once_at ls i net.once lt (subst (λ v. In v (take i ls)) (b ∙ e) (in_of (take i ls) p.top a))

  pub one_on : (i l : ℕ) (old mid new : List Plugged) → i < length ls → l ≡ get_or ls i 0 → AreFound f (HasRootIn (take i ls)) max true old mid → AreFound f (HasRoot l) max true mid new → AreFound f (HasRootIn (take (i + 1) ls)) max true old new
  one_on i l old mid new lt e a b =
      subst (λ ks. AreFound f (HasRootIn ks) max true old new) (sym (take_more ls i 0 lt ∙ ap (λ v. take i ls ++ v ∷ []) (sym e)))
      (found_on f max (HasRootIn (take i ls)) (HasRoot l) (HasRootIn (take i ls ++ l ∷ [])) true old mid new a b (apart i l lt e)
      (λ p h. Contains-append_left (take i ls) (l ∷ []) p.top h)
      (λ p h. contains_of (take i ls ++ l ∷ []) p.top (subst (λ v. In v (take i ls ++ l ∷ [])) (sym h) (at_end (take i ls) l)))
      (λ y p r h. by_side p (Contains-append_cases (take i ls) (l ∷ []) p.top h)))
    where
      at_end : (xs : List ℕ) (v : ℕ) → In v (xs ++ v ∷ [])
      at_end [] v = inl refl
      at_end (x ∷ xs) v = inr (at_end xs v)

      by_side : (p : Plugged) → Contains (take i ls) p.top ⊎ Contains (l ∷ []) p.top → HasRootIn (take i ls) p ⊎ HasRoot l p
      by_side p (inl c) = inl c
      by_side p (inr c) = inr (by_only (in_of (l ∷ []) p.top c))
        where
          by_only : In p.top (l ∷ []) → p.top ≡ l
          by_only (inl d) = d
          by_only (inr j) = absurd j

  pub one_over : (i l : ℕ) (old mid new : List Plugged) → i < length ls → l ≡ get_or ls i 0 → AreFound f (HasRootIn (take i ls)) max true old mid → AreFound f (HasRoot l) max false mid new → AreFound f IsAny max false old new
  one_over i l old mid new lt e a b = found_on f max (HasRootIn (take i ls)) (HasRoot l) IsAny false old mid new a b (apart i l lt e) (λ p h. tt) (λ p h. tt) (λ y. absurd (cc))

  pub one_end : (i : ℕ) (old new : List Plugged) → length ls ≤ i → AreFound f (HasRootIn (take i ls)) max true old new → AreFound f IsAny max true old new
  one_end i old new l a =
      found_as f max (HasRootIn ls) IsAny true old new (λ p h. tt) (λ p r h. (net.labels p.top).1 r.plugging.top) (subst (λ ks. AreFound f (HasRootIn ks) max true old new) (take_whole ls i l) a)
