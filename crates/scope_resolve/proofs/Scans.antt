-- One pass over the plugs, the last one first.
use Rattle.std.proofs.Common.{ℕ, ◌≡◌, ◌≢◌, ◌-◌, ◌<◌, ◌≤◌, ◌∙◌, Bool, true, false, List, [], ◌∷◌, length, get_or, take, sym, ap, ◌==◌}
use Rattle.std.specs.Prelude.{if◌then◌else◌, reverse, slice_index, slice_index_or, Some}
use Rattle.std.proofs.lemmas.Bool.{eq-eqb, ne_eqb}
use Rattle.scope_model.specs.declared.Plug.{Plug}
use Rattle.scope_resolve.specs.Inner.Ways.{placed_in, plugged_at, is_on_way, is_by_bodies}
use Rattle.scope_resolve.proofs.Tests.{yes, no, back}

module _ (xs : List Plug) (i : ℕ) (x : Plug) (some : 0 < i) (within : i ≤ length xs) (is : x ≡ get_or xs (i - 1) x) where
  abbrev rest : List Plug
  rest = reverse (take (i - 1) xs)

  split : reverse (take i xs) ≡ x ∷ rest
  split = back xs i x some within is

  pub has_yes : (l : ℕ) → placed_in l (reverse xs) ≡ placed_in l (reverse (take i xs)) → x.label ≡ l → true ≡ placed_in l (reverse xs)
  has_yes l s e = sym (s ∙ (ap (placed_in l) split ∙ yes (x.label == l) true (placed_in l rest) (eq-eqb x.label l e)))

  pub has_on : (l : ℕ) → placed_in l (reverse xs) ≡ placed_in l (reverse (take i xs)) → x.label ≢ l → placed_in l (reverse xs) ≡ placed_in l rest
  has_on l s e = s ∙ (ap (placed_in l) split ∙ no (x.label == l) true (placed_in l rest) (ne_eqb x.label l e))

  pub at_yes : (h : ℕ) → plugged_at h (reverse xs) ≡ plugged_at h (reverse (take i xs)) → x.hole ≡ h → Some x.label ≡ plugged_at h (reverse xs)
  at_yes h s e = sym (s ∙ (ap (plugged_at h) split ∙ yes (x.hole == h) (Some x.label) (plugged_at h rest) (eq-eqb x.hole h e)))

  pub at_on : (h : ℕ) → plugged_at h (reverse xs) ≡ plugged_at h (reverse (take i xs)) → x.hole ≢ h → plugged_at h (reverse xs) ≡ plugged_at h rest
  at_on h s e = s ∙ (ap (plugged_at h) split ∙ no (x.hole == h) (Some x.label) (plugged_at h rest) (ne_eqb x.hole h e))

  module _ (owner : List ℕ) (h l at : ℕ) (s : is_on_way owner h l (reverse xs) ≡ is_on_way owner h at (reverse (take i xs))) where
    abbrev upper : Bool
    upper = is_on_way owner h (slice_index owner x.hole) rest

    way_in : x.label ≡ at → is_on_way owner h l (reverse xs) ≡ (if x.hole == h then true else upper)
    way_in e = s ∙ (ap (is_on_way owner h at) split ∙ yes (x.label == at) (if x.hole == h then true else upper) (is_on_way owner h at rest) (eq-eqb x.label at e))

    pub way_yes : x.label ≡ at → x.hole ≡ h → true ≡ is_on_way owner h l (reverse xs)
    way_yes e k = sym (way_in e ∙ yes (x.hole == h) true upper (eq-eqb x.hole h k))

    pub way_up : x.label ≡ at → x.hole ≢ h → is_on_way owner h l (reverse xs) ≡ upper
    way_up e k = way_in e ∙ no (x.hole == h) true upper (ne_eqb x.hole h k)

    pub way_on : x.label ≢ at → is_on_way owner h l (reverse xs) ≡ is_on_way owner h at rest
    way_on e = s ∙ (ap (is_on_way owner h at) split ∙ no (x.label == at) (if x.hole == h then true else upper) (is_on_way owner h at rest) (ne_eqb x.label at e))

  module _ (owner : List ℕ) (bodies : List Bool) (a l at : ℕ) (s : is_by_bodies owner bodies a l (reverse xs) ≡ is_by_bodies owner bodies a at (reverse (take i xs))) (other : a ≢ at) where
    abbrev above : Bool
    above = is_by_bodies owner bodies a (slice_index owner x.hole) rest

    abbrev marked : Bool
    marked = slice_index_or bodies x.hole false

    abbrev beside : Bool
    beside = is_by_bodies owner bodies a at rest

    first : is_by_bodies owner bodies a l (reverse xs) ≡ (if x.label == at then (if marked then above else false) else beside)
    first = s ∙ (ap (is_by_bodies owner bodies a at) split ∙ no (a == at) true (if x.label == at then (if marked then above else false) else beside) (ne_eqb a at other))

    by_in : x.label ≡ at → is_by_bodies owner bodies a l (reverse xs) ≡ (if marked then above else false)
    by_in e = first ∙ yes (x.label == at) (if marked then above else false) beside (eq-eqb x.label at e)

    pub by_none : x.label ≡ at → marked ≡ false → false ≡ is_by_bodies owner bodies a l (reverse xs)
    by_none e k = sym (by_in e ∙ no marked above false k)

    pub by_up : x.label ≡ at → marked ≡ true → is_by_bodies owner bodies a l (reverse xs) ≡ above
    by_up e k = by_in e ∙ yes marked above false k

    pub by_on : x.label ≢ at → is_by_bodies owner bodies a l (reverse xs) ≡ beside
    by_on e = first ∙ no (x.label == at) (if marked then above else false) beside (ne_eqb x.label at e)

pub by_here : (owner : List ℕ) (bodies : List Bool) (a l : ℕ) (ks : List Plug) → a ≡ l → is_by_bodies owner bodies a l ks ≡ true
by_here owner bodies a l [] e = eq-eqb a l e
by_here owner bodies a l (k ∷ ks) e =
    yes (a == l) true (if k.label == l then (if slice_index_or bodies k.hole false then is_by_bodies owner bodies a (slice_index owner k.hole) ks else false) else is_by_bodies owner bodies a l ks) (eq-eqb a l e)
