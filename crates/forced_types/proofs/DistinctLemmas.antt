-- Lists of paths of which none is there twice.
use Rattle.std.proofs.Common.{ℕ, ◌≡◌, ◌≤◌, ◌<◌, Bool, true, false, List, [], length, get_or, refl, sym, ◌∙◌, arith}
use Rattle.std.specs.List.{list_any}
use Rattle.std.specs.Str.{bytes_eq}
use Rattle.std.proofs.lemmas.Cmp.{nat_list_eq_equiv}
use Rattle.std.proofs.lemmas.List.{get_or_default}
use Rattle.std.proofs.lemmas.Map.Keys.{IsDistinct-from_apart}
use Rattle.std.proofs.lemmas.Map.Made.{length-le_from_is_member}
use Rattle.std.proofs.lemmas.Slice.Eq.{bytes_eq-Decides}
use Rattle.type_hierarchy.proofs.ListLemmas.{any_at, any_index}
use Rattle.fs_model.specs.Claims.{Path}
use Rattle.forced_types.specs.Limits.{AreApart}
use Rattle.forced_types.specs.Inner.Entries.{path_at}

untrue : (b : Bool) → (b ≡ true → ⊥) → b ≡ false
untrue true h = absurd (h refl)
untrue false h = refl

-- paths that are all in a list, each once, are no more than it has
pub no_more : (ps all : List Path) → AreApart ps → ((i : ℕ) → i < length ps → (k : ℕ) × (k < length all) × (path_at all k ≡ path_at ps i)) → length ps ≤ length all
no_more ps all apart found = length-le_from_is_member nat_list_eq_equiv ps all (IsDistinct-from_apart bytes_eq ps differ) member
  where
    differ : (i j : ℕ) (d : Path) → i < j → j < length ps → bytes_eq (get_or ps i d) (get_or ps j d) ≡ false
    differ i j d a b =
        untrue (bytes_eq (get_or ps i d) (get_or ps j d)) (λ e.
        apart i j a b
        (get_or_default ps i [] d (omega (arith, a, b)) ∙ (bytes_eq-Decides (get_or ps i d) (get_or ps j d)).0 e ∙ get_or_default ps j d [] b))

    member : (q : Path) → list_any (bytes_eq q) ps ≡ true → list_any (bytes_eq q) all ≡ true
    member q e =
        let m = any_index (bytes_eq q) [] ps e in
        let is : q ≡ get_or ps m.0 [] = (bytes_eq-Decides q (get_or ps m.0 [])).0 m.2 in
        let c = found m.0 m.1 in
        any_at (bytes_eq q) all c.0 [] c.1 ((bytes_eq-Decides q (get_or all c.0 [])).1 (is ∙ sym c.2))
