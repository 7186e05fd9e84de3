-- Paths, one feature after the other.
use Rattle.std.proofs.Common.{ℕ, ◌≡◌, [], ◌∷◌, ◌++◌, Option, None, Some, option_map, refl, sym, ap}
use Rattle.std.proofs.lemmas.List.{append_assoc}
use Rattle.fs_model.specs.Claims.{Path}

-- a path goes on
abbrev pub after : Path → Option Path → Option Path
after path o = option_map (λ p. path ++ p) o

pub after-none : (path : Path) → after path None ≡ None
after-none path = refl

pub after-more : (path : Path) (f : ℕ) (o : Option Path) → after path (option_map (λ p. f ∷ p) o) ≡ after (path ++ f ∷ []) o
after-more path f None = refl
after-more path f (Some p) = ap Some (sym (append_assoc path (f ∷ []) p))
