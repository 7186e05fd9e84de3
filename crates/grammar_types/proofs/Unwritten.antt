-- The types that nothing defines.
use Rattle.std.proofs.Common.{◌≡◌, ◌≤◌, Bool, true, false, cond, not, List, [], ◌∷◌, length, filter, ap, arith}
use Rattle.type_hierarchy.specs.Decls.{Name, Declared, bare, is_defined, unwritten}

-- the types that nothing defines are at most two, and have no parents
pub few_unwritten : (top text : Name) (ds : List Declared) → length (unwritten top text ds) ≤ 2
few_unwritten top text ds = go (not (is_defined ds top)) (not (is_defined ds text))
  where
    go : (p q : Bool) → length (cond p (bare top ∷ cond q (bare text ∷ []) []) (cond q (bare text ∷ []) [])) ≤ 2
    go true true = omega arith
    go true false = omega arith
    go false true = omega arith
    go false false = omega arith

-- the top type stands first
abbrev pub beside_top : Name → List Declared → List Declared
beside_top text ds = filter (λ d. not (is_defined ds d.name)) (bare text ∷ [])

pub top_first : (top text : Name) (ds : List Declared) → is_defined ds top ≡ false → unwritten top text ds ≡ bare top ∷ beside_top text ds
top_first top text ds none = ap (λ b. cond (not b) (bare top ∷ beside_top text ds) (beside_top text ds)) none
