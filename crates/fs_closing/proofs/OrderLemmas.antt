-- The order of a grammar's types.
use Rattle.std.proofs.Common.{ℕ, ◌≡◌, true, Some, ◌∙◌, ap}
use Rattle.type_hierarchy.specs.Table.{TypeTable, is_below, meet_of}
use Rattle.type_hierarchy.specs.Laws.{HasTypeLaws}
use Rattle.fs_model.specs.Claims.{IsOrder}
use Rattle.fs_closing.specs.Rules.{Grammar, system_of}

-- the laws of types are those of the order
pub order_of_laws : (g : Grammar) → HasTypeLaws g.types → IsOrder (system_of g)
order_of_laws g laws = record {
  reflexive = laws.reflexive;
  transitive = laws.transitive;
  antisymmetric = laws.antisymmetric;
  below_top = laws.below_top;
  meet_below = laws.meet_below;
  meet_greatest = laws.meet_greatest;
  meet_exists = laws.meet_exists;
}

-- of two types of which one is at or below the other, it is the meet
pub meet_right : (t : TypeTable) → HasTypeLaws t → (a b : ℕ) → is_below t b a ≡ true → meet_of t a b ≡ Some b
meet_right t laws a b below =
    let m = laws.meet_exists a b b below (laws.reflexive b) in
    let low = laws.meet_below a b m.0 m.1 in
    m.1 ∙ ap Some (laws.antisymmetric m.0 b low.1 (laws.meet_greatest a b m.0 b m.1 below (laws.reflexive b)))

pub meet_left : (t : TypeTable) → HasTypeLaws t → (a b : ℕ) → is_below t a b ≡ true → meet_of t a b ≡ Some a
meet_left t laws a b below =
    let m = laws.meet_exists a b a (laws.reflexive a) below in
    let low = laws.meet_below a b m.0 m.1 in
    m.1 ∙ ap Some (laws.antisymmetric m.0 a low.0 (laws.meet_greatest a b m.0 a m.1 (laws.reflexive a) below))
