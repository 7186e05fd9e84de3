use Rattle.std.proofs.Common.{ℕ, ◌≡◌, ◌<◌, ◌≤◌, true, arith, subst, ap}
use Rattle.type_hierarchy.specs.Table.{TypeTable, count_of, completed_count, is_below}
use Rattle.type_hierarchy.specs.Laws.{HasTypeLaws}
use Rattle.fs_model.specs.Claims.{Has}
use Rattle.forced_types.proofs.TypeLemmas.{closed_one, closed_many, below_in}
use Rattle.forced_types.proofs.closed_types.are_types_closed.Goals as goal

pub returns-then-list-eq1 : goal.returns-then-list-eq1
returns-then-list-eq1 c = λ _. closed_one c.args.given.system.now.types (subst HasTypeLaws c.types-types.ensures c.laws.ensures) c.args.list.now c.if-list-eq1.true

pub returns : goal.returns
returns c = λ yes.
    let types = c.args.given.system.now.types in
    let list = c.args.list.now in
    let more : completed_count types ≤ count_of types =
    omega (arith, c.counts.ensures.completed, c.counts.ensures.all, c.counts.ensures.rising.1, ap count_of c.types-types.ensures, ap completed_count c.types-types.ensures) in
    let raised : (t : ℕ) → Has t list → (u : ℕ) → u < count_of types → is_below types t u ≡ true → Has u list =
    subst (λ (x : TypeTable). (t : ℕ) → Has t list → (u : ℕ) → u < count_of x → is_below x t u ≡ true → Has u list) c.types-types.ensures
    (c.is_raised.ensures c.if-not-is_raised.false) in
    closed_many types (subst HasTypeLaws c.types-types.ensures c.laws.ensures) list (omega (arith, c.if-list-eq0.false))
    (λ t u h e. raised t h u (below_in types more t u (c.requires t h) e) e) (c.has_meets.ensures yes)
