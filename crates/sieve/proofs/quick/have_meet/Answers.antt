use Rattle.std.proofs.Common.{◌≡◌, true, Some, sym, ◌∙◌, ap, subst}
use Rattle.std.specs.Option.{option_map}
use Rattle.std.specs.Prelude.{is_some, Option, ℕ}
use Rattle.type_hierarchy.specs.declared.types.Ty.{Ty}
use Rattle.type_hierarchy.specs.Table.{TypeTable, is_below, meet_of}
use Rattle.sieve.specs.Sketches.{types_meet}
use Rattle.sieve.proofs.quick.have_meet.Goals as goal

-- two types that are there, and have a meet
met : (types : TypeTable) (a b : Option Ty) (s t : Ty) (m : ℕ) → a ≡ Some s → b ≡ Some t → meet_of types s.0 t.0 ≡ Some m →
    true ≡ types_meet types (option_map (λ (x : Ty). x.0) a) (option_map (λ (x : Ty). x.0) b)
met types a b s t m is too meets =
    sym (
    ap (λ (o : Option Ty). types_meet types (option_map (λ (x : Ty). x.0) o) (option_map (λ (x : Ty). x.0) b)) is
    ∙ ap (λ (o : Option Ty). types_meet types (Some s.0) (option_map (λ (x : Ty). x.0) o)) too
    ∙ ap is_some meets
    )

pub returns-then-a-eq0 : goal.returns-then-a-eq0
returns-then-a-eq0 c =
    let types = c.args.types.now in
    let s = c.in-Some.a in
    let t = c.in-Some-b.b in
    let laws = c.laws.ensures in
    let top = subst (λ k. is_below types t.0 k ≡ true) (sym c.if-a-eq0.true) (laws.below_top t.0) in
    let r = laws.meet_exists s.0 t.0 t.0 top (laws.reflexive t.0) in
    met types c.args.a c.args.b s t r.0 c.in-Some.is c.in-Some-b.is r.1

pub returns-then-b-eq0 : goal.returns-then-b-eq0
returns-then-b-eq0 c =
    let types = c.args.types.now in
    let s = c.in-Some.a in
    let t = c.in-Some-b.b in
    let laws = c.laws.ensures in
    let top = subst (λ k. is_below types s.0 k ≡ true) (sym c.if-b-eq0.true) (laws.below_top s.0) in
    let r = laws.meet_exists s.0 t.0 s.0 (laws.reflexive s.0) top in
    met types c.args.a c.args.b s t r.0 c.in-Some.is c.in-Some-b.is r.1
