use Rattle.std.proofs.Common.{◌≡◌, ap, ◌∙◌, sym, subst, Some, None}
use Rattle.std.specs.Option.{option_map}
use Rattle.type_hierarchy.specs.Table.{TypeTable, meet_of}
use Rattle.type_hierarchy.specs.Laws.{HasTypeLaws}
use Rattle.type_hierarchy.specs.declared.types.Ty.{Ty}
use Rattle.forced_types.proofs.steps.common.Goals as goal

pub returns-in-Some : goal.returns-in-Some
returns-in-Some c =
    let types = c.args.given.system.now.types in
    let laws : HasTypeLaws types = subst HasTypeLaws c.types.ensures c.laws.ensures in
    let is : meet_of types c.args.first c.args.second ≡ Some c.in-Some.both.0 =
    sym (ap (λ (x : TypeTable). meet_of x c.args.first c.args.second) c.types-2.ensures) ∙ sym c.meet.ensures ∙ ap (option_map (λ (t : Ty). t.0)) c.in-Some.is in
    record { value = sym is; common = record { inside = laws.meet_in _ _ _ c.requires.first c.requires.second is; meet_is = is } }

pub returns-in-None-clause-value : goal.returns-in-None-clause-value
returns-in-None-clause-value c =
    let is : meet_of c.args.given.system.now.types c.args.first c.args.second ≡ None =
    sym (ap (λ (x : TypeTable). meet_of x c.args.first c.args.second) c.types-2.ensures) ∙ sym c.meet.ensures ∙ ap (option_map (λ (t : Ty). t.0)) c.in-None.is in
    sym is
