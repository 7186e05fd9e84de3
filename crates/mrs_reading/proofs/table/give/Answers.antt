use Rattle.std.proofs.Common.{List, ◌≢◌, map, subst}
use Rattle.std.specs.List.{Contains}
use Rattle.mrs_model.specs.Meanings.{Property}
use Rattle.mrs_model.specs.declared.Prop.{Prop}
use Rattle.mrs_model.specs.Views.{property_of}
use Rattle.mrs_reading.proofs.Agreeing.{given_added, same_property}
use Rattle.mrs_reading.proofs.table.give.Goals as goal

pub returns-in_ok-add-in-None-clause-given : goal.returns-in_ok-add-in-None-clause-given
returns-in_ok-add-in-None-clause-given c =
    let x : Prop = record { name = c.in_ok-name-in-None.name; value = c.in_ok-value-in-None.value } in
    given_added c.args.props.now.items x c.add.new.list.items (record { name = c.args.name.now; value = c.args.value.now })
    (same_property x c.args.name.now c.args.value.now c.in_ok-name-in-None.ensures.ok c.in_ok-value-in-None.ensures.ok)
    (subst (λ (z : List Prop). (q : Property) → Contains (map property_of z) q → q.name ≢ c.args.name.now) c.deref.ensures.value c.in-None.ensures.absent) c.in_ok-add-in-None.ensures
