use Rattle.std.proofs.Common.{List, map, sym, subst}
use Rattle.std.specs.List.{All}
use Rattle.mrs_model.specs.declared.Prop.{Prop}
use Rattle.mrs_model.specs.Views.{property_of}
use Rattle.mrs_model.specs.Valid.{Rise, IsProperty}
use Rattle.mrs_model.specs.Texts.{IsSort}
use Rattle.mrs_model.proofs.valid.is_variable.Goals as goal

pub returns-then-are_properties : goal.returns-then-are_properties
returns-then-are_properties c =
    let e = c.deref-then-are_properties.ensures.value in
    let order = λ (l : List Prop). Rise (map (λ p. p.name) (map property_of l)) in (
      λ t. record {
        sort = subst IsSort c.deref.ensures (c.is_sort.ensures.0 c.if-not-is_sort.false);
        props = subst (λ (l : List Prop). All IsProperty (map property_of l)) c.deref-2.ensures.value (c.are_properties.ensures.0 c.if-are_properties.true);
        order = subst order e (c.props_rise.ensures.0 t);
      },
      λ v. c.props_rise.ensures.1 (subst order (sym e) v.order),
    )
