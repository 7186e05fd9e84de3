use Rattle.std.proofs.Common.{◌∙◌, map, ap, ap₂, List}
use Rattle.std.specs.List.{flat_map}
use Rattle.mrs_model.specs.Meanings.{Variable, Predication}
use Rattle.mrs_model.specs.Views.{variable_of, predication_of, hcon_of, meaning_of}
use Rattle.scope_model.specs.Frames.{listed}
use Rattle.scope_resolve.specs.Inner.Building.{openings_from, quantifier_from, bindings_from, label_from, qeq_from}
use Rattle.scope_resolve.proofs.Framing.{frame_is}
use Rattle.scope_resolve.proofs.building.parts_of.Goals as goal

pub returns : goal.returns
returns c =
    let m = meaning_of c.args.mrs.now in
    let ns = c.args.numbers.now in
    let vs = ap (map variable_of) c.deref-vars.ensures.value in
    let es = ap (map predication_of) c.deref-eps.ensures.value in
    let cs = ap (map hcon_of) c.deref-hcons.ensures.value in
    frame_is m c.requires.valid ns c.requires.numbers _ c.number_at-top.ensures
    (c.in_ok-labels.ensures ∙ ap (map (label_from ns)) es)
    (c.in_ok-openings.ensures ∙ ap₂ (λ (a : List Variable) (b : List Predication). flat_map (openings_from a ns) b) vs es)
    (c.in_ok-quantifiers.ensures ∙ ap₂ (λ (a : List Variable) (b : List Predication). flat_map (λ (e : Predication). listed (quantifier_from a ns e)) b) vs es)
    (c.in_ok-bindings.ensures ∙ ap₂ (λ (a : List Variable) (b : List Predication). bindings_from a ns b 0 b) vs es)
    (c.in_ok-qeqs.ensures ∙ ap (map (qeq_from ns)) cs)
