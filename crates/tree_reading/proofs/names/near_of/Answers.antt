use Rattle.std.proofs.Common.{◌≡◌, ◌<◌, ◌+◌, ◌∙◌, ap, sym, subst, arith, length, map, List, ℕ, Bool, false, Some, get_or, []}
use Rattle.std.specs.String.{string_bytes}
use Rattle.std.proofs.lemmas.Bool.{false≢true}
use Rattle.std.proofs.lemmas.List.{get_or-map}
use Rattle.std.proofs.lemmas.Option.{unwrap_or-slice_get, slice_get-get_or}
use Rattle.tree_reading.specs.declared.Part.TheVariants.{Entry}
use Rattle.tree_reading.specs.Grammars.{TreeGrammar}
use Rattle.tree_reading.specs.Inner.Near.{IsNearBelow, IsUsable, IsMostShared, is_usable}
use Rattle.tree_reading.proofs.Tabling.{near_more, near_skip}
use Rattle.tree_reading.proofs.names.near_of.Goals.{then-is_usable, else-is_usable}
use Rattle.tree_reading.proofs.names.near_of.Goals as goal

unusable : (g : TreeGrammar) (i : ℕ) (wide : Bool) → i < length g.parts → is_usable (get_or g.parts i Entry) wide ≡ false → IsUsable g wide i → ⊥
unusable g i wide lt no_use h =
    let same : Some (get_or g.parts i Entry) ≡ Some h.0 = sym (slice_get-get_or g.parts i Entry lt) ∙ h.1 in
    let part : get_or g.parts i Entry ≡ h.0 = cc in
    false≢true (sym no_use ∙ ap (λ p. is_usable p wide) part ∙ h.2)

as_shared : (name other a b : List ℕ) (k : ℕ) → a ≡ name → b ≡ other → IsMostShared a b k → IsMostShared name other k
as_shared name other a b k e f h = subst (λ t. IsMostShared t other k) e (subst (λ t. IsMostShared a t k) f h)

pub loop-place-preserved : goal.loop-place-preserved
loop-place-preserved c =
    let g : TreeGrammar = record { names = map string_bytes c.args.names.now; parts = c.args.parts.now } in
    let i = c.loop-place.place in
    let within : i < length c.args.names.now = omega (arith, c.requires, c.loop-place-test.true) in
    elim c.if-is_usable.branch [
      | then-is_usable w ↦
          subst (λ t. IsNearBelow g c.args.wide c.args.name.now (i + 1) t) (sym (w.most-is ∙ w.larger-most.ensures))
          (near_more g c.args.wide c.args.name.now i c.loop-place.most w.shared.result c.loop-place.invariant
          (get_or c.args.parts.now i Entry, slice_get-get_or c.args.parts.now i Entry c.loop-place-test.true, sym c.is_usable.ensures ∙ w.if-is_usable.true)
          (as_shared c.args.name.now _ w.as_bytes.result.now w.as_bytes-then-is_usable.result.now w.shared.result w.as_bytes.ensures.value
          (w.as_bytes-then-is_usable.ensures.value ∙ ap string_bytes w.index-names-place.is ∙ sym (get_or-map string_bytes c.args.names.now i w.index-names-place.result _ within) ∙ sym (unwrap_or-slice_get (map string_bytes c.args.names.now) i []))
          w.shared.ensures))
      | else-is_usable w ↦
          subst (λ t. IsNearBelow g c.args.wide c.args.name.now (i + 1) t) (sym w.most-is)
          (near_skip g c.args.wide c.args.name.now i c.loop-place.most c.loop-place.invariant (unusable g i c.args.wide c.loop-place-test.true (sym c.is_usable.ensures ∙ w.if-is_usable.false)))
    ]
