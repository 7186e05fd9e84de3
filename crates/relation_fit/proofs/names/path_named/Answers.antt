use Rattle.std.proofs.Common.{◌<◌, ◌≡◌, ◌∙◌, length, sym, ap, subst, arith, true, All, IfSome}
use Rattle.std.specs.Str.{bytes_eq}
use Rattle.std.specs.String.{string_bytes}
use Rattle.std.proofs.lemmas.List.{length-map}
use Rattle.std.proofs.lemmas.Slice.Eq.{bytes_eq-Decides}
use Rattle.mrs_places.specs.Paths.{paths_of}
use Rattle.mrs_extract.specs.Inner.Routes.{joined, numbers_of}
use Rattle.relation_fit.proofs.Mapped.{filled, not_false}
use Rattle.relation_fit.proofs.names.path_named.Goals as goal

pub returns : goal.returns
returns c =
    let p = paths_of c.args.paths.now in
    let feats = c.args.paths.now.feats.items in
    let path = c.in-Some.path.items in
    let some = filled path _ (sym c.is_empty.ensures ∙ c.if-is_empty.false) (omega (arith, c.in-Some.path.ok.0)) in
    let inside : All (λ f. f < length feats) (numbers_of path) = subst (λ o. IfSome o (λ v. All (λ f. f < length feats) (numbers_of v.items))) c.in-Some.is c.in_ok-path.ensures in
    let same : bytes_eq c.as_str.result.now c.args.name.now ≡ true = not_false _ (sym c.ne.ensures ∙ c.if-ne.false) in (
      some,
      subst (λ n. All (λ f. f < n) (numbers_of path)) (sym (length-map feats string_bytes)) inside,
      ap (λ fs. joined p (numbers_of fs)) (sym c.deref.ensures.value) ∙ sym c.in_ok-own.ensures ∙ sym c.as_str.ensures.value ∙ (bytes_eq-Decides c.as_str.result.now c.args.name.now).0 same,
    )
