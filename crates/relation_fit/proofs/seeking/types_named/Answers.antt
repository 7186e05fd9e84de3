use Rattle.std.proofs.Common.{◌≡◌, ◌∙◌, ◌+◌, true, false, refl, sym, ap, subst, Vec, Global}
use Rattle.std.proofs.lemmas.Slice.Eq.{bytes_eq-Decides}
use Rattle.type_hierarchy.specs.declared.types.Ty.{Ty}
use Rattle.mrs_extract.specs.Extraction.{type_name}
use Rattle.relation_fit.proofs.Scanning.{AreFound, found_next, found_not}
use Rattle.relation_fit.proofs.seeking.types_named.Goals as goal
use Rattle.relation_fit.proofs.seeking.types_named.Goals.{then-eq+in_ok-push, else-eq}

pub loop-t-preserved : goal.loop-t-preserved
loop-t-preserved c =
    let types = c.args.types.now in
    let name = c.args.name.now in
    let from = c.args.from in
    let t = c.loop-t.t in
    let old = c.loop-t.found.items in
    elim c.if-eq.branch [
      | then-eq+in_ok-push w ↦
          found_next (λ n. type_name types n ≡ name) from t old c.loop-t.invariant c.if-eq.found.items (t + 1)
          (ap (λ (v : Vec Ty Global). v.items) w.found-is ∙ w.in_ok-push.ensures.items) refl
      | else-eq w ↦
          subst (λ xs. AreFound (λ n. type_name types n ≡ name) from (t + 1) xs) (sym (ap (λ (v : Vec Ty Global). v.items) w.found-is))
          (found_not (λ n. type_name types n ≡ name) from t old c.loop-t.invariant (t + 1)
          (λ q. (let z : true ≡ false = sym ((bytes_eq-Decides c.name.result.now name).1 (c.name.ensures ∙ q)) ∙ sym c.eq.ensures ∙ w.if-eq.false in cc)) refl)
    ]
