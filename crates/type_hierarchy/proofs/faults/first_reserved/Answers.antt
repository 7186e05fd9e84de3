use Rattle.std.proofs.Common.{◌≡◌, ◌<◌, ◌∙◌, ◌||◌, inl, inr, sym, ap, subst, arith, true, false, length, Bool, refl}
use Rattle.std.specs.Str.{bytes_eq}
use Rattle.std.proofs.lemmas.Bool.{cases_lt}
use Rattle.type_hierarchy.specs.Decls.{decls_of, at_place}
use Rattle.type_hierarchy.specs.Faults.{is_glb_name}
use Rattle.type_hierarchy.proofs.NameLemmas.{place_is}
use Rattle.type_hierarchy.proofs.faults.first_reserved.Goals as goal

differ : (b : Bool) → b ≡ true → b ≡ false → ⊥
differ b e f = cc

neither : (a b : Bool) → a ≡ false → b ≡ false → (a || b) ≡ false
neither a b e f = rw (e, f) refl

pub loop-i-preserved : goal.loop-i-preserved
loop-i-preserved c = λ j h reserved.
    let ds = decls_of c.args.decls.now in
    let within : c.loop-i.i < length c.args.decls.now = omega arith in
    let here = place_is c.args.decls.now c.loop-i.i c.index-decls-i.result within c.index-decls-i.is in
    let no_top : bytes_eq (at_place ds c.loop-i.i).name c.args.top.now ≡ false =
    ap (λ d. bytes_eq d.name c.args.top.now) here ∙ ap (λ n. bytes_eq n c.args.top.now) (sym c.as_str.ensures.value) ∙ sym c.eq.ensures ∙ c.if-eq.false in
    let no_glb : is_glb_name (at_place ds c.loop-i.i).name ≡ false =
    ap (λ d. is_glb_name d.name) here ∙ ap is_glb_name (sym c.as_str-else-eq.ensures.value) ∙ sym c.is_glb_name.ensures ∙ c.if-is_glb_name.false in
    elim (cases_lt j c.loop-i.i) [
      | inl less ↦ c.loop-i.invariant j less reserved
      | inr more ↦
          let same : j ≡ c.loop-i.i = omega arith in
          differ _ (subst (λ x. (bytes_eq (at_place ds x).name c.args.top.now || is_glb_name (at_place ds x).name) ≡ true) same reserved.1)
          (neither _ _ no_top no_glb)
    ]
