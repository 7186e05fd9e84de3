use Rattle.std.proofs.Common.{◌∙◌, sym, rules}
use Rattle.mrs_model.proofs.Names.{passes, first_is, others_are, all_are}
use Rattle.mrs_model.proofs.texts.are_in_name.Goals as goal

pub returns-then-not-in_name : goal.returns-then-not-in_name
returns-then-not-in_name c = (
  λ t. absurd (cc),
  λ all.
      let h = first_is _ _ c.in-Some.c c.in-Some.ensures.parts (c.loop-c.invariant.same.1 all) in
      let i = c.in_name.ensures in
      let f = c.if-not-in_name.true in
      absurd (cc),
)

pub loop-c-preserved : goal.loop-c-preserved
loop-c-preserved c = record {
  text = search rules;
  same = (
    λ h. c.loop-c.invariant.same.0 (all_are _ _ c.in-Some.c (sym c.in-Some.ensures.parts) (passes _ (sym c.in_name.ensures ∙ c.if-not-in_name.false)) h),
    λ h. others_are _ _ c.in-Some.c c.in-Some.ensures.parts (c.loop-c.invariant.same.1 h),
  );
}
