use Rattle.std.proofs.Common.{◌<◌, ◌+◌, ℕ, List, length, length-append, ap, subst, sym, ◌∙◌, [], ◌∷◌, get_or}
use Rattle.std.specs.Prelude.{Contains}
use Rattle.mrs_transfer.proofs.Searching.{side_of}
use Rattle.mrs_transfer.proofs.Binding.{vars_more}
use Rattle.mrs_transfer.proofs.bound.vars_of.Goals as goal

pub loop-at-preserved : goal.loop-at-preserved
loop-at-preserved c =
    let e = c.in_ok-push-in-Some.ensures.items in
    let has : Contains c.args.pairs.now (record { coref = c.loop-at.at; var = c.in-Some.var }) = subst (λ (z : ℕ). Contains c.args.pairs.now (record { coref = z; var = c.in-Some.var })) c.in_ok-coref.ensures c.in-Some.ensures in
    record {
      size = ap length e ∙ length-append c.loop-at.vars.items (c.in-Some.var ∷ []) ∙ ap (λ (n : ℕ). n + 1) c.loop-at.invariant.size;
      each = subst (λ (l : List ℕ). (j : ℕ) → j < c.loop-at.at + 1 → Contains c.args.pairs.now (record { coref = j; var = get_or l j 0 })) (sym e)
          (λ j l. vars_more c.args.pairs.now c.loop-at.vars.items c.loop-at.at c.in-Some.var c.loop-at.invariant.size c.loop-at.invariant.each has j l (side_of j c.loop-at.at));
    }
