use Rattle.std.proofs.Common.{◌<◌, All, refl, sym, subst, arith}
use Rattle.fs_closing.specs.Rules.{system_of}
use Rattle.fs_model.specs.Claims.{IsBare}
use Rattle.fs_unify.proofs.SampleLemmas.{IsFit, sample_grammar, sample_bare}
use Rattle.structure_rows.proofs.sample.system.Goals as goal

pub new-requires : goal.new-requires
new-requires c =
    sample_grammar c.args.types c.args.introducers.items c.args.constraints.items 64 (omega (arith, c.counts-count.ensures.all, c.if-count-eq0.false))
    (omega (arith, c.if-len.false, c.len.ensures))
    (subst (λ n. All (λ t. t.0 < n) c.args.introducers.items) c.counts-count.ensures.all
    (subst (All (λ t. t.0 < c.counts-count.result.all)) c.deref.ensures.value (c.if-not-are_types.ensures refl)))
    (subst (All (IsFit c.args.types)) c.deref-2.ensures.value (c.if-not-are_fit.ensures refl))

pub returns-in-Ok-clause-bare : goal.returns-in-Ok-clause-bare
returns-in-Ok-clause-bare c =
    subst (λ g. IsBare (system_of g)) (sym c.in-Ok.ensures)
    (sample_bare c.args.types c.args.introducers.items c.args.constraints.items 64
    (subst (All (IsFit c.args.types)) c.deref-2.ensures.value (c.if-not-are_fit.ensures refl)))
