use Rattle.std.proofs.Common.{map, subst, List}
use Rattle.std.specs.Prelude.{All}
use Rattle.mrs_model.specs.declared.Hcon.{Hcon}
use Rattle.mrs_model.specs.Views.{meaning_of, hcon_of}
use Rattle.scope_model.specs.Answers.{IsQeq}
use Rattle.scope_resolve.specs.Inner.Resolving.{IsOtherAt}
use Rattle.scope_resolve.proofs.Resolves.{first_of}
use Rattle.scope_resolve.proofs.resolving.scopes.Goals as goal

pub returns-in-Some-clause-fault : goal.returns-in-Some-clause-fault
returns-in-Some-clause-fault c =
    let m = meaning_of c.args.mrs.now in
    c.relation.ensures m c.args.max (first_of m _ (subst (λ (hs : List Hcon). IsOtherAt (map hcon_of hs) c.in-Some.place) c.deref-hcons.ensures.value c.in-Some.ensures))

pub resolved-requires-clause-qeqs : goal.resolved-requires-clause-qeqs
resolved-requires-clause-qeqs c = subst (λ (hs : List Hcon). All IsQeq (map hcon_of hs)) c.deref-hcons.ensures.value c.in-None.ensures
