use Rattle.std.proofs.Common.{◌≡◌, ◌∙◌, true, sym, ap}
use Rattle.fs_graph.specs.Facts.{path_of}
use Rattle.relation_fit.specs.Lists.{list_seen}
use Rattle.relation_fit.specs.Inner.Lists.{begins_apart}
use Rattle.relation_fit.proofs.Features.{apart_outside}
use Rattle.relation_fit.proofs.list.is_outside.Goals as goal

pub returns-then-begins_apart : goal.returns-then-begins_apart
returns-then-begins_apart c = λ e g cut.
    let fs = path_of c.args.daughters.now in
    let start : begins_apart (path_of c.args.list.now.start.items) fs ≡ true = ap (λ p. begins_apart (path_of p) fs) (sym c.deref.ensures.value) ∙ sym c.begins_apart.ensures ∙ c.if-begins_apart.true in
    let end : begins_apart (path_of c.args.list.now.end.items) fs ≡ true = ap (λ p. begins_apart (path_of p) fs) (sym c.deref-then-begins_apart.ensures.value) ∙ sym c.begins_apart-then-begins_apart.ensures ∙ e in
    apart_outside g (list_seen c.args.list.now).ends fs cut start end
