use Rattle.std.proofs.Common.{◌∙◌, [], ap}
use Rattle.type_hierarchy.specs.Decls.{number_of}
use Rattle.tdl_reader.specs.Views.{body_in}
use Rattle.body_facts.specs.Running.{body_told}
use Rattle.body_facts.specs.Sayings.{body_says}
use Rattle.body_facts.specs.WordTables.{table_of}
use Rattle.body_facts.proofs.CarrierLemmas.{told_from_none, begun}
use Rattle.body_facts.proofs.telling.facts.Goals as goal

pub returns : goal.returns
returns c =
    let w = table_of c.args.words.now in
    let body = body_in c.args.body.now in
    ap (λ r. r.claims) (c.in_ok-add_body.ensures ∙ ap (λ r. body_told w r body) (begun c.new.result.items c.new-2.result.items c.new-3.result.entries c.new.ensures.items c.new-2.ensures.items c.new-3.ensures.empty))
    ∙ told_from_none w.types [] (body_says (number_of w.feats) w.names [] body)
