use Rattle.std.proofs.Common.{◌∙◌, ◌&&◌, ◌==◌, ap, sym, map}
use Rattle.tdl_reader.specs.Trees.{items_of}
use Rattle.tdl_reader.specs.Views.{body_in}
use Rattle.body_facts.specs.BracketUses.{is_empty_list}
use Rattle.body_facts.proofs.BracketLemmas.{list_empty}
use Rattle.body_facts.proofs.brackets.own_tail.Goals as goal

pub returns-then-own : goal.returns-then-own
returns-then-own c =
    c.is_empty.ensures ∙ ap (λ n. n == 0) c.args.items.now.ok.0 ∙ list_empty c.args.items.now.items
    ∙ sym (ap (λ b. b && is_empty_list (items_of (map body_in c.args.items.now.items))) c.if-own.true)
