use Rattle.std.proofs.Common.{◌≡◌, All, IfOk, map, length, string_bytes, subst, sym}
use Rattle.derivation.specs.Text.{IsNamed}
use Rattle.derivation.specs.Views.{derivation_of}
use Rattle.grammar_rules.specs.Views.{item_answer}
use Rattle.item_reports.specs.Reports.{answer_lines}
use Rattle.engine.specs.Named.{AreNamed}
use Rattle.engine.proofs.NamedTrees.{unmap}
use Rattle.line_reports.proofs.answer_lines.Goals as goal

pub lines_of_trees-requires : goal.lines_of_trees-requires
lines_of_trees-requires c =
    let named = subst (λ a. AreNamed (length c.args.names.now) (item_answer a)) c.in-Trees.is c.requires in
    let items = unmap (IsNamed (length c.args.names.now)) derivation_of c.in-Trees.trees.items named in
    subst (λ ts. All (λ t. IsNamed (length c.args.names.now) (derivation_of t)) ts) (sym c.deref.ensures.value) items

pub returns-in-UnaryChain : goal.returns-in-UnaryChain
returns-in-UnaryChain c =
    subst (λ a. IfOk c.lines_of_refusal-in-UnaryChain.result (λ lines. map (λ l. l.items) lines.items ≡ answer_lines (map string_bytes c.args.names.now) c.args.nodes c.args.number (item_answer a))) (sym c.in-UnaryChain.is) c.lines_of_refusal-in-UnaryChain.ensures
