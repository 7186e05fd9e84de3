use Rattle.std.proofs.Common.{◌≡◌, ◌∙◌, ◌++◌, true, length, map, refl, ap, sym}
use Rattle.std.specs.List.{flat_map}
use Rattle.std.proofs.lemmas.List.{length-map}
use Rattle.fs_closing.specs.declared.facts.TypeFacts.{TypeFacts}
use Rattle.body_facts.specs.Numbers.{type_number}
use Rattle.body_facts.specs.WordTables.{table_of}
use Rattle.grammar_files.specs.Placings.{placed_of}
use Rattle.grammar_files.specs.Statements.{statement_at, defines_type}
use Rattle.type_facts.specs.Facts.{said_by}
use Rattle.type_facts.specs.Addenda.{addenda_places}
use Rattle.type_facts.proofs.Numbered.{number_found}
use Rattle.type_facts.proofs.RuleLemmas.{all_within, rule_push, rule_same, rule_passed}
use Rattle.type_facts.proofs.rules.push_rule.Goals as goal

pub facts_of_type-requires : goal.facts_of_type-requires
facts_of_type-requires c =
    let xs = c.args.statements.now in
    all_within c.name_of-name.result.now (map placed_of xs) c.noted-places.result.now (length xs)
    (c.noted-places.ensures ∙ c.requires c.name_of-name.result.now) (sym (length-map xs placed_of))

pub returns-in_ok-push : goal.returns-in_ok-push
returns-in_ok-push c =
    let xs = c.args.statements.now in
    let ps = map placed_of xs in
    let p = placed_of c.args.placed.now in
    let w = table_of c.args.words.now in
    let name = c.name_of-name.result.now in
    let d : defines_type p ≡ true = sym c.defines_type.ensures ∙ c.if-defines_type.true in
    let r : TypeFacts = record { ty = c.unwrap_or-ty.result; facts = c.in_ok-facts.facts } in
    rule_push w ps p c.args.rules.now.items c.push.new.self.items r c.in_ok-push.ensures.items d
    (rule_same r w ps p
    (number_found w.types name c.find.result c.unwrap_or-ty.result (record { 0 = 0 }) _ c.find.ensures c.unwrap_or-ty.ensures refl ∙ ap (type_number w.types) c.name_of-name.ensures)
    (c.in_ok-facts.ensures
    ∙ ap (λ ks. said_by w p ++ flat_map (λ k. said_by w (statement_at ps k)) ks)
    (c.noted-places.ensures ∙ c.requires name ∙ ap (λ n. addenda_places n ps) c.name_of-name.ensures)))

pub returns-else-defines_type : goal.returns-else-defines_type
returns-else-defines_type c =
    rule_passed (table_of c.args.words.now) (map placed_of c.args.statements.now) (placed_of c.args.placed.now) c.args.rules.now.items
    (sym c.defines_type.ensures ∙ c.if-defines_type.false)
