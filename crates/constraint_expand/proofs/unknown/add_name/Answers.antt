use Rattle.std.proofs.Common.{◌∙◌, sym}
use Rattle.grammar_files.specs.Placings.{placed_of}
use Rattle.constraint_expand.proofs.DefinedLemmas.{name_added, name_passed}
use Rattle.constraint_expand.proofs.unknown.add_name.Goals as goal

pub returns-in_ok-insert : goal.returns-in_ok-insert
returns-in_ok-insert c = λ n.
    name_added c.args.names.now.keys c.insert.new.self.keys c.in_ok-from_str.field-0 n (placed_of c.args.placed.now) c.in_ok-insert.ensures.keys
    (c.in_ok-from_str.ensures.ok ∙ c.name_of.ensures) (sym c.defines_type.ensures ∙ c.if-defines_type.true)

pub returns-else-defines_type : goal.returns-else-defines_type
returns-else-defines_type c = λ n.
    name_passed c.args.names.now.keys n (placed_of c.args.placed.now) (sym c.defines_type.ensures ∙ c.if-defines_type.false)
