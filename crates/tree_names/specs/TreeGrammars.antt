-- A grammar as the texts of its trees see it.
use Rattle.std.specs.Prelude.{ℕ, List, map, length}
use Rattle.tree_model.specs.Signs.{Kind, an_entry, a_lexical_rule, a_phrase_rule, Instance, Signs}
use Rattle.tree_reading.specs.declared.Part.{Part}
use Rattle.tree_reading.specs.declared.Part.TheVariants.{Entry, LexicalRule, PhraseRule, Other}
use Rattle.tree_reading.specs.Grammars.{TreeGrammar}

-- what an instance of a kind is to a tree, with so many daughters if it is a phrase rule
abbrev pub part_by : Kind → ℕ → Part
part_by an_entry count = Entry
part_by a_lexical_rule count = LexicalRule
part_by a_phrase_rule count = PhraseRule count
part_by _ count = Other

abbrev pub part_of : Instance → Part
part_of i = part_by i.kind (length i.rule.places)

-- these names, and what the instance at each place is
abbrev pub tree_grammar : Signs → List (List ℕ) → TreeGrammar
tree_grammar g names = record { names = names; parts = map part_of g.instances }
