-- The spelling that lexical rules have in their definitions (DELPH-IN TDL).
use Rattle.std.specs.Prelude.{◌&&◌, Bool, true, false, List, [], map, filter, Option, None, Some}
use Rattle.tdl_reader.specs.declared.Status.TheVariants.{LexRule}
use Rattle.tdl_reader.specs.Trees.{StatementTree, defines, AffixTree, GroupTree as WrittenGroup, SignTree as WrittenSign, one_char, one_of}
use Rattle.grammar_files.specs.Placings.{PlacedTree}
use Rattle.grammar_files.specs.Statements.{defines_instance, is_status}
pub use Rattle.grammar_settings.specs.SettingsViews.{names_in}
use Rattle.spelling_rules.specs.Trees.{SignTree, letter, variable, GroupTree, RuleTree}

abbrev pub sign_written : WrittenSign → SignTree
sign_written (one_char c) = letter c
sign_written (one_of s) = variable s.name s.members

abbrev pub group_written : WrittenGroup → GroupTree
group_written g = record { pattern = map sign_written g.pattern; with = map sign_written g.with }

-- the spelling of an affix; a rule without one leaves stems as they are
abbrev pub affix_written : Option AffixTree → RuleTree
affix_written None = record { suffix = true; groups = [] }
affix_written (Some a) = record { suffix = a.suffix; groups = map group_written a.groups }

abbrev pub rule_written : StatementTree → RuleTree
rule_written (defines name at affix body) = affix_written affix
rule_written _ = affix_written None

-- a definition of a lexical rule
abbrev pub defines_lexical : PlacedTree → Bool
defines_lexical p = defines_instance p && is_status p.status LexRule

-- the lexical rules in order of place
abbrev pub lexical_rules : List PlacedTree → List PlacedTree
lexical_rules ps = filter defines_lexical ps

abbrev pub spellings_of : List PlacedTree → List RuleTree
spellings_of ps = map (λ p. rule_written p.statement) ps
