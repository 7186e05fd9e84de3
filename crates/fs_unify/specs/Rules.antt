-- What closure needs of a grammar, as fs_closing has it.
pub use Rattle.fs_closing.specs.Rules.{Rule, no_rule, Grammar, facts_in, system_of, rules_above, IsClaimIn, HaveTypesIn, IsGrammar}
