-- What a type system stands for, as fs_closing has it.
pub use Rattle.fs_closing.specs.Systems.{rule_of, rules_of, grammar_of, IsSystemInside}
