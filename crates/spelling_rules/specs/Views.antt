-- What contracts see of spelling rules.
use Rattle.std.specs.Prelude.{ℕ, List, Vec, String, map, string_bytes}
use Rattle.std.specs.Global.{Global}
pub use Rattle.lexicon.specs.Words.{words_in}
use Rattle.spelling_rules.specs.declared.rules.SpellSign.{SpellSign}
use Rattle.spelling_rules.specs.declared.rules.SpellSign.TheVariants.{Char, Set}
use Rattle.spelling_rules.specs.declared.rules.SpellGroup.{SpellGroup}
use Rattle.spelling_rules.specs.declared.rules.SpellRule.{SpellRule}
use Rattle.spelling_rules.specs.declared.rules.Irregular.{Irregular}
use Rattle.spelling_rules.specs.declared.rules.Stem.{Stem}
use Rattle.spelling_rules.specs.Forms.{StemTree}
use Rattle.spelling_rules.specs.Trees.{SignTree, letter, variable, GroupTree, RuleTree, LineTree}

abbrev pub sign_of : SpellSign → SignTree
sign_of (Char c) = letter c
sign_of (Set name members) = variable name members.items

abbrev pub signs_of : List SpellSign → List SignTree
signs_of = map sign_of

abbrev pub group_of : SpellGroup → GroupTree
group_of g = record { pattern = map sign_of g.pattern.items; with = map sign_of g.with.items }

abbrev pub rule_of : SpellRule → RuleTree
rule_of r = record { suffix = r.suffix; groups = map group_of r.groups.items }

abbrev pub line_of : Irregular → LineTree
line_of l = record { rule = l.rule; stem = string_bytes l.stem; form = string_bytes l.form }

abbrev pub letters_in : Vec ℕ Global → List ℕ
letters_in v = v.items

abbrev pub stem_of : Stem → StemTree
stem_of s = record { rule = s.rule; stem = string_bytes s.stem }

abbrev pub stems_in : Vec Stem Global → List StemTree
stems_in v = map stem_of v.items
