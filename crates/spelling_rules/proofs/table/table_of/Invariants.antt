use Rattle.std.proofs.Common.{◌≡◌, ◌++◌, ◌+◌, ◌-◌, ◌<◌, ◌≤◌, ℕ, List, [], ◌∷◌, length, map, take, drop, None, string_bytes}
use Rattle.spelling_rules.specs.Views.{sign_of, group_of, rule_of, line_of, words_in, letters_in}
use Rattle.spelling_rules.specs.Inner.Rewriting.{value_in, fits_by, by_groups}
use Rattle.spelling_rules.specs.Forms.{stands_for, joined, Rewrites, HasForm}
use Rattle.spelling_rules.specs.Inner.Undoing.{occurs, longer, fillings}
use Rattle.std.specs.List.{flat_map}
use Rattle.std.specs.Prelude.{encode_utf8_all}
use Rattle.lexicon.specs.Words.{Word, Has, Rises, noted}
use Rattle.spelling_rules.specs.Inner.Tables.{IsTable, pair_of, words_of_rule, with_each}
use Rattle.spelling_rules.specs.Inner.Keeping.{IsStem}
use Rattle.spelling_rules.proofs.table.table_of.Given as goal

abbrev pub invariant-loop-line : goal.invariant-loop-line
invariant-loop-line l = IsTable (map line_of (take l.line-index l.lines)) l.by_stem.entries l.by_form.entries
