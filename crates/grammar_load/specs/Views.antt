-- What contracts see of a grammar that was loaded.
use Rattle.grammar_settings.specs.SettingsViews.{settings_of, names_in}
use Rattle.grammar_load.specs.declared.grammar.Grammar.{Grammar}
use Rattle.grammar_load.specs.Loaded.{GrammarTree}

abbrev pub grammar_of : Grammar → GrammarTree
grammar_of g = record { book = g.book; lexicon = g.lexicon; spelling = g.spelling; settings = settings_of g.settings; names = names_in g.names }
