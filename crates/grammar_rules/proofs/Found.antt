-- What is found over the leaves of a line is its answer.
use Rattle.std.proofs.Common.{sym, subst}
use Rattle.tree_model.specs.Licensed.{parse_item}
use Rattle.tree_model.specs.Answers.{IsParseAnswer}
use Rattle.tree_model.proofs.Spanned.{licensed_are_wanted}
use Rattle.tree_model.proofs.ParseAnswered.{found_is_answer}
use Rattle.packed_items.specs.Answers.{limits_in, answer_of}
use Rattle.packed_items.proofs.Items.{fit_item, found_item}
use Rattle.lexical_items.specs.Listed.{TooDeep, Trees}
use Rattle.grammar_rules.specs.Leafed.{leaf_trees}
use Rattle.grammar_rules.specs.Laws.{FullsFit, FoundIsAnswer, LinesAreAnswered}
use Rattle.grammar_rules.proofs.Leafed.{lexemes_are_leaves}

pub fulls_fit : FullsFit
fulls_fit g words lattice most limits ls o leaves = fit_item (parse_item g words lattice most) g o (licensed_are_wanted g words lattice most).0 limits ls leaves

pub found_answers : FoundIsAnswer
found_answers g words lattice most limits ls o flat leaves found f =
    found_is_answer g words lattice most (limits_in limits) o flat ls leaves (answer_of found) (found_item (parse_item g words lattice most) g o (licensed_are_wanted g words lattice most).0 limits ls leaves found f)

pub lines_answered : LinesAreAnswered
lines_answered g words lattice limits TooDeep shapes found a o deep x = subst (IsParseAnswer g words lattice limits.lexical (limits_in limits)) (sym x) deep
lines_answered g words lattice limits (Trees xs) shapes found a o known x =
    subst (IsParseAnswer g words lattice limits.lexical (limits_in limits)) (sym x.2)
    (found_answers g words lattice limits.lexical limits (leaf_trees xs shapes) o known.0 (lexemes_are_leaves g words lattice limits.lexical xs shapes known.1 x.0) found x.1)
