-- What a line's lexical trees, and what is found over them, have to do with the answer to the line.
use Rattle.std.specs.Prelude.{ℕ, ◌≡◌, ◌<◌, List, length}
use Rattle.fs_model.specs.Claims.{IsOrder}
use Rattle.chart_model.specs.Calculus.{Calculus}
use Rattle.chart_model.specs.Spans.{span_join, span_size, join_all, same_span, is_span}
use Rattle.chart_model.specs.declared.span.Span.{Span}
use Rattle.chart_core.specs.declared.Limits.{Limits}
use Rattle.tree_model.specs.Structures.{Structure}
use Rattle.tree_model.specs.Mothers.{Agrees}
use Rattle.tree_model.specs.Laws.{rules_calculus, rules_full}
use Rattle.tree_model.specs.Signs.{Signs, rule_system}
use Rattle.tree_model.specs.Lexical.{Words}
use Rattle.tree_model.specs.Items.{LeafTree, AreLeaves, leaves_from, Answer, LexicalDepth}
use Rattle.tree_model.specs.Forests.{wholes}
use Rattle.tree_model.specs.Lattices.{Lattice}
use Rattle.tree_model.specs.Licensed.{IsTooDeep, parse_item}
use Rattle.tree_model.specs.Answers.{IsParseAnswer}
use Rattle.rule_trees.specs.Wholes.{IsRuled}
use Rattle.packed_items.specs.Packed.{Fit, IsFound}
use Rattle.packed_items.specs.Answers.{limits_in, answer_of}
use Rattle.packed_items.specs.declared.Found.{Found}
use Rattle.lexical_items.specs.Listed.{Lexeme, AreLexemes, Lexical, TooDeep, Trees, IsLexicalAnswer}
use Rattle.grammar_rules.specs.Leafed.{leaf_trees, AreShapes}

-- the phrase rules over spans, by number
abbrev pub span_rules : Signs → Calculus Structure Span
span_rules g = rules_calculus (rule_system g) (λ _ cs. join_all cs) same_span span_join span_size is_span

-- a leaf of a line by its number
abbrev pub IsNamed : List (LeafTree Span) → ℕ → Type 0
IsNamed ls n = n < length ls

-- All lexical trees of a line, each with its shape, are its leaves.
abbrev pub LexemesAreLeaves : Type 0
LexemesAreLeaves = (g : Signs) (words : Words) (lattice : Lattice) (most : ℕ) (xs : List Lexeme) (shapes : List Structure) →
    AreLexemes g words lattice most xs → AreShapes g xs shapes → AreLeaves g (parse_item g words lattice most) (leaf_trees xs shapes)

-- The full structures of a line's trees fit its grammar and leaves.
abbrev pub FullsFit : Type 0
FullsFit = (g : Signs) (words : Words) (lattice : Lattice) (most : ℕ) (limits : Limits) (ls : List (LeafTree Span)) → IsOrder g.system → AreLeaves g (parse_item g words lattice most) ls →
    Fit (span_rules g) (rules_full (rule_system g)) (Agrees (rule_system g)) (wholes g (parse_item g words lattice most) (limits_in limits) ls) (IsNamed ls) (IsRuled g) (leaves_from 0 ls)

-- Where no lexical tree is too deep, what is found over the leaves is the answer to the line.
abbrev pub FoundIsAnswer : Type 0
FoundIsAnswer = (g : Signs) (words : Words) (lattice : Lattice) (most : ℕ) (limits : Limits) (ls : List (LeafTree Span)) → IsOrder g.system → (IsTooDeep g words lattice most → ⊥) → AreLeaves g (parse_item g words lattice most) ls → (found : Found) →
    IsFound (span_rules g) (rules_full (rule_system g)) (Agrees (rule_system g)) (wholes g (parse_item g words lattice most) (limits_in limits) ls) limits (leaves_from 0 ls) found →
    IsParseAnswer g words lattice most (limits_in limits) (answer_of found)

-- So a line is answered by its lexical trees: one is too deep; or chart and unpacking find the answer over all of them, with the
-- abstractions of their full structures.
abbrev pub IsAnswerOver : Signs → Words → Lattice → Limits → List Structure → Found → Lexical → Answer → Type 0
IsAnswerOver g words lattice limits shapes found TooDeep a = a ≡ LexicalDepth
IsAnswerOver g words lattice limits shapes found (Trees xs) a =
    AreShapes g xs shapes
    × IsFound (span_rules g) (rules_full (rule_system g)) (Agrees (rule_system g)) (wholes g (parse_item g words lattice limits.lexical) (limits_in limits) (leaf_trees xs shapes)) limits (leaves_from 0 (leaf_trees xs shapes)) found
    × (a ≡ answer_of found)

abbrev pub LinesAreAnswered : Type 0
LinesAreAnswered = (g : Signs) (words : Words) (lattice : Lattice) (limits : Limits) (lexical : Lexical) (shapes : List Structure) (found : Found) (a : Answer) → IsOrder g.system → IsLexicalAnswer g words lattice limits.lexical lexical →
    IsAnswerOver g words lattice limits shapes found lexical a → IsParseAnswer g words lattice limits.lexical (limits_in limits) a
