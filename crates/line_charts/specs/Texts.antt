-- The report lines of a packed forest, each with its end.
use Rattle.std.specs.Prelude.{ℕ, ◌+◌, Bool, true, false, if◌then◌else◌, List, [], ◌∷◌, ◌++◌, length, map, codes}
use Rattle.std.specs.Fmt.{decimal}
use Rattle.std.specs.List.{flat_map}
use Rattle.type_hierarchy.specs.Table.{TypeTable}
use Rattle.fs_graph.specs.Text.{type_text}
use Rattle.derivation.specs.Text.{text_of, name_of}
use Rattle.item_reports.specs.Reports.{item_line, refused_line}
use Rattle.tree_model.specs.Lattices.{Step}
use Rattle.line_charts.specs.Charts.{Maker, by_tree, by_rule, ToldClass}
use Rattle.line_charts.specs.Answers.{ChartAnswer, LexicalDepth, ByUnaryChain, ByEdges, Forest}

-- `FROM:TO`
abbrev pub span_text : ℕ → ℕ → List ℕ
span_text from to = decimal from ++ 58 ∷ decimal to

-- `  unknown FROM:TO WORD`
abbrev pub unknown_line : Step → List ℕ
unknown_line s = codes "  unknown " ++ span_text s.from s.to ++ 32 ∷ (s.word ++ 10 ∷ [])

-- ` K`, with the numbers of classes from 1 on
abbrev pub number_text : ℕ → List ℕ
number_text n = 32 ∷ decimal (n + 1)

-- ` MAKER`: the text of a lexical tree, with its nodes where they are asked for, or `(RULE K K)`
abbrev pub maker_text : List (List ℕ) → Bool → Maker → List ℕ
maker_text names nodes (by_tree t) = 32 ∷ text_of names nodes t
maker_text names nodes (by_rule rule ns) = 32 ∷ 40 ∷ name_of names rule ++ flat_map number_text ns ++ 41 ∷ []

-- `TYPE`, with `*` where some root unifies
abbrev pub class_type_text : TypeTable → ToldClass → List ℕ
class_type_text types c = type_text types c.ty ++ (if c.rooted then 42 ∷ [] else [])

-- `  K FROM:TO TYPE MAKER ..`
abbrev pub class_line : TypeTable → List (List ℕ) → Bool → ℕ → ToldClass → List ℕ
class_line types names nodes k c =
    (32 ∷ number_text k) ++ (32 ∷ span_text c.from c.to) ++ (32 ∷ class_type_text types c) ++ flat_map (maker_text names nodes) c.makers ++ 10 ∷ []

-- numbered from k on
abbrev pub class_lines : TypeTable → List (List ℕ) → Bool → ℕ → List ToldClass → List (List ℕ)
class_lines types names nodes k [] = []
class_lines types names nodes k (c ∷ cs) = class_line types names nodes k c ∷ class_lines types names nodes (k + 1) cs

-- what is written of an answer to the line of a number: the limit that is broken, or the number of classes, the unknown words and the classes
abbrev pub chart_lines : TypeTable → List (List ℕ) → Bool → ℕ → ChartAnswer → List (List ℕ)
chart_lines types names nodes number LexicalDepth = refused_line number (codes "lexical-depth") ∷ []
chart_lines types names nodes number ByUnaryChain = refused_line number (codes "unary-chain") ∷ []
chart_lines types names nodes number ByEdges = refused_line number (codes "edges") ∷ []
chart_lines types names nodes number (Forest unknown classes) =
    item_line number (codes "classes " ++ decimal (length classes)) ∷ map unknown_line unknown ++ class_lines types names nodes 0 classes

abbrev pub is_refused : ChartAnswer → Bool
is_refused (Forest unknown classes) = false
is_refused other = true
