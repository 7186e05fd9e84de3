use Rattle.std.proofs.Common.{◌≡◌, ℕ, List, map, length, string_bytes, Vec, Global}
use Rattle.std.proofs.lemmas.Result.{IfOk-weaker}
use Rattle.type_hierarchy.specs.Table.{count_of}
use Rattle.fs_graph.specs.Facts.{lines_of}
use Rattle.fs_graph.specs.Text.{line_text}
use Rattle.fs_graph.specs.GraphMap.{reader_of}
use Rattle.grammar_commands.specs.Expansions.{AreLinesOf}
use Rattle.grammar_commands.proofs.NamedLines.{lines-named}
use Rattle.grammar_commands.proofs.expansion.structure_lines.Goals as goal

pub line_texts-requires : goal.line_texts-requires
line_texts-requires c = lines-named (count_of c.args.types.now) (length c.args.feats.now) c.args.graph.now c.laws.ensures c.requires (lines_of c.in_ok-list.list) c.in_ok-list.ensures

pub returns : goal.returns
returns c =
    let texts_of = λ (texts : Vec (Vec ℕ Global) Global). map (λ (t : Vec ℕ Global). t.items) texts.items in
    let f = line_text c.args.types.now (map string_bytes c.args.feats.now) in
    IfOk-weaker c.line_texts.result (λ texts. texts_of texts ≡ map f (lines_of c.in_ok-list.list)) (λ texts. AreLinesOf c.args.types.now (map string_bytes c.args.feats.now) (reader_of c.args.graph.now) (texts_of texts))
    (λ texts e. (lines_of c.in_ok-list.list, c.in_ok-list.ensures, e)) c.line_texts.ensures
