use Rattle.std.proofs.Common.{◌≡◌, ◌∙◌, ◌++◌, ℕ, List, [], sym, ap, subst, arith, map, All, length, string_bytes, Vec, Global}
use Rattle.std.specs.Vec.Iter.{into_iter_items}
use Rattle.std.proofs.lemmas.List.{nil_from_length}
use Rattle.type_hierarchy.specs.Table.{count_of}
use Rattle.fs_graph.specs.declared.facts.PathLine.{PathLine}
use Rattle.fs_graph.specs.Facts.{line_of, lines_of}
use Rattle.fs_graph.specs.Text.{IsNamed, line_text}
use Rattle.grammar_commands.proofs.LineTexts.{all-head, all-tail, text-more, text-all}
use Rattle.grammar_commands.proofs.expansion.line_texts.Goals as goal

pub loop-line-init : goal.loop-line-init
loop-line-init c =
    let f = line_text c.args.types.now (map string_bytes c.args.feats.now) in
    let left = into_iter_items c.into_iter-line-iterator.result in
    let same : left ≡ c.args.list.lines.items = c.into_iter-line-iterator.ensures.into_iter_gives.0 in
    record {
      named = subst (λ (ls : List PathLine). All (IsNamed (count_of c.args.types.now) (length c.args.feats.now)) (map line_of ls)) (sym same) c.requires;
      all = ap (λ (ls : List PathLine). map f (map line_of ls)) (sym same) ∙ ap (λ (vs : List (Vec ℕ Global)). map (λ (v : Vec ℕ Global). v.items) vs ++ map f (map line_of left)) (sym c.new-texts.ensures.items);
    }

pub line_text-requires : goal.line_text-requires
line_text-requires c =
    all-head (IsNamed (count_of c.args.types.now) (length c.args.feats.now)) (into_iter_items c.loop-line.line-iterator) (into_iter_items c.next.new.self) c.in-Some.line c.in-Some.ensures.steps.0 c.loop-line.invariant.named

pub loop-line-preserved : goal.loop-line-preserved
loop-line-preserved c =
    let f = line_text c.args.types.now (map string_bytes c.args.feats.now) in
    let left = into_iter_items c.loop-line.line-iterator in
    let rest = into_iter_items c.next.new.self in
    record {
      named = all-tail (IsNamed (count_of c.args.types.now) (length c.args.feats.now)) left rest c.in-Some.line c.in-Some.ensures.steps.0 c.loop-line.invariant.named;
      all = text-more f (map f (lines_of c.args.list)) c.loop-line.texts.items c.push.new.self.items left rest c.in-Some.line c.in_ok-line_text.field-0 c.loop-line.invariant.all c.in-Some.ensures.steps.0
          c.in_ok-push.ensures.items c.in_ok-line_text.ensures;
    }

pub returns : goal.returns
returns c =
    let f = line_text c.args.types.now (map string_bytes c.args.feats.now) in
    let left = into_iter_items c.loop-line.line-iterator in
    let none : left ≡ [] = nil_from_length left (omega (arith, c.in-None.ensures.steps.0, c.loop-line.line-iterator.rest.ok)) in
    text-all f (map f (lines_of c.args.list)) c.loop-line.texts.items left c.loop-line.invariant.all none
