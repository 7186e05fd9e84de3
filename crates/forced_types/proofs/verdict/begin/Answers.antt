use Rattle.std.proofs.Common.{◌≡◌, None, [], ◌∷◌, ◌++◌, length, ap, ◌∙◌}
use Rattle.fs_graph.specs.Facts.{path_of}
use Rattle.forced_types.specs.Inner.Entries.{entries_of, fresh}
use Rattle.forced_types.proofs.SoundLemmas.{begun_sound}
use Rattle.forced_types.proofs.verdict.begin.Goals as goal

pub returns : goal.returns
returns c =
    let g = c.args.given in
    let is : entries_of c.push_node.new.self.list.items ≡ fresh 0 [] None ∷ [] =
    c.in_ok-push_node.ensures.adds ∙ ap (λ l. l ++ fresh (length l) (path_of c.new-3.result.items) None ∷ []) (ap entries_of c.new.ensures.items)
    ∙ ap (λ p. fresh 0 (path_of p) None ∷ []) c.new-3.ensures.items in
    begun_sound g c.push_node.new.self c.requires.parts c.requires.facts c.laws.ensures.some c.requires.there is (c.push_node.ensures.pairs ∙ c.new-2.ensures.items)
