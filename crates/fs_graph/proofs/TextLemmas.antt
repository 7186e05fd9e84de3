-- Texts piece by piece.
use Rattle.std.proofs.Common.{ℕ, ◌≡◌, ◌<◌, ◌+◌, List, [], ◌∷◌, ◌++◌, length, map, take, slice_index_or, sym, ◌∙◌, ap, subst, arith}
use Rattle.std.specs.List.{flat_map}
use Rattle.std.proofs.lemmas.List.{get_or-map, length-map, flat_map_more, take_more}
use Rattle.fs_graph.specs.declared.facts.PathLine.{PathLine}
use Rattle.fs_graph.specs.declared.facts.PathList.{PathList}
use Rattle.fs_graph.specs.Facts.{line_of, lines_of}

-- one more piece
pub piece_more : {X : Type 0} (f : X → List ℕ) (xs : List X) (i : ℕ) (y : X) (before now now' : List ℕ) → i < length xs → y ≡ slice_index_or xs i y →
    now ≡ before ++ flat_map f (take i xs) → now' ≡ now ++ f y → now' ≡ before ++ flat_map f (take (i + 1) xs)
piece_more f xs i y before now now' h is r e =
    e ∙ ap (λ l. l ++ f y) r ∙ flat_map_more f before (take i xs) y ∙ ap (λ z. before ++ flat_map f (take i xs ++ z ∷ [])) is
    ∙ ap (λ l. before ++ flat_map f l) (sym (take_more xs i y h))

-- a line of the list
pub line_at : (items : List PathLine) (list : PathList) (i : ℕ) (l : PathLine) → items ≡ list.lines.items → i < length items → l ≡ slice_index_or items i l →
    (i < length (lines_of list)) × (line_of l ≡ slice_index_or (lines_of list) i (line_of l))
line_at items list i l e h is =
    let size = length-map items line_of in
    subst (λ z. (i < length (map line_of z)) × (line_of l ≡ slice_index_or (map line_of z) i (line_of l))) e
    (omega arith, ap line_of is ∙ sym (get_or-map line_of items i l (line_of l) h))
