use Rattle.std.proofs.Common.{◌≡◌, ◌++◌, length, map}
use denote.Text.{Utf8}
use denote.Shadow.{shadow}
use Rattle.std.specs.List.{All}
use Rattle.std.specs.String.{string_bytes}
use Rattle.tree_reading.specs.Grammars.{IsWord}
use Rattle.tree_reading.proofs.WordTexts.{spelled}
use Rattle.tree_reading.proofs.words.read_words.Given as goal

abbrev pub invariant-words : goal.invariant-words
invariant-words l = record {
  text : shadow (Utf8 l.rest);
  is : l.text ≡ spelled (map string_bytes l.words.items) ++ l.rest;
  all : All IsWord (map string_bytes l.words.items);
}

abbrev pub decreases-words : goal.decreases-words
decreases-words l = length l.rest
