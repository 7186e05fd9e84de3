-- Where a word belongs in a rising list.
use Rattle.std.specs.Prelude.{◌≡◌, ◌≤◌, List, length}
use Rattle.std.specs.List.{insert}
use Rattle.lexicon.specs.Words.{Word, put}
use Rattle.lexicon.specs.declared.rising.Place.{Place}
use Rattle.lexicon.specs.declared.rising.Place.TheVariants.{Known, Before}

abbrev pub IsPlaceOf : Word → List Word → Place → Type 0
IsPlaceOf w ws Known = put w ws ≡ ws
IsPlaceOf w ws (Before i) = (i ≤ length ws) × (put w ws ≡ insert ws i w)
