-- The characters of a text that the code borrows.
use Rattle.std.specs.Prelude.{ℕ, List, map, Vec}
use Rattle.std.specs.declared.alloc.Global.{Global}
use denote.Ref.{Bor}
pub use Rattle.tdl_lexer.specs.Scan.{chars_of}
use Rattle.tdl_reader.specs.declared.LetterSet.{LetterSet}
use Rattle.tdl_reader.specs.declared.Sign.{Sign}
use Rattle.tdl_reader.specs.Trees.{SetTree, SignTree}
use Rattle.tdl_reader.specs.Views.{set_of, sign_of}

abbrev pub set_at : Bor LetterSet → SetTree
set_at s = set_of s.now

abbrev pub signs_in : Vec Sign Global → List SignTree
signs_in v = map sign_of v.items

abbrev pub members_at : Vec ℕ Global → List ℕ
members_at v = v.items
