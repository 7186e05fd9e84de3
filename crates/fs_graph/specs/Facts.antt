-- What facts and lists of paths stand for.
use Rattle.std.specs.Prelude.{ℕ, Option, List, map, option_map}
use Rattle.fs_model.specs.Claims.{Path, Claim, exists_at, same, below}
use Rattle.fs_graph.specs.declared.facts.Feat.{Feat}
use Rattle.fs_graph.specs.declared.facts.Fact.{Fact}
use Rattle.fs_graph.specs.declared.facts.Fact.TheVariants.{Exists, Same, Below}
use Rattle.fs_graph.specs.declared.facts.PathLine.{PathLine}
use Rattle.fs_graph.specs.declared.facts.PathList.{PathList}

-- a path as numbers
abbrev pub path_of : List Feat → Path
path_of feats = map (λ f. f.0) feats

-- a fact as a claim
abbrev pub claim_of : Fact → Claim
claim_of (Exists p) = exists_at (path_of p.items)
claim_of (Same p q) = same (path_of p.items) (path_of q.items)
claim_of (Below p t) = below (path_of p.items) t.0

abbrev pub claims_of : List Fact → List Claim
claims_of facts = map claim_of facts

-- a path, its type, and the least path to its node where that is another one
pub record Line : Type 0 where
  pub path : Path
  pub ty : ℕ
  pub same_as : Option Path

abbrev pub line_of : PathLine → Line
line_of l = record { path = path_of l.path.items; ty = l.ty.0; same_as = option_map (λ p. path_of p.items) l.same_as }

abbrev pub lines_of : PathList → List Line
lines_of list = map line_of list.lines.items
