-- How the refusals of a sentence are named.
use Rattle.std.specs.Prelude.{ℕ, List, codes}

-- a lexical tree has one rule too many
abbrev pub lexical_depth_name : List ℕ
lexical_depth_name = codes "lexical-depth"

-- a chain of unary rules is too long
abbrev pub unary_chain_name : List ℕ
unary_chain_name = codes "unary-chain"

-- there are too many packed classes
abbrev pub edges_name : List ℕ
edges_name = codes "edges"

-- there are too many readings
abbrev pub readings_name : List ℕ
readings_name = codes "readings"
