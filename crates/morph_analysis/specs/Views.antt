-- What contracts see of chains, and of the words that lead to a word.
use Rattle.std.specs.Prelude.{String, map, string_bytes}
use Rattle.std.specs.Global.{Global}
use Rattle.morph_analysis.specs.declared.chain.Chain.{Chain}
use Rattle.morph_analysis.specs.declared.nodes.Edge.{Edge}
use Rattle.morph_analysis.specs.declared.nodes.Node.{Node}
use Rattle.morph_analysis.specs.declared.made.MadeChain.{MadeChain}
use Rattle.morph_analysis.specs.Chains.{ChainTree}
use Rattle.morph_analysis.specs.Made.{MadeTree}
use Rattle.morph_analysis.specs.Spelled.{EdgeTree, NodeTree}

abbrev pub chain_of : Chain → ChainTree
chain_of c = record { from = c.from; to = c.to; entry = c.entry; rules = c.rules.items; words = map string_bytes c.words.items }

abbrev pub edge_of : Edge → EdgeTree
edge_of e = record { rule = e.rule; to = e.to }

abbrev pub node_of : String Global × Node → NodeTree
node_of p = record { word = string_bytes p.0; distance = p.1.distance; edges = map edge_of p.1.edges.items }

abbrev pub made_of : {T V : Type 0} → (T → V) → MadeChain T → MadeTree V
made_of value x = record { chain = chain_of x.chain; value = value x.made }
