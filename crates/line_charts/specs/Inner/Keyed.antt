-- A key of a class as it stands in order; only private clauses cite it.
use Rattle.line_charts.specs.declared.keys.ClassKey.{ClassKey}
use Rattle.line_charts.specs.Keys.{Key}

abbrev pub key_seen : ClassKey → Key
key_seen k = record { from = k.from; to = k.to; level = k.level; text = k.text.items; graph = k.graph.now }
