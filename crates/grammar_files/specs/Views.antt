-- What contracts see of what was read.
use Rattle.grammar_files.specs.WalkViews.{walked_of}
use Rattle.grammar_files.specs.declared.all_read.Read.{Read}
use Rattle.grammar_files.specs.Reads.{ReadTree}

abbrev pub read_of : Read → ReadTree
read_of r = record { walked = walked_of r.walked; irregular = r.irregular.items }
