use Rattle.std.proofs.Common.{option_map, string_bytes, ap}
use Rattle.grammar_files.proofs.ReadLemmas.{no_text}
use Rattle.grammar_files.proofs.all_read.irregular_text.Goals as goal

pub returns-in-None-clause-text : goal.returns-in-None-clause-text
returns-in-None-clause-text g c = no_text (g.S.Shelf.files c.args.shelf.now) (option_map string_bytes c.args.file.now) c.new.result.items (ap (option_map string_bytes) c.in-None.is) c.new.ensures.items
