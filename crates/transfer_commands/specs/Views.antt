-- What of the program answers lines.
use Rattle.transfer_commands.specs.declared.answering.Transferrer.{Transferrer}
use Rattle.transfer_commands.specs.Rewriters.{Rewriter}

abbrev pub rewriter_of : Transferrer → Rewriter
rewriter_of t = record { rules = t.rules; skipped = t.guard.skipped.items }
