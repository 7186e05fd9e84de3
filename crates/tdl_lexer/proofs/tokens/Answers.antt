use Rattle.std.proofs.Common.{◌≡◌, ℕ, List, [], Option, sym, ap, inl, inr, ⊎_elim}
use Rattle.std.specs.Str.{chars, IsUtf8}
use Rattle.std.proofs.lemmas.Result.{IfOk-weaker, IfErr-weaker}
use Rattle.tdl_lexer.specs.declared.Token.{Token}
use Rattle.tdl_lexer.specs.declared.LexFault.{LexFault}
use Rattle.tdl_lexer.specs.declared.Mode.TheVariants.{Plain}
use Rattle.tdl_lexer.specs.Readings.{Reads, Tokens, spelled, not_utf8, unmarked, mark_width}
use Rattle.tdl_lexer.proofs.tokens.Goals as goal

pub returns-in-Err-clause-fault : goal.returns-in-Err-clause-fault
returns-in-Err-clause-fault c = inr ([], rw c.valid_up_to.ensures (not_utf8 _ c.in-Err.ensures.cases.0 c.in-Err.ensures.cases.1))

-- a reading of the text after the mark is one of the bytes
whole : (source text : List ℕ) (rest : List ℕ) (start : ℕ) (ts : List Token) (end : Option LexFault) → text ≡ source → IsUtf8 source → rest ≡ unmarked (chars text) → start ≡ mark_width (chars text) → Reads Plain start rest ts end → Tokens source ts end
whole source text rest start ts end e u r s h = spelled ts end u (rw (sym (ap chars e)) (rw (sym r, sym s) h))

pub returns-clause-found : goal.returns-clause-found
returns-clause-found c =
    let e = c.in-Ok.ensures.cases in
    let f = c.after_mark_of_order-start.ensures in
    IfOk-weaker c.tokens_from.result _ _ (λ v h. whole c.args.source.now c.in-Ok.text.now _ _ _ _ e.0 e.1 f.rest f.start h) c.tokens_from.ensures.found

pub returns-clause-fault : goal.returns-clause-fault
returns-clause-fault c =
    let e = c.in-Ok.ensures.cases in
    let f = c.after_mark_of_order-start.ensures in
    IfErr-weaker c.tokens_from.result _ _ (λ v h. ⊎_elim inl (λ p. inr (p.0, whole c.args.source.now c.in-Ok.text.now _ _ _ _ e.0 e.1 f.rest f.start p.1)) h) c.tokens_from.ensures.fault
