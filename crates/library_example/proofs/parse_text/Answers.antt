use Rattle.std.proofs.Common.{◌≡◌, ◌∙◌, refl, ap, subst, Some, None, [], false, codes, map, string_bytes}
use Rattle.lkb_io.specs.Shelves.{file_or_empty}
use Rattle.endings.specs.Meanings.{Shelves, shelves}
use Rattle.endings.specs.Reports.{Streams, streams}
use Rattle.endings.specs.Endings.{IsReadThrough}
use Rattle.command_line.specs.Words.{IsForm, parse, options_of}
use Rattle.top_call.specs.Commands.{meaning_of}
use Rattle.library_example.specs.Parsed.{Comes, words_asked, form_asked, asked}
use Rattle.library_example.proofs.Asking.{have_form}
use Rattle.library_example.proofs.Cases.{comes, still}
use Rattle.library_example.proofs.parse_text.Goals as goal

pub returns : goal.returns
returns g c report fault jw jx =
    let said = map (λ w. string_bytes w) c.deref.result.now in
    let are : said ≡ words_asked = ap (λ ws. map (λ w. string_bytes w) ws) c.deref.ensures.value ∙ c.in_ok-words.ensures in
    let has : IsForm said form_asked = have_form said are in
    let r = c.run-status.ensures in
    let new = c.run-status.new in
    let h : Shelves = shelves (λ s. Some (file_or_empty s)) (λ s. 0) (λ s. None) c.in_ok-shelf.shelf new.shelf in
    let o : Streams = streams (λ s. Some s) (λ s. 0) (λ s. s.written) (λ s. s.flushed) (λ s. 0) c.new-input.result new.input c.new-report.result new.out in
    subst (λ s. Comes asked (Some (file_or_empty s)) c.args.lines.items report fault c.run-status.result) c.in_ok-shelf.ensures
    (comes (IsForm said) meaning_of form_asked (λ k is. c.one_form.ensures said k form_asked is has) has
    (Some (file_or_empty c.in_ok-shelf.shelf)) h o
    (Some c.new-input.result) c.new-report.result.written new.out.written c.new-fault.result.written new.err.written
    c.args.lines.items report fault (λ form. IsReadThrough (meaning_of form) (Some new.input))
    (ap Some c.new-input.ensures) (ap (λ a. a.written) c.new-report.ensures) jw (ap (λ a. a.written) c.new-fault.ensures) jx
    c.run-status.result r.report r.noted (λ texts notes n. c.nothing_noted.ensures (parse (codes "grammar")) (options_of []) refl (Some (file_or_empty c.in_ok-shelf.shelf)) false texts notes n) (λ e form is. (r.usage e).0 form is)
    (λ e. let p = r.grammar e in (p.0, p.1, p.2, p.3.0, p.4, ap (λ a. a.written) p.6)) r.no_grammar (λ e. still (r.write_fault e).3)
    (λ form bytes is left load can. r.complete form (file_or_empty c.in_ok-shelf.shelf) bytes is refl left load can (still, still, still)))
