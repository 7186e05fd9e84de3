use Rattle.std.proofs.Common.{ℕ, ◌∙◌, All, Vec, Global, String, sym, ap, subst}
use Rattle.chart_model.specs.At.{At}
use Rattle.tree_faults.specs.WordBooks.{IsNumbered, said_by}
use Rattle.derivation.specs.declared.Tree.{Tree}
use Rattle.tree_faults.proofs.Items.{item_next, leaf_at, spelled_follows, fault_follows, down_follows}
use Rattle.tree_faults.proofs.misspelled.next_of.Goals as goal

pub leaf_fault-requires-clause-entry : goal.leaf_fault-requires-clause-entry
leaf_fault-requires-clause-entry c =
    let P = IsNumbered c.args.book.now in
    let here = c.args.here.now in
    let item = c.in-Some.daughter.now in
    let next = item_next here item c.in-Some.ensures.lookup.3.0 c.in-Some.ensures.lookup.1 in
    let a = c.in-Lexical in
    (leaf_at P here a.entry a.rules a.words a.nodes item a.is next c.requires.numbered).0

pub leaf_fault-requires-clause-rules : goal.leaf_fault-requires-clause-rules
leaf_fault-requires-clause-rules c =
    let P = IsNumbered c.args.book.now in
    let here = c.args.here.now in
    let item = c.in-Some.daughter.now in
    let next = item_next here item c.in-Some.ensures.lookup.3.0 c.in-Some.ensures.lookup.1 in
    let a = c.in-Lexical in
    let read = c.deref-in-Lexical.ensures.value ∙ ap (λ (rs : Vec ℕ Global). rs.items) c.deref.ensures in
    subst (All (λ rule. (n : ℕ) × At c.args.book.now.rules.now n rule)) (sym read) (leaf_at P here a.entry a.rules a.words a.nodes item a.is next c.requires.numbered).1

pub returns-in-None : goal.returns-in-None
returns-in-None c =
    let here = c.args.here.now in
    let item = c.in-Some.daughter.now in
    let next = item_next here item c.in-Some.ensures.lookup.3.0 c.in-Some.ensures.lookup.1 in
    let a = c.in-Lexical in
    let read = c.deref-in-Lexical.ensures.value ∙ ap (λ (rs : Vec ℕ Global). rs.items) c.deref.ensures in
    let heard = c.deref-in-Lexical-3.ensures.value ∙ ap (λ (ws : Vec (String Global) Global). ws.items) c.deref-in-Lexical-2.ensures in
    spelled_follows a.entry a.rules a.words a.nodes item a.is (said_by c.args.book.now) c.deref-in-Lexical.result.now c.deref-in-Lexical-3.result.now read heard here next (rw c.in-None.is at c.in_ok-leaf_fault-in-Lexical.ensures)

pub returns-in-Some-2 : goal.returns-in-Some-2
returns-in-Some-2 c =
    let here = c.args.here.now in
    let item = c.in-Some.daughter.now in
    let next = item_next here item c.in-Some.ensures.lookup.3.0 c.in-Some.ensures.lookup.1 in
    let a = c.in-Lexical in
    let read = c.deref-in-Lexical.ensures.value ∙ ap (λ (rs : Vec ℕ Global). rs.items) c.deref.ensures in
    let heard = c.deref-in-Lexical-3.ensures.value ∙ ap (λ (ws : Vec (String Global) Global). ws.items) c.deref-in-Lexical-2.ensures in
    fault_follows a.entry a.rules a.words a.nodes item a.is (said_by c.args.book.now) c.deref-in-Lexical.result.now c.deref-in-Lexical-3.result.now read heard here c.in-Some-2.fault next (rw c.in-Some-2.is at c.in_ok-leaf_fault-in-Lexical.ensures)

pub returns-in-Phrase : goal.returns-in-Phrase
returns-in-Phrase c =
    let here = c.args.here.now in
    let item = c.in-Some.daughter.now in
    let next = item_next here item c.in-Some.ensures.lookup.3.0 c.in-Some.ensures.lookup.1 in
    let a = c.in-Phrase in
    let read = c.deref-in-Phrase-2.ensures.value ∙ ap (λ (ds : Vec Tree Global). ds.items) c.deref-in-Phrase.ensures in
    down_follows a.rule a.words a.daughters item c.deref-in-Phrase-2.result.now a.is read (said_by c.args.book.now) here c.new.result next c.new.ensures.rule c.new.ensures.daughters c.new.ensures.none
