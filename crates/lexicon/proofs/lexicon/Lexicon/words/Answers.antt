use Rattle.std.proofs.Common.{arith, ◌≡◌, ◌∙◌, ◌<◌, inl, inr, length, map, string_bytes, sym, ap, subst}
use Rattle.lexicon.proofs.GroupLemmas.{Has-at, number_next, same_at}
use Rattle.lexicon.specs.Inner.Index.{entry_of}
use Rattle.lexicon.specs.Entries.{EntryTree}
use Rattle.lexicon.specs.Words.{Has}
use Rattle.lexicon.proofs.lexicon.Lexicon.words.Goals as goal

pub returns-then-index-entry : goal.returns-then-index-entry
returns-then-index-entry c =
    let size : c.args.entry < length c.self.inside.entries.items = omega (arith, c.if-place-len.true, c.self.inside.entries.ok.0, c.len.ensures) in
    let x = c.index-then-index-entry.result.now in
    let same : c.index-then-index-entry.result.now ≡ c.index.result.now = same_at c.self.inside.entries.items c.args.entry x c.index.result.now size c.index-then-index-entry.ensures c.index.ensures in
    let e : entry_of x ≡ record { number = c.args.entry; words = map string_bytes c.as_slice.result.now } =
    ap (λ n. let y : EntryTree = record { number = n; words = map string_bytes x.words.items } in y) (ap (λ z. z.number) same ∙ c.if-index-entry.true)
    ∙ ap (λ l. let y : EntryTree = record { number = c.args.entry; words = map string_bytes l } in y) (sym c.as_slice.ensures.value) in
    subst (Has _) c.self.view_is (Has-at entry_of c.self.inside.entries.items c.args.entry x _ size c.index-then-index-entry.ensures e)

pub returns-then-other-entry : goal.returns-then-other-entry
returns-then-other-entry c =
    let e : entry_of c.other-item.result ≡ record { number = c.args.entry; words = map string_bytes c.as_slice-then-other-entry.result.now } =
    ap (λ n. let x : EntryTree = record { number = n; words = map string_bytes c.other-item.result.words.items } in x) c.if-other-entry.true
    ∙ ap (λ l. let x : EntryTree = record { number = c.args.entry; words = map string_bytes l } in x) (sym c.as_slice-then-other-entry.ensures.value) in
    let has = Has-at entry_of c.deref-other-items.result.now c.loop-other.other-index c.other-item.result _ c.loop-other-test.true c.other-item.is e in
    subst (Has _) (ap (map entry_of) c.deref-other-items.ensures.value ∙ c.self.view_is) has

pub loop-other-preserved : goal.loop-other-preserved
loop-other-preserved c = λ h.
    elim (number_next c.deref-other-items.result.now c.loop-other.other-index c.other-item.result c.args.entry c.loop-other-test.true c.other-item.is h) [
      | inl k ↦ c.loop-other.invariant k
      | inr e ↦ c.if-other-entry.false (sym e)
    ]
