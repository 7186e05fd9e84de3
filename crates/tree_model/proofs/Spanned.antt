-- Spans are covers of trees.
use Rattle.std.specs.Prelude.{ℕ, ◌≡◌, ◌==◌, Bool, true, false, Option, Some, None, List, [], ◌∷◌}
use Rattle.std.proofs.Common.{refl, sym, ◌∙◌, ap, subst, eq-eqb, eqb-true}
use Rattle.chart_model.specs.declared.span.Span.{Span}
use Rattle.chart_model.specs.Spans.{span_join, join_all, join_next}
use Rattle.derivation.specs.Trees.{Derivation, Daughters, phrase, no_more, first}
use Rattle.tree_model.specs.Signs.{Signs}
use Rattle.tree_model.specs.Lexical.{Words}
use Rattle.tree_model.specs.Forest.{IsLexical}
use Rattle.tree_model.specs.Trees.{Covered, covered_lexical, covered_phrase, AllCovered, no_covers, more_covers}
use Rattle.tree_model.specs.Lattices.{Lattice, Spans, SpanOn, spans_lexical, spans_phrase, spans_no_more, spans_next}
use Rattle.tree_model.specs.Licensed.{IsLexicalTree, LicensedAreWanted}

-- spans that meet
pub span_met : (a b c : ℕ) → span_join (record { from = a; to = b }) (record { from = b; to = c }) ≡ Some (record { from = a; to = c })
span_met a b c = rw (eq-eqb b b refl) refl

-- a tree that fits does so from one node to one
same_begin : {t : Derivation} {a b c d : ℕ} → Spans t a b → Spans t c d → a ≡ c
same_begin spans_lexical spans_lexical = refl
same_begin (spans_phrase h hs) (spans_phrase k ks) = same_begin h k

mutual
  same_end : {t : Derivation} {a b c d : ℕ} → Spans t a b → Spans t c d → b ≡ d
  same_end spans_lexical spans_lexical = refl
  same_end (spans_phrase h hs) (spans_phrase k ks) = same_last hs ks (same_end h k)

  same_last : {ds : Daughters} {a b c d : ℕ} → SpanOn ds a b → SpanOn ds c d → a ≡ c → b ≡ d
  same_last spans_no_more spans_no_more e = e
  same_last (spans_next h hs) (spans_next k ks) e = same_last hs ks (same_end h k)

pub span_is : (t : Derivation) (s : Span) (a b : ℕ) → Spans t s.from s.to → Spans t a b → s ≡ record { from = a; to = b }
span_is t s a b h k = λ i. record { from = (same_begin h k) i; to = (same_end h k) i }

pub span_parts : (x e y : Span) → span_join x e ≡ Some y → (x.to ≡ e.from) × (y.from ≡ x.from) × (y.to ≡ e.to)
span_parts x e y h = by_test (x.to == e.from) refl
  where
    by_test : (b : Bool) → (x.to == e.from) ≡ b → (x.to ≡ e.from) × (y.from ≡ x.from) × (y.to ≡ e.to)
    by_test true t =
        let w : record { from = x.from; to = e.to } ≡ y = (let v : span_join x e ≡ Some (record { from = x.from; to = e.to }) = rw t refl in cc) in
        (eqb-true x.to e.from t, ap (λ (s : Span). s.from) (sym w), ap (λ (s : Span). s.to) (sym w))
    by_test false t = absurd (let v : span_join x e ≡ None = rw t refl in cc)

abbrev Covers : Derivation → Span → Type 0
Covers = Covered (λ t c. Spans t c.from c.to) (λ _ cs. join_all cs)

abbrev AllCover : Daughters → List Span → Type 0
AllCover = AllCovered (λ t c. Spans t c.from c.to) (λ _ cs. join_all cs)

span_more : (x e : Span) (cs : List Span) (c : Span) (d : Derivation) (ds : Daughters) → Spans d e.from e.to → ((y : Span) → join_next (Some y) cs ≡ Some c → SpanOn ds y.to c.to × (c.from ≡ y.from)) →
    join_next (Some x) (e ∷ cs) ≡ Some c → SpanOn (first d ds) x.to c.to × (c.from ≡ x.from)
span_more x e cs c d ds spans more h = by_join (span_join x e) refl
  where
    by_join : (j : Option Span) → span_join x e ≡ j → SpanOn (first d ds) x.to c.to × (c.from ≡ x.from)
    by_join None q = absurd (let k : join_next (span_join x e) cs ≡ None = rw q refl in cc)
    by_join (Some y) q =
        let m = span_parts x e y q in
        let z = more y (let k : join_next (span_join x e) cs ≡ join_next (Some y) cs = rw q refl in sym k ∙ h) in
        (spans_next (subst (λ n. Spans d n e.to) (sym m.0) spans) (subst (λ n. SpanOn ds n c.to) m.2 z.0), z.1 ∙ m.1)

mutual
  spanned : {t : Derivation} {c : Span} → Covers t c → Spans t c.from c.to
  spanned (covered_lexical s) = s
  spanned (covered_phrase _ no_covers e) = absurd (cc)
  spanned {c = c} (covered_phrase {rule = rule} _ (more_covers {d = d} {ds = ds} {c = b} {cs = cs} x xs) e) =
      let z = all_spanned xs b c e in
      subst (λ n. Spans (phrase rule (first d ds)) n c.to) (sym z.1) (spans_phrase (spanned x) z.0)

  all_spanned : {ds : Daughters} {cs : List Span} → AllCover ds cs → (x c : Span) → join_next (Some x) cs ≡ Some c → SpanOn ds x.to c.to × (c.from ≡ x.from)
  all_spanned no_covers x c h = let z : x ≡ c = cc in (subst (λ (y : Span). SpanOn no_more x.to y.to) z spans_no_more, ap (λ (y : Span). y.from) (sym z))
  all_spanned (more_covers {d = d} {ds = ds} {c = b} {cs = cs} k ks) x c h = span_more x b cs c d ds (spanned k) (λ y j. all_spanned ks y c j) h

record Over (ds : Daughters) (a b c : ℕ) : Type 0 where
  covers : List Span
  covered : AllCover ds covers
  joins : join_next (Some (record { from = a; to = b })) covers ≡ Some (record { from = a; to = c })

mutual
  covered : {t : Derivation} {a b : ℕ} → Spans t a b → Covers t (record { from = a; to = b })
  covered spans_lexical = covered_lexical spans_lexical
  covered {a = a} (spans_phrase {b = m} h hs) = let z = all_covered {a = a} hs in covered_phrase (record { from = a; to = m } ∷ z.covers) (more_covers (covered h) z.covered) z.joins

  all_covered : {ds : Daughters} {a b c : ℕ} → SpanOn ds b c → Over ds a b c
  all_covered spans_no_more = record { covers = []; covered = no_covers; joins = refl }
  all_covered {a = a} {b = b} (spans_next {b = m} h hs) =
      let z = all_covered {a = a} hs in
      record { covers = record { from = b; to = m } ∷ z.covers; covered = more_covers (covered h) z.covered; joins = ap (λ j. join_next j z.covers) (span_met a b m) ∙ z.joins }

is_lexical : (g : Signs) (words : Words) (lattice : Lattice) (t : Derivation) → IsLexicalTree g words lattice t → IsLexical t
is_lexical g words lattice t l = subst IsLexical (sym l.is) tt

pub licensed_are_wanted : LicensedAreWanted
licensed_are_wanted g words lattice most = (
  record { lexical = λ t l. is_lexical g words lattice t l.0; one_cover = λ t c d h k. span_is t c d.from d.to h k },
  λ t. (
    (λ w. record { leaves = w.leaves; spans = subst (λ n. Spans t 0 n) w.accepted.1 (subst (λ n. Spans t n w.cover.to) w.accepted.0 (spanned w.covered)); structure = w.structure; full = w.full; rooted = w.accepted.2 }),
    (λ l. record { leaves = l.leaves; cover = record { from = 0; to = lattice.end }; covered = covered l.spans; structure = l.structure; full = l.full; accepted = (refl, refl, l.rooted) }),
  ),
)
