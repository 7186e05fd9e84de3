-- The cover of a tuple, daughter by daughter.
use Rattle.std.specs.Prelude.{◌≡◌, Option, Some, None, List, [], ◌∷◌, map}
use Rattle.std.proofs.Common.{refl, sym, ◌∙◌}
use Rattle.chart_model.specs.Spans.{span_join, join_next, join_all}
use Rattle.chart_model.specs.Tuples.{covers_of, on_list, IsTuple, NoGap}
use Rattle.chart_model.specs.declared.span.Span.{Span}
use Rattle.chart_model.specs.declared.covers.Part.{Part}
use Rattle.chart_model.specs.declared.covers.Tuple.{Tuple}

no_next : (o : Option Span) → join_next o [] ≡ o
no_next None = refl
no_next (Some c) = refl

module _ {T : Type 0} where
  -- the join of a span, where there is one, with a daughter's, where there is one
  abbrev pub join_part : Option Span → Option (Part T Span) → Option Span
  join_part None next = None
  join_part (Some c) None = Some c
  join_part (Some c) (Some part) = span_join c part.cover

  abbrev pub first_cover : Option (Part T Span) → Option Span
  first_cover None = None
  first_cover (Some part) = Some part.cover

  no_more : (b c : Option (Part T Span)) → b ≡ None → NoGap b c → c ≡ None
  no_more None c e h = h
  no_more (Some b) c e h = absurd (cc)

  none_part : (o : Option Span) (d : Option (Part T Span)) → d ≡ None → join_part o d ≡ o
  none_part None d e = refl
  none_part (Some c) d e = rw e refl

  part_next : (o : Option Span) (p : Part T Span) (ds : List Span) → join_next o (p.cover ∷ ds) ≡ join_next (join_part o (Some p)) ds
  part_next None p ds = refl
  part_next (Some c) p ds = refl

  -- the cover of a tuple, daughter by daughter
  pub covers_joined : (t : Tuple T Span) → IsTuple t → join_part (join_part (join_part (first_cover t.a) t.b) t.c) t.d ≡ join_all (covers_of t)
  covers_joined t is = by_parts t.a t.b t.c t.d is.from_a is.from_b is.from_c
    where
      all : Option (Part T Span) → Option (Part T Span) → Option (Part T Span) → Option (Part T Span) → List Span
      all a b c d = map (λ (p : Part T Span). p.cover) (on_list a (on_list b (on_list c (on_list d []))))

      by_d : (o : Option Span) (d : Option (Part T Span)) → join_part o d ≡ join_next o (map (λ (p : Part T Span). p.cover) (on_list d []))
      by_d o None = none_part o None refl ∙ sym (no_next o)
      by_d o (Some d) = sym (part_next o d [] ∙ no_next (join_part o (Some d)))

      by_c : (o : Option Span) (c d : Option (Part T Span)) → NoGap c d → join_part (join_part o c) d ≡ join_next o (map (λ (p : Part T Span). p.cover) (on_list c (on_list d [])))
      by_c o None d z = rw z (none_part (join_part o None) None refl ∙ none_part o None refl ∙ sym (no_next o))
      by_c o (Some c) d z = by_d (join_part o (Some c)) d ∙ sym (part_next o c (map (λ (p : Part T Span). p.cover) (on_list d [])))

      by_b : (o : Option Span) (b c d : Option (Part T Span)) → NoGap b c → NoGap c d → join_part (join_part (join_part o b) c) d ≡ join_next o (map (λ (p : Part T Span). p.cover) (on_list b (on_list c (on_list d []))))
      by_b o None c d y z = rw (y, no_more c d y z) (none_part (join_part (join_part o None) None) None refl ∙ none_part (join_part o None) None refl ∙ none_part o None refl ∙ sym (no_next o))
      by_b o (Some b) c d y z = by_c (join_part o (Some b)) c d z ∙ sym (part_next o b (map (λ (p : Part T Span). p.cover) (on_list c (on_list d []))))

      by_parts : (a b c d : Option (Part T Span)) → NoGap a b → NoGap b c → NoGap c d → join_part (join_part (join_part (first_cover a) b) c) d ≡ join_all (all a b c d)
      by_parts None b c d x y z = rw (x, no_more b c x y, no_more c d (no_more b c x y) z) refl
      by_parts (Some a) b c d x y z = by_b (Some a.cover) b c d y z
