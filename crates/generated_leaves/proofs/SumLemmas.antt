-- Sums daughter by daughter.
use Rattle.std.proofs.Common.{◌≡◌, ◌∙◌, Result, Ok, Err, IfOk, Option, Some, None, List, [], ◌∷◌, map, refl, sym, ap}
use Rattle.chart_model.specs.Sums.{counts_join}
use Rattle.chart_model.specs.Tuples.{on_list, covers_of}
use Rattle.chart_model.specs.declared.counts.Counts.{Counts}
use Rattle.chart_model.specs.declared.covers.Part.{Part}
use Rattle.chart_model.specs.declared.covers.Tuple.{Tuple}
use Rattle.generate_model.specs.Covers.{counts_next}

next_none : (bound : Counts) (o : Option Counts) → counts_next bound o [] ≡ o
next_none bound None = refl
next_none bound (Some c) = refl

next_one : (bound : Counts) (o : Option Counts) (d : Counts) (ds : List Counts) → counts_next bound o (d ∷ ds) ≡ counts_next bound (counts_next bound o (d ∷ [])) ds
next_one bound None d ds = refl
next_one bound (Some c) d ds = ap (λ z. counts_next bound z ds) (sym (next_none bound (counts_join bound c d)))

next_part : {T : Type 0} (bound : Counts) (o : Option Counts) (p : Option (Part T Counts)) (ps : List (Part T Counts)) → counts_next bound o (map (λ x. x.cover) (on_list p ps)) ≡ counts_next bound (counts_next bound o (map (λ x. x.cover) (on_list p []))) (map (λ x. x.cover) ps)
next_part bound o None ps = ap (λ z. counts_next bound z (map (λ x. x.cover) ps)) (sym (next_none bound o))
next_part bound o (Some p) ps = next_one bound o p.cover (map (λ x. x.cover) ps)

-- one daughter after the other gives the sum of all
pub sum_of : {T : Type 0} (bound : Counts) (own : Option Counts) (t : Tuple T Counts) (a b c d : Option Counts) →
    a ≡ counts_next bound own (map (λ x. x.cover) (on_list t.a [])) → b ≡ counts_next bound a (map (λ x. x.cover) (on_list t.b [])) → c ≡ counts_next bound b (map (λ x. x.cover) (on_list t.c [])) → d ≡ counts_next bound c (map (λ x. x.cover) (on_list t.d [])) →
    d ≡ counts_next bound own (covers_of t)
sum_of bound own t a b c d ea eb ec ed =
    ed ∙ ap (λ z. counts_next bound z (map (λ x. x.cover) (on_list t.d []))) ec
    ∙ sym (next_part bound b t.c (on_list t.d [])) ∙ ap (λ z. counts_next bound z (map (λ x. x.cover) (on_list t.c (on_list t.d [])))) eb
    ∙ sym (next_part bound a t.b (on_list t.c (on_list t.d []))) ∙ ap (λ z. counts_next bound z (map (λ x. x.cover) (on_list t.b (on_list t.c (on_list t.d []))))) ea
    ∙ sym (next_part bound own t.a (on_list t.b (on_list t.c (on_list t.d []))))

pub if_ok : {A E : Type 0} (P Q : A → Type 0) (r : Result A E) → ((x : A) → P x → Q x) → IfOk r P → IfOk r Q
if_ok P Q (Ok x) h p = h x p
if_ok P Q (Err e) h p = p
