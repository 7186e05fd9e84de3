-- The types that parts of bodies name.
use Rattle.std.proofs.Common.{ℕ, ◌≡◌, ◌<◌, ◌⊎◌, inl, inr, List, [], ◌∷◌, length, map, String, refl, ◌∙◌, ap, arith}
use Rattle.std.specs.Global.{Global}
use Rattle.tdl_reader.specs.declared.Body.{Body}
use Rattle.tdl_reader.specs.declared.Rest.{Rest, Closed, Open}
use Rattle.tdl_reader.specs.declared.Term.{Term, Text as TextTerm, Coref as CorefTerm}
use Rattle.tdl_reader.specs.Trees.{items_of}
use Rattle.tdl_reader.specs.Views.{term_of, body_in, rest_of}
use Rattle.tdl_reader.proofs.Rows.{view_of_text, view_of_coref, view_of_closed, view_of_open}
use Rattle.body_facts.specs.Writing.{ListNames}
use Rattle.body_facts.specs.Mentions.{mention, cell_mentions, term_mentions, tail_mentions}

pub no_tail : (n : ListNames) (r : Rest) → (r ≡ Closed) ⊎ (r ≡ Open) → tail_mentions n (rest_of r) ≡ []
no_tail n r (inl e) = ap (λ x. tail_mentions n (rest_of x)) e ∙ ap (tail_mentions n) view_of_closed
no_tail n r (inr e) = ap (λ x. tail_mentions n (rest_of x)) e ∙ ap (tail_mentions n) view_of_open

pub no_mention : (n : ListNames) (t : Term) → ((x : String Global) × (at : ℕ) × (t ≡ TextTerm x at)) ⊎ ((x : String Global) × (at : ℕ) × (t ≡ CorefTerm x at)) → term_mentions n (term_of t) ≡ []
no_mention n t (inl h) = ap (λ x. term_mentions n (term_of x)) h.2 ∙ ap (term_mentions n) (view_of_text h.0 h.1)
no_mention n t (inr h) = ap (λ x. term_mentions n (term_of x)) h.2 ∙ ap (term_mentions n) (view_of_coref h.0 h.1)

pub cell_named : (n : ListNames) (at : ℕ) (xs : List Body) → 0 < length xs → cell_mentions n at (items_of (map body_in xs)) ≡ mention at n.cons ∷ []
cell_named n at [] h = absurd (omega arith)
cell_named n at (x ∷ xs) h = refl

pub cell_unnamed : (n : ListNames) (at : ℕ) (xs : List Body) → length xs ≡ 0 → cell_mentions n at (items_of (map body_in xs)) ≡ []
cell_unnamed n at [] h = refl
cell_unnamed n at (x ∷ xs) h = absurd (omega arith)
