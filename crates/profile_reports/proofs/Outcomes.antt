-- What is told of an outcome, from what the program keeps of it.
use Rattle.std.proofs.Common.{◌≡◌, ◌≢◌, ℕ, List, [], ◌∷◌, length, map, Vec, Global, refl, sym, ap, ◌∙◌, arith}
use Rattle.std.proofs.lemmas.List.{length-map}
use Rattle.profile_reports.specs.declared.Came.{Came}
use Rattle.profile_reports.specs.declared.Came.TheVariants.{LexicalDepth, UnaryChain, Edges, TooManyReadings, Readings, Trees}
use Rattle.profile_reports.specs.declared.Got.{Got}
use Rattle.profile_reports.specs.declared.Got.TheVariants.{Readings as GotReadings}
use Rattle.profile_reports.specs.declared.ItemResult.{ItemResult}
use Rattle.profile_reports.specs.Texts.{kept, lost, gained}
use Rattle.profile_reports.specs.Outcomes.{Outcome, got_of, texts_of}
use Rattle.profile_reports.specs.Views.{Keeps, HasTexts, texts_kept, got_kept}
use Rattle.profile_reports.specs.Comparing.{plain_result, compared_result, result_of}

kept_got : (came : Came) (o : Outcome) → Keeps came o → got_of o ≡ got_kept came
kept_got LexicalDepth o k = ap got_of k
kept_got UnaryChain o k = ap got_of k
kept_got Edges o k = ap got_of k
kept_got TooManyReadings o k = ap got_of k
kept_got (Readings count) o (texts, e, n) = ap got_of e ∙ ap GotReadings n
kept_got (Trees texts) o k = ap got_of k ∙ ap GotReadings (length-map texts.items (λ t. t.items))

kept_texts : (came : Came) (o : Outcome) → HasTexts came → Keeps came o → texts_of o ≡ texts_kept came
kept_texts LexicalDepth o h k = ap texts_of k
kept_texts UnaryChain o h k = ap texts_of k
kept_texts Edges o h k = ap texts_of k
kept_texts TooManyReadings o h k = ap texts_of k
kept_texts (Readings count) o h k = absurd h
kept_texts (Trees texts) o h k = ap texts_of k

of_none : (place : ℕ) (written : List (List ℕ)) (o : Outcome) → written ≡ [] → plain_result place (got_of o) ≡ result_of place written o
of_none place written o e = sym (ap (λ w. result_of place w o) e)

of_some : (place : ℕ) (written : List (List ℕ)) (o : Outcome) → written ≢ [] → compared_result place (got_of o) written (texts_of o) ≡ result_of place written o
of_some place [] o h = absurd (h refl)
of_some place (t ∷ ts) o h = refl

-- no trees are written
pub plain_is : (place : ℕ) (written : List (Vec ℕ Global)) (came : Came) (o : Outcome) → written ≡ [] → Keeps came o
    → plain_result place (got_kept came) ≡ result_of place (map (λ t. t.items) written) o
plain_is place written came o e k =
    ap (plain_result place) (sym (kept_got came o k)) ∙ of_none place (map (λ t. t.items) written) o (ap (map (λ t. t.items)) e)

some_left : (written : List (Vec ℕ Global)) → written ≢ [] → map (λ t. t.items) written ≢ []
some_left [] h e = h refl
some_left (t ∷ ts) h e = let z = ap length e in omega (arith, z)

-- trees are written
pub compared_is : (place : ℕ) (written : List (Vec ℕ Global)) (came : Came) (o : Outcome) → written ≢ [] → HasTexts came → Keeps came o
    → compared_result place (got_kept came) (map (λ t. t.items) written) (texts_kept came) ≡ result_of place (map (λ t. t.items) written) o
compared_is place written came o h texts k =
    let w = map (λ t. t.items) written in
    ap (λ g. compared_result place g w (texts_kept came)) (sym (kept_got came o k))
    ∙ ap (compared_result place (got_of o) w) (sym (kept_texts came o texts k))
    ∙ of_some place w o (some_left written h)

-- a result, by its parts

abbrev pub result_with : ℕ → Got → ℕ → ℕ → ℕ → ItemResult
result_with place got k l n = record { item = place; got = got; kept = k; lost = l; gained = n }

pub filled : (place : ℕ) (got : Got) (k l n : ℕ) (written came : List (List ℕ)) → k ≡ kept written came → l ≡ lost written came → n ≡ gained written came
    → result_with place got k l n ≡ compared_result place got written came
filled place got k l n written came a b c =
    ap (λ x. result_with place got x l n) a
    ∙ ap (λ x. result_with place got (kept written came) x n) b
    ∙ ap (result_with place got (kept written came) (lost written came)) c
