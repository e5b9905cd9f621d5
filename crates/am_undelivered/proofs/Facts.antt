-- Facts one after another, and label sets among others.
use Rattle.std.proofs.Common.{◌≡◌, ◌∙◌, ℕ, ◌+◌, ◌<◌, Bool, true, false, ◌&&◌, ◌||◌, List, [], ◌∷◌, ◌++◌, Option, ap, refl, sym, get_or, length, take, if◌then◌else◌}
use Rattle.std.proofs.lemmas.List.{take_more}
use Rattle.std.proofs.lemmas.List.Folds.{list_any-append}
use Rattle.am_alerts.specs.Labels.{same_label_set}
use Rattle.am_alerts.specs.declared.labels.Label.{Label}
use Rattle.am_undelivered.specs.Spans.{Fact, SpansData, after_fact, after_facts, sets_after, with_set}
use Rattle.am_undelivered.specs.Sets.{is_among}

-- the spans after two lists of facts
pub after_append : (labels : List Label) (fs gs : List Fact) (s : Option SpansData)
    → after_facts labels (fs ++ gs) s ≡ after_facts labels gs (after_facts labels fs s)
after_append labels [] gs s = refl
after_append labels (f ∷ fs) gs s = after_append labels fs gs (after_fact labels f s)

-- and the label sets
pub sets_append : (fs gs : List Fact) (sets : List (List Label)) → sets_after (fs ++ gs) sets ≡ sets_after gs (sets_after fs sets)
sets_append [] gs sets = refl
sets_append (f ∷ fs) gs sets = sets_append fs gs (with_set f sets)

or_false : (b : Bool) → (b || false) ≡ b
or_false true = refl
or_false false = refl

-- a label set among these, and one more
pub among-added : (labels added : List Label) (sets : List (List Label))
    → is_among labels (sets ++ added ∷ []) ≡ (is_among labels sets || same_label_set added labels)
among-added labels added sets =
    list_any-append (λ (s : List Label). same_label_set s labels) sets (added ∷ [])
    ∙ ap (λ b. is_among labels sets || b) (or_false (same_label_set added labels))

-- among the first of these, and the next
pub among-more : (labels : List Label) (sets : List (List Label)) (i : ℕ) (d : List Label) → i < length sets
    → is_among labels (take (i + 1) sets) ≡ (is_among labels (take i sets) || same_label_set (get_or sets i d) labels)
among-more labels sets i d inside =
    ap (λ l. is_among labels l) (take_more sets i d inside) ∙ among-added labels (get_or sets i d) (take i sets)

and_true : (b : Bool) → (b && true) ≡ b
and_true true = refl
and_true false = refl

and_false : (b : Bool) → (b && false) ≡ false
and_false true = refl
and_false false = refl

-- where a table had some label sets at this name, or others, and has one more there
pub among_put : (l added : List Label) (items rest : List (List Label)) (here : Bool) → (here ≡ true → rest ≡ items)
    → is_among l (if here then items ++ added ∷ [] else rest) ≡ (is_among l rest || (same_label_set added l && here))
among_put l added items rest true same =
    among-added l added items
    ∙ ap (λ (r : List (List Label)). is_among l r || same_label_set added l) (sym (same refl))
    ∙ ap (λ b. is_among l rest || b) (sym (and_true (same_label_set added l)))
among_put l added items rest false same =
    sym (ap (λ b. is_among l rest || b) (and_false (same_label_set added l)) ∙ or_false (is_among l rest))
