-- The lines of one label set more.
use Rattle.std.proofs.Common.{◌≡◌, ◌∙◌, ℕ, ◌+◌, ◌<◌, ◌≤◌, List, [], ◌∷◌, ◌++◌, Option, Some, None, ap, append-nil, get_or, length, sym, take}
use Rattle.std.specs.List.{flat_map}
use Rattle.std.specs.Option.{option_map_or}
use Rattle.std.proofs.lemmas.List.{flat_map_more, take_all, take_more}
use Rattle.am_alerts.specs.declared.labels.Label.{Label}
use Rattle.am_terms.specs.TimeFormatData.{TimeFormatData}
use Rattle.am_timeline.specs.Playback.{PlaybackData}
use Rattle.am_undelivered.specs.Spans.{SpansData, sets_in, spans_in}
use Rattle.am_undelivered.specs.Undelivered.{set_lines, spans_lines}

-- the lines of a label set with these spans come behind those before
pub lines_more : (ps : List PlaybackData) (times : TimeFormatData) (all : List (List Label)) (i : ℕ) (l : List Label) (s : SpansData)
    → (before after : List ℕ) → i < length all → l ≡ get_or all i l → spans_in ps l ≡ Some s
    → after ≡ before ++ spans_lines ps times l s → before ≡ flat_map (set_lines ps times) (take i all)
    → after ≡ flat_map (set_lines ps times) (take (i + 1) all)
lines_more ps times all i l s before after within here has is was =
    is
    ∙ ap (λ (o : Option SpansData). before ++ option_map_or (spans_lines ps times l) o []) (sym has)
    ∙ ap (λ (b : List ℕ). b ++ set_lines ps times l) was
    ∙ flat_map_more (set_lines ps times) [] (take i all) l
    ∙ ap (λ (k : List Label). flat_map (set_lines ps times) (take i all ++ k ∷ [])) here
    ∙ sym (ap (flat_map (set_lines ps times)) (take_more all i l within))

-- one without spans has none
pub lines_same : (ps : List PlaybackData) (times : TimeFormatData) (all : List (List Label)) (i : ℕ) (l : List Label)
    → (before : List ℕ) → i < length all → l ≡ get_or all i l → spans_in ps l ≡ None
    → before ≡ flat_map (set_lines ps times) (take i all) → before ≡ flat_map (set_lines ps times) (take (i + 1) all)
lines_same ps times all i l before within here has was =
    sym (append-nil before)
    ∙ ap (λ (o : Option SpansData). before ++ option_map_or (spans_lines ps times l) o []) (sym has)
    ∙ ap (λ (b : List ℕ). b ++ set_lines ps times l) was
    ∙ flat_map_more (set_lines ps times) [] (take i all) l
    ∙ ap (λ (k : List Label). flat_map (set_lines ps times) (take i all ++ k ∷ [])) here
    ∙ sym (ap (flat_map (set_lines ps times)) (take_more all i l within))

-- those of all label sets that were inserted
pub all_lines : (ps : List PlaybackData) (times : TimeFormatData) (all : List (List Label)) (i : ℕ) (lines : List ℕ)
    → length all ≤ i → all ≡ sets_in ps → lines ≡ flat_map (set_lines ps times) (take i all)
    → lines ≡ flat_map (set_lines ps times) (sets_in ps)
all_lines ps times all i lines over are is = is ∙ ap (flat_map (set_lines ps times)) (take_all i all over ∙ are)
