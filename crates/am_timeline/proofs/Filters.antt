-- The groups of the alerts that matchers match, found one alert and one route at a time.
use Rattle.std.proofs.Common.{◌≡◌, ◌∙◌, ◌<◌, ◌+◌, ℕ, Bool, true, false, cond, ◌||◌, List, [], ◌∷◌, ◌++◌, ap, sym, refl, get_or, length, map, take}
use Rattle.std.specs.List.{list_any}
use Rattle.std.proofs.lemmas.Grind.{flat_map-append}
use Rattle.std.proofs.lemmas.List.{map-append, take_more}
use Rattle.std.proofs.lemmas.List.Folds.{list_any-append}
use Rattle.am_alerts.specs.AlertData.{AlertData}
use Rattle.am_alerts.specs.declared.labels.Label.{Label}
use Rattle.am_alerts.specs.declared.matcher.MatcherParts.{MatcherParts}
use Rattle.am_model.specs.declared.config.Config.{Config}
use Rattle.am_model.specs.declared.group.GroupName.{GroupName}
use Rattle.am_model.specs.declared.record.Record.{Record}
use Rattle.am_model.specs.Insert.{name_in}
use Rattle.am_model.specs.look_back.Entry.{alert_in}
use Rattle.am_model.specs.State.{same_name}
use Rattle.am_model.proofs.states.Alike.{same_name_equiv}
use Rattle.am_timeline.specs.Filtered.{brings, has_match}
use Rattle.am_timeline.specs.Filtered.{insert_of, inserted_in}

-- a test of one more
or_cond : (here there : Bool) → cond here true there ≡ (there || here)
or_cond true true = refl
or_cond true false = refl
or_cond false true = refl
or_cond false false = refl

or_false : (b : Bool) → (b || false) ≡ b
or_false true = refl
or_false false = refl

or_assoc : (a b c : Bool) → ((a || b) || c) ≡ (a || (b || c))
or_assoc true b c = refl
or_assoc false b c = refl

-- a set of groups with one more
pub contains-added : (name added : GroupName) (there : Bool) → cond (same_name added name) true there ≡ (there || same_name name added)
contains-added name added there =
    or_cond (same_name added name) there ∙ ap (λ (b : Bool). there || b) (same_name_equiv.symm added name)

-- the groups of the routes at some positions, and at one more
pub goes_to-more : (config : Config) (labels : List Label) (name : GroupName) (before : Bool) (positions : List ℕ) (i d : ℕ) → i < length positions
    → ((before || list_any (same_name name) (map (name_in config labels) (take i positions)))
    || same_name name (name_in config labels (get_or positions i d)))
    ≡ (before || list_any (same_name name) (map (name_in config labels) (take (i + 1) positions)))
goes_to-more config labels name before positions i d inside =
    let there = list_any (same_name name) (map (name_in config labels) (take i positions)) in
    let here = name_in config labels (get_or positions i d) in
    let whole : list_any (same_name name) (map (name_in config labels) (take (i + 1) positions)) ≡ (there || (same_name name here || false)) =
    ap (λ (l : List ℕ). list_any (same_name name) (map (name_in config labels) l)) (take_more positions i d inside)
    ∙ ap (λ (l : List GroupName). list_any (same_name name) l) (map-append (name_in config labels) (take i positions) (get_or positions i d ∷ []))
    ∙ list_any-append (same_name name) (map (name_in config labels) (take i positions)) (here ∷ []) in
    or_assoc before there (same_name name here)
    ∙ ap (λ (b : Bool). before || (there || b)) (sym (or_false (same_name name here)))
    ∙ ap (λ (b : Bool). before || b) (sym whole)

-- the groups of the alerts of some records, and of one more
pub has_match-more : (config : Config) (matchers : List MatcherParts) (name : GroupName) (history : List Record) (i : ℕ) (r : Record)
    → i < length history
    → (has_match config (inserted_in (take i history)) matchers name
    || has_match config (insert_of (alert_in (get_or history i r).call)) matchers name)
    ≡ has_match config (inserted_in (take (i + 1) history)) matchers name
has_match-more config matchers name history i r inside =
    let here = get_or history i r in
    let one : inserted_in (here ∷ []) ≡ insert_of (alert_in here.call) ++ [] = refl in
    sym (ap (λ (l : List Record). has_match config (inserted_in l) matchers name) (take_more history i r inside)
    ∙ ap (λ (l : List AlertData). has_match config l matchers name)
    (flat_map-append (λ (x : Record). insert_of (alert_in x.call)) (take i history) (here ∷ []))
    ∙ list_any-append (brings config matchers name) (inserted_in (take i history)) (insert_of (alert_in here.call) ++ [])
    ∙ ap (λ (b : Bool). has_match config (inserted_in (take i history)) matchers name || b)
    (list_any-append (brings config matchers name) (insert_of (alert_in here.call)) []
    ∙ or_false (has_match config (insert_of (alert_in here.call)) matchers name)))

-- a test that finds the matches, where it is asked
pub found-is : (empty a b : Bool) → (empty ≡ false → a ≡ b) → (empty || a) ≡ (empty || b)
found-is true a b f = refl
found-is false a b f = f refl
