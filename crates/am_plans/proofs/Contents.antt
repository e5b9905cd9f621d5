-- The members of an expectation say one target and one content at most.
use Rattle.std.proofs.Common.{◌≡◌, ◌∙◌, ◌++◌, ◌&&◌, ℕ, suc, Bool, true, not, List, [], ◌∷◌, Option, Some, None, MatchOption, codes, refl, sym, ap, subst, arith}
use Rattle.std.specs.List.{list_any}
use Rattle.std.specs.Prelude.{⊤, IsSomeAnd, IsTrue}
use Rattle.std.specs.Option.{option_map_or, option_or}
use Rattle.serde_json.specs.Data.{Data, null, boolean, number, string, array, object, Members}
use Rattle.serde_json.specs.Find.{as_object, as_str, get_member}
use Rattle.am_alerts.specs.Matcher.{compare_texts}
use Rattle.am_alerts.specs.declared.labels.Label.{Label}
use Rattle.am_alerts.specs.declared.matcher.MatcherParts.{MatcherParts}
use Rattle.am_json.proofs.Once.{one_list, one_matcher_list}
use Rattle.am_json.specs.Configured.{DecodesToLabels}
use Rattle.am_json.specs.Read.{has_only, number_in}
use Rattle.am_json.specs.declared.reader.Mode.{Mode}
use Rattle.am_model.specs.declared.config.Config.{Config}
use Rattle.am_model.specs.declared.config.Receiver.{Receiver}
use Rattle.am_plans.proofs.Decodings.{same_some}
use Rattle.am_plans.proofs.LabelSets.{one_labels}
use Rattle.am_plans.proofs.NoRegex.{no_regex_said}
use Rattle.am_plans.specs.Expected.{AreMatchersIn, AreSetsIn, HasContentIn, HasNoRegex, HasNoRegexIn, HasNoSlash, IsExpectedIn, IsExpectedOf, IsSplit, IsTargetIn, IsTargetOf}
use Rattle.am_plans.specs.Expected.{field_names, has_integration, has_target, is_named, position_named, said_or_of, some_has_target}
use Rattle.am_terms.specs.declared.expectation.Content.{Content}
use Rattle.am_terms.specs.declared.expectation.Expectation.{Expectation}
use Rattle.am_terms.specs.declared.rehearsal.TimedAction.{TimedAction}

-- ---- targets

-- what is before the first `/`, and behind it
one_slash : (k l v w : List ℕ) → k ++ 47 ∷ v ≡ l ++ 47 ∷ w → HasNoSlash k → HasNoSlash l → (k ≡ l) × (v ≡ w)
one_slash [] [] v w same k_free l_free = (refl, cc)
one_slash [] (b ∷ l) v w same k_free l_free = absurd (l_free 0 (omega arith) (cc))
one_slash (a ∷ k) [] v w same k_free l_free = absurd (k_free 0 (omega arith) (cc))
one_slash (a ∷ k) (b ∷ l) v w same k_free l_free =
    let head : a ≡ b = cc in
    let tail : k ++ 47 ∷ v ≡ l ++ 47 ∷ w = cc in
    let rest = one_slash k l v w tail (λ i less. k_free (suc i) (omega (arith, less))) (λ i less. l_free (suc i) (omega (arith, less))) in
    ((λ i. head i ∷ rest.0 i), rest.1)

one_split : (text k l : List ℕ) (p q : Option ℕ) → IsSplit text k p → IsSplit text l q → (k ≡ l) × (p ≡ q)
one_split text k l None None is also = (sym is.0 ∙ also.0, refl)
one_split text k l None (Some q) is also = absurd (cc (is.1 l also.written also.is also.first, also.writes))
one_split text k l (Some p) None is also = absurd (cc (also.1 k is.written is.is is.first, is.writes))
one_split text k l (Some p) (Some q) is also =
    let same = one_slash k l is.written also.written (sym is.is ∙ also.is) is.first also.first in
    (same.0, sym is.writes ∙ ap position_named same.1 ∙ also.writes)

one_of_texts : (o : Option (List ℕ)) (k l : List ℕ) (p q : Option ℕ) → IsSomeAnd o (λ text. IsSplit text k p) → IsSomeAnd o (λ text. IsSplit text l q)
    → (k ≡ l) × (p ≡ q)
one_of_texts None k l p q is also = absurd is
one_of_texts (Some text) k l p q is also = one_split text k l p q is also

-- a number is no text
number_and_text : (member : Data) (p : ℕ) (P : List ℕ → Type 0) → number_in member ≡ Some p → IsSomeAnd (as_str member) P → ⊥
number_and_text null p P is text = text
number_and_text (boolean b) p P is text = text
number_and_text (number n) p P is text = text
number_and_text (string s) p P is text = absurd (cc)
number_and_text (array ds) p P is text = text
number_and_text (object ms) p P is text = text

one_target_of : (member : Data) (k l : Option (List ℕ)) (p q : Option ℕ) → IsTargetOf member k p → IsTargetOf member l q → (k ≡ l) × (p ≡ q)
one_target_of member None l None q is also = absurd is
one_target_of member None None (Some p) None is also = absurd also
one_target_of member None None (Some p) (Some q) is also = (refl, sym is.0 ∙ also.0)
one_target_of member None (Some l) (Some p) q is also = absurd (number_and_text member p (λ text. IsSplit text l q) is.0 also)
one_target_of member (Some k) None p None is also = absurd also
one_target_of member (Some k) None p (Some q) is also = absurd (number_and_text member q (λ text. IsSplit text k p) also.0 is)
one_target_of member (Some k) (Some l) p q is also =
    let same = one_of_texts (as_str member) k l p q is also in
    (ap Some same.0, same.1)

pub one_target : (found : Option Data) (k l : Option (List ℕ)) (p q : Option ℕ) → IsTargetIn found k p → IsTargetIn found l q → (k ≡ l) × (p ≡ q)
one_target None k l p q is also = (is.0 ∙ sym also.0, is.1 ∙ sym also.1)
one_target (Some member) k l p q is also = one_target_of member k l p q is also

-- ---- contents

same_matchers : (mode : Mode) (found : Option Data) (a b : Option (List MatcherParts)) → option_map_or compare_texts a true ≡ true
    → AreMatchersIn mode found a → AreMatchersIn mode found b → a ≡ b
same_matchers mode None a b compare is also = is ∙ sym also
same_matchers mode (Some value) None b compare is also = absurd is
same_matchers mode (Some value) (Some a) None compare is also = absurd also
same_matchers mode (Some value) (Some a) (Some b) compare is also = ap Some (one_matcher_list mode value a b compare is.listed also.listed)

same_sets : (mode : Mode) (found : Option Data) (a b : Option (List (List Label))) → AreSetsIn mode found a → AreSetsIn mode found b → a ≡ b
same_sets mode None a b is also = is ∙ sym also
same_sets mode (Some value) None b is also = absurd is
same_sets mode (Some value) (Some a) None is also = absurd also
same_sets mode (Some value) (Some a) (Some b) is also =
    ap Some (one_list (DecodesToLabels mode) (one_labels mode) value a b is also)

same_resolved : (mode : Mode) (exactly found : Option Data) (a b : Option (List (List Label)))
    → MatchOption exactly (AreSetsIn mode found a) (λ _. a ≡ Some []) → MatchOption exactly (AreSetsIn mode found b) (λ _. b ≡ Some []) → a ≡ b
same_resolved mode None found a b is also = same_sets mode found a b is also
same_resolved mode (Some value) found a b is also = is ∙ sym also

pub one_content : (mode : Mode) (members : Members) (a b : Content) → HasNoRegex mode members → HasContentIn mode members a
    → HasContentIn mode members b → a ≡ b
one_content mode members a b without is also =
    let resolves : is.resolves ≡ also.resolves = same_some is.when also.when in
    let own = subst (λ (r : Bool). AreMatchersIn mode (said_or_of (not r) (codes "has") members) a.has) resolves is.has in
    let has = same_matchers mode (said_or_of (not also.resolves) (codes "has") members) a.has b.has
    (no_regex_said mode (not also.resolves) (codes "has") members a.has without.has without.of own) own also.has in
    let own_resolved = subst (λ (r : Bool). AreMatchersIn mode (said_or_of r (codes "has_resolved") members) a.has_resolved) resolves is.has_resolved in
    let has_resolved = same_matchers mode (said_or_of also.resolves (codes "has_resolved") members) a.has_resolved b.has_resolved
    (no_regex_said mode also.resolves (codes "has_resolved") members a.has_resolved without.has_resolved without.of own_resolved) own_resolved also.has_resolved in
    let firing = same_sets mode (option_or (get_member (codes "exactly") members) (get_member (codes "firing") members)) a.firing b.firing is.firing also.firing in
    let resolved = same_resolved mode (get_member (codes "exactly") members) (get_member (codes "resolved") members) a.resolved b.resolved is.resolved also.resolved in
    let reason = same_some is.reason also.reason in
    λ i. record { has = has i; has_resolved = has_resolved i; firing = firing i; resolved = resolved i; reason = reason i }

-- ---- the whole

-- what two expectations have alike that these members say
pub record AreAlike (x y : Expectation) : Type 0 where
  pub receiver : x.receiver ≡ y.receiver
  pub kind : x.kind ≡ y.kind
  pub integration : x.integration ≡ y.integration
  pub content : x.content ≡ y.content

alike_in : (mode : Mode) (until last : ℕ) (plans : List TimedAction) (members : Members) (x y : Expectation)
    → HasNoRegex mode members → IsExpectedOf mode until last plans members x → IsExpectedOf mode until last plans members y → AreAlike x y
alike_in mode until last plans members x y without is also =
    let target = one_target (get_member (codes "integration") members) x.kind y.kind x.integration y.integration is.integration also.integration in
    record {
      receiver = same_some is.receiver also.receiver;
      kind = target.0;
      integration = target.1;
      content = one_content mode members x.content y.content without is.content also.content;
    }

alike_by : (mode : Mode) (until last : ℕ) (plans : List TimedAction) (object : Option Members) (x y : Expectation) → MatchOption object ⊤ (HasNoRegex mode)
    → IsSomeAnd object (λ ms. IsExpectedOf mode until last plans ms x × IsTrue (has_only mode field_names ms))
    → IsSomeAnd object (λ ms. IsExpectedOf mode until last plans ms y × IsTrue (has_only mode field_names ms)) → AreAlike x y
alike_by mode until last plans None x y without is also = absurd is
alike_by mode until last plans (Some members) x y without is also = alike_in mode until last plans members x y without is.0 also.0

pub are_alike : (mode : Mode) (until last : ℕ) (plans : List TimedAction) (value : Data) (x y : Expectation)
    → HasNoRegexIn mode value → IsExpectedIn mode until last plans value x → IsExpectedIn mode until last plans value y → AreAlike x y
are_alike mode until last plans value x y without is also = alike_by mode until last plans (as_object value) x y without is also

same_target_in : (x y : Expectation) → AreAlike x y → (config : Config) → has_target config x ≡ has_target config y
same_target_in x y same config =
    λ i. list_any (λ (r : Receiver). is_named (same.receiver i) r && has_integration (same.kind i) (same.integration i) r.integrations) config.receivers

pub same_target : (configs : List Config) (x y : Expectation) → AreAlike x y → some_has_target configs x ≡ some_has_target configs y
same_target configs x y same = λ i. list_any (λ (config : Config). same_target_in x y same config i) configs
