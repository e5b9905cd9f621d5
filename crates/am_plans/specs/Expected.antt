-- Expected: what the members of an expectation say.
use Rattle.std.specs.Prelude.{◌≡◌, ◌≢◌, ◌≤◌, ◌<◌, ◌+◌, ◌^◌, ◌++◌, ◌==◌, ◌&&◌, ◌||◌, ⊤, ℕ}
use Rattle.std.specs.Prelude.{Bool, true, false, not, nat_le, nat_lt, max, codes}
use Rattle.std.specs.Prelude.{List, [], ◌∷◌, length, find, get_or, IsTrue, is_none, is_some, slice_get, Option, Some, None, IsSomeAnd}
use Rattle.std.specs.Prelude.{MatchOption, option_map, if◌then◌else◌}
use Rattle.std.specs.List.{list_all, list_any}
use Rattle.std.specs.Option.{option_and_then, option_map_or, option_or}
use Rattle.std.specs.Str.{bytes_eq}
use Rattle.serde_json.specs.Data.{Data, Items, no_items, item, Members}
use Rattle.serde_json.specs.Find.{as_array, as_object, as_str, get_member}
use Rattle.am_alerts.specs.AlertData.{AlertData}
use Rattle.am_alerts.specs.Labels.{same_label_set}
use Rattle.am_alerts.specs.Matcher.{compare_texts, match_all}
use Rattle.am_alerts.specs.declared.labels.Label.{Label}
use Rattle.am_alerts.specs.declared.limits.TheConstants.{MAX_MATCHERS}
use Rattle.am_alerts.specs.declared.matcher.MatcherParts.{MatcherParts}
use Rattle.am_json.specs.Configured.{DecodesToLabels, DecodesToMatcher}
use Rattle.am_json.specs.Decoding.{Has, HasNone, HasOr, IsFlag, IsList}
use Rattle.am_json.specs.Read.{duration_in, has_only, number_in}
use Rattle.am_json.specs.declared.reader.Mode.{Mode}
use Rattle.am_plans.specs.declared.expectation.TheConstants.{MAX_EXPECTATIONS}
use Rattle.am_model.specs.declared.config.Config.{Config}
use Rattle.am_model.specs.declared.config.Integration.{Integration}
use Rattle.am_model.specs.declared.config.Receiver.{Receiver}
use Rattle.am_model.specs.declared.config.TheConstants.{MAX_INTEGRATIONS}
use Rattle.am_terms.specs.declared.rehearsal.Action.{Action}
use Rattle.am_terms.specs.declared.rehearsal.Action.TheVariants.{Insert, Silence, Load}
use Rattle.am_terms.specs.declared.rehearsal.TimedAction.{TimedAction}
use Rattle.am_terms.specs.Expectation.{reason_named}
use Rattle.am_terms.specs.declared.expectation.Amount.{Amount}
use Rattle.am_terms.specs.declared.expectation.Amount.TheVariants.{AtLeastOne, Exactly, AtMost}
use Rattle.am_terms.specs.declared.expectation.Expectation.{Expectation}
use Rattle.am_terms.specs.declared.expectation.Content.{Content}
use Rattle.am_terms.specs.declared.expectation.SentReason.{SentReason}

-- what a member is read as, or what is said where it isn't there
abbrev pub member_or : {A : Type 0} → (Data → Option A) → Option A → Option Data → Option A
member_or reading absent None = absent
member_or reading absent (Some member) = reading member

-- what a member is read as, if it is there
abbrev pub member_if : {A : Type 0} → (Data → Option A) → Option Data → Option (Option A)
member_if reading None = Some None
member_if reading (Some member) = option_map Some (reading member)

-- the end that a story says
abbrev pub until_in : Members → Option ℕ
until_in members = option_and_then duration_in (get_member (codes "until") members)

-- its end: its own, or that of the rehearsal if that is later
abbrev pub last_end : ℕ → Members → ℕ
last_end until members = option_map_or (max until) (until_in members) until

-- whether a text says that an alert is resolved, and not that it fires
abbrev pub resolves_as : List ℕ → Option Bool
resolves_as text =
    if bytes_eq text (codes "firing") then Some false else (if bytes_eq text (codes "resolved") then Some true else None)

-- whether `when` says so; that it fires, where it isn't there
abbrev pub resolves_in : Members → Option Bool
resolves_in members =
    member_or (λ value. option_and_then resolves_as (as_str value)) (Some false) (get_member (codes "when") members)

-- whether an alert has its end, or fires
abbrev pub does_as_said : Bool → AlertData → Bool
does_as_said resolves a = if resolves then is_some a.ends else is_none a.ends

-- whether an action inserts an alert that all these matchers match: one that fires, or one that has its end
abbrev pub inserts : Bool → List MatcherParts → Action → Bool
inserts resolves matchers (Silence silence) = false
inserts resolves matchers (Load row) = false
inserts resolves matchers (Insert a) = does_as_said resolves a && match_all matchers a.labels

-- the time of the first action by the last time that does
abbrev pub first_insert : ℕ → Bool → List MatcherParts → List TimedAction → Option ℕ
first_insert last resolves matchers plans =
    option_map (λ p. p.at) (find (λ p. nat_le p.at last && inserts resolves matchers p.act) plans)

-- a member lists these matchers: one at least, and no more than a silence may have
pub record AreMatchersOf (mode : Mode) (member : Data) (matchers : List MatcherParts) : Type 0 where
  pub listed : IsList (DecodesToMatcher mode) member matchers
  pub some : 0 < length matchers
  pub few : length matchers ≤ MAX_MATCHERS

-- the end of what begins at a time and is so long, below 2^64
abbrev pub IsEndOf : ℕ → ℕ → ℕ → Type 0
IsEndOf from to length = (to ≡ from + length) × (to < 2 ^ 64)

-- from the time at which an alert that `of` matches fires first, or is resolved, and for so long as `within` says
pub record IsSpanWithin (mode : Mode) (latest : ℕ) (plans : List TimedAction) (members : Members) (within : Data)
    (from to : ℕ) : Type 0 where
  pub resolves : Bool
  pub when : resolves_in members ≡ Some resolves
  pub matchers : List MatcherParts
  pub of : Has (AreMatchersOf mode) (codes "of") members matchers
  pub first : first_insert latest resolves matchers plans ≡ Some from
  pub last : IsSomeAnd (duration_in within) (IsEndOf from to)

-- the one time that `at` says, which excludes `from` and `to`
pub record IsAt (members : Members) (at : Data) (from to : ℕ) : Type 0 where
  pub time : duration_in at ≡ Some from
  pub one : to ≡ from
  pub no_from : HasNone (codes "from") members
  pub no_to : HasNone (codes "to") members

-- from `from`, or else the start of the rehearsal, to `to`, which isn't before, or else to its end; then it begins by the last time
pub record IsFromTo (until last : ℕ) (members : Members) (from to : ℕ) : Type 0 where
  pub begins : member_or duration_in (Some 0) (get_member (codes "from") members) ≡ Some from
  pub ends : member_or duration_in (Some until) (get_member (codes "to") members) ≡ Some to
  pub ordered : MatchOption (get_member (codes "to") members) (from ≤ last) (λ _. from ≤ to)

-- the span that is said by its times
abbrev pub IsSpanFrom : ℕ → ℕ → Members → ℕ → ℕ → Type 0
IsSpanFrom until last members from to =
    MatchOption (get_member (codes "at") members) (IsFromTo until last members from to) (λ at. IsAt members at from to)

-- the same, where neither `of` nor `when` is said
abbrev pub IsOwnSpan : ℕ → ℕ → Members → ℕ → ℕ → Type 0
IsOwnSpan until last members from to =
    HasNone (codes "of") members × HasNone (codes "when") members × IsSpanFrom until last members from to

-- the span of an expectation; `within` excludes its times
abbrev pub IsSpanIn : Mode → ℕ → ℕ → List TimedAction → Members → ℕ → ℕ → Type 0
IsSpanIn mode until last plans members from to =
    MatchOption (get_member (codes "within") members) (IsOwnSpan until last members from to)
    (λ within. HasNone (codes "at") members × HasNone (codes "from") members × HasNone (codes "to") members
    × IsSpanWithin mode last plans members within from to)

-- the position, below 8, that a text writes: its digit
abbrev pub position_named : List ℕ → Option ℕ
position_named text =
    find (λ position. bytes_eq text ((48 + position) ∷ [])) (0 ∷ 1 ∷ 2 ∷ 3 ∷ 4 ∷ 5 ∷ 6 ∷ 7 ∷ [])

-- no `/` is in a text
abbrev pub HasNoSlash : List ℕ → Type 0
HasNoSlash text = (i : ℕ) → i < length text → get_or text i 0 ≢ 47

-- what is behind the first `/` of a text is no position
abbrev pub HasNoPosition : List ℕ → Type 0
HasNoPosition text = (kind written : List ℕ) → text ≡ kind ++ 47 ∷ written → HasNoSlash kind → position_named written ≡ None

-- a text is a kind, the first `/` and a position
pub record HasPosition (text kind : List ℕ) (position : ℕ) : Type 0 where
  pub written : List ℕ
  pub is : text ≡ kind ++ 47 ∷ written
  pub first : HasNoSlash kind
  pub writes : position_named written ≡ Some position

-- the same, or a kind alone
abbrev pub IsSplit : List ℕ → List ℕ → Option ℕ → Type 0
IsSplit text kind None = (text ≡ kind) × HasNoPosition text
IsSplit text kind (Some position) = HasPosition text kind position

-- an integration: a position, a kind, or a kind, `/` and its position
abbrev pub IsTargetOf : Data → Option (List ℕ) → Option ℕ → Type 0
IsTargetOf member None None = ⊥
IsTargetOf member None (Some position) = (number_in member ≡ Some position) × (position < MAX_INTEGRATIONS)
IsTargetOf member (Some kind) position = IsSomeAnd (as_str member) (λ text. IsSplit text kind position)

-- the same, if it is said
abbrev pub IsTargetIn : Option Data → Option (List ℕ) → Option ℕ → Type 0
IsTargetIn None kind position = (kind ≡ None) × (position ≡ None)
IsTargetIn (Some member) kind position = IsTargetOf member kind position

-- the label sets that a member lists, if it is there
abbrev pub AreSetsIn : Mode → Option Data → Option (List (List Label)) → Type 0
AreSetsIn mode None sets = sets ≡ None
AreSetsIn mode (Some member) sets = IsSomeAnd sets (λ s. IsList (DecodesToLabels mode) member s)

-- the matchers that a member lists, if it is there
abbrev pub AreMatchersIn : Mode → Option Data → Option (List MatcherParts) → Type 0
AreMatchersIn mode None matchers = matchers ≡ None
AreMatchersIn mode (Some member) matchers = IsSomeAnd matchers (AreMatchersOf mode member)

-- a member, or else `of` if that represents it
abbrev pub said_or_of : Bool → List ℕ → Members → Option Data
said_or_of or_of name members =
    option_or (get_member name members) (if or_of then get_member (codes "of") members else None)

-- the label sets that fire: those of `exactly`, or else of `firing`
abbrev pub AreFiringIn : Mode → Members → Option (List (List Label)) → Type 0
AreFiringIn mode members sets =
    AreSetsIn mode (option_or (get_member (codes "exactly") members) (get_member (codes "firing") members)) sets

-- the label sets that are resolved: none with `exactly`, or else those of `resolved`
abbrev pub AreResolvedIn : Mode → Members → Option (List (List Label)) → Type 0
AreResolvedIn mode members sets =
    MatchOption (get_member (codes "exactly") members) (AreSetsIn mode (get_member (codes "resolved") members) sets)
    (λ _. sets ≡ Some [])

-- the reason that a text names
abbrev pub reason_in : Data → Option SentReason
reason_in value = option_and_then reason_named (as_str value)

-- `exactly` excludes `firing` and `resolved`
abbrev pub SaysExactly : Members → Type 0
SaysExactly members = MatchOption (get_member (codes "exactly") members) ⊤
    (λ _. HasNone (codes "firing") members × HasNone (codes "resolved") members)

-- what a notice has to say
pub record HasContentIn (mode : Mode) (members : Members) (content : Content) : Type 0 where
  pub resolves : Bool
  pub when : resolves_in members ≡ Some resolves
  pub has : AreMatchersIn mode (said_or_of (not resolves) (codes "has") members) content.has
  pub has_resolved : AreMatchersIn mode (said_or_of resolves (codes "has_resolved") members) content.has_resolved
  pub firing : AreFiringIn mode members content.firing
  pub resolved : AreResolvedIn mode members content.resolved
  pub exactly : SaysExactly members
  pub reason : member_if reason_in (get_member (codes "reason") members) ≡ Some content.reason

-- whether it is said what a notice has to say
abbrev pub says_content : Members → Bool
says_content members =
    is_some (get_member (codes "firing") members) || is_some (get_member (codes "resolved") members)
    || is_some (get_member (codes "exactly") members) || is_some (get_member (codes "has") members)
    || is_some (get_member (codes "has_resolved") members) || is_some (get_member (codes "of") members)
    || is_some (get_member (codes "reason") members)

-- how many notices are wanted: none, or so many, or so many at most, or else one at least; only one of them is said
abbrev pub amount_of : Bool → Option ℕ → Option ℕ → Option Amount
amount_of false None None = Some AtLeastOne
amount_of false (Some count) None = Some (Exactly count)
amount_of false None (Some most) = Some (AtMost most)
amount_of false (Some count) (Some most) = None
amount_of true None None = Some (AtMost 0)
amount_of true None (Some most) = None
amount_of true (Some count) at_most = None

-- how many notices are wanted; with `none` it isn't said what they say, nor `never`
pub record IsAmountIn (members : Members) (amount : Amount) : Type 0 where
  pub is_none : Bool
  pub none : HasOr IsFlag false (codes "none") members is_none
  pub is_never : Bool
  pub never : HasOr IsFlag false (codes "never") members is_never
  pub counted : Option ℕ
  pub count : member_if number_in (get_member (codes "count") members) ≡ Some counted
  pub most : Option ℕ
  pub at_most : member_if number_in (get_member (codes "at_most") members) ≡ Some most
  pub amount_is : amount_of (is_none || is_never) counted most ≡ Some amount
  pub alone : (is_none && says_content members) ≡ false
  pub once : (is_none && is_never) ≡ false

-- what these members say is expected of a rehearsal that ends at `until`, and of a story that ends at `last`, with these planned actions
pub record IsExpectedOf (mode : Mode) (until last : ℕ) (plans : List TimedAction) (members : Members) (x : Expectation) : Type 0 where
  pub name : member_if as_str (get_member (codes "name") members) ≡ Some x.name
  pub span : IsSpanIn mode until last plans members x.from x.to
  pub receiver : member_if as_str (get_member (codes "receiver") members) ≡ Some x.receiver
  pub integration : IsTargetIn (get_member (codes "integration") members) x.kind x.integration
  pub content : HasContentIn mode members x.content
  pub amount : IsAmountIn members x.amount

-- the names of the fields of an expectation
abbrev pub field_names : List (List ℕ)
field_names =
    codes "name" ∷ codes "at" ∷ codes "from" ∷ codes "to" ∷ codes "within" ∷ codes "of" ∷ codes "when" ∷ codes "receiver"
    ∷ codes "integration" ∷ codes "has" ∷ codes "has_resolved" ∷ codes "exactly" ∷ codes "firing" ∷ codes "resolved" ∷ codes "reason"
    ∷ codes "none" ∷ codes "never" ∷ codes "count" ∷ codes "at_most" ∷ []

-- what a JSON value says is expected
abbrev pub IsExpectedIn : Mode → ℕ → ℕ → List TimedAction → Data → Expectation → Type 0
IsExpectedIn mode until last plans value x =
    IsSomeAnd (as_object value) (λ members. IsExpectedOf mode until last plans members x × IsTrue (has_only mode field_names members))

-- whether one of these integrations has a kind
abbrev pub has_kind : List ℕ → List Integration → Bool
has_kind kind integrations = list_any (λ i. bytes_eq i.kind kind) integrations

-- whether one of them has this kind and this position, where these are said
abbrev pub has_integration : Option (List ℕ) → Option ℕ → List Integration → Bool
has_integration None None integrations = true
has_integration None (Some position) integrations = nat_lt position (length integrations)
has_integration (Some kind) None integrations = has_kind kind integrations
has_integration (Some kind) (Some position) integrations =
    option_map_or (λ i. bytes_eq i.kind kind) (slice_get integrations position) false

-- whether a receiver has this name, if one is said
abbrev pub is_named : Option (List ℕ) → Receiver → Bool
is_named name r = option_map_or (λ n. bytes_eq r.name n) name true

-- whether a receiver has what an expectation names
abbrev pub is_target : Expectation → Receiver → Bool
is_target x r = is_named x.receiver r && has_integration x.kind x.integration r.integrations

-- whether one of a configuration has
abbrev pub has_target : Config → Expectation → Bool
has_target config x = list_any (is_target x) config.receivers

-- whether one of some configurations has
abbrev pub some_has_target : List Config → Expectation → Bool
some_has_target configs x = list_any (λ config. has_target config x) configs

-- whether by the last time an alert fires, or is resolved, that all these matchers match, if any are said
abbrev pub is_matched : ℕ → List TimedAction → Bool → Option (List MatcherParts) → Bool
is_matched last plans resolves matchers =
    option_map_or (λ ms. is_some (first_insert last resolves ms plans)) matchers true

-- whether an action inserts an alert with this label set: one that fires, or one that has its end
abbrev pub inserts_set : Bool → List Label → Action → Bool
inserts_set resolves labels (Silence silence) = false
inserts_set resolves labels (Load row) = false
inserts_set resolves labels (Insert a) = does_as_said resolves a && same_label_set a.labels labels

-- whether one does by the last time
abbrev pub has_insert : ℕ → List TimedAction → Bool → List Label → Bool
has_insert last plans resolves labels = list_any (λ p. nat_le p.at last && inserts_set resolves labels p.act) plans

-- the same of each of these label sets, if any are said
abbrev pub are_inserted : ℕ → List TimedAction → Bool → Option (List (List Label)) → Bool
are_inserted last plans resolves sets = option_map_or (λ ss. list_all (has_insert last plans resolves) ss) sets true

-- whether label sets are said, and there are none
abbrev pub says_none : Option (List (List Label)) → Bool
says_none sets = option_map_or (λ ss. length ss == 0) sets false

-- whether a notice without alerts is wanted, which there is none of
abbrev pub wants_none : Content → Bool
wants_none wanted = says_none wanted.firing && says_none wanted.resolved

-- whether alerts are wanted of a notice, each of which fires, or is resolved, by the last time
abbrev pub has_alerts : ℕ → List TimedAction → Content → Bool
has_alerts last plans wanted =
    not (wants_none wanted) && is_matched last plans false wanted.has && is_matched last plans true wanted.has_resolved
    && are_inserted last plans false wanted.firing && are_inserted last plans true wanted.resolved

-- the same, where the target is one of the configurations, and the alerts are some of the story
pub record IsKnownIn (mode : Mode) (configs : List Config) (until last : ℕ) (plans : List TimedAction) (value : Data)
    (x : Expectation) : Type 0 where
  pub says : IsExpectedIn mode until last plans value x
  pub target : some_has_target configs x ≡ true
  pub alerts : has_alerts last plans x.content ≡ true

-- what a member lists as expected, one for one, and no more than a story may have; nothing, where it isn't there
abbrev pub AreExpectedIn : Mode → List Config → ℕ → ℕ → List TimedAction → Option Data → List Expectation → Type 0
AreExpectedIn mode configs until last plans member expectations =
    MatchOption member (expectations ≡ [])
    (λ value. IsList (IsKnownIn mode configs until last plans) value expectations × (length expectations ≤ MAX_EXPECTATIONS))

-- the matchers that the member of this name lists need no regex
abbrev pub HasNoRegexAt : Mode → List ℕ → Members → Type 0
HasNoRegexAt mode name members =
    (matchers : List MatcherParts) → Has (IsList (DecodesToMatcher mode)) name members matchers → IsTrue (compare_texts matchers)

-- no matcher of an expectation needs a regex
pub record HasNoRegex (mode : Mode) (members : Members) : Type 0 where
  pub of : HasNoRegexAt mode (codes "of") members
  pub has : HasNoRegexAt mode (codes "has") members
  pub has_resolved : HasNoRegexAt mode (codes "has_resolved") members

-- the same of a value
abbrev pub HasNoRegexIn : Mode → Data → Type 0
HasNoRegexIn mode value = MatchOption (as_object value) ⊤ (HasNoRegex mode)

-- the same of each value in an array
abbrev pub HaveNoRegex : Mode → Items → Type 0
HaveNoRegex mode no_items = ⊤
HaveNoRegex mode (item value values) = HasNoRegexIn mode value × HaveNoRegex mode values

-- the same of what a member lists
abbrev pub HaveNoRegexIn : Mode → Option Data → Type 0
HaveNoRegexIn mode member = MatchOption member ⊤ (λ value. MatchOption (as_array value) ⊤ (HaveNoRegex mode))
