use Rattle.std.proofs.Common.{◌≡◌, ◌∙◌, ℕ, arith, Option, Some, None, ap, codes, subst, sym}
use Rattle.std.specs.Prelude.{IsSomeAnd}
use Rattle.serde_json.specs.Data.{Data, Members}
use Rattle.serde_json.specs.Find.{as_object, get_member}
use Rattle.serde_json.specs.View.{members_view, view}
use Rattle.serde_json.specs.declared.value.Value.{Value}
use Rattle.am_json.proofs.Decoding.{unknown}
use Rattle.am_json.specs.Configured.{DecodesToConfig}
use Rattle.am_json.specs.Decoding.{Has, HasNone}
use Rattle.am_json.specs.declared.reader.Mode.{Mode}
use Rattle.am_json.specs.declared.reader.Mode.TheVariants.{Strict}
use Rattle.am_input.proofs.Refusals.{one_on, passed_on}
use Rattle.am_input.proofs.DecodedDispatcherChanges.{one_list, one_own}
use Rattle.am_config.specs.declared.hours.Hours.{Hours}
use Rattle.am_input.specs.Clocks.{AreClocksOf}
use Rattle.am_input.specs.Configured.{IsConfigFor, IsReadOfTheirs, DecodesPlainly, file_in}
use Rattle.am_input.specs.DispatcherChanges.{AreDispatcherChangesWithoutRegexes}
use Rattle.am_input.specs.Request.{IsWithoutRegexes, Requests, end_for}
use Rattle.am_input.specs.declared.input.Changes.{Changes}
use Rattle.am_input.specs.declared.input.Input.{Input}
use Rattle.am_model.specs.declared.config.Config.{Config}
use Rattle.am_plans.proofs.Decodings.{found_none, none_and, same_some, some_and}
use Rattle.am_input.proofs.input.read_input.Goals as goal

-- what the members ask for that isn't refused
abbrev Requesting : Mode → Changes → Input → Members → Type 0
Requesting d changes input members =
    Requests d changes members input.output input.start input.expectations.items input.dispatcher_changes.items input.rehearsal
    × IsWithoutRegexes d changes members input.dispatcher_changes.items input.rehearsal

abbrev Decodes : Changes → Data → Input → Type 0
Decodes changes value input = IsSomeAnd (as_object value) (Requesting Strict changes input)

pub returns-clause-decoded : goal.returns-clause-decoded
returns-clause-decoded g c =
    let input = c.in_ok-read_planned.field-0 in
    let mode : c.in_ok-top.top.mode ≡ Strict = c.in_ok-top.ensures.mode ∙ c.strict-reader.ensures.mode in
    let Says = λ (d : Mode) (members : Members). Requests d c.args.changes members input.output input.start input.expectations.items input.dispatcher_changes.items input.rehearsal in
    subst (λ (v : Value). IsSomeAnd (as_object (view v)) (Says Strict)) c.strict-reader.ensures.value
    (subst (λ (o : Option Members). IsSomeAnd o (Says Strict)) c.in_ok-top.ensures.members
    (subst (λ (d : Mode). Says d (members_view c.in_ok-top.top.members)) mode c.in_ok-read_planned.ensures.decoded))

-- the configuration that is given is in `config`
without_patterns : (d : Mode) (changes : Changes) (members : Members) (input : Input) → Requesting d changes input members → DecodesPlainly d members input.rehearsal.config
without_patterns d changes members input decoded =
    let Clocks = AreClocksOf input.rehearsal.until members in
    let decoded_of : IsConfigFor Clocks None d members input.rehearsal.config =
    subst (λ (file : Option Data). IsConfigFor Clocks file d members input.rehearsal.config) decoded.1.own decoded.0.configures in (
      found_none (Has (DecodesToConfig d) (codes "config") members input.rehearsal.config) (λ value. HasNone (codes "config") members × IsReadOfTheirs Clocks value input.rehearsal.config)
          (get_member (codes "alertmanager") members) (sym decoded.1.ours) decoded_of,
      decoded.1.config,
    )

-- and is the one that was read
same_config : (Clocks : Option Hours → Type 0) (d : Mode) (changes : Changes) (members : Members) (input : Input) (config : Config) → Requesting d changes input members
    → IsConfigFor Clocks (file_in changes) d members config → input.rehearsal.config ≡ config
same_config Clocks d changes members input config decoded read =
    let read_of : IsConfigFor Clocks None d members config = subst (λ (file : Option Data). IsConfigFor Clocks file d members config) decoded.1.own read in
    let has = found_none (Has (DecodesToConfig d) (codes "config") members config) (λ value. HasNone (codes "config") members × IsReadOfTheirs Clocks value config)
    (get_member (codes "alertmanager") members) (sym decoded.1.ours) read_of in
    let own = without_patterns d changes members input decoded in
    one_own d members input.rehearsal.config config own.1 own.0 has

-- what is given of an object that was read
inside : (d : Mode) (changes : Changes) (members : Members) (value : Data) (input : Input) → Some members ≡ as_object value → d ≡ Strict
    → Decodes changes value input → Requesting d changes input members
inside d changes members value input is strict decoded =
    subst (λ (e : Mode). Requesting e changes input members) (sym strict) (some_and (Requesting Strict changes input) members (as_object value) is decoded)

pub returns-in_err-top-clause-refused : goal.returns-in_err-top-clause-refused
returns-in_err-top-clause-refused g c =
    let value = view c.args.value.now in
    one_on (Decodes c.args.changes value) c.from_residual.result c.in_err-top.field-0.0 c.from_residual.ensures.1
    (λ refusal x decoded. none_and (Requesting Strict c.args.changes x) (as_object value)
    (c.in_err-top.ensures.members ∙ ap (λ (v : Value). as_object (view v)) c.strict-reader.ensures.value) decoded)

pub returns-in_err-only-clause-refused : goal.returns-in_err-only-clause-refused
returns-in_err-only-clause-refused g c =
    let value = view c.args.value.now in
    let top = c.in_ok-top.top in
    let members = members_view top.members in
    let is : Some members ≡ as_object value = c.in_ok-top.ensures.members ∙ ap (λ (v : Value). as_object (view v)) c.strict-reader.ensures.value in
    let strict : top.mode ≡ Strict = c.in_ok-top.ensures.mode ∙ c.strict-reader.ensures.mode in
    one_on (Decodes c.args.changes value) c.from_residual-in_err-only.result c.in_err-only.field-0.0 c.from_residual-in_err-only.ensures.1
    (λ refusal x decoded. unknown _ c.in_err-only.ensures.known (inside top.mode c.args.changes members value x is strict decoded).0.known)

pub returns-in_err-configured-clause-refused : goal.returns-in_err-configured-clause-refused
returns-in_err-configured-clause-refused g c =
    let value = view c.args.value.now in
    let top = c.in_ok-top.top in
    let members = members_view top.members in
    let is : Some members ≡ as_object value = c.in_ok-top.ensures.members ∙ ap (λ (v : Value). as_object (view v)) c.strict-reader.ensures.value in
    let strict : top.mode ≡ Strict = c.in_ok-top.ensures.mode ∙ c.strict-reader.ensures.mode in
    passed_on (DecodesPlainly top.mode members) (Decodes c.args.changes value) (λ x. x.rehearsal.config) c.from_residual-in_err-configured.result c.in_err-configured.field-0.0
    c.from_residual-in_err-configured.ensures.1
    (λ x decoded.
    let requests = inside top.mode c.args.changes members value x is strict decoded in
    (c.in_err-configured.ensures.refused requests.1.own requests.1.ours, without_patterns top.mode c.args.changes members x requests))

pub returns-in_err-until-clause-refused : goal.returns-in_err-until-clause-refused
returns-in_err-until-clause-refused g c =
    let value = view c.args.value.now in
    let top = c.in_ok-top.top in
    let members = members_view top.members in
    let is : Some members ≡ as_object value = c.in_ok-top.ensures.members ∙ ap (λ (v : Value). as_object (view v)) c.strict-reader.ensures.value in
    let strict : top.mode ≡ Strict = c.in_ok-top.ensures.mode ∙ c.strict-reader.ensures.mode in
    one_on (Decodes c.args.changes value) c.from_residual-in_err-until.result c.in_err-until.field-0.0 c.from_residual-in_err-until.ensures.1
    (λ refusal x decoded.
    let requests = inside top.mode c.args.changes members value x is strict decoded in
    absurd (omega (arith, c.in_err-until.ensures.refused x.rehearsal.until requests.0.ends, x.rehearsal.ends)))

-- the reloads and restarts that are asked for end with the story that was read
handed_in : (d : Mode) (changes : Changes) (members : Members) (input : Input) (until : ℕ) → Requesting d changes input members
    → end_for changes.overrides.until members ≡ Some until → AreDispatcherChangesWithoutRegexes d (file_in changes) until members input.dispatcher_changes.items
handed_in d changes members input until decoded ends =
    subst (λ (u : ℕ). AreDispatcherChangesWithoutRegexes d (file_in changes) u members input.dispatcher_changes.items) (same_some decoded.0.ends ends) decoded.1.hands_over

pub returns-in_err-handed-clause-refused : goal.returns-in_err-handed-clause-refused
returns-in_err-handed-clause-refused g c =
    let value = view c.args.value.now in
    let top = c.in_ok-top.top in
    let members = members_view top.members in
    let is : Some members ≡ as_object value = c.in_ok-top.ensures.members ∙ ap (λ (v : Value). as_object (view v)) c.strict-reader.ensures.value in
    let strict : top.mode ≡ Strict = c.in_ok-top.ensures.mode ∙ c.strict-reader.ensures.mode in
    let until : ℕ = c.in_ok-until.until in
    passed_on (AreDispatcherChangesWithoutRegexes top.mode (file_in c.args.changes) until members) (Decodes c.args.changes value) (λ x. x.dispatcher_changes.items)
    c.from_residual-in_err-handed.result c.in_err-handed.field-0.0 c.from_residual-in_err-handed.ensures.1
    (λ x decoded.
    let requests = inside top.mode c.args.changes members value x is strict decoded in
    (c.in_err-handed.ensures.refused requests.1.own requests.1.ours, handed_in top.mode c.args.changes members x until requests c.in_ok-until.ensures.until))

pub returns-in_err-read_planned-clause-refused : goal.returns-in_err-read_planned-clause-refused
returns-in_err-read_planned-clause-refused g c =
    let value = view c.args.value.now in
    let top = c.in_ok-top.top in
    let members = members_view top.members in
    let is : Some members ≡ as_object value = c.in_ok-top.ensures.members ∙ ap (λ (v : Value). as_object (view v)) c.strict-reader.ensures.value in
    let strict : top.mode ≡ Strict = c.in_ok-top.ensures.mode ∙ c.strict-reader.ensures.mode in
    one_on (Decodes c.args.changes value) c.from_residual-in_err-read_planned.result c.in_err-read_planned.field-0.0 c.from_residual-in_err-read_planned.ensures.1
    (λ refusal x decoded.
    let requests = inside top.mode c.args.changes members value x is strict decoded in
    let handed = handed_in top.mode c.args.changes members x c.in_ok-until.until requests c.in_ok-until.ensures.until in
    c.in_err-read_planned.ensures.refused (c.in_ok-configured.ensures.timed requests.1.own requests.1.ours)
    (c.in_ok-handed.ensures.timed requests.1.own requests.1.ours x.dispatcher_changes.items handed) refusal x (
      requests.0,
      same_config (AreClocksOf c.in_ok-until.until members) top.mode c.args.changes members x c.in_ok-configured.configured.config requests
          (c.in_ok-configured.ensures.decoded c.in_ok-until.until c.in_ok-until.ensures.until),
      one_list top.mode (file_in c.args.changes) c.in_ok-until.until members x.dispatcher_changes.items c.in_ok-handed.handed.dispatcher_changes.items requests.1.own requests.1.ours handed
          c.in_ok-handed.ensures.decoded,
      requests.1,
    ))
