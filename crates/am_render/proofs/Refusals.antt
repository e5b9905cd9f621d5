-- Refusals that are handed on, and what they exclude.
use Rattle.std.proofs.Common.{◌≡◌, inl, inr, ℕ, zero, suc, List, [], ◌∷◌, Option, Some, None, Result, Ok, Err, MatchOption, ap, map, slice_get}
use Rattle.std.proofs.Common.{refl, subst, sym, true, codes}
use Rattle.std.specs.Prelude.{IfErr, IsSomeAnd, IsTrue}
use Rattle.std.specs.Result.{IsErrAnd}
use Rattle.serde_json.specs.Data.{Data, Members}
use Rattle.serde_json.specs.Find.{as_object, get_member}
use Rattle.am_json.specs.Configured.{DecodesToConfig}
use Rattle.am_json.specs.Read.{IsRefusedBy}
use Rattle.am_json.specs.declared.fault.FaultKind.TheVariants.{Full}
use Rattle.am_json.specs.declared.fault.InputFault.{InputFault}
use Rattle.am_json.specs.declared.fault.InputFault.TheVariants as input
use Rattle.am_json.specs.declared.faults.Refusal.{Refusal}
use Rattle.am_json.specs.declared.faults.Refusal.TheVariants as refusal
use Rattle.am_json.specs.declared.reader.Mode.{Mode}
use Rattle.am_json.specs.declared.reader.Mode.TheVariants.{Strict}
use Rattle.am_input.specs.Configured.{IsConfigFor, IsConfigIn, IsConfigOf, IsReadOfTheirs, file_in, form_in}
use Rattle.am_input.specs.Request.{IsRequestIn, IsRequestWithoutRegexes, RefusesAll, Requests}
use Rattle.am_input.specs.declared.form.Form.{Form}
use Rattle.am_input.specs.declared.form.Form.TheVariants.{Story, Own, Alertmanager}
use Rattle.am_input.specs.declared.input.Changes.{Changes}
use Rattle.am_input.specs.declared.input.Input.{Input}
use Rattle.am_model.specs.Config.{config_fault}
use Rattle.am_model.specs.declared.config.Config.{Config}
use Rattle.am_config.specs.declared.hours.Hours.{Hours}
use Rattle.am_input.specs.Clocks.{AreClocksOf}
use Rattle.am_input.specs.DispatcherChanges.{AreDispatcherChangesIn, AreDecodedBy, IsConfigAt, last_reload}
use Rattle.am_plans.proofs.Decodings.{same_some}
use Rattle.am_plans.specs.Configs.{configs_of}
use Rattle.am_plans.specs.DispatcherChange.{ItemData}
use Rattle.am_simulation.specs.Parts.{PartData, after, parts_from, whole_part}
use Rattle.am_simulation.specs.Playing.{IsCauseOfPartFault, last_board}
use Rattle.am_simulation.specs.declared.play.PlayFault.{PlayFault}
use Rattle.am_simulation.specs.declared.play.PlayFault.TheVariants as play
use Rattle.am_terms.specs.declared.dispatcher_change.DispatcherChange.{DispatcherChange}
use Rattle.am_terms.specs.declared.rehearsal.Rehearsal.{Rehearsal}
use Rattle.am_render.specs.Faults.{AreSound, IsCauseOfPlayFault, Refuses, RefusesPlay, fault_of_input, fault_of_refusal}
use Rattle.am_render.specs.Faults.{is_limit}

-- what is so of a fault is so of it where it is handed on
pub passed : {T E : Type 0} (P : E → Type 0) (result : Result T E) (fault : E) → IsErrAnd result (λ f. f ≡ fault) → P fault → IfErr result P
passed P (Ok x) fault is so = absurd is
passed P (Err f) fault is so = subst P (sym is) so

-- what is so of lack of memory is so where nothing else refuses
pub starved : {T : Type 0} (P : InputFault → Type 0) (result : Result T InputFault) → P input.NoMemory → IfErr result (λ f. f ≡ input.NoMemory)
    → IfErr result P
starved P (Ok x) so is = tt
starved P (Err f) so is = subst P (sym is) so

-- each part has the configuration of the first, or that of a change of the dispatcher: where these have no fault, none of the parts has a faulty one
sound_at : (p : PartData) (hs : List DispatcherChange) → AreSound (configs_of p.config hs) → (k : ℕ) (q : PartData) → slice_get (parts_from p hs) k ≡ Some q
    → config_fault q.config ≡ None
sound_at p [] sound zero q is = subst (λ (x : PartData). config_fault x.config ≡ None) (same_some refl is) sound.0
sound_at p [] sound (suc k) q is = absurd (cc is)
sound_at p (h ∷ hs) sound zero q is = subst (λ (x : PartData). config_fault x.config ≡ None) (same_some refl is) sound.0
sound_at p (h ∷ hs) sound (suc k) q is = sound_at (after h p) hs sound.1 k q is

-- so none is stopped for a fault of its configuration
no_faulty : (rehearsal : Rehearsal) (dispatcher_changes : List DispatcherChange) (k : ℕ) → AreSound (configs_of rehearsal.config dispatcher_changes)
    → IsCauseOfPlayFault rehearsal dispatcher_changes (record { part = k; fault = play.BadConfig }) → ⊥
no_faulty rehearsal dispatcher_changes k sound why =
    by (slice_get (parts_from first dispatcher_changes) k) refl why.stopped
  where
    first : PartData
    first = whole_part rehearsal.config rehearsal.until rehearsal.plans.items

    by : (o : Option PartData) → slice_get (parts_from first dispatcher_changes) k ≡ o
        → IsSomeAnd o (λ p. IsCauseOfPartFault rehearsal.upkeep rehearsal.outages.items (last_board None why.played) p play.BadConfig) → ⊥
    by None is bad = absurd bad
    by (Some q) is bad = bad (sound_at first dispatcher_changes sound k q is)

-- a play that isn't one, by the fault that is made of why
pub unplayed : (rehearsal : Rehearsal) (dispatcher_changes : List DispatcherChange) (k : ℕ) (why : PlayFault) (fault : InputFault)
    → (why ≡ play.NoMemory → fault ≡ input.NoMemory) → (IsTrue (is_limit why) → IsRefusedBy Full fault)
    → IsCauseOfPlayFault rehearsal dispatcher_changes (record { part = k; fault = why }) → RefusesPlay rehearsal dispatcher_changes fault
unplayed rehearsal dispatcher_changes k why input.NoMemory memory limit is = tt
unplayed rehearsal dispatcher_changes k play.NoMemory (input.Refused pointer by) memory limit is = λ sound. absurd (cc (memory refl))
unplayed rehearsal dispatcher_changes k play.BadConfig (input.Refused pointer by) memory limit is = λ sound. absurd (no_faulty rehearsal dispatcher_changes k sound is)
unplayed rehearsal dispatcher_changes k (play.PlanRefused n) (input.Refused pointer by) memory limit is =
    λ sound. (limit refl, (record { part = k; fault = play.PlanRefused n }, refl, is))
unplayed rehearsal dispatcher_changes k play.Full (input.Refused pointer by) memory limit is =
    λ sound. (limit refl, (record { part = k; fault = play.Full }, refl, is))

-- ---- what an input asks for

sound_by : (Clocks : Option Hours → Type 0) (theirs own : Option Data) (mode : Mode) (config : Config)
    → MatchOption theirs (MatchOption own ⊥ (λ value. DecodesToConfig mode value config)) (λ value. (own ≡ None) × IsReadOfTheirs Clocks value config)
    → config_fault config ≡ None
sound_by Clocks None None mode config decoded = absurd decoded
sound_by Clocks None (Some value) mode config decoded = decoded.sound
sound_by Clocks (Some value) own mode config decoded = decoded.1.sound

sound_in : (Clocks : Option Hours → Type 0) (mode : Mode) (members : Members) (config : Config) → IsConfigIn Clocks mode members config → config_fault config ≡ None
sound_in Clocks mode members config decoded =
    sound_by Clocks (get_member (codes "alertmanager") members) (get_member (codes "config") members) mode config decoded

sound_story : (Clocks : Option Hours → Type 0) (object : Option Members) (config : Config) → IsSomeAnd object (λ members. IsConfigIn Clocks Strict members config) → config_fault config ≡ None
sound_story Clocks None config decoded = absurd decoded
sound_story Clocks (Some members) config decoded = sound_in Clocks Strict members config decoded

sound_of : (Clocks : Option Hours → Type 0) (form : Form) (value : Data) (config : Config) → IsConfigOf Clocks form value config → config_fault config ≡ None
sound_of Clocks Story value config decoded = sound_story Clocks (as_object value) config decoded
sound_of Clocks Own value config decoded = decoded.sound
sound_of Clocks Alertmanager value config decoded = decoded.sound

-- a configuration that is given has no fault
sound_for : (Clocks : Option Hours → Type 0) (file : Option Data) (mode : Mode) (members : Members) (config : Config) → IsConfigFor Clocks file mode members config
    → config_fault config ≡ None
sound_for Clocks None mode ms config decoded = sound_in Clocks mode ms config decoded
sound_for Clocks (Some file) mode _ config decoded = sound_of Clocks (form_in file) file config decoded

-- nor has that under a reload
sound_under : (Clocks : Option Hours → Type 0) (file : Option Data) (mode : Mode) (members : Members) (reload : Option Data) (config : Config)
    → IsConfigAt Clocks file mode members reload config → config_fault config ≡ None
sound_under Clocks file mode members None config decoded = sound_for Clocks file mode members config decoded
sound_under Clocks file mode members (Some reload) config decoded = by (as_object reload) decoded
  where
    by : (object : Option Members) → IsSomeAnd object (λ fields. IsConfigIn Clocks mode fields config) → config_fault config ≡ None
    by None is = absurd is
    by (Some fields) is = sound_in Clocks mode fields config is

-- nor have those of changes of the dispatcher
sound_later : (Clocks : Option Hours → Type 0) (file : Option Data) (mode : Mode) (members : Members) (before : Option Data) (items : List ItemData) (hs : List DispatcherChange)
    → AreDecodedBy (IsConfigAt Clocks file mode members) before items hs → AreSound (map (λ (h : DispatcherChange). h.config) hs)
sound_later Clocks file mode members before [] [] decoded = tt
sound_later Clocks file mode members before [] (h ∷ hs) decoded = absurd decoded
sound_later Clocks file mode members before (item ∷ items) [] decoded = absurd decoded
sound_later Clocks file mode members before (item ∷ items) (h ∷ hs) decoded = (
  sound_under Clocks file mode members (last_reload before item) h.config decoded.2,
  sound_later Clocks file mode members (last_reload before item) items hs decoded.3,
)

-- nor have those of a rehearsal that is asked for
sound : (changes : Changes) (story : Input) (object : Option Members)
    → IsSomeAnd object (λ members. Requests Strict changes members story.output story.start story.expectations.items story.dispatcher_changes.items story.rehearsal)
    → AreSound (configs_of story.rehearsal.config story.dispatcher_changes.items)
sound changes story None decoded = absurd decoded
sound changes story (Some members) decoded = (
  sound_for (AreClocksOf story.rehearsal.until members) (file_in changes) Strict members story.rehearsal.config decoded.configures,
  sound_later (AreClocksOf story.rehearsal.until members) (file_in changes) Strict members None decoded.hands_over.items story.dispatcher_changes.items decoded.hands_over.are,
)

-- ---- what is refused

-- a value that is refused asks for nothing that can be played
pub unread : (changes : Changes) (value : Data) (refused : Refusal)
    → RefusesAll (λ (story : Input). IsRequestWithoutRegexes changes value story.output story.start story.expectations.items story.dispatcher_changes.items story.rehearsal) refused
    → Refuses changes value (fault_of_refusal refused)
unread changes value (refusal.One (input.Refused pointer by)) none = inl (none refl)
unread changes value (refusal.One input.NoMemory) none = tt
unread changes value (refusal.All faults) none = none

-- a rehearsal that was read and isn't played to its end
pub unended : (changes : Changes) (value : Data) (story : Input) (fault : InputFault)
    → IsRequestIn changes value story.output story.start story.expectations.items story.dispatcher_changes.items story.rehearsal → RefusesPlay story.rehearsal story.dispatcher_changes.items fault
    → Refuses changes value (fault_of_input fault)
unended changes value story input.NoMemory decoded refused = tt
unended changes value story (input.Refused pointer by) decoded refused =
    let full = refused (sound changes story (as_object value) decoded) in
    inr (
      full.0,
      record {
        output = story.output;
        start = story.start;
        expectations = story.expectations.items;
        dispatcher_changes = story.dispatcher_changes.items;
        rehearsal = story.rehearsal;
        requested = decoded;
        too_large = full.1;
      },
    )
