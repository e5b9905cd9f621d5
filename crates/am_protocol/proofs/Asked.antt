-- What the value of a call asks: the request of that call, and none of another.
use Rattle.std.specs.Prelude.{IsTrue, List}
use Rattle.serde_json.specs.Data.{Data}
use Rattle.am_alerts.specs.Matcher.{compare_texts}
use Rattle.am_json.specs.Configured.{DecodesToConfig, config_compares_texts}
use Rattle.am_json.specs.Decoding.{IsList}
use Rattle.am_json.specs.declared.reader.Mode.{Mode}
use Rattle.am_model.specs.declared.config.Config.{Config}
use Rattle.am_protocol.specs.declared.call.CallName.{CallName}
use Rattle.am_protocol.specs.declared.call.CallName.TheVariants as call
use Rattle.am_protocol.specs.declared.check.LinePart.{LinePart}
use Rattle.am_protocol.specs.declared.request.Finishing.{Finishing}
use Rattle.am_protocol.specs.declared.request.Insertion.{Insertion}
use Rattle.am_protocol.specs.declared.request.LabelsAt.{LabelsAt}
use Rattle.am_protocol.specs.declared.request.ListedInsert.{ListedInsert}
use Rattle.am_protocol.specs.declared.request.Loading.{Loading}
use Rattle.am_protocol.specs.declared.request.Noting.{Noting}
use Rattle.am_protocol.specs.declared.request.Reporting.{Reporting}
use Rattle.am_protocol.specs.declared.request.Silencing.{Silencing}
use Rattle.am_protocol.specs.declared.request.Timed.{Timed}
use Rattle.am_protocol.specs.declared.request.Request.{Request}
use Rattle.am_protocol.specs.declared.request.Request.TheVariants as request
use Rattle.am_protocol.specs.Check.{DecodesToPart, part_compares_texts}
use Rattle.am_protocol.specs.Request.{DecodesToFinishing, DecodesToInsertion, DecodesToLabelsAt, DecodesToListed, DecodesToLoading, DecodesToNoting, DecodesToReporting, DecodesToSilencing, DecodesToTimed}
use Rattle.am_protocol.specs.Request.{HasNoArguments, IsCallOf, is_never_refused}

-- what is asked by this call, and is never refused
abbrev pub IsSure : Mode → CallName → Data → Request → Type 0
IsSure mode name value asked = IsCallOf mode name value asked × IsTrue (is_never_refused name asked)

pub of_config : (mode : Mode) (value : Data) (asked : Request) → IsSure mode call.Config value asked → (x : Config) × DecodesToConfig mode value x × IsTrue (config_compares_texts x)
of_config mode value (request.Open x) is = (x.config, is.0.config, is.1)
of_config mode value asked is = absurd is.0

pub of_alertmanager : (mode : Mode) (value : Data) (asked : Request) → IsSure mode call.Alertmanager value asked → ⊥
of_alertmanager mode value (request.Open x) is = absurd (cc is.1)
of_alertmanager mode value asked is = absurd is.0

pub of_open : (mode : Mode) (value : Data) (asked : Request) → IsSure mode call.Open value asked → ⊥
of_open mode value (request.Open x) is = absurd (cc is.1)
of_open mode value asked is = absurd is.0

pub of_insert : (mode : Mode) (value : Data) (asked : Request) → IsSure mode call.Insert value asked → (x : Insertion) × DecodesToInsertion mode value x
of_insert mode value (request.Insert x) is = (x, is.0)
of_insert mode value asked is = absurd is.0

pub of_inserts : (mode : Mode) (value : Data) (asked : Request) → IsSure mode call.Inserts value asked → (x : List ListedInsert) × IsList (DecodesToListed mode) value x
of_inserts mode value (request.Inserts x) is = (x.items, is.0)
of_inserts mode value asked is = absurd is.0

pub of_silence : (mode : Mode) (value : Data) (asked : Request) → IsSure mode call.Silence value asked → (x : Silencing) × DecodesToSilencing mode value x × IsTrue (compare_texts x.silence.matchers)
of_silence mode value (request.Silence x) is = (x, is.0, is.1)
of_silence mode value asked is = absurd is.0

pub of_begin : (mode : Mode) (value : Data) (asked : Request) → IsSure mode call.Begin value asked → (x : Timed) × DecodesToTimed mode value x
of_begin mode value (request.Begin x) is = (x, is.0)
of_begin mode value asked is = absurd is.0

pub of_report : (mode : Mode) (value : Data) (asked : Request) → IsSure mode call.Report value asked → (x : Reporting) × DecodesToReporting mode value x
of_report mode value (request.Report x) is = (x, is.0)
of_report mode value asked is = absurd is.0

pub of_note : (mode : Mode) (value : Data) (asked : Request) → IsSure mode call.Note value asked → (x : Noting) × DecodesToNoting mode value x
of_note mode value (request.Note x) is = (x, is.0)
of_note mode value asked is = absurd is.0

pub of_finish : (mode : Mode) (value : Data) (asked : Request) → IsSure mode call.Finish value asked → (x : Finishing) × DecodesToFinishing mode value x
of_finish mode value (request.Finish x) is = (x, is.0)
of_finish mode value asked is = absurd is.0

pub of_maintain : (mode : Mode) (value : Data) (asked : Request) → IsSure mode call.Maintain value asked → (x : Timed) × DecodesToTimed mode value x
of_maintain mode value (request.Maintain x) is = (x, is.0)
of_maintain mode value asked is = absurd is.0

pub of_remove_empty_groups : (mode : Mode) (value : Data) (asked : Request) → IsSure mode call.RemoveEmptyGroups value asked → (x : Timed) × DecodesToTimed mode value x
of_remove_empty_groups mode value (request.RemoveEmptyGroups x) is = (x, is.0)
of_remove_empty_groups mode value asked is = absurd is.0

pub of_forget : (mode : Mode) (value : Data) (asked : Request) → IsSure mode call.Forget value asked → (x : Timed) × DecodesToTimed mode value x
of_forget mode value (request.Forget x) is = (x, is.0)
of_forget mode value asked is = absurd is.0

pub of_load : (mode : Mode) (value : Data) (asked : Request) → IsSure mode call.Load value asked → (x : Loading) × DecodesToLoading mode value x
of_load mode value (request.Load x) is = (x, is.0)
of_load mode value asked is = absurd is.0

pub of_outlook : (mode : Mode) (value : Data) (asked : Request) → IsSure mode call.Outlook value asked → (x : Timed) × DecodesToTimed mode value x
of_outlook mode value (request.Outlook x) is = (x, is.0)
of_outlook mode value asked is = absurd is.0

pub of_status : (mode : Mode) (value : Data) (asked : Request) → IsSure mode call.Status value asked → (x : LabelsAt) × DecodesToLabelsAt mode value x
of_status mode value (request.Status x) is = (x, is.0)
of_status mode value asked is = absurd is.0

pub of_next_due : (mode : Mode) (value : Data) (asked : Request) → IsSure mode call.NextDue value asked → HasNoArguments mode value
of_next_due mode value request.NextDue is = is.0
of_next_due mode value asked is = absurd is.0

pub of_rows : (mode : Mode) (value : Data) (asked : Request) → IsSure mode call.Rows value asked → HasNoArguments mode value
of_rows mode value request.Rows is = is.0
of_rows mode value asked is = absurd is.0

pub of_groups : (mode : Mode) (value : Data) (asked : Request) → IsSure mode call.Groups value asked → HasNoArguments mode value
of_groups mode value request.Groups is = is.0
of_groups mode value asked is = absurd is.0

pub of_summary : (mode : Mode) (value : Data) (asked : Request) → IsSure mode call.Summary value asked → HasNoArguments mode value
of_summary mode value request.Summary is = is.0
of_summary mode value asked is = absurd is.0

pub of_tickets : (mode : Mode) (value : Data) (asked : Request) → IsSure mode call.Tickets value asked → HasNoArguments mode value
of_tickets mode value request.Tickets is = is.0
of_tickets mode value asked is = absurd is.0

pub of_take_history : (mode : Mode) (value : Data) (asked : Request) → IsSure mode call.TakeHistory value asked → HasNoArguments mode value
of_take_history mode value request.TakeHistory is = is.0
of_take_history mode value asked is = absurd is.0

pub of_check : (mode : Mode) (value : Data) (asked : Request) → IsSure mode call.Check value asked → (x : LinePart) × DecodesToPart mode value x × IsTrue (part_compares_texts x)
of_check mode value (request.Check x) is = (x, is.0, is.1)
of_check mode value asked is = absurd is.0
