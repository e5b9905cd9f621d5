use Rattle.std.proofs.Common.{List, true}
use Rattle.std.specs.Prelude.{IsTrue}
use Rattle.serde_json.specs.View.{view}
use Rattle.am_alerts.specs.declared.labels.Label.{Label}
use Rattle.am_json.specs.Configured.{DecodesToLabels}
use Rattle.am_json.proofs.Decoding.{narrowed}
use Rattle.am_json.proofs.labels.LabelsFromJson.read.Goals as goal

pub returns-clause-refused : goal.returns-clause-refused
returns-clause-refused c =
    let Decodes : List Label → Type 0 = DecodesToLabels c.args.reader.now.mode (view c.args.reader.now.value) in
    narrowed Decodes (λ (labels : List Label). Decodes labels × IsTrue true) (λ labels decoded. decoded.0) c.read_labels.result c.read_labels.ensures.refused
