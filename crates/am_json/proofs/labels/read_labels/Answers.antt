use Rattle.std.proofs.Common.{◌≡◌, ◌∙◌, ℕ, List, None, Bor, ap, subst, sym}
use Rattle.std.proofs.lemmas.Bool.{false≢true}
use Rattle.serde_json.specs.View.{view}
use Rattle.am_alerts.specs.Labels.{IsReadOf, labels_in, read_fault}
use Rattle.am_json.specs.Configured.{DecodesToLabels}
use Rattle.am_json.specs.Read.{is_refusal}
use Rattle.am_json.proofs.Decoding.{handed_on}
use Rattle.am_json.proofs.Made.{no_fault}
use Rattle.am_json.proofs.Once.{one_pairs}
use Rattle.am_json.proofs.labels.read_labels.Goals as goal

pub returns-in_err-pairs-clause-refused : goal.returns-in_err-pairs-clause-refused
returns-in_err-pairs-clause-refused c =
    handed_on (DecodesToLabels c.args.reader.now.mode (view c.args.reader.now.value)) c.from_residual.result c.in_err-pairs.field-0.0 c.from_residual.ensures.1
    (λ refusal labels decoded. c.in_err-pairs.ensures.refused refusal decoded.pairs decoded.written)

pub returns-in-Ok-clause-decoded : goal.returns-in-Ok-clause-decoded
returns-in-Ok-clause-decoded c =
    let pairs = c.in_ok-pairs.pairs.items in
    let same = c.as_slice.ensures.value in
    record {
      pairs = pairs;
      written = c.in_ok-pairs.ensures.decoded;
      sound = ap (λ ps. read_fault (labels_in ps)) (sym same) ∙ no_fault (read_fault (labels_in c.as_slice.result.now)) c.in-Ok.labels c.in-Ok.ensures.refused;
      read = subst (λ (ps : List (Bor (List ℕ) × Bor (List ℕ))). IsReadOf (labels_in ps) c.in-Ok.labels) same c.in-Ok.ensures.value;
    }

-- pairs that have a fault
pub returns-clause-refused : goal.returns-clause-refused
returns-clause-refused c refusal labels decoded =
    let pairs = c.in_ok-pairs.pairs.items in
    let same = one_pairs c.args.reader.now.mode (view c.args.reader.now.value) decoded.pairs pairs decoded.written c.in_ok-pairs.ensures.decoded in
    let sound : read_fault (labels_in c.as_slice.result.now) ≡ None =
    ap (λ ps. read_fault (labels_in ps)) c.as_slice.ensures.value ∙ ap read_fault (sym same) ∙ decoded.sound in
    let memory = c.in-Err.ensures.only_memory sound in
    false≢true (sym (ap is_refusal (c.refuse_labels.ensures memory)) ∙ refusal)
