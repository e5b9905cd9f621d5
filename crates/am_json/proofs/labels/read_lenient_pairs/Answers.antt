use Rattle.std.proofs.Common.{◌≡◌, ◌∙◌, ℕ, List, Bool, Bor, false, length, nat_le, sym, ap}
use Rattle.std.proofs.lemmas.Bool.{false≢true}
use Rattle.std.proofs.lemmas.List.Folds.{list_all-map}
use Rattle.std.specs.List.{list_all}
use Rattle.serde_json.specs.Find.{as_array}
use Rattle.serde_json.specs.View.{view}
use Rattle.am_alerts.specs.Labels.{label_in, labels_in}
use Rattle.am_alerts.specs.declared.labels.Label.{Label}
use Rattle.am_json.specs.Configured.{DecodesToPairs, has_short_value}
use Rattle.am_json.specs.declared.config.TheConstants.{FEW_BYTES}
use Rattle.am_json.specs.declared.reader.Mode.TheVariants.{Lenient}
use Rattle.am_json.proofs.Decoding.{all_sure, handed_on}
use Rattle.am_json.proofs.Once.{one_array}
use Rattle.am_json.proofs.labels.read_lenient_pairs.Goals as goal

-- whether the value of a label is no longer than one of a scenario
abbrev is_short : Label → Bool
is_short l = nat_le (length l.value) FEW_BYTES

-- pairs of the same labels have values of the same lengths
same_lengths : (ps qs : List (Bor (List ℕ) × Bor (List ℕ))) → labels_in ps ≡ labels_in qs → list_all has_short_value ps ≡ list_all has_short_value qs
same_lengths ps qs same = sym (list_all-map is_short label_in ps) ∙ ap (list_all is_short) same ∙ list_all-map is_short label_in qs

pub returns-in_err-pairs-clause-refused : goal.returns-in_err-pairs-clause-refused
returns-in_err-pairs-clause-refused c =
    let value = view c.args.reader.now.value in
    handed_on (DecodesToPairs Lenient value) c.from_residual.result c.in_err-pairs.field-0.0 c.from_residual.ensures.1
    (λ refusal ps decoded. c.in_err-pairs.ensures.refused refusal ps (decoded.0, all_sure ps))

-- a value that is longer than one of a scenario
pub returns-then-not-have_short_values-clause-refused : goal.returns-then-not-have_short_values-clause-refused
returns-then-not-have_short_values-clause-refused c refusal ps decoded =
    let pairs = c.in_ok-pairs.pairs.items in
    let same : labels_in ps ≡ labels_in pairs = one_array (as_array (view c.args.reader.now.value)) ps pairs decoded.0 c.in_ok-pairs.ensures.decoded in
    let long : list_all has_short_value pairs ≡ false = sym (c.have_short_values.ensures ∙ ap (list_all has_short_value) c.as_slice.ensures.value)
    ∙ c.if-not-have_short_values.true in
    false≢true (sym long ∙ sym (same_lengths ps pairs same) ∙ decoded.1)
