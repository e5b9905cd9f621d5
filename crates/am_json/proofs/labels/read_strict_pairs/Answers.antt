use Rattle.std.proofs.Common.{◌≡◌, ℕ, List, Bor, true, sym, ◌∙◌}
use Rattle.std.specs.List.{list_all}
use Rattle.std.specs.Prelude.{IsTrue}
use Rattle.serde_json.specs.View.{members_view, view}
use Rattle.am_json.specs.Configured.{DecodesToPairs, IsPair, text_members}
use Rattle.am_json.specs.Decoding.{IsList}
use Rattle.am_json.specs.declared.reader.Mode.TheVariants.{Strict}
use Rattle.am_json.proofs.Decoding.{all_sure, handed_on, narrowed}
use Rattle.am_json.proofs.Once.{array_pairs, no_object, object_pairs}
use Rattle.am_json.proofs.labels.read_strict_pairs.Goals as goal

pub returns-in_err-object-clause-refused : goal.returns-in_err-object-clause-refused
returns-in_err-object-clause-refused c =
    let value = view c.args.reader.now.value in
    handed_on (DecodesToPairs Strict value) c.from_residual.result c.in_err-object.field-0.0 c.from_residual.ensures.1
    (λ refusal ps decoded. no_object value c.in_err-object.ensures.members (sym c.is_object.ensures ∙ c.if-is_object.true))

-- an object of which a member is no text
pub returns-then-is_object-clause-refused : goal.returns-then-is_object-clause-refused
returns-then-is_object-clause-refused c =
    let value = view c.args.reader.now.value in
    let members = members_view c.in_ok-object.field-0.members in
    narrowed (λ (ps : List (Bor (List ℕ) × Bor (List ℕ))). members ≡ text_members ps) (DecodesToPairs Strict value)
    (λ ps decoded. object_pairs value members ps c.in_ok-object.ensures.members decoded) c.texts.result c.texts.ensures.refused

-- no object, and no array of pairs
pub returns-clause-refused : goal.returns-clause-refused
returns-clause-refused c =
    let value = view c.args.reader.now.value in
    narrowed (λ (ps : List (Bor (List ℕ) × Bor (List ℕ))). IsList IsPair value ps × IsTrue (list_all (λ p. true) ps)) (DecodesToPairs Strict value)
    (λ ps decoded. (array_pairs value ps (sym c.is_object.ensures ∙ c.if-is_object.false) decoded, all_sure ps)) c.list.result c.list.ensures.refused
