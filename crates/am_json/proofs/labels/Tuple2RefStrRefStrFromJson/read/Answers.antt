use Rattle.std.proofs.Common.{◌≡◌, ℕ, List, Option, Some, None, Bor, true, ap}
use Rattle.std.specs.Prelude.{IsTrue}
use Rattle.serde_json.specs.Data.{Data, Items, no_items, item, string}
use Rattle.serde_json.specs.Find.{as_array, as_str}
use Rattle.serde_json.specs.View.{view}
use Rattle.am_json.specs.Configured.{IsPair}
use Rattle.am_json.proofs.Decoding.{handed_on}
use Rattle.am_json.proofs.labels.Tuple2RefStrRefStrFromJson.read.Goals as goal

-- what is never refused
abbrev Decodes : Data → Bor (List ℕ) × Bor (List ℕ) → Type 0
Decodes value pair = IsPair value pair × IsTrue true

-- the items of a pair of texts are texts
no_first : (found : Option Items) (a b : Data) (s t : List ℕ) → found ≡ Some (item a (item b no_items)) → found ≡ Some (item (string s) (item (string t) no_items))
    → None ≡ as_str a → ⊥
no_first found a b s t is decoded none =
    let same : a ≡ string s = cc in
    absurd (cc (ap as_str same))

no_second : (found : Option Items) (a b : Data) (s t : List ℕ) → found ≡ Some (item a (item b no_items)) → found ≡ Some (item (string s) (item (string t) no_items))
    → None ≡ as_str b → ⊥
no_second found a b s t is decoded none =
    let same : b ≡ string t = cc in
    absurd (cc (ap as_str same))

pub returns-in_err-name-clause-refused : goal.returns-in_err-name-clause-refused
returns-in_err-name-clause-refused c =
    handed_on (Decodes (view c.args.reader.now.value)) c.from_residual.result c.in_err-name.field-0.0 c.from_residual.ensures.1
    (λ refusal pair decoded. c.in_err-name.ensures.no_pair (string pair.0.now) (string pair.1.now) decoded.0)

pub returns-in_err-text-clause-refused : goal.returns-in_err-text-clause-refused
returns-in_err-text-clause-refused c =
    let value = view c.args.reader.now.value in
    handed_on (Decodes value) c.from_residual-in_err-text.result c.in_err-text.field-0.0 c.from_residual-in_err-text.ensures.1
    (λ refusal pair decoded. no_first (as_array value) _ _ pair.0.now pair.1.now c.in_ok-name.ensures.items decoded.0 c.in_err-text.ensures.text)

pub returns-in_err-text-2-clause-refused : goal.returns-in_err-text-2-clause-refused
returns-in_err-text-2-clause-refused c =
    let value = view c.args.reader.now.value in
    handed_on (Decodes value) c.from_residual-in_err-text-2.result c.in_err-text-2.field-0.0 c.from_residual-in_err-text-2.ensures.1
    (λ refusal pair decoded. no_second (as_array value) _ _ pair.0.now pair.1.now c.in_ok-name.ensures.items decoded.0 c.in_err-text-2.ensures.text)
