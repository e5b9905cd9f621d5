-- What the one member of a check says, by its name.
use Rattle.std.proofs.Common.{◌≡◌, ◌∙◌, ℕ, List, [], ◌∷◌, Some, None, ap, arith, codes, length, refl, subst, sym}
use Rattle.std.proofs.lemmas.Bool.Decides.{not_from_Decides}
use Rattle.std.proofs.lemmas.Slice.Eq.{bytes_eq-Decides}
use Rattle.std.specs.Prelude.{IsSomeAnd, IsTrue, false}
use Rattle.std.specs.Str.{bytes_eq}
use Rattle.serde_json.specs.Data.{Data, Members, no_members, member}
use Rattle.serde_json.specs.Find.{as_object}
use Rattle.am_alerts.specs.Matcher.{compare_texts}
use Rattle.am_alerts.specs.declared.labels.Label.{Label}
use Rattle.am_alerts.specs.declared.matcher.MatcherParts.{MatcherParts}
use Rattle.am_json.proofs.Once.{one_matcher_list}
use Rattle.am_json.specs.Configured.{DecodesToLabels, DecodesToMatcher}
use Rattle.am_json.specs.Decoding.{IsList}
use Rattle.am_json.specs.Read.{Excludes, IsRefusedBy}
use Rattle.am_json.specs.declared.fault.InputFault.{InputFault}
use Rattle.am_json.specs.declared.reader.Mode.{Mode}
use Rattle.am_mute.specs.Silence.{silence_fault, silence_of}
use Rattle.am_protocol.specs.declared.check.LinePart.{LinePart}
use Rattle.am_protocol.specs.declared.check.LinePart.TheVariants as part
use Rattle.am_protocol.specs.Call.{count_fault}
use Rattle.am_protocol.specs.Check.{AreMatchersOf, DecodesToPart, HasOne, part_compares_texts}

-- a part that is never refused
abbrev pub IsSurePart : Mode → Data → LinePart → Type 0
IsSurePart mode value x = DecodesToPart mode value x × IsTrue (part_compares_texts x)

-- the name of the member that has a part
abbrev pub part_name : LinePart → List ℕ
part_name (part.Matchers x) = codes "matchers"
part_name (part.Labels x) = codes "labels"
part_name (part.Config x) = codes "config"
part_name (part.Alertmanager x) = codes "alertmanager"
part_name (part.Open x) = codes "open"

-- the one member of a value
abbrev pub IsOnly : List ℕ → Data → Data → Type 0
IsOnly name there value = as_object value ≡ Some (member name there no_members)

there : (mode : Mode) (value : Data) (x : LinePart) → DecodesToPart mode value x → (it : Data) × IsOnly (part_name x) it value
there mode value (part.Matchers x) is = (is.there, is.object)
there mode value (part.Labels x) is = (is.there, is.object)
there mode value (part.Config x) is = (is.there, is.object)
there mode value (part.Alertmanager x) is = (is.there, is.object)
there mode value (part.Open x) is = (is.there, is.object)

-- a value that is no object has no part
pub no_part : (mode : Mode) (value : Data) (x : LinePart) → None ≡ as_object value → IsSurePart mode value x → ⊥
no_part mode value x none is = let found : IsOnly (part_name x) (there mode value x is.0).0 value = (there mode value x is.0).1 in absurd (cc)

-- nor has one with no member, or with several
pub one_part : (mode : Mode) (value : Data) (ms : Members) (f : InputFault) (x : LinePart) → Some ms ≡ as_object value
    → IsSomeAnd (count_fault ms) (λ kind. IsRefusedBy kind f) → IsSurePart mode value x → ⊥
one_part mode value ms f x object by is =
    let found = there mode value x is.0 in
    let one : ms ≡ member (part_name x) found.0 no_members = cc (object, found.1) in
    subst (λ (m : Members). IsSomeAnd (count_fault m) (λ kind. IsRefusedBy kind f)) one by

-- ---- the value of the one member, which is read with its own reader

-- the part that it decodes to
pub has_one : (Decodes : Mode → Data → Type 0) (mode e : Mode) (value v w : Data) (text name : List ℕ)
    → IsOnly name v value → name ≡ text → e ≡ mode → w ≡ v → Decodes e w → HasOne text (Decodes mode) value
has_one Decodes mode e value v w text name object named same equal decoded =
    record {
      there = v;
      object = subst (λ (n : List ℕ). IsOnly n v value) named object;
      decodes = subst (λ (d : Data). Decodes mode d) equal (subst (λ (m : Mode). Decodes m w) same decoded);
    }

other : (a b : List ℕ) (v w value : Data) → IsOnly a v value → IsOnly b w value → bytes_eq a b ≡ false → ⊥
other a b v w value is also differ =
    let one : Some (member a v no_members) ≡ Some (member b w no_members) = sym is ∙ also in
    let same : a ≡ b = cc in
    not_from_Decides (bytes_eq a b) (bytes_eq-Decides a b) differ same

same_there : (a : List ℕ) (v w value : Data) → IsOnly a v value → IsOnly a w value → w ≡ v
same_there a v w value is also = let one : Some (member a v no_members) ≡ Some (member a w no_members) = sym is ∙ also in cc

of_labels : (mode : Mode) (value v : Data) (x : LinePart) → IsOnly (codes "labels") v value → IsSurePart mode value x
    → (ls : List Label) × DecodesToLabels mode v ls
of_labels mode value v (part.Labels x) object is =
    (x, subst (λ (d : Data). DecodesToLabels mode d x) (same_there (codes "labels") v is.0.there value object is.0.object) is.0.decodes)
of_labels mode value v (part.Matchers x) object is = absurd (other (codes "labels") (codes "matchers") v is.0.there value object is.0.object refl)
of_labels mode value v (part.Config x) object is = absurd (other (codes "labels") (codes "config") v is.0.there value object is.0.object refl)
of_labels mode value v (part.Alertmanager x) object is = absurd (other (codes "labels") (codes "alertmanager") v is.0.there value object is.0.object refl)
of_labels mode value v (part.Open x) object is = absurd (other (codes "labels") (codes "open") v is.0.there value object is.0.object refl)

-- labels that are refused
pub no_labels : (mode e : Mode) (value v w : Data) (name : List ℕ) (fault : InputFault)
    → IsOnly name v value → name ≡ codes "labels" → e ≡ mode → w ≡ v → Excludes (DecodesToLabels e w) fault → Excludes (IsSurePart mode value) fault
no_labels mode e value v w name fault object named same equal none = λ refusal x is.
    let one = of_labels mode value v x (subst (λ (n : List ℕ). IsOnly n v value) named object) is in
    none refusal one.0
    (subst (λ (m : Mode). DecodesToLabels m w one.0) (sym same) (subst (λ (d : Data). DecodesToLabels mode d one.0) (sym equal) one.1))

-- ---- the matchers of a silence

no_matchers : (ms : List MatcherParts) → length ms ≡ 0 → silence_fault (silence_of 0 ms 0 0) ≡ None → ⊥
no_matchers [] none sound = absurd (cc)
no_matchers (m ∷ ms) none sound = absurd (omega (arith, none))

-- a list without matchers
pub not_none : (mode : Mode) (value : Data) (ms x : List MatcherParts) → IsList (DecodesToMatcher mode) value ms → length ms ≡ 0 → AreMatchersOf mode value x
    → IsTrue (compare_texts x) → ⊥
not_none mode value ms x listed none are compare =
    let same : x ≡ ms = one_matcher_list mode value x ms compare are.0 listed in
    no_matchers x (ap length same ∙ none) are.1
