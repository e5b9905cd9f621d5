-- Label sets and groups as texts.
use Rattle.std.specs.Prelude.{◌≡◌, ℕ, List, [], ◌∷◌, ◌++◌, length, take, codes, ◌==◌, if◌then◌else◌}
use Rattle.std.specs.List.{flat_map, join_by}
use Rattle.am_alerts.specs.declared.labels.Label.{Label}

-- a byte of a value: `\` as `\\`, `"` as `\"` and a line feed as `\n`, each other byte as it is
abbrev pub escape : ℕ → List ℕ
escape b =
    if b == 92 then 92 ∷ 92 ∷ []
    else (if b == 34 then 92 ∷ 34 ∷ []
    else (if b == 10 then 92 ∷ 110 ∷ [] else b ∷ []))

-- the bytes of a value, escaped
abbrev pub escaped : List ℕ → List ℕ
escaped value = flat_map escape value

-- a label: its name, `="`, its value and `"`
abbrev pub label_text : Label → List ℕ
label_text l = l.name ++ codes "=\"" ++ escaped l.value ++ codes "\""

-- a label set: `{`, its labels with `,` between them, and `}`
abbrev pub label_set_text : List Label → List ℕ
label_set_text labels = codes "{" ++ join_by label_text (codes ",") labels ++ codes "}"

-- the text begins with the other
abbrev pub BeginsWith : List ℕ → List ℕ → Type 0
BeginsWith text start = take (length start) text ≡ start
