-- Receivers: which names the receivers of a configuration have, and where they are.
use Rattle.std.specs.Prelude.{◌≡◌, ℕ, Bool, List, map, Option, String}
use Rattle.std.specs.HashMap.{HashMap, get_by_text}
use Rattle.std.specs.List.{list_any, position_from}
use Rattle.std.specs.Str.{bytes_eq}
use Rattle.am_alerts.specs.Labels.{has_text_twice}
use Rattle.am_model.specs.declared.config.Receiver.{Receiver}

-- whether there is a receiver of this name
abbrev pub has_receiver : List Receiver → List ℕ → Bool
has_receiver receivers name = list_any (λ r. bytes_eq r.name name) receivers

-- whether two receivers have one name
abbrev pub has_receiver_twice : List Receiver → Bool
has_receiver_twice receivers = has_text_twice (map (λ r. r.name) receivers)

-- the place of the first of these receivers that has a name, where the list begins at a place
abbrev pub place_from : ℕ → List Receiver → List ℕ → Option ℕ
place_from first receivers name = position_from (λ r. bytes_eq r.name name) first receivers

-- a map has the first place of each name of these receivers
abbrev pub ArePlaced : {Y S : Type 0} → ℕ → List Receiver → HashMap (String Y) ℕ S → Type 0
ArePlaced first receivers places = (name : List ℕ) → get_by_text places name ≡ place_from first receivers name
