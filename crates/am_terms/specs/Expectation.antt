-- Expectation: the words of reasons, and how many notices are as many as are expected.
use Rattle.std.specs.Prelude.{ℕ, Bool, ◌==◌, nat_le, find, List, [], ◌∷◌, Option, codes}
use Rattle.std.specs.Str.{bytes_eq}
use Rattle.am_terms.specs.declared.expectation.Amount.{Amount}
use Rattle.am_terms.specs.declared.expectation.Amount.TheVariants.{AtLeastOne, Exactly, AtMost}
use Rattle.am_terms.specs.declared.expectation.SentReason.{SentReason}
use Rattle.am_terms.specs.declared.expectation.SentReason.TheVariants.{FirstNotice, LogEntryExpired, NewAlert, AllResolved}
use Rattle.am_terms.specs.declared.expectation.SentReason.TheVariants.{NewlyResolved, Repeat}

-- the words of a reason that is wanted
abbrev pub wanted_words : SentReason → List ℕ
wanted_words FirstNotice = codes "first notice"
wanted_words LogEntryExpired = codes "log entry expired"
wanted_words NewAlert = codes "new alert"
wanted_words AllResolved = codes "all resolved"
wanted_words NewlyResolved = codes "newly resolved"
wanted_words Repeat = codes "repeat"

-- the reasons for which a notice is sent
abbrev pub notifying : List SentReason
notifying = FirstNotice ∷ LogEntryExpired ∷ NewAlert ∷ AllResolved ∷ NewlyResolved ∷ Repeat ∷ []

-- the reason for which a notice is sent, by its words
abbrev pub reason_named : List ℕ → Option SentReason
reason_named words = find (λ reason. bytes_eq words (wanted_words reason)) notifying

-- whether so many are as many as are expected
abbrev pub allows : Amount → ℕ → Bool
allows AtLeastOne count = nat_le 1 count
allows (Exactly wanted) count = count == wanted
allows (AtMost most) count = nat_le count most
