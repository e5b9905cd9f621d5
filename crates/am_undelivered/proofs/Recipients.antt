-- Integrations that are added one after another.
use Rattle.std.proofs.Common.{◌≡◌, List, [], ◌∷◌, ◌++◌, refl}
use Rattle.am_undelivered.specs.declared.recipient.Recipient.{Recipient}
use Rattle.am_undelivered.specs.Spans.{with_recipient, with_recipients}

-- those of two lists
pub with_both : (all rs more : List Recipient) → with_recipients (with_recipients all rs) more ≡ with_recipients all (rs ++ more)
with_both all [] more = refl
with_both all (r ∷ rs) more = with_both (with_recipient all r) rs more
