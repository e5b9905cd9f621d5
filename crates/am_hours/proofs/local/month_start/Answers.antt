use Rattle.std.proofs.Common.{◌≡◌, ℤ, pos, ap, sym, ◌∙◌, subst, w8, w16, FitsSigned}
use Rattle.std.proofs.lemmas.Int.{to_z-of_z}
use Rattle.jiff.specs.Types.{Date}
use Rattle.jiff_core.specs.Time.{time_nanos}
use Rattle.am_hours.proofs.Seconds.{month_start-made}
use Rattle.am_hours.proofs.local.month_start.Goals as goal

pub returns-in-Ok-clause-value : goal.returns-in-Ok-clause-value
returns-in-Ok-clause-value c =
    let of = c.from_parts.ensures.date in
    let is = c.in-Ok.ensures.value in
    let a = c.in-Ok-Ok.ensures in
    let b = c.in-Ok-Ok.ensures' in
    let year : c.in-Ok.date.year ≡ pos c.args.year =
    is.0 ∙ to_z-of_z w16 c.in-Ok-Ok.year (subst (λ (z : ℤ). FitsSigned w16 z) (sym a.1) a.0) ∙ a.1 in
    let months : pos c.in-Ok.date.month ≡ pos c.args.month =
    is.1 ∙ to_z-of_z w8 c.in-Ok-Ok.month (subst (λ (z : ℤ). FitsSigned w8 z) (sym b.1) b.0) ∙ b.1 in
    let month : c.in-Ok.date.month ≡ c.args.month = cc in
    let days : pos c.in-Ok.date.day ≡ pos 1 = is.2 in
    let day : c.in-Ok.date.day ≡ 1 = cc in
    month_start-made c.from_parts.result (pos c.args.year) c.args.month c.local_seconds.result
    (ap (λ (d : Date). d.year) of ∙ year) (ap (λ (d : Date). d.month) of ∙ month) (ap (λ (d : Date). d.day) of ∙ day)
    (ap time_nanos c.from_parts.ensures.time) c.local_seconds.ensures.value c.local_seconds.ensures.refused c.local_seconds.ensures.succeeds
