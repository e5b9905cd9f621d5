use Rattle.std.proofs.Common.{◌≡◌, ◌<◌, ℕ, List, Option, Some, None, String, MatchOption, codes, subst}
use Rattle.std.specs.Prelude.{IsSomeAnd}
use Rattle.std.specs.declared.alloc.Global.{Global}
use Rattle.serde_json.specs.Data.{Data, Members}
use Rattle.serde_json.specs.Find.{get_member}
use Rattle.serde_json.specs.View.{members_view}
use Rattle.serde_json.specs.declared.value.Value.{Value}
use Rattle.am_json.proofs.Decoding.{handed_on, missing}
use Rattle.am_json.specs.Decoding.{Has, HasIf, HasOr, IsDuration}
use Rattle.am_plans.specs.Decoding.{DecodesToSpan}
use Rattle.am_plans.proofs.silence.read_span.Goals as goal

abbrev Decodes : Members → ℕ × ℕ → Type 0
Decodes members span = HasOr IsDuration 0 (codes "from") members span.0 × Has IsDuration (codes "to") members span.1 × (span.0 < span.1)

ends : (found : Option Data) (to : ℕ) → MatchOption found ⊥ (λ v. IsDuration v to) → MatchOption found (Some to ≡ None) (λ v. IsSomeAnd (Some to) (IsDuration v))
ends None to decoded = absurd decoded
ends (Some v) to decoded = decoded

-- as a span that has an end
as_span : (members : List (String Global × Value)) (x : ℕ × ℕ) → Decodes (members_view members) x → DecodesToSpan (members_view members) (record { from = x.0; to = Some x.1 })
as_span members x decoded = record { from = decoded.0; to = ends (get_member (codes "to") (members_view members)) x.1 decoded.1; later = decoded.2 }

-- no end is given
no_end : (found : Option Data) (to : ℕ) → MatchOption found (◌≡◌ {A = Option ℕ} None None) (λ v. IsSomeAnd None (IsDuration v)) → MatchOption found ⊥ (λ v. IsDuration v to) → ⊥
no_end None to none decoded = decoded
no_end (Some v) to none decoded = none

pub returns-in_err-from-clause-refused : goal.returns-in_err-from-clause-refused
returns-in_err-from-clause-refused c =
    handed_on (Decodes (members_view c.args.silence.now.members)) c.from_residual.result c.in_err-from.field-0.0 c.from_residual.ensures.1
    (λ refusal x decoded. c.in_err-from.ensures.refused refusal (record { from = x.0; to = Some x.1 }) (as_span c.args.silence.now.members x decoded))

pub returns-in_err-required-in-None-clause-refused : goal.returns-in_err-required-in-None-clause-refused
returns-in_err-required-in-None-clause-refused c =
    handed_on (Decodes (members_view c.args.silence.now.members)) c.from_residual-in_err-required-in-None.result c.in_err-required-in-None.field-0.0 c.from_residual-in_err-required-in-None.ensures.1
    (λ refusal x decoded. missing (λ v. IsDuration v x.1) (get_member (codes "to") (members_view c.args.silence.now.members)) c.in_err-required-in-None.ensures.value decoded.1)

pub returns-in_ok-required-in-None-clause-refused : goal.returns-in_ok-required-in-None-clause-refused
returns-in_ok-required-in-None-clause-refused c refusal x decoded =
    no_end (get_member (codes "to") (members_view c.args.silence.now.members)) x.1 (subst (λ (to : Option ℕ). HasIf IsDuration (codes "to") (members_view c.args.silence.now.members) to) c.in-None.is c.in_ok-from.ensures.decoded.to) decoded.1
