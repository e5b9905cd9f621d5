use Rattle.std.proofs.Common.{ℕ, codes}
use Rattle.serde_json.specs.Find.{get_member}
use Rattle.serde_json.specs.View.{members_view, view}
use Rattle.am_json.proofs.Decoding.{found, narrowed}
use Rattle.am_plans.proofs.Decodings.{found_none}
use Rattle.am_plans.specs.Expected.{IsAt, IsFromTo, IsSpanFrom}
use Rattle.am_plans.proofs.expectation.span.read_times.Goals as goal

pub returns-in-None-clause-refused : goal.returns-in-None-clause-refused
returns-in-None-clause-refused c =
    let members = members_view c.args.item.now.members in
    narrowed (λ (s : ℕ × ℕ). IsFromTo c.args.until c.args.last members s.0 s.1) (λ (s : ℕ × ℕ). IsSpanFrom c.args.until c.args.last members s.0 s.1)
    (λ s decoded. found_none (IsFromTo c.args.until c.args.last members s.0 s.1) (λ at. IsAt members at s.0 s.1) (get_member (codes "at") members) c.in-None.ensures.value decoded)
    c.read_from_to.result c.read_from_to.ensures.refused

pub returns-in-Some-clause-refused : goal.returns-in-Some-clause-refused
returns-in-Some-clause-refused c =
    let members = members_view c.args.item.now.members in
    let at = view c.in-Some.at.value in
    narrowed (λ (s : ℕ × ℕ). IsAt members at s.0 s.1) (λ (s : ℕ × ℕ). IsSpanFrom c.args.until c.args.last members s.0 s.1)
    (λ s decoded. found (IsFromTo c.args.until c.args.last members s.0 s.1) (λ a. IsAt members a s.0 s.1) at (get_member (codes "at") members) c.in-Some.ensures.value decoded)
    c.read_at.result c.read_at.ensures.refused
