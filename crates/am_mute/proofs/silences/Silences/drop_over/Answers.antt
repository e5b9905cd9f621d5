use Rattle.std.proofs.Common.{◌≡◌, ◌+◌, not, filter, count_by, length, refl, ap, ◌∙◌, rules, arith}
use Rattle.std.proofs.lemmas.Fn.{filter_same}
use Rattle.std.proofs.lemmas.List.Filters.{length-filter_both}
use Rattle.std.proofs.lemmas.List.Sums.{length-filter}
use Rattle.am_mute.specs.Silence.{is_over}
use Rattle.am_mute.specs.Silences.{SilenceList}
use Rattle.am_mute.proofs.silences.Silences.drop_over.Goals as goal
use Rattle.am_mute.proofs.silences.Silences.drop_over.Goals.{After-retain}

stay : (c : After-retain) → c.retain.new.self.items ≡ filter (λ s. not (is_over c.args.t s)) c.self.inside.silences.items
stay c = filter_same _ _ _ (λ x b f' k. search rules) _ _ c.retain.ensures.filtered

pub returns-clause-items : goal.returns-clause-items
returns-clause-items c =
    stay ((goal.at.returns-clause-items c).After-retain) ∙ ap (λ (s : SilenceList). filter (λ x. not (is_over c.args.t x)) s.items) c.self.view_is

pub returns-clause-count : goal.returns-clause-count
returns-clause-count c =
    let all = c.self.inside.silences.items in
    let left = ap length (stay ((goal.at.returns-clause-count c).After-retain)) in
    let parts : length (filter (is_over c.args.t) all) + length (filter (λ s. not (is_over c.args.t s)) all) ≡ length all =
    length-filter_both (is_over c.args.t) (λ s. not (is_over c.args.t s)) (λ s. refl) all in
    let gone = length-filter (is_over c.args.t) all in
    let fact = ap (λ (s : SilenceList). count_by (is_over c.args.t) s.items) c.self.view_is in
    omega (arith, left, parts, gone, fact)
