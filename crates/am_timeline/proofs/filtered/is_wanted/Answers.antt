use Rattle.std.proofs.Common.{◌≡◌, ◌∙◌, ◌==◌, ◌&&◌, ◌||◌, Bool, true, false, ap, sym, length}
use Rattle.std.specs.HashSet.{contains}
use Rattle.am_model.specs.State.{same_name}
use Rattle.am_timeline.specs.Filtered.{has_match, is_of}
use Rattle.am_timeline.specs.Filtered.{inserted_in}
use Rattle.am_timeline.proofs.Filters.{found-is}
use Rattle.am_timeline.proofs.filtered.is_wanted.Goals as goal

pub returns-then-is_of : goal.returns-then-is_of
returns-then-is_of c =
    let playback = c.args.playback.now in
    let wanted = c.args.wanted.now in
    let name = c.args.name.now in
    let matches = has_match playback.config (inserted_in playback.history) wanted.matchers name in
    let here : is_of playback.config wanted name ≡ true = sym c.is_of.ensures ∙ c.if-is_of.true in
    c.is_found.ensures
    ∙ found-is (length wanted.matchers == 0) (contains same_name c.args.groups.now name) matches (λ e. c.requires e name)
    ∙ sym (ap (λ (b : Bool). b && ((length wanted.matchers == 0) || matches)) here)

pub returns : goal.returns
returns c =
    let playback = c.args.playback.now in
    let wanted = c.args.wanted.now in
    let name = c.args.name.now in
    let matches = has_match playback.config (inserted_in playback.history) wanted.matchers name in
    let here : is_of playback.config wanted name ≡ false = sym c.is_of.ensures ∙ c.if-is_of.false in
    sym (ap (λ (b : Bool). b && ((length wanted.matchers == 0) || matches)) here)
