use Rattle.std.proofs.Common.{◌≡◌, ◌∙◌, Option, Some, None, MatchOption, ap, codes, option_map, subst, sym}
use Rattle.std.specs.Option.{option_copied}
use Rattle.std.specs.Prelude.{IsSome}
use Rattle.serde_json.specs.Data.{Data}
use Rattle.serde_json.specs.Find.{get_member}
use Rattle.serde_json.specs.View.{members_view, view}
use Rattle.am_input.proofs.Clocked.{under_in, under_of}
use Rattle.am_input.proofs.Refusals.{passed_on}
use Rattle.am_input.specs.Clocks.{AreAny, AreClocksOf, AreGiven}
use Rattle.am_input.specs.Configured.{DecodesPlainly, HasTheirs, IsConfigFor, form_in}
use Rattle.am_input.proofs.configured.read_configured.Goals as goal

pub returns-in_err-hours-clause-refused : goal.returns-in_err-hours-clause-refused
returns-in_err-hours-clause-refused g c own ours = absurd (cc (c.in_err-hours.ensures.in_story own ours))

pub returns-in_err-read_in_story-in-None-clause-refused : goal.returns-in_err-read_in_story-in-None-clause-refused
returns-in_err-read_in_story-in-None-clause-refused g c own ours =
    let Decodes = DecodesPlainly c.args.top.now.mode (members_view c.args.top.now.members) in
    passed_on Decodes Decodes (λ config. config) c.from_residual-in_err-read_in_story-in-None.result c.in_err-read_in_story-in-None.field-0.0
    c.from_residual-in_err-read_in_story-in-None.ensures.1 (λ config decoded. (c.in_err-read_in_story-in-None.ensures.refused ours, decoded))

-- the clocks with which it was read are those of the story
pub returns-in-None-clause-decoded : goal.returns-in-None-clause-decoded
returns-in-None-clause-decoded g c end ends =
    let members = members_view c.args.top.now.members in
    let mode = c.args.top.now.mode in
    let Clocks = AreClocksOf end members in
    let hours = option_copied c.as_ref.result in
    let config = c.in_ok-read_in_story-in-None.field-0.config in
    let none : None ≡ option_map (λ v. view v.now) c.args.given = ap (option_map (λ v. view v.now)) (sym c.in-None.is) in
    let clocks : IsSome (get_member (codes "alertmanager") members) → Clocks c.in_ok-hours.hours =
    subst (λ (o : Option Data). MatchOption o (IsSome (get_member (codes "alertmanager") members) → Clocks c.in_ok-hours.hours)
    (λ file. HasTheirs (form_in file) file → Clocks c.in_ok-hours.hours)) (sym none) (c.in_ok-hours.ensures.clocks end ends) in
    subst (λ (o : Option Data). IsConfigFor Clocks o mode members config) none
    (under_in (AreGiven hours) Clocks mode members config (λ theirs h given. subst Clocks (sym (given ∙ c.as_ref.ensures.value)) (clocks theirs))
    c.in_ok-read_in_story-in-None.ensures.decoded)

pub returns-clause-decoded : goal.returns-clause-decoded
returns-clause-decoded g c end ends =
    let members = members_view c.args.top.now.members in
    let mode = c.args.top.now.mode in
    let Clocks = AreClocksOf end members in
    let hours = option_copied c.as_ref-in-Some.result in
    let config = c.in_ok-read_file-in-Some.field-0.config in
    let file = view c.in-Some.given.now in
    let some : Some file ≡ option_map (λ v. view v.now) c.args.given = ap (option_map (λ v. view v.now)) (sym c.in-Some.is) in
    let clocks : HasTheirs (form_in file) file → Clocks c.in_ok-hours.hours =
    subst (λ (o : Option Data). MatchOption o (IsSome (get_member (codes "alertmanager") members) → Clocks c.in_ok-hours.hours)
    (λ file. HasTheirs (form_in file) file → Clocks c.in_ok-hours.hours)) (sym some) (c.in_ok-hours.ensures.clocks end ends) in
    subst (λ (o : Option Data). IsConfigFor Clocks o mode members config) some
    (under_of (AreGiven hours) Clocks (form_in file) file config (λ theirs h given. subst Clocks (sym (given ∙ c.as_ref-in-Some.ensures.value)) (clocks theirs))
    c.in_ok-read_file-in-Some.ensures.decoded)

-- whichever they are, where the story has no end
pub returns-in-None-clause-unended : goal.returns-in-None-clause-unended
returns-in-None-clause-unended g c =
    let members = members_view c.args.top.now.members in
    let mode = c.args.top.now.mode in
    let config = c.in_ok-read_in_story-in-None.field-0.config in
    subst (λ (o : Option Data). IsConfigFor AreAny o mode members config) (ap (option_map (λ v. view v.now)) (sym c.in-None.is))
    (under_in (AreGiven (option_copied c.as_ref.result)) AreAny mode members config (λ theirs h given. tt) c.in_ok-read_in_story-in-None.ensures.decoded)

pub returns-clause-unended : goal.returns-clause-unended
returns-clause-unended g c =
    let members = members_view c.args.top.now.members in
    let mode = c.args.top.now.mode in
    let config = c.in_ok-read_file-in-Some.field-0.config in
    let file = view c.in-Some.given.now in
    subst (λ (o : Option Data). IsConfigFor AreAny o mode members config) (ap (option_map (λ v. view v.now)) (sym c.in-Some.is))
    (under_of (AreGiven (option_copied c.as_ref-in-Some.result)) AreAny (form_in file) file config (λ theirs h given. tt) c.in_ok-read_file-in-Some.ensures.decoded)
