use Rattle.std.proofs.Common.{◌≡◌, ℕ, List, [], ◌++◌, Ok, refl, sym, ap, ◌∙◌, subst}
use Rattle.std.specs.Prelude.{Result}
use Rattle.std.specs.Option.{option_map}
use Rattle.am_alerts.proofs.Faults.{some_from_err}
use Rattle.am_alerts.specs.Fault.{ok_unless}
use Rattle.am_model.specs.declared.config.Config.{Config}
use Rattle.am_model.specs.declared.fault.BoardFault.{BoardFault}
use Rattle.am_model.specs.declared.fault.BoardFault.TheVariants.{BadConfig}
use Rattle.am_model.specs.declared.record.Record.{Record}
use Rattle.am_model.specs.Config.{config_fault}
use Rattle.am_board.specs.GroupNameCache.{AreKept}
use Rattle.am_board.specs.History.{BoardData, opening}
use Rattle.am_board.proofs.lemmas.invariant.GroupNameCache.{kept_none}
use Rattle.am_board.proofs.lemmas.invariant.Sound.{new_sound}
use Rattle.am_board.proofs.lemmas.invariant.Staying.{no_fault}
use Rattle.am_board.proofs.board.Board.seeded.Goals as goal

opened : (config : Config) (id : ℕ) (past kept : List Record) → past ≡ [] → kept ≡ []
    → ◌≡◌ {A = Result BoardData BoardFault}
    (Ok (record { config = config; id = id; handed = past; history = past ++ kept })) (Ok (opening config id))
opened config id past kept nothing none = λ i. Ok (record { config = config; id = id; handed = nothing i; history = nothing i ++ none i })

pub returns-in-Err : goal.returns-in-Err
returns-in-Err c =
    sym (ap (λ o. ok_unless (option_map BadConfig o) (opening c.args.config c.args.id))
    (some_from_err (config_fault c.args.config) tt c.in-Err.fault c.in-Err.ensures.fault))

pub invariant_of-result : goal.invariant_of-result
invariant_of-result c =
    let known = c.in_ok-new-in-Ok.field-0.known.items in
    new_sound _ (c.new-in-Ok.ensures.nothing c.args.config.rules known)
    (subst (AreKept c.args.config known) (sym c.new-in-Ok-2.ensures) (kept_none c.args.config known))
    (no_fault (config_fault c.args.config) tt tt c.in-Ok.ensures.fault) c.in-Ok.ensures.few c.in-Ok.ensures.limits
    c.in_ok-new-in-Ok.ensures refl c.new-in-Ok-3.ensures

pub returns-in_ok-new-in-Ok : goal.returns-in_ok-new-in-Ok
returns-in_ok-new-in-Ok c =
    let none = no_fault (config_fault c.args.config) tt tt c.in-Ok.ensures.fault in
    opened c.args.config c.args.id c.new-in-Ok-3.result.items c.in_ok-new-in-Ok.field-0.history.items
    c.new-in-Ok-3.ensures c.in_ok-new-in-Ok.ensures.history
    ∙ sym (ap (λ o. ok_unless (option_map BadConfig o) (opening c.args.config c.args.id)) none)
