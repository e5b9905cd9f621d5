use Rattle.std.proofs.Common.{None, ◌≡◌, ◌∙◌, ◌&&◌, Bool, true, false, ap, subst, sym}
use Rattle.serde_json.specs.View.{view}
use Rattle.am_model.specs.Config.{config_fault}
use Rattle.am_model.specs.declared.config.Config.{Config}
use Rattle.am_json.specs.Configured.{are_at_most, has_few_parts, limits_in}
use Rattle.am_json.specs.declared.reader.Mode.{Mode}
use Rattle.am_json.proofs.Made.{made_well, unmade}
use Rattle.am_json.proofs.Members.{first, second}
use Rattle.am_json.proofs.Once.{one_parts}
use Rattle.am_json.proofs.config.read_config.Goals as goal

differs : (b : Bool) → b ≡ false → b ≡ true → ⊥
differs true isnt is = absurd (cc)
differs false isnt is = absurd (cc)

both : (a b : Bool) → a ≡ true → b ≡ true → (a && b) ≡ true
both true b is also = also
both false b is also = absurd (cc)

-- an allowed configuration that is no larger than the mode allows
pub returns-in-Ok-clause-decoded : goal.returns-in-Ok-clause-decoded
returns-in-Ok-clause-decoded c =
    let config : Config = c.in_ok-config.config in
    let mode : Mode = c.args.reader.now.mode in
    let sound : config_fault config ≡ None = made_well (config_fault config) tt c.in-Ok.field-0 c.in-Ok.ensures.fault in
    let kept : (are_at_most (limits_in mode) config.limits && has_few_parts mode config) ≡ true =
    ap (λ (m : Mode). are_at_most (limits_in m) config.limits && has_few_parts m config) (sym c.mode.ensures) ∙ sym c.keeps_bounds.ensures ∙ c.if-keeps_bounds.true in
    record {
      parts = c.in_ok-config.ensures.decoded;
      sound = sound;
      within = first (are_at_most (limits_in mode) config.limits) (has_few_parts mode config) kept;
      few = second (are_at_most (limits_in mode) config.limits) (has_few_parts mode config) kept;
    }

-- a configuration that is larger than the mode allows
pub returns-in-Ok-2-clause-refused : goal.returns-in-Ok-2-clause-refused
returns-in-Ok-2-clause-refused c refusal x decoded =
    let mode : Mode = c.args.reader.now.mode in
    let config : Config = c.in_ok-config.config in
    let same : x ≡ config = one_parts mode (view c.args.reader.now.value) x config decoded.1 decoded.0.parts c.in_ok-config.ensures.decoded in
    differs (are_at_most (limits_in mode) config.limits && has_few_parts mode config)
    (ap (λ (m : Mode). are_at_most (limits_in m) config.limits && has_few_parts m config) (sym c.mode.ensures) ∙ sym c.keeps_bounds.ensures ∙ c.if-keeps_bounds.false)
    (both (are_at_most (limits_in mode) config.limits) (has_few_parts mode config)
    (subst (λ (k : Config). are_at_most (limits_in mode) k.limits ≡ true) same decoded.0.within)
    (subst (λ (k : Config). has_few_parts mode k ≡ true) same decoded.0.few))

-- a configuration that no dispatcher may have
pub returns-in-Err-clause-refused : goal.returns-in-Err-clause-refused
returns-in-Err-clause-refused c refusal x decoded =
    let config = c.in_ok-config.config in
    let same : x ≡ config = one_parts c.args.reader.now.mode (view c.args.reader.now.value) x config decoded.1 decoded.0.parts c.in_ok-config.ensures.decoded in
    unmade (config_fault config) tt _ c.in-Err.ensures.fault (ap config_fault (sym same) ∙ decoded.0.sound)
