-- When a group that wasn't begun yet is due: no later than it was, and no later than its wait after it was made.
use Rattle.std.proofs.Common.{◌≡◌, ℕ, ◌+◌, ◌≤◌, false, not, ◌&&◌, nat_lt, min, true, Option, Some, None, List, [], ◌∷◌, arith, if◌then◌else◌}
use Rattle.am_alerts.specs.AlertData.{AlertData}
use Rattle.am_model.specs.declared.config.Config.{Config}
use Rattle.am_model.specs.declared.group.GroupName.{GroupName}
use Rattle.am_model.specs.declared.record.Record.{Record}
use Rattle.am_model.specs.Insert.{new_group, due_with, wait_of}
use Rattle.am_model.specs.State.{GroupState}
use Rattle.am_model.specs.look_back.Past.{time_at}
use Rattle.am_model.proofs.looking_back.Pasts.{IsLegalPast}
use Rattle.am_paging.proofs.GroupSteps.{Has, IsKept, group_after, group-step}

-- a group that wasn't flushed is due by a time
abbrev pub IsDue : ℕ → GroupState → Type 0
IsDue by g = g.flushed ≡ false → g.due ≤ by

-- a group that is there and wasn't flushed is
abbrev pub IsDueBy : ℕ → Option GroupState → Type 0
IsDueBy by o = Has (IsDue by) o

pub due-later : (by later : ℕ) → by ≤ later → (o : Option GroupState) → IsDueBy by o → IsDueBy later o
due-later by later more None due = tt
due-later by later more (Some g) due = λ e. let now : g.due ≤ by = due e in omega (arith, now, more)

-- an alert that is put in makes it due no later
due_with-least : (config : Config) (t : ℕ) (a : AlertData) (g : GroupState) → due_with config t a g ≤ g.due
due_with-least config t a g =
    elim (not g.flushed && nat_lt (a.starts + wait_of config g.name) t) as (λ b. (if b then min g.due t else g.due) ≤ g.due) [
      | true ↦ omega arith
      | false ↦ omega arith
    ]

due-kept : (config : Config) (by t : ℕ) → IsKept config (IsDue by) t
due-kept config by t =
    record {
      put = λ m g due e. let least = due_with-least config t m.alert g in let now : g.due ≤ by = due e in omega (arith, least, now);
      begun = λ g e. absurd (cc);
      left = λ g ms due. due;
    }

module _ (config : Config) (id : ℕ) (name : GroupName) where
  -- it is due by a time after a record by which it was due before, if it was there
  pub due-step : (by : ℕ) (r : Record) (past : List Record) → IsLegalPast config id (r ∷ past) → IsDueBy by (group_after config id name past) → (group_after config id name past ≡ None → time_at (r ∷ past) + wait_of config name ≤ by)
      → IsDueBy by (group_after config id name (r ∷ past))
  due-step by r past legal due made =
      let t : ℕ = time_at (r ∷ past) in
      group-step config id name (IsDue by) r past legal (due-kept config by t) due
      (λ none m e. let least = due_with-least config t m.alert (new_group config t name) in let most : t + wait_of config name ≤ by = made none in omega (arith, least, most))

  -- and at any time it is due within its wait, if it wasn't begun
  pub due-within : (past : List Record) → IsLegalPast config id past → IsDueBy (time_at past + wait_of config name) (group_after config id name past)
  due-within [] legal = tt
  due-within (r ∷ past) legal =
      let by : ℕ = time_at (r ∷ past) + wait_of config name in
      due-step by r past legal (due-later (time_at past + wait_of config name) by (omega arith) (group_after config id name past) (due-within past legal.1)) (λ none. omega arith)
