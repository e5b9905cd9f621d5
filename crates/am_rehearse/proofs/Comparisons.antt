-- What follows for several dispatchers from what is said of each.
use Rattle.std.proofs.Common.{arith, ◌≡◌, ◌∙◌, ◌++◌, ◌∷◌, [], Bool, List, Option, ℕ, true, false, ap, append_assoc, length, map, refl, subst, sym}
use Rattle.std.specs.Prelude.{◌↔◌}
use Rattle.std.proofs.lemmas.Bool.{false≢true}
use Rattle.serde_json.specs.Data.{Data}
use Rattle.am_input.specs.Request.{times_from}
use Rattle.am_input.specs.declared.input.Overrides.{Overrides}
use Rattle.am_simulation.specs.declared.playing.PlayedPart.{PlayedPart}
use Rattle.am_rehearse.specs.Compared.{ComparesStory, IsComparison, IsPlayed, IsPushed, SameParts, later_text, same_text}
use Rattle.am_render.specs.Head.{change_of}
use Rattle.am_rehearse.specs.declared.compare.PlayedStory.{PlayedStory}
use Rattle.am_render.specs.declared.head.Change.{Change}
use Rattle.am_terms.specs.TimeFormatData.{TimeFormatData}
use Rattle.am_terms.specs.UtcDates.{StartData}

-- no dispatcher is left in either play
pub none_left : (old new : List PlayedPart) → length old ≡ 0 → length new ≡ 0 → (false ≡ false) ↔ SameParts old new
none_left [] [] none neither = (λ _. tt, λ _. refl)
none_left [] (q ∷ qs) none neither = absurd (omega arith)
none_left (p ∷ ps) new none neither = absurd (omega arith)

-- a dispatcher is left in the new play alone
pub one_left : (old new : List PlayedPart) (q : PlayedPart) (qs : List PlayedPart) → length old ≡ 0 → new ≡ q ∷ qs → (true ≡ false) ↔ SameParts old new
one_left [] new q qs none one = (λ h. absurd (false≢true (sym h)), λ same. absurd (subst (SameParts []) one same))
one_left (p ∷ ps) new q qs none one = absurd (omega arith)

-- the text on the dispatchers from one on, behind the line on its change
pub later_added : (times : TimeFormatData) (changes rest : List Change) (p : PlayedPart) (ps : List PlayedPart) (before pushed first text : List ℕ)
    → IsPushed times changes rest before pushed → first ≡ pushed ++ same_text p → text ≡ first ++ later_text times rest ps
    → text ≡ before ++ later_text times changes (p ∷ ps)
later_added times [] rest p ps before pushed first text is one more =
    more
    ∙ ap (λ (cs : List Change). first ++ later_text times cs ps) is.0
    ∙ ap (λ (l : List ℕ). l ++ later_text times [] ps) (one ∙ ap (λ (l : List ℕ). l ++ same_text p) is.1)
    ∙ append_assoc before (same_text p) (later_text times [] ps)
later_added times (c ∷ cs) rest p ps before pushed first text is one more =
    more
    ∙ ap (λ (ds : List Change). first ++ later_text times ds ps) is.0
    ∙ ap (λ (l : List ℕ). l ++ later_text times cs ps) (one ∙ ap (λ (l : List ℕ). l ++ same_text p) is.1)
    ∙ simp append_assoc

-- what is said of two stories that ran is said of what they ran for
pub compared_by : (overrides : Overrides) (story old_config new_config : Data) (old new : PlayedStory) (differs : Bool) (text : List ℕ)
    → IsPlayed overrides story old_config old → IsPlayed overrides story new_config new
    → IsComparison (times_from old.start) old.changes.items old.parts.items new.parts.items differs text
    → ComparesStory overrides story old_config new_config differs text
compared_by overrides story old_config new_config old new differs text one other is = record {
  old_input = one.input;
  old_parts = old.parts.items;
  old = one.play;
  new_input = other.input;
  new_parts = new.parts.items;
  new = other.play;
  compared =
      subst (λ (start : Option StartData). IsComparison (times_from start) (map change_of one.input.dispatcher_changes.items) old.parts.items new.parts.items differs text) one.started
      (subst (λ (changes : List Change). IsComparison (times_from old.start) changes old.parts.items new.parts.items differs text) one.changed is);
}
