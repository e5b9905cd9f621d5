-- What is reported of a board holds over each call.
use Rattle.std.proofs.Common.{◌≡◌, ℕ, false, List, [], ◌++◌, length, Option, Result, Ok, Err, sym, ap, ◌∙◌}
use Rattle.std.proofs.lemmas.List.{append-nil}
use Rattle.std.specs.Prelude.{IfOk, OnErr}
use Rattle.am_board.specs.History.{BoardData, with_record}
use Rattle.am_model.specs.declared.preview.Preview.{Preview}
use Rattle.am_model.specs.declared.record.Record.{Record}
use Rattle.am_model.specs.look_back.Preview.{preview}
use Rattle.am_model.specs.Records.{now_of}
use Rattle.am_simulation.specs.Previews.{takes_group, preview_where, previews_of}
use Rattle.am_terms.specs.declared.event.PreviewedBegin.{PreviewedBegin}
use Rattle.am_simulation.proofs.Reporting.{previews-more}

-- the board has this id and handed nothing out, and these are what its begins were to do
abbrev pub HasPreviews : ℕ → List PreviewedBegin → BoardData → Type 0
HasPreviews id begins board = (board.id ≡ id) × (board.handed ≡ []) × (begins ≡ previews_of board.config board.history)

-- a record of a call that took no group was added
abbrev pub IsAside : BoardData → BoardData → Type 0
IsAside old new = (r : Record) × (takes_group r.reply ≡ false) × (new ≡ with_record old r)

module _ (id : ℕ) (begins : List PreviewedBegin) (old new : BoardData) (holds : HasPreviews id begins old) where
  pub holds_aside : IsAside old new → HasPreviews id begins new
  holds_aside aside =
      let r : Record = aside.0 in (
        ap (λ (b : BoardData). b.id) aside.2 ∙ holds.0,
        ap (λ (b : BoardData). b.handed) aside.2 ∙ holds.1,
        holds.2
            ∙ (sym (append-nil (previews_of old.config old.history))
            ∙ (ap (λ shown. previews_of old.config old.history ++ preview_where shown (length old.history) (preview old.config old.history (now_of r.call))) (sym aside.1)
            ∙ (sym (previews-more old.config old.history r) ∙ sym (ap (λ (b : BoardData). previews_of b.config b.history) aside.2)))),
      )

  -- a call that was accepted added such a record, and one that was refused changed nothing
  pub holds_over : {X E : Type 0} (result : Result X E) → IfOk result (λ _. IsAside old new) → OnErr result (new ≡ old) → HasPreviews id begins new
  holds_over (Ok x) accepted refused = holds_aside accepted
  holds_over (Err e) accepted refused = (ap (λ (b : BoardData). b.id) refused ∙ holds.0, ap (λ (b : BoardData). b.handed) refused ∙ holds.1, holds.2 ∙ sym (ap (λ (b : BoardData). previews_of b.config b.history) refused))

  -- a record was reported of
  pub holds_after : (r : Record) (is_to_do : Option Preview) → is_to_do ≡ preview old.config old.history (now_of r.call) → new ≡ with_record old r
      → (next : List PreviewedBegin) → next ≡ begins ++ preview_where (takes_group r.reply) (length old.history) is_to_do → HasPreviews id next new
  holds_after r is_to_do is recorded next more = (
    ap (λ (b : BoardData). b.id) recorded ∙ holds.0,
    ap (λ (b : BoardData). b.handed) recorded ∙ holds.1,
    more
        ∙ (ap (λ (l : List PreviewedBegin). l ++ preview_where (takes_group r.reply) (length old.history) is_to_do) holds.2
        ∙ (ap (λ o. previews_of old.config old.history ++ preview_where (takes_group r.reply) (length old.history) o) is
        ∙ (sym (previews-more old.config old.history r) ∙ sym (ap (λ (b : BoardData). previews_of b.config b.history) recorded)))),
  )
