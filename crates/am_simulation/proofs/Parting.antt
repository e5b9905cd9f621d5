-- The parts of a rehearsal: one change of the dispatcher more, and one played part more.
use Rattle.std.proofs.Common.{◌≡◌, ◌∙◌, ◌<◌, ℕ, ◌+◌, ◌-◌, suc, get_or, take, if◌then◌else◌, List, [], ◌∷◌, ◌++◌, length, Option, Some, None, ap, sym, refl, arith, subst}
use Rattle.std.specs.List.{count_by, flat_map}
use Rattle.std.specs.Option.{IsSomeAnd}
use Rattle.std.specs.Prelude.{slice_get}
use Rattle.std.proofs.lemmas.List.{append_assoc, flat_map_more, take_more}
use Rattle.std.proofs.lemmas.List.Sums.{sum_by_push}
use Rattle.std.proofs.lemmas.Option.{none-some, same_Some, slice_get_read}
use Rattle.am_board.specs.History.{BoardData}
use Rattle.am_model.specs.Rekey.{Reload, rekeyed}
use Rattle.am_model.specs.declared.views.RowView.{RowView}
use Rattle.am_simulation.specs.Parts.{PartData, after, cut_at, parts_from}
use Rattle.am_simulation.specs.Playing.{ArePlayed, IsCauseOfPartFault, IsCauseOfPartsFault, PlaysPart, is_taken, last_board}
use Rattle.am_simulation.specs.declared.playing.PartFault.{PartFault}
use Rattle.am_simulation.specs.declared.playing.PlayedPart.{PlayedPart}
use Rattle.am_terms.specs.declared.dispatcher_change.DispatcherChange.{DispatcherChange}
use Rattle.am_terms.specs.declared.rehearsal.Outage.{Outage}
use Rattle.am_terms.specs.declared.rehearsal.Upkeep.{Upkeep}

-- these changes of the dispatcher led from the first part to these parts, and the part that is not cut yet
abbrev pub ArePartsSoFar : PartData → List DispatcherChange → List PartData → PartData → Type 0
ArePartsSoFar first done parts part = (rest : List DispatcherChange) → parts_from first (done ++ rest) ≡ parts ++ parts_from part rest

-- one change of the dispatcher more
pub parts_more : (first : PartData) (done : List DispatcherChange) (parts : List PartData) (part : PartData) (h : DispatcherChange)
    → ArePartsSoFar first done parts part → ArePartsSoFar first (done ++ h ∷ []) (parts ++ cut_at h.at part ∷ []) (after h part)
parts_more first done parts part h so_far rest =
    ap (parts_from first) (append_assoc done (h ∷ []) rest) ∙ so_far (h ∷ rest) ∙ sym (append_assoc parts (cut_at h.at part ∷ []) (parts_from (after h part) rest))

-- the board of the last played part
pub board_of_last : (before : Option BoardData) (played : List PlayedPart) (q : PlayedPart) → slice_get played (length played - 1) ≡ Some q
    → last_board before played ≡ Some q.played.value.board
board_of_last before [] q is = absurd (none-some q is)
board_of_last before (x ∷ []) q is = ap (λ (y : PlayedPart). Some y.played.value.board) (same_Some x q is)
board_of_last before (x ∷ y ∷ ys) q is =
    let less : length (x ∷ y ∷ ys) - 1 ≡ suc (length (y ∷ ys) - 1) = omega arith in
    board_of_last (Some x.played.value.board) (y ∷ ys) q (sym (ap (slice_get (x ∷ y ∷ ys)) less) ∙ is)

module _ (upkeep : Upkeep) (outages : List Outage) where
  -- one played part more
  pub played_more : (before : Option BoardData) (parts : List PartData) (played : List PlayedPart) (p : PartData) (q : PlayedPart)
      → ArePlayed upkeep outages before parts played → PlaysPart upkeep outages (last_board before played) p q
      → ArePlayed upkeep outages before (parts ++ p ∷ []) (played ++ q ∷ [])
  played_more before [] [] p q are plays = (plays, tt)
  played_more before [] (y ∷ ys) p q are plays = absurd are
  played_more before (x ∷ xs) [] p q are plays = absurd are
  played_more before (x ∷ xs) (y ∷ ys) p q are plays = (are.0, played_more (Some y.played.value.board) xs ys p q are.1 plays)

  -- as many parts run as there are
  pub as_many : (before : Option BoardData) (parts : List PartData) (played : List PlayedPart) → ArePlayed upkeep outages before parts played
      → length parts ≡ length played
  as_many before [] [] are = refl
  as_many before [] (y ∷ ys) are = absurd are
  as_many before (x ∷ xs) [] are = absurd are
  as_many before (x ∷ xs) (y ∷ ys) are = ap suc (as_many (Some y.played.value.board) xs ys are.1)

  -- why the part that comes next isn't played to its end is why these parts aren't
  pub stopped_at : (parts done : List PartData) (played : List PlayedPart) (p : PartData) (returned : PartFault) → done ≡ take (length done) parts
      → (length done < length parts) × (p ≡ get_or parts (length done) p) → returned.part ≡ length played → ArePlayed upkeep outages None done played
      → IsCauseOfPartFault upkeep outages (last_board None played) p returned.fault → IsCauseOfPartsFault upkeep outages parts returned
  stopped_at parts done played p returned so_far turn at are why =
      let n : returned.part ≡ length done = at ∙ sym (as_many None done played are) in
      let first : done ≡ take returned.part parts = so_far ∙ ap (λ (k : ℕ). take k parts) (sym n) in
      let there : slice_get parts returned.part ≡ Some p = ap (slice_get parts) n ∙ slice_get_read parts (length parts) (length done) p refl turn.0 turn.1 in
      record {
        played = played;
        before = subst (λ (ps : List PartData). ArePlayed upkeep outages None ps played) first are;
        stopped = subst (λ (o : Option PartData). IsSomeAnd o (λ x. IsCauseOfPartFault upkeep outages (last_board None played) x returned.fault)) (sym there) why;
      }

-- by which rows one more of these rows is found again, and whether it is taken over
module _ (reload : Reload) (rows : List RowView) (i : ℕ) (row : RowView) (some : i < length rows) (is : row ≡ get_or rows i row) where
  one : take (i + 1) rows ≡ take i rows ++ row ∷ []
  one = take_more rows i row some ∙ ap (λ (r : RowView). take i rows ++ r ∷ []) (sym is)

  pub found_more : (before more : List RowView) → before ≡ flat_map (rekeyed reload) (take i rows) → more ≡ before ++ rekeyed reload row
      → more ≡ flat_map (rekeyed reload) (take (i + 1) rows)
  found_more before more so_far now =
      now ∙ ap (λ (rs : List RowView). rs ++ rekeyed reload row) so_far ∙ flat_map_more (rekeyed reload) [] (take i rows) row
      ∙ ap (flat_map (rekeyed reload)) (sym one)

  pub counted_more : (at before more : ℕ) → before ≡ count_by (is_taken at reload) (take i rows) → more ≡ before + (if is_taken at reload row then 1 else 0)
      → more ≡ count_by (is_taken at reload) (take (i + 1) rows)
  counted_more at before more so_far now =
      now ∙ ap (λ (n : ℕ). n + (if is_taken at reload row then 1 else 0)) so_far
      ∙ sym (sum_by_push (λ (r : RowView). if is_taken at reload r then 1 else 0) (take i rows) row)
      ∙ ap (count_by (is_taken at reload)) (sym one)
