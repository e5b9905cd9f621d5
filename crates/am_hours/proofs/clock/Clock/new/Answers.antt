use Rattle.std.proofs.Common.{◌≡◌, true, ℤ, pos, to_z, of_z, w64, List, [], ◌∷◌, ◌++◌, Err, ap, subst, sym, ◌∙◌, FitsSigned, rules, arith}
use Rattle.std.specs.Int.{int_div_euclid}
use Rattle.std.specs.List.{All}
use Rattle.std.proofs.lemmas.Grind.{common_steps}
use Rattle.std.proofs.lemmas.Int.{to_z-of_z}
use Rattle.std.proofs.lemmas.List.Elements.{All-push}
use Rattle.std.proofs.lemmas.Result.{err_from_is_err_and}
use Rattle.jiff.specs.Words.{plain_zone}
use Rattle.am_hours.specs.Clocks.{IsNoClock, IsNoPiece, IsPieceOf, instant_at}
use Rattle.am_hours.specs.Pieces.{are_in_row}
use Rattle.am_hours.specs.Showing.{BeginsAsShown}
use Rattle.am_hours.specs.declared.piece.Piece.{Piece}
use Rattle.am_hours.proofs.Rows.{row-more}
use Rattle.am_hours.proofs.Seconds.{no_clock, refused_by}
use Rattle.am_hours.proofs.clock.Clock.new.Goals as goal

pub loop-at-preserved : goal.loop-at-preserved
loop-at-preserved c =
    let piece = c.in_ok-piece.piece in
    let made = c.in_ok-piece.ensures in
    let zone = plain_zone c.args.zone in
    let all : c.push.new.self.items ≡ c.loop-at.pieces.items ++ piece ∷ [] = grind (arith, common_steps) in
    let start : ℤ = int_div_euclid c.args.start.nanosecond (pos 1000000) in
    let origin = c.milliseconds_at-origin.result in
    let fits : FitsSigned w64 origin = search rules in
    let same : to_z w64 (of_z w64 origin) ≡ start = to_z-of_z w64 origin fits ∙ c.milliseconds_at-origin.ensures in
    record {
      row = subst (λ (xs : List Piece). are_in_row 0 xs piece.to ≡ true) (sym all)
          (row-more 0 c.loop-at.pieces.items c.loop-at.at piece c.loop-at.invariant.row made.from made.sound);
      within = made.to;
      shown = subst (All (BeginsAsShown zone start)) (sym all)
          (All-push (BeginsAsShown zone start) c.loop-at.pieces.items piece c.loop-at.invariant.shown
          (subst (λ (n : ℤ). BeginsAsShown zone n piece) same made.shown));
      are = subst (All (IsPieceOf zone start c.args.horizon)) (sym all)
          (All-push (IsPieceOf zone start c.args.horizon) c.loop-at.pieces.items piece c.loop-at.invariant.are
          (subst (λ (n : ℤ). IsPieceOf zone n c.args.horizon piece) same made.piece));
    }

pub returns-in_err-piece-clause-refused : goal.returns-in_err-piece-clause-refused
returns-in_err-piece-clause-refused c =
    let zone = plain_zone c.args.zone in
    let start : ℤ = int_div_euclid c.args.start.nanosecond (pos 1000000) in
    let origin = c.milliseconds_at-origin.result in
    let fits : FitsSigned w64 origin = search rules in
    let same : to_z w64 (of_z w64 origin) ≡ start = to_z-of_z w64 origin fits ∙ c.milliseconds_at-origin.ensures in
    let p = err_from_is_err_and c.from_residual.result c.from_residual.ensures.1 in
    let fault = c.in_err-piece.field-0.0 in
    refused_by c.from_residual.result fault (IsNoClock zone start c.args.horizon) (p.1 ∙ ap Err p.2)
    (no_clock zone start c.args.horizon fault c.loop-at.pieces.items c.loop-at.at c.loop-at.invariant.row c.loop-at.invariant.are
    c.loop-at-test.true (subst (λ (n : ℤ). IsNoPiece zone (instant_at n c.loop-at.at) fault) same c.in_err-piece.ensures.refused))
