use Rattle.std.proofs.Common.{◌<◌, length, sym, subst}
use Rattle.std.specs.Prelude.{All}
use Rattle.am_mute.proofs.PlacedSilences.{are_within}
use Rattle.am_mute.proofs.silence_index.SilenceIndex.first_by.Goals as goal

pub first_at-requires : goal.first_at-requires
first_at-requires c =
    subst (All (λ p. p < length c.args.silences.now)) (sym c.at.ensures)
    (are_within c.args.silences.now c.args.self.now c.requires c.args.key)
