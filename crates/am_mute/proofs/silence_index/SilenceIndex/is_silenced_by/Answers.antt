use Rattle.std.proofs.Common.{◌<◌, length, sym, subst}
use Rattle.std.specs.Prelude.{All}
use Rattle.am_mute.proofs.PlacedSilences.{are_within}
use Rattle.am_mute.proofs.silence_index.SilenceIndex.is_silenced_by.Goals as goal

pub is_silenced_at-requires : goal.is_silenced_at-requires
is_silenced_at-requires c =
    subst (All (λ p. p < length c.args.silences.now)) (sym c.at.ensures)
    (are_within c.args.silences.now c.args.self.now c.requires c.args.key)
