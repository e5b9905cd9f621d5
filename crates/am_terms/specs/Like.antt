-- Like: previews of one group that differ in their times at most.
use Rattle.std.specs.Prelude.{◌≡◌}
use Rattle.am_model.specs.declared.preview.Preview.{Preview}

-- previews of one group with the same muted alerts and the same reasons
abbrev pub IsLike : Preview → Preview → Type 0
IsLike o p = (o.group ≡ p.group) × (o.muted ≡ p.muted) × (o.reasons ≡ p.reasons)
