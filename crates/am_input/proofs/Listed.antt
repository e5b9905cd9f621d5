-- The zones of members, one after the other.
use Rattle.std.proofs.Common.{◌++◌, List, [], ◌∷◌, subst, sym, ◌≡◌, Option, Some}
use Rattle.std.specs.Prelude.{◌≤◌, IsSomeAnd, string_bytes}
use Rattle.serde_json.proofs.Views.{Entry}
use Rattle.serde_json.specs.Data.{Data, Members}
use Rattle.serde_json.specs.Events.{members_len}
use Rattle.serde_json.specs.Find.{as_object}
use Rattle.serde_json.specs.View.{members_view, view}
use Rattle.am_config.specs.declared.hours.NamedZone.{NamedZone}
use Rattle.am_input.specs.Clocks.{IsRuled, ListsZones}
use Rattle.am_input.specs.Zones.{AreZones, AreZonesIn, IsZone}
use Rattle.am_input.specs.declared.zones.TheConstants.{MAX_ZONES}

-- one more zone
pub zones_more : (done : List Entry) (e : Entry) → AreZones (members_view done) → IsZone (view e.1) → AreZones (members_view (done ++ e ∷ []))
zones_more [] e so_far more = (more, tt)
zones_more (d ∷ done) e so_far more = (so_far.0, zones_more done e so_far.1 more)

-- with the zone that it is
pub listed_more : (done : List Entry) (zones : List NamedZone) (e : Entry) (z : NamedZone) → ListsZones (members_view done) zones
    → z.name ≡ string_bytes e.0 → IsRuled (view e.1) z.zone → ListsZones (members_view (done ++ e ∷ [])) (zones ++ z ∷ [])
listed_more [] [] e z so_far named is = (named, is, tt)
listed_more [] (y ∷ zones) e z so_far named is = absurd so_far
listed_more (d ∷ done) [] e z so_far named is = absurd so_far
listed_more (d ∷ done) (y ∷ zones) e z so_far named is = (so_far.0, so_far.1, listed_more done zones e z so_far.2 named is)

-- each is one
pub zone_at : (done : List Entry) (e : Entry) (left : List Entry) → AreZones (members_view (done ++ e ∷ left)) → IsZone (view e.1)
zone_at [] e left all = all.0
zone_at (d ∷ done) e left all = zone_at done e left all.1

-- what is given of an object that was read
pub listed_in : (found : Option Data) (value : Data) (members : Members) → Some value ≡ found → Some members ≡ as_object value → AreZonesIn found
    → AreZones members × (members_len members ≤ MAX_ZONES)
listed_in found value all there is decoded =
    subst (λ (o : Option Members). IsSomeAnd o (λ ms. AreZones ms × (members_len ms ≤ MAX_ZONES))) (sym is)
    (subst AreZonesIn (sym there) decoded)

pub as_listed : (found : Option Data) (value : Data) (members : Members) → Some value ≡ found → Some members ≡ as_object value
    → AreZones members × (members_len members ≤ MAX_ZONES) → AreZonesIn found
as_listed found value all there is decoded =
    subst AreZonesIn there (subst (λ (o : Option Members). IsSomeAnd o (λ ms. AreZones ms × (members_len ms ≤ MAX_ZONES))) is decoded)
