-- A desk can be shared by threads, and handed to one. One search is too short to see it, for the patterns that matchers keep: so here is each type of a board on the way, of which it can be moved and shared. A caller whose threads share a desk lists `crossing` in its search.
use Rattle.std.proofs.Crossing.{crosses}
use denote.RattleType.{RattleType}
use denote.Param.Send.{IsSend, IsSync, sendable}
use denote.Param.SendFields.{as_row_send, as_row_sync, declared_send, declared_sync, variants_send, variants_sync, array_field_send, array_field_sync}
use Rattle.atomic_table.proofs.owned.Table.TheSendSync as table
use Rattle.atomic_table.proofs.shared.Seat.TheSendSync as seat
use Rattle.regex_hir.proofs.hir.Hir.TheLaws.TheKnot as knot
use Rattle.regex_dfa.proofs.dfa.Dfa.TheSendSync as dfa
use Rattle.regex_literal.proofs.caseless.Caseless.TheSendSync as caseless
use Rattle.regex_literal.proofs.byte_set.ByteSet.TheSendSync as byte_set
use Rattle.regex_literal.proofs.ladder.Ladder.TheSendSync as ladder
use Rattle.regex_literal.proofs.prefilter.Prefilter.TheSendSync as prefilter
use Rattle.regex_extract.proofs.frames.Frame.TheSendSync as frame
use Rattle.regex_meta.proofs.plan.Role.TheSendSync as role
use Rattle.regex_syntax.proofs.Config.TheSendSync as syntax
use Rattle.am_alerts.proofs.text.Text.TheSendSync as text
use Rattle.am_alerts.proofs.sequence.Sequence.TheSendSync as sequence
use Rattle.am_alerts.proofs.matcher.MatcherParts.TheSendSync as parts
use Rattle.am_alerts.proofs.route.Route.TheSendSync as route
use Rattle.am_alerts.proofs.route_layout.RouteLayout.TheSendSync as layout
use Rattle.am_alerts.proofs.spans.Span.TheSendSync as span
use Rattle.am_model.proofs.config.receivers.Receivers.TheSendSync as receivers
use Rattle.am_model.proofs.config.Limits.TheSendSync as limits
use Rattle.am_mute.proofs.places.Places.TheSendSync as places
use Rattle.am_mute.proofs.silence_index.SilenceIndex.TheSendSync as silence_index
use Rattle.am_mute.proofs.sources.Sources.TheSendSync as sources
use Rattle.am_board.proofs.destinations.GroupNameCache.TheSendSync as destinations
use Rattle.am_board.proofs.known.Known.TheSendSync as known
use Rattle.am_board.proofs.groups.Groups.TheSendSync as groups
use Rattle.am_board.proofs.flush.OpenFlush.TheSendSync as flush
use Rattle.am_ghost.proofs.ghost_list.GhostList.TheSendSync as trail
use Rattle.am_model.proofs.record.Record.TheSendSync as line
use Rattle.am_model.proofs.group.GroupName.TheSendSync as name
use Rattle.am_alerts.proofs.labels.Labels.TheSendSync as labels
use Rattle.am_nflog.proofs.log.NfLog.TheSendSync as log
use Rattle.regex_hir.specs.contracts.hir.Hir as hir_row
use Rattle.regex_meta.specs.contracts.signs.Signs as signs_row
use Rattle.regex_meta.specs.contracts.plan.Plan as plan_row
use Rattle.regex_meta.specs.contracts.plan.Plans as plans_row
use Rattle.regex_meta.specs.contracts.program.Program as program_row
use Rattle.regex.specs.contracts.pattern.Pattern as regex_pattern_row
use Rattle.regex.specs.contracts.string.regex.Regex as regex_row
use Rattle.am_alerts.specs.contracts.pattern.Pattern as pattern_row
use Rattle.am_alerts.specs.contracts.matcher.Matcher as matcher_row
use Rattle.am_alerts.specs.contracts.route.Child as child_row
use Rattle.am_alerts.specs.contracts.routes.Routes as routes_row
use Rattle.am_alerts.specs.contracts.spans.Spans as spans_row
use Rattle.am_mute.specs.contracts.silence.Silence as silence_row
use Rattle.am_mute.specs.contracts.silences.Silences as silences_row
use Rattle.am_mute.specs.contracts.inhibit.InhibitRule as rule_row
use Rattle.am_model.specs.contracts.config.Config as config_row
use Rattle.am_board.specs.contracts.state.State as state_row
use Rattle.am_board.specs.contracts.board.Board as board_row
use Rattle.am_desk.specs.declared.kind.Kind as desk_kind
use Rattle.am_desk.specs.declared.kind.Origin as desk_origin
use Rattle.am_desk.specs.declared.name.Name as desk_name
use Rattle.am_desk.specs.contracts.keeper.Keeper as keeper_row
use Rattle.am_desk.specs.contracts.desk.Desk as desk_row

-- what there is of built-in types and of the fields of declared ones
pub ruleset every = (crosses, sendable, declared_send, declared_sync, variants_send, variants_sync, as_row_send, as_row_sync, array_field_send, array_field_sync)

pub hir_send : IsSend hir_row.the_row
hir_send = search (every, knot.crosses) depth 40 fits 10000

pub hir_sync : IsSync hir_row.the_row
hir_sync = search (every, knot.crosses) depth 40 fits 10000

pub signs_send : IsSend signs_row.the_row
signs_send = search (every, hir_send, caseless.the_send) depth 40 fits 10000

pub signs_sync : IsSync signs_row.the_row
signs_sync = search (every, hir_sync, caseless.the_sync) depth 40 fits 10000

pub plan_send : IsSend plan_row.the_row
plan_send = search (every, hir_send, ladder.the_send, prefilter.the_send, frame.the_send, role.the_send) depth 40 fits 10000

pub plan_sync : IsSync plan_row.the_row
plan_sync = search (every, hir_sync, ladder.the_sync, prefilter.the_sync, frame.the_sync, role.the_sync) depth 40 fits 10000

pub plans_send : IsSend plans_row.the_row
plans_send = search (every, plan_send) depth 40 fits 10000

pub plans_sync : IsSync plans_row.the_row
plans_sync = search (every, plan_sync) depth 40 fits 10000

pub program_send : IsSend program_row.the_row
program_send = search (every, hir_send, dfa.the_send, plans_send, signs_send, byte_set.the_send) depth 40 fits 10000

pub program_sync : IsSync program_row.the_row
program_sync = search (every, hir_sync, dfa.the_sync, plans_sync, signs_sync, byte_set.the_sync) depth 40 fits 10000

pub regex_pattern_send : IsSend regex_pattern_row.the_row
regex_pattern_send = search (every, program_send, syntax.the_send) depth 40 fits 10000

pub regex_pattern_sync : IsSync regex_pattern_row.the_row
regex_pattern_sync = search (every, program_sync, syntax.the_sync) depth 40 fits 10000

pub regex_send : IsSend regex_row.the_row
regex_send = search (every, regex_pattern_send) depth 40 fits 10000

pub regex_sync : IsSync regex_row.the_row
regex_sync = search (every, regex_pattern_sync) depth 40 fits 10000

pub pattern_send : IsSend pattern_row.the_row
pattern_send = search (every, regex_send) depth 40 fits 10000

pub pattern_sync : IsSync pattern_row.the_row
pattern_sync = search (every, regex_sync) depth 40 fits 10000

pub matcher_send : IsSend matcher_row.the_row
matcher_send = search (every, pattern_send, parts.the_send) depth 40 fits 10000

pub matcher_sync : IsSync matcher_row.the_row
matcher_sync = search (every, pattern_sync, parts.the_sync) depth 40 fits 10000

pub child_send : IsSend child_row.the_row
child_send = search (every, matcher_send, route.the_send, sequence.the_send) depth 40 fits 10000

pub child_sync : IsSync child_row.the_row
child_sync = search (every, matcher_sync, route.the_sync, sequence.the_sync) depth 40 fits 10000

pub spans_send : IsSend spans_row.the_row
spans_send = search (every, span.the_send, span.the_sync) depth 40 fits 10000

pub spans_sync : IsSync spans_row.the_row
spans_sync = search (every, span.the_send, span.the_sync) depth 40 fits 10000

pub routes_send : IsSend routes_row.the_row
routes_send = search (every, child_send, spans_send, route.the_send, layout.the_send, sequence.the_send) depth 40 fits 10000

pub routes_sync : IsSync routes_row.the_row
routes_sync = search (every, child_sync, spans_sync, route.the_sync, layout.the_sync, sequence.the_sync) depth 40 fits 10000

pub silence_send : IsSend silence_row.the_row
silence_send = search (every, matcher_send, sequence.the_send) depth 40 fits 10000

pub silence_sync : IsSync silence_row.the_row
silence_sync = search (every, matcher_sync, sequence.the_sync) depth 40 fits 10000

pub silences_send : IsSend silences_row.the_row
silences_send = search (every, silence_send, places.the_send, silence_index.the_send) depth 40 fits 10000

pub silences_sync : IsSync silences_row.the_row
silences_sync = search (every, silence_sync, places.the_sync, silence_index.the_sync) depth 40 fits 10000

pub rule_send : IsSend rule_row.the_row
rule_send = search (every, matcher_send, sequence.the_send, text.the_send) depth 40 fits 10000

pub rule_sync : IsSync rule_row.the_row
rule_sync = search (every, matcher_sync, sequence.the_sync, text.the_sync) depth 40 fits 10000

pub config_send : IsSend config_row.the_row
config_send = search (every, routes_send, receivers.the_send, rule_send, limits.the_send, sequence.the_send) depth 40 fits 10000

pub config_sync : IsSync config_row.the_row
config_sync = search (every, routes_sync, receivers.the_sync, rule_sync, limits.the_sync, sequence.the_sync) depth 40 fits 10000

pub state_send : IsSend state_row.the_row
state_send = search (every, known.the_send, groups.the_send, silences_send, log.the_send, name.the_send, labels.the_send, labels.the_sync, flush.the_send, line.the_send) depth 40 fits 10000

pub state_sync : IsSync state_row.the_row
state_sync = search (every, known.the_sync, groups.the_sync, silences_sync, log.the_sync, name.the_sync, labels.the_sync, labels.the_send, flush.the_sync, line.the_sync) depth 40 fits 10000

pub board_send : IsSend board_row.the_row
board_send = search (every, config_send, state_send, sources.the_send, destinations.the_send, trail.the_send, line.the_send) depth 40 fits 10000

pub board_sync : IsSync board_row.the_row
board_sync = search (every, config_sync, state_sync, sources.the_sync, destinations.the_sync, trail.the_sync, line.the_sync) depth 40 fits 10000

-- of every kind
module _ (N K L : RattleType) (n : desk_name.Ghosts N.Denot) (k : desk_kind.Ghosts K.Denot) (l : desk_origin.Ghosts L.Denot) where
  pub keeper_send : IsSend (keeper_row.the_row N K L n k l)
  keeper_send = search (every, board_send, seat.the_send) depth 40 fits 10000

  pub desk_send : IsSend (desk_row.the_row N K L n k l)
  desk_send = search (every, keeper_send, limits.the_send, table.the_send) depth 40 fits 10000

  pub desk_sync : IsSync (desk_row.the_row N K L n k l)
  desk_sync = search (every, keeper_send, limits.the_sync, table.the_sync) depth 40 fits 10000

-- what a search needs to see that a desk may cross threads
pub ruleset crossing = (every, desk_send, desk_sync, board_send, seat.the_send)
