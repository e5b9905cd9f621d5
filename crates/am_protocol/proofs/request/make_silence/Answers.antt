use Rattle.std.proofs.Common.{◌∙◌, ap}
use Rattle.am_mute.specs.Silence.{silence_fault, silence_of}
use Rattle.am_json.proofs.Made.{made_is, made_well, unmade}
use Rattle.am_protocol.proofs.request.make_silence.Goals as goal

pub returns-in-Ok-clause-sound : goal.returns-in-Ok-clause-sound
returns-in-Ok-clause-sound c =
    let silence = silence_of c.args.id c.args.matchers.items c.args.starts c.args.ends in
    ap silence_fault (made_is (silence_fault silence) silence c.in-Ok.silence c.in-Ok.ensures)
    ∙ made_well (silence_fault silence) silence c.in-Ok.silence c.in-Ok.ensures

pub returns-in-Err-clause-refused : goal.returns-in-Err-clause-refused
returns-in-Err-clause-refused c =
    let silence = silence_of c.args.id c.args.matchers.items c.args.starts c.args.ends in
    unmade (silence_fault silence) silence c.in-Err.fault c.in-Err.ensures
