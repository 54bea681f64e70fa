use Rattle.std.proofs.Common.{subst, ◌∙◌}
use Rattle.xp_base.specs.Captures.{IsCapture}
use Rattle.rgb_encoders.specs.Laws.{Shows}
use Rattle.rgb_encoders.proofs.Encodings.{shows_encoding}
use Rattle.rgb_encoders.proofs.laws.encoded_shows.Goals as goal

pub returns : goal.returns
returns c =
    let whole = subst IsCapture (c.capture.view_is ∙ c.deref-capture.ensures) c.capture.invariant in
    subst Shows c.encoded.view_is (shows_encoding _ c.encoded.invariant whole)
