use Rattle.std.proofs.Common.{◌≡◌, min, take}
use Rattle.xp_base.specs.Counts.{greatest}
use Rattle.attached_client.specs.Client.{pixels_in_hand}
use Rattle.attached_client.proofs.acting.pixels_of.Given as goal

abbrev pub invariant-loop-source : goal.invariant-loop-source
invariant-loop-source l = l.pixels ≡ min (pixels_in_hand (take l.source-index l.sources)) greatest
