use Rattle.std.proofs.Common.{◌++◌, take}
use Rattle.std.proofs.KnownBytes.{Appends-trans}
use Rattle.xp_base.proofs.Written.{moves_front}
use Rattle.xp_base.proofs.standard.write_whole.Goals as goal

pub loop-rest-preserved : goal.loop-rest-preserved
loop-rest-preserved g c =
    let (part, split, appended) = c.loop-rest.invariant in
    let rest = c.loop-rest.rest.now in
    let n = c.in-Some.count in
    (part ++ take n rest, moves_front _ part rest n split, Appends-trans _ _ _ _ _ appended c.in-Some.ensures.1)
