use Rattle.paint_script.proofs.Rounds.{round_in_range, round_after, ready_round}
use Rattle.paint_script.proofs.generation.add_round.Goals as goal

pub push-requires-clause-range : goal.push-requires-clause-range
push-requires-clause-range c = rw c.round_line.ensures (round_in_range c.draw_round.result c.draw_round.ensures.ranges)

pub push-requires-clause-faultless : goal.push-requires-clause-faultless
push-requires-clause-faultless c = rw c.round_line.ensures (round_after c.args.reader c.draw_round.result c.requires.ready c.draw_round.ensures.ranges)

pub pause-requires : goal.pause-requires
pause-requires c =
    rw (c.in_ok-reader.ensures, c.round_line.ensures) (ready_round c.keyed_finds.ensures c.args.reader c.draw_round.result c.requires.ready c.draw_round.ensures.ranges)
