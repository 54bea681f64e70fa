use Rattle.window_source.proofs.ResizedLemmas.{resizing_made}
use Rattle.window_source.proofs.source.WindowSource.resizing.Goals as goal

pub returns-clause-made : goal.returns-clause-made
returns-clause-made g c = rw (← c.self.view_is)
    (resizing_made g.R.Points.has c.self.inside.conn.0 c.self.inside.wid c.self.inside.w c.self.inside.h c.self.inside.mapped c.self.inside.jobs.jobs c.self.inside.batch c.self.inside.lossy c.self.inside.acks.draws c.self.inside.next_sequence
    c.points_are_their_tests.ensures.point c.a_resize_carries_over.ensures.points c.a_resize_keeps_what_is_in_it.ensures c.self.invariant c.args.w c.args.h c.in_ok-carried.carried c.in_ok-carried.ensures
    c.args.out.now.waiting.packets c.in_ok-clipped.clipped c.in_ok-packet.packet c.in_ok-clipped.ensures c.in_ok-packet.ensures)
