use Rattle.std.proofs.Common.{◌≡◌, refl, sym, ◌∙◌, ap, subst}
use Rattle.delivery_model.specs.Grids.{Points, points}
use Rattle.delivery_model.specs.Events.{put_pending, damaged}
use Rattle.damage_batch.specs.Delivery.{IsBatchOf}
use Rattle.window_source.specs.Source.{SourceSeen, seen, alone, after}
use Rattle.window_source.specs.Calls.{IsDamaged}
use Rattle.window_source.proofs.SourceLemmas.{put_seen}
use Rattle.window_source.proofs.source.WindowSource.put_damaged.Goals as goal

pub returns : goal.returns
returns g c = λ r made.
    let has = g.R.Points.has in
    let w = c.self.inside.w in
    let h = c.self.inside.h in
    let was : SourceSeen = seen has c.self.inside.conn.0 c.self.inside.wid w h c.self.inside.mapped c.self.inside.jobs.jobs c.self.inside.batch c.self.inside.lossy c.self.inside.acks.draws c.self.inside.next_sequence in
    let at : IsDamaged has was r c.args.pending = subst (λ (s : SourceSeen). IsDamaged has s r c.args.pending) (sym c.self.view_is) made in
    let of : IsBatchOf has w h c.self.inside.batch (alone was) = record { within = c.self.invariant.pending; pending = refl; since = refl; delay = refl } in
    let law = c.damage_is_pending.ensures.put w h w h c.args.now (alone was) c.self.inside.batch c.set.new.self c.args.pending of at.lies c.set.ensures in
    put_seen has c.self.inside.conn.0 c.self.inside.wid w h c.self.inside.mapped c.self.inside.jobs.jobs c.self.inside.batch c.set.new.self c.self.inside.lossy c.self.inside.acks.draws c.self.inside.next_sequence c.args.now (points w h (has c.args.pending)) law
    ∙ ap (λ (p : Points). after (put_pending p c.args.now) was) at.points
    ∙ ap (λ (s : SourceSeen). after (damaged r c.args.now) s) c.self.view_is
