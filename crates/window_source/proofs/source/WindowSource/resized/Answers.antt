use Rattle.std.proofs.Common.{◌≡◌, [], List, refl, sym, ◌∙◌, ap, subst}
use Rattle.delivery_model.specs.Events.{put_pending, resized}
use Rattle.delivery_model.specs.Grids.{points}
use Rattle.client_outbox.specs.Outgoing.{WaitingPacket, Outgoing, with_packet}
use Rattle.client_outbox.specs.Reliefs.{with_reliefs}
use Rattle.draw_sequencer.specs.InHand.{HeldJob}
use Rattle.damage_batch.specs.Delivery.{IsBatchOf}
use Rattle.lossy_refresh.specs.LossyPoints.{LossySeen, keeping}
use Rattle.window_source.specs.Source.{SourceSeen, seen, alone, after}
use Rattle.window_source.specs.Resized.{ResizingSeen, IsResizing, ResizesOutbox}
use Rattle.window_source.proofs.SourceLemmas.{resized_batch, resized_seen}
use Rattle.window_source.proofs.ResizedLemmas.{resizes_outbox}
use Rattle.window_source.proofs.source.WindowSource.resized.Goals as goal

pub returns-clause-source : goal.returns-clause-source
returns-clause-source g c =
    let has = g.R.Points.has in
    let w = c.self.inside.w in
    let h = c.self.inside.h in
    let was : SourceSeen = seen has c.self.inside.conn.0 c.self.inside.wid w h c.self.inside.mapped c.self.inside.jobs.jobs c.self.inside.batch c.self.inside.lossy c.self.inside.acks.draws c.self.inside.next_sequence in
    let z : ResizingSeen g.row.R.Denot = record { wide = c.z.inside.w; high = c.z.inside.h; carried = c.z.inside.carried; clipped = c.z.inside.clipped; packet = c.z.inside.packet } in
    let told : IsResizing has was c.args.out.now.waiting.packets c.args.z = subst (λ (s : SourceSeen). IsResizing has s c.args.out.now.waiting.packets c.args.z) (sym c.self.view_is) c.requires.made in
    let made : IsResizing has was c.args.out.now.waiting.packets z = subst (λ (y : ResizingSeen g.row.R.Denot). IsResizing has was c.args.out.now.waiting.packets y) (sym c.z.view_is) told in
    let old : IsBatchOf has w h c.self.inside.batch (alone was) = record { within = c.self.invariant.pending; pending = refl; since = refl; delay = refl } in
    let put : IsBatchOf has z.wide z.high c.put_carried.new.b (put_pending (points z.wide z.high (has z.carried.pending)) c.args.now (alone was)) =
    c.damage_is_pending.ensures.put w h z.wide z.high c.args.now (alone was) c.self.inside.batch c.put_carried.new.b z.carried.pending old made.pending_lies c.put_carried.ensures.pending in
    let of : IsBatchOf has z.wide z.high c.put_carried.new.b (resized z.wide z.high c.args.now (alone was)) = resized_batch has z.wide z.high c.args.now (alone was) c.put_carried.new.b z.carried.pending put made.pending in
    let so : seen has c.self.inside.conn.0 c.self.inside.wid z.wide z.high c.self.inside.mapped [] c.put_carried.new.b (keeping z.carried.lossy c.self.inside.lossy) c.self.inside.acks.draws c.self.inside.next_sequence ≡ after (resized z.wide z.high c.args.now) was =
    resized_seen has c.self.inside.conn.0 c.self.inside.wid w h c.self.inside.mapped c.self.inside.jobs.jobs c.self.inside.batch c.put_carried.new.b c.self.inside.lossy c.self.inside.acks.draws c.self.inside.next_sequence c.args.now z.wide z.high z.carried.lossy of made.lossy in
    ap (λ (js : List (HeldJob g.row.R.Denot)). seen has c.self.inside.conn.0 c.self.inside.wid z.wide z.high c.self.inside.mapped js c.put_carried.new.b c.put_carried.new.l c.self.inside.acks.draws c.self.inside.next_sequence) c.put_carried.ensures.jobs
    ∙ ap (λ (l : LossySeen g.row.R.Denot). seen has c.self.inside.conn.0 c.self.inside.wid z.wide z.high c.self.inside.mapped [] c.put_carried.new.b l c.self.inside.acks.draws c.self.inside.next_sequence) c.put_carried.ensures.lossy
    ∙ so
    ∙ ap (λ (y : ResizingSeen g.row.R.Denot). after (resized y.wide y.high c.args.now) was) c.z.view_is
    ∙ ap (λ (s : SourceSeen). after (resized c.args.z.wide c.args.z.high c.args.now) s) c.self.view_is

pub returns-clause-outbox : goal.returns-clause-outbox
returns-clause-outbox g c =
    let has = g.R.Points.has in
    let o : Outgoing g.row.R.Denot = c.args.out.now.waiting in
    let wid = c.args.self.now.wid in
    let packets : c.put_clipped.new.self.waiting.packets ≡ with_reliefs wid o.packets c.args.z.clipped.reliefs =
    c.put_clipped.ensures.packets ∙ ap (λ (s : SourceSeen). with_reliefs s.wid o.packets c.z.inside.clipped.reliefs) c.self.view_is ∙ ap (λ (y : ResizingSeen g.row.R.Denot). with_reliefs wid o.packets y.clipped.reliefs) c.z.view_is in
    let between : c.put_clipped.new.self.waiting ≡ record o { packets = with_reliefs wid o.packets c.args.z.clipped.reliefs } = λ i. record { packets = packets i; taken = c.put_clipped.ensures.taken i } in
    let after_all : c.put.new.self.waiting ≡ with_packet (record o { packets = with_reliefs wid o.packets c.args.z.clipped.reliefs }) c.args.z.packet =
    c.in-Ok.ensures.ok ∙ ap (λ (p : Outgoing g.row.R.Denot). with_packet p c.z.inside.packet) between
    ∙ ap (λ (y : ResizingSeen g.row.R.Denot). with_packet (record o { packets = with_reliefs wid o.packets c.args.z.clipped.reliefs }) y.packet) c.z.view_is in
    subst (λ (p : Outgoing g.row.R.Denot). ResizesOutbox has wid c.args.z.wide c.args.z.high o p) (sym after_all)
    (resizes_outbox has c.clipped_reliefs_lie_inside.ensures.change wid c.args.z.wide c.args.z.high o c.args.z.clipped c.args.z.packet c.requires.made.clipped c.requires.made.packet)
