use Rattle.std.proofs.Common.{◌≡◌, ℕ, Bool, true, List, [], None, ◌||◌, length, refl, sym, ◌∙◌, ap}
use Rattle.std.specs.Prelude.{nat_lt}
use Rattle.xp_base.specs.declared.due.Due.TheVariants as D
use Rattle.delivery_model.specs.Window.{Packet, Window}
use Rattle.delivery_model.specs.Events.{is_empty}
use Rattle.delivery_model.specs.Refusals.{is_busy}
use Rattle.damage_batch.specs.Delivery.{IsBatchOf}
use Rattle.lossy_refresh.specs.Delivery.{IsLossyOf}
use Rattle.window_source.specs.Source.{SourceSeen, seen, window_of}
use Rattle.window_source.proofs.CapturingLemmas.{damage_is_due}
use Rattle.window_source.proofs.source.WindowSource.due.Goals as goal

pub returns-in-Clean : goal.returns-in-Clean
returns-in-Clean g c =
    let has = g.R.Points.has in
    let w = c.self.inside.w in
    let h = c.self.inside.h in
    let was : SourceSeen = seen has c.self.inside.conn.0 c.self.inside.wid w h c.self.inside.mapped c.self.inside.jobs.jobs c.self.inside.batch c.self.inside.lossy c.self.inside.acks.draws c.self.inside.next_sequence in
    rw (← c.self.view_is) (λ packets busy.
    let window : Window = window_of was [] None packets in
    let of : IsBatchOf has w h c.self.inside.batch window = record { within = c.self.invariant.pending; pending = refl; since = refl; delay = refl } in
    let exact : IsLossyOf has w h c.self.inside.lossy window = record { within = c.self.invariant.lossy; lossy = refl; since = refl } in
    let empty : is_empty window.pending ≡ true = c.due_is_told.ensures w h c.args.now window c.self.inside.batch D.Clean of c.in-Clean.ensures in
    let held : c.is_busy.result ≡ (nat_lt 0 (length window.jobs) || is_busy packets) =
    c.is_busy.ensures ∙ ap (λ (s : SourceSeen). nat_lt 0 (length s.jobs) || c.args.busy) (sym c.self.view_is) ∙ ap (λ b. nat_lt 0 (length window.jobs) || b) (sym busy) in
    c.due_is_told-2.ensures w h c.args.now c.is_busy.result window c.self.inside.lossy c.due-in-Clean.result exact empty held c.due-in-Clean.ensures)

pub returns-in-Early : goal.returns-in-Early
returns-in-Early g c =
    let has = g.R.Points.has in
    let w = c.self.inside.w in
    let h = c.self.inside.h in
    let was : SourceSeen = seen has c.self.inside.conn.0 c.self.inside.wid w h c.self.inside.mapped c.self.inside.jobs.jobs c.self.inside.batch c.self.inside.lossy c.self.inside.acks.draws c.self.inside.next_sequence in
    rw (← c.self.view_is) (λ packets busy.
    let window : Window = window_of was [] None packets in
    let of : IsBatchOf has w h c.self.inside.batch window = record { within = c.self.invariant.pending; pending = refl; since = refl; delay = refl } in
    damage_is_due c.args.now window (D.Early c.in-Early.moment) (λ is. absurd (cc is)) (c.due_is_told.ensures w h c.args.now window c.self.inside.batch (D.Early c.in-Early.moment) of c.in-Early.ensures))

pub returns-in-Now : goal.returns-in-Now
returns-in-Now g c =
    let has = g.R.Points.has in
    let w = c.self.inside.w in
    let h = c.self.inside.h in
    let was : SourceSeen = seen has c.self.inside.conn.0 c.self.inside.wid w h c.self.inside.mapped c.self.inside.jobs.jobs c.self.inside.batch c.self.inside.lossy c.self.inside.acks.draws c.self.inside.next_sequence in
    rw (← c.self.view_is) (λ packets busy.
    let window : Window = window_of was [] None packets in
    let of : IsBatchOf has w h c.self.inside.batch window = record { within = c.self.invariant.pending; pending = refl; since = refl; delay = refl } in
    damage_is_due c.args.now window D.Now (λ is. absurd (cc is)) (c.due_is_told.ensures w h c.args.now window c.self.inside.batch D.Now of c.in-Now.ensures))
