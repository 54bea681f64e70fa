use Rattle.std.proofs.Common.{◌≡◌, to_z, of_z, w64, rules, Some, sym, ◌∙◌, ap, subst, arith}
use Rattle.std.specs.Prelude.{pos, ◌<ℤ◌}
use Rattle.std.proofs.lemmas.Int.{to_z-of_z, ints}
use Rattle.ack_tracker.specs.Unacknowledged.{rect_at, without_at}
use Rattle.delivery_model.specs.Events.{damaged, counted}
use Rattle.window_source.specs.Calls.{IsDamaged}
use Rattle.window_source.specs.Source.{SourceSeen, after}
use Rattle.window_source.proofs.Acknowledging.{negative_is, acknowledged_again}
use Rattle.window_source.proofs.source.WindowSource.ack.Goals as goal

pub returns-clause-ok : goal.returns-clause-ok
returns-clause-ok g c =
    let less : c.args.time <ℤ pos 0 = grind (arith, ints) in
    let whole : to_z w64 (of_z w64 c.args.seq) ≡ c.args.seq = to_z-of_z w64 c.args.seq (search rules) in
    let draws : c.self.inside.acks.draws ≡ c.args.self.now.unacknowledged = ap (λ (s : SourceSeen). s.unacknowledged) c.self.view_is in
    let found : rect_at c.args.self.now.unacknowledged c.args.seq ≡ Some c.in-Some.r = rw (whole, draws) at (sym c.rect_of.ensures ∙ c.in-Some.is) in
    let made : IsDamaged g.R.Points.has (after (counted (without_at c.args.self.now.unacknowledged c.args.seq)) c.args.self.now) c.in-Some.r c.in_ok-pending.pending = record { lies = c.in_ok-pending.ensures.lies; points = c.in_ok-pending.ensures.points } in
    let same : c.counted-answer.new.self ≡ after (counted (without_at c.args.self.now.unacknowledged c.args.seq)) c.args.self.now = rw whole at c.counted-answer.ensures.counted in
    let stands : IsDamaged g.R.Points.has c.counted-answer.new.self c.in-Some.r c.in_ok-pending.pending = subst (λ (s : SourceSeen). IsDamaged g.R.Points.has s c.in-Some.r c.in_ok-pending.pending) (sym same) made in
    c.put_damaged.ensures c.in-Some.r stands ∙ (ap (λ (s : SourceSeen). after (damaged c.in-Some.r c.args.now) s) same ∙ acknowledged_again c.args.self.now c.args.seq c.args.time c.args.now c.in-Some.r found (negative_is _ less))
