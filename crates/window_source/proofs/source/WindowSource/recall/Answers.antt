use Rattle.std.proofs.Common.{◌≡◌, List, [], refl, sym, ◌∙◌, ap, subst}
use Rattle.delivery_model.specs.Events.{given_back}
use Rattle.draw_sequencer.specs.InHand.{HeldJob}
use Rattle.damage_batch.specs.Delivery.{IsBatchOf}
use Rattle.window_source.specs.Source.{SourceSeen, seen, alone, after}
use Rattle.window_source.specs.Kept.{IsSource}
use Rattle.window_source.proofs.SourceLemmas.{given_seen}
use Rattle.window_source.proofs.KeptLemmas.{reliefs_within, kept_given}
use Rattle.window_source.proofs.source.WindowSource.recall.Goals as goal

pub invariant_of-self-2 : goal.invariant_of-self-2
invariant_of-self-2 g c =
    let has = g.R.Points.has in
    let w = c.self.inside.w in
    let h = c.self.inside.h in
    let was : SourceSeen = seen has c.self.inside.conn.0 c.self.inside.wid w h c.self.inside.mapped c.self.inside.jobs.jobs c.self.inside.batch c.self.inside.lossy c.self.inside.acks.draws c.self.inside.next_sequence in
    let of = c.giving_back_is_damage.ensures c.args.now (alone was) c.self.inside.jobs.jobs c.self.inside.batch c.give_back.new.b
    (record { within = c.self.invariant.pending; pending = refl; since = refl; delay = refl })
    (record { within = reliefs_within has w h c.self.inside.jobs.jobs c.self.invariant.lie; held = refl }) c.in_ok-give_back.ensures.pending in
    subst (λ (js : List (HeldJob g.row.R.Denot)). IsSource has w h js c.give_back.new.b.pending c.self.inside.lossy.points c.self.inside.acks.draws c.self.inside.next_sequence) (sym c.in_ok-give_back.ensures.jobs)
    (kept_given has w h c.self.inside.jobs.jobs c.self.inside.batch.pending c.self.inside.lossy.points c.self.inside.acks.draws c.self.inside.next_sequence c.self.invariant c.give_back.new.b.pending of.within)

pub returns-clause-ok : goal.returns-clause-ok
returns-clause-ok g c =
    let has = g.R.Points.has in
    let w = c.self.inside.w in
    let h = c.self.inside.h in
    let was : SourceSeen = seen has c.self.inside.conn.0 c.self.inside.wid w h c.self.inside.mapped c.self.inside.jobs.jobs c.self.inside.batch c.self.inside.lossy c.self.inside.acks.draws c.self.inside.next_sequence in
    let of = c.giving_back_is_damage.ensures c.args.now (alone was) c.self.inside.jobs.jobs c.self.inside.batch c.give_back.new.b
    (record { within = c.self.invariant.pending; pending = refl; since = refl; delay = refl })
    (record { within = reliefs_within has w h c.self.inside.jobs.jobs c.self.invariant.lie; held = refl }) c.in_ok-give_back.ensures.pending in
    ap (λ (js : List (HeldJob g.row.R.Denot)). seen has c.self.inside.conn.0 c.self.inside.wid w h c.self.inside.mapped js c.give_back.new.b c.self.inside.lossy c.self.inside.acks.draws c.self.inside.next_sequence) c.in_ok-give_back.ensures.jobs
    ∙ given_seen has c.self.inside.conn.0 c.self.inside.wid w h c.self.inside.mapped c.self.inside.jobs.jobs c.self.inside.batch c.give_back.new.b c.self.inside.lossy c.self.inside.acks.draws c.self.inside.next_sequence c.args.now of
    ∙ ap (λ (s : SourceSeen). after (given_back c.args.now) s) c.self.view_is
