use Rattle.std.proofs.Common.{◌≡◌, []}
use Rattle.delivery_model.specs.Grids.{Grid}
use Rattle.delivery_model.specs.Events.{started}
use Rattle.damage_batch.specs.Delivery.{IsBatchOf}
use Rattle.lossy_refresh.specs.Delivery.{IsLossyOf}
use Rattle.window_source.proofs.SourceLemmas.{started_seen}
use Rattle.window_source.proofs.source.WindowSource.new.Goals as goal

pub returns : goal.returns
returns g c =
    let has = g.R.Points.has in
    let desk : Grid = record { wide = c.args.w; high = c.args.h; numbers = [] } in
    let of : IsBatchOf has c.args.w c.args.h c.set.new.self (started desk c.args.now) = c.a_start_is_whole.ensures desk c.args.now c.new-batch.result c.set.new.self c.in_ok-pending.pending c.new-batch.ensures c.in_ok-pending.ensures c.set.ensures in
    let exact : IsLossyOf has c.args.w c.args.h c.new-2.result (started desk c.args.now) = c.a_start_is_exact.ensures desk c.args.now c.new-2.result c.new-2.ensures in
    started_seen has c.args.conn.0 c.args.wid c.args.w c.args.h c.args.now c.set.new.self c.new-2.result c.new.result.jobs c.new-3.result.draws c.new.ensures c.new-3.ensures of exact
