use Rattle.std.proofs.Common.{sym, ◌∙◌, ap}
use Rattle.window_source.specs.Source.{SourceSeen, job_pixels}
use Rattle.window_source.proofs.SourceLemmas.{pixels_seen}
use Rattle.window_source.proofs.source.WindowSource.pixels.Goals as goal

pub returns : goal.returns
returns g c = c.pixels.ensures ∙ sym (pixels_seen g.R.Points.has c.self.inside.w c.self.inside.h c.self.inside.jobs.jobs) ∙ ap (λ (s : SourceSeen). job_pixels s.jobs) c.self.view_is
