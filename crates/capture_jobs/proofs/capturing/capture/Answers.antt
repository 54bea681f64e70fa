use Rattle.std.proofs.Common.{ℕ, List, ap, ◌∙◌}
use Rattle.xp_base.specs.Captures.{Captured}
use Rattle.capture_jobs.proofs.Captures.{cropped_cut}
use Rattle.capture_jobs.proofs.capturing.capture.Goals as goal

pub returns : goal.returns
returns c =
    let made : List ℕ → Captured = λ pixels. record { rect = c.args.r; coding = c.args.coding; pixels = pixels } in
    c.new.ensures ∙ ap made (c.in_ok-pixels.ensures.value ∙ cropped_cut c.args.win.now c.args.r)
