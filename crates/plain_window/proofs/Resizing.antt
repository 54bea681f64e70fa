-- A resize from a size that is the desktop's.
use Rattle.std.proofs.Common.{◌≡◌, ℕ, ap, ◌∙◌}
use Rattle.delivery_model.specs.Window.{Window}
use Rattle.delivery_model.specs.Events.{resized, resized_from}

pub resized_same : (w0 h0 w h now : ℕ) (old new : Window) → w0 ≡ old.desk.wide → h0 ≡ old.desk.high → new ≡ resized_from w0 h0 w h now old → new ≡ resized w h now old
resized_same w0 h0 w h now old new wide high is =
    is ∙ (ap (λ (a : ℕ). resized_from a h0 w h now old) wide ∙ ap (λ (b : ℕ). resized_from old.desk.wide b w h now old) high)
