use Rattle.std.proofs.Common.{◌≡◌, ap}
use Rattle.window_model.specs.Desktop.{Window}
use Rattle.window_model.proofs.Desktops.{IsDesktop-opened}
use Rattle.window_model.proofs.desk.Desk.add.Goals as goal

pub invariant_of-self-2 : goal.invariant_of-self-2
invariant_of-self-2 c =
    let number : c.in_ok-window.window.wid ≡ c.args.wid = ap (λ (z : Window). z.wid) c.in_ok-window.ensures.value in
    rw c.in_ok-push.ensures.items
    (IsDesktop-opened c.self.inside.windows.items c.in_ok-window.window c.self.invariant (rw (number, c.self.view_is) c.requires.new) c.in_ok-window.ensures.kept)
