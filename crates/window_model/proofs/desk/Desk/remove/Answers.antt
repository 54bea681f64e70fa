use Rattle.std.proofs.Common.{◌≡◌, Some, None, eqb, ◌∙◌, sym, ap}
use Rattle.std.specs.Prelude.{position}
use Rattle.window_model.specs.Desktop.{Window}
use Rattle.window_model.proofs.Desktops.{present_in_place, without_in_place, IsDesktop-without}
use Rattle.window_model.proofs.desk.Desk.remove.Goals as goal

pub unreachable-requires : goal.unreachable-requires
unreachable-requires c =
    let desk = c.self.inside.windows.items in
    let absent : position (λ (window : Window). eqb window.wid c.args.wid) desk ≡ None =
    ap (position (λ (window : Window). eqb window.wid c.args.wid)) (sym c.as_slice.ensures.value) ∙ sym c.in_default.ensures in
    present_in_place desk c.args.wid absent (rw c.self.view_is c.requires)

pub invariant_of-self : goal.invariant_of-self
invariant_of-self c =
    let desk = c.self.inside.windows.items in
    let found : position (λ (window : Window). eqb window.wid c.args.wid) desk ≡ Some c.in-Some.place =
    ap (position (λ (window : Window). eqb window.wid c.args.wid)) (sym c.as_slice.ensures.value) ∙ sym c.in-Some.ensures in
    rw (c.remove.ensures.by_index.2 ∙ without_in_place desk c.args.wid c.in-Some.place c.self.invariant found) (IsDesktop-without desk c.args.wid c.self.invariant)

pub returns : goal.returns
returns c =
    let desk = c.self.inside.windows.items in
    let found : position (λ (window : Window). eqb window.wid c.args.wid) desk ≡ Some c.in-Some.place =
    ap (position (λ (window : Window). eqb window.wid c.args.wid)) (sym c.as_slice.ensures.value) ∙ sym c.in-Some.ensures in
    rw (← c.self.view_is) (c.remove.ensures.by_index.2 ∙ without_in_place desk c.args.wid c.in-Some.place c.self.invariant found)
