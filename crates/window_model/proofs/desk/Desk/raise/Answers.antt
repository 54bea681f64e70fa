use Rattle.std.proofs.Common.{◌≡◌, ◌+◌, List, [], ◌∷◌, ◌++◌, take, drop, Some, None, eqb, ◌∙◌, sym, ap}
use Rattle.std.specs.Prelude.{position}
use Rattle.window_model.specs.Desktop.{Window, raised}
use Rattle.window_model.proofs.Desktops.{present_in_place, raised_in_place, IsDesktop-raised}
use Rattle.window_model.proofs.desk.Desk.raise.Goals as goal

pub unreachable-requires : goal.unreachable-requires
unreachable-requires c =
    let desk = c.self.inside.windows.items in
    let absent : position (λ (window : Window). eqb window.wid c.args.wid) desk ≡ None =
    ap (position (λ (window : Window). eqb window.wid c.args.wid)) (sym c.as_slice.ensures.value) ∙ sym c.in_default.ensures in
    present_in_place desk c.args.wid absent (rw c.self.view_is c.requires)

pub invariant_of-self : goal.invariant_of-self
invariant_of-self c =
    let desk = c.self.inside.windows.items in
    let place = c.in-Some.place in
    let found : position (λ (window : Window). eqb window.wid c.args.wid) desk ≡ Some place =
    ap (position (λ (window : Window). eqb window.wid c.args.wid)) (sym c.as_slice.ensures.value) ∙ sym c.in-Some.ensures in
    let window = c.remove-window.result in
    let is : c.push.new.self.items ≡ raised desk c.args.wid =
    c.in-Ok.ensures.items
    ∙ ap (λ (z : List Window). z ++ window ∷ []) c.remove-window.ensures.by_index.2
    ∙ ap (λ (z : Window). (take place desk ++ drop (place + 1) desk) ++ z ∷ []) c.remove-window.ensures.value
    ∙ raised_in_place desk c.args.wid place window c.self.invariant found in
    rw is (IsDesktop-raised desk c.args.wid c.self.invariant)

pub returns : goal.returns
returns c =
    let desk = c.self.inside.windows.items in
    let place = c.in-Some.place in
    let found : position (λ (window : Window). eqb window.wid c.args.wid) desk ≡ Some place =
    ap (position (λ (window : Window). eqb window.wid c.args.wid)) (sym c.as_slice.ensures.value) ∙ sym c.in-Some.ensures in
    let window = c.remove-window.result in
    let is : c.push.new.self.items ≡ raised desk c.args.wid =
    c.in-Ok.ensures.items
    ∙ ap (λ (z : List Window). z ++ window ∷ []) c.remove-window.ensures.by_index.2
    ∙ ap (λ (z : Window). (take place desk ++ drop (place + 1) desk) ++ z ∷ []) c.remove-window.ensures.value
    ∙ raised_in_place desk c.args.wid place window c.self.invariant found in
    is ∙ ap (λ (z : List Window). raised z c.args.wid) c.self.view_is
