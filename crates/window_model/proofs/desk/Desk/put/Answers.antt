use Rattle.std.proofs.Common.{◌≡◌, Some, None, eqb, ◌∙◌, sym, ap, set}
use Rattle.std.specs.Prelude.{position}
use Rattle.std.proofs.lemmas.List.Quantifiers.{position-Some}
use Rattle.window_model.specs.Desktop.{Window, placed_window}
use Rattle.window_model.proofs.Desktops.{inside_in_place, absent_in_place, changed_in_place, IsDesktop-set}
use Rattle.window_model.proofs.desk.Desk.put.Goals as goal

pub unreachable-requires : goal.unreachable-requires
unreachable-requires c =
    let desk = c.self.inside.windows.items in
    let absent : position (λ (window : Window). eqb window.wid c.args.wid) desk ≡ None =
    ap (position (λ (window : Window). eqb window.wid c.args.wid)) (sym c.as_slice.ensures.value) ∙ sym c.in_default.ensures in
    absent_in_place desk c.args.wid c.args.r absent (rw c.self.view_is c.requires.inside)

pub put-requires-clause-inside : goal.put-requires-clause-inside
put-requires-clause-inside c =
    let desk = c.self.inside.windows.items in
    let found : position (λ (window : Window). eqb window.wid c.args.wid) desk ≡ Some c.in-Some.place =
    ap (position (λ (window : Window). eqb window.wid c.args.wid)) (sym c.as_slice.ensures.value) ∙ sym c.in-Some.ensures in
    let window = c.index_mut-window.result.now in
    rw c.index_mut-window.ensures.value (inside_in_place desk c.args.wid c.in-Some.place c.args.r window found (rw c.self.view_is c.requires.inside))

pub invariant_of-self : goal.invariant_of-self
invariant_of-self c =
    let desk = c.self.inside.windows.items in
    let found : position (λ (window : Window). eqb window.wid c.args.wid) desk ≡ Some c.in-Some.place =
    ap (position (λ (window : Window). eqb window.wid c.args.wid)) (sym c.as_slice.ensures.value) ∙ sym c.in-Some.ensures in
    let window = c.index_mut-window.result.now in
    let within = (position-Some (λ (window : Window). eqb window.wid c.args.wid) desk c.in-Some.place window found).0 in
    IsDesktop-set desk c.in-Some.place c.put.new.self window within c.self.invariant c.put.ensures.kept
    (ap (λ (z : Window). z.wid) (c.put.ensures.value ∙ ap (placed_window c.args.r c.args.pixels.now) c.index_mut-window.ensures.value))

pub returns : goal.returns
returns c =
    let desk = c.self.inside.windows.items in
    let found : position (λ (window : Window). eqb window.wid c.args.wid) desk ≡ Some c.in-Some.place =
    ap (position (λ (window : Window). eqb window.wid c.args.wid)) (sym c.as_slice.ensures.value) ∙ sym c.in-Some.ensures in
    let window = c.index_mut-window.result.now in
    rw (← c.self.view_is)
    (ap (set desk c.in-Some.place) (c.put.ensures.value ∙ ap (placed_window c.args.r c.args.pixels.now) c.index_mut-window.ensures.value)
    ∙ changed_in_place desk c.args.wid c.in-Some.place (placed_window c.args.r c.args.pixels.now) window c.self.invariant found)
