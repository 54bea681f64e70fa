use Rattle.std.proofs.Common.{◌≡◌, Some, None, eqb, ◌∙◌, sym, ap, set}
use Rattle.std.specs.Prelude.{position}
use Rattle.std.proofs.lemmas.List.Quantifiers.{position-Some}
use Rattle.window_model.specs.Desktop.{Window, resized_window}
use Rattle.window_model.proofs.Desktops.{present_in_place, changed_in_place, IsDesktop-set}
use Rattle.window_model.proofs.desk.Desk.resize.Goals as goal

pub unreachable-requires : goal.unreachable-requires
unreachable-requires c =
    let desk = c.self.inside.windows.items in
    let absent : position (λ (window : Window). eqb window.wid c.args.wid) desk ≡ None =
    ap (position (λ (window : Window). eqb window.wid c.args.wid)) (sym c.as_slice.ensures.value) ∙ sym c.in_default.ensures in
    present_in_place desk c.args.wid absent (rw c.self.view_is c.requires.there)

pub invariant_of-self : goal.invariant_of-self
invariant_of-self c =
    let desk = c.self.inside.windows.items in
    let found : position (λ (window : Window). eqb window.wid c.args.wid) desk ≡ Some c.in-Some.place =
    ap (position (λ (window : Window). eqb window.wid c.args.wid)) (sym c.as_slice.ensures.value) ∙ sym c.in-Some.ensures in
    let window = c.index_mut-window.result.now in
    let within = (position-Some (λ (window : Window). eqb window.wid c.args.wid) desk c.in-Some.place window found).0 in
    IsDesktop-set desk c.in-Some.place c.resize.new.self window within c.self.invariant c.resize.ensures.kept
    (ap (λ (z : Window). z.wid) (c.resize.ensures.value ∙ ap (resized_window c.args.w c.args.h) c.index_mut-window.ensures.value))

pub returns-clause-ok : goal.returns-clause-ok
returns-clause-ok c =
    let desk = c.self.inside.windows.items in
    let found : position (λ (window : Window). eqb window.wid c.args.wid) desk ≡ Some c.in-Some.place =
    ap (position (λ (window : Window). eqb window.wid c.args.wid)) (sym c.as_slice.ensures.value) ∙ sym c.in-Some.ensures in
    let window = c.index_mut-window.result.now in
    rw (← c.self.view_is)
    (ap (set desk c.in-Some.place) (c.resize.ensures.value ∙ ap (resized_window c.args.w c.args.h) c.index_mut-window.ensures.value)
    ∙ changed_in_place desk c.args.wid c.in-Some.place (resized_window c.args.w c.args.h) window c.self.invariant found)
