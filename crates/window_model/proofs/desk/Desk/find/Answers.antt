use Rattle.std.proofs.Common.{◌≡◌, Some, None, eqb, ◌∙◌, sym, ap}
use Rattle.std.specs.Prelude.{position}
use Rattle.std.proofs.lemmas.Option.{slice_get-get_or}
use Rattle.std.proofs.lemmas.List.Quantifiers.{position-Some}
use Rattle.window_model.specs.Desktop.{Window}
use Rattle.window_model.proofs.Desktops.{found_in_place, missing_in_place}
use Rattle.window_model.proofs.desk.Desk.find.Goals as goal

pub returns-in-Some : goal.returns-in-Some
returns-in-Some c =
    let desk = c.self.inside.windows.items in
    let found : position (λ (window : Window). eqb window.wid c.args.wid) desk ≡ Some c.in-Some.place =
    ap (position (λ (window : Window). eqb window.wid c.args.wid)) (sym c.as_slice.ensures.value) ∙ sym c.in-Some.ensures in
    let within = (position-Some (λ (window : Window). eqb window.wid c.args.wid) desk c.in-Some.place c.index.result.now found).0 in
    rw (← c.self.view_is)
    (ap Some c.index.ensures ∙ sym (slice_get-get_or desk c.in-Some.place c.index.result.now within) ∙ sym (found_in_place desk c.args.wid c.in-Some.place found))

pub returns-in-None : goal.returns-in-None
returns-in-None c =
    let desk = c.self.inside.windows.items in
    let absent : position (λ (window : Window). eqb window.wid c.args.wid) desk ≡ None =
    ap (position (λ (window : Window). eqb window.wid c.args.wid)) (sym c.as_slice.ensures.value) ∙ sym c.in-None.ensures in
    rw (← c.self.view_is) (sym (missing_in_place desk c.args.wid absent))
