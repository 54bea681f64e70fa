use Rattle.std.proofs.Common.{◌≡◌, Some, None, eqb, ◌∙◌, sym, ap, set}
use Rattle.std.specs.Prelude.{position}
use Rattle.std.proofs.lemmas.List.Quantifiers.{position-Some}
use Rattle.std.proofs.lemmas.Int.{to_z-of_z}
use mir.Val.{to_z, of_z}
use mir.Syntax.{w32}
use Rattle.window_model.specs.Desktop.{Window, moved_window}
use Rattle.window_model.proofs.Desktops.{present_in_place, changed_in_place, IsDesktop-set}
use Rattle.window_model.proofs.desk.Desk.place.Goals as goal

pub unreachable-requires : goal.unreachable-requires
unreachable-requires c =
    let desk = c.self.inside.windows.items in
    let absent : position (λ (window : Window). eqb window.wid c.args.wid) desk ≡ None =
    ap (position (λ (window : Window). eqb window.wid c.args.wid)) (sym c.as_slice.ensures.value) ∙ sym c.in_default.ensures in
    present_in_place desk c.args.wid absent (rw c.self.view_is c.requires.there)

pub invariant_of-self : goal.invariant_of-self
invariant_of-self c =
    let desk = c.self.inside.windows.items in
    let found : position (λ (window : Window). eqb window.wid c.args.wid) desk ≡ Some c.in-Some.place =
    ap (position (λ (window : Window). eqb window.wid c.args.wid)) (sym c.as_slice.ensures.value) ∙ sym c.in-Some.ensures in
    let window = c.index_mut-window.result.now in
    let moved : c.move_to.new.self ≡ moved_window c.args.x c.args.y window =
    c.move_to.ensures.value
    ∙ ap (λ z. moved_window z (to_z w32 (of_z w32 c.args.y)) window) (to_z-of_z w32 c.args.x c.ranges.x)
    ∙ ap (λ z. moved_window c.args.x z window) (to_z-of_z w32 c.args.y c.ranges.y) in
    let within = (position-Some (λ (window : Window). eqb window.wid c.args.wid) desk c.in-Some.place window found).0 in
    IsDesktop-set desk c.in-Some.place c.move_to.new.self window within c.self.invariant c.move_to.ensures.kept
    (ap (λ (z : Window). z.wid) (moved ∙ ap (moved_window c.args.x c.args.y) c.index_mut-window.ensures.value))

pub returns : goal.returns
returns c =
    let desk = c.self.inside.windows.items in
    let found : position (λ (window : Window). eqb window.wid c.args.wid) desk ≡ Some c.in-Some.place =
    ap (position (λ (window : Window). eqb window.wid c.args.wid)) (sym c.as_slice.ensures.value) ∙ sym c.in-Some.ensures in
    let window = c.index_mut-window.result.now in
    let moved : c.move_to.new.self ≡ moved_window c.args.x c.args.y window =
    c.move_to.ensures.value
    ∙ ap (λ z. moved_window z (to_z w32 (of_z w32 c.args.y)) window) (to_z-of_z w32 c.args.x c.ranges.x)
    ∙ ap (λ z. moved_window c.args.x z window) (to_z-of_z w32 c.args.y c.ranges.y) in
    rw (← c.self.view_is)
    (ap (set desk c.in-Some.place) (moved ∙ ap (moved_window c.args.x c.args.y) c.index_mut-window.ensures.value)
    ∙ changed_in_place desk c.args.wid c.in-Some.place (moved_window c.args.x c.args.y) window c.self.invariant found)
