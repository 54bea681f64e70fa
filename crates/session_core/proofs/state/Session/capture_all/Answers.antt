use Rattle.std.proofs.Common.{◌≡◌, inl, inr, ◌<◌, length, List, Some, sym, ap, ◌∙◌, subst, arith, rules}
use Rattle.std.specs.Prelude.{slice_get}
use Rattle.std.proofs.lemmas.Bool.{cases_lt}
use Rattle.std.proofs.lemmas.Option.{slice_get-get_or}
use Rattle.window_model.specs.Desktop.{Window, IsDesktop, find_window}
use Rattle.session_core.specs.State.{Seen, open_client}
use Rattle.session_core.specs.Steps.{Captures}
use Rattle.session_core.specs.Calm.{IsCleanAt, sources_in}
use Rattle.client_connection.proofs.Sources.{some_same}
use Rattle.session_core.proofs.Acting.{acts_capture}
use Rattle.session_core.proofs.Stepping.{captures_open}
use Rattle.session_core.proofs.Calms.{captures_clean, found_there, place_where}
use Rattle.session_core.proofs.state.Session.capture_all.Goals as goal

pub loop-place-preserved : goal.loop-place-preserved
loop-place-preserved g c =
    let desk_is : c.loop-place.self.desk ≡ c.self.inside.desk = c.loop-place.invariant.windows.desk ∙ sym (ap (λ (s : Seen _). s.desk) c.self.view_is) in
    let desk_at : c.loop-place.self.desk ≡ c.as_slice.result.now = sym (ap (λ (s : Seen _). s.desk) c.self-in-loop-place.view_is) ∙ sym c.as_slice.ensures in
    let there : slice_get c.loop-place.self.desk c.loop-place.place ≡ Some c.in-Some.window.now =
    ap (λ (d : List Window). slice_get d c.loop-place.place) desk_at ∙ slice_get-get_or c.as_slice.result.now c.loop-place.place c.in-Some.window.now c.in-Some.ensures.lookup.3.0
    ∙ ap (λ (w : Window). Some w) (sym c.in-Some.ensures.lookup.1) in
    let found : find_window c.loop-place.self.desk c.in-Some.window.now.wid ≡ Some c.in-Some.window.now =
    found_there c.loop-place.self.desk c.loop-place.place c.in-Some.window.now (subst (λ (d : List Window). IsDesktop d) (sym desk_is) c.len-place-end.ensures.kept).distinct there in
    let clean = captures_clean c.args.c.0 c.in-Some.window.now c.loop-place.self c.capture.new.self c.capture.result found (subst (λ n. Captures c.args.c.0 n c.loop-place.self c.capture.result c.capture.new.self) (ap (λ (w : Window). w.wid) c.window.view_is) c.capture.ensures.answer) c.in_default-capture.not-NoMemory c.in_default-capture.not-Spent in
    record {
      windows = search (rules);
      clean = λ i w low at.
          let before : slice_get c.loop-place.self.desk i ≡ Some w = ap (λ (d : List Window). slice_get d i) (sym c.capture.ensures.windows.desk) ∙ at in
          elim (cases_lt i c.loop-place.place) [
            | inl under ↦ clean.1 w.wid (c.loop-place.invariant.clean i w under before)
            | inr over ↦
                let same : i ≡ c.loop-place.place = omega (arith, low, over) in
                let window : c.in-Some.window.now ≡ w = some_same c.in-Some.window.now w (sym there ∙ ap (slice_get c.loop-place.self.desk) (sym same) ∙ before) in
                subst (λ (v : Window). IsCleanAt (sources_in (open_client c.capture.new.self.clients c.args.c.0)) v.wid) window clean.0
          ];
      present = captures_open c.args.c.0 _ c.loop-place.self c.capture.new.self c.capture.result c.loop-place.invariant.present c.capture.ensures.answer;
      acts = acts_capture g.B.Bay.provider g.B.Bay.connection c.args.c.0 _ _ c.loop-place.self c.capture.new.self c.capture.result c.loop-place.invariant.acts c.capture.ensures.bay c.capture.ensures.answer;
      ends = search (rules);
      bay = search (rules);
    }

pub returns-clause-clean : goal.returns-clause-clean
returns-clause-clean g c = λ wid has.
    let desk_is : c.loop-place.self.desk ≡ c.self.inside.desk = c.loop-place.invariant.windows.desk ∙ sym (ap (λ (s : Seen _). s.desk) c.self.view_is) in
    let p = place_where c.loop-place.self.desk wid has in
    let low : p.0 < c.loop-place.place = omega (arith, p.2, c.loop-place-test.false, c.len-place-end.ensures.value, ap length desk_is) in
    subst (IsCleanAt (sources_in (open_client c.loop-place.self.clients c.args.c.0))) p.4 (c.loop-place.invariant.clean p.0 p.1 low p.3)

pub returns-in-NoMemory-clause-open : goal.returns-in-NoMemory-clause-open
returns-in-NoMemory-clause-open g c = captures_open c.args.c.0 _ c.loop-place.self c.capture.new.self c.capture.result c.loop-place.invariant.present c.capture.ensures.answer

pub returns-in-NoMemory-clause-acts : goal.returns-in-NoMemory-clause-acts
returns-in-NoMemory-clause-acts g c = acts_capture g.B.Bay.provider g.B.Bay.connection c.args.c.0 _ _ c.loop-place.self c.capture.new.self c.capture.result c.loop-place.invariant.acts c.capture.ensures.bay c.capture.ensures.answer
