use Rattle.std.proofs.Common.{Some, ap, ◌∙◌}
use Rattle.window_model.specs.Desktop.{Window}
use Rattle.window_source.specs.declared.capturing.Caught.{Caught}
use Rattle.last_draws.proofs.Draws.{is_made, is_short}
use Rattle.last_draws.proofs.Drawn.{unmade, not_short, jobs_others, refused_others, jobs_drawn, refused_drawn, jobs_are_nearer, refused_is_nearer, nearer_if_ok}
use Rattle.last_draws.proofs.drawing.draw_window.Goals as goal

pub returns-in-Jobs-clause-drawn : goal.returns-in-Jobs-clause-drawn
returns-in-Jobs-clause-drawn c = jobs_drawn c.keyed_finds.ensures c.window.inside.wid c.args.now c.args.window.now (ap (λ (w : Window). w.wid) c.window.view_is) c.args.client.now.client c.recall.new.self.client c.in_ok-recall.ensures.ok
    c.drawing_keeps_a_client.ensures.told c.captures_and_results_are_drawn.ensures.captured c.captures_and_results_are_drawn.ensures.filed c.capture.result c.in-Jobs.jobs c.capture.new.self.client c.file_all.new.client.client (c.in-Some.is ∙ ap (λ (caught : Caught). Some caught) c.in-Jobs.is) c.capture.ensures c.file_all.ensures.some

pub returns-in-Jobs-clause-others : goal.returns-in-Jobs-clause-others
returns-in-Jobs-clause-others c = jobs_others c.keyed_finds.ensures c.window.inside.wid c.args.now c.args.window.now (ap (λ (w : Window). w.wid) c.window.view_is) c.args.client.now.client c.recall.new.self.client c.in_ok-recall.ensures.ok
    c.capture.result c.capture.new.self.client c.file_all.new.client.client c.capture.ensures c.file_all.ensures.some

pub returns-in-Jobs-clause-nearer : goal.returns-in-Jobs-clause-nearer
returns-in-Jobs-clause-nearer c = nearer_if_ok c.file_all.result c.file_all.ensures.all
    (λ files. jobs_are_nearer c.keyed_finds.ensures c.window.inside.wid c.args.now c.args.window.now (ap (λ (w : Window). w.wid) c.window.view_is) c.args.client.now.client c.recall.new.self.client c.in_ok-recall.ensures.ok
    c.empty_sets_have_no_point.ensures.none c.results_in_order_draw_a_window_out.ensures.drawn c.capture.result c.in-Jobs.jobs c.capture.new.self.client c.file_all.new.client.client (c.in-Some.is ∙ ap (λ (caught : Caught). Some caught) c.in-Jobs.is) c.capture.ensures files)

pub returns-in-NoMemory-clause-drawn : goal.returns-in-NoMemory-clause-drawn
returns-in-NoMemory-clause-drawn c = refused_drawn c.keyed_finds.ensures c.window.inside.wid c.args.now c.args.window.now (ap (λ (w : Window). w.wid) c.window.view_is) c.args.client.now.client c.recall.new.self.client c.in_ok-recall.ensures.ok
    c.drawing_keeps_a_client.ensures.told c.captures_and_results_are_drawn.ensures.captured c.captures_and_results_are_drawn.ensures.filed c.capture.result c.capture.new.self.client c.capture.ensures (ap is_made (c.in-Some.is ∙ ap (λ (caught : Caught). Some caught) c.in-NoMemory.is))

pub returns-in-NoMemory-clause-others : goal.returns-in-NoMemory-clause-others
returns-in-NoMemory-clause-others c = refused_others c.keyed_finds.ensures c.window.inside.wid c.args.now c.args.window.now (ap (λ (w : Window). w.wid) c.window.view_is) c.args.client.now.client c.recall.new.self.client c.in_ok-recall.ensures.ok
    c.capture.result c.capture.new.self.client c.capture.ensures

pub returns-in_default : goal.returns-in_default
returns-in_default c = record {
  drawn = refused_drawn c.keyed_finds.ensures c.window.inside.wid c.args.now c.args.window.now (ap (λ (w : Window). w.wid) c.window.view_is) c.args.client.now.client c.recall.new.self.client c.in_ok-recall.ensures.ok
      c.drawing_keeps_a_client.ensures.told c.captures_and_results_are_drawn.ensures.captured c.captures_and_results_are_drawn.ensures.filed c.capture.result c.capture.new.self.client c.capture.ensures (ap is_made c.in_default.is);
  others = refused_others c.keyed_finds.ensures c.window.inside.wid c.args.now c.args.window.now (ap (λ (w : Window). w.wid) c.window.view_is) c.args.client.now.client c.recall.new.self.client c.in_ok-recall.ensures.ok
      c.capture.result c.capture.new.self.client c.capture.ensures;
  nearer = refused_is_nearer c.keyed_finds.ensures c.window.inside.wid c.args.now c.args.window.now (ap (λ (w : Window). w.wid) c.window.view_is) c.args.client.now.client c.recall.new.self.client c.in_ok-recall.ensures.ok
      c.empty_sets_have_no_point.ensures.none c.results_in_order_draw_a_window_out.ensures.drawn c.capture.result c.capture.new.self.client c.capture.ensures (ap is_made c.in_default.is) (ap is_short c.in_default.is);
}

pub returns-in_default-caught : goal.returns-in_default-caught
returns-in_default-caught c = record {
  drawn = refused_drawn c.keyed_finds.ensures c.window.inside.wid c.args.now c.args.window.now (ap (λ (w : Window). w.wid) c.window.view_is) c.args.client.now.client c.recall.new.self.client c.in_ok-recall.ensures.ok
      c.drawing_keeps_a_client.ensures.told c.captures_and_results_are_drawn.ensures.captured c.captures_and_results_are_drawn.ensures.filed c.capture.result c.capture.new.self.client c.capture.ensures (ap is_made c.in-Some.is ∙ unmade c.in-Some.caught c.in_default-caught.not-Jobs);
  others = refused_others c.keyed_finds.ensures c.window.inside.wid c.args.now c.args.window.now (ap (λ (w : Window). w.wid) c.window.view_is) c.args.client.now.client c.recall.new.self.client c.in_ok-recall.ensures.ok
      c.capture.result c.capture.new.self.client c.capture.ensures;
  nearer = refused_is_nearer c.keyed_finds.ensures c.window.inside.wid c.args.now c.args.window.now (ap (λ (w : Window). w.wid) c.window.view_is) c.args.client.now.client c.recall.new.self.client c.in_ok-recall.ensures.ok
      c.empty_sets_have_no_point.ensures.none c.results_in_order_draw_a_window_out.ensures.drawn c.capture.result c.capture.new.self.client c.capture.ensures (ap is_made c.in-Some.is ∙ unmade c.in-Some.caught c.in_default-caught.not-Jobs)
      (ap is_short c.in-Some.is ∙ not_short c.in-Some.caught c.in_default-caught.not-NoMemory);
}
