use Rattle.delivery_log.proofs.DrawnOut.{ordered_results_draw_out, front_leaves_rest}
use Rattle.delivery_log.proofs.laws.results_in_order_draw_a_window_out.Goals as goal

pub returns-clause-drawn : goal.returns-clause-drawn
returns-clause-drawn c = ordered_results_draw_out

pub returns-clause-rest : goal.returns-clause-rest
returns-clause-rest c = front_leaves_rest
