use Rattle.connection_steps.proofs.Clear.{clear_rests}
use Rattle.connection_steps.proofs.Rest.{rest_shows, rest_settles, greeting_says_nothing}
use Rattle.connection_steps.proofs.resting.a_client_at_rest_shows_the_desktop.Goals as goal

pub returns-clause-shows : goal.returns-clause-shows
returns-clause-shows c = rest_shows c.what_waits_lays_out_the_desktop.ensures c.each_differing_pixel_is_owed.ensures

pub returns-clause-settles : goal.returns-clause-settles
returns-clause-settles c = rest_settles c.what_waits_lays_out_the_desktop.ensures c.each_differing_pixel_is_owed.ensures c.a_mapped_window_is_marked.ensures

pub returns-clause-greeting : goal.returns-clause-greeting
returns-clause-greeting c = greeting_says_nothing

pub returns-clause-clear : goal.returns-clause-clear
returns-clause-clear c = clear_rests c.empty_sets_have_no_point.ensures.empty
