use Rattle.session_steps.proofs.Settled.{cause_came, all_end_rightly}
use Rattle.session_steps.proofs.settling.ends_of_settling_have_causes.Goals as goal

pub returns-clause-came : goal.returns-clause-came
returns-clause-came g c = cause_came (record {
  stay = c.causes_stay.ensures;
  count_earlier = c.causes_count_from_earlier.ensures;
  any_desk = c.only_settled_speaks_of_the_desktop.ensures;
})

pub returns-clause-all : goal.returns-clause-all
returns-clause-all g c = all_end_rightly (record {
  stay = c.causes_stay.ensures;
  count_earlier = c.causes_count_from_earlier.ensures;
  any_desk = c.only_settled_speaks_of_the_desktop.ensures;
})
