use Rattle.std.proofs.Common.{◌≡◌, ◌+◌, ◌++◌, map, drop}
use Rattle.delivery_model.specs.Events.{jobs_of}
use Rattle.plain_window.specs.Plain.{plan_seen}
use Rattle.plain_window.proofs.captures.jobs_of.Given as goal

abbrev pub invariant-loop-planned : goal.invariant-loop-planned
invariant-loop-planned l = record {
  counted : l.next ≡ l.first + l.planned-index;
  made : l.jobs.items ++ jobs_of l.desk l.region l.next (map plan_seen (drop l.planned-index l.plan)) ≡ jobs_of l.desk l.region l.first (map plan_seen l.plan);
}
