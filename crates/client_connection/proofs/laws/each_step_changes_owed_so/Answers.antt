use Rattle.client_connection.proofs.Owing.{fill_owes, open_owes, attach_owes, maps_owe, capture_owes, write_owes, fresh_owes, parts_owe}
use Rattle.client_connection.proofs.laws.each_step_changes_owed_so.Goals as goal

pub returns : goal.returns
returns c = record {
  fill = fill_owes;
  opening = open_owes;
  attach = attach_owes;
  maps = maps_owe;
  capture = capture_owes;
  write = write_owes;
  fresh = fresh_owes;
  parts = parts_owe;
}
