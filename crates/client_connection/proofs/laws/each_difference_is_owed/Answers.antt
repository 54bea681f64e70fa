use Rattle.client_connection.proofs.Shown.{desk_sized, owes_what_differs}
use Rattle.client_connection.proofs.laws.each_difference_is_owed.Goals as goal

pub returns : goal.returns
returns c = λ desk client sent is told greeted. owes_what_differs desk client sent (desk_sized desk is) told greeted
