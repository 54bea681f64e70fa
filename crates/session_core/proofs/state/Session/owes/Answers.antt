use Rattle.std.proofs.Common.{◌≡◌, ◌∙◌, sym, ℕ, List, Some, true}
use Rattle.session_core.specs.Slots.{plain_clients, owes, IsAttached}
use Rattle.client_connection.specs.Shown.{shows, Differs}
use Rattle.client_connection.specs.Changes.{on_desk}
use Rattle.session_core.proofs.Differing.{attached_owes, owed_lies}
use Rattle.session_core.proofs.state.Session.owes.Goals as goal

pub returns-clause-differs : goal.returns-clause-differs
returns-clause-differs g c =
    let owed : (sent : List ℕ) → (g.B.Bay.connection c.args.self.now.bay c.args.c.0).sent ≡ Some sent → IsAttached c.args.self.now.clients c.args.c.0
    → Differs c.args.self.now.desk (shows sent) c.args.wid c.args.x c.args.y → owes c.args.self.now c.args.c.0 c.args.wid c.args.x c.args.y ≡ true =
    rw (← c.self.view_is) (λ sent bytes attached differs.
    attached_owes (g.B.Bay.connection c.self.inside.bay) c.self.inside.desk (plain_clients c.self.inside.clients.items) c.args.c.0 c.args.wid c.args.x c.args.y sent c.self.invariant.told c.len-count.ensures.kept bytes attached differs) in
    λ sent bytes attached differs. c.is_owed.ensures ∙ owed sent bytes attached differs

pub returns-clause-means : goal.returns-clause-means
returns-clause-means g c =
    let lies : owes c.args.self.now c.args.c.0 c.args.wid c.args.x c.args.y ≡ true → IsAttached c.args.self.now.clients c.args.c.0 × (on_desk c.args.self.now.desk c.args.wid c.args.x c.args.y ≡ true) =
    rw (← c.self.view_is) (λ owed.
    owed_lies (g.B.Bay.connection c.self.inside.bay) c.self.inside.desk (plain_clients c.self.inside.clients.items) c.args.c.0 c.args.wid c.args.x c.args.y c.self.invariant.told c.len-count.ensures.kept owed) in
    λ on. lies (sym c.is_owed.ensures ∙ on)
