-- What is owed on a connection, and what differs there.
use Rattle.std.proofs.Common.{◌≡◌, ℕ, true, List, Option, Some, None, refl, subst}
use Rattle.std.specs.Prelude.{IsSomeAnd}
use Rattle.link_bay.specs.Connections.{ConnectionRecord}
use Rattle.window_model.specs.Desktop.{Window, IsDesktop}
use Rattle.client_connection.specs.Clients.{ClientSeen}
use Rattle.session_core.specs.State.{open_client}
use Rattle.session_core.specs.Slots.{slot_owes, AreTold, IsAttached}
use Rattle.client_connection.specs.Changes.{on_desk}
use Rattle.client_connection.specs.Told.{IsTold, IsToldFor}
use Rattle.client_connection.specs.Shown.{Differs, shows}
use Rattle.client_connection.proofs.Shown.{owes_what_differs, desk_sized}
use Rattle.client_connection.proofs.Owned.{owed_told}

-- what is owed is owed to a client that is attached, and is a point of the desktop
pub owed_lies : (connection : ℕ → ConnectionRecord) (desk : List Window) (clients : List (Option ClientSeen)) (k wid x y : ℕ) → AreTold connection desk clients → IsDesktop desk
    → slot_owes wid x y (open_client clients k) ≡ true → IsAttached clients k × (on_desk desk wid x y ≡ true)
owed_lies connection desk clients k wid x y told is owed = go (open_client clients k) refl owed
  where
    bytes : (c : ClientSeen) (o : Option (List ℕ)) → IsToldFor desk c o → (sent : List ℕ) × IsTold desk c sent
    bytes c None some = some
    bytes c (Some sent) some = (sent, some)

    go : (o : Option ClientSeen) → open_client clients k ≡ o → slot_owes wid x y o ≡ true → IsSomeAnd o (λ (c : ClientSeen). c.greeted ≡ true) × (on_desk desk wid x y ≡ true)
    go None here owed = absurd (cc owed)
    go (Some c) here owed = let some = bytes c (connection k).sent (told k c here) in owed_told desk c some.0 wid x y is some.1 owed

-- a differing pixel of an attached client is owed
pub attached_owes : (connection : ℕ → ConnectionRecord) (desk : List Window) (clients : List (Option ClientSeen)) (k wid x y : ℕ) (sent : List ℕ) → AreTold connection desk clients → IsDesktop desk
    → (connection k).sent ≡ Some sent → IsAttached clients k → Differs desk (shows sent) wid x y → slot_owes wid x y (open_client clients k) ≡ true
attached_owes connection desk clients k wid x y sent told is bytes attached differs = go (open_client clients k) refl attached
  where
    go : (o : Option ClientSeen) → open_client clients k ≡ o → IsSomeAnd o (λ (c : ClientSeen). c.greeted ≡ true) → slot_owes wid x y o ≡ true
    go None here attached = absurd attached
    go (Some c) here attached =
        let kept : IsTold desk c sent = subst (IsToldFor desk c) bytes (told k c here) in
        owes_what_differs desk c sent (desk_sized desk is) kept attached wid x y differs
