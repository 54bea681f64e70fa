-- A message, by what became of the window's source.
use Rattle.std.proofs.Common.{◌≡◌, ◌≢◌, ◌↔◌, ℕ, ℤ, Bool, true, false, not, None, Some, refl, sym, ap, ◌∙◌}
use Rattle.std.specs.Prelude.{Option, slice_set, is_none}
use Rattle.xp_base.specs.Points.{Rectangle}
use Rattle.ack_tracker.specs.declared.ack.Ack.{Ack}
use Rattle.ack_tracker.specs.declared.ack.Ack.TheVariants as A
use Rattle.delivery_model.specs.Window.{Window}
use Rattle.packet_kinds.specs.declared.from_client.FromClient.{FromClient}
use Rattle.window_source.specs.Source.{SourceSeen}
use Rattle.client_delivery.specs.Attached.{AttachedSeen}
use Rattle.client_delivery.specs.Steps.{changes_source}
use Rattle.attached_client.specs.Client.{ClientSeen}
use Rattle.attached_client.specs.Acting.{at_window, acted, acted_client, has_source, ignored}
use Rattle.attached_client.proofs.Places.{DoesAt, DoesNothing}

-- the message makes an event of the source of its window
pub record IsEventOf (m : FromClient) (now : ℕ) (number : ℤ) (event : Window → Window) : Type 0 where
  pub acts : (a : AttachedSeen) → acted now m a ≡ at_window number a (λ k. changes_source k event a)

-- it is ignored where the client has not the window
abbrev pub IsIgnoredWhereMissing : FromClient → ℤ → Type 0
IsIgnoredWhereMissing m number = (a : AttachedSeen) → ignored m a ≡ not (has_source a number)

pub acts_at : (m : FromClient) (now : ℕ) (number : ℤ) (event : Window → Window) (was client : ClientSeen) (i : ℕ) (old new : SourceSeen) → IsEventOf m now number event → was ≡ client
    → DoesAt number was.seen i old new event → record was { seen = record was.seen { sources = slice_set was.seen.sources i new } } ≡ acted_client now m client
acts_at m now number event was client i old new is same does =
    ap (λ (a : AttachedSeen). record was { seen = a }) (does.acted ∙ sym (is.acts was.seen)) ∙ ap (acted_client now m) same

pub minded_at : (m : FromClient) (number : ℤ) (event : Window → Window) (was client : ClientSeen) (i : ℕ) (old new : SourceSeen) → IsIgnoredWhereMissing m number → was ≡ client
    → DoesAt number was.seen i old new event → false ≡ ignored m client.seen
minded_at m number event was client i old new is same does = sym (ap not does.there) ∙ sym (is was.seen) ∙ ap (λ (c : ClientSeen). ignored m c.seen) same

pub acts_nowhere : (m : FromClient) (now : ℕ) (number : ℤ) (event : Window → Window) (was client : ClientSeen) → IsEventOf m now number event → was ≡ client
    → DoesNothing number was.seen event → client ≡ acted_client now m client
acts_nowhere m now number event was client is same does =
    sym same ∙ ap (λ (a : AttachedSeen). record was { seen = a }) (does.same ∙ sym (is.acts was.seen)) ∙ ap (acted_client now m) same

pub ignored_nowhere : (m : FromClient) (number : ℤ) (event : Window → Window) (was client : ClientSeen) → IsIgnoredWhereMissing m number → was ≡ client
    → DoesNothing number was.seen event → true ≡ ignored m client.seen
ignored_nowhere m number event was client is same does = sym (ap not does.missing) ∙ sym (is was.seen) ∙ ap (λ (c : ClientSeen). ignored m c.seen) same

-- whether an acknowledgement is a stray
pub stray_so : (rect : Option Rectangle) (ack : Ack) (is_stray : Bool) → (ack ≡ A.Stray) ↔ (rect ≡ None) → (ack ≡ A.Stray → is_stray ≡ true) → (ack ≢ A.Stray → is_stray ≡ false) → is_stray ≡ is_none rect
stray_so None ack is_stray stray there other = there (stray.1 refl)
stray_so (Some r) ack is_stray stray there other = other (λ same. absurd (let bad : Some r ≡ None = stray.0 same in cc bad))
