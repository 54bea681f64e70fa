-- What a change keeps of a connection.
use Rattle.std.proofs.Common.{◌≡◌, ℕ, Some, None, refl, sym, ap, ◌∙◌, subst}
use Rattle.std.specs.Prelude.{Option}
use Rattle.std.specs.Option.{option_map}
use Rattle.packet_frames.specs.Following.{Framing}
use Rattle.hello_caps.specs.declared.caps.Caps.{Caps}
use Rattle.client_talk.specs.Kept.{IsListening}
use Rattle.attached_client.specs.declared.change.Change.{Change}
use Rattle.attached_client.specs.Client.{ClientSeen, Attachment, client_in}
use Rattle.attached_client.specs.ChangeLaws.{ChangeKeeps, ChangeFits, ChangeStays}
use Rattle.open_connection.specs.Connection.{caps_of}
use Rattle.open_connection.specs.Changing.{FitsIn, ChangesIn}
use Rattle.open_connection.specs.Laws.{IsToldTo, ChangingTells, ChangingListens, ChangingFits}

module _ (keeps : ChangeKeeps) (stays : ChangeStays) where
  pub changing_tells : ChangingTells
  changing_tells desk desk' old new conn now change None None sent desktop desks numbers changes told = told
  changing_tells desk desk' old new conn now change None (Some c') sent desktop desks numbers changes told = absurd changes
  changing_tells desk desk' old new conn now change (Some c) None sent desktop desks numbers changes told = absurd changes
  changing_tells desk desk' old new conn now change (Some c) (Some c') sent desktop desks numbers changes told =
      ((stays change now c c' changes).conn ∙ told.0, keeps desk desk' old new change now c c' sent desktop desks numbers changes told.1)

module _ (stays : ChangeStays) where
  same_caps : (change : Change) (now : ℕ) (client client' : Option ClientSeen) → ChangesIn change now client client' → option_map caps_of client' ≡ option_map caps_of client
  same_caps change now None None changes = refl
  same_caps change now None (Some c') changes = absurd changes
  same_caps change now (Some c) None changes = absurd changes
  same_caps change now (Some c) (Some c') changes = ap (λ (caps : Caps). Some caps) (stays change now c c' changes).caps

  pub changing_listens : ChangingListens
  changing_listens given change now c c' changes listens =
      subst (λ (f : Framing). IsListening given f (option_map caps_of c'.client)) (sym changes.framing)
      (subst (λ (caps : Option Caps). IsListening given c.framing caps) (sym (same_caps change now c.client c'.client changes.client)) listens)

pub changing_fits : ChangeFits → ChangingFits
changing_fits fits desk desk' old conn change o sent desks told = go o.client told
  where
    go : (client : Option Attachment) → IsToldTo desk old conn (option_map client_in client) sent → FitsIn change client
    go None told = tt
    go (Some a) told = fits desk desk' old change a.client sent desks told.1
