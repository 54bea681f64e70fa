-- Captures, results, and jobs given back.
use Rattle.std.proofs.Common.{◌≡◌, ℕ, Bool, false, ◌⊎◌, inl, Some, None, List, refl, sym, ap, ◌∙◌, subst}
use Rattle.std.specs.Prelude.{Option, slice_get}
use Rattle.xp_base.specs.declared.numbers.Conn.{Conn}
use Rattle.link_bay.specs.Connections.{ConnectionRecord}
use Rattle.window_source.specs.Source.{SourceSeen}
use Rattle.client_delivery.specs.Attached.{find_source}
use Rattle.connection_table.specs.Tables.{Open}
use Rattle.attached_client.specs.Client.{ClientSeen}
use Rattle.attached_client.specs.Laws.{mark_in, mark_on}
use Rattle.attached_client.specs.Drawing.{Drawing, ClientDraws, DrawingKeeps, DrawingMarks}
use Rattle.open_connection.specs.Connection.{ConnectionSeen}
use Rattle.open_connection.specs.Laws.{IsToldTo}
use Rattle.connection_steps.specs.Kept.{IsConnection}
use Rattle.connection_steps.specs.Laws.{MarksStay, ClientStays, ChangingKeeps}
use Rattle.session_steps.specs.Seen.{Known, Seen}
use Rattle.session_steps.specs.Reading.{puts}
use Rattle.session_steps.specs.Drawing.{DrawsOn, DrawKeeps}
use Rattle.session_steps.specs.Steady.{Phase, IsSteady}
use Rattle.session_steps.proofs.Places.{open_slot}
use Rattle.session_steps.proofs.Since.{earlier_same}
use Rattle.session_steps.proofs.Heard.{Causes, put_alone}

-- each mark is as it was
marks_stay : (were_opened : ℕ → Bool) (c c' : ClientSeen) → ((k : ℕ) → mark_on k c' ≡ mark_on k c) → MarksStay were_opened c c'
marks_stay were_opened c c' same wid s' found = go (find_source c.seen.sources wid) refl
  where
    go : (o : Option SourceSeen) → find_source c.seen.sources wid ≡ o
        → ((s : SourceSeen) × (find_source c.seen.sources wid ≡ Some s) × (s'.mapped ≡ s.mapped)) ⊎ ((s'.mapped ≡ false) × (were_opened wid ≡ false))
    go None is = absurd (cc (sym (ap mark_in found) ∙ same wid ∙ ap mark_in is))
    go (Some s) is = inl (s, is, (let marks : s'.mapped ≡ s.mapped = cc (sym (ap mark_in found) ∙ same wid ∙ ap mark_in is) in marks))

module _ (causes : Causes) (changing : ChangingKeeps) (keeps : DrawingKeeps) (marks : DrawingMarks) {B : Type 0} (known : Known B) (phase : Phase) (were_opened : ℕ → Bool) (c : Conn) (drawing : Drawing) (old : Seen B)
    (connection : ConnectionSeen) (client after : ClientSeen) (at : slice_get old.slots c.0 ≡ Some (Open connection)) (attached : connection.client ≡ Some client)
    (draws : ClientDraws old.desk old.clock drawing client after) (steady : IsSteady known phase were_opened old) where
  kept : IsConnection known.tells old.desk were_opened c.0 (known.connection old.bay c.0) connection
  kept = steady.slots c.0 (Open connection) at

  stays : ClientStays were_opened connection.client (Some after)
  stays = subst (λ (o : Option ClientSeen). ClientStays were_opened o (Some after)) (sym attached)
      (ap (λ (q : ClientSeen). q.caps) draws.stays, marks_stay were_opened client after (λ k. marks old.desk old.clock drawing client after k draws))

  told : (sent : List ℕ) → IsToldTo old.desk were_opened c.0 connection.client sent → IsToldTo old.desk were_opened c.0 (Some after) sent
  told sent before =
      let was : IsToldTo old.desk were_opened c.0 (Some client) sent = subst (λ (o : Option ClientSeen). IsToldTo old.desk were_opened c.0 o sent) attached before in
      (ap (λ (q : ClientSeen). q.conn) draws.stays ∙ was.0, keeps old.desk were_opened old.clock drawing client after sent draws was.1)

  pub drawn : IsSteady known phase were_opened (puts c (Open (record connection { client = Some after })) old old.bay)
  drawn = put_alone causes known phase were_opened c connection old old.bay steady at (λ d apart. refl) refl (earlier_same (known.connection old.bay c.0) (known.connection old.bay c.0) refl)
      (Open (record connection { client = Some after }))
      (changing known.tells old.desk old.desk were_opened were_opened c.0 (known.connection old.bay c.0) connection (record connection { client = Some after }) (λ k none. none) refl stays told kept)

pub draw_keeps : Causes → ChangingKeeps → DrawingKeeps → DrawingMarks → {B : Type 0} → DrawKeeps B
draw_keeps causes changing keeps marks known phase were_opened c drawing old new is steady =
    subst (IsSteady known phase were_opened) (sym is.changed)
    (drawn causes changing keeps marks known phase were_opened c drawing old is.connection is.client is.after (open_slot old.slots c.0 is.connection is.opened) is.attached is.draws steady)
