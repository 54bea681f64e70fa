-- Writes.
use Rattle.std.proofs.Common.{◌≡◌, ◌≢◌, ℕ, Bool, Some, None, List, refl, sym, ap, ◌∙◌, subst}
use Rattle.std.specs.Prelude.{Option, slice_get}
use Rattle.xp_base.specs.Counts.{Rose}
use Rattle.xp_base.specs.declared.numbers.Conn.{Conn}
use Rattle.link_bay.specs.Connections.{ConnectionRecord, OthersStay}
use Rattle.link_bay.specs.declared.bay.Wrote.TheVariants as W
use Rattle.client_outbox.specs.Sending.{piece_of}
use Rattle.client_outbox.specs.declared.out.Out.{Out}
use Rattle.client_outbox.specs.declared.out.Out.TheVariants as O
use Rattle.attached_client.specs.Client.{ClientSeen}
use Rattle.attached_client.specs.Sending.{ClientSends}
use Rattle.connection_table.specs.Tables.{Open, Ended, open_at}
use Rattle.connection_ends.specs.Laws.{IsEarlier}
use Rattle.connection_ends.specs.declared.end.End.TheVariants as E
use Rattle.open_connection.specs.Connection.{ConnectionSeen}
use Rattle.open_connection.specs.Sending.{SendsTo}
use Rattle.connection_steps.specs.Kept.{IsConnection}
use Rattle.connection_steps.specs.Laws.{SameBytes, WaitingKeeps, SendingKeeps}
use Rattle.session_steps.specs.declared.answers.Sent.{Sent}
use Rattle.session_steps.specs.Seen.{Known, Seen}
use Rattle.session_steps.specs.Reading.{puts}
use Rattle.session_steps.specs.Sending.{OutGives, Writes, WritesTo}
use Rattle.session_steps.specs.Steady.{Phase, IsSteady}
use Rattle.session_steps.specs.Laws.{SendKeeps}
use Rattle.session_steps.proofs.Places.{open_slot}
use Rattle.session_steps.proofs.Since.{earlier_same, write_earlier}
use Rattle.session_steps.proofs.Heard.{Causes, put_alone, ends_here}

-- counts only rise
sends_earlier : (r r' : ConnectionRecord) (client : ClientSeen) (max : ℕ) (out : Out) (client' : ClientSeen) → ClientSends r r' client max out client' → IsEarlier r r'
sends_earlier r r' client max (O.Took n) client' is = write_earlier r r' (piece_of max client.seen.out) (W.Took n) is.sends.2
sends_earlier r r' client max O.Idle client' is = earlier_same r r' is.sends.1
sends_earlier r r' client max O.Again client' is = write_earlier r r' (piece_of max client.seen.out) (W.Took 0) is.sends.1
sends_earlier r r' client max O.Failed client' is = write_earlier r r' (piece_of max client.seen.out) W.Failed is.sends.1
sends_earlier r r' client max O.NoMemory client' is = earlier_same r r' is.sends.1

failed_rose : (r r' : ConnectionRecord) (client : ClientSeen) (max : ℕ) (client' : ClientSeen) → ClientSends r r' client max O.Failed client' → Rose r.faults r'.faults
failed_rose r r' client max client' is = is.sends.1.0

module _ (causes : Causes) (waiting : WaitingKeeps) (sending : SendingKeeps) {B : Type 0} (known : Known B) (phase : Phase) (were_opened : ℕ → Bool) (c : Conn) (max : ℕ) (connection : ConnectionSeen) (old new : Seen B)
    (steady : IsSteady known phase were_opened old) (at : slice_get old.slots c.0 ≡ Some (Open connection))
    (others : OthersStay (known.connection old.bay) (known.connection new.bay) c.0) (provider : known.provider new.bay ≡ known.provider old.bay) where
  abbrev pub r : ConnectionRecord
  r = known.connection old.bay c.0

  abbrev pub r' : ConnectionRecord
  r' = known.connection new.bay c.0

  kept : IsConnection known.tells old.desk were_opened c.0 (known.connection old.bay c.0) connection
  kept = steady.slots c.0 (Open connection) at

  -- the connection goes on, or has ended with a fault
  out_keeps : (after : ConnectionSeen) (out : Out) (answer : Sent) → IsEarlier (known.connection old.bay c.0) (known.connection new.bay c.0) → (out ≡ O.Failed → Rose r.faults r'.faults)
      → IsConnection known.tells old.desk were_opened c.0 (known.connection new.bay c.0) after → OutGives c after old out answer new → IsSteady known phase were_opened new
  out_keeps after (O.Took n) answer earlier rose now is = subst (IsSteady known phase were_opened) (sym is.1) (put_alone causes known phase were_opened c connection old new.bay steady at others provider earlier (Open after) now)
  out_keeps after O.Idle answer earlier rose now is = subst (IsSteady known phase were_opened) (sym is.1) (put_alone causes known phase were_opened c connection old new.bay steady at others provider earlier (Open after) now)
  out_keeps after O.Again answer earlier rose now is = subst (IsSteady known phase were_opened) (sym is.1) (put_alone causes known phase were_opened c connection old new.bay steady at others provider earlier (Open after) now)
  out_keeps after O.NoMemory answer earlier rose now is = subst (IsSteady known phase were_opened) (sym is.1) (put_alone causes known phase were_opened c connection old new.bay steady at others provider earlier (Open after) now)
  out_keeps after O.Failed answer earlier rose now is = subst (IsSteady known phase were_opened) (sym is.1) (put_alone causes known phase were_opened c connection old new.bay steady at others provider earlier (Ended E.LinkFault)
      (record { taker = tt; cause = ends_here causes known phase were_opened c connection old new.bay steady at others provider earlier c.0 connection E.LinkFault at tt (rose refl) }))

  -- whether or not its client was greeted
  pub write_keeps : (client client' : Option ClientSeen) (out : Out) (after : ConnectionSeen) (answer : Sent) → connection.client ≡ client → after.client ≡ client' → after.framing ≡ connection.framing
      → SendsTo r r' client max out client' → OutGives c after old out answer new → IsSteady known phase were_opened new
  write_keeps None None out after answer is now framing sends gives =
      out_keeps after out answer (earlier_same r r' sends.1) (λ failed. absurd (let bad : O.Idle ≡ O.Failed = sym sends.0 ∙ failed in cc bad))
      (subst (IsConnection known.tells old.desk were_opened c.0 r') (sym same) (waiting known.tells old.desk were_opened c.0 r r' connection bytes kept)) gives
    where
      same : after ≡ connection
      same = ap (λ f. record after { framing = f }) framing ∙ ap (λ (o : Option ClientSeen). record connection { client = o }) (now ∙ sym is)

      bytes : SameBytes r r'
      bytes = record { sent = ap (λ (q : ConnectionRecord). q.sent) sends.1; given = ap (λ (q : ConnectionRecord). q.given) sends.1; heard = ap (λ (q : ConnectionRecord). q.heard) sends.1 }
  write_keeps None (Some a) out after answer is now framing sends gives = absurd sends
  write_keeps (Some client) None out after answer is now framing sends gives = absurd sends
  write_keeps (Some client) (Some client') out after answer is now framing sends gives =
      out_keeps after out answer (sends_earlier r r' client max out client' sends) (λ failed. failed_rose r r' client max client' (subst (λ (o : Out). ClientSends r r' client max o client') failed sends))
      (sending known.tells old.desk were_opened c.0 max r r' connection after client client' out steady.desktop is
      (ap (λ f. record after { framing = f }) framing ∙ ap (λ (o : Option ClientSeen). record connection { client = o }) now) sends kept) gives

pub send_keeps : Causes → WaitingKeeps → SendingKeeps → {B : Type 0} → SendKeeps B
send_keeps causes waiting sending known phase were_opened c max old new answer is steady = go (open_at old.slots c.0) refl is
  where
    go : (o : Option ConnectionSeen) → open_at old.slots c.0 ≡ o → WritesTo known c max o old answer new → IsSteady known phase were_opened new
    go None at is = subst (IsSteady known phase were_opened) (sym is.1) steady
    go (Some connection) at is =
        write_keeps causes waiting sending known phase were_opened c max connection old new steady (open_slot old.slots c.0 connection at) is.others is.provider connection.client is.after.client is.out is.after answer refl refl is.sends.framing is.sends.client is.gives
