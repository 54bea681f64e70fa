-- A write to a connection that was taken out, as the step of a session.
use Rattle.std.proofs.Common.{◌≡◌, ℕ, ◌<◌, Option, Some, List, set, length, sym, ap, ◌∙◌, subst, arith}
use Rattle.std.specs.Option.{option_map}
use Rattle.xp_base.specs.declared.numbers.Conn.{Conn}
use Rattle.link_bay.specs.Connections.{ConnectionRecord, OthersStay, AllStay}
use Rattle.client_outbox.specs.declared.out.Out.{Out}
use Rattle.connection_table.specs.Tables.{Slot, Away, Ended, open_at}
use Rattle.connection_ends.specs.declared.end.End.{End}
use Rattle.open_connection.specs.Connection.{OpenSeen, ConnectionSeen, connection_in}
use Rattle.open_connection.specs.Sending.{ConnectionSends}
use Rattle.session_steps.specs.declared.answers.Sent.{Sent}
use Rattle.session_steps.specs.Seen.{Known, Seen}
use Rattle.session_steps.specs.Slots.{Slots}
use Rattle.session_steps.specs.Reading.{puts}
use Rattle.session_steps.specs.Sending.{slot_after, sent_of, WritesTo, Sends}
use Rattle.session_steps.specs.Settling.{EndsWhere, EndsOpen}
use Rattle.session_state.specs.Views.{slots_in}
use Rattle.session_state.proofs.Sets.{set_twice}
use Rattle.session_state.proofs.Viewed.{view_long, view_open, open_low}

-- an open connection was handed out
pub low_known : {B : Type 0} (known : Known B) (seen old : Seen B) (table : List (Slot OpenSeen End)) (k : ℕ) (o : OpenSeen) → seen ≡ old → length old.slots ≡ (known.provider old.bay).count → slots_in table ≡ seen.slots
    → open_at table k ≡ Some o → k < (known.provider seen.bay).count
low_known known seen old table k o is counted same at =
    let low = open_low table k o at in
    let long = view_long table in
    let all = ap (λ (ss : Slots). length ss) same in
    let count = subst (λ (s : Seen _). length s.slots ≡ (known.provider s.bay).count) (sym is) counted in
    omega (arith, low, long, all, count)

-- what the steps see of it
pub seen_open : (table : List (Slot OpenSeen End)) (k : ℕ) (o : OpenSeen) (result : Option OpenSeen) → result ≡ open_at table k → result ≡ Some o → open_at (slots_in table) k ≡ Some (connection_in o)
seen_open table k o result value is = view_open table k ∙ ap (option_map connection_in) (sym value ∙ is)

pub sends_so : {B : Type 0} (known : Known B) (c : Conn) (max : ℕ) (seen old : Seen B) (slots : Slots) (bay : B) (connection after : ConnectionSeen) (out : Out) (answer : Sent) (new : Seen B)
    → seen ≡ old → open_at seen.slots c.0 ≡ Some connection → slots ≡ set seen.slots c.0 Away
    → ConnectionSends (known.connection seen.bay c.0) (known.connection bay c.0) connection max out after → OthersStay (known.connection seen.bay) (known.connection bay) c.0 → known.provider bay ≡ known.provider seen.bay
    → AllStay (known.connection bay) (known.connection new.bay) → known.provider new.bay ≡ known.provider bay
    → answer ≡ sent_of out → new ≡ puts c (slot_after after out) (record seen { slots = slots; bay = bay }) new.bay → Sends known c max old answer new
sends_so known c max seen old slots bay connection after out answer new is at away sends others provider stay provider' says now = subst (λ (s : Seen _). Sends known c max s answer new) is
    (subst (λ (o : Option ConnectionSeen). WritesTo known c max o seen answer new) (sym at) (record {
      out = out;
      after = after;
      sends = subst (λ (r : ConnectionRecord). ConnectionSends (known.connection seen.bay c.0) r connection max out after) (sym (stay c.0)) sends;
      others = λ d apart. stay d ∙ others d apart;
      provider = provider' ∙ provider;
      gives = (says, now ∙ ap (λ (ss : Slots). record seen { slots = set ss c.0 (slot_after after out); bay = new.bay }) away ∙ ap (λ (ss : Slots). record seen { slots = ss; bay = new.bay }) (set_twice seen.slots c.0 Away (slot_after after out)));
    }))

-- an end of a connection that was taken out
pub ends_so : {B : Type 0} (known : Known B) (c : Conn) (e : End) (seen old : Seen B) (slots slots' : Slots) (bay : B) (connection : ConnectionSeen)
    → seen ≡ old → open_at seen.slots c.0 ≡ Some connection → slots ≡ set seen.slots c.0 Away → slots' ≡ set slots c.0 (Ended e)
    → AllStay (known.connection seen.bay) (known.connection bay) → known.provider bay ≡ known.provider seen.bay → EndsOpen known c e old (record seen { slots = slots'; bay = bay })
ends_so known c e seen old slots slots' bay connection is at away ended stay provider = subst (λ (s : Seen _). EndsOpen known c e s (record seen { slots = slots'; bay = bay })) is
    (subst (λ (o : Option ConnectionSeen). EndsWhere known o c e seen (record seen { slots = slots'; bay = bay })) (sym at) (record {
      provider = provider;
      connections = stay;
      changed = ap (λ (ss : Slots). record seen { slots = ss; bay = bay }) (ended ∙ ap (λ (ss : Slots). set ss c.0 (Ended e)) away ∙ set_twice seen.slots c.0 Away (Ended e));
    }))
