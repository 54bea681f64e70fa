-- No step but a paint line changes the desktop.
use Rattle.std.proofs.Common.{◌≡◌, ℕ, Option, Some, None, List, take, ap, ◌∙◌}
use Rattle.xp_base.specs.declared.numbers.Conn.{Conn}
use Rattle.std.specs.Prelude.{Result, Ok, Err}
use Rattle.xp_base.specs.declared.memory.NoMemory.{NoMemory}
use Rattle.link_bay.specs.Connections.{ConnectionRecord}
use Rattle.link_bay.specs.Provider.{ProviderRecord}
use Rattle.link_bay.specs.Answers.{OrderGives}
use Rattle.link_bay.specs.declared.order.Order.{Order}
use Rattle.link_bay.specs.declared.bay.Gave.{Gave}
use Rattle.link_bay.specs.declared.bay.Gave.TheVariants as G
use Rattle.script_lines.specs.declared.paint.Paint.{Paint}
use Rattle.paint_script.specs.Validity.{has_opened}
use Rattle.connection_table.specs.Tables.{open_at}
use Rattle.open_connection.specs.Connection.{ConnectionSeen}
use Rattle.open_connection.specs.declared.heard.Heard.{Heard}
use Rattle.open_connection.specs.declared.heard.Heard.TheVariants as H
use Rattle.session_steps.specs.declared.answers.Accepted.{Accepted}
use Rattle.session_steps.specs.declared.answers.Accepted.TheVariants as A
use Rattle.session_steps.specs.declared.answers.Received.{Received}
use Rattle.session_steps.specs.declared.answers.Sent.{Sent}
use Rattle.session_steps.specs.Seen.{Known, Seen}
use Rattle.session_steps.specs.Accepting.{Accepts}
use Rattle.session_steps.specs.Reading.{HeardGives, ReadComesTo, ReceivesFrom, Receives}
use Rattle.session_steps.specs.Sending.{WritesTo, Sends}
use Rattle.session_steps.specs.Steady.{Stepping, IsSteady}
use Rattle.session_state.specs.Ready.{IsReady}
use Rattle.whole_session.specs.Session.{IsSession}

module _ {B : Type 0} where
  desk_of : (old new : Seen B) (is : Seen B) → new ≡ is → is.desk ≡ old.desk → new.desk ≡ old.desk
  desk_of old new is same stays = ap (λ (s : Seen B). s.desk) same ∙ stays

  module _ (known : Known B) where
    pub accepts_desk : (answer : Accepted) (old new : Seen B) → Accepts known old answer new → new.desk ≡ old.desk
    accepts_desk A.Full old new accepts = ap (λ (s : Seen B). s.desk) accepts.1
    accepts_desk (A.Conn c) old new accepts = ap (λ (s : Seen B). s.desk) accepts.1
    accepts_desk A.Nobody old new accepts = ap (λ (s : Seen B). s.desk) accepts.1
    accepts_desk A.Failed old new accepts = ap (λ (s : Seen B). s.desk) accepts.1
    accepts_desk A.NoMemory old new accepts = ap (λ (s : Seen B). s.desk) accepts.2

    heard_desk : (c : Conn) (before later : ConnectionSeen) (n : ℕ) (old new : Seen B) (r r' : ConnectionRecord) (heard : Heard) (answer : Received) → HeardGives c before later n old r r' heard answer new → new.desk ≡ old.desk
    heard_desk c before later n old new r r' (H.GoesOn ignored) answer gives = ap (λ (s : Seen B). s.desk) gives.2
    heard_desk c before later n old new r r' (H.Ends ending ignored) answer gives = ap (λ (s : Seen B). s.desk) gives.2
    heard_desk c before later n old new r r' (H.NoMemory ignored) answer gives = ap (λ (s : Seen B). s.desk) gives.2

    read_desk : (c : Conn) (connection : ConnectionSeen) (bytes : List ℕ) (old new : Seen B) (r r' : ConnectionRecord) (gave : Gave) (answer : Received) → ReadComesTo c connection bytes old r r' gave answer new → new.desk ≡ old.desk
    read_desk c connection bytes old new r r' (G.Bytes n) answer comes = heard_desk c connection comes.after n old new r r' comes.heard answer comes.gives
    read_desk c connection bytes old new r r' G.Again answer comes = ap (λ (s : Seen B). s.desk) comes.2
    read_desk c connection bytes old new r r' G.End answer comes = ap (λ (s : Seen B). s.desk) comes.2
    read_desk c connection bytes old new r r' G.Failed answer comes = ap (λ (s : Seen B). s.desk) comes.2
    read_desk c connection bytes old new r r' G.NoMemory answer comes = ap (λ (s : Seen B). s.desk) comes.2

    pub receives_desk : (c : Conn) (answer : Received) (old new : Seen B) → Receives known c old answer new → new.desk ≡ old.desk
    receives_desk c answer old new = go (open_at old.slots c.0)
      where
        go : (o : Option ConnectionSeen) → ReceivesFrom known c o old answer new → new.desk ≡ old.desk
        go None receives = ap (λ (s : Seen B). s.desk) receives.1
        go (Some q) reads = read_desk c q reads.bytes old new reads.behind (known.connection new.bay c.0) reads.gave answer reads.comes

    pub sends_desk : (c : Conn) (max : ℕ) (answer : Sent) (old new : Seen B) → Sends known c max old answer new → new.desk ≡ old.desk
    sends_desk c max answer old new = go (open_at old.slots c.0)
      where
        go : (o : Option ConnectionSeen) → WritesTo known c max o old answer new → new.desk ≡ old.desk
        go None sends = ap (λ (s : Seen B). s.desk) sends.1
        go (Some q) writes = ap (λ (s : Seen B). s.desk) writes.gives.1

    -- the type's invariant after a step that leaves the script and the desktop
    pub steps_on : (lines : List Paint) (place : ℕ) (old new : Seen B) → IsSession known lines place old → new.desk ≡ old.desk → IsSteady known Stepping (has_opened (take place lines)) new → IsSession known lines place new
    steps_on lines place old new is same steady = record { valid = is.valid; placed = is.placed; desk = same ∙ is.desk; steady = steady }

    pub ready : (lines : List Paint) (place : ℕ) (s : Seen B) → IsSession known lines place s → IsReady known s
    ready lines place s is = record { counted = (is.steady).counted; early = (is.steady).clocked }

-- an order opens no connection, and is no fault
pub order_same : (old new : ProviderRecord) (order : Order) (result : Result (Unit {0}) NoMemory) → OrderGives old new order result → (new.count ≡ old.count) × (new.faults ≡ old.faults)
order_same old new order (Ok done) gives = (ap (λ (p : ProviderRecord). p.count) gives.1, ap (λ (p : ProviderRecord). p.faults) gives.1)
order_same old new order (Err none) gives = (ap (λ (p : ProviderRecord). p.count) gives, ap (λ (p : ProviderRecord). p.faults) gives)
