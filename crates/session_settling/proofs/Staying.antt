-- What acts on one connection leave of all others.
use Rattle.std.proofs.Common.{◌≡◌, ℕ, Bool, Option, Some, None, List, [], ◌∷◌, set, refl, sym, ap, ◌∙◌, subst}
use Rattle.std.specs.Prelude.{is_some}
use Rattle.xp_base.specs.declared.numbers.Conn.{Conn}
use Rattle.link_bay.specs.Connections.{ConnectionRecord}
use Rattle.link_bay.specs.declared.bay.Gave.{Gave}
use Rattle.link_bay.specs.declared.bay.Gave.TheVariants as G
use Rattle.connection_table.specs.Tables.{Slot, opened, open_at}
use Rattle.connection_ends.specs.declared.end.End.{End}
use Rattle.open_connection.specs.Connection.{ConnectionSeen}
use Rattle.open_connection.specs.declared.heard.Heard.{Heard}
use Rattle.open_connection.specs.declared.heard.Heard.TheVariants as H
use Rattle.session_steps.specs.declared.answers.Received.{Received}
use Rattle.session_steps.specs.declared.answers.Sent.{Sent}
use Rattle.session_steps.specs.Seen.{Known, Seen}
use Rattle.session_steps.specs.Slots.{overtaken}
use Rattle.session_steps.specs.Reading.{HeardGives, ReadComesTo, ReceivesFrom, Receives}
use Rattle.session_steps.specs.Sending.{WritesTo, Sends}
use Rattle.session_steps.specs.Settling.{Act, Accepting, Reading, Writing, Drawn, Closing, ActsSo, SettlesBy, settling_from}
use Rattle.session_steps.specs.Steady.{Phase}
use Rattle.session_settling.specs.Through.{IsSettling, AllMay, GoesThrough, IsOn}
use Rattle.session_settling.specs.Reading.{StaysOpen}
use Rattle.session_settling.proofs.Places.{StayBut, stay_same, stay_both, stay_put, stay_over, over_there}

-- the provider, and the slots of the others
pub record Leaves {B : Type 0} (known : Known B) (k : ℕ) (old new : Seen B) : Type 0 where
  pub provider : known.provider new.bay ≡ known.provider old.bay
  pub slots : StayBut k old.slots new.slots

module _ {B : Type 0} (known : Known B) where
  leaves_same : (k : ℕ) (old new : Seen B) → new ≡ old → Leaves known k old new
  leaves_same k old new same = subst (Leaves known k old) (sym same) (record { provider = refl; slots = stay_same k old.slots })

  leaves_both : (k : ℕ) (a b c : Seen B) → Leaves known k a b → Leaves known k b c → Leaves known k a c
  leaves_both k a b c p q = record { provider = q.provider ∙ p.provider; slots = stay_both k a.slots b.slots c.slots p.slots q.slots }

  module _ (c : Conn) (old new : Seen B) (connection : ConnectionSeen) (was : open_at old.slots c.0 ≡ Some connection) where
    put_stays : (slot : Slot ConnectionSeen End) → new.slots ≡ set old.slots c.0 slot → StayBut c.0 old.slots new.slots
    put_stays slot is = subst (StayBut c.0 old.slots) (sym is) (stay_put c.0 old.slots connection slot was)

    over_stays : (before : Bool) (after : _) (slot : Slot ConnectionSeen End) → new.slots ≡ set (overtaken c before after old.slots) c.0 slot → StayBut c.0 old.slots new.slots
    over_stays before after slot is =
        let over = overtaken c before after old.slots in
        subst (StayBut c.0 old.slots) (sym is) (stay_both c.0 old.slots over (set over c.0 slot) (stay_over c before after old.slots) (stay_put c.0 over connection slot (ap opened (over_there c before after old.slots) ∙ was)))

    heard_stays : (n : ℕ) (later : ConnectionSeen) (heard : Heard) (r r' : ConnectionRecord) (answer : Received) → HeardGives c connection later n old r r' heard answer new → StayBut c.0 old.slots new.slots
    heard_stays n later (H.GoesOn ignored) r r' answer gives = over_stays (is_some connection.client) later.client _ (ap (λ (s : Seen B). s.slots) gives.2)
    heard_stays n later (H.Ends ending ignored) r r' answer gives = over_stays (is_some connection.client) later.client _ (ap (λ (s : Seen B). s.slots) gives.2)
    heard_stays n later (H.NoMemory ignored) r r' answer gives = over_stays (is_some connection.client) later.client _ (ap (λ (s : Seen B). s.slots) gives.2)

    read_stays : (gave : Gave) (bytes : List ℕ) (r r' : ConnectionRecord) (answer : Received) → ReadComesTo c connection bytes old r r' gave answer new → StayBut c.0 old.slots new.slots
    read_stays (G.Bytes n) bytes r r' answer comes = heard_stays n comes.after comes.heard r r' answer comes.gives
    read_stays G.Again bytes r r' answer comes = subst (StayBut c.0 old.slots) (sym (ap (λ (s : Seen B). s.slots) comes.2)) (stay_same c.0 old.slots)
    read_stays G.End bytes r r' answer comes = put_stays _ (ap (λ (s : Seen B). s.slots) comes.2)
    read_stays G.Failed bytes r r' answer comes = put_stays _ (ap (λ (s : Seen B). s.slots) comes.2)
    read_stays G.NoMemory bytes r r' answer comes = put_stays _ (ap (λ (s : Seen B). s.slots) comes.2)

  reading_leaves : (c : Conn) (answer : Received) (old new : Seen B) → Receives known c old answer new → Leaves known c.0 old new
  reading_leaves c answer old new = go (open_at old.slots c.0) refl
    where
      go : (o : Option ConnectionSeen) → open_at old.slots c.0 ≡ o → ReceivesFrom known c o old answer new → Leaves known c.0 old new
      go None was receives = leaves_same c.0 old new receives.1
      go (Some q) was reads = record { provider = reads.provider; slots = read_stays c old new q was reads.gave reads.bytes reads.behind (known.connection new.bay c.0) answer reads.comes }

  writing_leaves : (c : Conn) (max : ℕ) (answer : Sent) (old new : Seen B) → Sends known c max old answer new → Leaves known c.0 old new
  writing_leaves c max answer old new = go (open_at old.slots c.0) refl
    where
      go : (o : Option ConnectionSeen) → open_at old.slots c.0 ≡ o → WritesTo known c max o old answer new → Leaves known c.0 old new
      go None was sends = leaves_same c.0 old new sends.1
      go (Some q) was writes = record { provider = writes.provider; slots = put_stays c old new q was _ (ap (λ (s : Seen B). s.slots) writes.gives.1) }

  act_leaves : (phase : Phase) (k : ℕ) (act : Act) (old new : Seen B) → IsOn k act → ActsSo known phase act old new → Leaves known k old new
  act_leaves phase k (Accepting answer) old new on acts = absurd on
  act_leaves phase k (Reading c answer) old new on acts = subst (λ j. Leaves known j old new) on (reading_leaves c answer old new acts)
  act_leaves phase k (Writing c max answer) old new on acts = subst (λ j. Leaves known j old new) on (writing_leaves c max answer old new acts.1)
  act_leaves phase k (Drawn c drawing) old new on acts = subst (λ j. Leaves known j old new) on (record {
    provider = ap (λ (s : Seen B). known.provider s.bay) acts.changed;
    slots = put_stays c old new acts.connection acts.opened _ (ap (λ (s : Seen B). s.slots) acts.changed);
  })
  act_leaves phase k (Closing c e) old new on acts = subst (λ j. Leaves known j old new) on (record {
    provider = acts.provider;
    slots = put_stays c old new acts.connection acts.opened _ (ap (λ (s : Seen B). s.slots) acts.changed);
  })

  acts_leave : (phase : Phase) (k : ℕ) (acts : List Act) (old new : Seen B) → AllMay (IsOn k) acts → SettlesBy known phase acts old new → Leaves known k old new
  acts_leave phase k [] old new may by = leaves_same k old new by
  acts_leave phase k (act ∷ acts) old new may by = leaves_both k old by.0 new (act_leaves phase k act old by.0 may.0 by.1) (acts_leave phase k acts by.0 new may.1 by.2)

  pub leaves : (k : ℕ) (old new : Seen B) → IsSettling known old → GoesThrough known (IsOn k) old new → Leaves known k old new
  leaves k old new settling through =
      let by = through settling.0 settling.1 settling.2 in
      acts_leave (settling_from known settling.0) k by.acts old new by.may by.by

  -- what is open was so
  pub was_open : (k : ℕ) (old new : Seen B) → IsSettling known old → GoesThrough known (IsOn k) old new → StaysOpen k new → StaysOpen k old
  was_open k old new settling through now = go (open_at old.slots k) refl
    where
      go : (o : Option ConnectionSeen) → open_at old.slots k ≡ o → StaysOpen k old
      go None was = let none = (leaves k old new settling through).slots.none k was in let bad : None ≡ Some now.0 = sym none ∙ now.1 in absurd (cc bad)
      go (Some q) was = (q, was)
