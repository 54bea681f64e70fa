-- A read from a connection that was taken out, as the step of a session.
use Rattle.std.proofs.Common.{◌≡◌, ℕ, Bool, true, false, Option, Some, None, List, [], set, refl, sym, ap, ◌∙◌, subst}
use Rattle.xp_base.specs.declared.numbers.Conn.{Conn}
use Rattle.link_bay.specs.Connections.{ConnectionRecord, OthersStay, AllStay}
use Rattle.link_bay.specs.Answers.{ReadGives}
use Rattle.link_bay.specs.declared.bay.Gave.{Gave}
use Rattle.link_bay.specs.declared.bay.Gave.TheVariants as G
use Rattle.attached_client.specs.Client.{ClientSeen}
use Rattle.connection_table.specs.Tables.{Slot, Open, Away, Ended, open_at}
use Rattle.connection_ends.specs.declared.end.End.{End}
use Rattle.connection_ends.specs.declared.end.End.TheVariants as E
use Rattle.connection_ends.specs.Causes.{end_of}
use Rattle.open_connection.specs.Connection.{ConnectionSeen}
use Rattle.open_connection.specs.declared.heard.Heard.{Heard}
use Rattle.open_connection.specs.declared.heard.Heard.TheVariants as H
use Rattle.session_steps.specs.declared.answers.Received.{Received}
use Rattle.session_steps.specs.declared.answers.Received.TheVariants as R
use Rattle.session_steps.specs.Seen.{Known, Seen}
use Rattle.session_steps.specs.Slots.{Slots, taken_over, overtaken}
use Rattle.session_steps.specs.Reading.{puts, greeted_by, with_ignored, Finishes, HearsOf, ReadComesTo, ReceivesFrom, Receives}
use Rattle.session_state.proofs.Sets.{set_twice, set_same, first_set}
use Rattle.session_state.proofs.Viewed.{open_slot}

module _ {B : Type 0} (known : Known B) (c : Conn) (seen old : Seen B) (slots : Slots) (bay : B) (connection : ConnectionSeen) (is : seen ≡ old) (at : open_at seen.slots c.0 ≡ Some connection) (out : slots ≡ set seen.slots c.0 Away)
    (others : OthersStay (known.connection seen.bay) (known.connection bay) c.0) (provider : known.provider bay ≡ known.provider seen.bay) where
  abbrev pub away : Seen B
  away = record seen { slots = slots; bay = bay }

  -- any read
  pub read_so : (gave : Gave) (bytes : List ℕ) (answer : Received) (new : Seen B) → ReadGives (known.connection seen.bay c.0) (known.connection bay c.0) [] bytes 4096 gave
      → OthersStay (known.connection bay) (known.connection new.bay) c.0 → known.provider new.bay ≡ known.provider bay
      → ReadComesTo c connection bytes seen (known.connection bay c.0) (known.connection new.bay c.0) gave answer new → Receives known c old answer new
  read_so gave bytes answer new read stay same comes = subst (λ (s : Seen B). Receives known c s answer new) is
      (subst (λ (o : Option ConnectionSeen). ReceivesFrom known c o seen answer new) (sym at) (record {
        gave = gave;
        bytes = bytes;
        behind = known.connection bay c.0;
        read = read;
        others = λ d apart. stay d apart ∙ others d apart;
        provider = same ∙ provider;
        comes = comes;
      }))

  -- the slot of one that was taken out is put over
  over_set : (was : Bool) (after : Option ClientSeen) (slot : Slot ConnectionSeen End) → set (overtaken c was after slots) c.0 slot ≡ set (overtaken c was after seen.slots) c.0 slot
  over_set was None slot = ap (λ (ss : Slots). set ss c.0 slot) out ∙ set_twice seen.slots c.0 Away slot
  over_set true (Some client) slot = ap (λ (ss : Slots). set ss c.0 slot) out ∙ set_twice seen.slots c.0 Away slot
  over_set false (Some client) slot = ap (λ (ss : Slots). set (overtaken c false (Some client) ss) c.0 slot) out ∙ first_set (taken_over c client.caps.uuid) c.0 seen.slots Away slot

  heard_over : (was : Bool) (after : Option ClientSeen) (ignored : ℕ) (slot : Slot ConnectionSeen End) (nb : B) → puts c slot (with_ignored ignored (greeted_by c was after away)) nb ≡ puts c slot (with_ignored ignored (greeted_by c was after seen)) nb
  heard_over was after ignored slot nb = ap (λ (ss : Slots). record (with_ignored ignored (greeted_by c was after seen)) { slots = ss; bay = nb }) (over_set was after slot)

  finish : (heard : Heard) (was : Bool) (after : ConnectionSeen) (n : ℕ) (r r' : ConnectionRecord) (answer : Received) (new : Seen B) → Finishes c after n (greeted_by c was after.client away) r r' heard answer new
      → Finishes c after n (greeted_by c was after.client seen) r r' heard answer new
  finish (H.GoesOn ignored) was after n r r' answer new gives = (gives.0, gives.1, gives.2 ∙ heard_over was after.client ignored (Open after) new.bay)
  finish (H.Ends ending ignored) was after n r r' answer new gives = (gives.0, gives.1, gives.2 ∙ heard_over was after.client ignored (Ended (end_of ending)) new.bay)
  finish (H.NoMemory ignored) was after n r r' answer new gives = (gives.0, gives.1, gives.2 ∙ heard_over was after.client ignored (Ended E.Short) new.bay)

  -- bytes
  pub bytes_so : (n : ℕ) (bytes : List ℕ) (answer : Received) (new : Seen B) → ReadGives (known.connection seen.bay c.0) (known.connection bay c.0) [] bytes 4096 (G.Bytes n)
      → OthersStay (known.connection bay) (known.connection new.bay) c.0 → known.provider new.bay ≡ known.provider bay
      → HearsOf c connection bytes n away (known.connection bay c.0) (known.connection new.bay c.0) answer new → Receives known c old answer new
  bytes_so n bytes answer new read stay same hears = read_so (G.Bytes n) bytes answer new read stay same (record {
    heard = hears.heard;
    after = hears.after;
    hears = hears.hears;
    gives = finish hears.heard _ hears.after n _ _ answer new hears.gives;
  })

  -- nothing to read now: it was put back
  pub again_so : (bytes : List ℕ) (slots' : Slots) → ReadGives (known.connection seen.bay c.0) (known.connection bay c.0) [] bytes 4096 G.Again → slots' ≡ set slots c.0 (Open connection)
      → Receives known c old R.Again (record seen { slots = slots'; bay = bay })
  again_so bytes slots' read back = read_so G.Again bytes R.Again (record seen { slots = slots'; bay = bay }) read (λ d apart. refl) refl (refl, refl, ap (λ (ss : Slots). record seen { slots = ss; bay = bay }) same)
    where
      same : slots' ≡ seen.slots
      same = back ∙ ap (λ (ss : Slots). set ss c.0 (Open connection)) out ∙ set_twice seen.slots c.0 Away (Open connection) ∙ set_same seen.slots c.0 (Open connection) (open_slot seen.slots c.0 connection at)

  -- it has ended
  ended : (e : End) (new : Seen B) → new ≡ puts c (Ended e) away new.bay → new ≡ puts c (Ended e) seen new.bay
  ended e new now = now ∙ ap (λ (ss : Slots). record seen { slots = ss; bay = new.bay }) (ap (λ (ss : Slots). set ss c.0 (Ended e)) out ∙ set_twice seen.slots c.0 Away (Ended e))

  module _ (bytes : List ℕ) (answer : Received) (new : Seen B) (stay : AllStay (known.connection bay) (known.connection new.bay)) (same : known.provider new.bay ≡ known.provider bay) where
    pub end_so : ReadGives (known.connection seen.bay c.0) (known.connection bay c.0) [] bytes 4096 G.End → answer ≡ R.Ended E.Left → new ≡ puts c (Ended E.Left) away new.bay → Receives known c old answer new
    end_so read says now = read_so G.End bytes answer new read (λ d apart. stay d) same (says, stay c.0, ended E.Left new now)

    pub failed_so : ReadGives (known.connection seen.bay c.0) (known.connection bay c.0) [] bytes 4096 G.Failed → answer ≡ R.Ended E.LinkFault → new ≡ puts c (Ended E.LinkFault) away new.bay → Receives known c old answer new
    failed_so read says now = read_so G.Failed bytes answer new read (λ d apart. stay d) same (says, stay c.0, ended E.LinkFault new now)

    pub short_so : ReadGives (known.connection seen.bay c.0) (known.connection bay c.0) [] bytes 4096 G.NoMemory → answer ≡ R.NoMemory → new ≡ puts c (Ended E.Short) away new.bay → Receives known c old answer new
    short_so read says now = read_so G.NoMemory bytes answer new read (λ d apart. stay d) same (says, stay c.0, ended E.Short new now)
