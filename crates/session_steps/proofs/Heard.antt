-- Reads.
use Rattle.std.proofs.Common.{◌≡◌, ◌≢◌, ℕ, ◌+◌, ◌<◌, ◌≤◌, Bool, true, false, ◌⊎◌, inl, inr, Some, None, List, [], ◌∷◌, ◌++◌, set, length, cond, ◌&&◌, refl, sym, ap, ◌∙◌, subst, arith}
use Rattle.std.specs.Prelude.{Option, slice_get, is_some}
use Rattle.std.specs.Str.{bytes_eq}
use Rattle.std.proofs.lemmas.Bool.{cases_eq}
use Rattle.std.proofs.lemmas.Option.{slice_get_within}
use Rattle.std.proofs.lemmas.Slice.Eq.{bytes_eq-Decides}
use Rattle.std.proofs.lemmas.List.{length-set}
use Rattle.xp_base.specs.Counts.{Rose}
use Rattle.xp_base.specs.Told.{told_append}
use Rattle.xp_base.specs.declared.numbers.Conn.{Conn}
use Rattle.link_bay.specs.Connections.{ConnectionRecord, OthersStay, fresh_connection}
use Rattle.link_bay.specs.Answers.{ReadGives}
use Rattle.link_bay.specs.declared.bay.Gave.{Gave}
use Rattle.link_bay.specs.declared.bay.Gave.TheVariants as G
use Rattle.link_bay.specs.declared.bay.Wrote.TheVariants as B
use Rattle.hello_caps.specs.declared.caps.HelloFault.{HelloFault}
use Rattle.packet_frames.specs.Written.{packet_bytes}
use Rattle.hello_caps.specs.Replies.{goodbye_value}
use Rattle.packet_kinds.specs.Talk.{talk}
use Rattle.window_model.specs.Desktop.{Window}
use Rattle.client_talk.specs.declared.ending.Ending.{Ending}
use Rattle.client_talk.specs.declared.ending.Ending.TheVariants as W
use Rattle.client_talk.specs.Talked.{server_limit, HasGreeted}
use Rattle.client_talk.specs.Kept.{EndsHearing}
use Rattle.attached_client.specs.Client.{ClientSeen}
use Rattle.attached_client.specs.Acting.{acts}
use Rattle.connection_table.specs.Tables.{Slot, Open, Away, Ended, is_open, open_at, open_count}
use Rattle.connection_ends.specs.Causes.{TellsThat, EndsTalk, ReturnsAs, HasCause, IsOfSteps, end_of}
use Rattle.connection_ends.specs.Laws.{GoOn, IsEarlier, CausesStay, CausesCountFromEarlier, OnlySettledSpeaksOfTheDesktop}
use Rattle.connection_ends.specs.declared.end.End.{End}
use Rattle.connection_ends.specs.declared.end.End.TheVariants as E
use Rattle.open_connection.specs.Connection.{ConnectionSeen}
use Rattle.open_connection.specs.Reading.{HearGives}
use Rattle.open_connection.specs.declared.heard.Heard.{Heard}
use Rattle.open_connection.specs.declared.heard.Heard.TheVariants as H
use Rattle.connection_steps.specs.Kept.{IsConnection}
use Rattle.connection_steps.specs.Laws.{SameBytes, WaitingKeeps, Gives, HearingKeeps, HearingEndsIt, GreetsAs, StandingIsGreeted, ReadingGreets, SaysGoodbye, RefusedGetsGoodbye}
use Rattle.session_steps.specs.declared.answers.Received.{Received}
use Rattle.session_steps.specs.Seen.{Known, Seen}
use Rattle.session_steps.specs.Slots.{Slots, change_first, is_some_uuid, is_named, taken_over, overtaken}
use Rattle.session_steps.specs.Reading.{Closes, puts, greeted_by, with_ignored, HeardGives, HearsOf, ReadComesTo, Reads, ReceivesFrom, Receives}
use Rattle.session_steps.specs.Steady.{Phase, TakerIsKnown, EndsIn, HasEnded, IsSlot, AreSlots, IsSteady}
use Rattle.session_steps.specs.Laws.{ReceiveKeeps}
use Rattle.session_steps.proofs.Places.{set_at, set_same, set_keeps, first_long, first_at, first_fixed, first_behind, open_slot, open_set, open_first}
use Rattle.session_steps.proofs.Staying.{AllGoOn, goes_same, slot_stays}
use Rattle.session_steps.proofs.Since.{earlier_same, earlier_through, read_earlier, write_earlier, all_earlier, since_goes, step_ends}

-- what becomes of causes
pub record Causes : Type 0 where
  pub stay : CausesStay
  pub count_earlier : CausesCountFromEarlier
  pub any_desk : OnlySettledSpeaksOfTheDesktop

-- a connection with the uuid of a later one returns as that one
returns : (uuid : List ℕ) (earlier later : Option (List ℕ)) (a client : ClientSeen) → client.caps.uuid ≡ uuid → GreetsAs earlier a → GreetsAs later client → (is_some_uuid uuid && bytes_eq a.caps.uuid uuid) ≡ true
    → TellsThat earlier (λ given. TellsThat later (ReturnsAs given))
returns uuid None later a client same was now named = tt
returns uuid (Some given) None a client same was now named = tt
returns uuid (Some given) (Some given') a client same was now named = record {
  caps = a.caps;
  caps' = client.caps;
  greeted = was;
  greeted' = now;
  same = same ∙ sym equal;
  named = λ none. not_empty uuid (sym equal ∙ none) (both_true (is_some_uuid uuid) (bytes_eq a.caps.uuid uuid) named).0;
}
  where
    both_true : (p q : Bool) → (p && q) ≡ true → (p ≡ true) × (q ≡ true)
    both_true true q is = (refl, is)
    both_true false q is = absurd (cc is)

    equal : a.caps.uuid ≡ uuid
    equal = (bytes_eq-Decides a.caps.uuid uuid).0 (both_true (is_some_uuid uuid) (bytes_eq a.caps.uuid uuid) named).1

    not_empty : (bytes : List ℕ) → bytes ≡ [] → is_some_uuid bytes ≡ true → ⊥
    not_empty [] none some = cc some
    not_empty (byte ∷ bytes) none some = cc none

none_was : {A : Type 0} (o : Option A) → is_some o ≡ false → o ≡ None
none_was None is = refl
none_was (Some a) is = absurd (cc is)

-- no change of a take-over opens one
taken_closes : (c : Conn) (uuid : List ℕ) (s : Slot ConnectionSeen End) → is_open s ≡ false → is_open (taken_over c uuid s) ≡ false
taken_closes c uuid (Open connection) is = absurd (cc is)
taken_closes c uuid Away is = refl
taken_closes c uuid (Ended e) is = refl

module _ (causes : Causes) {B : Type 0} (known : Known B) (phase : Phase) (were_opened : ℕ → Bool) (c : Conn) (connection : ConnectionSeen) (old : Seen B) (bay : B)
    (steady : IsSteady known phase were_opened old) (at : slice_get old.slots c.0 ≡ Some (Open connection))
    (others : OthersStay (known.connection old.bay) (known.connection bay) c.0) (provider : known.provider bay ≡ known.provider old.bay)
    (earlier : IsEarlier (known.connection old.bay c.0) (known.connection bay c.0)) where
  count : ℕ
  count = length old.slots

  abbrev Keeps : ℕ → Slot ConnectionSeen End → Type 0
  Keeps j slot = IsSlot known.tells phase old.desk were_opened (known.connection bay) (length old.slots) j slot

  all_go : AllGoOn (length old.slots) (known.connection old.bay) (known.connection bay)
  all_go j low = go (cases_eq j c.0)
    where
      go : (j ≡ c.0) ⊎ (j ≢ c.0) → GoOn (known.connection old.bay j).given (known.connection bay j).given
      go (inl here) = subst (λ i. GoOn (known.connection old.bay i).given (known.connection bay i).given) (sym here) earlier.given
      go (inr there) = goes_same (known.connection old.bay j).given (known.connection bay j).given (ap (λ (r : ConnectionRecord). r.given) (others j there))

  pub other_slot : (j : ℕ) (slot : Slot ConnectionSeen End) → j ≢ c.0 → slice_get old.slots j ≡ Some slot → Keeps j slot
  other_slot j slot there found = slot_stays causes.stay known.tells phase old.desk were_opened (known.connection old.bay) (known.connection bay) (length old.slots) (length old.slots) all_go (omega arith) j slot (others j there) (steady.slots j slot found)

  -- the connection's slot is another, and those of others are kept
  pub put : (slots : Slots) (slot : Slot ConnectionSeen End) (ignored : ℕ) (greeted : Bool) → length slots ≡ length old.slots → ((j : ℕ) (e : End) → slice_get old.slots j ≡ Some (Ended e) → slice_get slots j ≡ Some (Ended e))
      → open_count (set slots c.0 slot) ≤ open_count old.slots
      → ((j : ℕ) (s : Slot ConnectionSeen End) → j ≢ c.0 → slice_get slots j ≡ Some s → Keeps j s) → Keeps c.0 slot
      → IsSteady known phase were_opened (record old { slots = set slots c.0 slot; ignored = ignored; greeted = greeted; bay = bay })
  put slots slot ignored greeted long stays fewer rest here = record {
    desktop = steady.desktop;
    holds = steady.holds;
    clocked = steady.clocked;
    counted = all ∙ steady.counted ∙ ap (λ p. p.count) (sym provider);
    numbered = let few = steady.numbered in let same = ap (λ p. p.count) provider in omega (arith, few, same);
    few = let most = steady.few in omega (arith, most, fewer);
    failed = λ is. subst (λ p. 1 ≤ p.faults) (sym provider) (steady.failed is);
    slots = λ j s found. subst (λ n. IsSlot known.tells phase old.desk were_opened (known.connection bay) n j s) (sym all) (go j s (set_at slots c.0 j slot s found));
    since = since_goes phase old.desk old.slots (set slots c.0 slot) (known.connection old.bay) (known.connection bay)
        (λ k low. all_earlier (known.connection old.bay) (known.connection bay) c.0 others earlier k)
        (λ k e is. set_keeps slots c.0 k slot (Ended e) (λ same. absurd (cc (sym at ∙ subst (λ j. slice_get old.slots j ≡ Some (Ended e)) same is))) (stays k e is))
        (omega (arith, all)) steady.since;
  }
    where
      all : length (set slots c.0 slot) ≡ length old.slots
      all = length-set slots c.0 slot ∙ long

      go : (j : ℕ) (s : Slot ConnectionSeen End) → ((j ≡ c.0) × (s ≡ slot)) ⊎ ((j ≢ c.0) × (slice_get slots j ≡ Some s)) → Keeps j s
      go j s (inl same) = subst (λ i. Keeps i s) (sym same.0) (subst (Keeps c.0) (sym same.1) here)
      go j s (inr other) = rest j s other.0 other.1

  -- no other connection changed
  pub put_alone : (slot : Slot ConnectionSeen End) → Keeps c.0 slot → IsSteady known phase were_opened (puts c slot old bay)
  put_alone slot here = put old.slots slot old.ignored old.greeted refl (λ j e is. is) (open_set old.slots c.0 connection slot at) other_slot here

  -- an end that this step gives to a connection that was open
  pub ends_here : (j : ℕ) (d : ConnectionSeen) (e : End) → slice_get old.slots j ≡ Some (Open d) → IsOfSteps e → HasCause [] (known.connection old.bay) (known.connection bay) j e
      → EndsIn known.tells phase (known.connection bay) j e
  ends_here j d e found of_steps cause =
      step_ends causes.count_earlier causes.any_desk known.tells old.desk were_opened old.slots (known.connection old.bay) (known.connection bay) j d found (steady.slots j (Open d) found) e of_steps cause phase steady.since

  -- what an earlier connection with the uuid comes to
  taken_keeps : StandingIsGreeted → (client : ClientSeen) → GreetsAs (known.connection bay c.0).given client → (j : ℕ) (s : Slot ConnectionSeen End) → j < c.0 → slice_get old.slots j ≡ Some s → Keeps j (taken_over c client.caps.uuid s)
  taken_keeps stands client greets j Away low found = absurd (steady.slots j Away found)
  taken_keeps stands client greets j (Ended e) low found = other_slot j (Ended e) (λ same. omega (arith, low, same)) found
  taken_keeps stands client greets j (Open d) low found = by_name d.client refl (is_named client.caps.uuid d.client) refl
    where
      apart : j ≢ c.0
      apart same = omega (arith, low, same)

      by_name : (o : Option ClientSeen) → d.client ≡ o → (b : Bool) → is_named client.caps.uuid d.client ≡ b → Keeps j (cond b (Ended (E.TakenOver c)) (Open d))
      by_name o is false named = other_slot j (Open d) apart found
      by_name None is true named = absurd (let bad : false ≡ true = sym (ap (is_named client.caps.uuid) is) ∙ named in cc bad)
      by_name (Some a) is true named = record {
        taker = slice_get_within old.slots c.0 (Open connection) at;
        cause = ends_here j d (E.TakenOver c) found tt (low, returns client.caps.uuid (known.connection bay j).given (known.connection bay c.0).given a client refl was greets (sym (ap (is_named client.caps.uuid) is) ∙ named));
      }
        where
          was : GreetsAs (known.connection bay j).given a
          was = subst (λ (r : ConnectionRecord). GreetsAs r.given a) (sym (others j apart)) (stands known.tells old.desk were_opened j (known.connection old.bay j) d a is (steady.slots j (Open d) found))

  -- slots after a read that attached this client, or none
  pub rest_keeps : StandingIsGreeted → (before : Bool) (after : Option ClientSeen) → ((client : ClientSeen) → before ≡ false → after ≡ Some client → GreetsAs (known.connection bay c.0).given client)
      → (j : ℕ) (s : Slot ConnectionSeen End) → j ≢ c.0 → slice_get (overtaken c before after old.slots) j ≡ Some s → Keeps j s
  rest_keeps stands before None greets j s apart found = other_slot j s apart found
  rest_keeps stands true (Some client) greets j s apart found = other_slot j s apart found
  rest_keeps stands false (Some client) greets j s apart found = go (first_at (taken_over c client.caps.uuid) c.0 old.slots j s found)
    where
      go : ((j < c.0) × ((b : Slot ConnectionSeen End) × (slice_get old.slots j ≡ Some b) × (s ≡ taken_over c client.caps.uuid b))) ⊎ (slice_get old.slots j ≡ Some s) → Keeps j s
      go (inl early) = subst (Keeps j) (sym early.1.2) (taken_keeps stands client (greets client refl refl) j early.1.0 early.0 early.1.1)
      go (inr late) = other_slot j s apart late

  over_long : (before : Bool) (after : Option ClientSeen) → length (overtaken c before after old.slots) ≡ length old.slots
  over_long before None = refl
  over_long true (Some client) = refl
  over_long false (Some client) = first_long (taken_over c client.caps.uuid) c.0 old.slots

  over_ended : (before : Bool) (after : Option ClientSeen) (j : ℕ) (e : End) → slice_get old.slots j ≡ Some (Ended e) → slice_get (overtaken c before after old.slots) j ≡ Some (Ended e)
  over_ended before None j e is = is
  over_ended true (Some client) j e is = is
  over_ended false (Some client) j e is = first_fixed (taken_over c client.caps.uuid) c.0 old.slots j (Ended e) refl is

  over_at : (before : Bool) (after : Option ClientSeen) → slice_get (overtaken c before after old.slots) c.0 ≡ Some (Open connection)
  over_at before None = at
  over_at true (Some client) = at
  over_at false (Some client) = first_behind (taken_over c client.caps.uuid) c.0 old.slots c.0 (omega arith) ∙ at

  over_few : (before : Bool) (after : Option ClientSeen) → open_count (overtaken c before after old.slots) ≤ open_count old.slots
  over_few before None = omega arith
  over_few true (Some client) = omega arith
  over_few false (Some client) = open_first (taken_over c client.caps.uuid) (taken_closes c client.caps.uuid) c.0 old.slots

  pub put_over : StandingIsGreeted → (before : Bool) (after : Option ClientSeen) (ignored : ℕ) (slot : Slot ConnectionSeen End) → ((client : ClientSeen) → before ≡ false → after ≡ Some client → GreetsAs (known.connection bay c.0).given client)
      → Keeps c.0 slot → IsSteady known phase were_opened (puts c slot (with_ignored ignored (greeted_by c before after old)) bay)
  put_over stands before after ignored slot greets here =
      let slots = overtaken c before after old.slots in
      put slots slot _ _ (over_long before after) (over_ended before after)
      (let fewer = open_set slots c.0 connection slot (over_at before after) in let less = over_few before after in omega (arith, fewer, less))
      (rest_keeps stands before after greets) here

-- the laws that a read stands on
pub record Laws : Type 0 where
  pub causes : Causes
  pub waiting : WaitingKeeps
  pub hearing : HearingKeeps
  pub ends : HearingEndsIt
  pub stands : StandingIsGreeted
  pub reads : ReadingGreets
  pub goodbye : RefusedGetsGoodbye

-- an end by the bytes is one of a step, and no take-over
ending_of_steps : (ending : Ending) → IsOfSteps (end_of ending)
ending_of_steps W.Left = tt
ending_of_steps (W.Refused why) = tt
ending_of_steps (W.Broken place kind) = tt

ending_taker : (count : ℕ) (ending : Ending) → TakerIsKnown count (end_of ending)
ending_taker count W.Left = tt
ending_taker count (W.Refused why) = tt
ending_taker count (W.Broken place kind) = tt

-- a close gives nothing
said_given : (why : HelloFault) (r r' : ConnectionRecord) → SaysGoodbye why r r' → r'.given ≡ r.given
said_given why r r' (B.Took n, write) = ap (λ (q : ConnectionRecord). q.given) write.2
said_given why r r' (B.Failed, write) = ap (λ (q : ConnectionRecord). q.given) write.1
said_given why r r' (B.NoMemory, write) = ap (λ (q : ConnectionRecord). q.given) write

closed_earlier : (ending : Ending) (r r' : ConnectionRecord) → Closes ending r r' → IsEarlier r r'
closed_earlier W.Left r r' is = earlier_same r r' is
closed_earlier (W.Refused why) r r' is = write_earlier r r' (packet_bytes (goodbye_value why) None) is.0 is.1
closed_earlier (W.Broken place kind) r r' is = earlier_same r r' is

closed_given : (ending : Ending) (r r' : ConnectionRecord) → Closes ending r r' → r'.given ≡ r.given
closed_given W.Left r r' is = ap (λ (q : ConnectionRecord). q.given) is
closed_given (W.Refused why) r r' is = said_given why r r' is
closed_given (W.Broken place kind) r r' is = ap (λ (q : ConnectionRecord). q.given) is

module _ (laws : Laws) {B : Type 0} (known : Known B) (phase : Phase) (were_opened : ℕ → Bool) (c : Conn) (connection : ConnectionSeen) (old new : Seen B)
    (steady : IsSteady known phase were_opened old) (at : slice_get old.slots c.0 ≡ Some (Open connection))
    (others : OthersStay (known.connection old.bay) (known.connection new.bay) c.0) (provider : known.provider new.bay ≡ known.provider old.bay) where
  abbrev pub r : ConnectionRecord
  r = known.connection old.bay c.0

  abbrev pub r' : ConnectionRecord
  r' = known.connection new.bay c.0

  kept : IsConnection known.tells old.desk were_opened c.0 (known.connection old.bay c.0) connection
  kept = steady.slots c.0 (Open connection) at

  ends_so : (e : End) → IsEarlier (known.connection old.bay c.0) (known.connection new.bay c.0) → IsOfSteps e → HasCause [] (known.connection old.bay) (known.connection new.bay) c.0 e
      → EndsIn known.tells phase (known.connection new.bay) c.0 e
  ends_so e earlier of_steps cause = ends_here laws.causes known phase were_opened c connection old new.bay steady at others provider earlier c.0 connection e at of_steps cause

  -- bytes were read, and came to this
  bytes_keep : (bytes : List ℕ) (n : ℕ) (behind : ConnectionRecord) (heard : Heard) (after : ConnectionSeen) (answer : Received) → Gives bytes (known.connection old.bay c.0) behind → IsEarlier (known.connection old.bay c.0) behind
      → HearGives (acts old.desk c.0 old.clock) connection bytes heard after → HeardGives c connection after n old behind (known.connection new.bay c.0) heard answer new → IsSteady known phase were_opened new
  bytes_keep bytes n behind (H.GoesOn ignored) after answer gives before hears is =
      subst (IsSteady known phase were_opened) (sym is.2)
      (put_over laws.causes known phase were_opened c connection old new.bay steady at others provider
      (earlier_through r behind r' before (earlier_same behind r' is.1))
      laws.stands (is_some connection.client) after.client ignored (Open after)
      (λ client fresh attached. subst (λ (q : ConnectionRecord). GreetsAs q.given client) (sym is.1) (laws.reads known.tells old.desk were_opened c.0 old.clock r behind connection after client bytes (H.GoesOn ignored) (none_was connection.client fresh) attached gives hears kept))
      (subst (λ (q : ConnectionRecord). IsConnection known.tells old.desk were_opened c.0 q after) (sym is.1)
      (laws.hearing known.tells old.desk were_opened c.0 old.clock r behind connection after bytes hears.0 steady.desktop steady.holds gives hears.2 kept)))
  bytes_keep bytes n behind (H.Ends ending ignored) after answer gives before hears is =
      subst (IsSteady known phase were_opened) (sym is.2)
      (put_over laws.causes known phase were_opened c connection old new.bay steady at others provider
      (earlier_through r behind r' before (closed_earlier ending behind r' is.1))
      laws.stands (is_some connection.client) after.client ignored (Ended (end_of ending))
      (λ client fresh attached. subst (λ (o : Option (List ℕ)). GreetsAs o client) (sym (closed_given ending behind r' is.1)) (laws.reads known.tells old.desk were_opened c.0 old.clock r behind connection after client bytes (H.Ends ending ignored) (none_was connection.client fresh) attached gives hears kept))
      (record { taker = ending_taker (length old.slots) ending; cause = ends_so (end_of ending) (earlier_through r behind r' before (closed_earlier ending behind r' is.1)) (ending_of_steps ending) (causes ending hears.2 is.1) }))
    where
      causes : (ending : Ending) → EndsHearing (acts old.desk c.0 old.clock) connection.framing connection.client bytes ending after.client hears.0 → Closes ending behind (known.connection new.bay c.0)
          → HasCause [] (known.connection old.bay) (known.connection new.bay) c.0 (end_of ending)
      causes W.Left hearing close = inl (subst (λ (q : ConnectionRecord). TellsThat q.given (EndsTalk W.Left)) (sym close) (laws.ends known.tells old.desk were_opened c.0 old.clock r behind connection after.client bytes W.Left hears.0 gives hearing kept))
      causes (W.Refused why) hearing close = laws.goodbye known.tells old.desk were_opened c.0 old.clock r behind r' connection after.client bytes why hears.0 gives hearing close kept
      causes (W.Broken place kind) hearing close = subst (λ (q : ConnectionRecord). TellsThat q.given (EndsTalk (W.Broken place kind))) (sym close) (laws.ends known.tells old.desk were_opened c.0 old.clock r behind connection after.client bytes (W.Broken place kind) hears.0 gives hearing kept)
  bytes_keep bytes n behind (H.NoMemory ignored) after answer gives before hears is =
      subst (IsSteady known phase were_opened) (sym is.2)
      (put_over laws.causes known phase were_opened c connection old new.bay steady at others provider
      (earlier_through r behind r' before (earlier_same behind r' is.1))
      laws.stands (is_some connection.client) after.client ignored (Ended E.Short)
      (λ client fresh attached. subst (λ (q : ConnectionRecord). GreetsAs q.given client) (sym is.1) (laws.reads known.tells old.desk were_opened c.0 old.clock r behind connection after client bytes (H.NoMemory ignored) (none_was connection.client fresh) attached gives hears kept))
      (record { taker = tt; cause = ends_so E.Short (earlier_through r behind r' before (earlier_same behind r' is.1)) tt tt }))

  read_on : (gave : Gave) (bytes : List ℕ) (behind : ConnectionRecord) → ReadGives (known.connection old.bay c.0) behind [] bytes 4096 gave → r' ≡ behind → IsEarlier r r'
  read_on gave bytes behind read now = earlier_through r behind r' (read_earlier r behind [] bytes 4096 gave read) (earlier_same behind r' now)

  -- by what the read gave
  read_keeps : (gave : Gave) (bytes : List ℕ) (behind : ConnectionRecord) (answer : Received) → ReadGives (known.connection old.bay c.0) behind [] bytes 4096 gave
      → ReadComesTo c connection bytes old behind (known.connection new.bay c.0) gave answer new → IsSteady known phase were_opened new
  read_keeps (G.Bytes n) bytes behind answer read comes = bytes_keep bytes n behind comes.heard comes.after answer gives (read_earlier r behind [] bytes 4096 (G.Bytes n) read) comes.hears comes.gives
    where
      gives : Gives bytes (known.connection old.bay c.0) behind
      gives = record {
        sent = ap (λ (q : ConnectionRecord). q.sent) read.5;
        given = ap (λ (q : ConnectionRecord). q.given) read.5 ∙ ap (told_append r.given) (sym read.4);
        heard = ap (λ (q : ConnectionRecord). q.heard) read.5;
      }
  read_keeps G.Again bytes behind answer read comes =
      let now : r' ≡ behind = comes.1 in
      let same : SameBytes r r' = record {
        sent = ap (λ (q : ConnectionRecord). q.sent) (now ∙ read.2);
        given = ap (λ (q : ConnectionRecord). q.given) (now ∙ read.2);
        heard = ap (λ (q : ConnectionRecord). q.heard) (now ∙ read.2);
      } in
      subst (IsSteady known phase were_opened) (sym (comes.2 ∙ stays))
      (put_alone laws.causes known phase were_opened c connection old new.bay steady at others provider (read_on G.Again bytes behind read now) (Open connection)
      (laws.waiting known.tells old.desk were_opened c.0 r r' connection same kept))
    where
      stays : record old { bay = new.bay } ≡ puts c (Open connection) old new.bay
      stays = ap (λ (slots : Slots). record old { slots = slots; bay = new.bay }) (sym (set_same old.slots c.0 (Open connection) at))
  read_keeps G.End bytes behind answer read comes =
      let now : r' ≡ behind = comes.1 in
      subst (IsSteady known phase were_opened) (sym comes.2)
      (put_alone laws.causes known phase were_opened c connection old new.bay steady at others provider (read_on G.End bytes behind read now) (Ended E.Left)
      (record { taker = tt; cause = ends_so E.Left (read_on G.End bytes behind read now) tt (inr (subst (λ (q : ConnectionRecord). Rose r.ends q.ends) (sym now) read.1)) }))
  read_keeps G.Failed bytes behind answer read comes =
      let now : r' ≡ behind = comes.1 in
      subst (IsSteady known phase were_opened) (sym comes.2)
      (put_alone laws.causes known phase were_opened c connection old new.bay steady at others provider (read_on G.Failed bytes behind read now) (Ended E.LinkFault)
      (record { taker = tt; cause = ends_so E.LinkFault (read_on G.Failed bytes behind read now) tt (subst (λ (q : ConnectionRecord). Rose r.faults q.faults) (sym now) read.1) }))
  read_keeps G.NoMemory bytes behind answer read comes =
      let now : r' ≡ behind = comes.1 in
      subst (IsSteady known phase were_opened) (sym comes.2)
      (put_alone laws.causes known phase were_opened c connection old new.bay steady at others provider (read_on G.NoMemory bytes behind read now) (Ended E.Short)
      (record { taker = tt; cause = ends_so E.Short (read_on G.NoMemory bytes behind read now) tt tt }))

pub receive_keeps : Laws → {B : Type 0} → ReceiveKeeps B
receive_keeps laws known phase were_opened c old new answer is steady = go (open_at old.slots c.0) refl is
  where
    go : (o : Option ConnectionSeen) → open_at old.slots c.0 ≡ o → ReceivesFrom known c o old answer new → IsSteady known phase were_opened new
    go None at is = subst (IsSteady known phase were_opened) (sym is.1) steady
    go (Some connection) at is =
        read_keeps laws known phase were_opened c connection old new steady (open_slot old.slots c.0 connection at) is.others is.provider is.gave is.bytes is.behind answer is.read is.comes
