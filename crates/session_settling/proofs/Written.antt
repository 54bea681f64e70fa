-- A write while a session is settled.
use Rattle.std.proofs.Common.{◌≡◌, ℕ, ◌≤◌, ◌<◌, Bool, true, false, Option, Some, None, List, [], ◌∷◌, set, length, take, drop, refl, sym, ap, ◌∙◌, subst, arith}
use Rattle.std.specs.Prelude.{not, ◌≢◌}
use Rattle.std.proofs.lemmas.List.{length-append, length-take, length-drop}
use Rattle.xp_base.specs.Counts.{Rose, RoseOnlyIf, count_sum}
use Rattle.xp_base.specs.declared.numbers.Conn.{Conn}
use Rattle.xp_base.specs.Points.{Rectangle}
use Rattle.link_bay.specs.Connections.{ConnectionRecord}
use Rattle.link_bay.specs.Answers.{is_empty, is_dry}
use Rattle.client_outbox.specs.Outgoing.{WaitingPacket, Outgoing, unwritten, IsBegun}
use Rattle.client_outbox.specs.Sending.{piece_of, advanced}
use Rattle.client_outbox.specs.Laws.{TakenFromFront}
use Rattle.client_outbox.specs.declared.out.Out.{Out}
use Rattle.client_outbox.specs.declared.out.Out.TheVariants as O
use Rattle.connection_table.specs.Tables.{Open, open_at}
use Rattle.attached_client.specs.Client.{ClientSeen}
use Rattle.open_connection.specs.Connection.{ConnectionSeen}
use Rattle.open_connection.specs.Laws.{IsToldTo}
use Rattle.open_connection.specs.Sending.{SendsTo, ConnectionSends}
use Rattle.session_steps.specs.declared.answers.Sent.{Sent}
use Rattle.session_steps.specs.declared.answers.Sent.TheVariants as S
use Rattle.session_steps.specs.Seen.{Known, Seen}
use Rattle.session_steps.specs.Sending.{OutGives, WritesTo, Sends}
use Rattle.session_settling.specs.Reading.{StaysOpen}
use Rattle.session_settling.specs.Writing.{client_where, client_at, NothingWaits, SourcesStay}
use Rattle.session_settling.specs.Through.{IsSettling}
use Rattle.session_settling.proofs.Places.{open_there, ended_there, open_slot}

-- how many bytes wait for it
abbrev pub waits_left : Option ClientSeen → ℕ
waits_left None = 0
waits_left (Some client) = length (unwritten client.seen.out)

-- the connection goes on after such an answer
abbrev pub stays_open : Sent → Bool
stays_open S.Closed = false
stays_open S.Idle = true
stays_open (S.Took n) = true
stays_open S.Again = true
stays_open (S.Ended e) = false
stays_open S.NoMemory = true

some_left : (xs : List ℕ) → 1 ≤ length xs → is_empty xs ≡ false
some_left [] some = absurd (omega (arith, some))
some_left (x ∷ xs) some = refl

-- what is offered of a packet that waits is some bytes
offers_some : (o : Outgoing (List Rectangle)) (max : ℕ) → 1 ≤ max → IsBegun o.packets o.taken → o.packets ≢ [] → is_empty (piece_of max o) ≡ false
offers_some o max some begun waits = go o.packets begun waits
  where
    go : (packets : List (WaitingPacket (List Rectangle))) → IsBegun packets o.taken → packets ≢ [] → is_empty (piece_of max (record { packets = packets; taken = o.taken })) ≡ false
    go [] begun waits = absurd (waits refl)
    go (p ∷ packets) begun waits = some_left (take max (drop o.taken p.bytes))
        (let first = length-take max (drop o.taken p.bytes) in let rest = length-drop o.taken p.bytes in omega (arith, first, rest, some, begun))

rose_later : (b : Bool) (before now : ℕ) → RoseOnlyIf b before now → before ≤ now
rose_later true before now rose = rose.later
rose_later false before now same = omega (arith, same)

sources_of : (q q' : ClientSeen) → q' ≡ record q { seen = record q.seen { out = q'.seen.out } } → q'.seen.sources ≡ q.seen.sources
sources_of q q' same = ap (λ (x : ClientSeen). x.seen.sources) same

pub sources_same : (o o' : Option ClientSeen) → o' ≡ o → SourcesStay o o'
sources_same None None same = tt
sources_same None (Some q) same = absurd (cc same)
sources_same (Some q) None same = absurd (cc same)
sources_same (Some q) (Some q') same = let is : q' ≡ q = cc same in ap (λ (x : ClientSeen). x.seen.sources) is

pub sources_both : (o p q : Option ClientSeen) → SourcesStay o p → SourcesStay p q → SourcesStay o q
sources_both None None q one two = two
sources_both None (Some p) q one two = absurd one
sources_both (Some o) None q one two = absurd one
sources_both (Some o) (Some p) None one two = absurd two
sources_both (Some o) (Some p) (Some q) one two = two ∙ one

-- a packet that waits is begun, but not wholly taken
pub begun_of : {B : Type 0} (known : Known B) (s : Seen B) (k : ℕ) (connection : ConnectionSeen) (client : ClientSeen) → IsSettling known s → open_at s.slots k ≡ Some connection → connection.client ≡ Some client
    → IsBegun client.seen.out.packets client.seen.out.taken
begun_of known s k connection client settling opened attached =
    let kept = (settling.2).slots k (Open connection) (open_slot s.slots k connection opened) in
    let told : IsToldTo s.desk settling.1 k (Some client) kept.sent = subst (λ (o : Option ClientSeen). IsToldTo s.desk settling.1 k o kept.sent) attached kept.client in
    let way = (told.1).bytes in
    way.begun

module _ {B : Type 0} (known : Known B) (c : Conn) (old new : Seen B) where
  abbrev before : ConnectionRecord
  before = known.connection old.bay c.0

  abbrev after : ConnectionRecord
  after = known.connection new.bay c.0

  pub record SentSo : Type 0 where
    pub was_opened : StaysOpen c.0 old
    pub opened : StaysOpen c.0 new
    pub waited : NothingWaits (client_at c.0 old) → ⊥
    pub sources : SourcesStay (client_at c.0 old) (client_at c.0 new)
    pub given : after.given ≡ before.given

  pub record TookSome : Type 0 where
    pub sent : SentSo
    pub less : waits_left (client_at c.0 new) < waits_left (client_at c.0 old)
    pub dry : before.dry ≤ after.dry

  pub record TookNone : Type 0 where
    pub sent : SentSo
    pub same : client_at c.0 new ≡ client_at c.0 old
    pub dry : Rose before.dry after.dry
    pub drought : after.drought ≡ count_sum before.drought 1

  pub record HadNothing : Type 0 where
    pub opened : StaysOpen c.0 new
    pub same : client_at c.0 new ≡ client_at c.0 old
    pub empty : NothingWaits (client_at c.0 new)
    pub quiet : after ≡ before

  module _ (front : TakenFromFront (List Rectangle)) (max : ℕ) (some : 1 ≤ max) (connection later : ConnectionSeen) (was : open_at old.slots c.0 ≡ Some connection)
      (begun : (client : ClientSeen) → connection.client ≡ Some client → IsBegun client.seen.out.packets client.seen.out.taken) where
    here : (new ≡ record old { slots = set old.slots c.0 (Open later); bay = new.bay }) → open_at new.slots c.0 ≡ Some later
    here changed = ap (λ (s : Seen B). open_at s.slots c.0) changed ∙ open_there old.slots c.0 connection later was

    was_client : client_at c.0 old ≡ connection.client
    was_client = ap client_where was

    is_client : (new ≡ record old { slots = set old.slots c.0 (Open later); bay = new.bay }) → client_at c.0 new ≡ later.client
    is_client changed = ap client_where (here changed)

    sent_so : (q q' : ClientSeen) → connection.client ≡ Some q → later.client ≡ Some q' → new ≡ record old { slots = set old.slots c.0 (Open later); bay = new.bay } → q.seen.out.packets ≢ [] → q'.seen.sources ≡ q.seen.sources
        → after.given ≡ before.given → SentSo
    sent_so q q' is is' changed waits same given = record {
      was_opened = (connection, was);
      opened = (later, here changed);
      waited = λ none. waits (subst NothingWaits (was_client ∙ is) none);
      sources = subst (λ (o : Option ClientSeen). SourcesStay o (client_at c.0 new)) (sym (was_client ∙ is)) (subst (SourcesStay (Some q)) (sym (is_client changed ∙ is')) same);
      given = given;
    }

    took_client : (m : ℕ) (o o' : Option ClientSeen) → connection.client ≡ o → later.client ≡ o' → SendsTo before after o max (O.Took m) o' → new ≡ record old { slots = set old.slots c.0 (Open later); bay = new.bay } → TookSome
    took_client m None None is is' sends changed = absurd (cc sends.0)
    took_client m None (Some q') is is' sends changed = absurd sends
    took_client m (Some q) None is is' sends changed = absurd sends
    took_client m (Some q) (Some q') is is' sends changed =
        let one = sends.sends.0 in
        let write = sends.sends.2 in
        let taken = front q.seen.out max m (begun q is) write.0 in
        let long = ap length taken ∙ length-append (take m (piece_of max q.seen.out)) (unwritten (advanced q.seen.out m)) in
        let first = length-take m (piece_of max q.seen.out) in
        let enough = write.0 in
        let left : length (unwritten q'.seen.out) < length (unwritten q.seen.out) = subst (λ (x : Outgoing (List Rectangle)). length (unwritten x) < length (unwritten q.seen.out)) (sym sends.sends.3) (omega (arith, long, first, enough, one)) in
        record {
          sent = sent_so q q' is is' changed sends.sends.1 (sources_of q q' sends.stays) (ap (λ (r : ConnectionRecord). r.given) write.2);
          less = subst (λ (o : Option ClientSeen). waits_left (client_at c.0 new) < waits_left o) (sym (was_client ∙ is)) (subst (λ (o : Option ClientSeen). waits_left o < waits_left (Some q)) (sym (is_client changed ∙ is')) left);
          dry = rose_later (is_dry (piece_of max q.seen.out) m) before.dry after.dry write.1;
        }

    none_client : (o o' : Option ClientSeen) → connection.client ≡ o → later.client ≡ o' → SendsTo before after o max O.Again o' → new ≡ record old { slots = set old.slots c.0 (Open later); bay = new.bay } → TookNone
    none_client None None is is' sends changed = absurd (cc sends.0)
    none_client None (Some q') is is' sends changed = absurd sends
    none_client (Some q) None is is' sends changed = absurd sends
    none_client (Some q) (Some q') is is' sends changed =
        let write = sends.sends.1 in
        let offered : is_empty (piece_of max q.seen.out) ≡ false = offers_some q.seen.out max some (begun q is) sends.sends.0 in
        let dries : is_dry (piece_of max q.seen.out) 0 ≡ true = ap not offered in
        let same : q' ≡ q = sends.stays ∙ ap (λ (x : Outgoing (List Rectangle)). record q { seen = record q.seen { out = x } }) sends.sends.2 in
        record {
          sent = sent_so q q' is is' changed sends.sends.0 (sources_of q q' sends.stays) (ap (λ (r : ConnectionRecord). r.given) write.2);
          same = is_client changed ∙ is' ∙ ap (λ (x : ClientSeen). Some x) same ∙ sym (was_client ∙ is);
          dry = subst (λ (b : Bool). RoseOnlyIf b before.dry after.dry) dries write.1;
          drought = ap (λ (r : ConnectionRecord). r.drought) write.2 ∙ rw dries refl;
        }

    idle_client : (o o' : Option ClientSeen) → connection.client ≡ o → later.client ≡ o' → SendsTo before after o max O.Idle o' → new ≡ record old { slots = set old.slots c.0 (Open later); bay = new.bay } → HadNothing
    idle_client None None is is' sends changed = record {
      opened = (later, here changed);
      same = is_client changed ∙ is' ∙ sym (was_client ∙ is);
      empty = subst NothingWaits (sym (is_client changed ∙ is')) tt;
      quiet = sends.1;
    }
    idle_client None (Some q') is is' sends changed = absurd sends
    idle_client (Some q) None is is' sends changed = absurd sends
    idle_client (Some q) (Some q') is is' sends changed =
        let same : q' ≡ q = sends.stays ∙ ap (λ (x : Outgoing (List Rectangle)). record q { seen = record q.seen { out = x } }) sends.sends.2 in
        record {
          opened = (later, here changed);
          same = is_client changed ∙ is' ∙ ap (λ (x : ClientSeen). Some x) same ∙ sym (was_client ∙ is);
          empty = subst NothingWaits (sym (is_client changed ∙ is')) (ap (λ (x : ClientSeen). x.seen.out.packets) same ∙ sends.sends.0);
          quiet = sends.sends.1;
        }

    took_out : (n : ℕ) (out : Out) → ConnectionSends before after connection max out later → OutGives c later old out (S.Took n) new → TookSome
    took_out n (O.Took m) sends gives = took_client m connection.client later.client refl refl sends.client gives.1
    took_out n O.Idle sends gives = absurd (cc gives.0)
    took_out n O.Again sends gives = absurd (cc gives.0)
    took_out n O.Failed sends gives = absurd (cc gives.0)
    took_out n O.NoMemory sends gives = absurd (cc gives.0)

    again_out : (out : Out) → ConnectionSends before after connection max out later → OutGives c later old out S.Again new → TookNone
    again_out (O.Took m) sends gives = absurd (cc gives.0)
    again_out O.Idle sends gives = absurd (cc gives.0)
    again_out O.Again sends gives = none_client connection.client later.client refl refl sends.client gives.1
    again_out O.Failed sends gives = absurd (cc gives.0)
    again_out O.NoMemory sends gives = absurd (cc gives.0)

    idle_out : (out : Out) → ConnectionSends before after connection max out later → OutGives c later old out S.Idle new → HadNothing
    idle_out (O.Took m) sends gives = absurd (cc gives.0)
    idle_out O.Idle sends gives = idle_client connection.client later.client refl refl sends.client gives.1
    idle_out O.Again sends gives = absurd (cc gives.0)
    idle_out O.Failed sends gives = absurd (cc gives.0)
    idle_out O.NoMemory sends gives = absurd (cc gives.0)

    short_out : (out : Out) → OutGives c later old out S.NoMemory new → StaysOpen c.0 new
    short_out (O.Took m) gives = absurd (cc gives.0)
    short_out O.Idle gives = absurd (cc gives.0)
    short_out O.Again gives = absurd (cc gives.0)
    short_out O.Failed gives = absurd (cc gives.0)
    short_out O.NoMemory gives = (later, here gives.1)

    over_out : (answer : Sent) (out : Out) → stays_open answer ≡ false → OutGives c later old out answer new → open_at new.slots c.0 ≡ None
    over_out answer (O.Took m) over gives = let bad : false ≡ true = sym over ∙ ap stays_open gives.0 in absurd (cc bad)
    over_out answer O.Idle over gives = let bad : false ≡ true = sym over ∙ ap stays_open gives.0 in absurd (cc bad)
    over_out answer O.Again over gives = let bad : false ≡ true = sym over ∙ ap stays_open gives.0 in absurd (cc bad)
    over_out answer O.Failed over gives = ap (λ (s : Seen B). open_at s.slots c.0) gives.1 ∙ ended_there old.slots c.0 _
    over_out answer O.NoMemory over gives = let bad : false ≡ true = sym over ∙ ap stays_open gives.0 in absurd (cc bad)

  module _ (front : TakenFromFront (List Rectangle)) (max : ℕ) (some : 1 ≤ max) (settling : IsSettling known old) where
    pub took : (n : ℕ) → Sends known c max old (S.Took n) new → TookSome
    took n = go (open_at old.slots c.0) refl
      where
        go : (o : Option ConnectionSeen) → open_at old.slots c.0 ≡ o → WritesTo known c max o old (S.Took n) new → TookSome
        go None was sends = absurd (cc sends.0)
        go (Some q) was writes = took_out front max some q writes.after was (λ client is. begun_of known old c.0 q client settling was is) n writes.out writes.sends writes.gives

    pub again : Sends known c max old S.Again new → TookNone
    again = go (open_at old.slots c.0) refl
      where
        go : (o : Option ConnectionSeen) → open_at old.slots c.0 ≡ o → WritesTo known c max o old S.Again new → TookNone
        go None was sends = absurd (cc sends.0)
        go (Some q) was writes = again_out front max some q writes.after was (λ client is. begun_of known old c.0 q client settling was is) writes.out writes.sends writes.gives

    pub idle : Sends known c max old S.Idle new → HadNothing
    idle = go (open_at old.slots c.0) refl
      where
        go : (o : Option ConnectionSeen) → open_at old.slots c.0 ≡ o → WritesTo known c max o old S.Idle new → HadNothing
        go None was sends = absurd (cc sends.0)
        go (Some q) was writes = idle_out front max some q writes.after was (λ client is. begun_of known old c.0 q client settling was is) writes.out writes.sends writes.gives

    pub short : Sends known c max old S.NoMemory new → StaysOpen c.0 old × StaysOpen c.0 new
    short = go (open_at old.slots c.0) refl
      where
        go : (o : Option ConnectionSeen) → open_at old.slots c.0 ≡ o → WritesTo known c max o old S.NoMemory new → StaysOpen c.0 old × StaysOpen c.0 new
        go None was sends = absurd (cc sends.0)
        go (Some q) was writes = ((q, was), short_out front max some q writes.after was (λ client is. begun_of known old c.0 q client settling was is) writes.out writes.gives)

    pub over : (answer : Sent) → stays_open answer ≡ false → Sends known c max old answer new → open_at new.slots c.0 ≡ None
    over answer ends = go (open_at old.slots c.0) refl
      where
        go : (o : Option ConnectionSeen) → open_at old.slots c.0 ≡ o → WritesTo known c max o old answer new → open_at new.slots c.0 ≡ None
        go None was sends = ap (λ (s : Seen B). open_at s.slots c.0) sends.1 ∙ was
        go (Some q) was writes = over_out front max some q writes.after was (λ client is. begun_of known old c.0 q client settling was is) answer writes.out ends writes.gives
