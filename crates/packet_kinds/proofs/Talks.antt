-- How a talk goes on.
use Rattle.std.proofs.Common.{◌≡◌, ◌≢◌, ℕ, List, [], ◌∷◌, ◌++◌, ◌≤◌, refl, sym, ap, subst, ◌∙◌, arith}
use Rattle.std.specs.Prelude.{Option, Some, None, Result, Ok, Err}
use Rattle.std.proofs.lemmas.List.{append-nil}
use Rattle.xp_base.specs.Counts.{count_sum, greatest}
use Rattle.packet_frames.specs.Framing.{Beginning, part, whole, wrong, begins}
use Rattle.packet_frames.specs.Stream.{Packet, Fault, Stream, judged, push_where, push, from_place, read_on, packets_of}
use Rattle.packet_frames.specs.Written.{IsClean, with_packet}
use Rattle.packet_frames.proofs.Streams.{read_on-append, read_on-fault, read_on-behind}
use Rattle.packet_frames.proofs.Writing.{written_follows, part_adds_none}
use Rattle.packet_kinds.specs.declared.fault.TalkFault.TheVariants as F
use Rattle.packet_kinds.specs.declared.from_client.FromClient.{FromClient}
use Rattle.packet_kinds.specs.FromShapes.{from_client}
use Rattle.packet_kinds.specs.Talk.{Said, TalkStop, Talk, Heard, stop_of, heard_or_shape, heard, talk_of, talk, said_or_shape, more_said, Continues, PacketIsHeard, LaterAreHeard, FaultIsHeard, ShapeStays, MessageIsHeard, PartIsUnheard}

-- messages, and then more
abbrev then_heard : Heard → Heard → Heard
then_heard old later = record { said = old.said ++ later.said; fault = later.fault }

heard_or_shape-then : (place : ℕ) (r : Result FromClient ℕ) (old all later : Heard) → (old.fault ≡ None → all ≡ then_heard old later)
    → (heard_or_shape place r old).fault ≡ None → heard_or_shape place r all ≡ then_heard (heard_or_shape place r old) later
heard_or_shape-then place (Err i) old all later same none = absurd (cc)
heard_or_shape-then place (Ok m) old all later same none = ap (heard_or_shape place (Ok m)) (same none)

-- behind packets that are all messages the later ones are heard
heard-append : (fault : Option Fault) (xs ys : List Packet) → (heard None xs).fault ≡ None → heard fault (xs ++ ys) ≡ then_heard (heard None xs) (heard fault ys)
heard-append fault [] ys none = refl
heard-append fault (x ∷ xs) ys none = heard_or_shape-then x.place (from_client x.value) (heard None xs) (heard fault (xs ++ ys)) (heard fault ys) (heard-append fault xs ys) none

heard_or_shape-stays : (place : ℕ) (r : Result FromClient ℕ) (old all : Heard) → (old.fault ≢ None → all ≡ old) → (heard_or_shape place r old).fault ≢ None
    → heard_or_shape place r all ≡ heard_or_shape place r old
heard_or_shape-stays place (Err i) old all same some = refl
heard_or_shape-stays place (Ok m) old all same some = ap (heard_or_shape place (Ok m)) (same some)

-- behind a fault of a packet none is heard
heard-stays : (fault : Option Fault) (xs ys : List Packet) → (heard None xs).fault ≢ None → heard fault (xs ++ ys) ≡ heard None xs
heard-stays fault [] ys some = absurd (some refl)
heard-stays fault (x ∷ xs) ys some = heard_or_shape-stays x.place (from_client x.value) (heard None xs) (heard fault (xs ++ ys)) (heard-stays fault xs ys) some

pub shape_stays : ShapeStays
shape_stays [] more fault some = absurd (some refl)
shape_stays (x ∷ xs) more fault some = ap (λ (later : Heard). let t : Talk = record { first = Some x; said = later.said; fault = later.fault } in t) (heard-stays fault xs more some)

one_heard : (p : Packet) (r : Result FromClient ℕ) (first : Packet) (old : Heard) → old.fault ≡ None
    → (let later : Heard = then_heard old (heard_or_shape p.place r (heard None [])) in let t : Talk = record { first = Some first; said = later.said; fault = later.fault } in t)
    ≡ said_or_shape (record { first = Some first; said = old.said; fault = old.fault }) p.place r
one_heard p (Err i) first old none = ap (λ (said : List Said). let t : Talk = record { first = Some first; said = said; fault = Some (record { place = p.place; kind = F.Shape i }) } in t) (append-nil old.said)
one_heard p (Ok m) first old none =
    ap (λ (fault : Option TalkStop). let t : Talk = record { first = Some first; said = old.said ++ record { place = p.place; message = m } ∷ []; fault = fault } in t) (sym none)

pub packet_is_heard : PacketIsHeard
packet_is_heard [] p none = refl
packet_is_heard (x ∷ xs) p none =
    ap (λ (later : Heard). let t : Talk = record { first = Some x; said = later.said; fault = later.fault } in t) (heard-append None xs (p ∷ []) none)
    ∙ one_heard p (from_client p.value) x (heard None xs) none

pub later_are_heard : LaterAreHeard
later_are_heard fault [] more first none = absurd (first refl)
later_are_heard fault (x ∷ xs) more first none = ap (λ (later : Heard). let t : Talk = record { first = Some x; said = later.said; fault = later.fault } in t) (heard-append fault xs more none)

fault_behind : (f : Fault) (xs : List Packet) → (heard None xs).fault ≡ None → heard (Some f) xs ≡ record (heard None xs) { fault = stop_of (Some f) }
fault_behind f xs none =
    ap (heard (Some f)) (sym (append-nil xs)) ∙ heard-append (Some f) xs [] none
    ∙ ap (λ (said : List Said). let h : Heard = record { said = said; fault = stop_of (Some f) } in h) (append-nil (heard None xs).said)

pub fault_is_heard : FaultIsHeard
fault_is_heard [] f none = refl
fault_is_heard (x ∷ xs) f none = ap (λ (later : Heard). let t : Talk = record { first = Some x; said = later.said; fault = later.fault } in t) (fault_behind f xs none)

-- the packets of a stream, as a talk
abbrev talk_in : Stream → Talk
talk_in s = talk_of s.fault s.packets

-- a stream that is read on keeps its packets
grown : (limit : ℕ) (s : Stream) (more : List ℕ) → (later : List Packet) × ((read_on limit s more).packets ≡ s.packets ++ later)
grown limit s more =
    let behind_none : Stream = record s { packets = [] } in
    let same : record s { packets = s.packets ++ [] } ≡ s = ap (λ (ps : List Packet). record s { packets = ps }) (append-nil s.packets) in (
      (read_on limit behind_none more).packets,
      ap (λ (t : Stream). (read_on limit t more).packets) (sym same) ∙ ap (λ (t : Stream). t.packets) (read_on-behind limit s.packets behind_none more),
    )

stopped_talk : (limit : ℕ) (s : Stream) (f : Fault) (more : List ℕ) → s.fault ≡ Some f → talk_in (read_on limit s more) ≡ talk_in s
stopped_talk limit s f more e = ap talk_in (read_on-fault limit s f more e)

no_more : (limit : ℕ) (s : Stream) (o : Option Fault) → s.fault ≡ o → (more : List ℕ) → (talk_in s).fault ≢ None → talk_in (read_on limit s more) ≡ talk_in s
no_more limit s (Some f) e more some = stopped_talk limit s f more e
no_more limit s None e more some =
    let on = grown limit s more in
    let here = ap (λ o. talk_of o s.packets) e in
    ap (talk_of (read_on limit s more).fault) on.1
    ∙ shape_stays s.packets on.0 (read_on limit s more).fault (λ none. some (ap (λ (t : Talk). t.fault) here ∙ none))
    ∙ sym here

talk-append : (limit : ℕ) (bytes more : List ℕ) → talk limit (bytes ++ more) ≡ talk_in (read_on limit (packets_of limit bytes) more)
unfolding talk
talk-append limit bytes more = ap talk_in (read_on-append limit (from_place 0) bytes more)

pub talk-is : (limit : ℕ) (bytes : List ℕ) → talk limit bytes ≡ talk_in (packets_of limit bytes)
unfolding talk
talk-is limit bytes = refl

pub nothing_more : (limit : ℕ) (bytes more : List ℕ) → (talk limit bytes).fault ≢ None → talk limit (bytes ++ more) ≡ talk limit bytes
unfolding talk
nothing_more limit bytes more some = talk-append limit bytes more ∙ no_more limit (packets_of limit bytes) (packets_of limit bytes).fault refl more some

said_on : (place : ℕ) (r : Result FromClient ℕ) (old all : Heard) → (more : List Said) × (all.said ≡ old.said ++ more) → (more : List Said) × ((heard_or_shape place r all).said ≡ (heard_or_shape place r old).said ++ more)
said_on place (Err i) old all on = ([], refl)
said_on place (Ok m) old all on = (on.0, ap (λ said. record { place = place; message = m } ∷ said) on.1)

heard_on : (fault : Option Fault) (xs ys : List Packet) → (more : List Said) × ((heard fault (xs ++ ys)).said ≡ (heard None xs).said ++ more)
heard_on fault [] ys = ((heard fault ys).said, refl)
heard_on fault (x ∷ xs) ys = said_on x.place (from_client x.value) (heard None xs) (heard fault (xs ++ ys)) (heard_on fault xs ys)

pub continues_packets : (fault : Option Fault) (xs ys : List Packet) → Continues (talk_of None xs) (talk_of fault (xs ++ ys))
continues_packets fault [] ys = record { first = λ some. absurd (some refl); more = (talk_of fault ys).said; said = refl }
continues_packets fault (x ∷ xs) ys = let on = heard_on fault xs ys in record { first = λ some. refl; more = on.0; said = on.1 }

continues_same : (old new : Talk) → new ≡ old → Continues old new
continues_same old new same =
    record { first = λ some. ap (λ (t : Talk). t.first) same; more = []; said = ap (λ (t : Talk). t.said) same ∙ sym (append-nil old.said) }

continues_in : (limit : ℕ) (s : Stream) (o : Option Fault) → s.fault ≡ o → (more : List ℕ) → Continues (talk_in s) (talk_in (read_on limit s more))
continues_in limit s (Some f) e more = continues_same _ _ (stopped_talk limit s f more e)
continues_in limit s None e more =
    let on = grown limit s more in
    let r : Stream = read_on limit s more in
    subst (λ t. Continues t (talk_in r)) (ap (λ o. talk_of o s.packets) (sym e))
    (subst (Continues (talk_of None s.packets)) (ap (talk_of r.fault) (sym on.1)) (continues_packets r.fault s.packets on.0))

pub continues : (limit : ℕ) (bytes more : List ℕ) → Continues (talk limit bytes) (talk limit (bytes ++ more))
continues limit bytes more =
    subst (λ t. Continues t (talk limit (bytes ++ more))) (sym (talk-is limit bytes))
    (subst (Continues (talk_in (packets_of limit bytes))) (sym (talk-append limit bytes more)) (continues_in limit (packets_of limit bytes) (packets_of limit bytes).fault refl more))

pub first_talk : (limit : ℕ) → talk limit [] ≡ record { first = None; said = []; fault = None }
unfolding talk read_on
first_talk limit = refl

count_low : (before more : ℕ) → count_sum before more ≤ greatest
count_low before more = omega arith

judged_low : (s : Stream) (rest : List ℕ) (found : Beginning) → s.start ≤ greatest → (judged s rest found).start ≤ greatest
judged_low s rest part low = low
judged_low s rest (whole at v size) low = count_low s.start size
judged_low s rest (wrong at kind) low = low

push_low : (limit : ℕ) (s : Stream) (b : ℕ) (o : Option Fault) → s.start ≤ greatest → (push_where limit s b o).start ≤ greatest
push_low limit s b None low = judged_low s (s.rest ++ b ∷ []) (begins limit (s.rest ++ b ∷ [])) low
push_low limit s b (Some fault) low = low

-- a place stays at the greatest
read_on_low : (limit : ℕ) (s : Stream) (bytes : List ℕ) → s.start ≤ greatest → (read_on limit s bytes).start ≤ greatest
unfolding read_on push
read_on_low limit s [] low = low
read_on_low limit s (b ∷ bytes) low = read_on_low limit (push limit s b) bytes (push_low limit s b s.fault low)

start_here : (limit : ℕ) (given : List ℕ) → count_sum (packets_of limit given).start 0 ≡ (packets_of limit given).start
start_here limit given = let low = read_on_low limit (from_place 0) given (omega arith) in omega arith

said_next : (t : Talk) (p : Packet) (m : FromClient) (o : Option Packet) → o ≢ None → from_client p.value ≡ Ok m → more_said t p o ≡ record t { said = t.said ++ record { place = p.place; message = m } ∷ [] }
said_next t p m None some read = absurd (some refl)
said_next t p m (Some hello) some read = ap (said_or_shape t p.place) read

-- behind whole packets one packet more is said
heard_next : (limit : ℕ) (given more : List ℕ) (p : Packet) (m : FromClient) → IsClean (packets_of limit given) → (talk limit given).fault ≡ None → (talk limit given).first ≢ None
    → (packets_of limit (given ++ more)).packets ≡ (packets_of limit given).packets ++ p ∷ [] → (packets_of limit (given ++ more)).fault ≡ None → from_client p.value ≡ Ok m
    → talk limit (given ++ more) ≡ record (talk limit given) { said = (talk limit given).said ++ record { place = p.place; message = m } ∷ [] }
unfolding talk
heard_next limit given more p m clean none some packets fault read =
    let old : List Packet = (packets_of limit given).packets in
    let same : talk_of (packets_of limit given).fault old ≡ talk_of None old = ap (λ o. talk_of o old) clean.fault in
    ap (λ o. talk_of o (packets_of limit (given ++ more)).packets) fault ∙ ap (talk_of None) packets
    ∙ packet_is_heard old p (ap (λ (t : Talk). t.fault) (sym same) ∙ none)
    ∙ said_next (talk_of None old) p m (talk_of None old).first (λ h. some (ap (λ (t : Talk). t.first) same ∙ h)) read
    ∙ ap (λ (t : Talk). record t { said = t.said ++ record { place = p.place; message = m } ∷ [] }) (sym same)

pub message_is_heard : MessageIsHeard
message_is_heard limit given bytes m clean none some is =
    let s : Stream = packets_of limit given in
    let all = written_follows limit given is.value None is.value is.written is.within refl clean in
    let on : packets_of limit (given ++ bytes) ≡ with_packet s is.value None is.value = ap (λ xs. packets_of limit (given ++ xs)) is.bytes_are ∙ all in
    let p : Packet = record { place = count_sum s.start 0; value = is.value } in
    heard_next limit given bytes p m clean none some (ap (λ (t : Stream). t.packets) on) (ap (λ (t : Stream). t.fault) on) is.read
    ∙ ap (λ place. record (talk limit given) { said = (talk limit given).said ++ record { place = place; message = m } ∷ [] }) (start_here limit given)

pub part_is_unheard : PartIsUnheard
unfolding talk
part_is_unheard limit given bytes front more m clean is parts some =
    ap talk_in (part_adds_none limit given is.value None front more is.written is.within (sym is.bytes_are ∙ parts) some clean)
