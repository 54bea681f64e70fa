-- How a replay goes on, packet by packet and piece by piece.
use Rattle.std.proofs.Common.{◌≡◌, ◌≢◌, ℕ, Bool, true, false, List, [], ◌∷◌, ◌++◌, cond, refl, sym, ap, subst, ◌∙◌, append_assoc}
use Rattle.std.specs.Prelude.{Option, Some, None, Result, Ok, Err, OnOk, OnErr, is_some}
use Rattle.std.specs.Result.{is_err}
use Rattle.std.proofs.lemmas.List.{append-nil}
use Rattle.bencode_values.specs.declared.value.Value.{Value}
use Rattle.window_model.specs.Desktop.{Window}
use Rattle.packet_frames.specs.declared.fault.FrameFault.{FrameFault}
use Rattle.packet_frames.specs.declared.next.Next.TheVariants as N
use Rattle.packet_frames.specs.Stream.{Packet, Fault, Stream, from_place, read_on, packets_of}
use Rattle.packet_frames.specs.Following.{Framing, left_of, behind, Follows, fed, Tells}
use Rattle.packet_frames.proofs.Streams.{read_on-append}
use Rattle.packet_kinds.specs.declared.to_client.ToClient.{ToClient}
use Rattle.packet_kinds.specs.declared.from_client.FromClient.{FromClient}
use Rattle.packet_kinds.specs.ToShapes.{to_client}
use Rattle.packet_kinds.specs.Effects.{effect}
use Rattle.packet_kinds.specs.FromWritten.{client_bytes}
use Rattle.packet_kinds.specs.Picture.{Frame, Shape, Data, Stop, Picture, ended, shown_or_data, shown_or_shape, shown, picture}
use Rattle.packet_kinds.specs.Replies.{answer_to, has_effect, answered_or_stop, answers, replies, said_bytes}
use Rattle.packet_kinds.proofs.Following.{clear, shown-append, picture_is}
use Rattle.packet_kinds.proofs.Stopping.{read_on-packets, picture_stops}
use Rattle.packet_kinds.proofs.Replying.{replies_are, packets_are_answered, replies_stop, effect_is_there}
use Rattle.client_replay.specs.declared.fault.ReplayFault.TheVariants as F
use Rattle.client_replay.specs.declared.fault.Fed.TheVariants as Fd
use Rattle.client_replay.specs.Replaying.{stop_at, Replaying, nothing_replayed, Painting, painting, painting_of, Paints, Shows, GaveAll, ShowsPart, Takes, Replays}

pub said_bytes-append : (xs ys : List FromClient) → said_bytes (xs ++ ys) ≡ said_bytes xs ++ said_bytes ys
said_bytes-append [] ys = refl
said_bytes-append (x ∷ xs) ys = ap (λ rest. client_bytes x ++ rest) (said_bytes-append xs ys) ∙ sym (append_assoc (client_bytes x) (said_bytes xs) (said_bytes ys))

-- a packet that is shown
shown_one : (p : Packet) (windows after : List Window) (m : ToClient) → to_client p.value ≡ Ok m → effect windows m ≡ Some after → shown None (p ∷ []) windows ≡ clear after
shown_one p windows after m read does =
    ap (λ r. shown_or_shape p.place windows r (shown None [])) read ∙ ap (λ o. shown_or_data p.place windows o (shown None [])) does

answered_one : (p : Packet) (more : List Packet) (m : ToClient) → to_client p.value ≡ Ok m → has_effect m ≡ true → answers (p ∷ more) ≡ answer_to m ++ answers more
answered_one p more m read does = ap (λ r. answered_or_stop r (answers more)) read ∙ ap (λ b. cond b (answer_to m ++ answers more) []) does

module _ (bytes taken : List ℕ) (old : Painting) (so_far : Paints bytes taken old) where
  abbrev given : List Packet
  given = so_far.given

  -- one packet more is shown and answered
  pub painted_on : (p : Packet) (m : ToClient) (new : Painting) → Follows bytes (given ++ p ∷ []) new.framing → to_client p.value ≡ Ok m → effect old.windows m ≡ Some new.windows
      → new.waiting ≡ old.waiting ++ said_bytes (answer_to m) → Paints bytes taken new
  painted_on p m new follows read does waits =
      let there : has_effect m ≡ true = sym (effect_is_there old.windows m) ∙ ap is_some does in
      let one : answers (p ∷ []) ≡ answer_to m = answered_one p [] m read there ∙ append-nil (answer_to m) in
      record {
        given = given ++ p ∷ [];
        follows = follows;
        picture = shown-append None given (p ∷ []) [] old.windows so_far.picture ∙ shown_one p old.windows new.windows m read does;
        replies = ap said_bytes (packets_are_answered given (p ∷ []) [] old.windows so_far.picture ∙ ap (λ xs. answers given ++ xs) one)
            ∙ said_bytes-append (answers given) (answer_to m)
            ∙ ap (λ xs. xs ++ said_bytes (answer_to m)) so_far.replies
            ∙ append_assoc taken old.waiting (said_bytes (answer_to m))
            ∙ ap (λ xs. taken ++ xs) (sym waits);
      }

  -- the packets of the bytes, by what was given and what is left
  packets_are : (f : Framing) (more : List Packet) → Follows bytes (given ++ more) f → (packets_of f.limit bytes).packets ≡ given ++ (more ++ (left_of f).packets)
  packets_are f more follows = ap (λ (s : Stream). s.packets) follows.all ∙ append_assoc given more (left_of f).packets

  -- the picture and the replies where the first packet behind those given is a fault
  faulty : (f : Framing) (p : Packet) (more : List Packet) (stop : Stop) → (packets_of f.limit bytes).packets ≡ given ++ (p ∷ more)
      → ((fault : Option Fault) → shown fault (p ∷ more) old.windows ≡ record { windows = old.windows; fault = Some stop }) → answers (p ∷ more) ≡ []
      → Shows bytes taken (Some stop) (painting f old.windows old.waiting)
  faulty f p more stop packets stops unanswered =
      let s = packets_of f.limit bytes in
      record {
        picture = picture_is f.limit bytes s refl ∙ ap (λ ps. shown s.fault ps []) packets ∙ shown-append s.fault given (p ∷ more) [] old.windows so_far.picture ∙ stops s.fault;
        replies = ap said_bytes (replies_are f.limit bytes s refl ∙ ap answers packets ∙ packets_are_answered given (p ∷ more) [] old.windows so_far.picture
            ∙ ap (λ xs. answers given ++ xs) unanswered ∙ append-nil (answers given))
            ∙ so_far.replies;
      }

  pub shape_shows : (f : Framing) (p : Packet) (i : ℕ) → Follows bytes (given ++ p ∷ []) f → to_client p.value ≡ Err i
      → Shows bytes taken (Some (stop_at p.place (F.Shape i))) (painting f old.windows old.waiting)
  shape_shows f p i follows read =
      let more = (left_of f).packets in
      faulty f p more (stop_at p.place (F.Shape i)) (packets_are f (p ∷ []) follows)
      (λ fault. ap (λ r. shown_or_shape p.place old.windows r (shown fault more)) read)
      (ap (λ r. answered_or_stop r (answers more)) read)

  pub data_shows : (f : Framing) (p : Packet) (m : ToClient) → Follows bytes (given ++ p ∷ []) f → to_client p.value ≡ Ok m → has_effect m ≡ false
      → Shows bytes taken (Some (stop_at p.place F.Data)) (painting f old.windows old.waiting)
  data_shows f p m follows read none =
      let more = (left_of f).packets in
      let nothing : effect old.windows m ≡ None = none_is (effect old.windows m) (effect_is_there old.windows m ∙ none) in
      faulty f p more (stop_at p.place F.Data) (packets_are f (p ∷ []) follows)
      (λ fault.
      ap (λ r. shown_or_shape p.place old.windows r (shown fault more)) read ∙ ap (λ o. shown_or_data p.place old.windows o (shown fault more)) nothing)
      (ap (λ r. answered_or_stop r (answers more)) read ∙ ap (λ b. cond b (answer_to m ++ answers more) []) none) where
        none_is : (o : Option (List Window)) → is_some o ≡ false → o ≡ None
        none_is None e = refl
        none_is (Some windows) e = absurd (cc)

  -- all packets were given
  given_all : (f : Framing) (fault : Option Fault) (s : Stream) → packets_of f.limit bytes ≡ s → s.packets ≡ given → s.fault ≡ fault
      → (picture f.limit bytes ≡ ended old.windows fault) × (said_bytes (replies f.limit bytes) ≡ taken ++ old.waiting)
  given_all f fault s all packets stop = (
    picture_is f.limit bytes s all ∙ ap (λ o. shown o s.packets []) stop ∙ ap (λ ps. shown fault ps []) (packets ∙ sym (append-nil given))
        ∙ shown-append fault given [] [] old.windows so_far.picture,
    ap said_bytes (replies_are f.limit bytes s all ∙ ap answers packets) ∙ so_far.replies,
  )

  pub need_shows : (f : Framing) → Tells bytes given N.Need f → Shows bytes taken None (painting f old.windows old.waiting) × GaveAll bytes f
  need_shows f tells =
      let all = given_all f None _ tells.0 refl refl in
      let same : given ≡ (packets_of f.limit bytes).packets = sym (ap (λ (s : Stream). s.packets) tells.0) in (
        record { picture = all.0; replies = all.1 },
        record {
          all = tells.0 ∙ ap (λ ps. let s : Stream = record { packets = ps; start = f.start; rest = f.rest; fault = None } in s) same;
          follows = subst (λ ps. Follows bytes ps f) same tells.1;
        },
      )

  pub bad_shows : (f : Framing) (place : ℕ) (kind : FrameFault) → Tells bytes given (N.Bad place kind) f
      → Shows bytes taken (Some (stop_at place (F.Frame kind))) (painting f old.windows old.waiting)
  bad_shows f place kind tells =
      let all = given_all f (Some (record { place = place; kind = kind })) (packets_of f.limit bytes) refl tells.0 tells.1 in
      record { picture = all.0; replies = all.1 }

  -- some packets more were given, which are not shown
  pub part_shows : (f : Framing) (more : List Packet) → Follows bytes (given ++ more) f → ShowsPart bytes taken (painting f old.windows old.waiting)
  part_shows f more follows =
      record { given = given; later = more ++ (left_of f).packets; packets = packets_are f more follows; picture = so_far.picture; replies = so_far.replies }

  pub part_now : (f : Framing) → Follows bytes given f → ShowsPart bytes taken (painting f old.windows old.waiting)
  part_now f follows = part_shows f [] (subst (λ ps. Follows bytes ps f) (sym (append-nil given)) follows)

-- what is so of the first packets stays so, whatever bytes follow
pub part_on : (bytes taken piece : List ℕ) (p : Painting) → ShowsPart bytes taken p → ShowsPart (bytes ++ piece) taken p
part_on bytes taken piece p part =
    let s = packets_of p.framing.limit bytes in
    let rest = read_on-packets p.framing.limit s piece in
    record {
      given = part.given;
      later = part.later ++ rest.0;
      packets = ap (λ (t : Stream). t.packets) (read_on-append p.framing.limit (from_place 0) bytes piece) ∙ rest.1 ∙ ap (λ ps. ps ++ rest.0) part.packets
          ∙ append_assoc part.given part.later rest.0;
      picture = part.picture;
      replies = part.replies;
    }

-- where no fault stands all packets given are shown
pub paints_from : (bytes taken : List ℕ) (r : Replaying) → Replays bytes taken r → r.spent ≡ false → r.fault ≡ None → Paints bytes taken (painting_of r)
paints_from bytes taken r replays spent fault =
    let shows = replays.whole spent in
    let all = replays.unread spent fault in
    let s = packets_of r.framing.limit bytes in
    let none : s.fault ≡ None = ap (λ (t : Stream). t.fault) all.all in
    record {
      given = s.packets;
      follows = all.follows;
      picture = ap (λ o. shown o s.packets []) (sym none) ∙ sym (picture_is r.framing.limit bytes s refl) ∙ shows.picture
          ∙ ap (λ f. let p : Picture = record { windows = r.windows; fault = f } in p) fault;
      replies = ap said_bytes (sym (replies_are r.framing.limit bytes s refl)) ∙ shows.replies;
    }

-- the framer took a piece
pub paints_fed : (bytes taken piece : List ℕ) (old new : Painting) → new.windows ≡ old.windows → new.waiting ≡ old.waiting
    → ((given : List Packet) → Follows bytes given old.framing → Follows (bytes ++ piece) given new.framing) → Paints bytes taken old → Paints (bytes ++ piece) taken new
paints_fed bytes taken piece old new windows waiting on paints = record {
  given = paints.given;
  follows = on paints.given paints.follows;
  picture = paints.picture ∙ ap clear (sym windows);
  replies = paints.replies ∙ ap (λ xs. taken ++ xs) (sym waiting);
}

-- the whole state after all packets were taken
pub replays_ok : (bytes taken : List ℕ) (r : Replaying) → r.fault ≡ None → Takes bytes taken Fd.Ok (painting_of r) → r.spent ≡ false → Replays bytes taken r
replays_ok bytes taken r none takes spent = record {
  whole = λ _. subst (λ f. Shows bytes taken f (painting_of r)) (sym none) takes.0;
  unread = λ _ _. takes.1;
  part = λ e. absurd (let h : false ≡ true = sym spent ∙ e in cc);
}

pub replays_bad : (bytes taken : List ℕ) (r : Replaying) (stop : Stop) → r.fault ≡ Some stop → Shows bytes taken (Some stop) (painting_of r) → r.spent ≡ false → Replays bytes taken r
replays_bad bytes taken r stop is shows spent = record {
  whole = λ _. subst (λ f. Shows bytes taken f (painting_of r)) (sym is) shows;
  unread = λ _ none. absurd (let h : Some stop ≡ None = sym is ∙ none in cc);
  part = λ e. absurd (let h : false ≡ true = sym spent ∙ e in cc);
}

pub replays_part : (bytes taken : List ℕ) (r : Replaying) → ShowsPart bytes taken (painting_of r) → r.spent ≡ true → Replays bytes taken r
replays_part bytes taken r part spent = record {
  whole = λ e. absurd (let h : true ≡ false = sym spent ∙ e in cc);
  unread = λ e _. absurd (let h : true ≡ false = sym spent ∙ e in cc);
  part = λ _. part;
}

-- want of memory before any packet of the piece was taken
pub unfed_part : (bytes taken piece : List ℕ) (r : Replaying) → Replays bytes taken r → r.spent ≡ false → r.fault ≡ None → ShowsPart (bytes ++ piece) taken (painting_of r)
unfed_part bytes taken piece r replays spent none =
    let paints = paints_from bytes taken r replays spent none in
    part_on bytes taken piece (painting_of r) (part_now bytes taken (painting_of r) paints r.framing paints.follows)

-- after want of memory, and after a fault, a piece changes nothing
pub spent_stays : (bytes taken piece : List ℕ) (r : Replaying) → r.spent ≡ true → Replays bytes taken r → Replays (bytes ++ piece) taken r
spent_stays bytes taken piece r spent replays = replays_part (bytes ++ piece) taken r (part_on bytes taken piece (painting_of r) (replays.part spent)) spent

pub fault_stays : (bytes taken piece : List ℕ) (r : Replaying) (stop : Stop) → r.spent ≡ false → r.fault ≡ Some stop → Replays bytes taken r → Replays (bytes ++ piece) taken r
fault_stays bytes taken piece r stop spent is replays =
    let shows = replays.whole spent in
    let limit = r.framing.limit in
    let stopped : (picture limit bytes).fault ≢ None = λ none. (let h : Some stop ≡ None = sym is ∙ sym (ap (λ (p : Picture). p.fault) shows.picture) ∙ none in cc) in
    replays_bad (bytes ++ piece) taken r stop is
    (record {
      picture = picture_stops limit bytes piece stopped ∙ shows.picture ∙ ap (λ f. let p : Picture = record { windows = r.windows; fault = f } in p) is;
      replies = ap said_bytes (replies_stop limit bytes piece stopped) ∙ shows.replies;
    })
    spent

-- replies that were taken are not taken again
taken_part : (bytes taken : List ℕ) (p : Painting) → ShowsPart bytes taken p → ShowsPart bytes (taken ++ p.waiting) (record p { waiting = [] })
taken_part bytes taken p part = record {
  given = part.given;
  later = part.later;
  packets = part.packets;
  picture = part.picture;
  replies = part.replies ∙ sym (append-nil (taken ++ p.waiting));
}

pub replies_taken : (bytes taken : List ℕ) (r : Replaying) → Replays bytes taken r → Replays bytes (taken ++ r.waiting) (record r { waiting = [] })
replies_taken bytes taken r replays = record {
  whole = λ e.
      let shows = replays.whole e in record { picture = shows.picture; replies = shows.replies ∙ sym (append-nil (taken ++ r.waiting)) };
  unread = replays.unread;
  part = λ e. taken_part bytes taken (painting_of r) (replays.part e);
}

pub nothing_replays : (limit : ℕ) → Replays [] [] (nothing_replayed limit)
unfolding picture replies read_on
nothing_replays limit = record {
  whole = λ _. record { picture = refl; replies = refl };
  unread = λ _ _. record { all = refl; follows = record { all = refl } };
  part = λ e. absurd (cc);
}

pub nothing_by : (limit : ℕ) (f : Framing) (windows : List Window) (waiting : List ℕ) → f ≡ record { limit = limit; start = 0; rest = []; stopped = false } → windows ≡ [] → waiting ≡ []
    → Replays [] [] (record { framing = f; windows = windows; waiting = waiting; fault = None; spent = false })
nothing_by limit f windows waiting a b c = rw (a, b, c) (nothing_replays limit)

pub was_ok : {A E : Type 0} (P : Type 0) (r : Result A E) → is_err r ≡ false → OnOk r P → P
was_ok P (Ok a) e h = h
was_ok P (Err error) e h = absurd (cc)

pub was_err : {A E : Type 0} (P : Type 0) (r : Result A E) → is_err r ≡ true → OnErr r P → P
was_err P (Ok a) e h = absurd (cc)
was_err P (Err error) e h = h

module _ (bytes taken piece : List ℕ) (old : Replaying) (replays : Replays bytes taken old) (spent : old.spent ≡ false) (none : old.fault ≡ None) (f : Framing) where
  -- the framer has taken the piece
  pub fed_paints : {A E : Type 0} (r : Result A E) → is_err r ≡ false → ((before : List ℕ) (given : List Packet) → Follows before given old.framing → OnOk r (Follows (before ++ piece) given f))
      → Paints (bytes ++ piece) taken (painting f old.windows old.waiting)
  fed_paints r ok on =
      paints_fed bytes taken piece (painting_of old) (painting f old.windows old.waiting) refl refl
      (λ given follows. was_ok (Follows (bytes ++ piece) given f) r ok (on bytes given follows))
      (paints_from bytes taken old replays spent none)

  -- the framer had no memory for it
  pub unfed_replays : f ≡ old.framing → Replays (bytes ++ piece) taken (record old { framing = f; spent = true })
  unfed_replays same =
      replays_part (bytes ++ piece) taken (record old { framing = f; spent = true })
      (rw same (unfed_part bytes taken piece old replays spent none)) refl
