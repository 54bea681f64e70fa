-- The packets of the bytes given, from those handled and those left.
use Rattle.std.proofs.Common.{◌≡◌, ℕ, Bool, false, Option, Some, None, List, [], ◌++◌, refl, sym, ap, subst, ◌∙◌, cond}
use Rattle.std.specs.Option.{option_map}
use Rattle.std.proofs.lemmas.List.{append-nil}
use Rattle.std.proofs.lemmas.Bool.{cond-false}
use Rattle.packet_frames.specs.Stream.{Packet, Fault, Stream, from_place, read_on, packets_of}
use Rattle.packet_frames.specs.Following.{Framing, left_of, behind, fed}
use Rattle.hello_caps.specs.declared.caps.Caps.{Caps}
use Rattle.packet_kinds.specs.Talk.{Said, Talk, talk_of, talk, LaterAreHeard}
use Rattle.client_talk.specs.declared.ending.Ending.{Ending}
use Rattle.client_talk.specs.Talked.{server_limit, GoesOn, HasEnding}
use Rattle.client_talk.specs.Handling.{Acts, Outcome, handled}
use Rattle.client_talk.specs.Marks.{marked}
use Rattle.client_talk.specs.Kept.{IsListening, Hears, EndsHearing}
use Rattle.client_talk.specs.Laws.{HasCaps, Marks, MarkBefore, GoesOnListening, EndsForItsCause, MarksFollow}
use Rattle.client_talk.proofs.Listening.{goes_on, ends_so, says_more}

abbrev waiting : List Packet → ℕ → List ℕ → Stream
waiting packets start rest = record { packets = packets; start = start; rest = rest; fault = None }

-- the laws of streams and talks that this stands on
pub record Laws : Type 0 where
  pub append : (limit : ℕ) (s : Stream) (bytes more : List ℕ) → read_on limit s (bytes ++ more) ≡ read_on limit (read_on limit s bytes) more
  pub before : (limit : ℕ) (given : List Packet) (s : Stream) (bytes : List ℕ) → read_on limit (behind given s) bytes ≡ behind given (read_on limit s bytes)
  pub whole : (limit : ℕ) (bytes : List ℕ) → talk limit bytes ≡ talk_of (packets_of limit bytes).fault (packets_of limit bytes).packets
  pub later : LaterAreHeard

module _ (laws : Laws) (given bytes : List ℕ) (f : Framing) (caps : Option Caps) (was : IsListening given f caps) where
  fed_left : left_of (fed f bytes) ≡ read_on server_limit (waiting [] f.start f.rest) bytes
  fed_left =
      ap left_of (cond-false f.stopped f (record f { rest = f.rest ++ bytes }) was.going)
      ∙ laws.append f.limit (from_place f.start) f.rest bytes
      ∙ ap (λ (s : Stream). read_on f.limit s bytes) was.nothing_left
      ∙ ap (λ limit. read_on limit (waiting [] f.start f.rest) bytes) was.limit

  -- those handled, and then those left
  pub all_left : packets_of server_limit (given ++ bytes) ≡ behind was.packets (left_of (fed f bytes))
  all_left =
      laws.append server_limit (from_place 0) given bytes
      ∙ ap (λ (s : Stream). read_on server_limit s bytes) was.all
      ∙ ap (λ (ps : List Packet). read_on server_limit (waiting ps f.start f.rest) bytes) (sym (append-nil was.packets))
      ∙ laws.before server_limit was.packets (waiting [] f.start f.rest) bytes
      ∙ ap (behind was.packets) (sym fed_left)

  pub talk_left : talk server_limit (given ++ bytes) ≡ talk_of (left_of (fed f bytes)).fault (was.packets ++ (left_of (fed f bytes)).packets)
  talk_left = laws.whole server_limit (given ++ bytes) ∙ ap (λ (s : Stream). talk_of s.fault s.packets) all_left

  pub talk_was : talk server_limit given ≡ talk_of None was.packets
  talk_was = laws.whole server_limit given ∙ ap (λ (s : Stream). talk_of s.fault s.packets) was.all

pub listening : {A : Type 0} → Laws → GoesOnListening A
listening laws acts caps_of given bytes f f' attached attached' ignored has was hears =
    let o = hears.outcome in
    let on = goes_on acts caps_of has laws.later was.packets attached 0 hears.packets None was.said (ap (λ (r : Outcome _). r.ended) o) in
    record {
      limit = hears.limit ∙ was.limit;
      going = hears.going;
      nothing_left = hears.nothing_left;
      packets = was.packets ++ hears.packets;
      all = all_left laws given bytes f (option_map caps_of attached) was ∙ ap (behind was.packets) hears.left;
      said = subst (λ (s : Option _). GoesOn (option_map caps_of s) (talk_of None (was.packets ++ hears.packets))) (ap (λ (r : Outcome _). r.attached) o) on;
    }

pub ends : {A : Type 0} → Laws → EndsForItsCause A
ends laws acts caps_of given bytes f attached attached' e ignored has was ending =
    subst (HasEnding e) (sym (talk_left laws given bytes f (option_map caps_of attached) was))
    (ends_so acts caps_of has laws.later was.packets attached 0 (left_of (fed f bytes)).packets (left_of (fed f bytes)).fault e was.said (ap (λ (r : Outcome _). r.ended) ending))

pub marks_follow : {A : Type 0} → Laws → MarksFollow A
marks_follow laws acts caps_of wid mark_of was_mark given bytes f f' attached a ignored has marking before was hears =
    let o = hears.outcome in
    let more = says_more acts caps_of has laws.later wid mark_of was_mark marking was.packets attached 0 hears.packets None a before was.said
    (ap (λ (r : Outcome _). r.ended) o) (ap (λ (r : Outcome _). r.attached) o) in
    let now : (talk server_limit (given ++ bytes)).said ≡ (talk_of None (was.packets ++ hears.packets)).said =
    ap (λ (t : Talk). t.said) (talk_left laws given bytes f (option_map caps_of attached) was)
    ∙ ap (λ (s : Stream). (talk_of s.fault (was.packets ++ s.packets)).said) hears.left in
    (more.0, now ∙ more.1 ∙ ap (λ (t : Talk). t.said ++ more.0) (sym (talk_was laws given bytes f (option_map caps_of attached) was)), more.2)
