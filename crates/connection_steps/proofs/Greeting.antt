-- The hello of a client that is there, and the goodbye of one that is refused.
use Rattle.std.proofs.Common.{◌≡◌, ℕ, Bool, true, false, Some, None, List, [], ◌++◌, take, drop, refl, sym, ap, ◌∙◌, subst}
use Rattle.std.specs.Prelude.{Option, Ok, Err}
use Rattle.std.specs.Option.{option_map}
use Rattle.std.proofs.lemmas.List.{append-nil, take-append-drop}
use Rattle.xp_base.specs.Told.{told_append}
use Rattle.packet_frames.specs.Stream.{Packet, Fault}
use Rattle.packet_frames.specs.Following.{left_of, fed}
use Rattle.packet_frames.specs.Written.{packet_bytes}
use Rattle.hello_caps.specs.Replies.{goodbye_value}
use Rattle.hello_caps.specs.declared.caps.HelloFault.{HelloFault}
use Rattle.link_bay.specs.Connections.{ConnectionRecord}
use Rattle.link_bay.specs.Answers.{WriteGives}
use Rattle.link_bay.specs.declared.bay.Wrote.{Wrote}
use Rattle.link_bay.specs.declared.bay.Wrote.TheVariants as B
use Rattle.packet_kinds.specs.Talk.{talk}
use Rattle.window_model.specs.Desktop.{Window}
use Rattle.client_talk.specs.declared.ending.Ending.{Ending}
use Rattle.client_talk.specs.declared.ending.Ending.TheVariants as W
use Rattle.client_talk.specs.Talked.{server_limit, HasGreeted}
use Rattle.client_talk.specs.Handling.{Outcome, handled}
use Rattle.client_talk.specs.Kept.{IsListening, EndsHearing}
use Rattle.client_talk.specs.Laws.{HasCaps, GoingIsGreeted, AttachedIsGreeted, AttachedStays, RefusedAtFirst}
use Rattle.attached_client.specs.Client.{ClientSeen}
use Rattle.attached_client.specs.Acting.{acts}
use Rattle.open_connection.specs.Connection.{ConnectionSeen, caps_of}
use Rattle.open_connection.specs.Laws.{IsToldTo, HearingEnds}
use Rattle.open_connection.specs.Reading.{HearGives}
use Rattle.open_connection.specs.declared.heard.Heard.{Heard}
use Rattle.open_connection.specs.declared.heard.Heard.TheVariants as H
use Rattle.connection_ends.specs.Causes.{TellsThat, EndsTalk, IsFrontOf}
use Rattle.connection_steps.specs.Kept.{IsToldAs, IsConnection}
use Rattle.connection_steps.specs.Laws.{Gives, StandingIsGreeted, ReadingGreets, ReadingKeepsCaps, SaysGoodbye, RefusedGetsGoodbye}
use Rattle.connection_steps.proofs.Bytes.{given_told, tells_given}
use Rattle.connection_steps.proofs.Hearing.{ends_it}

some_same : {A : Type 0} (a b : A) → Some a ≡ Some b → a ≡ b
some_same a b same = cc same

-- a client has the capabilities of its hello, and keeps them
has_caps : (desk : List Window) (k now : ℕ) → HasCaps (acts desk k now) caps_of
has_caps desk k now = record { attach = λ caps. refl; act = λ m b. refl }

pub standing : GoingIsGreeted → StandingIsGreeted
standing going tells desk were_opened k r c client is kept =
    tells_given tells r kept.sent kept.given kept.heard (λ bytes. HasGreeted (talk server_limit bytes) client.caps) kept.told
    (going client.caps kept.given c.framing (subst (λ (o : Option ClientSeen). IsListening kept.given c.framing (option_map caps_of o)) is kept.listens))

-- the packets that were handled, with what is left behind them
module _ (attached : AttachedIsGreeted ClientSeen) (desk : List Window) (k now : ℕ) (c : ConnectionSeen) (client : ClientSeen) (given bytes : List ℕ)
    (was : IsListening given c.framing (option_map caps_of c.client)) (fresh : c.client ≡ None) where
  was_none : IsListening given c.framing None
  was_none = subst (λ (o : Option ClientSeen). IsListening given c.framing (option_map caps_of o)) fresh was

  by_packets : (before after : List Packet) (fault : Option Fault) (o : Option ClientSeen) (outcome : Outcome ClientSeen) → (left_of (fed c.framing bytes)).packets ≡ before ++ after
      → handled (acts desk k now) c.client 0 before fault ≡ outcome → outcome.attached ≡ o → o ≡ Some client → HasGreeted (talk server_limit (given ++ bytes)) client.caps
  by_packets before after fault o outcome left is there same =
      attached (acts desk k now) caps_of given bytes c.framing before after fault client (has_caps desk k now) was_none left
      (ap (λ (a : Option ClientSeen). (handled (acts desk k now) a 0 before fault).attached) (sym fresh) ∙ ap (λ (q : Outcome ClientSeen). q.attached) is ∙ there ∙ same)

  by_heard : (heard : Heard) (c' : ConnectionSeen) → c'.client ≡ Some client → HearGives (acts desk k now) c bytes heard c' → HasGreeted (talk server_limit (given ++ bytes)) client.caps
  by_heard (H.GoesOn n) c' is hears =
      let h = hears.2 in
      by_packets h.packets [] None c'.client _ (ap (λ s. s.packets) h.left ∙ sym (append-nil h.packets)) h.outcome refl is
  by_heard (H.Ends ending n) c' is hears =
      let ps = (left_of (fed c.framing bytes)).packets in
      by_packets ps [] (left_of (fed c.framing bytes)).fault c'.client _ (sym (append-nil ps)) hears.2 refl is
  by_heard (H.NoMemory n) c' is hears =
      let h = hears.2 in
      by_packets h.before h.after None c'.client _ h.packets h.outcome refl is

pub reading : AttachedIsGreeted ClientSeen → ReadingGreets
reading attached tells desk were_opened k now r r' c c' client bytes heard fresh is gives hears kept =
    tells_given tells r' kept.sent (kept.given ++ bytes) kept.heard (λ all. HasGreeted (talk server_limit all) client.caps) (given_told tells r r' kept.sent kept.given kept.heard bytes gives kept.told)
    (by_heard attached desk k now c client kept.given bytes kept.listens fresh heard c' is hears)

-- a client that is attached before a read is so after it
pub stays : AttachedStays ClientSeen → ReadingKeepsCaps
stays keeps desk k now c c' client bytes heard is hears = go heard hears
  where
    by_outcome : (packets : List Packet) (fault : Option Fault) (o : Option ClientSeen) (outcome : Outcome ClientSeen) → handled (acts desk k now) c.client 0 packets fault ≡ outcome → outcome.attached ≡ o
        → (client' : ClientSeen) × (o ≡ Some client') × (client'.caps ≡ client.caps)
    by_outcome packets fault o outcome gives there =
        let kept = keeps (acts desk k now) caps_of client packets fault (has_caps desk k now) in
        (kept.0, sym there ∙ sym (ap (λ (q : Outcome ClientSeen). q.attached) gives) ∙ ap (λ (a : Option ClientSeen). (handled (acts desk k now) a 0 packets fault).attached) is ∙ kept.1, kept.2)

    go : (heard : Heard) → HearGives (acts desk k now) c bytes heard c' → (client' : ClientSeen) × (c'.client ≡ Some client') × (client'.caps ≡ client.caps)
    go (H.GoesOn n) hears = by_outcome hears.2.packets None c'.client _ hears.2.outcome refl
    go (H.Ends ending n) hears = by_outcome (left_of (fed c.framing bytes)).packets (left_of (fed c.framing bytes)).fault c'.client _ hears.2 refl
    go (H.NoMemory n) hears = by_outcome hears.2.before None c'.client _ hears.2.outcome refl

-- a refused client was not attached
refused_none : RefusedAtFirst ClientSeen → (desk : List Window) (k now : ℕ) (c : ConnectionSeen) (client : Option ClientSeen) (bytes : List ℕ) (why : HelloFault) (ignored : ℕ)
    → EndsHearing (acts desk k now) c.framing c.client bytes (W.Refused why) client ignored → c.client ≡ None
refused_none first desk k now c client bytes why ignored ends = go c.client refl
  where
    go : (o : Option ClientSeen) → c.client ≡ o → o ≡ None
    go None is = refl
    go (Some a) is = absurd (first (acts desk k now) a (left_of (fed c.framing bytes)).packets (left_of (fed c.framing bytes)).fault why
        (ap (λ (b : Option ClientSeen). (handled (acts desk k now) b 0 (left_of (fed c.framing bytes)).packets (left_of (fed c.framing bytes)).fault).ended) (sym is) ∙ ap (λ (q : Outcome ClientSeen). q.ended) ends))

-- what is told of the bytes sent and given after the goodbye
front_of : (whole : List ℕ) (r r' : ConnectionRecord) (tells : Bool) (given heard : List ℕ) → IsToldAs tells r [] given heard → r'.sent ≡ r.sent → TellsThat r'.sent (IsFrontOf whole)
front_of whole r r' true given heard told same = subst (λ p. TellsThat p (IsFrontOf whole)) (sym (same ∙ told.0)) (whole, refl)
front_of whole r r' false given heard told same = subst (λ p. TellsThat p (IsFrontOf whole)) (sym (same ∙ told.0)) tt

written : (whole : List ℕ) (n : ℕ) (r r' : ConnectionRecord) (tells : Bool) (given heard : List ℕ) → IsToldAs tells r [] given heard → r'.sent ≡ told_append r.sent (take n whole) → TellsThat r'.sent (IsFrontOf whole)
written whole n r r' true given heard told now = subst (λ p. TellsThat p (IsFrontOf whole)) (sym (now ∙ ap (λ p. told_append p (take n whole)) told.0)) (drop n whole, sym (take-append-drop n whole))
written whole n r r' false given heard told now = subst (λ p. TellsThat p (IsFrontOf whole)) (sym (now ∙ ap (λ p. told_append p (take n whole)) told.0)) tt

same_given : (r r' : ConnectionRecord) (why : HelloFault) → SaysGoodbye why r r' → r'.given ≡ r.given
same_given r r' why (B.Took n, write) = ap (λ (q : ConnectionRecord). q.given) write.2
same_given r r' why (B.Failed, write) = ap (λ (q : ConnectionRecord). q.given) write.1
same_given r r' why (B.NoMemory, write) = ap (λ (q : ConnectionRecord). q.given) write

goodbye_sent : (r r' : ConnectionRecord) (why : HelloFault) (tells : Bool) (given heard : List ℕ) → IsToldAs tells r [] given heard → SaysGoodbye why r r' → TellsThat r'.sent (IsFrontOf (packet_bytes (goodbye_value why) None))
goodbye_sent r r' why tells given heard told (B.Took n, write) = written (packet_bytes (goodbye_value why) None) n r r' tells given heard told (ap (λ (q : ConnectionRecord). q.sent) write.2)
goodbye_sent r r' why tells given heard told (B.Failed, write) = front_of (packet_bytes (goodbye_value why) None) r r' tells given heard told (ap (λ (q : ConnectionRecord). q.sent) write.1)
goodbye_sent r r' why tells given heard told (B.NoMemory, write) = front_of (packet_bytes (goodbye_value why) None) r r' tells given heard told (ap (λ (q : ConnectionRecord). q.sent) write)

pub goodbye : HearingEnds → RefusedAtFirst ClientSeen → RefusedGetsGoodbye
goodbye ends first tells desk were_opened k now r r' r'' c client bytes why ignored gives hearing says kept = (
  subst (λ o. TellsThat o (EndsTalk (W.Refused why))) (sym (same_given r' r'' why says)) (ends_it ends tells desk were_opened k now r r' c client bytes (W.Refused why) ignored gives hearing kept),
  goodbye_sent r' r'' why tells (kept.given ++ bytes) kept.heard
      (subst (λ (sent : List ℕ). IsToldAs tells r' sent (kept.given ++ bytes) kept.heard) nothing (given_told tells r r' kept.sent kept.given kept.heard bytes gives kept.told)) says,
)
  where
    nothing : kept.sent ≡ []
    nothing = subst (λ (o : Option ClientSeen). IsToldTo desk were_opened k o kept.sent) (refused_none first desk k now c client bytes why ignored hearing) kept.client
