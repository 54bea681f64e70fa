-- The talk of the packets that a framer has given.
use Rattle.std.proofs.Common.{◌≡◌, ◌≢◌, ℕ, List, [], ◌∷◌, ◌++◌, refl, sym, ap, subst, ◌∙◌}
use Rattle.std.specs.Prelude.{Option, Some, None, Result, Ok, Err}
use Rattle.packet_frames.specs.Stream.{Packet, Stream, packets_of}
use Rattle.packet_frames.specs.Following.{Framing, left_of, Follows}
use Rattle.packet_kinds.specs.declared.fault.TalkFault.TheVariants as F
use Rattle.packet_kinds.specs.declared.from_client.FromClient.{FromClient}
use Rattle.packet_kinds.specs.FromShapes.{from_client}
use Rattle.packet_kinds.specs.Talk.{Said, Talk, Heard, heard_or_shape, heard, talk_of, talk, Continues, AreSaid, PacketsAreSaid, GivenAreSaid, GivenFaultStays}
use Rattle.packet_kinds.proofs.Talks.{talk-is, shape_stays, continues_packets}

-- these messages and no fault
abbrev clear : List Said → Heard
clear said = record { said = said; fault = None }

same_said : (a b : List Said) → clear a ≡ clear b → a ≡ b
same_said a b e = ap (λ (h : Heard). h.said) e

first_said : (s t : Said) (a b : List Said) → s ∷ a ≡ t ∷ b → (s ≡ t) × (a ≡ b)
first_said s t a b e = (cc, cc)

same_message : (a b : FromClient) → (let r : Result FromClient ℕ = Ok a in r ≡ Ok b) → a ≡ b
same_message a b e = cc

heard_none : (place : ℕ) (r : Result FromClient ℕ) (later : Heard) (said : List Said) → heard_or_shape place r later ≡ clear said
    → (m : FromClient) × (r ≡ Ok m) × (later ≡ clear later.said) × (said ≡ record { place = place; message = m } ∷ later.said)
heard_none place (Err i) later said e = absurd (let f = ap (λ (h : Heard). h.fault) e in cc)
heard_none place (Ok m) later said e =
    (m, refl, ap (λ o. let h : Heard = record { said = later.said; fault = o } in h) (ap (λ (h : Heard). h.fault) e), sym (ap (λ (h : Heard). h.said) e))

-- what a packet and those behind it say
abbrev Says : Packet → List Packet → List Said → Type 0
Says p packets said =
    (m : FromClient) × (from_client p.value ≡ Ok m) × (heard None packets ≡ clear (heard None packets).said) × (said ≡ record { place = p.place; message = m } ∷ (heard None packets).said)

one_said : (p : Packet) (packets : List Packet) (said : List Said) → ((later : List Said) → heard None packets ≡ clear later → AreSaid packets later) → Says p packets said → AreSaid (p ∷ packets) said
one_said p packets [] later h = absurd (let f = h.3 in cc)
one_said p packets (s ∷ said) later h =
    let both = first_said s (record { place = p.place; message = h.0 }) said (heard None packets).said h.3 in
    (ap (λ (t : Said). t.place) both.0, h.1 ∙ ap (λ (t : Said). Ok t.message) (sym both.0), later said (h.2 ∙ ap clear (sym both.1)))

to_said : (packets : List Packet) (said : List Said) → heard None packets ≡ clear said → AreSaid packets said
to_said [] [] e = tt
to_said [] (s ∷ said) e = absurd (let f = same_said [] (s ∷ said) e in cc)
to_said (p ∷ packets) said e = one_said p packets said (to_said packets) (heard_none p.place (from_client p.value) (heard None packets) said e)

from_said : (packets : List Packet) (said : List Said) → AreSaid packets said → heard None packets ≡ clear said
from_said [] [] all = refl
from_said [] (s ∷ said) all = absurd all
from_said (p ∷ packets) [] all = absurd all
from_said (p ∷ packets) (s ∷ said) all =
    ap (λ r. heard_or_shape p.place r (heard None packets)) all.1 ∙ ap (heard_or_shape p.place (Ok s.message)) (from_said packets said all.2)
    ∙ ap (λ place. clear (record { place = place; message = s.message } ∷ said)) (sym all.0)

pub packets_are_said : PacketsAreSaid
packets_are_said first later said = (
  λ e. to_said later said (ap (λ (t : Talk). let h : Heard = record { said = t.said; fault = t.fault } in h) e),
  λ all. ap (λ (h : Heard). let t : Talk = record { first = Some first; said = h.said; fault = h.fault } in t) (from_said later said all),
)

-- the talk of the bytes fed, by what was given and what is left
given_is : (bytes : List ℕ) (given : List Packet) (f : Framing) → Follows bytes given f → talk f.limit bytes ≡ talk_of (left_of f).fault (given ++ (left_of f).packets)
given_is bytes given f follows = talk-is f.limit bytes ∙ ap (λ (s : Stream). talk_of s.fault s.packets) follows.all

pub given_are_said : GivenAreSaid
given_are_said bytes given f follows =
    subst (Continues (talk_of None given)) (sym (given_is bytes given f follows)) (continues_packets (left_of f).fault given (left_of f).packets)

pub given_fault_stays : GivenFaultStays
given_fault_stays bytes given f follows some = given_is bytes given f follows ∙ shape_stays given (left_of f).packets (left_of f).fault some
