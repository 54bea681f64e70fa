-- What follows from what is kept.
use Rattle.std.specs.Prelude.{ℕ, ◌<◌, ◌≤◌, ◌≡◌, Bool, true, false, Option, Some, None, List, [], ◌++◌, length, replicate}
use Rattle.std.specs.Option.{option_map}
use Rattle.packet_frames.specs.Stream.{Packet, Fault}
use Rattle.packet_frames.specs.Following.{Framing, left_of, fed}
use Rattle.hello_caps.specs.declared.caps.Caps.{Caps}
use Rattle.hello_caps.specs.declared.caps.HelloFault.{HelloFault}
use Rattle.packet_kinds.specs.declared.from_client.FromClient.{FromClient}
use Rattle.packet_kinds.specs.Talk.{Said, talk}
use Rattle.client_talk.specs.declared.ending.Ending.{Ending}
use Rattle.client_talk.specs.declared.ending.Ending.TheVariants as E
use Rattle.client_talk.specs.Talked.{server_limit, HasGreeted, HasEnding}
use Rattle.client_talk.specs.Handling.{Acts, handled}
use Rattle.client_talk.specs.Marks.{mark_after, marked}
use Rattle.client_talk.specs.Mapped.{IsShownBy, Maps}
use Rattle.client_talk.specs.Kept.{IsListening, Hears, EndsHearing, IsMarked}

-- a client has the capabilities of its hello, and keeps them
pub record HasCaps {A : Type 0} (acts : Acts A) (caps_of : A → Caps) : Type 0 where
  pub attach : (caps : Caps) → caps_of (acts.attach caps) ≡ caps
  pub act : (m : FromClient) (a : A) → caps_of (acts.act m a) ≡ caps_of a

-- the bytes given so far, and what is kept of what they said
abbrev pub GoesOnListening : Type 0 → Type 0
GoesOnListening A = (acts : Acts A) (caps_of : A → Caps) (given bytes : List ℕ) (f f' : Framing) (attached attached' : Option A) (ignored : ℕ) → HasCaps acts caps_of
    → IsListening given f (option_map caps_of attached) → Hears acts f attached bytes f' attached' ignored → IsListening (given ++ bytes) f' (option_map caps_of attached')

abbrev pub EndsForItsCause : Type 0 → Type 0
EndsForItsCause A = (acts : Acts A) (caps_of : A → Caps) (given bytes : List ℕ) (f : Framing) (attached attached' : Option A) (ending : Ending) (ignored : ℕ) → HasCaps acts caps_of
    → IsListening given f (option_map caps_of attached) → EndsHearing acts f attached bytes ending attached' ignored → HasEnding ending (talk server_limit (given ++ bytes))

-- a client that goes on has an accepted hello in the bytes given, of these capabilities
abbrev pub GoingIsGreeted : Type 0
GoingIsGreeted = (caps : Caps) (given : List ℕ) (f : Framing) → IsListening given f (Some caps) → HasGreeted (talk server_limit given) caps

-- one that some packets of a read attached has its hello in the bytes given by then, whatever becomes of it in that read
abbrev pub AttachedIsGreeted : Type 0 → Type 0
AttachedIsGreeted A = (acts : Acts A) (caps_of : A → Caps) (given bytes : List ℕ) (f : Framing) (before after : List Packet) (fault : Option Fault) (a : A) → HasCaps acts caps_of
    → IsListening given f None → (left_of (fed f bytes)).packets ≡ before ++ after → (handled acts None 0 before fault).attached ≡ Some a → HasGreeted (talk server_limit (given ++ bytes)) (caps_of a)

-- a client whose hello was accepted keeps its capabilities, and is not refused
abbrev pub AttachedStays : Type 0 → Type 0
AttachedStays A = (acts : Acts A) (caps_of : A → Caps) (a : A) (packets : List Packet) (fault : Option Fault) → HasCaps acts caps_of
    → (b : A) × ((handled acts (Some a) 0 packets fault).attached ≡ Some b) × (caps_of b ≡ caps_of a)

abbrev pub RefusedAtFirst : Type 0 → Type 0
RefusedAtFirst A = (acts : Acts A) (a : A) (packets : List Packet) (fault : Option Fault) (why : HelloFault) → (handled acts (Some a) 0 packets fault).ended ≡ Some (E.Refused why) → ⊥

-- a window's mark in a client that has the window, and what messages make of it
abbrev pub Marks : {A : Type 0} → Acts A → ℕ → (A → Option Bool) → Type 0
Marks {A = A} acts wid mark_of = (m : FromClient) (a : A) (mark : Bool) → mark_of a ≡ Some mark → mark_of (acts.act m a) ≡ Some (mark_after wid mark m)

-- the mark before a read: that of the client, or of what its hello makes of it
abbrev pub MarkBefore : {A : Type 0} → Acts A → (A → Option Bool) → Option A → Bool → Type 0
MarkBefore acts mark_of None was = (caps : Caps) → mark_of (acts.attach caps) ≡ Some was
MarkBefore acts mark_of (Some a) was = mark_of a ≡ Some was

-- a read says some messages more, and the mark is what they make of it
abbrev pub MarksFollow : Type 0 → Type 0
MarksFollow A = (acts : Acts A) (caps_of : A → Caps) (wid : ℕ) (mark_of : A → Option Bool) (was : Bool) (given bytes : List ℕ) (f f' : Framing) (attached : Option A) (a : A) (ignored : ℕ)
    → HasCaps acts caps_of → Marks acts wid mark_of → MarkBefore acts mark_of attached was
    → IsListening given f (option_map caps_of attached) → Hears acts f attached bytes f' (Some a) ignored
    → (more : List Said) × ((talk server_limit (given ++ bytes)).said ≡ (talk server_limit given).said ++ more) × (mark_of a ≡ Some (marked wid was more))

-- a window begins unmarked, where the client was never shown it
abbrev pub MarkBegins : Type 0
MarkBegins = (wid : ℕ) (sent given heard : List ℕ) → ((n : ℕ) → n < length sent → IsShownBy sent n wid → ⊥) → IsMarked wid false sent given heard

-- messages make of it what they say
abbrev pub MarkHears : Type 0
MarkHears = (wid : ℕ) (mark : Bool) (sent given heard bytes : List ℕ) (more : List Said) → (talk server_limit (given ++ bytes)).said ≡ (talk server_limit given).said ++ more
    → IsMarked wid mark sent given heard → IsMarked wid (marked wid mark more) sent (given ++ bytes) heard

-- bytes sent keep it: each is sent when all these bytes had been given
abbrev pub MarkSends : Type 0
MarkSends = (wid : ℕ) (mark : Bool) (sent given heard bytes : List ℕ) → length heard ≡ length sent
    → IsMarked wid mark sent given heard → IsMarked wid mark (sent ++ bytes) given (heard ++ replicate (length bytes) (length given))

-- a window that the client mapped after it was shown is marked
abbrev pub MappedIsMarked : Type 0
MappedIsMarked = (wid : ℕ) (mark : Bool) (sent given heard : List ℕ) → IsMarked wid mark sent given heard → Maps wid sent given heard → mark ≡ true
