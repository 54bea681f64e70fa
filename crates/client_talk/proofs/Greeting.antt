-- A client that is there has an accepted hello in the bytes that it gave.
use Rattle.std.proofs.Common.{◌≡◌, ℕ, Option, Some, None, List, [], ◌∷◌, ◌++◌, refl, sym, ap, subst, ◌∙◌}
use Rattle.std.specs.Prelude.{Result, Ok, Err}
use Rattle.packet_frames.specs.Stream.{Packet, Fault}
use Rattle.packet_frames.specs.Following.{Framing, left_of, fed}
use Rattle.hello_caps.specs.Capabilities.{hello_of}
use Rattle.hello_caps.specs.declared.caps.Caps.{Caps}
use Rattle.hello_caps.specs.declared.caps.HelloFault.{HelloFault}
use Rattle.packet_kinds.specs.Talk.{Talk, heard, talk_of, talk}
use Rattle.client_talk.specs.declared.ending.Ending.{Ending}
use Rattle.client_talk.specs.declared.ending.Ending.TheVariants as E
use Rattle.client_talk.specs.Talked.{server_limit, HasGreeted}
use Rattle.client_talk.specs.Handling.{Acts, after_hello, handled}
use Rattle.client_talk.specs.Kept.{IsListening}
use Rattle.client_talk.specs.Laws.{HasCaps, GoingIsGreeted, AttachedIsGreeted, AttachedStays, RefusedAtFirst}
use Rattle.client_talk.proofs.Handled.{Agrees, agrees, keeps_caps_ever}
use Rattle.client_talk.proofs.Listening.{nothing_said}
use Rattle.client_talk.proofs.Bytes.{Laws, talk_left, talk_was}

pub going : Laws → GoingIsGreeted
going laws caps given f was = subst (λ (t : Talk). HasGreeted t caps) (sym (talk_was laws given [] f (Some caps) was)) was.said.0

pub stays : {A : Type 0} → AttachedStays A
stays acts caps_of a packets fault has = keeps_caps_ever acts caps_of has a 0 packets fault

pub refused : {A : Type 0} → RefusedAtFirst A
refused acts a packets fault why is = subst (λ (o : Option Ending). Agrees o (heard fault packets)) is (agrees acts a 0 packets fault)

some_same : {A : Type 0} (a b : A) → Some a ≡ Some b → a ≡ b
some_same a b same = cc same

-- the first of the packets is its hello
first_greets : {A : Type 0} (acts : Acts A) (caps_of : A → Caps) → HasCaps acts caps_of → (before after : List Packet) (fault stop : Option Fault) (a : A)
    → (handled acts None 0 before fault).attached ≡ Some a → HasGreeted (talk_of stop (before ++ after)) (caps_of a)
unfolding handled
first_greets acts caps_of has [] after None stop a is = absurd (cc is)
first_greets acts caps_of has [] after (Some f) stop a is = absurd (cc is)
first_greets acts caps_of has (p ∷ before) after fault stop a is = greets (hello_of p.value) refl is
  where
    greets : (r : Result Caps HelloFault) → hello_of p.value ≡ r → (after_hello acts 0 r (λ s k. handled acts s k before fault)).attached ≡ Some a → Some (hello_of p.value) ≡ Some (Ok (caps_of a))
    greets (Err f) here is = absurd (cc is)
    greets (Ok caps) here is =
        let kept = keeps_caps_ever acts caps_of has (acts.attach caps) 0 before fault in
        let same : kept.0 ≡ a = some_same kept.0 a (sym kept.1 ∙ is) in
        ap (λ (r : Result Caps HelloFault). Some r) (here ∙ ap (λ (c : Caps). let r : Result Caps HelloFault = Ok c in r) (sym (has.attach caps) ∙ sym kept.2 ∙ ap caps_of same))

pub attached : {A : Type 0} → Laws → AttachedIsGreeted A
attached laws acts caps_of given bytes f before after fault a has was left is =
    let all = talk_left laws given bytes f None was in
    let none = nothing_said acts caps_of has laws.later was.packets was.said in
    subst (λ (t : Talk). HasGreeted t (caps_of a)) (sym (all ∙ ap (λ (ps : List Packet). talk_of (left_of (fed f bytes)).fault (ps ++ (left_of (fed f bytes)).packets)) none ∙ ap (talk_of (left_of (fed f bytes)).fault) left))
    (first_greets acts caps_of has before after fault (left_of (fed f bytes)).fault a is)
