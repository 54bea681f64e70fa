-- What one packet comes to.
use Rattle.std.proofs.Common.{◌≡◌, ℕ, ◌+◌, true, false, Some, None, List, ◌∷◌, cond, ap, ◌∙◌}
use Rattle.std.specs.Prelude.{Option, Result, Ok, Err}
use Rattle.bencode_values.specs.declared.value.Value.{Value}
use Rattle.packet_frames.specs.Stream.{Packet, Fault}
use Rattle.hello_caps.specs.Capabilities.{hello_of}
use Rattle.hello_caps.specs.declared.caps.Caps.{Caps}
use Rattle.hello_caps.specs.declared.caps.HelloFault.{HelloFault}
use Rattle.packet_kinds.specs.FromShapes.{from_client}
use Rattle.packet_kinds.specs.declared.from_client.FromClient.{FromClient}
use Rattle.packet_kinds.specs.declared.fault.TalkFault.TheVariants as F
use Rattle.client_talk.specs.declared.ending.Ending.TheVariants as E
use Rattle.client_talk.specs.Talked.{is_leaving}
use Rattle.client_talk.specs.Handling.{Acts, handled, after_hello, after_said, after_message}
use Rattle.attached_client.specs.Client.{ClientSeen}

module _ (acts : Acts ClientSeen) (place : ℕ) (value : Value) (ignored : ℕ) (packets : List Packet) (fault : Option Fault) where
  abbrev p : Packet
  p = record { place = place; value = value }

  pub greets : (caps : Caps) → hello_of value ≡ Ok caps → handled acts None ignored (p ∷ packets) fault ≡ handled acts (Some (acts.attach caps)) ignored packets fault
  unfolding handled
  greets caps told = ap (λ (r : Result Caps HelloFault). after_hello acts ignored r (λ a n. handled acts a n packets fault)) told

  pub is_refused : (why : HelloFault) → hello_of value ≡ Err why → handled acts None ignored (p ∷ packets) fault ≡ record { attached = None; ignored = ignored; ended = Some (E.Refused why) }
  unfolding handled
  is_refused why told = ap (λ (r : Result Caps HelloFault). after_hello acts ignored r (λ a n. handled acts a n packets fault)) told

  pub leaves : (a : ClientSeen) (m : FromClient) → from_client value ≡ Ok m → is_leaving m ≡ true → handled acts (Some a) ignored (p ∷ packets) fault ≡ record { attached = Some a; ignored = ignored; ended = Some E.Left }
  unfolding handled
  leaves a m told leaving =
      ap (λ (r : Result FromClient ℕ). after_message acts a ignored place r (λ a n. handled acts a n packets fault)) told
      ∙ ap (λ b. after_said acts a ignored m b (λ a n. handled acts a n packets fault)) leaving

  pub says : (a : ClientSeen) (m : FromClient) → from_client value ≡ Ok m → is_leaving m ≡ false
      → handled acts (Some a) ignored (p ∷ packets) fault ≡ handled acts (Some (acts.act m a)) (cond (acts.ignores m a) (ignored + 1) ignored) packets fault
  unfolding handled
  says a m told staying =
      ap (λ (r : Result FromClient ℕ). after_message acts a ignored place r (λ a n. handled acts a n packets fault)) told
      ∙ ap (λ b. after_said acts a ignored m b (λ a n. handled acts a n packets fault)) staying

  pub has_no_shape : (a : ClientSeen) (i : ℕ) → from_client value ≡ Err i → handled acts (Some a) ignored (p ∷ packets) fault ≡ record { attached = Some a; ignored = ignored; ended = Some (E.Broken place (F.Shape i)) }
  unfolding handled
  has_no_shape a i told = ap (λ (r : Result FromClient ℕ). after_message acts a ignored place r (λ a n. handled acts a n packets fault)) told
