-- What each packet keeps, all of them keep.
use Rattle.std.proofs.Common.{ℕ, ◌+◌, Bool, true, false, Some, None, List, [], ◌∷◌, cond, refl, sym, subst}
use Rattle.std.specs.Prelude.{Option, Result, Ok, Err}
use Rattle.packet_frames.specs.Stream.{Packet, Fault}
use Rattle.hello_caps.specs.Capabilities.{hello_of}
use Rattle.hello_caps.specs.declared.caps.Caps.{Caps}
use Rattle.hello_caps.specs.declared.caps.HelloFault.{HelloFault}
use Rattle.packet_kinds.specs.FromShapes.{from_client}
use Rattle.packet_kinds.specs.declared.from_client.FromClient.{FromClient}
use Rattle.client_talk.specs.Talked.{is_leaving}
use Rattle.client_talk.specs.Handling.{Acts, handled, after_hello, after_said, after_message}
use Rattle.client_delivery.specs.Keeping.{AttachTells}
use Rattle.client_delivery.specs.Delivered.{IsTold}
use Rattle.attached_client.specs.Client.{ClientSeen, attached_at}
use Rattle.attached_client.specs.Acting.{acts}
use Rattle.attached_client.specs.Laws.{AttachesSo, ActingKeeps}
use Rattle.open_connection.specs.Laws.{IsToldTo, HearingTells}

module _ (A : Type 0) (acts : Acts A) (P : Option A → Type 0) (attaches : (caps : Caps) → P None → P (Some (acts.attach caps))) (acting : (m : FromClient) (a : A) → P (Some a) → P (Some (acts.act m a))) where
  pub outcome_keeps : (attached : Option A) (ignored : ℕ) (packets : List Packet) (fault : Option Fault) → P attached → let o = handled acts attached ignored packets fault in P o.attached
  unfolding handled
  outcome_keeps attached ignored [] None kept = kept
  outcome_keeps attached ignored [] (Some f) kept = kept
  outcome_keeps None ignored (p ∷ packets) fault kept = greet (hello_of p.value) (λ a n. outcome_keeps a n packets fault)
    where
      greet : (said : Result Caps HelloFault) → ((a : Option A) (n : ℕ) → P a → let o = handled acts a n packets fault in P o.attached)
          → let o = after_hello acts ignored said (λ a n. handled acts a n packets fault) in P o.attached
      greet (Err why) rest = kept
      greet (Ok caps) rest = rest (Some (acts.attach caps)) ignored (attaches caps kept)
  outcome_keeps (Some a) ignored (p ∷ packets) fault kept = hear (from_client p.value) (λ b n. outcome_keeps b n packets fault)
    where
      said : (m : FromClient) (leaves : Bool) → ((b : Option A) (n : ℕ) → P b → let o = handled acts b n packets fault in P o.attached)
          → let o = after_said acts a ignored m leaves (λ b n. handled acts b n packets fault) in P o.attached
      said m true rest = kept
      said m false rest = rest (Some (acts.act m a)) (cond (acts.ignores m a) (ignored + 1) ignored) (acting m a kept)

      hear : (read : Result FromClient ℕ) → ((b : Option A) (n : ℕ) → P b → let o = handled acts b n packets fault in P o.attached)
          → let o = after_message acts a ignored p.place read (λ b n. handled acts b n packets fault) in P o.attached
      hear (Err i) rest = kept
      hear (Ok m) rest = said m (is_leaving m) rest

module _ (attach_tells : AttachTells) (attaches_so : AttachesSo) (acting_keeps : ActingKeeps) where
  pub hearing_tells : HearingTells
  hearing_tells desk were_opened conn now sent client packets fault desktop holds told =
      outcome_keeps ClientSeen (acts desk conn now) (λ c. IsToldTo desk were_opened conn c sent)
      (λ caps none. (refl, let c = attached_at desk conn now caps in subst (IsTold desk were_opened c.seen) (sym none) (attach_tells desk were_opened conn now c.seen desktop holds (attaches_so desk conn now caps desktop))))
      (λ m c is. (is.0, acting_keeps desk were_opened now m c.seen sent is.1))
      client 0 packets fault told
