-- What packets make of an attached client, by what they say.
use Rattle.std.proofs.Common.{◌≡◌, ◌≢◌, ℕ, ◌+◌, Bool, true, false, ◌||◌, Option, Some, None, List, [], ◌∷◌, refl, sym, ap, subst, ◌∙◌}
use Rattle.std.specs.Prelude.{Result, Ok, Err, if◌then◌else◌}
use Rattle.packet_frames.specs.Stream.{Packet, Fault}
use Rattle.packet_kinds.specs.declared.from_client.FromClient.{FromClient}
use Rattle.packet_kinds.specs.declared.fault.TalkFault.{TalkFault}
use Rattle.packet_kinds.specs.declared.fault.TalkFault.TheVariants as F
use Rattle.packet_kinds.specs.FromShapes.{from_client}
use Rattle.packet_kinds.specs.Talk.{Said, Heard, TalkStop, stop_of, heard_or_shape, heard}
use Rattle.hello_caps.specs.declared.caps.Caps.{Caps}
use Rattle.client_talk.specs.declared.ending.Ending.{Ending}
use Rattle.client_talk.specs.declared.ending.Ending.TheVariants as E
use Rattle.client_talk.specs.Talked.{is_leaving, says_leaving}
use Rattle.client_talk.specs.Handling.{Acts, Outcome, after_said, after_message, handled}
use Rattle.client_talk.specs.Marks.{mark_after, marked}
use Rattle.client_talk.specs.Laws.{HasCaps, Marks}

-- what the packets say goes on, or is what ended the talk
abbrev pub Agrees : Option Ending → Heard → Type 0
Agrees None h = (h.fault ≡ None) × (says_leaving h.said ≡ false)
Agrees (Some E.Left) h = says_leaving h.said ≡ true
Agrees (Some (E.Refused fault)) h = ⊥
Agrees (Some (E.Broken place kind)) h = h.fault ≡ Some (record { place = place; kind = kind })

module _ {A : Type 0} (acts : Acts A) where
  agrees_later : (e : Option Ending) (place : ℕ) (m : FromClient) (h : Heard) → is_leaving m ≡ false → Agrees e h → Agrees e (heard_or_shape place (Ok m) h)
  agrees_later None place m h stays agrees = (agrees.0, ap (λ b. b || says_leaving h.said) stays ∙ agrees.1)
  agrees_later (Some E.Left) place m h stays agrees = ap (λ b. b || says_leaving h.said) stays ∙ agrees
  agrees_later (Some (E.Refused fault)) place m h stays agrees = absurd agrees
  agrees_later (Some (E.Broken p kind)) place m h stays agrees = agrees

  pub agrees : (a : A) (n : ℕ) (packets : List Packet) (fault : Option Fault) → Agrees (handled acts (Some a) n packets fault).ended (heard fault packets)
  unfolding handled
  agrees a n [] None = (refl, refl)
  agrees a n [] (Some f) = refl
  agrees a n (p ∷ packets) fault = message (λ b k. agrees b k packets fault) (from_client p.value)
    where
      Later : Type 0
      Later = (b : A) (k : ℕ) → Agrees (handled acts (Some b) k packets fault).ended (heard fault packets)

      said : Later → (m : FromClient) (b : Bool) → is_leaving m ≡ b → Agrees (after_said acts a n m b (λ s k. handled acts s k packets fault)).ended (heard_or_shape p.place (Ok m) (heard fault packets))
      said later m true leaves = ap (λ b. b || says_leaving (heard fault packets).said) leaves
      said later m false stays = agrees_later (handled acts (Some (acts.act m a)) (if acts.ignores m a then n + 1 else n) packets fault).ended p.place m (heard fault packets) stays
          (later (acts.act m a) (if acts.ignores m a then n + 1 else n))

      message : Later → (r : Result FromClient ℕ) → Agrees (after_message acts a n p.place r (λ s k. handled acts s k packets fault)).ended (heard_or_shape p.place r (heard fault packets))
      message later (Err i) = refl
      message later (Ok m) = said later m (is_leaving m) refl

  -- its capabilities stay
  pub keeps_caps : (caps_of : A → Caps) → HasCaps acts caps_of → (a : A) (n : ℕ) (packets : List Packet) (fault : Option Fault) → (handled acts (Some a) n packets fault).ended ≡ None
      → (b : A) × ((handled acts (Some a) n packets fault).attached ≡ Some b) × (caps_of b ≡ caps_of a)
  unfolding handled
  keeps_caps caps_of has a n [] None goes = (a, refl, refl)
  keeps_caps caps_of has a n [] (Some f) goes = absurd (cc)
  keeps_caps caps_of has a n (p ∷ packets) fault goes = message (λ b k on. keeps_caps caps_of has b k packets fault on) (from_client p.value) goes
    where
      Later : Type 0
      Later = (b : A) (k : ℕ) → (handled acts (Some b) k packets fault).ended ≡ None → (c : A) × ((handled acts (Some b) k packets fault).attached ≡ Some c) × (caps_of c ≡ caps_of b)

      said : Later → (m : FromClient) (b : Bool) → (after_said acts a n m b (λ s k. handled acts s k packets fault)).ended ≡ None
          → (c : A) × ((after_said acts a n m b (λ s k. handled acts s k packets fault)).attached ≡ Some c) × (caps_of c ≡ caps_of a)
      said later m true goes = absurd (cc)
      said later m false goes =
          let kept = later (acts.act m a) (if acts.ignores m a then n + 1 else n) goes in
          (kept.0, kept.1, kept.2 ∙ has.act m a)

      message : Later → (r : Result FromClient ℕ) → (after_message acts a n p.place r (λ s k. handled acts s k packets fault)).ended ≡ None
          → (c : A) × ((after_message acts a n p.place r (λ s k. handled acts s k packets fault)).attached ≡ Some c) × (caps_of c ≡ caps_of a)
      message later (Err i) goes = absurd (cc)
      message later (Ok m) goes = said later m (is_leaving m) goes

  -- and however it ends
  pub keeps_caps_ever : (caps_of : A → Caps) → HasCaps acts caps_of → (a : A) (n : ℕ) (packets : List Packet) (fault : Option Fault)
      → (b : A) × ((handled acts (Some a) n packets fault).attached ≡ Some b) × (caps_of b ≡ caps_of a)
  unfolding handled
  keeps_caps_ever caps_of has a n [] None = (a, refl, refl)
  keeps_caps_ever caps_of has a n [] (Some f) = (a, refl, refl)
  keeps_caps_ever caps_of has a n (p ∷ packets) fault = message (λ b k. keeps_caps_ever caps_of has b k packets fault) (from_client p.value)
    where
      Later : Type 0
      Later = (b : A) (k : ℕ) → (c : A) × ((handled acts (Some b) k packets fault).attached ≡ Some c) × (caps_of c ≡ caps_of b)

      said : Later → (m : FromClient) (b : Bool) → (c : A) × ((after_said acts a n m b (λ s k. handled acts s k packets fault)).attached ≡ Some c) × (caps_of c ≡ caps_of a)
      said later m true = (a, refl, refl)
      said later m false =
          let kept = later (acts.act m a) (if acts.ignores m a then n + 1 else n) in
          (kept.0, kept.1, kept.2 ∙ has.act m a)

      message : Later → (r : Result FromClient ℕ) → (c : A) × ((after_message acts a n p.place r (λ s k. handled acts s k packets fault)).attached ≡ Some c) × (caps_of c ≡ caps_of a)
      message later (Err i) = (a, refl, refl)
      message later (Ok m) = said later m (is_leaving m)

  -- a mark is what the packets say of it
  pub marks : (wid : ℕ) (mark_of : A → Option Bool) → Marks acts wid mark_of → (a : A) (was : Bool) → mark_of a ≡ Some was → (n : ℕ) (packets : List Packet) (fault : Option Fault) → (handled acts (Some a) n packets fault).ended ≡ None
      → (b : A) → (handled acts (Some a) n packets fault).attached ≡ Some b → mark_of b ≡ Some (marked wid was (heard fault packets).said)
  unfolding handled
  marks wid mark_of has a was before n [] None goes b is = ap mark_of (sym (let same : a ≡ b = cc is in same)) ∙ before
  marks wid mark_of has a was before n [] (Some f) goes b is = absurd (cc)
  marks wid mark_of has a was before n (p ∷ packets) fault goes b is = message (λ c mark there k on same. marks wid mark_of has c mark there k packets fault on b same) (from_client p.value) goes is
    where
      Later : Type 0
      Later = (c : A) (mark : Bool) → mark_of c ≡ Some mark → (k : ℕ) → (handled acts (Some c) k packets fault).ended ≡ None → (handled acts (Some c) k packets fault).attached ≡ Some b
          → mark_of b ≡ Some (marked wid mark (heard fault packets).said)

      said : Later → (m : FromClient) (leaves : Bool) → (after_said acts a n m leaves (λ s k. handled acts s k packets fault)).ended ≡ None
          → (after_said acts a n m leaves (λ s k. handled acts s k packets fault)).attached ≡ Some b → mark_of b ≡ Some (marked wid was (heard_or_shape p.place (Ok m) (heard fault packets)).said)
      said later m true goes is = absurd (cc)
      said later m false goes is = later (acts.act m a) (mark_after wid was m) (has m a was before) (if acts.ignores m a then n + 1 else n) goes is

      message : Later → (r : Result FromClient ℕ) → (after_message acts a n p.place r (λ s k. handled acts s k packets fault)).ended ≡ None
          → (after_message acts a n p.place r (λ s k. handled acts s k packets fault)).attached ≡ Some b → mark_of b ≡ Some (marked wid was (heard_or_shape p.place r (heard fault packets)).said)
      message later (Err i) goes is = absurd (cc)
      message later (Ok m) goes is = said later m (is_leaving m) goes is
