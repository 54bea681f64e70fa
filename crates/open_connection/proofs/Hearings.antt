-- The packets of one read, one after another.
use Rattle.std.proofs.Common.{◌≡◌, ℕ, ◌+◌, min, Bool, true, false, Some, None, List, [], ◌∷◌, ◌++◌, cond, refl, sym, ap, ◌∙◌, subst, arith}
use Rattle.std.specs.Prelude.{Option}
use Rattle.std.proofs.lemmas.Bool.Decides.{nat_tests}
use Rattle.std.proofs.lemmas.List.{append-nil, append_assoc}
use Rattle.xp_base.specs.Counts.{greatest}
use Rattle.bencode_values.specs.declared.value.Value.{Value}
use Rattle.packet_frames.specs.Stream.{Packet, Fault, Stream}
use Rattle.packet_frames.specs.Following.{Framing, left_of, behind, Gives}
use Rattle.packet_frames.specs.declared.next.Next.TheVariants as N
use Rattle.client_talk.specs.Handling.{Acts, handled, stopped}
use Rattle.attached_client.specs.Client.{ClientSeen}
use Rattle.open_connection.specs.declared.step.Step.TheVariants as S
use Rattle.open_connection.specs.Reading.{StopsAt, HearsOn, TakesPacket}

-- these packets were given so far, and made of the client what it is
pub record SoFar (acts : Acts ClientSeen) (f0 : Framing) (c0 : Option ClientSeen) (f : Framing) (c : Option ClientSeen) (n : ℕ) : Type 0 where
  pub limit : f.limit ≡ f0.limit
  pub done : List Packet
  pub left : left_of f0 ≡ behind done (left_of f)
  pub ignored : ℕ
  pub counted : n ≡ min ignored greatest
  pub goes : (packets : List Packet) (fault : Option Fault) → handled acts c0 0 (done ++ packets) fault ≡ handled acts c ignored packets fault

pub at_first : (acts : Acts ClientSeen) (f : Framing) (c : Option ClientSeen) → SoFar acts f c f c 0
at_first acts f c = record { limit = refl; done = []; left = refl; ignored = 0; counted = refl; goes = λ packets fault. refl }

kept_least : (a : ℕ) → min (min a greatest + 1) greatest ≡ min (a + 1) greatest
kept_least a = grind (arith, nat_tests)

module _ (next_was : (old new : Framing) (place : ℕ) (value : Value) → Gives old (N.Packet place value) new → left_of old ≡ behind (record { place = place; value = value } ∷ []) (left_of new)) where
  pub goes_on : (acts : Acts ClientSeen) (f0 : Framing) (c0 : Option ClientSeen) (f f' : Framing) (c c' : Option ClientSeen) (n n' place : ℕ) (value : Value) (was_ignored : Bool)
      → SoFar acts f0 c0 f c n → Gives f (N.Packet place value) f' → TakesPacket acts c place value (S.Handled was_ignored) c'
      → ((ignored : ℕ) → n ≡ min ignored greatest → n' ≡ min (cond was_ignored (ignored + 1) ignored) greatest)
      → SoFar acts f0 c0 f' c' n'
  goes_on acts f0 c0 f f' c c' n n' place value was_ignored so gives takes counts = record {
    limit = ap (λ (g : Framing). g.limit) gives.3 ∙ so.limit;
    done = so.done ++ p ∷ [];
    left = so.left ∙ ap (behind so.done) (next_was f f' place value gives) ∙ ap (λ (ps : List Packet). record (left_of f') { packets = ps }) (sym (append_assoc so.done (p ∷ []) _));
    ignored = cond was_ignored (so.ignored + 1) so.ignored;
    counted = counts so.ignored so.counted;
    goes = λ packets fault. ap (λ (ps : List Packet). handled acts c0 0 ps fault) (append_assoc so.done (p ∷ []) packets) ∙ so.goes (p ∷ packets) fault ∙ takes so.ignored packets fault;
  }
    where
      p : Packet
      p = record { place = place; value = value }

  -- a packet that ends the talk
  pub ends_so : (acts : Acts ClientSeen) (f0 : Framing) (c0 : Option ClientSeen) (f f' : Framing) (c c' : Option ClientSeen) (n place : ℕ) (value : Value) (ending : _)
      → (so : SoFar acts f0 c0 f c n) → Gives f (N.Packet place value) f' → TakesPacket acts c place value (S.Ends ending) c'
      → handled acts c0 0 (left_of f0).packets (left_of f0).fault ≡ record { attached = c'; ignored = so.ignored; ended = Some ending }
  ends_so acts f0 c0 f f' c c' n place value ending so gives takes =
      ap (λ (s : Stream). handled acts c0 0 s.packets s.fault) (so.left ∙ ap (behind so.done) (next_was f f' place value gives))
      ∙ so.goes (record { place = place; value = value } ∷ (left_of f').packets) (left_of f').fault ∙ takes so.ignored (left_of f').packets (left_of f').fault

  -- no memory for a packet
  pub short_at : (acts : Acts ClientSeen) (f0 : Framing) (c0 : Option ClientSeen) (f f' : Framing) (c : Option ClientSeen) (n : ℕ)
      → (so : SoFar acts f0 c0 f c n) → StopsAt acts f0 c0 c so.ignored
  unfolding handled
  short_at acts f0 c0 f f' c n so = record {
    before = so.done;
    after = (left_of f).packets;
    packets = ap (λ (s : Stream). s.packets) so.left;
    outcome = ap (λ (ps : List Packet). handled acts c0 0 ps None) (sym (append-nil so.done)) ∙ so.goes [] None;
  }

-- no packet is left
pub hears_all : (acts : Acts ClientSeen) (f0 : Framing) (c0 : Option ClientSeen) (f f' : Framing) (c : Option ClientSeen) (n : ℕ)
    → (so : SoFar acts f0 c0 f c n) → Gives f N.Need f' → f.stopped ≡ false → HearsOn acts f0 c0 f' c so.ignored
unfolding handled
hears_all acts f0 c0 f f' c n so gives going = subst (λ (g : Framing). HearsOn acts f0 c0 g c so.ignored) (sym gives.1) (record {
  limit = so.limit;
  going = going;
  nothing_left = gives.0;
  packets = so.done;
  left = so.left ∙ ap (behind so.done) gives.0 ∙ ap (λ (ps : List Packet). record { packets = ps; start = f.start; rest = f.rest; fault = None }) (append-nil so.done);
  outcome = ap (λ (ps : List Packet). handled acts c0 0 ps None) (sym (append-nil so.done)) ∙ so.goes [] None;
})

-- a fault of the bytes
pub faulty_at : (acts : Acts ClientSeen) (f0 : Framing) (c0 : Option ClientSeen) (f f' : Framing) (c : Option ClientSeen) (n place : ℕ) (kind : _)
    → (so : SoFar acts f0 c0 f c n) → Gives f (N.Bad place kind) f'
    → handled acts c0 0 (left_of f0).packets (left_of f0).fault ≡ stopped c so.ignored (Some (record { place = place; kind = kind }))
unfolding handled
faulty_at acts f0 c0 f f' c n place kind so gives =
    ap (λ (s : Stream). handled acts c0 0 s.packets s.fault) so.left
    ∙ so.goes (left_of f).packets (left_of f).fault
    ∙ ap (λ (ps : List Packet). handled acts c so.ignored ps (left_of f).fault) gives.0
    ∙ ap (stopped c so.ignored) gives.1

-- one more that was ignored, counted up to the greatest number
pub counts_on : (n n' : ℕ) (was_ignored : Bool) → n' ≡ cond was_ignored (min (n + 1) greatest) n → (ignored : ℕ) → n ≡ min ignored greatest → n' ≡ min (cond was_ignored (ignored + 1) ignored) greatest
counts_on n n' true is ignored so = is ∙ ap (λ k. min (k + 1) greatest) so ∙ kept_least ignored
counts_on n n' false is ignored so = is ∙ so

-- no memory for the bytes themselves
pub nothing_taken : (acts : Acts ClientSeen) (f : Framing) (c c' : Option ClientSeen) → c' ≡ c → StopsAt acts f c c' 0
unfolding handled
nothing_taken acts f c c' same = record { before = []; after = (left_of f).packets; packets = refl; outcome = ap (λ (o : Option ClientSeen). record { attached = o; ignored = 0; ended = None }) (sym same) }
