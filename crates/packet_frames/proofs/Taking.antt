-- Taking all packets of a stream that comes in pieces.
use Rattle.std.proofs.Common.{◌≡◌, ℕ, zero, suc, ◌<◌, List, [], ◌∷◌, ◌++◌, length, take, get_or, refl, sym, ap, subst, ◌∙◌, arith, append_assoc, Bool, true, false}
use Rattle.std.specs.Prelude.{Some, None, if◌then◌else◌}
use Rattle.std.specs.List.{concat}
use Rattle.std.proofs.lemmas.List.{length-drop, append-nil}
use Rattle.bencode_values.specs.declared.value.Value.{Value}
use Rattle.packet_frames.specs.declared.fault.FrameFault.{FrameFault}
use Rattle.packet_frames.specs.declared.next.Next.{Next}
use Rattle.packet_frames.specs.declared.next.Next.TheVariants as N
use Rattle.packet_frames.specs.Stream.{Packet, Stream, from_place, read_on, packets_of}
use Rattle.packet_frames.specs.Following.{Framing, Follows, Gives, Tells, fed}
use Rattle.packet_frames.specs.Pieces.{given_of, TakesAll}
use Rattle.packet_frames.proofs.Frames.{map_push}

-- so far: what followed the packets before follows those now
pub record TakesOn (before given : List (ℕ × Value)) (start f : Framing) : Type 0 where
  pub follows : (bytes : List ℕ) → Follows bytes (given_of before) start → Follows bytes (given_of given) f
  pub same : f.limit ≡ start.limit

packet_of : (ℕ × Value) → Packet
packet_of p = record { place = p.0; value = p.1 }

pub gives_limit : (old : Framing) (answer : Next) (new : Framing) → Gives old answer new → new.limit ≡ old.limit
gives_limit old (N.Packet place v) new h = ap (λ (f : Framing). f.limit) h.3
gives_limit old N.Need new h = ap (λ (f : Framing). f.limit) h.1
gives_limit old (N.Bad place kind) new h = ap (λ (f : Framing). f.limit) h.2
gives_limit old N.NoMemory new h = ap (λ (f : Framing). f.limit) h

-- a packet has bytes
has_bytes : (limit start : ℕ) (rest : List ℕ) (size next : ℕ) (p : Packet) → read_on limit (from_place start) (take size rest) ≡ record { packets = p ∷ []; start = next; rest = []; fault = None } → 0 < size
unfolding read_on
has_bytes limit start rest zero next p e = absurd (let h : [] ≡ p ∷ [] = ap (λ (s : Stream). s.packets) e in cc)
has_bytes limit start rest (suc size) next p e = omega arith

-- with each packet less is left
pub gives_less : (old : Framing) (place : ℕ) (v : Value) (new : Framing) → Gives old (N.Packet place v) new → length new.rest < length old.rest
gives_less old place v new h =
    let some = has_bytes old.limit old.start old.rest h.0 new.start (record { place = place; value = v }) h.2 in
    let within = h.1 in
    let left = ap (λ (f : Framing). length f.rest) h.3 in
    let n = length-drop h.0 old.rest in
    omega arith

pub takes_on : (before given : List (ℕ × Value)) (start old new : Framing) (place : ℕ) (v : Value) → TakesOn before given start old → Gives old (N.Packet place v) new
    → ((bytes : List ℕ) (packets : List Packet) → Follows bytes packets old → Tells bytes packets (N.Packet place v) new) → TakesOn before (given ++ (place, v) ∷ []) start new
takes_on before given start old new place v so_far h tells = record {
  follows = λ bytes follows. subst (λ ps. Follows bytes ps new) (sym (map_push (λ (p : ℕ × Value). let q : Packet = record { place = p.0; value = p.1 } in q) given (place, v))) (tells bytes (given_of given) (so_far.follows bytes follows));
  same = gives_limit old (N.Packet place v) new h ∙ so_far.same;
}

pub takes_need : (bytes : List ℕ) (given : List (ℕ × Value)) (limit : ℕ) (f : Framing) → f.limit ≡ limit → Tells bytes (given_of given) N.Need f → TakesAll bytes given limit f None
takes_need bytes given limit f same tells =
    let all : packets_of limit bytes ≡ record { packets = given_of given; start = f.start; rest = f.rest; fault = None } = ap (λ n. packets_of n bytes) (sym same) ∙ tells.0 in
    record {
      follows = tells.1;
      same = same;
      packets = ap (λ (s : Stream). s.packets) all;
      fault_is = ap (λ (s : Stream). s.fault) all;
      unread = sym (ap (λ (s : Stream). length s.rest) all);
    }

pub takes_bad : (bytes : List ℕ) (given : List (ℕ × Value)) (limit : ℕ) (f : Framing) (place : ℕ) (kind : FrameFault) → f.limit ≡ limit → Tells bytes (given_of given) (N.Bad place kind) f
    → TakesAll bytes given limit f (Some (place, kind))
takes_bad bytes given limit f place kind same tells = record {
  follows = tells.2;
  same = same;
  packets = ap (λ n. (packets_of n bytes).packets) (sym same) ∙ tells.0;
  fault_is = ap (λ n. (packets_of n bytes).fault) (sym same) ∙ tells.1;
  unread = tt;
}

pub takes_nothing : (limit : ℕ) (f : Framing) → f ≡ record { limit = limit; start = 0; rest = []; stopped = false } → Follows [] [] f → TakesAll [] [] limit f None
unfolding read_on
takes_nothing limit f is follows = record {
  follows = follows;
  same = ap (λ (g : Framing). g.limit) is;
  packets = refl;
  fault_is = refl;
  unread = ap (λ (g : Framing). length g.rest) is;
}

pub fed_limit : (f : Framing) (piece : List ℕ) → (fed f piece).limit ≡ f.limit
fed_limit f piece = by_stopped f.stopped
  where
    by_stopped : (b : Bool) → (if b then f else record f { rest = f.rest ++ piece }).limit ≡ f.limit
    by_stopped true = refl
    by_stopped false = refl

pub concat_more : (pieces : List (List ℕ)) (i : ℕ) (d : List ℕ) → i < length pieces → concat (take (suc i) pieces) ≡ concat (take i pieces) ++ get_or pieces i d
concat_more [] i d h = absurd (omega arith)
concat_more (p ∷ pieces) zero d h = append-nil p
concat_more (p ∷ pieces) (suc i) d h = ap (λ xs. p ++ xs) (concat_more pieces i d (omega arith)) ∙ sym (append_assoc p (concat (take i pieces)) (get_or pieces i d))
