-- What a framer's answers say, by what its bytes begin with.
use Rattle.std.proofs.Common.{◌≡◌, ℕ, ◌<◌, Bool, true, false, List, [], ◌∷◌, ◌++◌, length, take, drop, refl, sym, ap, subst, ◌∙◌, arith, append_assoc}
use Rattle.std.specs.Prelude.{Option, Some, None, is_some}
use Rattle.std.proofs.lemmas.List.{append-nil, take-append-drop, length-take-le}
use Rattle.xp_base.specs.Counts.{count_sum}
use Rattle.bencode_values.specs.declared.value.Value.{Value}
use Rattle.packet_frames.specs.declared.fault.FrameFault.{FrameFault}
use Rattle.packet_frames.specs.declared.next.Next.{Next}
use Rattle.packet_frames.specs.declared.next.Next.TheVariants as N
use Rattle.packet_frames.specs.Header.{head_of}
use Rattle.packet_frames.specs.Framing.{part, whole, wrong, frames, begins}
use Rattle.packet_frames.specs.Stream.{Packet, Fault, Stream, from_place, read_on, packets_of}
use Rattle.packet_frames.specs.Following.{Framing, left_of, behind, Follows, fed, Gives, Tells}
use Rattle.packet_frames.specs.Framers.{IsFaultOf}
use Rattle.packet_frames.proofs.Fronts.{begins-front}
use Rattle.packet_frames.proofs.Streams.{read_on-append, read_on-fault, read_on-behind, waiting, read_part, read_whole, read_wrong}

abbrev pub framing : ℕ → ℕ → List ℕ → Bool → Framing
framing limit start rest stopped = record { limit = limit; start = start; rest = rest; stopped = stopped }

nothing_begun : (limit : ℕ) → begins limit [] ≡ part
unfolding begins frames head_of
nothing_begun limit = refl

module _ (limit start : ℕ) (rest : List ℕ) (stopped : Bool) where
  pub gives_need : begins limit rest ≡ part → Gives (framing limit start rest stopped) N.Need (framing limit start rest stopped)
  gives_need e = (read_part limit [] start [] rest e, refl)

  pub gives_bad : (at place : ℕ) (kind : FrameFault) → begins limit rest ≡ wrong at kind → place ≡ count_sum start at → Gives (framing limit start rest stopped) (N.Bad place kind) (framing limit start rest true)
  gives_bad at place kind e here =
      let found = read_wrong limit [] start at kind [] rest (nothing_begun limit) e in
      (ap (λ (s : Stream). s.packets) found.1, ap (λ (s : Stream). s.fault) found.1 ∙ ap (λ p. let f : Fault = record { place = p; kind = kind } in Some f) (sym here), refl)

  some_bytes : (at : ℕ) (v : Value) (size : ℕ) (xs : List ℕ) → length xs ≡ size → begins limit xs ≡ whole at v size → 0 < size
  some_bytes at v size [] n e = absurd (let same = sym (nothing_begun limit) ∙ e in cc)
  some_bytes at v size (x ∷ xs) n e = omega arith

  pub gives_packet : (at place next : ℕ) (v : Value) (size : ℕ) → begins limit rest ≡ whole at v size → place ≡ count_sum start at → next ≡ count_sum start size
      → Gives (framing limit start rest stopped) (N.Packet place v) (framing limit next (drop size rest) stopped)
  gives_packet at place next v size e here then =
      let front = begins-front limit rest at v size e in
      let ends : length (take size rest) ≡ size = length-take-le size rest front.within in
      let read = read_whole limit [] start at v size [] (take size rest) (some_bytes at v size (take size rest) ends front.alone) ends front.alone in (
        size,
        front.within,
        read ∙ ap (λ p. let packet : Packet = record { place = p; value = v } in let s : Stream = waiting (packet ∷ []) (count_sum start size) [] in s) (sym here)
            ∙ ap (λ n. let packet : Packet = record { place = place; value = v } in let s : Stream = waiting (packet ∷ []) n [] in s) (sym then),
        refl,
      )

-- where a fault was answered it is that of what is left
pub left_fault : (limit start : ℕ) (rest : List ℕ) (fault : Option (ℕ × FrameFault)) → IsFaultOf limit start rest fault → is_some fault ≡ true
    → (f : Fault) × ((left_of (framing limit start rest (is_some fault))).fault ≡ Some f)
left_fault limit start rest None told h = absurd (let e : false ≡ true = h in cc)
left_fault limit start rest (Some f) told h =
    let bad = gives_bad limit start rest true told.0 f.0 f.1 told.1 told.2 in (record { place = f.0; kind = f.1 }, bad.1)

pub gives_again : (limit start : ℕ) (rest : List ℕ) (fault : Option (ℕ × FrameFault)) (place : ℕ) (kind : FrameFault) → IsFaultOf limit start rest fault → fault ≡ Some (place, kind)
    → Gives (framing limit start rest (is_some fault)) (N.Bad place kind) (framing limit start rest (is_some fault))
gives_again limit start rest fault place kind told e =
    let known : IsFaultOf limit start rest (Some (place, kind)) = subst (IsFaultOf limit start rest) e told in
    subst (λ o. Gives (framing limit start rest (is_some o)) (N.Bad place kind) (framing limit start rest (is_some o))) (sym e)
    (gives_bad limit start rest true known.0 place kind known.1 known.2)

same_left : (f g : Framing) (bytes : List ℕ) (given : List Packet) → g ≡ f → Follows bytes given f → Follows bytes given g
same_left f g bytes given e h = subst (Follows bytes given) (sym e) h

-- a packet that was given was the next of those left
pub given_next : (old new : Framing) (place : ℕ) (v : Value) → Gives old (N.Packet place v) new → left_of old ≡ behind (record { place = place; value = v } ∷ []) (left_of new)
given_next old new place v h =
    let here : Packet = record { place = place; value = v } in
    let size = h.0 in
    ap (read_on old.limit (from_place old.start)) (sym (take-append-drop size old.rest))
    ∙ read_on-append old.limit (from_place old.start) (take size old.rest) (drop size old.rest)
    ∙ ap (λ s. read_on old.limit s (drop size old.rest)) h.2
    ∙ read_on-behind old.limit (here ∷ []) (from_place new.start) (drop size old.rest)
    ∙ ap (λ (f : Framing). behind (here ∷ []) (read_on f.limit (from_place new.start) f.rest)) (sym h.3)

-- what an answer says of the rest it says of all bytes
pub tells : (bytes : List ℕ) (given : List Packet) (old : Framing) (answer : Next) (new : Framing) → Gives old answer new → Follows bytes given old → Tells bytes given answer new
tells bytes given old (N.Packet place v) new h follows =
    let here : Packet = record { place = place; value = v } in
    let size = h.0 in
    let left : left_of old ≡ behind (here ∷ []) (read_on old.limit (from_place new.start) (drop size old.rest)) =
    ap (read_on old.limit (from_place old.start)) (sym (take-append-drop size old.rest))
    ∙ read_on-append old.limit (from_place old.start) (take size old.rest) (drop size old.rest)
    ∙ ap (λ s. read_on old.limit s (drop size old.rest)) h.2
    ∙ read_on-behind old.limit (here ∷ []) (from_place new.start) (drop size old.rest) in
    let all : packets_of old.limit bytes ≡ behind (given ++ here ∷ []) (read_on old.limit (from_place new.start) (drop size old.rest)) =
    follows.all ∙ ap (behind given) left
    ∙ ap (λ ps. let s : Stream = record (read_on old.limit (from_place new.start) (drop size old.rest)) { packets = ps } in s)
    (sym (append_assoc given (here ∷ []) (read_on old.limit (from_place new.start) (drop size old.rest)).packets)) in
    same_left (record old { start = new.start; rest = drop size old.rest }) new bytes (given ++ here ∷ []) h.3 (record { all = all })
tells bytes given old N.Need new h follows =
    let all : packets_of old.limit bytes ≡ waiting given old.start old.rest =
    follows.all ∙ ap (behind given) h.0 ∙ ap (λ ps. waiting ps old.start old.rest) (append-nil given) in
    (subst (λ (f : Framing). packets_of f.limit bytes ≡ waiting given f.start f.rest) (sym h.1) all, same_left old new bytes given h.1 follows)
tells bytes given old (N.Bad place kind) new h follows =
    let packets : (packets_of old.limit bytes).packets ≡ given = ap (λ (s : Stream). s.packets) follows.all ∙ ap (λ ps. given ++ ps) h.0 ∙ append-nil given in
    let fault : (packets_of old.limit bytes).fault ≡ Some (record { place = place; kind = kind }) = ap (λ (s : Stream). s.fault) follows.all ∙ h.1 in
    let there : Follows bytes given (record old { stopped = true }) = record { all = follows.all } in
    subst (λ (f : Framing). ((packets_of f.limit bytes).packets ≡ given) × ((packets_of f.limit bytes).fault ≡ Some (record { place = place; kind = kind })) × Follows bytes given f) (sym h.2) (packets, fault, there)
tells bytes given old N.NoMemory new h follows = same_left old new bytes given h follows

-- a piece more
fed_by : (limit start : ℕ) (rest : List ℕ) (stopped : Bool) (bytes piece : List ℕ) (given : List Packet)
    → (stopped ≡ true → (fault : Fault) × ((left_of (framing limit start rest stopped)).fault ≡ Some fault)) → Follows bytes given (framing limit start rest stopped)
    → Follows (bytes ++ piece) given (fed (framing limit start rest stopped) piece)
fed_by limit start rest true bytes piece given fault follows =
    let known = fault refl in
    record {
      all = read_on-append limit (from_place 0) bytes piece ∙ ap (λ s. read_on limit s piece) follows.all
          ∙ read_on-fault limit (behind given (left_of (framing limit start rest true))) known.0 piece known.1;
    }
fed_by limit start rest false bytes piece given fault follows =
    record {
      all = read_on-append limit (from_place 0) bytes piece ∙ ap (λ s. read_on limit s piece) follows.all
          ∙ read_on-behind limit given (left_of (framing limit start rest false)) piece
          ∙ ap (behind given) (sym (read_on-append limit (from_place start) rest piece));
    }

pub follows_fed : (f : Framing) (bytes piece : List ℕ) (given : List Packet) → (f.stopped ≡ true → (fault : Fault) × ((left_of f).fault ≡ Some fault)) → Follows bytes given f → Follows (bytes ++ piece) given (fed f piece)
follows_fed f bytes piece given fault follows = fed_by f.limit f.start f.rest f.stopped bytes piece given fault follows

pub no_fault : (limit start : ℕ) (rest : List ℕ) (fault : Option (ℕ × FrameFault)) → ((f : ℕ × FrameFault) → fault ≡ Some f → ⊥) → IsFaultOf limit start rest fault
no_fault limit start rest None none = tt
no_fault limit start rest (Some f) none = absurd (none f refl)

-- behind a fault that was answered a piece changes nothing
pub follows_stopped : (f : Framing) (fault : Fault) (bytes piece : List ℕ) (given : List Packet) → (left_of f).fault ≡ Some fault → Follows bytes given f → Follows (bytes ++ piece) given f
follows_stopped f fault bytes piece given known follows =
    record { all = read_on-append f.limit (from_place 0) bytes piece ∙ ap (λ s. read_on f.limit s piece) follows.all ∙ read_on-fault f.limit (behind given (left_of f)) fault piece known }

-- the framer's invariant tells the fault
pub known_fault : (f : Framing) (limit start : ℕ) (rest : List ℕ) (fault : Option (ℕ × FrameFault)) → framing limit start rest (is_some fault) ≡ f → IsFaultOf limit start rest fault
    → f.stopped ≡ true → (known : Fault) × ((left_of f).fault ≡ Some known)
known_fault f limit start rest fault view told = subst (λ (g : Framing). g.stopped ≡ true → (known : Fault) × ((left_of g).fault ≡ Some known)) view (left_fault limit start rest fault told)
