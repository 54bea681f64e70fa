-- Streams, by what the bytes behind the last packet begin with.
use Rattle.std.proofs.Common.{◌≡◌, ℕ, ◌<◌, List, [], ◌∷◌, ◌++◌, length, refl, sym, ap, subst, ◌∙◌, arith, append_assoc}
use Rattle.std.specs.Prelude.{Option, Some, None}
use Rattle.std.proofs.lemmas.List.{length-append, append-nil}
use Rattle.xp_base.specs.Counts.{count_sum}
use Rattle.bencode_values.specs.declared.value.Value.{Value}
use Rattle.packet_frames.specs.declared.fault.FrameFault.{FrameFault}
use Rattle.packet_frames.specs.Framing.{Beginning, part, whole, wrong, begins}
use Rattle.packet_frames.specs.Stream.{Packet, Fault, Stream, judged, push_where, push, read_on}
use Rattle.packet_frames.specs.Following.{behind}
use Rattle.packet_frames.proofs.Reading.{begins-stays}
use Rattle.packet_frames.proofs.Fronts.{begins-front}

-- appending reads on
pub read_on-append : (limit : ℕ) (s : Stream) (xs ys : List ℕ) → read_on limit s (xs ++ ys) ≡ read_on limit (read_on limit s xs) ys
unfolding read_on
read_on-append limit s [] ys = refl
read_on-append limit s (x ∷ xs) ys = read_on-append limit (push limit s x) xs ys

push-fault : (limit : ℕ) (s : Stream) (fault : Fault) (b : ℕ) → s.fault ≡ Some fault → push limit s b ≡ s
unfolding push
push-fault limit s fault b e = ap (push_where limit s b) e

-- behind a fault nothing is read
pub read_on-fault : (limit : ℕ) (s : Stream) (fault : Fault) (xs : List ℕ) → s.fault ≡ Some fault → read_on limit s xs ≡ s
unfolding read_on
read_on-fault limit s fault [] e = refl
read_on-fault limit s fault (x ∷ xs) e = ap (λ t. read_on limit t xs) (push-fault limit s fault x e) ∙ read_on-fault limit s fault xs e

judged-behind : (given : List Packet) (s : Stream) (rest : List ℕ) (b : Beginning) → judged (behind given s) rest b ≡ behind given (judged s rest b)
judged-behind given s rest part = refl
judged-behind given s rest (whole at v size) =
    let here : Packet = record { place = count_sum s.start at; value = v } in
    ap (λ (ps : List Packet). record { packets = ps; start = count_sum s.start size; rest = []; fault = None }) (append_assoc given s.packets (here ∷ []))
judged-behind given s rest (wrong at kind) = refl

push_where-behind : (limit : ℕ) (given : List Packet) (s : Stream) (b : ℕ) (o : Option Fault) → push_where limit (behind given s) b o ≡ behind given (push_where limit s b o)
push_where-behind limit given s b None = judged-behind given s (s.rest ++ b ∷ []) (begins limit (s.rest ++ b ∷ []))
push_where-behind limit given s b (Some fault) = refl

push-behind : (limit : ℕ) (given : List Packet) (s : Stream) (b : ℕ) → push limit (behind given s) b ≡ behind given (push limit s b)
unfolding push
push-behind limit given s b = push_where-behind limit given s b s.fault

-- packets that stand before change nothing
pub read_on-behind : (limit : ℕ) (given : List Packet) (s : Stream) (xs : List ℕ) → read_on limit (behind given s) xs ≡ behind given (read_on limit s xs)
unfolding read_on
read_on-behind limit given s [] = refl
read_on-behind limit given s (x ∷ xs) = ap (λ t. read_on limit t xs) (push-behind limit given s x) ∙ read_on-behind limit given (push limit s x) xs

-- these bytes unread behind these packets, and no fault
abbrev pub waiting : List Packet → ℕ → List ℕ → Stream
waiting packets start rest = record { packets = packets; start = start; rest = rest; fault = None }

push-waiting : (limit : ℕ) (packets : List Packet) (start : ℕ) (rest : List ℕ) (b : ℕ) (found : Beginning) → begins limit (rest ++ b ∷ []) ≡ found
    → push limit (waiting packets start rest) b ≡ judged (waiting packets start rest) (rest ++ b ∷ []) found
unfolding push
push-waiting limit packets start rest b found e = ap (judged (waiting packets start rest) (rest ++ b ∷ [])) e

part_by : (limit : ℕ) (xs ys : List ℕ) (found : Beginning) → begins limit xs ≡ found → begins limit (xs ++ ys) ≡ part → begins limit xs ≡ part
part_by limit xs ys part e all = e
part_by limit xs ys (whole at v size) e all = sym (begins-stays limit xs ys (λ none. (let h = sym e ∙ none in cc))) ∙ all
part_by limit xs ys (wrong at kind) e all = sym (begins-stays limit xs ys (λ none. (let h = sym e ∙ none in cc))) ∙ all

-- each front of a part is a part
pub part_before : (limit : ℕ) (xs ys : List ℕ) → begins limit (xs ++ ys) ≡ part → begins limit xs ≡ part
part_before limit xs ys all = part_by limit xs ys (begins limit xs) refl all

seam : (front : List ℕ) (b : ℕ) (xs : List ℕ) → front ++ b ∷ xs ≡ (front ++ b ∷ []) ++ xs
seam front b xs = sym (append_assoc front (b ∷ []) xs)

-- a part only waits
pub read_part : (limit : ℕ) (packets : List Packet) (start : ℕ) (front xs : List ℕ) → begins limit (front ++ xs) ≡ part → read_on limit (waiting packets start front) xs ≡ waiting packets start (front ++ xs)
unfolding read_on
read_part limit packets start front [] e = ap (waiting packets start) (sym (append-nil front))
read_part limit packets start front (b ∷ xs) e =
    let all : begins limit ((front ++ b ∷ []) ++ xs) ≡ part = ap (begins limit) (sym (seam front b xs)) ∙ e in
    let here = part_before limit (front ++ b ∷ []) xs all in
    ap (λ t. read_on limit t xs) (push-waiting limit packets start front b part here)
    ∙ read_part limit packets start (front ++ b ∷ []) xs all ∙ ap (waiting packets start) (sym (seam front b xs))

module _ (limit : ℕ) (packets : List Packet) (start at : ℕ) (v : Value) (size : ℕ) where
  abbrev after : Stream
  after = waiting (packets ++ record { place = count_sum start at; value = v } ∷ []) (count_sum start size) []

  whole_step : (front : List ℕ) (b : ℕ) (xs : List ℕ) (found : Beginning)
      → (length (front ++ b ∷ []) < size → length ((front ++ b ∷ []) ++ xs) ≡ size → begins limit ((front ++ b ∷ []) ++ xs) ≡ whole at v size → read_on limit (waiting packets start (front ++ b ∷ [])) xs ≡ after)
      → begins limit (front ++ b ∷ []) ≡ found → length ((front ++ b ∷ []) ++ xs) ≡ size → begins limit ((front ++ b ∷ []) ++ xs) ≡ whole at v size
      → read_on limit (judged (waiting packets start front) (front ++ b ∷ []) found) xs ≡ after
  unfolding read_on
  whole_step front b [] part later here ends e = absurd (let all = sym here ∙ ap (begins limit) (sym (append-nil (front ++ b ∷ []))) ∙ e in cc)
  whole_step front b (c ∷ xs) part later here ends e = later (let n = length-append (front ++ b ∷ []) (c ∷ xs) in omega arith) ends e
  whole_step front b [] (whole a w n) later here ends e =
      let same : whole a w n ≡ whole at v size = sym here ∙ ap (begins limit) (sym (append-nil (front ++ b ∷ []))) ∙ e in
      ap (judged (waiting packets start front) (front ++ b ∷ [])) same
  whole_step front b (c ∷ xs) (whole a w n) later here ends e =
      let same : whole a w n ≡ whole at v size = sym here ∙ sym (begins-stays limit (front ++ b ∷ []) (c ∷ xs) (λ none. (let h = sym here ∙ none in cc))) ∙ e in
      let sized : n ≡ size = cc in
      let short = (begins-front limit (front ++ b ∷ []) a w n here).within in
      absurd (let all = length-append (front ++ b ∷ []) (c ∷ xs) in omega arith)
  whole_step front b xs (wrong k kind) later here ends e =
      absurd (let same : wrong k kind ≡ whole at v size = sym here ∙ sym (begins-stays limit (front ++ b ∷ []) xs (λ none. (let h = sym here ∙ none in cc))) ∙ e in cc)

  -- the last byte makes it a packet, and no byte before
  pub read_whole : (front xs : List ℕ) → length front < size → length (front ++ xs) ≡ size → begins limit (front ++ xs) ≡ whole at v size → read_on limit (waiting packets start front) xs ≡ after
  unfolding read_on
  read_whole front [] less ends e = absurd (let same = ap length (append-nil front) in omega arith)
  read_whole front (b ∷ xs) less ends e =
      ap (λ t. read_on limit t xs) (push-waiting limit packets start front b (begins limit (front ++ b ∷ [])) refl)
      ∙ whole_step front b xs (begins limit (front ++ b ∷ [])) (read_whole (front ++ b ∷ []) xs) refl
      (ap length (sym (seam front b xs)) ∙ ends) (ap (begins limit) (sym (seam front b xs)) ∙ e)

module _ (limit : ℕ) (packets : List Packet) (start at : ℕ) (kind : FrameFault) where
  -- the fault, and no packet more
  abbrev pub Stopped : Stream → Type 0
  Stopped s = (rest : List ℕ) × (s ≡ record { packets = packets; start = start; rest = rest; fault = Some (record { place = count_sum start at; kind = kind }) })

  stopped_at : (front xs : List ℕ) → Stopped (read_on limit (judged (waiting packets start front) xs (wrong at kind)) [])
  unfolding read_on
  stopped_at front xs = (xs, refl)

  wrong_step : (front : List ℕ) (b : ℕ) (xs : List ℕ) (found : Beginning)
      → (begins limit (front ++ b ∷ []) ≡ part → begins limit ((front ++ b ∷ []) ++ xs) ≡ wrong at kind → Stopped (read_on limit (waiting packets start (front ++ b ∷ [])) xs))
      → begins limit (front ++ b ∷ []) ≡ found → begins limit ((front ++ b ∷ []) ++ xs) ≡ wrong at kind
      → Stopped (read_on limit (judged (waiting packets start front) (front ++ b ∷ []) found) xs)
  wrong_step front b xs part later here e = later here e
  wrong_step front b xs (whole a w n) later here e =
      absurd (let same : whole a w n ≡ wrong at kind = sym here ∙ sym (begins-stays limit (front ++ b ∷ []) xs (λ none. (let h = sym here ∙ none in cc))) ∙ e in cc)
  wrong_step front b xs (wrong k other) later here e =
      let same : wrong k other ≡ wrong at kind = sym here ∙ sym (begins-stays limit (front ++ b ∷ []) xs (λ none. (let h = sym here ∙ none in cc))) ∙ e in
      let stays = read_on-fault limit (judged (waiting packets start front) (front ++ b ∷ []) (wrong k other)) (record { place = count_sum start k; kind = other }) xs refl in
      (front ++ b ∷ [], stays ∙ ap (judged (waiting packets start front) (front ++ b ∷ [])) same)

  -- the fault is that of the bytes
  pub read_wrong : (front xs : List ℕ) → begins limit front ≡ part → begins limit (front ++ xs) ≡ wrong at kind → Stopped (read_on limit (waiting packets start front) xs)
  unfolding read_on
  read_wrong front [] before e = absurd (let same : part ≡ wrong at kind = sym before ∙ ap (begins limit) (sym (append-nil front)) ∙ e in cc)
  read_wrong front (b ∷ xs) before e =
      subst (λ t. Stopped (read_on limit t xs)) (sym (push-waiting limit packets start front b (begins limit (front ++ b ∷ [])) refl))
      (wrong_step front b xs (begins limit (front ++ b ∷ [])) (read_wrong (front ++ b ∷ []) xs) refl (ap (begins limit) (sym (seam front b xs)) ∙ e))
