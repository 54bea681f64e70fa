-- What an exact peer says to bytes that come in pieces.
use Rattle.std.proofs.Common.{◌≡◌, ℕ, ◌+◌, ◌-◌, ◌*◌, ◌/◌, ◌%◌, ◌^◌, ◌<◌, ◌≤◌, Bool, true, false, List, [], ◌∷◌, ◌++◌, length, take, drop, refl, sym, ap, ◌∙◌, subst, arith, append_assoc, inl, inr}
use Rattle.std.specs.Prelude.{if◌then◌else◌, codes}
use Rattle.std.proofs.lemmas.Bool.Decides.{nat_tests}
use Rattle.std.proofs.lemmas.Bool.{cases_lt}
use Rattle.std.proofs.lemmas.List.{length-append, append-nil, take-append-drop, drop-append-le, drop-drop, length-take-le, length-drop}
use Rattle.std.specs.Int.{to_be_bytes, w32}
use Rattle.std.proofs.Math.Seq.{take-length, drop-length, take-append_seam}
use Rattle.link_bay.specs.ExactPeer.{main_packet, map_of, size_in, is_frame, answer_to, Following, judged, push, follow, nothing_yet, replies}

-- what is left is all behind the packets that were followed
pub all_left : (used : ℕ) (sent : List ℕ) → take (length sent - used) (drop used sent) ≡ drop used sent
all_left used sent = ap (λ n. take n (drop used sent)) (sym (length-drop used sent)) ∙ take-length (drop used sent)

-- appending follows on
pub follow-append : (t : Following) (bytes more : List ℕ) → follow t (bytes ++ more) ≡ follow (follow t bytes) more
unfolding follow
follow-append t [] more = refl
follow-append t (b ∷ bytes) more = follow-append (push t b) bytes more

-- what was said before stays in front
behind : List ℕ → Following → Following
behind before t = record t { said = before ++ t.said }

picked_behind : (before : List ℕ) (b : Bool) (whole part : Following) → ◌≡◌ {A = Following} (if b then behind before whole else behind before part) (behind before (if b then whole else part))
picked_behind before true whole part = refl
picked_behind before false whole part = refl

judged_behind : (before : List ℕ) (t : Following) (bytes : List ℕ) → judged (behind before t) bytes ≡ behind before (judged t bytes)
unfolding behind
judged_behind before t bytes =
    ap (λ said. if is_frame bytes then record { said = said; rest = [] } else record { said = before ++ t.said; rest = bytes }) (append_assoc before t.said (answer_to bytes))
    ∙ picked_behind before (is_frame bytes) (record { said = t.said ++ answer_to bytes; rest = [] }) (record t { rest = bytes })

follow-behind : (before : List ℕ) (t : Following) (bytes : List ℕ) → follow (behind before t) bytes ≡ behind before (follow t bytes)
unfolding follow push behind
follow-behind before t [] = refl
follow-behind before t (b ∷ bytes) = ap (λ s. follow s bytes) (judged_behind before t (t.rest ++ b ∷ [])) ∙ follow-behind before (push t b) bytes

-- eight bytes say the size
size_in-append : (xs ys : List ℕ) → 8 ≤ length xs → size_in (xs ++ ys) ≡ size_in xs
size_in-append [] ys h = absurd (omega arith)
size_in-append (a ∷ []) ys h = absurd (omega arith)
size_in-append (a ∷ b ∷ []) ys h = absurd (omega arith)
size_in-append (a ∷ b ∷ c ∷ []) ys h = absurd (omega arith)
size_in-append (a ∷ b ∷ c ∷ d ∷ []) ys h = absurd (omega arith)
size_in-append (a ∷ b ∷ c ∷ d ∷ e ∷ []) ys h = absurd (omega arith)
size_in-append (a ∷ b ∷ c ∷ d ∷ e ∷ f ∷ []) ys h = absurd (omega arith)
size_in-append (a ∷ b ∷ c ∷ d ∷ e ∷ f ∷ g ∷ []) ys h = absurd (omega arith)
size_in-append (a ∷ b ∷ c ∷ d ∷ e ∷ f ∷ g ∷ i ∷ xs) ys h = refl

-- bytes that are fewer than their header says are no frame
no_frame : (xs ys : List ℕ) → length xs < 8 + size_in (xs ++ ys) → is_frame xs ≡ false
no_frame xs ys h = elim (cases_lt (length xs) 8) as (λ _. is_frame xs ≡ false) [
  | inl short ↦ grind (arith, nat_tests)
  | inr long ↦ let same : size_in (xs ++ ys) ≡ size_in xs = size_in-append xs ys long in grind (arith, nat_tests)
]

-- a part of a frame is kept
pub part_kept : (said front more : List ℕ) → length (front ++ more) < 8 + size_in (front ++ more)
    → follow (record { said = said; rest = front }) more ≡ record { said = said; rest = front ++ more }
unfolding follow push
part_kept said front [] h = ap (λ rest. record { said = said; rest = rest }) (sym (append-nil front))
part_kept said front (b ∷ more) h =
    let joined : (front ++ b ∷ []) ++ more ≡ front ++ b ∷ more = append_assoc front (b ∷ []) more in
    let long : length ((front ++ b ∷ []) ++ more) < 8 + size_in ((front ++ b ∷ []) ++ more) = subst (λ xs. length xs < 8 + size_in xs) (sym joined) h in
    let counted : length ((front ++ b ∷ []) ++ more) ≡ length (front ++ b ∷ []) + length more = length-append (front ++ b ∷ []) more in
    let none : is_frame (front ++ b ∷ []) ≡ false = no_frame (front ++ b ∷ []) more (omega arith) in
    rw none (part_kept said (front ++ b ∷ []) more long ∙ ap (λ rest. record { said = said; rest = rest }) joined)

-- the last byte of a frame is answered
frame_answered : (said front more after : List ℕ) → 1 ≤ length more → length (front ++ more) ≡ 8 + size_in (front ++ more)
    → follow (record { said = said; rest = front }) (more ++ after) ≡ follow (record { said = said ++ answer_to (front ++ more); rest = [] }) after
unfolding follow push
frame_answered said front [] after some h = absurd (omega arith)
frame_answered said front (b ∷ []) after some h =
    let whole : is_frame (front ++ b ∷ []) ≡ true = grind (arith, nat_tests) in
    let answered : push (record { said = said; rest = front }) b ≡ record { said = said ++ answer_to (front ++ b ∷ []); rest = [] } = rw whole refl in
    ap (λ t. follow t after) answered
frame_answered said front (b ∷ m ∷ more) after some h =
    let joined : (front ++ b ∷ []) ++ m ∷ more ≡ front ++ b ∷ m ∷ more = append_assoc front (b ∷ []) (m ∷ more) in
    let long : length ((front ++ b ∷ []) ++ m ∷ more) ≡ 8 + size_in ((front ++ b ∷ []) ++ m ∷ more) = subst (λ xs. length xs ≡ 8 + size_in xs) (sym joined) h in
    let counted : length ((front ++ b ∷ []) ++ m ∷ more) ≡ length (front ++ b ∷ []) + length (m ∷ more) = length-append (front ++ b ∷ []) (m ∷ more) in
    let none : is_frame (front ++ b ∷ []) ≡ false = no_frame (front ++ b ∷ []) (m ∷ more) (omega arith) in
    let kept : push (record { said = said; rest = front }) b ≡ record { said = said; rest = front ++ b ∷ [] } = rw none refl in
    ap (λ t. follow t (m ∷ more ++ after)) kept
    ∙ frame_answered said (front ++ b ∷ []) (m ∷ more) after (omega arith) long
    ∙ ap (λ frame. follow (record { said = said ++ answer_to frame; rest = [] }) after) joined

-- bytes that begin with a whole frame
pub frame_first : (said bytes : List ℕ) (size : ℕ) → size ≡ 8 + size_in bytes → size ≤ length bytes
    → follow (record { said = said; rest = [] }) bytes ≡ follow (record { said = said ++ answer_to (take size bytes); rest = [] }) (drop size bytes)
frame_first said bytes size is within =
    let parts : take size bytes ++ drop size bytes ≡ bytes = take-append-drop size bytes in
    let counted : length (take size bytes) ≡ size = length-take-le size bytes within in
    let same : size_in bytes ≡ size_in (take size bytes) = ap size_in (sym parts) ∙ size_in-append (take size bytes) (drop size bytes) (omega arith) in
    ap (follow (record { said = said; rest = [] })) (sym parts)
    ∙ frame_answered said [] (take size bytes) (drop size bytes) (omega arith) (omega arith)

-- the bytes behind the last frame hold none
rest_holds_none : (t : Following) (bytes : List ℕ) → follow nothing_yet t.rest ≡ record { said = []; rest = t.rest }
    → follow nothing_yet (follow t bytes).rest ≡ record { said = []; rest = (follow t bytes).rest }
unfolding follow push
rest_holds_none t [] h = h
rest_holds_none t (b ∷ bytes) h = rest_holds_none (push t b) bytes (stays (is_frame (t.rest ++ b ∷ [])) refl)
  where
    stays : (f : Bool) → is_frame (t.rest ++ b ∷ []) ≡ f → follow nothing_yet (push t b).rest ≡ record { said = []; rest = (push t b).rest }
    stays true e = rw e refl
    stays false e = rw e (follow-append nothing_yet t.rest (b ∷ []) ∙ ap (λ s. push s b) h ∙ rw e refl)

-- More bytes: those that no frame took yet are followed again, with the new ones.
pub more_followed : (sent more new : List ℕ) (followed used : ℕ) → followed ≤ length sent → (follow nothing_yet sent).rest ≡ drop followed sent
    → follow nothing_yet (drop followed (sent ++ more)) ≡ record { said = new; rest = drop used (drop followed (sent ++ more)) }
    → follow nothing_yet (sent ++ more) ≡ record { said = replies sent ++ new; rest = drop (followed + used) (sent ++ more) }
unfolding behind follow
more_followed sent more new followed used within rest is_new =
    let left : List ℕ = drop followed sent in
    let none : follow nothing_yet left ≡ record { said = []; rest = left } =
    subst (λ r. follow nothing_yet r ≡ record { said = []; rest = r }) rest (rest_holds_none nothing_yet sent refl) in
    let here : follow (record { said = []; rest = left }) more ≡ record { said = new; rest = drop (followed + used) (sent ++ more) } =
    ap (λ t. follow t more) (sym none) ∙ sym (follow-append nothing_yet left more) ∙ ap (follow nothing_yet) (sym (drop-append-le followed sent more within))
    ∙ is_new ∙ ap (λ r. record { said = new; rest = r }) (drop-drop used followed (sent ++ more)) in
    let before : follow nothing_yet sent ≡ behind (replies sent) (record { said = []; rest = left }) =
    ap (λ r. record { said = replies sent; rest = r }) rest ∙ ap (λ s. record { said = s; rest = left }) (sym (append-nil (replies sent))) in
    follow-append nothing_yet sent more ∙ ap (λ t. follow t more) before ∙ follow-behind (replies sent) (record { said = []; rest = left }) more
    ∙ ap (behind (replies sent)) here

-- a map has all but two of the bytes of its announcement, where this has its numbers' end
map_length : (content : List ℕ) → 14 ≤ length content → length (map_of content) ≡ 14 + (length content - 17) + 1
map_length content long =
    let numbers : List ℕ = take (length content - 17) (drop 14 content) in
    let behind_it : length (drop 14 content) ≡ length content - 14 = length-drop 14 content in
    let counted : length numbers ≡ length content - 17 = length-take-le (length content - 17) (drop 14 content) (omega arith) in
    let opened : length (codes "l10:map-window" ++ numbers) ≡ 14 + length numbers = length-append (codes "l10:map-window") numbers in
    let ended : length (map_of content) ≡ length (codes "l10:map-window" ++ numbers) + 1 = length-append (codes "l10:map-window" ++ numbers) (101 ∷ []) in
    omega arith

joined : (before first second third fourth last : List ℕ)
    → (((((before ++ first) ++ second) ++ third) ++ fourth) ++ last) ≡ before ++ ((first ++ second) ++ ((third ++ fourth) ++ last))
joined before first second third fourth last =
    let front : List ℕ = (before ++ first) ++ second in
    ap (λ xs. xs ++ last) (append_assoc front third fourth) ∙ append_assoc front (third ++ fourth) last
    ∙ ap (λ xs. xs ++ ((third ++ fourth) ++ last)) (append_assoc before first second)
    ∙ append_assoc before (first ++ second) ((third ++ fourth) ++ last)

-- a map, written part by part
pub map_written : (before content first second third fourth last numbers : List ℕ) (size : ℕ) → 14 ≤ length content → size ≡ 14 + (length content - 17) + 1
    → numbers ≡ take (length content - 17) (drop 14 content) → first ≡ before ++ 80 ∷ 0 ∷ 0 ∷ 0 ∷ [] → second ≡ first ++ to_be_bytes w32 size
    → third ≡ second ++ codes "l10:map-window" → fourth ≡ third ++ numbers → last ≡ fourth ++ 101 ∷ [] → last ≡ before ++ main_packet (map_of content)
map_written before content first second third fourth last numbers size long is cut one two three four five =
    let sized : size ≡ length (map_of content) = is ∙ sym (map_length content long) in
    let written : last ≡ ((((before ++ 80 ∷ 0 ∷ 0 ∷ 0 ∷ []) ++ to_be_bytes w32 size) ++ codes "l10:map-window") ++ take (length content - 17) (drop 14 content)) ++ 101 ∷ [] =
    five ∙ ap (λ xs. xs ++ 101 ∷ []) (four ∙ ap (λ ns. third ++ ns) cut
    ∙ ap (λ xs. xs ++ take (length content - 17) (drop 14 content)) (three ∙ ap (λ xs. xs ++ codes "l10:map-window") (two ∙ ap (λ xs. xs ++ to_be_bytes w32 size) one))) in
    written ∙ joined before (80 ∷ 0 ∷ 0 ∷ 0 ∷ []) (to_be_bytes w32 size) (codes "l10:map-window") (take (length content - 17) (drop 14 content)) (101 ∷ [])
    ∙ ap (λ n. before ++ ((80 ∷ 0 ∷ 0 ∷ 0 ∷ to_be_bytes w32 n) ++ map_of content)) sized

-- four bytes say a number below 2 ^ 32
four_bytes : (n : ℕ) → n < 2 ^ 32 → ((n / 16777216 % 256 * 256 + n / 65536 % 256) * 256 + n / 256 % 256) * 256 + n % 256 ≡ n
four_bytes n small = omega arith

size_of_packet : (content : List ℕ) → length content < 2 ^ 32 → size_in (main_packet content) ≡ length content
size_of_packet content small = four_bytes (length content) small

-- a packet alone
pub packet_alone : (content : List ℕ) → length content < 2 ^ 32 → replies (main_packet content) ≡ answer_to (main_packet content)
unfolding follow
packet_alone content small =
    let packet : List ℕ = main_packet content in
    let sized : size_in packet ≡ length content = size_of_packet content small in
    let counted : length packet ≡ 8 + length content = length-append (80 ∷ 0 ∷ 0 ∷ 0 ∷ to_be_bytes w32 (length content)) content in
    let first : follow nothing_yet packet ≡ follow (record { said = answer_to (take (length packet) packet); rest = [] }) (drop (length packet) packet) =
    frame_first [] packet (length packet) (omega arith) (omega arith) in
    ap (λ s. s.said) (first ∙ ap (λ xs. follow (record { said = answer_to xs; rest = [] }) (drop (length packet) packet)) (take-length packet)
    ∙ ap (follow (record { said = answer_to packet; rest = [] })) (drop-length packet))

pub map_answers : (numbers : List ℕ) → length numbers + 17 < 2 ^ 32
    → replies (main_packet (codes "l10:new-window" ++ (numbers ++ codes "dee"))) ≡ main_packet ((codes "l10:map-window" ++ numbers) ++ codes "e")
map_answers numbers small =
    let content : List ℕ = codes "l10:new-window" ++ (numbers ++ codes "dee") in
    let tail : length (numbers ++ codes "dee") ≡ length numbers + 3 = length-append numbers (codes "dee") in
    let counted : length content ≡ 14 + length (numbers ++ codes "dee") = length-append (codes "l10:new-window") (numbers ++ codes "dee") in
    let some : length content - 17 ≡ length numbers = omega arith in
    let cut : take (length content - 17) (numbers ++ codes "dee") ≡ numbers = ap (λ n. take n (numbers ++ codes "dee")) some ∙ take-append_seam numbers (codes "dee") in
    packet_alone content (omega arith) ∙ ap (λ ns. main_packet ((codes "l10:map-window" ++ ns) ++ codes "e")) cut
