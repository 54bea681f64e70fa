-- Replies to streams that go on.
use Rattle.std.proofs.Common.{◌≡◌, ◌≢◌, ℕ, ◌≤◌, Bool, true, false, List, [], ◌∷◌, ◌++◌, length, cond, refl, sym, ap, subst, ◌∙◌, append_assoc, arith, lit≤}
use Rattle.std.specs.Prelude.{ℤ, pos, Option, Some, None, Result, Ok, Err, is_some}
use Rattle.std.specs.List.{AllByRecursion}
use Rattle.std.proofs.lemmas.List.{append-nil}
use Rattle.std.proofs.lemmas.Bool.{cond_both}
use Rattle.std.proofs.lemmas.Bool.Decides.{nat_tests}
use Rattle.std.proofs.lemmas.Int.{ints}
use Rattle.bencode_values.specs.declared.value.Value.TheVariants as V
use Rattle.window_model.specs.Desktop.{Window, IsPlace}
use Rattle.packet_frames.specs.Stream.{Packet, Fault, Stream, from_place, read_on, packets_of}
use Rattle.packet_frames.specs.Written.{IsClean, with_packet}
use Rattle.packet_frames.proofs.Streams.{read_on-append, read_on-fault}
use Rattle.packet_frames.proofs.Writing.{written_follows, part_adds_none}
use Rattle.packet_kinds.specs.declared.to_client.ToClient.{ToClient}
use Rattle.packet_kinds.specs.declared.to_client.ToClient.TheVariants as T
use Rattle.packet_kinds.specs.declared.from_client.FromClient.{FromClient}
use Rattle.packet_kinds.specs.ToShapes.{to_client}
use Rattle.packet_kinds.specs.Effects.{effect, holds_pixels}
use Rattle.packet_kinds.specs.Picture.{Picture, shown_or_data, shown_or_shape, shown, picture}
use Rattle.packet_kinds.specs.Replies.{answer_to, has_effect, answered_or_stop, answers, replies}
use Rattle.packet_kinds.specs.ReplyLaws.{EffectIsThere, RepliesGoOn, RepliesStop, PacketsAreAnswered, PacketsStop, MessageIsAnswered, PartIsUnanswered}
use Rattle.packet_kinds.proofs.Following.{clear, picture_is, all_shown}
use Rattle.packet_kinds.proofs.Stopping.{read_on-packets}

drawn_is : (b : Bool) (windows : List Window) → is_some (cond b (Some windows) None) ≡ b
drawn_is true windows = refl
drawn_is false windows = refl

pub effect_is_there : EffectIsThere
effect_is_there windows (T.Hello caps) = refl
effect_is_there windows (T.NewWindow wid x y w h) = refl
effect_is_there windows (T.LostWindow wid) = refl
effect_is_there windows (T.WindowResized wid w h) = refl
effect_is_there windows (T.WindowMoveResize wid x y w h) = refl
effect_is_there windows (T.RaiseWindow wid) = refl
effect_is_there windows (T.Draw wid x y w h coding bytes sequence stride) = drawn_is (holds_pixels coding w h stride bytes) _
effect_is_there windows (T.PingEcho t) = refl
effect_is_there windows (T.Disconnect reason) = refl
effect_is_there windows T.Other = refl

-- answers, where there is an effect
answered-then : (b : Bool) (here old later : List FromClient) → b ≡ true → cond b (here ++ (old ++ later)) [] ≡ cond b (here ++ old) [] ++ later
answered-then true here old later e = sym (append_assoc here old later)
answered-then false here old later e = absurd (cc)

-- where a packet is shown and the next ones are, so is the first of them
data_then : (place : ℕ) (windows goal : List Window) (o : Option (List Window)) (next : List Window → Picture) (P : Type 0)
    → ((after : List Window) → is_some o ≡ true → next after ≡ clear goal → P) → shown_or_data place windows o next ≡ clear goal → P
data_then place windows goal None next P later e = absurd (let f = ap (λ (q : Picture). q.fault) e in cc)
data_then place windows goal (Some after) next P later e = later after refl e

one_then : (place : ℕ) (windows goal : List Window) (r : Result ToClient ℕ) (next : List Window → Picture) (old all later : List FromClient)
    → ((after : List Window) → next after ≡ clear goal → all ≡ old ++ later) → shown_or_shape place windows r next ≡ clear goal
    → answered_or_stop r all ≡ answered_or_stop r old ++ later
one_then place windows goal (Err i) next old all later rest e = absurd (let f = ap (λ (q : Picture). q.fault) e in cc)
one_then place windows goal (Ok m) next old all later rest e =
    data_then place windows goal (effect windows m) next (answered_or_stop (Ok m) all ≡ answered_or_stop (Ok m) old ++ later)
    (λ after there is.
    ap (λ xs. cond (has_effect m) (answer_to m ++ xs) []) (rest after is)
    ∙ answered-then (has_effect m) (answer_to m) old later (sym (effect_is_there windows m) ∙ there)) e

pub packets_are_answered : PacketsAreAnswered
packets_are_answered [] more windows goal e = refl
packets_are_answered (p ∷ given) more windows goal e =
    one_then p.place windows goal (to_client p.value) (shown None given) (answers given) (answers (given ++ more)) (answers more)
    (λ after is. packets_are_answered given more after goal is) e

data_stops : (place : ℕ) (windows : List Window) (m : ToClient) (o : Option (List Window)) (next : List Window → Picture) (old all : List FromClient) → effect windows m ≡ o
    → ((after : List Window) → (next after).fault ≢ None → all ≡ old) → (shown_or_data place windows o next).fault ≢ None
    → answered_or_stop (Ok m) all ≡ answered_or_stop (Ok m) old
data_stops place windows m None next old all is rest stops =
    let none : has_effect m ≡ false = sym (effect_is_there windows m) ∙ ap is_some is in
    ap (λ b. cond b (answer_to m ++ all) []) none ∙ sym (ap (λ b. cond b (answer_to m ++ old) []) none)
data_stops place windows m (Some after) next old all is rest stops = ap (λ xs. cond (has_effect m) (answer_to m ++ xs) []) (rest after stops)

one_stops : (place : ℕ) (windows : List Window) (r : Result ToClient ℕ) (next : List Window → Picture) (old all : List FromClient)
    → ((after : List Window) → (next after).fault ≢ None → all ≡ old) → (shown_or_shape place windows r next).fault ≢ None
    → answered_or_stop r all ≡ answered_or_stop r old
one_stops place windows (Err i) next old all rest stops = refl
one_stops place windows (Ok m) next old all rest stops = data_stops place windows m (effect windows m) next old all refl rest stops

pub packets_stop : PacketsStop
packets_stop [] more windows stops = absurd (stops refl)
packets_stop (p ∷ given) more windows stops =
    one_stops p.place windows (to_client p.value) (shown None given) (answers given) (answers (given ++ more)) (λ after here. packets_stop given more after here) stops

-- whatever follows, what was answered stays
one_on : (r : Result ToClient ℕ) (old all : List FromClient) → (later : List FromClient) × (all ≡ old ++ later)
    → (later : List FromClient) × (answered_or_stop r all ≡ answered_or_stop r old ++ later)
one_on (Err i) old all on = ([], refl)
one_on (Ok m) old all on = by (has_effect m) where
  by : (b : Bool) → (later : List FromClient) × (cond b (answer_to m ++ all) [] ≡ cond b (answer_to m ++ old) [] ++ later)
  by true = (on.0, ap (λ xs. answer_to m ++ xs) on.1 ∙ sym (append_assoc (answer_to m) old on.0))
  by false = ([], refl)

answers_on : (given more : List Packet) → (later : List FromClient) × (answers (given ++ more) ≡ answers given ++ later)
answers_on [] more = (answers more, refl)
answers_on (p ∷ given) more = one_on (to_client p.value) (answers given) (answers (given ++ more)) (answers_on given more)

pub replies_are : (limit : ℕ) (bytes : List ℕ) (s : Stream) → packets_of limit bytes ≡ s → replies limit bytes ≡ answers s.packets
unfolding replies
replies_are limit bytes s e = ap (λ (t : Stream). answers t.packets) e

pub no_replies : (limit : ℕ) → replies limit [] ≡ []
unfolding replies read_on
no_replies limit = refl

pub replies_go_on : RepliesGoOn
replies_go_on limit bytes more =
    let s = packets_of limit bytes in
    let rest = read_on-packets limit s more in
    let on = answers_on s.packets rest.0 in
    (on.0, replies_are limit (bytes ++ more) _ (read_on-append limit (from_place 0) bytes more) ∙ ap answers rest.1 ∙ on.1 ∙ ap (λ xs. xs ++ on.0) (sym (replies_are limit bytes s refl)))

stop_by : (limit : ℕ) (bytes more : List ℕ) (fault : Option Fault) → (packets_of limit bytes).fault ≡ fault → (picture limit bytes).fault ≢ None
    → replies limit (bytes ++ more) ≡ replies limit bytes
stop_by limit bytes more (Some f) e stops =
    let s = packets_of limit bytes in
    replies_are limit (bytes ++ more) s (read_on-append limit (from_place 0) bytes more ∙ read_on-fault limit s f more e) ∙ sym (replies_are limit bytes s refl)
stop_by limit bytes more None e stops =
    let s = packets_of limit bytes in
    let rest = read_on-packets limit s more in
    let known : picture limit bytes ≡ shown None s.packets [] = picture_is limit bytes s refl ∙ ap (λ f. shown f s.packets []) e in
    replies_are limit (bytes ++ more) _ (read_on-append limit (from_place 0) bytes more) ∙ ap answers rest.1
    ∙ packets_stop s.packets rest.0 [] (subst (λ (p : Picture). p.fault ≢ None) known stops) ∙ sym (replies_are limit bytes s refl)

pub replies_stop : RepliesStop
replies_stop limit bytes more stops = stop_by limit bytes more (packets_of limit bytes).fault refl stops

one_answer : (r : Result ToClient ℕ) (m : ToClient) (windows after : List Window) → r ≡ Ok m → effect windows m ≡ Some after → answered_or_stop r [] ≡ answer_to m
one_answer r m windows after e does =
    let there : has_effect m ≡ true = sym (effect_is_there windows m) ∙ ap is_some does in
    ap (λ q. answered_or_stop q []) e ∙ ap (λ b. cond b (answer_to m ++ []) []) there ∙ append-nil (answer_to m)

pub message_is_answered : MessageIsAnswered
message_is_answered limit sent bytes m windows after h is does =
    let s = packets_of limit sent in
    let new = with_packet s is.value is.chunk is.whole in
    let read : packets_of limit (sent ++ bytes) ≡ new =
    ap (λ b. packets_of limit (sent ++ b)) is.bytes_are ∙ written_follows limit sent is.value is.chunk is.whole is.written is.within is.fits h.clean in
    replies_are limit (sent ++ bytes) new read
    ∙ packets_are_answered s.packets _ [] windows (all_shown limit sent windows h)
    ∙ ap (λ xs. answers s.packets ++ xs) (one_answer (to_client is.whole) m windows after is.read does)
    ∙ ap (λ xs. xs ++ answer_to m) (sym (replies_are limit sent s refl))

pub part_is_unanswered : PartIsUnanswered
part_is_unanswered limit sent bytes front more m windows h is parts some =
    let s = packets_of limit sent in
    let read : packets_of limit (sent ++ front) ≡ record s { rest = front } =
    part_adds_none limit sent is.value is.chunk front more is.written is.within (sym is.bytes_are ∙ parts) some h.clean in
    replies_are limit (sent ++ front) (record s { rest = front }) read ∙ sym (replies_are limit sent s refl)
