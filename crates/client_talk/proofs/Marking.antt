-- A window's mark, over what the client says and what it is sent.
use Rattle.std.proofs.Common.{◌≡◌, ◌≢◌, ◌⊎◌, inl, inr, ℕ, ◌+◌, ◌-◌, ◌≤◌, ◌<◌, Bool, true, false, List, [], ◌∷◌, ◌++◌, length, take, drop, replicate, refl, sym, ap, subst, ◌∙◌, arith, eqb, cond}
use Rattle.std.specs.Prelude.{ℤ, pos, negsuc, slice_index, All}
use Rattle.std.proofs.lemmas.Bool.{cases_lt, cond-true, cond-false}
use Rattle.std.proofs.lemmas.Bool.Decides.{nat_tests}
use Rattle.std.proofs.lemmas.List.{length-append, take_all, take-append-le, drop-append-le, get_or_append_left, get_or-append_right, get_or-replicate}
use Rattle.std.proofs.lemmas.List.Elements.{All-head, All-tail}
use Rattle.std.proofs.Math.Seq.{drop-length, take-append-add, take-append_seam}
use Rattle.window_model.specs.Desktop.{has_window}
use Rattle.packet_kinds.specs.declared.from_client.FromClient.{FromClient}
use Rattle.packet_kinds.specs.declared.from_client.FromClient.TheVariants as C
use Rattle.packet_kinds.specs.Talk.{Said, Talk, talk, Continues}
use Rattle.client_talk.specs.Talked.{server_limit}
use Rattle.client_talk.specs.Marks.{names, mark_after, marked}
use Rattle.client_talk.specs.Mapped.{shows, IsShownBy, SaysMapped, SaysNothing, Maps}
use Rattle.client_talk.specs.Kept.{IsMarked}
use Rattle.client_talk.specs.Laws.{MarkBegins, MarkHears, MarkSends, MappedIsMarked}

marked_append : (wid : ℕ) (was : Bool) (xs ys : List Said) → marked wid was (xs ++ ys) ≡ marked wid (marked wid was xs) ys
marked_append wid was [] ys = refl
marked_append wid was (x ∷ xs) ys = marked_append wid (mark_after wid was x.message) xs ys

pub begins : MarkBegins
begins wid sent given heard never = record {
  since = length (talk server_limit given).said;
  within = omega arith;
  marks = ap (marked wid false) (drop-length (talk server_limit given).said);
  later = λ n low shown. absurd (never n low shown);
}

-- more bytes say no less
says_no_less : ((limit : ℕ) (bytes more : List ℕ) → Continues (talk limit bytes) (talk limit (bytes ++ more))) → (h : ℕ) (given bytes : List ℕ)
    → length (talk server_limit (take h given)).said ≤ length (talk server_limit (take h (given ++ bytes))).said
says_no_less continues h given bytes = go (cases_lt (length given) h)
  where
    go : (length given < h) ⊎ (h ≤ length given) → length (talk server_limit (take h given)).said ≤ length (talk server_limit (take h (given ++ bytes))).said
    go (inr short) = let same = ap (λ (bs : List ℕ). length (talk server_limit bs).said) (take-append-le h given bytes short) in omega (arith, same)
    go (inl long) =
        let all : take h given ≡ given = take_all h given (omega (arith, long)) in
        let more : take h (given ++ bytes) ≡ given ++ take (h - length given) bytes =
        ap (λ k. take k (given ++ bytes)) (omega (arith, long)) ∙ take-append-add given bytes (h - length given) in
        let on = continues server_limit given (take (h - length given) bytes) in
        let sizes = ap length on.said ∙ length-append (talk server_limit given).said on.more in
        let first = ap (λ (bs : List ℕ). length (talk server_limit bs).said) all in
        let second = ap (λ (bs : List ℕ). length (talk server_limit bs).said) more in
        omega (arith, sizes, first, second)

pub hears : ((limit : ℕ) (bytes more : List ℕ) → Continues (talk limit bytes) (talk limit (bytes ++ more))) → MarkHears
hears continues wid mark sent given heard bytes more is kept =
    let low = kept.within in
    let sizes = ap length is ∙ length-append (talk server_limit given).said more in
    record {
      since = kept.since;
      within = omega (arith, low, sizes);
      marks = ap (λ (said : List Said). marked wid false (drop kept.since said)) is
          ∙ ap (marked wid false) (drop-append-le kept.since (talk server_limit given).said more low)
          ∙ marked_append wid false (drop kept.since (talk server_limit given).said) more
          ∙ ap (λ b. marked wid b more) kept.marks;
      later = λ n small shown. let before = kept.later n small shown in let now = says_no_less continues (slice_index heard n) given bytes in omega (arith, before, now);
    }

pub sends : MarkSends
sends wid mark sent given heard bytes paired kept = record {
  since = kept.since;
  within = kept.within;
  marks = kept.marks;
  later = λ n low shown. later n low shown (cases_lt n (length sent));
}
  where
    later : (n : ℕ) → n < length (sent ++ bytes) → IsShownBy (sent ++ bytes) n wid → (n < length sent) ⊎ (length sent ≤ n)
        → kept.since ≤ length (talk server_limit (take (slice_index (heard ++ replicate (length bytes) (length given)) n) given)).said
    later n low shown (inl early) =
        let same : take (n + 1) (sent ++ bytes) ≡ take (n + 1) sent = take-append-le (n + 1) sent bytes (omega (arith, early)) in
        let before = kept.later n early (sym (ap (λ (bs : List ℕ). has_window (shows bs) wid) same) ∙ shown) in
        let place = get_or_append_left heard (replicate (length bytes) (length given)) 0 n (omega (arith, early, paired)) in
        let now = ap (λ k. length (talk server_limit (take k given)).said) place in
        omega (arith, before, now)
    later n low shown (inr late) =
        let sizes = length-append sent bytes in
        let place = get_or-append_right heard (replicate (length bytes) (length given)) (length heard) n 0 refl (omega (arith, late, paired)) in
        let mark = get_or-replicate (length bytes) (n - length heard) (length given) 0 (omega (arith, late, low, sizes, paired)) in
        let all : take (length given) given ≡ given = take_all (length given) given (omega arith) in
        let now = ap (λ k. length (talk server_limit (take k given)).said) (place ∙ mark) ∙ ap (λ (bs : List ℕ). length (talk server_limit bs).said) all in
        let within = kept.within in
        omega (arith, within, now)

-- a map of the window marks it
mapping_marks : (wid : ℕ) (was : Bool) (m : FromClient) → SaysMapped wid m → mark_after wid was m ≡ true
mapping_marks wid was (C.Hello caps) says = absurd says
mapping_marks wid was (C.MapWindow number further) says = cond-true (names wid number) true was (ap (names wid) says ∙ own)
  where
    own : eqb wid wid ≡ true
    own = grind (arith, nat_tests)
mapping_marks wid was (C.UnmapWindow number further) says = absurd says
mapping_marks wid was (C.DamageSequence sequence number width height time message) says = absurd says
mapping_marks wid was (C.BufferRefresh number further) says = absurd says
mapping_marks wid was (C.Ping t further) says = absurd says
mapping_marks wid was (C.Disconnect further) says = absurd says
mapping_marks wid was C.Other says = absurd says

other_number : (wid : ℕ) (number : ℤ) → number ≢ pos wid → names wid number ≡ false
other_number wid (negsuc n) other = refl
other_number wid (pos n) other = go (eqb n wid) refl
  where
    go : (b : Bool) → eqb n wid ≡ b → eqb n wid ≡ false
    go false is = is
    go true is = let same : n ≡ wid = grind (arith, nat_tests, is) in absurd (other (ap (λ k. pos k) same))

-- a message that says nothing of it leaves it
nothing_marks : (wid : ℕ) (was : Bool) (m : FromClient) → SaysNothing wid m → mark_after wid was m ≡ was
nothing_marks wid was (C.Hello caps) says = refl
nothing_marks wid was (C.MapWindow number further) says = cond-false (names wid number) true was (other_number wid number says)
nothing_marks wid was (C.UnmapWindow number further) says = cond-false (names wid number) false was (other_number wid number says)
nothing_marks wid was (C.DamageSequence sequence number width height time message) says = refl
nothing_marks wid was (C.BufferRefresh number further) says = refl
nothing_marks wid was (C.Ping t further) says = refl
nothing_marks wid was (C.Disconnect further) says = refl
nothing_marks wid was C.Other says = refl

stays_marked : (wid : ℕ) (was : Bool) (said : List Said) → All (λ (m : Said). SaysNothing wid m.message) said → marked wid was said ≡ was
stays_marked wid was [] none = refl
stays_marked wid was (m ∷ said) none =
    let P : Said → Type 0 = λ (m : Said). SaysNothing wid m.message in
    ap (λ b. marked wid b said) (nothing_marks wid was m.message (All-head P m said none)) ∙ stays_marked wid was said (All-tail P m said none)

pub mapped_is_marked : MappedIsMarked
mapped_is_marked wid mark sent given heard kept maps =
    let ends = maps.mapped in
    let shown = kept.later maps.place maps.within maps.shown in
    let said = maps.later in
    let count = ends.count_is in
    let early : kept.since ≤ length ends.before = omega (arith, shown, said, count) in
    sym kept.marks
    ∙ ap (λ (ms : List Said). marked wid false (drop kept.since ms)) ends.said_is
    ∙ ap (marked wid false) (drop-append-le kept.since ends.before (ends.message ∷ ends.after) early)
    ∙ marked_append wid false (drop kept.since ends.before) (ends.message ∷ ends.after)
    ∙ ap (λ b. marked wid b ends.after) (mapping_marks wid (marked wid false (drop kept.since ends.before)) ends.message.message ends.maps)
    ∙ stays_marked wid true ends.after ends.last
