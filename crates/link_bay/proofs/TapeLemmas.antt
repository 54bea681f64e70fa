-- A connection that a tape plays, after a read or a write.
use Rattle.std.proofs.Common.{◌≡◌, ◌≢◌, ℕ, suc, ◌+◌, ◌<◌, ◌≤◌, All, arith, List, [], ◌∷◌, ◌++◌, length, take, replicate, refl, sym, ap, ◌∙◌}
use Rattle.std.proofs.lemmas.List.{length-append, length-take-le}
use Rattle.std.proofs.Math.Seq.{take-add}
use Rattle.std.specs.Prelude.{Option, Some, true, slice_get}
use Rattle.xp_base.specs.Counts.{RoseOnlyIf, count_sum}
use Rattle.xp_base.specs.Told.{told_append}
use Rattle.link_bay.specs.declared.counters.Counters.{Counters}
use Rattle.link_bay.specs.declared.writes.Write.{Write}
use Rattle.link_bay.specs.declared.inbound.Inbound.{Inbound}
use Rattle.link_bay.specs.declared.bay.Gave.{Gave}
use Rattle.link_bay.specs.declared.bay.Wrote.{Wrote}
use Rattle.link_bay.specs.declared.bay.Wrote.TheVariants as W
use Rattle.link_bay.specs.Answers.{ReadGives, WriteGives, is_dry}
use Rattle.link_bay.specs.Counted.{after_write}
use Rattle.link_bay.specs.Tapes.{Tape, PlayedTape, TapeProvider, fresh_tape, left_on, tape_connection, played_connection}
use Rattle.link_bay.specs.TapeSteps.{read_once, written_once, accepted_once}
use Rattle.link_bay.specs.Writes.{heard_of}
use Rattle.link_bay.specs.Connections.{fresh_connection}
use Rattle.link_bay.proofs.Peers.{heard_of-push}
use Rattle.link_bay.proofs.Places.{slice_get-append_last, slice_get-append_other}

-- so many bytes more were handed out
pub tape_given : (p : PlayedTape) (n : ℕ)
    → tape_connection (record (read_once p) { place = p.place + n }) ≡ record (tape_connection p) { given = told_append (tape_connection p).given (take n (left_on p)) }
tape_given p n = rw (take-add p.place n p.tape.bytes) refl

-- a write, by what is kept
pub tape_written : (p : PlayedTape) (sent piece : List ℕ) (taken taken' : List Write) (counts : Counters) (n writes : ℕ)
    → sent ≡ p.sent ++ take n piece → p.heard ≡ heard_of taken → taken' ≡ taken ++ record { taken = n; given = p.place } ∷ [] → counts ≡ after_write piece n p.counts
    → writes ≡ count_sum p.writes 1
    → record p { writes = writes; sent = sent; heard = heard_of taken'; counts = counts }
    ≡ record (written_once p) { sent = p.sent ++ take n piece; heard = p.heard ++ replicate n p.place; counts = after_write piece n p.counts }
tape_written p sent piece taken taken' counts n writes is_sent was_heard is_taken is_counted is_written =
    let heard : heard_of taken' ≡ p.heard ++ replicate n p.place =
    ap heard_of is_taken ∙ heard_of-push taken (record { taken = n; given = p.place }) ∙ ap (λ hs. hs ++ replicate n p.place) (sym was_heard) in
    rw (is_sent, heard, is_counted, is_written) refl

pub tape_took : (p : PlayedTape) (sent piece : List ℕ) (taken taken' : List Write) (counts : Counters) (n writes : ℕ)
    → sent ≡ p.sent ++ take n piece → p.heard ≡ heard_of taken → taken' ≡ taken ++ record { taken = n; given = p.place } ∷ [] → counts ≡ after_write piece n p.counts
    → n ≤ length piece → p.place ≤ length p.tape.bytes → RoseOnlyIf (is_dry piece n) p.counts.dry counts.dry
    → WriteGives (tape_connection p) (tape_connection (record p { writes = writes; sent = sent; heard = heard_of taken'; counts = counts })) piece (W.Took n)
tape_took p sent piece taken taken' counts n writes is_sent was_heard is_taken is_counted within handed rose =
    let heard : heard_of taken' ≡ p.heard ++ replicate n (length (take p.place p.tape.bytes)) =
    ap heard_of is_taken ∙ heard_of-push taken (record { taken = n; given = p.place }) ∙ ap (λ hs. hs ++ replicate n p.place) (sym was_heard)
    ∙ ap (λ k. p.heard ++ replicate n k) (sym (length-take-le p.place p.tape.bytes handed)) in
    (within, rose, rw (is_sent, heard, is_counted) refl)

-- one connection of the provider
pub played_read : (old new : Option PlayedTape) (p p' : PlayedTape) (into into' : List ℕ) (max : ℕ) (answer : Gave) → old ≡ Some p → new ≡ Some p'
    → ReadGives (tape_connection p) (tape_connection p') into into' max answer → ReadGives (played_connection old) (played_connection new) into into' max answer
played_read old new p p' into into' max answer was is gives = rw (was, is) gives

pub played_written : (old new : Option PlayedTape) (p p' : PlayedTape) (piece : List ℕ) (answer : Wrote) → old ≡ Some p → new ≡ Some p'
    → WriteGives (tape_connection p) (tape_connection p') piece answer → WriteGives (played_connection old) (played_connection new) piece answer
played_written old new p p' piece answer was is gives = rw (was, is) gives

-- what holds of each holds of those behind the first
pub all_behind : {A : Type 0} (P : A → Type 0) (x : A) (xs : List A) → All P (x ∷ xs) → All P xs
all_behind P x xs each = λ k d within. each (suc k) d (omega arith)

-- a tape more is played, and one fewer waits
pub accepted_lengths : (waiting waiting' : List Inbound) (tape : Inbound) (played played' : List PlayedTape) (p : PlayedTape) (most : ℕ) → waiting ≡ tape ∷ waiting' → played' ≡ played ++ p ∷ []
    → length waiting + length played < most → length waiting' + length played' < most
accepted_lengths waiting waiting' tape played played' p most split pushed few =
    let fewer = ap length split in
    let more = ap length pushed ∙ length-append played (p ∷ []) in omega arith

pub tapes_accepted : (b : TapeProvider) (tape : Tape) (rest : List Tape) (played : List PlayedTape) (p : PlayedTape) (accepts : ℕ) → played ≡ b.played ++ p ∷ [] → p ≡ fresh_tape tape → accepts ≡ count_sum b.accepts 1
    → record b { waiting = rest; played = played; accepts = accepts } ≡ record (accepted_once b) { waiting = rest; played = b.played ++ fresh_tape tape ∷ [] }
tapes_accepted b tape rest played p accepts pushed fresh counted = rw (pushed, fresh, counted) refl

pub played_last : (played played' : List PlayedTape) (tape : Tape) (p : PlayedTape) → played' ≡ played ++ p ∷ [] → p ≡ fresh_tape tape
    → played_connection (slice_get played' (length played)) ≡ fresh_connection true
played_last played played' tape p pushed fresh =
    ap (λ ps. played_connection (slice_get ps (length played))) pushed ∙ ap played_connection (slice_get-append_last played p) ∙ ap tape_connection fresh

pub played_others : (played played' : List PlayedTape) (p : PlayedTape) (d : ℕ) → played' ≡ played ++ p ∷ [] → d ≢ length played
    → played_connection (slice_get played' d) ≡ played_connection (slice_get played d)
played_others played played' p d pushed other = ap (λ ps. played_connection (slice_get ps d)) pushed ∙ ap played_connection (slice_get-append_other played p d other)
