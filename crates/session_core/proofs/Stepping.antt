-- What a read, a capture or a write leaves of an open connection, for settling.
use Rattle.std.proofs.Common.{◌≡◌, ◌⊎◌, inl, inr, ℕ, zero, suc, ◌-◌, ◌<◌, ◌≤◌, Bool, true, false, List, [], ◌∷◌, ◌++◌, length, take, Option, Some, None, refl, ap, ◌∙◌, sym, subst, arith}
use Rattle.std.specs.Prelude.{IfErr, IsSome, IsSomeAnd, MatchOption, Result, Ok, Err, is_some, replicate}
use Rattle.std.proofs.lemmas.List.{length-append}
use Rattle.xp_base.specs.Counts.{Rose, RoseOnlyIf, count_sum}
use Rattle.xp_base.specs.Told.{told_append, told_length}
use Rattle.link_bay.specs.Connections.{ConnectionRecord}
use Rattle.link_bay.specs.Provider.{ProviderRecord}
use Rattle.link_bay.specs.Answers.{ReadGives, WriteGives, is_dry, drought_after}
use Rattle.link_bay.specs.declared.bay.Gave.{Gave}
use Rattle.link_bay.specs.declared.bay.Gave.TheVariants as G
use Rattle.link_bay.specs.declared.bay.Wrote.{Wrote}
use Rattle.link_bay.specs.declared.bay.Wrote.TheVariants as W
use Rattle.window_model.specs.Desktop.{Window}
use Rattle.first_script.specs.declared.paint.Paint.{Paint}
use Rattle.first_script.specs.Validity.{ArePaints}
use Rattle.session_core.specs.declared.answers.Received.{Received}
use Rattle.session_core.specs.declared.answers.Received.TheVariants as R
use Rattle.client_connection.specs.declared.answers.Captured.{Captured}
use Rattle.client_connection.specs.declared.answers.Captured.TheVariants as C
use Rattle.client_connection.specs.declared.answers.Sent.{Sent}
use Rattle.client_connection.specs.declared.answers.Sent.TheVariants as S
use Rattle.client_connection.specs.declared.ends.End.{End}
use Rattle.client_connection.specs.declared.ends.End.TheVariants as E
use Rattle.session_core.specs.Causes.{BreaksOffSince, DropMeans, GaveNoHello, GaveUnbuilt, ReachesFlood, ReadsStay, RoundsMean}
use Rattle.client_connection.specs.Clients.{ClientSeen}
use Rattle.session_core.specs.Slots.{plain_clients, IsAttached, AreKnown}
use Rattle.client_connection.specs.Given.{TellsAll, IsGivenFor}
use Rattle.session_core.specs.Reading.{Reads, ReadEnds, EndsReading}
use Rattle.client_connection.specs.Sending.{Writes, WriteEnds, offered}
use Rattle.session_core.specs.Settling.{ActsOnce, ActsThrough, Acts, EndsWaiting}
use Rattle.session_core.specs.State.{Seen, open_client}
use Rattle.session_core.specs.Steps.{Receives, ReceivesOne, Captures, CapturesOne, Sends, SendsOne, with_client, with_end, receive_ends, send_ends}
use Rattle.session_core.proofs.Calms.{now_open}
use Rattle.client_connection.proofs.Givens.{built_size, no_hello}
use Rattle.client_connection.proofs.Knowns.{some_append}
use Rattle.session_core.proofs.Meanings.{HasWaited, rose_some, rose_since, CountsLater, later_same, later_on, later_read, later_wrote, breaks_since}
use Rattle.client_connection.proofs.Talking.{script_geometry}

-- the client of a connection that is open
pub the_client : {A : Type 0} (o : Option A) → IsSome o → (c : A) × (o ≡ Some c)
the_client None some = absurd (cc some)
the_client (Some c) some = (c, refl)

is_there : {A : Type 0} (o : Option A) (c : A) → o ≡ Some c → IsSome o
is_there o c is = subst (λ (p : Option _). IsSome p) (sym is) refl

-- a read from an open connection
pub receives_open : {B : Type 0} (connection : B → ℕ → ConnectionRecord) (k : ℕ) (old new : Seen B) (answer : Received) → IsSome (open_client old.clients k) → Receives connection k old answer new
    → (c : ClientSeen) × (open_client old.clients k ≡ Some c) × ReceivesOne k (connection old.bay k) (connection new.bay k) old c answer new
receives_open connection k old new answer some receives =
    let found = the_client (open_client old.clients k) some in
    (found.0, found.1, subst (λ o. MatchOption o ((answer ≡ R.Closed) × (new ≡ old)) (λ c. ReceivesOne k (connection old.bay k) (connection new.bay k) old c answer new)) found.1 receives)

pub receives_closed : {B : Type 0} (connection : B → ℕ → ConnectionRecord) (k : ℕ) (old new : Seen B) → IsSome (open_client old.clients k) → Receives connection k old R.Closed new → ⊥
receives_closed connection k old new some receives = (receives_open connection k old new R.Closed some receives).2.1

pub receives_took : {B : Type 0} (connection : B → ℕ → ConnectionRecord) (k n : ℕ) (old new : Seen B) → IsSome (open_client old.clients k) → Receives connection k old (R.Took n) new → IsSome (open_client new.clients k)
receives_took connection k n old new some receives =
    let one = receives_open connection k old new (R.Took n) some receives in
    is_there (open_client new.clients k) one.2.0 (now_open old new k one.0 one.2.0 one.1 one.2.2)

near_more : (budget n : ℕ) (given given' : Option (List ℕ)) (bytes : List ℕ) → given' ≡ told_append given bytes → length bytes ≡ n → n ≤ budget → ReachesFlood budget given → ReachesFlood (budget - n) given'
near_more budget n None given' bytes is size low near = subst (ReachesFlood (budget - n)) (sym is) tt
near_more budget n (Some given) given' bytes is size low near = subst (ReachesFlood (budget - n)) (sym is) (omega (arith, near, low, size, length-append given bytes))

pub receives_near : {B : Type 0} (connection : B → ℕ → ConnectionRecord) (k n budget : ℕ) (old new : Seen B) → IsSome (open_client old.clients k) → Receives connection k old (R.Took n) new → n ≤ budget
    → ReachesFlood budget (connection old.bay k).given → ReachesFlood (budget - n) (connection new.bay k).given
receives_near connection k n budget old new some receives low near =
    let reads = (receives_open connection k old new (R.Took n) some receives).2.1 in
    near_more budget n (connection old.bay k).given (connection new.bay k).given reads.1.0 (ap (λ (r : ConnectionRecord). r.given) reads.1.5) reads.1.1 low near

pub receives_waited : {B : Type 0} (connection : B → ℕ → ConnectionRecord) (k : ℕ) (old new : Seen B) → IsSome (open_client old.clients k) → Receives connection k old R.Again new
    → IsSome (open_client new.clients k) × HasWaited (connection new.bay k)
receives_waited connection k old new some receives =
    let one = receives_open connection k old new R.Again some receives in (
      is_there (open_client new.clients k) one.2.0 (now_open old new k one.0 one.2.0 one.1 one.2.2),
      (ap (λ (r : ConnectionRecord). r.unheard) one.2.1.0.2, rose_some (connection old.bay k).waits (connection new.bay k).waits one.2.1.0.1),
    )

-- a read that gave none had to wait
pub receives_rose : {B : Type 0} (connection : B → ℕ → ConnectionRecord) (k : ℕ) (old new : Seen B) → IsSome (open_client old.clients k) → Receives connection k old R.Again new → Rose (connection old.bay k).waits (connection new.bay k).waits
receives_rose connection k old new some receives = (receives_open connection k old new R.Again some receives).2.1.0.1

-- more was given than is built
past_more : (lines : List Paint) (c : ClientSeen) (budget n : ℕ) (given given' : Option (List ℕ)) (bytes : List ℕ) → ArePaints lines → given' ≡ told_append given bytes → length bytes ≡ n → budget < n → ReachesFlood budget given
    → IsGivenFor lines c given' → GaveUnbuilt lines given'
past_more lines c budget n None given' bytes paints is size past near known = subst (GaveUnbuilt lines) (sym is) tt
past_more lines c budget n (Some given) given' bytes paints is size past near known = subst (GaveUnbuilt lines) (sym is) (λ built.
    let small = built_size lines (given ++ bytes) (λ g. script_geometry lines g paints) built in
    absurd (omega (arith, small, near, past, size, length-append given bytes)))

pub receives_past : {B : Type 0} (connection : B → ℕ → ConnectionRecord) (tells : Bool) (k n budget : ℕ) (old new : Seen B) → IsSome (open_client old.clients k) → Receives connection k old (R.Took n) new → budget < n
    → ReachesFlood budget (connection old.bay k).given → ArePaints new.lines → AreKnown tells (connection new.bay) new.lines new.desk new.clients → BreaksOffSince new.lines (connection old.bay k) (connection new.bay k)
receives_past connection tells k n budget old new some receives past near paints known =
    let one = receives_open connection k old new (R.Took n) some receives in
    let reads = one.2.1 in
    let here = now_open old new k one.0 one.2.0 one.1 one.2.2 in
    inr (inr (inr (past_more new.lines one.2.0 budget n (connection old.bay k).given (connection new.bay k).given reads.1.0 paints (ap (λ (r : ConnectionRecord). r.given) reads.1.5) reads.1.1 past near (known k one.2.0 here).given)))

-- a capture for an open connection
pub captures_open : {B : Type 0} (k wid : ℕ) (old new : Seen B) (answer : Captured) → IsSome (open_client old.clients k) → Captures k wid old answer new → IsSome (open_client new.clients k)
captures_open {B} k wid old new answer some captures =
    let found = the_client (open_client old.clients k) some in
    let one = subst (λ o. MatchOption o ((answer ≡ C.Closed) × (new ≡ old)) (λ c. (c' : ClientSeen) × CapturesOne old.desk wid c answer c' × (new ≡ with_client k c' old.bay old))) found.1 captures in
    let now : new ≡ with_client k one.0 new.bay old = one.2 ∙ ap (λ b. with_client k one.0 b old) (sym (ap (λ (s : Seen B). s.bay) one.2)) in
    is_there (open_client new.clients k) one.0 (now_open old new k found.0 one.0 found.1 now)

-- a write to an open connection
pub sends_open : {B : Type 0} (connection : B → ℕ → ConnectionRecord) (k most : ℕ) (old new : Seen B) (answer : Sent) → IsSome (open_client old.clients k) → Sends connection k most old answer new
    → (c : ClientSeen) × (open_client old.clients k ≡ Some c) × SendsOne k most (connection old.bay k) (connection new.bay k) old c answer new
sends_open connection k most old new answer some sends =
    let found = the_client (open_client old.clients k) some in
    (found.0, found.1, subst (λ o. MatchOption o ((answer ≡ S.Closed) × (new ≡ old)) (λ c. SendsOne k most (connection old.bay k) (connection new.bay k) old c answer new)) found.1 sends)

pub sends_closed : {B : Type 0} (connection : B → ℕ → ConnectionRecord) (k most : ℕ) (old new : Seen B) → IsSome (open_client old.clients k) → Sends connection k most old S.Closed new → ⊥
sends_closed connection k most old new some sends = (sends_open connection k most old new S.Closed some sends).2.1

pub sends_stay : {B : Type 0} (connection : B → ℕ → ConnectionRecord) (k most : ℕ) (old new : Seen B) (answer : Sent) → send_ends answer ≡ None → IsSome (open_client old.clients k) → Sends connection k most old answer new
    → IsSome (open_client new.clients k)
sends_stay {B} connection k most old new answer goes some sends =
    let one = sends_open connection k most old new answer some sends in
    let now = subst (λ o. MatchOption o ((c' : ClientSeen) × Writes most (connection old.bay k) (connection new.bay k) one.0 answer c' × (new ≡ with_client k c' new.bay old))
    (λ ended. WriteEnds most (connection old.bay k) (connection new.bay k) one.0 ended × (new ≡ with_end k ended new.bay old))) goes one.2 in
    is_there (open_client new.clients k) now.0 (now_open old new k one.0 now.0 one.1 now.2)

-- a write that took nothing
drought_more : (before : ℕ) (piece : List ℕ) → is_dry piece 0 ≡ true → drought_after before piece 0 ≡ count_sum before 1
drought_more before piece dry = rw dry refl

dry_more : (piece : List ℕ) (was now : ℕ) → is_dry piece 0 ≡ true → RoseOnlyIf (is_dry piece 0) was now → Rose was now
dry_more piece was now dry rose = subst (λ b. RoseOnlyIf b was now) dry rose

pub sends_dry : {B : Type 0} (connection : B → ℕ → ConnectionRecord) (k most : ℕ) (old new : Seen B) → IsSome (open_client old.clients k) → Sends connection k most old S.Again new
    → Rose (connection old.bay k).dry (connection new.bay k).dry × ((connection new.bay k).drought ≡ count_sum (connection old.bay k).drought 1)
sends_dry connection k most old new some sends =
    let one = sends_open connection k most old new S.Again some sends in
    let writes = one.2.1 in
    (dry_more (offered most one.0) _ _ writes.2 writes.1.1, ap (λ (r : ConnectionRecord). r.drought) writes.1.2 ∙ drought_more (connection old.bay k).drought (offered most one.0) writes.2)

-- what was read is not changed by a write
wrote_reads : (was now : ConnectionRecord) (piece : List ℕ) (w : Wrote) → WriteGives was now piece w → ReadsStay was now
wrote_reads was now piece (W.Took n) gives = (ap (λ (r : ConnectionRecord). r.given) gives.2, ap (λ (r : ConnectionRecord). r.waits) gives.2)
wrote_reads was now piece W.Failed gives = (ap (λ (r : ConnectionRecord). r.given) gives.1, ap (λ (r : ConnectionRecord). r.waits) gives.1)
wrote_reads was now piece W.NoMemory gives = (ap (λ (r : ConnectionRecord). r.given) gives, ap (λ (r : ConnectionRecord). r.waits) gives)

pub reads_then : {B : Type 0} (connection : B → ℕ → ConnectionRecord) (k : ℕ) (old mid new : B) → ReadsStay (connection old k) (connection mid k) → ReadsStay (connection mid k) (connection new k) → ReadsStay (connection old k) (connection new k)
reads_then connection k old mid new first second = (second.0 ∙ first.0, second.1 ∙ first.1)

-- what a write does to a connection, where it is open
pub sends_gives : {B : Type 0} (connection : B → ℕ → ConnectionRecord) (k most : ℕ) (old new : Seen B) (answer : Sent) → Sends connection k most old answer new
    → (connection new.bay k ≡ connection old.bay k) ⊎ ((piece : List ℕ) × (w : Wrote) × WriteGives (connection old.bay k) (connection new.bay k) piece w)
sends_gives {B} connection k most old new answer sends = go (open_client old.clients k) sends
  where
    written : (c c' : ClientSeen) (a : Sent) → Writes most (connection old.bay k) (connection new.bay k) c a c'
        → (connection new.bay k ≡ connection old.bay k) ⊎ ((piece : List ℕ) × (w : Wrote) × WriteGives (connection old.bay k) (connection new.bay k) piece w)
    written c c' S.Closed writes = absurd writes
    written c c' S.Idle writes = inl writes.1
    written c c' (S.Took n) writes = inr (offered most c, W.Took n, writes.2)
    written c c' S.Again writes = inr (offered most c, W.Took 0, writes.1)
    written c c' (S.Ended ended) writes = absurd writes
    written c c' S.NoMemory writes = inr (offered most c, W.NoMemory, writes.1)

    failed : (c : ClientSeen) (e : End) → WriteEnds most (connection old.bay k) (connection new.bay k) c e
        → (connection new.bay k ≡ connection old.bay k) ⊎ ((piece : List ℕ) × (w : Wrote) × WriteGives (connection old.bay k) (connection new.bay k) piece w)
    failed c E.Settled ends = absurd ends
    failed c E.Unbuilt ends = inr (offered most c, W.Failed, ends.1)
    failed c E.Short ends = absurd ends
    failed c E.Unended ends = absurd ends

    one : (c : ClientSeen) (o : Option End) → MatchOption o ((c' : ClientSeen) × Writes most (connection old.bay k) (connection new.bay k) c answer c' × (new ≡ with_client k c' new.bay old))
        (λ ended. WriteEnds most (connection old.bay k) (connection new.bay k) c ended × (new ≡ with_end k ended new.bay old))
        → (connection new.bay k ≡ connection old.bay k) ⊎ ((piece : List ℕ) × (w : Wrote) × WriteGives (connection old.bay k) (connection new.bay k) piece w)
    one c None now = written c now.0 answer now.1
    one c (Some e) now = failed c e now.0

    go : (o : Option ClientSeen) → MatchOption o ((answer ≡ S.Closed) × (new ≡ old)) (λ c. SendsOne k most (connection old.bay k) (connection new.bay k) old c answer new)
        → (connection new.bay k ≡ connection old.bay k) ⊎ ((piece : List ℕ) × (w : Wrote) × WriteGives (connection old.bay k) (connection new.bay k) piece w)
    go None now = inl (ap (λ (s : Seen B). connection s.bay k) now.1)
    go (Some c) now = one c (send_ends answer) now

pub sends_reads : {B : Type 0} (connection : B → ℕ → ConnectionRecord) (k most : ℕ) (old new : Seen B) (answer : Sent) → Sends connection k most old answer new → ReadsStay (connection old.bay k) (connection new.bay k)
sends_reads connection k most old new answer sends = elim (sends_gives connection k most old new answer sends) [
  | inl same ↦ (ap (λ (r : ConnectionRecord). r.given) same, ap (λ (r : ConnectionRecord). r.waits) same)
  | inr gives ↦ wrote_reads (connection old.bay k) (connection new.bay k) gives.0 gives.1 gives.2
]

-- what a read does to a connection, where it is open
pub receives_gives : {B : Type 0} (connection : B → ℕ → ConnectionRecord) (k : ℕ) (old new : Seen B) (answer : Received) → Receives connection k old answer new
    → (connection new.bay k ≡ connection old.bay k) ⊎ ((into into' : List ℕ) × (gave : Gave) × ReadGives (connection old.bay k) (connection new.bay k) into into' 4096 gave)
receives_gives {B} connection k old new answer receives = go (open_client old.clients k) receives
  where
    Gives : Type 0
    Gives = (connection new.bay k ≡ connection old.bay k) ⊎ ((into into' : List ℕ) × (gave : Gave) × ReadGives (connection old.bay k) (connection new.bay k) into into' 4096 gave)

    took : (c c' : ClientSeen) (a : Received) → Reads (connection old.bay k) (connection new.bay k) old.lines old.desk c a c' → Gives
    took c c' R.Closed reads = absurd reads
    took c c' (R.Took n) reads = inr ([], reads.0, G.Bytes n, reads.1)
    took c c' R.Again reads = inr ([], [], G.Again, reads.0)
    took c c' (R.Ended ended) reads = absurd reads
    took c c' R.NoMemory reads = absurd reads

    failed : (c : ClientSeen) (e : End) → ReadEnds (connection old.bay k) (connection new.bay k) old.lines old.desk c e → Gives
    failed c E.Settled ends = absurd ends
    failed c E.Unbuilt (inl ends) = inr ([], [], G.End, ends)
    failed c E.Unbuilt (inr (inl fails)) = inr ([], [], G.Failed, fails)
    failed c E.Unbuilt (inr (inr unbuilt)) = inr ([], unbuilt.0, G.Bytes unbuilt.1, unbuilt.2)
    failed c E.Short (inl none) = inr ([], [], G.NoMemory, none)
    failed c E.Short (inr gave) = inr ([], gave.0, G.Bytes gave.1, gave.2)
    failed c E.Unended ends = absurd ends

    one : (c : ClientSeen) (o : Option End) → MatchOption o ((c' : ClientSeen) × Reads (connection old.bay k) (connection new.bay k) old.lines old.desk c answer c' × (new ≡ with_client k c' new.bay old))
        (λ ended. EndsReading (connection old.bay k) (connection new.bay k) old.lines old.desk c answer × (new ≡ with_end k ended new.bay old)) → Gives
    one c None now = took c now.0 answer now.1
    one c (Some e) now = failed c now.0.0 now.0.2

    go : (o : Option ClientSeen) → MatchOption o ((answer ≡ R.Closed) × (new ≡ old)) (λ c. ReceivesOne k (connection old.bay k) (connection new.bay k) old c answer new) → Gives
    go None now = inl (ap (λ (s : Seen B). connection s.bay k) now.1)
    go (Some c) now = one c (receive_ends answer) now

-- a provider that tells its bytes goes on telling them
tells_as : (tells : Bool) (was now : ConnectionRecord) → is_some now.sent ≡ is_some was.sent → is_some now.given ≡ is_some was.given → is_some now.heard ≡ is_some was.heard → TellsAll tells was → TellsAll tells now
tells_as tells was now sent given heard all = record { sent = λ on. sent ∙ all.sent on; given = λ on. given ∙ all.given on; heard = λ on. heard ∙ all.heard on }

tells_same : (tells : Bool) (was now : ConnectionRecord) → now ≡ was → TellsAll tells was → TellsAll tells now
tells_same tells was now same all = subst (TellsAll tells) (sym same) all

tells_read : (tells : Bool) (was now : ConnectionRecord) (into into' : List ℕ) (most : ℕ) (gave : Gave) → ReadGives was now into into' most gave → TellsAll tells was → TellsAll tells now
tells_read tells was now into into' most (G.Bytes n) gives all = subst (TellsAll tells) (sym gives.5) (tells_as tells was _ refl (some_append was.given gives.0) refl all)
tells_read tells was now into into' most G.Again gives all = subst (TellsAll tells) (sym gives.2) (tells_as tells was _ refl refl refl all)
tells_read tells was now into into' most G.End gives all = subst (TellsAll tells) (sym gives.2) (tells_as tells was _ refl refl refl all)
tells_read tells was now into into' most G.Failed gives all = subst (TellsAll tells) (sym gives.2) (tells_as tells was _ refl refl refl all)
tells_read tells was now into into' most G.NoMemory gives all = tells_same tells was now gives.1 all

tells_wrote : (tells : Bool) (was now : ConnectionRecord) (piece : List ℕ) (w : Wrote) → WriteGives was now piece w → TellsAll tells was → TellsAll tells now
tells_wrote tells was now piece (W.Took n) gives all =
    subst (TellsAll tells) (sym gives.2) (tells_as tells was _ (some_append was.sent (take n piece)) refl (some_append was.heard (replicate n (told_length was.given))) all)
tells_wrote tells was now piece W.Failed gives all = subst (TellsAll tells) (sym gives.1) (tells_as tells was _ refl refl refl all)
tells_wrote tells was now piece W.NoMemory gives all = tells_same tells was now gives all

captures_bay : {B : Type 0} (k wid : ℕ) (old new : Seen B) (answer : Captured) → Captures k wid old answer new → new.bay ≡ old.bay
captures_bay {B} k wid old new answer captures = go (open_client old.clients k) captures
  where
    go : (o : Option ClientSeen) → MatchOption o ((answer ≡ C.Closed) × (new ≡ old)) (λ c. (c' : ClientSeen) × CapturesOne old.desk wid c answer c' × (new ≡ with_client k c' old.bay old)) → new.bay ≡ old.bay
    go None now = ap (λ (s : Seen B). s.bay) now.1
    go (Some c) now = ap (λ (s : Seen B). s.bay) now.2

tells_once : {B : Type 0} (provider : B → ProviderRecord) (connection : B → ℕ → ConnectionRecord) (tells : Bool) (k : ℕ) (old new : Seen B) → ActsOnce provider connection k old new → TellsAll tells (connection old.bay k) → TellsAll tells (connection new.bay k)
tells_once provider connection tells k old new (others, inl act) all = elim (receives_gives connection k old new act.0 act.1) [
  | inl same ↦ tells_same tells _ _ same all
  | inr gives ↦ tells_read tells _ _ gives.0 gives.1 4096 gives.2 gives.3 all
]
tells_once provider connection tells k old new (others, inr (inl act)) all = tells_same tells _ _ (ap (λ b. connection b k) (captures_bay k act.0 old new act.1 act.2)) all
tells_once provider connection tells k old new (others, inr (inr act)) all = elim (sends_gives connection k act.0 old new act.1 act.3) [
  | inl same ↦ tells_same tells _ _ same all
  | inr gives ↦ tells_wrote tells _ _ gives.0 gives.1 gives.2 all
]

tells_through : {B : Type 0} (provider : B → ProviderRecord) (connection : B → ℕ → ConnectionRecord) (tells : Bool) (k : ℕ) (through : List (Seen B)) (old new : Seen B) → ActsThrough provider connection k through old new → TellsAll tells (connection old.bay k)
    → TellsAll tells (connection new.bay k)
tells_through provider connection tells k [] old new same all = tells_same tells _ _ (ap (λ (s : Seen _). connection s.bay k) same) all
tells_through provider connection tells k (next ∷ through) old new acts all = tells_through provider connection tells k through next new acts.1 (tells_once provider connection tells k old next acts.0 all)

pub acts_tell : {B : Type 0} (provider : B → ProviderRecord) (connection : B → ℕ → ConnectionRecord) (tells : Bool) (k : ℕ) (old new : Seen B) → Acts provider connection k old new → TellsAll tells (connection old.bay k) → TellsAll tells (connection new.bay k)
acts_tell provider connection tells k old new acts all = tells_through provider connection tells k acts.0 old new acts.1 all

-- no count falls in acts
later_once : {B : Type 0} (provider : B → ProviderRecord) (connection : B → ℕ → ConnectionRecord) (k : ℕ) (old new : Seen B) → ActsOnce provider connection k old new → CountsLater (connection old.bay k) (connection new.bay k)
later_once provider connection k old new (others, inl act) = elim (receives_gives connection k old new act.0 act.1) [
  | inl same ↦ later_same _ _ same
  | inr gives ↦ later_read _ _ gives.0 gives.1 4096 gives.2 gives.3
]
later_once provider connection k old new (others, inr (inl act)) = later_same _ _ (ap (λ b. connection b k) (captures_bay k act.0 old new act.1 act.2))
later_once provider connection k old new (others, inr (inr act)) = elim (sends_gives connection k act.0 old new act.1 act.3) [
  | inl same ↦ later_same _ _ same
  | inr gives ↦ later_wrote _ _ gives.0 gives.1 gives.2
]

later_through : {B : Type 0} (provider : B → ProviderRecord) (connection : B → ℕ → ConnectionRecord) (k : ℕ) (through : List (Seen B)) (old new : Seen B) → ActsThrough provider connection k through old new
    → CountsLater (connection old.bay k) (connection new.bay k)
later_through provider connection k [] old new same = later_same _ _ (ap (λ (s : Seen _). connection s.bay k) same)
later_through provider connection k (next ∷ through) old new acts =
    later_on (connection old.bay k) (connection next.bay k) (connection new.bay k) (later_once provider connection k old next acts.0) (later_through provider connection k through next new acts.1)

pub acts_later : {B : Type 0} (provider : B → ProviderRecord) (connection : B → ℕ → ConnectionRecord) (k : ℕ) (old new : Seen B) → Acts provider connection k old new → CountsLater (connection old.bay k) (connection new.bay k)
acts_later provider connection k old new acts = later_through provider connection k acts.0 old new acts.1

-- where the last act is a read that had to wait, the connection has been read out, and had to wait in these acts
pub waiting_waited : {B : Type 0} (provider : B → ProviderRecord) (connection : B → ℕ → ConnectionRecord) (k : ℕ) (old new : Seen B) → EndsWaiting provider connection k old new
    → HasWaited (connection new.bay k) × Rose (connection old.bay k).waits (connection new.bay k).waits
waiting_waited {B} provider connection k old new waits = (
  (receives_waited connection k before new open_before waits.3).1,
  rose_since (connection old.bay k).waits (connection before.bay k).waits (connection new.bay k).waits (acts_later provider connection k old before waits.1).waits (receives_rose connection k before new open_before waits.3),
)
  where
    before : Seen B
    before = waits.0

    go : (o : Option ClientSeen) → MatchOption o ((R.Again ≡ R.Closed) × (new ≡ before)) (λ c. ReceivesOne k (connection before.bay k) (connection new.bay k) before c R.Again new) → IsSome o
    go None receives = absurd (cc receives.0)
    go (Some c) receives = refl

    open_before : IsSome (open_client before.clients k)
    open_before = go (open_client before.clients k) waits.3

-- a client that has not said its whole hello when a read had to wait
plain_attached : (clients : List (Option ClientSeen)) (k : ℕ) → IsAttached (plain_clients clients) k → IsAttached clients k
plain_attached [] k on = on
plain_attached (None ∷ clients) zero on = on
plain_attached (Some c ∷ clients) zero on = on
plain_attached (slot ∷ clients) (suc k) on = plain_attached clients k on

no_hello_where : (lines : List Paint) (c : ClientSeen) (given : Option (List ℕ)) → IsGivenFor lines c given → c.greeted ≡ false → GaveNoHello given
no_hello_where lines c None is off = tt
no_hello_where lines c (Some given) is off = no_hello lines c given is off

pub ungreeted_unheard : (connection : ℕ → ConnectionRecord) (tells : Bool) (lines : List Paint) (desk : List Window) (clients : List (Option ClientSeen)) (k : ℕ) → IsSome (open_client (plain_clients clients) k) → (IsAttached clients k → ⊥)
    → AreKnown tells connection lines desk (plain_clients clients) → GaveNoHello (connection k).given
ungreeted_unheard connection tells lines desk clients k some off known =
    let found = the_client (open_client (plain_clients clients) k) some in
    let no : found.0.greeted ≡ false = not_greeted found.0 found.1 found.0.greeted refl in
    no_hello_where lines found.0 (connection k).given (known k found.0 found.1).given no
  where
    not_greeted : (c : ClientSeen) → open_client (plain_clients clients) k ≡ Some c → (b : Bool) → c.greeted ≡ b → c.greeted ≡ false
    not_greeted c here false is = is
    not_greeted c here true is = absurd (off (plain_attached clients k (subst (λ (o : Option ClientSeen). IsSomeAnd o (λ (d : ClientSeen). d.greeted ≡ true)) (sym here) is)))

-- an end that a read or a write gave in rounds
pub dropped_rounds : (lines : List Paint) (was mid now : ConnectionRecord) (e : End) → CountsLater was mid → DropMeans lines mid e now → RoundsMean lines was e now
dropped_rounds lines was mid now E.Settled later means = absurd means
dropped_rounds lines was mid now E.Unbuilt later means = inl (breaks_since lines was mid now later means)
dropped_rounds lines was mid now E.Short later means = tt
dropped_rounds lines was mid now E.Unended later means = absurd means

-- rounds in which a read had to wait for a client that has not said its whole hello
pub unheard_rounds : {A : Type 0} (lines : List Paint) (was now : ConnectionRecord) (rounds : Result A End) → IfErr rounds (λ e. e ≡ E.Unbuilt) → Rose was.waits now.waits → IfErr rounds (λ e. GaveNoHello now.given)
    → IfErr rounds (λ e. RoundsMean lines was e now)
unheard_rounds lines was now (Ok done) unbuilt rose unheard = tt
unheard_rounds lines was now (Err e) unbuilt rose unheard = subst (λ (d : End). RoundsMean lines was d now) (sym unbuilt) (inr (rose, unheard))
