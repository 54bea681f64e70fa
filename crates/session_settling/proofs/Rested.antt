-- The rounds of one connection, and how it ends.
use Rattle.std.proofs.Common.{◌≡◌, ◌≢◌, ◌⊎◌, inl, inr, ℕ, zero, suc, ◌+◌, ◌*◌, ◌≤◌, ◌<◌, Bool, true, false, Option, Some, None, List, [], ◌∷◌, length, get_or, cond, refl, sym, ap, ◌∙◌, subst, arith}
use Rattle.std.specs.Prelude.{slice_get, is_some, ◌&&◌, ◌==◌}
use Rattle.std.specs.List.{list_all}
use Rattle.std.proofs.lemmas.Bool.{cases_lt}
use Rattle.std.proofs.lemmas.Bool.Decides.{nat_tests}
use Rattle.std.proofs.lemmas.Option.{slice_get-get_or, slice_get_within}
use Rattle.xp_base.specs.Counts.{Rose}
use Rattle.xp_base.specs.Keyed.{HasDistinctKeys, keyed_find}
use Rattle.xp_base.specs.declared.numbers.Conn.{Conn}
use Rattle.link_bay.specs.Connections.{ConnectionRecord}
use Rattle.delivery_model.specs.Events.{is_empty}
use Rattle.window_source.specs.Source.{SourceSeen}
use Rattle.window_source.specs.Owed.{is_clear}
use Rattle.client_delivery.specs.Attached.{source_key}
use Rattle.connection_table.specs.Tables.{Open, open_at}
use Rattle.connection_ends.specs.declared.end.End.TheVariants as E
use Rattle.attached_client.specs.Client.{ClientSeen}
use Rattle.open_connection.specs.Connection.{ConnectionSeen}
use Rattle.open_connection.specs.Clear.{is_clear_for}
use Rattle.open_connection.specs.Laws.{IsToldTo}
use Rattle.connection_steps.specs.Resting.{IsAtRest, RestShows, RestSettles, ClearRests, GreetingSaysNothing}
use Rattle.session_steps.specs.Seen.{Known, Seen}
use Rattle.session_steps.specs.Drawing.{is_attached_where, is_attached_at, is_clear_at}
use Rattle.session_steps.specs.Settling.{EndsOpen, SettlingKeeps, CauseCame}
use Rattle.session_settling.specs.Through.{IsSettling, GoesThrough, IsOn}
use Rattle.session_settling.specs.Reading.{StaysOpen, UsesUp, IsReadOut}
use Rattle.session_settling.specs.Writing.{client_where, client_at, NothingWaits}
use Rattle.session_settling.specs.Drawing.{AreLeft, IsDrawn}
use Rattle.session_settling.specs.Rounds.{rests, captures_after}
use Rattle.session_settling.proofs.Acts.{both, settling_then, closing}
use Rattle.session_settling.proofs.Places.{open_slot}
use Rattle.session_settling.proofs.Heard.{used_up}
use Rattle.session_settling.proofs.Nearing.{client_opened, clear_of}
use Rattle.session_settling.proofs.Staying.{was_open}

-- ---- where no capture is left nothing is left to be drawn

find_placed : {A : Type 0} (key : A → ℕ) (items : List A) → HasDistinctKeys key items → (place : ℕ) (item : A) → slice_get items place ≡ Some item → keyed_find key items (key item) ≡ Some item
find_placed key [] apart place item is = absurd (cc is)
find_placed key (x ∷ xs) apart zero item is = let same : x ≡ item = cc is in grind (arith, nat_tests, same)
find_placed key (x ∷ xs) apart (suc n) item is =
    let low = slice_get_within xs n item is in
    let there : get_or xs n x ≡ item = cc (sym (slice_get-get_or xs n x low) ∙ is) in
    let other : key x ≢ key item = λ same. apart 0 (suc n) x (omega arith) (omega (arith, low)) (same ∙ ap key (sym there)) in
    let later = find_placed key xs (λ i j d before within. apart (suc i) (suc j) d (omega (arith, before)) (omega (arith, within))) n item is in
    grind (arith, nat_tests, other, later)

all_placed : (p : SourceSeen → Bool) (sources : List SourceSeen) → ((place : ℕ) (s : SourceSeen) → slice_get sources place ≡ Some s → p s ≡ true) → list_all p sources ≡ true
all_placed p [] each = refl
all_placed p (s ∷ sources) each = rw (each 0 s refl) (all_placed p sources (λ place t is. each (suc place) t is))

at_most_two : (clear drawn : Bool) → cond clear 0 (cond drawn 1 2) ≤ 2
at_most_two true drawn = omega arith
at_most_two false true = omega arith
at_most_two false false = omega arith

none_clear : (clear drawn : Bool) → cond clear 0 (cond drawn 1 2) ≤ 0 → clear ≡ true
none_clear true drawn none = refl
none_clear false true none = absurd (omega (arith, none))
none_clear false false none = absurd (omega (arith, none))

any_two : (n : ℕ) (o : Option ClientSeen) → 2 ≤ n → AreLeft n o
any_two n None two = tt
any_two n (Some client) two = λ wid s found. let most = at_most_two (is_clear s) (length s.jobs == 0 && is_empty s.pending) in omega (arith, most, two)

attached_some : {B : Type 0} (k : ℕ) (s : Seen B) → is_attached_at k s ≡ true → (client : ClientSeen) × (client_at k s ≡ Some client)
attached_some k s attached = go (open_at s.slots k) refl attached
  where
    by_client : (o : Option ClientSeen) → client_at k s ≡ o → is_some o ≡ true → (client : ClientSeen) × (client_at k s ≡ Some client)
    by_client None is attached = absurd (cc attached)
    by_client (Some client) is attached = (client, is)

    go : (o : Option ConnectionSeen) → open_at s.slots k ≡ o → is_attached_where o ≡ true → (client : ClientSeen) × (client_at k s ≡ Some client)
    go None at attached = absurd (cc attached)
    go (Some q) at attached = by_client q.client (ap client_where at) attached

module _ {B : Type 0} (known : Known B) (k : ℕ) where
  zero_clear : (s : Seen B) → IsSettling known s → is_attached_at k s ≡ true → AreLeft 0 (client_at k s) → is_clear_at k s ≡ true
  zero_clear s settling attached left =
      let client = attached_some k s attached in
      let at = client_opened known s k client.0 client.1 in
      let kept = (settling.2).slots k (Open at.0) (open_slot s.slots k at.0 at.1) in
      let told : IsToldTo s.desk settling.1 k (Some client.0) kept.sent = subst (λ (o : Option ClientSeen). IsToldTo s.desk settling.1 k o kept.sent) at.2 kept.client in
      let delivered = (told.1).delivered in
      let none : AreLeft 0 (Some client.0) = subst (AreLeft 0) client.1 left in
      clear_of k s ∙ ap is_clear_for client.1 ∙ all_placed is_clear (client.0).seen.sources (λ place source is.
      none_clear (is_clear source) (length source.jobs == 0 && is_empty source.pending) (none source.wid source (find_placed source_key (client.0).seen.sources delivered.distinct place source is)))

  -- ---- a round

  -- once three captures are no more left, nothing waits at the beginning of a round
  abbrev pub Nears : ℕ → Seen B → Type 0
  Nears captures s = captures ≤ 2 → NothingWaits (client_at k s) × AreLeft captures (client_at k s)

  -- so many captures are left in any case
  left_any : (captures : ℕ) (s : Seen B) → Nears captures s → AreLeft captures (client_at k s)
  left_any captures s near = go (cases_lt captures 3)
    where
      go : (captures < 3) ⊎ (3 ≤ captures) → AreLeft captures (client_at k s)
      go (inl low) = (near (omega (arith, low))).1
      go (inr high) = any_two captures (client_at k s) (omega (arith, high))

  module _ (now mid next : Seen B) (captures left now_left : ℕ) (waited : Bool) (near : Nears captures now) (some : captures ≤ 3) (read : IsReadOut known k left now_left now mid)
      (settling : IsSettling known mid) (attached : is_attached_at k mid ≡ true) (drawn : IsDrawn known k waited mid next) (quiet : Bool) (is_quiet : quiet ≡ (now_left == left)) (goes : rests quiet waited (is_clear_at k next) ≡ false) where
    same_client : now_left ≡ left → client_at k mid ≡ client_at k now
    same_client same = ap client_where (read.quiet same)

    -- a quiet round had a capture left
    had_one : now_left ≡ left → quiet ≡ true → 1 ≤ captures
    had_one same is = go (cases_lt captures 1)
      where
        go : (captures < 1) ⊎ (1 ≤ captures) → 1 ≤ captures
        go (inr one) = one
        go (inl none) =
            let no_capture : captures ≡ 0 = omega (arith, none) in
            let first = near (omega (arith, none)) in
            let clear = zero_clear mid settling attached (subst (AreLeft 0) (sym (same_client same)) (subst (λ n. AreLeft n (client_at k now)) no_capture first.1)) in
            let rest = drawn.none clear (subst NothingWaits (sym (same_client same)) first.0) in
            let bad : true ≡ false = sym (rw (is, rest.0, rest.1) refl) ∙ goes in
            absurd (cc bad)

    by_quiet : (b : Bool) → quiet ≡ b → (Nears (captures_after b captures) next) × (captures_after b captures ≤ 3) × (3 * now_left + captures_after b captures < 3 * left + captures)
    by_quiet true is =
        let same : now_left ≡ left = grind (arith, nat_tests, is, is_quiet) in
        let one = had_one same is in (
          λ low. (drawn.empty, drawn.nearer captures (subst (AreLeft captures) (sym (same_client same)) (left_any captures now near))),
          omega (arith, some),
          omega (arith, same, one),
        )
    by_quiet false is =
        let other : now_left ≢ left = λ same. let bad : false ≡ true = sym is ∙ is_quiet ∙ grind (arith, nat_tests, same) in cc bad in
        let fewer = (read.used).fewer in (
          λ low. (drawn.empty, any_two 2 (client_at k next) (omega arith)),
          omega arith,
          omega (arith, other, fewer),
        )

    pub goes_on : (Nears (captures_after quiet captures) next) × (captures_after quiet captures ≤ 3) × (3 * now_left + captures_after quiet captures < 3 * left + captures)
    goes_on = by_quiet quiet refl

pub rests_so : (quiet waited clear : Bool) → rests quiet waited clear ≡ true → (waited ≡ false) × (clear ≡ true)
rests_so false waited clear is = absurd (cc is)
rests_so true true clear is = absurd (cc is)
rests_so true false clear is = (refl, is)

-- ---- how it ends

module _ {B : Type 0} (known : Known B) (keeps : SettlingKeeps B) (came : CauseCame B) (c : Conn) where
  -- it gave as many bytes as it may
  pub floods : (old mid new : Seen B) → IsSettling known old → GoesThrough known (IsOn c.0) old mid → StaysOpen c.0 mid → UsesUp known c.0 4194304 0 old mid → EndsOpen known c E.Flooded mid new → GoesThrough known (IsOn c.0) old new
  floods old mid new settling through opened used ends =
      let was = was_open known c.0 old mid settling through opened in
      closing known keeps came c E.Flooded old mid new was.0 opened.0 was.1 opened.1 through ends (λ n. tt) (λ phase were_opened steady. used_up known c.0 4194304 old mid used) (λ bad. absurd (cc bad))

  module _ (old now mid : Seen B) (settling : IsSettling known old) (before : GoesThrough known (IsOn c.0) old now) (reads : GoesThrough known (IsOn c.0) now mid) (left now_left : ℕ) (read : IsReadOut known c.0 left now_left now mid) where
    settling_now : IsSettling known now
    settling_now = settling_then known keeps (IsOn c.0) old now settling before

    -- it has said nothing
    pub falls_silent : GreetingSaysNothing → is_attached_at c.0 mid ≡ false → (new : Seen B) → EndsOpen known c E.Silent mid new → GoesThrough known (IsOn c.0) old new
    falls_silent greeting alone new ends =
        let was = was_open known c.0 now mid settling_now reads read.opened in
        both known keeps (IsOn c.0) old now new before
        (closing known keeps came c E.Silent now mid new was.0 (read.opened).0 was.1 (read.opened).1 reads ends (λ n. tt)
        (λ phase were_opened steady. (
          read.waited,
          greeting known.tells mid.desk were_opened c.0 (known.connection mid.bay c.0) (read.opened).0 (no_client (read.opened).0 (read.opened).1) (steady.slots c.0 (Open (read.opened).0) (open_slot mid.slots c.0 (read.opened).0 (read.opened).1)),
        ))
        (λ bad. absurd (cc bad)))
      where
        no_client : (q : ConnectionSeen) → open_at mid.slots c.0 ≡ Some q → q.client ≡ None
        no_client q at = go q.client refl
          where
            go : (o : Option ClientSeen) → q.client ≡ o → q.client ≡ None
            go None is = is
            go (Some client) is = let bad : false ≡ true = sym alone ∙ ap is_attached_where at ∙ ap is_some is in absurd (cc bad)

    -- it shows the desktop
    pub settles : RestShows → RestSettles → ClearRests → (next : Seen B) (waited : Bool) → GoesThrough known (IsOn c.0) mid next → IsDrawn known c.0 waited mid next → waited ≡ false → is_clear_at c.0 next ≡ true
        → (new : Seen B) → EndsOpen known c E.Settled next new → GoesThrough known (IsOn c.0) old new
    settles shows rests_so clears next waited draws drawn silent clear new ends =
        let was = was_open known c.0 now mid settling_now reads read.opened in
        let client = a_client in
        let at = client_opened known next c.0 client.0 client.1 in
        let rest : IsAtRest (client.0).seen = clears client.0 (ap is_clear_for (sym client.1) ∙ sym (clear_of c.0 next) ∙ clear) (subst NothingWaits client.1 drawn.empty) in
        let same : known.connection next.bay c.0 ≡ known.connection mid.bay c.0 = (drawn.only).quiet silent in
        both known keeps (IsOn c.0) old now new before
        (closing known keeps came c E.Settled now next new was.0 at.0 was.1 at.1 (both known keeps (IsOn c.0) now mid next reads draws) ends (λ n. tt)
        (λ phase were_opened steady. rests_so known.tells next.desk were_opened c.0 (known.connection now.bay c.0) (known.connection next.bay c.0) at.0 client.0 steady.desktop at.2
        (subst (λ (r : ConnectionRecord). Rose (known.connection now.bay c.0).waits r.waits) (sym same) read.waited) (ap (λ (r : ConnectionRecord). r.unheard) same ∙ read.heard) rest
        (steady.slots c.0 (Open at.0) (open_slot next.slots c.0 at.0 at.1)))
        (λ settled phase were_opened steady. (client.0, at.2, shows known.tells next.desk were_opened c.0 (known.connection next.bay c.0) at.0 client.0 steady.desktop at.2 rest (steady.slots c.0 (Open at.0) (open_slot next.slots c.0 at.0 at.1)))))
      where
        a_client : (client : ClientSeen) × (client_at c.0 next ≡ Some client)
        a_client = go (client_at c.0 next) refl
          where
            go : (o : Option ClientSeen) → client_at c.0 next ≡ o → (client : ClientSeen) × (client_at c.0 next ≡ Some client)
            go None is = let bad : false ≡ true = ap is_clear_for (sym is) ∙ sym (clear_of c.0 next) ∙ clear in absurd (cc bad)
            go (Some client) is = (client, is)
