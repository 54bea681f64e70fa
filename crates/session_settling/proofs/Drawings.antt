-- A window is drawn at once and written.
use Rattle.std.proofs.Common.{◌≡◌, ℕ, Bool, true, false, Option, Some, None, List, [], ◌∷◌, refl, sym, ap, ◌∙◌, subst}
use Rattle.std.specs.Prelude.{slice_get, ◌||◌, Result, Ok, Err, is_ok, is_err}
use Rattle.xp_base.specs.declared.numbers.Conn.{Conn}
use Rattle.window_model.specs.Desktop.{Window}
use Rattle.client_delivery.specs.Attached.{find_source}
use Rattle.connection_table.specs.Tables.{open_at}
use Rattle.connection_ends.specs.declared.end.End.TheVariants as E
use Rattle.attached_client.specs.Client.{ClientSeen}
use Rattle.attached_client.specs.Drawing.{Drawing}
use Rattle.last_draws.specs.DrawnThrough.{IsNearer, IsNearerIn}
use Rattle.open_connection.specs.Connection.{ConnectionSeen}
use Rattle.open_connection.specs.Drawing.{ForItsClient, DrawsAlone}
use Rattle.session_steps.specs.Seen.{Known, Seen}
use Rattle.session_steps.specs.Drawing.{DrawsWhere, DrawsAt}
use Rattle.session_steps.specs.Settling.{drawn_for, EndsWhere, EndsOpen, DrawnAtOnce, SettlingKeeps, CauseCame}
use Rattle.session_settling.specs.Through.{AllMay, GoesThrough, IsOn}
use Rattle.session_settling.specs.Writing.{client_where, client_at, NothingWaits, SourcesStay, OnlyWrites, IsWritten, WritesOut}
use Rattle.session_settling.specs.Drawing.{NearerBy, NearerAt, IsDrawnAt, DrawsOne}
use Rattle.session_settling.proofs.Acts.{stays, closing}
use Rattle.session_settling.proofs.Places.{open_there}
use Rattle.session_settling.proofs.Written.{sources_same, sources_both}

all_drawn : (c : Conn) (drawings : List Drawing) → AllMay (IsOn c.0) (drawn_for c drawings)
all_drawn c [] = tt
all_drawn c (drawing ∷ drawings) = (refl, all_drawn c drawings)

pub only_both : {B : Type 0} (known : Known B) (k : ℕ) (waited more : Bool) (a b c : Seen B) → OnlyWrites known k waited a b → OnlyWrites known k more b c → OnlyWrites known k (waited || more) a c
only_both known k true more a b c one two = record { given = two.given ∙ one.given; quiet = λ bad. absurd (cc bad) }
only_both known k false more a b c one two = record { given = two.given ∙ one.given; quiet = λ none. two.quiet none ∙ one.quiet refl }

-- a source nearer, and then as it is
nearer_then : (window : Window) (a b c : Option ClientSeen) → NearerBy window a b → SourcesStay b c → NearerBy window a c
nearer_then window None None None near same = tt
nearer_then window None None (Some q) near same = absurd same
nearer_then window None (Some p) c near same = absurd near
nearer_then window (Some o) None c near same = absurd near
nearer_then window (Some o) (Some p) None near same = absurd same
nearer_then window (Some o) (Some p) (Some q) near same = (
  subst (λ sources. IsNearerIn (find_source o.seen.sources window.wid) (find_source sources window.wid)) (sym same) near.0,
  λ j apart. ap (λ sources. find_source sources j) same ∙ near.1 j apart,
)

nearer_at : (at : Option Window) (a b c : Option ClientSeen) → NearerAt at a b → SourcesStay b c → NearerAt at a c
nearer_at None a b c near same = sources_both a b c near same
nearer_at (Some window) a b c near same = nearer_then window a b c near same

module _ {B : Type 0} (known : Known B) (c : Conn) where
  -- an end for want of memory, whether the connection is open or not
  pub ends_short : SettlingKeeps B → CauseCame B → (now new : Seen B) → EndsOpen known c E.Short now new → GoesThrough known (IsOn c.0) now new
  ends_short keeps came now new ends = go (open_at now.slots c.0) refl ends
    where
      go : (o : Option ConnectionSeen) → open_at now.slots c.0 ≡ o → EndsWhere known o c E.Short now new → GoesThrough known (IsOn c.0) now new
      go None was same = subst (λ (s : Seen B). GoesThrough known (IsOn c.0) now s) (sym same) (stays known (IsOn c.0) now)
      go (Some q) was ended = closing known keeps came c E.Short now now new q q was was (stays known (IsOn c.0) now) ends (λ n. tt) (λ phase were_opened steady. tt) (λ bad. absurd (cc bad))

  module _ (place : ℕ) (went_well : Bool) (old mid : Seen B) (draws : DrawsAt c place went_well old mid) where
    pub draws_through : DrawnAtOnce B → GoesThrough known (IsOn c.0) old mid
    draws_through at_once began were_opened steady =
        let by = at_once known _ were_opened c place went_well old mid draws steady in
        record { acts = drawn_for c by.drawings; may = all_drawn c by.drawings; by = by.by }

    -- the provider is not asked
    bay_same : mid.bay ≡ old.bay
    bay_same = go (slice_get old.desk place) (open_at old.slots c.0) draws
      where
        go : (o : Option Window) (q : Option ConnectionSeen) → DrawsWhere c o went_well q old mid → mid.bay ≡ old.bay
        go None q same = ap (λ (s : Seen B). s.bay) same
        go (Some window) None same = ap (λ (s : Seen B). s.bay) same
        go (Some window) (Some q) here = ap (λ (s : Seen B). s.bay) here.changed

    for_client : (window : Window) (o o' : Option ClientSeen) → ForItsClient (DrawsAlone window old.clock) o o' → ForItsClient (IsNearer window.wid) o o' → NothingWaits o → NearerBy window o o'
    for_client window None None alone near none = tt
    for_client window None (Some q') alone near none = absurd alone
    for_client window (Some q) None alone near none = absurd alone
    for_client window (Some q) (Some q') alone near none = (near none, alone.1)

    drawn_near : went_well ≡ true → NothingWaits (client_at c.0 old) → NearerAt (slice_get old.desk place) (client_at c.0 old) (client_at c.0 mid)
    drawn_near well none = go (slice_get old.desk place) (open_at old.slots c.0) refl draws
      where
        go : (o : Option Window) (q : Option ConnectionSeen) → open_at old.slots c.0 ≡ q → DrawsWhere c o went_well q old mid → NearerAt o (client_at c.0 old) (client_at c.0 mid)
        go None q was same = sources_same (client_at c.0 old) (client_at c.0 mid) (ap (λ (s : Seen B). client_at c.0 s) same)
        go (Some window) None was same = subst (λ (o : Option ClientSeen). NearerBy window o (client_at c.0 mid)) (sym (ap client_where was))
            (subst (NearerBy window None) (sym (ap (λ (s : Seen B). client_at c.0 s) same ∙ ap client_where was)) tt)
        go (Some window) (Some q) was here =
            let is_now : client_at c.0 mid ≡ (here.after).client = ap (λ (s : Seen B). client_at c.0 s) here.changed ∙ ap client_where (open_there old.slots c.0 q here.after was) in
            subst (λ (o : Option ClientSeen). NearerBy window o (client_at c.0 mid)) (sym (ap client_where was))
            (subst (NearerBy window q.client) (sym is_now)
            (for_client window q.client (here.after).client (here.draws).client (here.nearer well) (subst NothingWaits (ap client_where was) none)))

    pub draws_one : went_well ≡ true → (waited : Bool) (new : Seen B) → IsWritten known c.0 waited mid new → IsDrawnAt known c.0 place waited old new
    draws_one well waited new written = record {
      opened = written.opened;
      empty = written.empty;
      nearer = λ none. nearer_at (slice_get old.desk place) (client_at c.0 old) (client_at c.0 mid) (client_at c.0 new) (drawn_near well none) written.sources;
      only = record {
        given = written.only.given ∙ ap (λ b. (known.connection b c.0).given) bay_same;
        quiet = λ none. written.only.quiet none ∙ ap (λ b. known.connection b c.0) bay_same;
      };
    }

    pub is_drawn_at : went_well ≡ true → (result : Option Bool) (new : Seen B) → WritesOut known c.0 mid result new → DrawsOne known c.0 place old result new
    is_drawn_at well None new written = written
    is_drawn_at well (Some waited) new written = draws_one well waited new written

-- no error
pub well : {T E : Type 0} (r : Result T E) → is_err r ≡ false → is_ok r ≡ true
well (Ok x) is = refl
well (Err e) is = absurd (cc is)
