-- A window that is drawn at once is drawn by acts.
use Rattle.std.proofs.Common.{◌≡◌, ◌≢◌, ℕ, zero, suc, ◌<◌, Bool, Option, Some, None, List, [], ◌∷◌, set, inl, inr, map, refl, sym, ap, ◌∙◌, subst, arith, length, get_or}
use Rattle.std.specs.Prelude.{slice_get, find}
use Rattle.std.proofs.lemmas.Bool.{cases_eq}
use Rattle.std.proofs.lemmas.Bool.Decides.{nat_tests}
use Rattle.std.proofs.lemmas.Option.{slice_get-get_or, slice_get_within}
use Rattle.xp_base.specs.Keyed.{HasDistinctKeys, keyed_find}
use Rattle.xp_base.specs.declared.numbers.Conn.{Conn}
use Rattle.window_model.specs.Desktop.{Window, find_window}
use Rattle.connection_table.specs.Tables.{Slot, Open, opened, open_at}
use Rattle.connection_ends.specs.declared.end.End.{End}
use Rattle.attached_client.specs.Client.{ClientSeen}
use Rattle.attached_client.specs.Drawing.{Drawing}
use Rattle.last_draws.specs.DrawnThrough.{DrawsThrough}
use Rattle.open_connection.specs.Connection.{ConnectionSeen}
use Rattle.open_connection.specs.Drawing.{ForItsClient, DrawsAlone}
use Rattle.open_connection.specs.Laws.{IsToldTo}
use Rattle.session_steps.specs.Seen.{Known, Seen}
use Rattle.session_steps.specs.Slots.{Slots}
use Rattle.session_steps.specs.Reading.{puts}
use Rattle.session_steps.specs.Drawing.{DrawsOn, DrawsHere, DrawsWhere}
use Rattle.session_steps.specs.Settling.{SettlesBy, drawn_for, DrawnByActs, DrawnAtOnce}
use Rattle.session_steps.specs.Steady.{Phase, IsSteady}
use Rattle.session_steps.proofs.Places.{set_same, open_slot}

-- ---- an item at a place is found by its key

pub find_placed : {A : Type 0} (key : A → ℕ) (items : List A) → HasDistinctKeys key items → (place : ℕ) (item : A) → slice_get items place ≡ Some item → keyed_find key items (key item) ≡ Some item
find_placed key [] apart place item is = absurd (cc is)
find_placed key (x ∷ xs) apart zero item is = let same : x ≡ item = cc is in grind (arith, nat_tests, same)
find_placed key (x ∷ xs) apart (suc n) item is =
    let low = slice_get_within xs n item is in
    let there : get_or xs n x ≡ item = cc (sym (slice_get-get_or xs n x low) ∙ is) in
    let other : key x ≢ key item = λ same. apart 0 (suc n) x (omega arith) (omega (arith, low)) (same ∙ ap key (sym there)) in
    let later = find_placed key xs (λ i j d before within. apart (suc i) (suc j) d (omega (arith, before)) (omega (arith, within))) n item is in
    grind (arith, nat_tests, other, later)

-- ---- a place that is set

set_twice : {A : Type 0} (xs : List A) (n : ℕ) (a b : A) → set (set xs n a) n b ≡ set xs n b
set_twice [] n a b = refl
set_twice (x ∷ xs) zero a b = refl
set_twice (x ∷ xs) (suc n) a b = ap (λ ys. x ∷ ys) (set_twice xs n a b)

open_there : (slots : Slots) (k : ℕ) (c c' : ConnectionSeen) → open_at slots k ≡ Some c → open_at (set slots k (Open c')) k ≡ Some c'
open_there [] k c c' is = absurd (cc is)
open_there (s ∷ slots) zero c c' is = refl
open_there (s ∷ slots) (suc k) c c' is = open_there slots k c c' is

module _ {B : Type 0} (known : Known B) (phase : Phase) (c : Conn) where
  abbrev with_client : ConnectionSeen → ClientSeen → ConnectionSeen
  with_client connection client = record connection { client = Some client }

  -- each drawing is an act
  drawn_by : (drawings : List Drawing) (old : Seen B) (connection : ConnectionSeen) (client after : ClientSeen) → open_at old.slots c.0 ≡ Some connection → connection.client ≡ Some client
      → DrawsThrough old.desk old.clock drawings client after → SettlesBy known phase (drawn_for c drawings) old (puts c (Open (with_client connection after)) old old.bay)
  drawn_by [] old connection client after opened attached same =
      ap (λ (ss : Slots). record old { slots = ss })
      (ap (λ (q : ClientSeen). set old.slots c.0 (Open (with_client connection q))) same
      ∙ ap (λ (o : Option ClientSeen). set old.slots c.0 (Open (record connection { client = o }))) (sym attached)
      ∙ set_same old.slots c.0 (Open connection) (open_slot old.slots c.0 connection opened))
  drawn_by (drawing ∷ drawings) old connection client after opened attached draws =
      let next = puts c (Open (with_client connection draws.0)) old old.bay in (
        next,
        record { connection = connection; client = client; after = draws.0; opened = opened; attached = attached; draws = draws.1; changed = refl },
        subst (λ (ss : Slots). SettlesBy known phase (drawn_for c drawings) next (record old { slots = ss })) (set_twice old.slots c.0 (Open (with_client connection draws.0)) (Open (with_client connection after)))
            (drawn_by drawings next (with_client connection draws.0) draws.0 after (open_there old.slots c.0 connection (with_client connection draws.0) opened) refl draws.2),
      )

  module _ (were_opened : ℕ → Bool) (old new : Seen B) (steady : IsSteady known phase were_opened old) where
    nothing : new ≡ old → DrawnByActs known phase c old new
    nothing same = record { drawings = []; by = same }

    for_client : (window : Window) (connection after : ConnectionSeen) (client client' : Option ClientSeen) → find_window old.desk window.wid ≡ Some window → open_at old.slots c.0 ≡ Some connection → connection.client ≡ client → after.client ≡ client'
        → after.framing ≡ connection.framing → ForItsClient (DrawsAlone window old.clock) client client' → new ≡ puts c (Open after) old old.bay → DrawnByActs known phase c old new
    for_client window connection after None None found opened was is framing draws changed =
        let same : after ≡ connection = ap (λ f. record { framing = f; client = after.client }) framing ∙ ap (λ (o : Option ClientSeen). record { framing = connection.framing; client = o }) (is ∙ sym was) in
        nothing (changed ∙ ap (λ (ss : Slots). record old { slots = ss }) (ap (λ (q : ConnectionSeen). set old.slots c.0 (Open q)) same ∙ set_same old.slots c.0 (Open connection) (open_slot old.slots c.0 connection opened)))
    for_client window connection after None (Some b) found opened was is framing draws changed = absurd draws
    for_client window connection after (Some a) None found opened was is framing draws changed = absurd draws
    for_client window connection after (Some a) (Some b) found opened was is framing draws changed =
        let kept = steady.slots c.0 (Open connection) (open_slot old.slots c.0 connection opened) in
        let told : IsToldTo old.desk were_opened c.0 (Some a) kept.sent = subst (λ (o : Option ClientSeen). IsToldTo old.desk were_opened c.0 o kept.sent) was kept.client in
        let by = draws.0 old.desk were_opened kept.sent found told.1 in
        let same : after ≡ with_client connection b = ap (λ f. record { framing = f; client = after.client }) framing ∙ ap (λ (o : Option ClientSeen). record { framing = connection.framing; client = o }) is in
        record {
          drawings = by.0;
          by = subst (SettlesBy known phase (drawn_for c by.0) old) (sym (changed ∙ ap (λ (q : ConnectionSeen). puts c (Open q) old old.bay) same))
              (drawn_by by.0 old connection a b opened was by.1);
        }

    where_it_is : (place : ℕ) (went_well : Bool) (o : Option Window) (q : Option ConnectionSeen) → slice_get old.desk place ≡ o → open_at old.slots c.0 ≡ q → DrawsWhere c o went_well q old new → DrawnByActs known phase c old new
    where_it_is place went_well None q at opened draws = nothing draws
    where_it_is place went_well (Some window) None at opened draws = nothing draws
    where_it_is place went_well (Some window) (Some connection) at opened draws =
        for_client window connection draws.after connection.client (draws.after).client (find_placed (λ (w : Window). w.wid) old.desk steady.desktop.distinct place window at) opened refl refl
        (draws.draws).framing (draws.draws).client draws.changed

pub drawn_at_once : {B : Type 0} → DrawnAtOnce B
drawn_at_once known phase were_opened c place went_well old new draws steady = where_it_is known phase c were_opened old new steady place went_well (slice_get old.desk place) (open_at old.slots c.0) refl refl draws
