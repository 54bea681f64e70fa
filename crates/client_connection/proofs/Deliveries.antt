-- What becomes of one window of one client keeps the form that gives "shown unless owed".
use Rattle.std.proofs.Common.{◌≡◌, ◌⊎◌, inl, inr, ℕ, ◌-◌, ◌*◌, ◌/◌, ◌<◌, Bool, true, false, ◌&&◌, ◌||◌, ℤ, List, [], ◌∷◌, ◌++◌, Option, Some, None, length, map, get_or, cond, eqb, refl, sym, ap, ◌∙◌, subst, arith}
use Rattle.std.specs.Option.{option_map}
use Rattle.std.proofs.lemmas.Bool.{cases_Bool, eq-eqb}
use Rattle.std.proofs.lemmas.Bool.Decides.{nat_tests}
use Rattle.std.proofs.lemmas.List.Elements.{All-nil, All-cons, All-push}
use Rattle.xp_base.specs.declared.coding.Coding.TheVariants.{Exact}
use Rattle.xp_base.specs.Points.{Rectangle, is_in, is_within, whole}
use Rattle.xp_base.specs.Grid.{place_of}
use Rattle.window_model.specs.Desktop.{Window, filled_window, fresh_window}
use Rattle.window_model.specs.Drawing.{place_within}
use Rattle.window_model.proofs.Points.{place_below, is_place_in-at, place_parts}
use Rattle.window_model.proofs.Drawings.{get_or-filled, get_or-placed, get_or-blank}
use Rattle.delivery_model.specs.Grids.{points, has, Grid, grid, number, number_in, shown_at}
use Rattle.delivery_model.specs.Window.{Packet as Waiting, NewWindow, Draws, Draw as Drawn}
use Rattle.delivery_model.specs.Client.{shown, applied, size_of}
use Rattle.delivery_model.specs.Events.{started}
use Rattle.delivery_model.specs.Point.{Drawing, DrawsThere, job_mark, draw_at, packets_at, PointKept}
use Rattle.delivery_model.specs.Kept.{DrawFits, PacketFits, IsKept}
use Rattle.delivery_model.proofs.Grids.{has-points_within, has-inside, number-grid}
use Rattle.delivery_model.proofs.MarkSteps.{AllGood}
use Rattle.delivery_model.proofs.PointSteps.{kept_damaged, kept_captured, kept_queued}
use Rattle.delivery_model.proofs.Lists.{sizes_after-append, packets_at-append}
use Rattle.delivery_model.proofs.WindowSteps.{keeps_started, keeps_written}
use Rattle.rgb_encoders.specs.Decoded.{decoded}
use Rattle.rgb_encoders.specs.PixelBytes.{coded_bytes}
use Rattle.packet_kinds.specs.declared.to_client.ToClient.{ToClient}
use Rattle.packet_kinds.specs.declared.to_client.ToClient.TheVariants as T
use Rattle.packet_kinds.specs.Effects.{effect_on, drawn_window}
use Rattle.client_connection.specs.PointSets.{PointSet, IsPointSet, has as has_point, whole_set, with_rectangle}
use Rattle.client_connection.specs.declared.packet.Draw.{Draw}
use Rattle.client_connection.specs.declared.source.Source.{Source}
use Rattle.client_connection.specs.Told.{IsDrawOf, IsOfFirstPath}
use Rattle.client_connection.specs.Delivery.{lossy_shows, grid_of, points_of, waits_as, delivery}
use Rattle.client_connection.proofs.Alike.{IsAlike, kept_alike}
use Rattle.client_connection.proofs.Marked.{has_marked, has_all}

-- a set of a source, as the model has it
pub has_as : (p : PointSet) (x y : ℕ) → has (points_of p) x y ≡ has_point p x y
unfolding has
has_as p x y = refl

pub number_as : (window : Window) (x y : ℕ) → number (grid_of window) x y ≡ get_or window.pixels (place_of window.w x y) 0
unfolding number
number_as window x y = refl

-- a window that was just announced
pub delivery_started : (window : Window) (s : Source) → s.pending ≡ whole_set window.w window.h true → IsKept (delivery window None (NewWindow window.w window.h ∷ []) s)
delivery_started window s all = kept_alike (started (grid_of window) 0) _ alike (keeps_started (grid_of window) 0)
  where
    marked : (x y : ℕ) → is_within window.w window.h x y ≡ true → has (points_of s.pending) x y ≡ has (points window.w window.h (λ x y. true)) x y
    marked x y within = has_as s.pending x y ∙ ap (λ p. has_point p x y) all ∙ has_all window.w window.h true x y ∙ grind (arith, nat_tests, within)
        ∙ sym (has-points_within window.w window.h (λ x y. true) x y within)

    alike : IsAlike (started (grid_of window) 0) (delivery window None (NewWindow window.w window.h ∷ []) s)
    alike = record {
      wide = refl;
      high = refl;
      sizes = refl;
      jobs = All-nil _;
      packets = All-cons (PacketFits window.w window.h) (NewWindow window.w window.h) [] (tt {0}) (All-nil (PacketFits window.w window.h));
      pending = record { wide = ap (λ p. p.w) all; high = ap (λ p. p.h) all };
      lossy = record { wide = refl; high = refl };
      points = λ x y within. rw (marked x y within) refl;
    }

with_sizes : (r : Rectangle) (p : PointSet) → ((with_rectangle r p).w ≡ p.w) × ((with_rectangle r p).h ≡ p.h)
unfolding with_rectangle
with_sizes r p = (refl, refl)

-- a rectangle of it was filled, and is pending
pub delivery_filled : (window : Window) (client : Option Window) (waiting : List Waiting) (s : Source) (r : Rectangle) (colour : ℕ) → length window.pixels ≡ window.w * window.h → IsPointSet s.pending
    → IsKept (delivery window client waiting s) → IsKept (delivery (filled_window r colour window) client waiting (record s { pending = with_rectangle r s.pending }))
delivery_filled window client waiting s r colour sized set kept = record {
  sized = kept.sized;
  jobs = All-nil _;
  packets = kept.packets;
  pending = record { wide = (with_sizes r s.pending).0 ∙ wide; high = (with_sizes r s.pending).1 ∙ high };
  lossy = kept.lossy;
  points = λ x y within. kept_damaged (number (grid_of window) x y) _ _ _ _ (has (points_of s.pending) x y) _ _ (which x y within (cases_Bool (is_in r x y))) (kept.points x y within);
}
  where
    now : ℕ → ℕ → Bool
    now x y = has (points_of (with_rectangle r s.pending)) x y

    wide : s.pending.w ≡ window.w
    wide = kept.pending.wide

    high : s.pending.h ≡ window.h
    high = kept.pending.high

    or_in : (a b c : Bool) → a ≡ true → ((a && b) || c) ≡ (b || c)
    or_in a b c is = ap (λ d. (d && b) || c) is

    now_is : (x y : ℕ) → is_within window.w window.h x y ≡ true → now x y ≡ (is_in r x y || has (points_of s.pending) x y)
    now_is x y within =
        let there : is_within s.pending.w s.pending.h x y ≡ true = ap (λ w. is_within w s.pending.h x y) wide ∙ ap (λ h. is_within window.w h x y) high ∙ within in
        has_as (with_rectangle r s.pending) x y ∙ has_marked r s.pending x y set ∙ or_in _ (is_in r x y) (has_point s.pending x y) there
        ∙ ap (λ b. is_in r x y || b) (sym (has_as s.pending x y))

    which : (x y : ℕ) → is_within window.w window.h x y ≡ true → (is_in r x y ≡ true) ⊎ (is_in r x y ≡ false)
        → (now x y ≡ true) ⊎ ((now x y ≡ has (points_of s.pending) x y) × (number (grid_of (filled_window r colour window)) x y ≡ number (grid_of window) x y))
    which x y within (inl is) = inl (rw (now_is x y within, is) refl)
    which x y within (inr isnt) = inr (
      rw (now_is x y within, isnt) refl,
      number_as (filled_window r colour window) x y
          ∙ get_or-filled window.w r colour window.pixels (place_of window.w x y) (subst (λ n. place_of window.w x y < n) (sym sized) (place_below window.w window.h x y within))
          ∙ ap (λ b. cond b colour (get_or window.pixels (place_of window.w x y) 0)) (is_place_in-at window.w window.h r x y within ∙ isnt) ∙ sym (number_as window x y),
    )

-- each point of a window is in the whole of it
in_whole : (w h x y : ℕ) → is_within w h x y ≡ true → is_in (whole w h) x y ≡ true
in_whole w h x y within = grind (arith, nat_tests, within)

-- the draw of a whole window has the window's number at each point
whole_number : (w h : ℕ) (numbers : List ℕ) (x y : ℕ) → number_in (whole w h) numbers x y ≡ get_or numbers (place_of w x y) 0
unfolding number_in
whole_number w h numbers x y = let left : x - 0 ≡ x = omega arith in let top : y - 0 ≡ y = omega arith in rw (left, top) refl

or_false : (b : Bool) → (b || false) ≡ b
or_false true = refl
or_false false = refl

-- the exact draw of a whole window
abbrev pub whole_draw : Window → Source → Drawn
whole_draw window s = record {
  sequence = s.next_sequence;
  capture = record { rect = whole window.w window.h; coding = Exact; pixels = decoded Exact window.w window.h (window.w * 4) (coded_bytes Exact window.pixels) };
  relief = points_of s.pending;
}

-- the window was captured whole, and its draw waits
pub delivery_captured : (window : Window) (client : Option Window) (waiting : List Waiting) (s s' : Source) → decoded Exact window.w window.h (window.w * 4) (coded_bytes Exact window.pixels) ≡ window.pixels
    → s'.pending ≡ whole_set window.w window.h false
    → IsKept (delivery window client waiting s) → IsKept (delivery window client (waiting ++ Draws (whole_draw window s) ∷ []) s')
delivery_captured window client waiting s s' shows none kept = record {
  sized = rw sizes_after-append kept.sized;
  jobs = All-nil _;
  packets = All-push (PacketFits window.w window.h) waiting (Draws (whole_draw window s)) kept.packets fits;
  pending = record { wide = ap (λ p. p.w) none; high = ap (λ p. p.h) none };
  lossy = kept.lossy;
  points = λ x y within. rw (packets_at-append, kept.sized, within, gone x y, drawn x y within, not_lossy x y within)
      (subst (λ b. PointKept (record { number = number (grid_of window) x y; shows = shown_at (option_map grid_of client) x y; waiting = packets_at (size_of (option_map grid_of client)) waiting x y ++ DrawsThere true (record (job x y) { relieves = b }) ∷ []; jobs = []; pending = false; lossy = false }))
      (or_false (has (points_of s.pending) x y))
      (kept_queued (number (grid_of window) x y) (shown_at (option_map grid_of client) x y) _ (job x y) [] false false (λ there. refl)
      (kept_captured _ _ _ [] (job x y ∷ []) (has (points_of s.pending) x y) false (good x y) (λ is. rw is refl)
      (subst (λ b. PointKept (record { number = number (grid_of window) x y; shows = shown_at (option_map grid_of client) x y; waiting = packets_at (size_of (option_map grid_of client)) waiting x y; jobs = []; pending = has (points_of s.pending) x y; lossy = b }))
      (not_lossy x y within) (kept.points x y within)))));
}
  where
    fits : DrawFits window.w window.h (whole_draw window s)
    fits = record { over = kept.pending; inside = λ x y there. in_whole window.w window.h x y (subst (λ n. is_within n window.h x y ≡ true) kept.pending.wide (subst (λ n. is_within s.pending.w n x y ≡ true) kept.pending.high (has-inside (points_of s.pending) x y there))) }

    gone : (x y : ℕ) → has (points_of s'.pending) x y ≡ false
    gone x y = has_as s'.pending x y ∙ ap (λ p. has_point p x y) none ∙ has_all window.w window.h false x y ∙ grind (arith, nat_tests)

    not_lossy : (x y : ℕ) → is_within window.w window.h x y ≡ true → has (points window.w window.h (λ x y. false)) x y ≡ false
    not_lossy x y within = has-points_within window.w window.h (λ x y. false) x y within

    job : ℕ → ℕ → Drawing
    job x y = record { covers = true; number = number (grid_of window) x y; coding = Exact; relieves = has (points_of s.pending) x y }

    drawn : (x y : ℕ) → is_within window.w window.h x y ≡ true → draw_at (whole_draw window s) x y ≡ job x y
    drawn x y within = rw (
      in_whole window.w window.h x y within,
      shows,
      whole_number window.w window.h window.pixels x y,
      ← number_as window x y,
    ) refl

    good : (x y : ℕ) → AllGood (map (job_mark (number (grid_of window) x y)) (job x y ∷ []))
    good x y = (record { leaves = λ u is. eq-eqb _ _ refl; relieves = λ is u. eq-eqb _ _ refl }, tt)

-- at a point, what the client's window shows
abbrev pub LooksLike : Option Grid → Option Grid → Type 0
LooksLike now was = (size_of now ≡ size_of was) × ((x y : ℕ) → shown_at now x y ≡ shown_at was x y)

-- the client's window looks the same
looks_alike : (window : Window) (client client' : Option Grid) (waiting : List Waiting) (s : Source) → LooksLike client' client
    → IsKept (record (delivery window None waiting s) { client = client }) → IsKept (record (delivery window None waiting s) { client = client' })
looks_alike window client client' waiting s looks kept = record {
  sized = rw looks.0 kept.sized;
  jobs = All-nil _;
  packets = kept.packets;
  pending = kept.pending;
  lossy = kept.lossy;
  points = λ x y within. rw (looks.0, looks.1 x y) (kept.points x y within);
}

abbrev pub IsSized : Option Window → Type 0
IsSized None = Unit {0}
IsSized (Some window) = length window.pixels ≡ window.w * window.h

-- a window that a client was just told of is black
fresh_looks : (wid : ℕ) (x y : ℤ) (w h : ℕ) → LooksLike (Some (grid_of (fresh_window wid x y w h))) (Some (grid w h (λ x y. 0)))
fresh_looks wid a b w h = (
  refl,
  λ x y. elim (cases_Bool (is_within w h x y)) [
    | inl within ↦ ap (λ n. cond (is_within w h x y) (Some n) None) (black x y within)
    | inr outside ↦ rw outside refl
  ],
)
  where
    black : (x y : ℕ) → is_within w h x y ≡ true → number (grid_of (fresh_window wid a b w h)) x y ≡ number (grid w h (λ x y. 0)) x y
    black x y within = number_as (fresh_window wid a b w h) x y ∙ get_or-blank w h (place_of w x y) (place_below w h x y within) ∙ sym (number-grid w h (λ x y. 0) x y within)

number_in_as : (r : Rectangle) (numbers : List ℕ) (x y : ℕ) → number_in r numbers x y ≡ get_or numbers (place_of r.w (x - r.x) (y - r.y)) 0
unfolding number_in
number_in_as r numbers x y = refl

-- a draw changes what the client's window shows in its rectangle
drawn_looks : (window : Window) (d : Drawn) → d.capture.coding ≡ Exact → length window.pixels ≡ window.w * window.h
    → LooksLike (Some (grid_of (drawn_window d.capture.rect d.capture.pixels window))) (applied lossy_shows (Some (grid_of window)) (Draws d))
drawn_looks window d exact sized = (
  refl,
  λ x y. elim (cases_Bool (is_within window.w window.h x y)) [
    | inl within ↦ ap (λ n. cond (is_within window.w window.h x y) (Some n) None) (shows x y within)
    | inr outside ↦ rw outside refl
  ],
)
  where
    r : Rectangle
    r = d.capture.rect

    drawn : ℕ → ℕ → ℕ
    drawn x y = number_in r d.capture.pixels x y

    after : ℕ → ℕ → ℕ
    after x y = cond (is_in r x y) (shown lossy_shows d.capture.coding (drawn x y)) (number (grid_of window) x y)

    shows : (x y : ℕ) → is_within window.w window.h x y ≡ true → number (grid_of (drawn_window r d.capture.pixels window)) x y ≡ number (grid window.w window.h after) x y
    shows x y within =
        let k = place_of window.w x y in
        let parts = place_parts window.w window.h x y within in
        let there : get_or d.capture.pixels (place_within window.w r k) 0 ≡ drawn x y =
        ap (λ n. get_or d.capture.pixels (place_of r.w (n - r.x) (k / window.w - r.y)) 0) parts.0 ∙ ap (λ n. get_or d.capture.pixels (place_of r.w (x - r.x) (n - r.y)) 0) parts.1
        ∙ sym (number_in_as r d.capture.pixels x y) in
        number_as (drawn_window r d.capture.pixels window) x y
        ∙ get_or-placed window.w r d.capture.pixels window.pixels k (subst (λ n. k < n) (sym sized) (place_below window.w window.h x y within))
        ∙ ap (λ b. cond b (get_or d.capture.pixels (place_within window.w r k) 0) (get_or window.pixels k 0)) (is_place_in-at window.w window.h r x y within)
        ∙ ap (λ n. cond (is_in r x y) n (get_or window.pixels k 0)) there
        ∙ ap (λ n. cond (is_in r x y) (drawn x y) n) (sym (number_as window x y))
        ∙ ap (λ c. cond (is_in r x y) (shown lossy_shows c (drawn x y)) (number (grid_of window) x y)) (sym exact)
        ∙ sym (number-grid window.w window.h after x y within)

abbrev Kept : Window → Option Grid → List Waiting → Source → Type 0
Kept window client waiting s = IsKept (record (delivery window None waiting s) { client = client })

-- the window was announced, or another one was
written_announced : (k wid : ℕ) (x y : ℤ) (w h : ℕ) (window : Window) (client : Option Window) (waiting : List Waiting) (s : Source) → (eqb k wid ≡ true) ⊎ (eqb k wid ≡ false)
    → Kept window (option_map grid_of client) (cond (eqb k wid) (NewWindow w h ∷ []) [] ++ waiting) s → Kept window (option_map grid_of (effect_on k client (T.NewWindow wid x y w h))) waiting s
written_announced k wid x y w h window (Some c) waiting s (inl same) kept = keeps_written lossy_shows true _ (rw same at kept)
written_announced k wid x y w h window (Some c) waiting s (inr other) kept = rw other at kept
written_announced k wid x y w h window None waiting s (inl same) kept =
    rw same (looks_alike window (Some (grid w h (λ x y. 0))) _ waiting s (fresh_looks wid x y w h) (keeps_written lossy_shows true _ (rw same at kept)))
written_announced k wid x y w h window None waiting s (inr other) kept = rw other (rw other at kept)

-- a draw of the window was written, or one of another
written_drawn : (k wid : ℕ) (d : Drawn) (window : Window) (client : Option Window) (waiting : List Waiting) (s : Source) → d.capture.coding ≡ Exact → IsSized client → (eqb k wid ≡ true) ⊎ (eqb k wid ≡ false)
    → Kept window (option_map grid_of client) (cond (eqb k wid) (Draws d ∷ []) [] ++ waiting) s
    → Kept window (option_map grid_of (option_map (λ c. cond (eqb k wid) (drawn_window d.capture.rect d.capture.pixels c) c) client)) waiting s
written_drawn k wid d window None waiting s exact sized (inl same) kept = keeps_written lossy_shows true _ (rw same at kept)
written_drawn k wid d window None waiting s exact sized (inr other) kept = rw other at kept
written_drawn k wid d window (Some c) waiting s exact sized (inl same) kept =
    rw same (looks_alike window _ _ waiting s (drawn_looks c d exact sized) (keeps_written lossy_shows true _ (rw same at kept)))
written_drawn k wid d window (Some c) waiting s exact sized (inr other) kept = rw other (rw other at kept)

-- the first packet was written, and the client's window is what it makes of it
pub delivery_written : (k : ℕ) (window : Window) (client : Option Window) (draw : Option Draw) (m : ToClient) (waiting : List Waiting) (s : Source) → IsSized client → IsDrawOf draw m → IsOfFirstPath m
    → IsKept (delivery window client (waits_as k draw m ++ waiting) s) → IsKept (delivery window (effect_on k client m) waiting s)
delivery_written k window None draw (T.Hello caps) waiting s sized is first kept = kept
delivery_written k window (Some c) draw (T.Hello caps) waiting s sized is first kept = kept
delivery_written k window client draw (T.NewWindow wid x y w h) waiting s sized is first kept = written_announced k wid x y w h window client waiting s (cases_Bool (eqb k wid)) kept
delivery_written k window client draw (T.LostWindow wid) waiting s sized is first kept = absurd first
delivery_written k window client draw (T.WindowResized wid w h) waiting s sized is first kept = absurd first
delivery_written k window client draw (T.WindowMoveResize wid x y w h) waiting s sized is first kept = absurd first
delivery_written k window client draw (T.RaiseWindow wid) waiting s sized is first kept = absurd first
delivery_written k window client None (T.Draw wid x y w h coding bytes sequence stride) waiting s sized is first kept = absurd is
delivery_written k window None (Some d) (T.Draw wid x y w h coding bytes sequence stride) waiting s sized is first kept = written_drawn k wid _ window None waiting s first sized (cases_Bool (eqb k wid)) kept
delivery_written k window (Some c) (Some d) (T.Draw wid x y w h coding bytes sequence stride) waiting s sized is first kept = written_drawn k wid _ window (Some c) waiting s first sized (cases_Bool (eqb k wid)) kept
delivery_written k window client draw (T.PingEcho t) waiting s sized is first kept = absurd first
delivery_written k window client draw (T.Disconnect reason) waiting s sized is first kept = absurd first
delivery_written k window client draw T.Other waiting s sized is first kept = absurd first
