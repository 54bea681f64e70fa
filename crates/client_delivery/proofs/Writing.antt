-- Bytes of the first packet that waits are written.
use Rattle.std.proofs.Common.{◌≡◌, ◌≢◌, ◌⊎◌, inl, inr, ℕ, ◌+◌, ◌-◌, ◌<◌, ◌≤◌, zero, suc, Bool, true, false, List, [], ◌∷◌, ◌++◌, Option, Some, None, map, length, take, drop, cond, eqb, refl, sym, ap, ◌∙◌, subst, arith, get_or, ltb, ◌*◌, ◌&&◌}
use Rattle.std.specs.Prelude.{ℤ}
use Rattle.std.specs.Option.{option_map}
use Rattle.std.specs.List.{AllByRecursion}
use Rattle.std.proofs.lemmas.Bool.{cases_lt, cond-true, cond-false, eqb-true}
use Rattle.std.proofs.lemmas.Bool.Decides.{nat_tests}
use Rattle.std.proofs.lemmas.List.{append_assoc, append-nil, take-append-drop, length-drop, take_all}
use Rattle.std.proofs.Math.Seq.{take-add}
use Rattle.xp_base.specs.Points.{Rectangle, is_in, is_within, survives}
use Rattle.window_model.specs.Desktop.{Window, IsDesktop, find_window, fresh_window, resized_window}
use Rattle.delivery_model.specs.Grids.{Grid, shown_at, number, number_in}
use Rattle.delivery_model.specs.Window.{Packet, NewWindow, WindowResized, Draws, Window as Delivery}
use Rattle.delivery_model.specs.Client.{applied, size_of, shown}
use Rattle.delivery_model.specs.Events.{Write}
use Rattle.delivery_model.specs.Kept.{IsKept}
use Rattle.delivery_model.specs.Laws.{EventsKeepTheForm, GridNumbers}
use Rattle.packet_kinds.specs.declared.to_client.ToClient.{ToClient}
use Rattle.packet_kinds.specs.declared.to_client.ToClient.TheVariants as T
use Rattle.packet_kinds.specs.Effects.{effect, effect_on}
use Rattle.packet_kinds.specs.Laws.{MessageFollows, OneWindowChanges}
use Rattle.packet_kinds.specs.Written.{Show}
use Rattle.client_outbox.specs.Outgoing.{Outgoing, IsBegun}
use Rattle.client_outbox.specs.Sending.{rest_of, moved_on, advanced}
use Rattle.window_source.specs.Source.{SourceSeen, window_of}
use Rattle.window_source.specs.Waiting.{Queued, Waiting, IsDraw, Carries, draws_as, says_to, waits_on, client_limit, lossy_shows}
use Rattle.client_delivery.specs.Attached.{AttachedSeen, find_source, grid_of}
use Rattle.client_delivery.specs.Delivered.{messages_of, packets_of, front_bytes, concerns, loses, delivery, IsLaidOut, IsOnItsWay, IsDelivered, IsTold}
use Rattle.client_delivery.specs.Steps.{writes}
use Rattle.client_delivery.specs.Keeping.{WriteKeeps}
use Rattle.client_delivery.proofs.Layouts.{laid_first}
use Rattle.client_delivery.proofs.Grids.{some_same, pixels_grid, place_below, number_at_is, resized_numbers}
use Rattle.std.specs.Prelude.{slice_get}
use Rattle.std.proofs.lemmas.Option.{slice_get-get_or, slice_get-map}
use Rattle.std.proofs.lemmas.List.{length-map}
use Rattle.xp_base.specs.Points.{area}
use Rattle.xp_base.specs.Grid.{place_of, number_at}
use Rattle.window_model.specs.Desktop.{placed_window}
use Rattle.window_model.specs.Drawing.{blank, placed, resized as resized_pixels}
use Rattle.window_model.specs.Laws.{BlankShows, PlacedShows, ResizedShows, DrawnSizes}
use Rattle.delivery_model.specs.Grids.{Points, each_point}
use Rattle.client_outbox.specs.declared.draw.Draw.{Draw}
use Rattle.client_delivery.specs.Delivered.{IsSized}
use Rattle.client_delivery.proofs.Parts.{own, some_there}
use Rattle.client_delivery.proofs.Filing.{window_number}
use Rattle.client_delivery.proofs.Queues.{all_append}
use Rattle.client_delivery.specs.Delivered.{effects}
use Rattle.client_delivery.specs.Keeping.{ToldLaysOut}
use Rattle.client_outbox.specs.Outgoing.{all_bytes, unwritten}
use Rattle.packet_kinds.specs.Effects.{holds_pixels}
use Rattle.packet_kinds.specs.Laws.{MessageHasBytes}
use Rattle.window_model.specs.Desktop.{has_window, changed_window, without_window}
use Rattle.xp_base.specs.Keyed.{keyed_push_some}
use Rattle.std.specs.Prelude.{not}
use Rattle.std.specs.Option.{option_and_then}
use Rattle.std.proofs.lemmas.List.{drop-append-le}
use Rattle.std.proofs.Math.Seq.{take-nil}
use Rattle.window_model.specs.Desktop.{moved_window}
use Rattle.rgb_encoders.specs.Decoded.{decoded}
use Rattle.rect_regions.specs.PointSets.{has as has_point}
use Rattle.delivery_model.specs.Grids.{points}
use Rattle.xp_base.specs.declared.coding.Coding.{Coding}

-- a part more of the first packet was taken, and not all
part_way : (o : Outgoing (List Rectangle)) (sent : List ℕ) (windows : List Window) (ws : List Waiting) (n : ℕ) (p : Queued) (packets : List Queued) → o.packets ≡ p ∷ packets → o.taken + n < length p.bytes
    → IsOnItsWay o sent windows ws → IsOnItsWay (record o { taken = o.taken + n }) (sent ++ take n (rest_of o.packets o.taken)) windows ws
part_way o sent windows ws n p packets are short way = record {
  done = way.done;
  sent_is = ap (λ (bs : List ℕ). bs ++ take n (rest_of o.packets o.taken)) way.sent_is
      ∙ append_assoc way.done (take o.taken (front_bytes o.packets)) (take n (rest_of o.packets o.taken))
      ∙ ap (λ (bs : List ℕ). way.done ++ bs) (ap (λ (ps : List Queued). take o.taken (front_bytes ps) ++ take n (rest_of ps o.taken)) are ∙ sym (take-add o.taken n p.bytes) ∙ ap (λ (ps : List Queued). take (o.taken + n) (front_bytes ps)) (sym are));
  show = way.show;
  sized = way.sized;
  packets = way.packets;
  carried = way.carried;
  begun = subst (λ (ps : List Queued). IsBegun ps (o.taken + n)) (sym are) short;
}

-- what a window of the model shows at each point
abbrev pub LooksLike : Option Grid → Option Grid → Type 0
LooksLike now was = (size_of now ≡ size_of was) × ((x y : ℕ) → shown_at now x y ≡ shown_at was x y)

looks_alike : (s : SourceSeen) (pixels : List ℕ) (client client' : Option Grid) (packets : List Packet) → LooksLike client' client → IsKept (window_of s pixels client packets) → IsKept (window_of s pixels client' packets)
looks_alike s pixels client client' packets looks kept = record {
  sized = rw looks.0 kept.sized;
  jobs = kept.jobs;
  packets = kept.packets;
  pending = kept.pending;
  lossy = kept.lossy;
  points = λ x y within. rw (looks.0, looks.1 x y) (kept.points x y within);
}

abbrev pub SizedWhere : Option Window → Type 0
SizedWhere None = Unit {0}
SizedWhere (Some c) = IsSized c

-- two grids of one size with the same numbers in it look alike
same_numbers : (wide high : ℕ) (one two : List ℕ) → ((x y : ℕ) → is_within wide high x y ≡ true → number (pixels_grid wide high one) x y ≡ number (pixels_grid wide high two) x y)
    → LooksLike (Some (pixels_grid wide high one)) (Some (pixels_grid wide high two))
same_numbers wide high one two same = (refl, λ x y. go x y (is_within wide high x y) refl)
  where
    go : (x y : ℕ) (b : Bool) → is_within wide high x y ≡ b → cond (is_within wide high x y) (Some (number (pixels_grid wide high one) x y)) None ≡ cond (is_within wide high x y) (Some (number (pixels_grid wide high two) x y)) None
    go x y true is = ap (λ n. cond (is_within wide high x y) (Some n) None) (same x y is)
    go x y false is = rw is refl

-- the laws of windows and of the model that a written packet stands on
pub record Laws : Type 0 where
  pub form : EventsKeepTheForm
  pub numbers : GridNumbers
  pub blank : BlankShows
  pub placed : PlacedShows
  pub resized : ResizedShows
  pub sizes : DrawnSizes

number_in_is : (r : Rectangle) (numbers : List ℕ) (x y : ℕ) → number_in r numbers x y ≡ get_or numbers (place_of r.w (x - r.x) (y - r.y)) 0
unfolding number_in
number_in_is r numbers x y = refl

-- a packet of the model is written
module _ (laws : Laws) where
  written_kept : (s : SourceSeen) (pixels : List ℕ) (client : Option Grid) (p : Packet) (packets : List Packet) → IsKept (window_of s pixels client (p ∷ packets)) → IsKept (window_of s pixels (applied lossy_shows client p) packets)
  written_kept s pixels client p packets kept = form lossy_shows (Some (window_of s pixels client (p ∷ packets))) (Write true) tt kept
    where
      form : EventsKeepTheForm
      form = laws.form

  -- a window that was announced is black
  fresh_looks : (wid : ℕ) (a b : ℤ) (w h : ℕ) → LooksLike (Some (grid_of (fresh_window wid a b w h))) (applied lossy_shows None (NewWindow w h))
  fresh_looks wid a b w h = same_numbers w h (blank w h) (each_point w h (λ x y. 0)) (λ x y within.
      some_same _ _ (sym (number_at_is w h (blank w h) x y (laws.sizes.fresh w h) within) ∙ laws.blank w h x y within) ∙ sym (laws.numbers w h (λ x y. 0) x y within))

  resized_looks : (c : Window) (w h : ℕ) → IsSized c → LooksLike (Some (grid_of (resized_window w h c))) (applied lossy_shows (Some (grid_of c)) (WindowResized w h))
  resized_looks c w h sized = same_numbers w h (resized_pixels c.w c.h w h c.pixels) _ (λ x y within.
      resized_numbers laws.resized laws.numbers c.w c.h w h c.pixels x y sized (laws.sizes.resizing c.w c.h w h c.pixels) within
      ∙ laws.numbers w h (λ i j. cond (is_within c.w c.h i j) (number (grid_of c) i j) 0) x y within
      ∙ ap (λ t. cond t (number (grid_of c) x y) 0) (sym (inside (is_within c.w c.h x y) (is_within w h x y) within))
      ∙ sym (laws.numbers w h (λ i j. cond (survives c.w c.h w h i j) (number (grid_of c) i j) 0) x y within))
    where
      inside : (a b : Bool) → b ≡ true → (a && b) ≡ a
      inside true b is = is
      inside false b is = refl

  drawn_looks : (c : Window) (d : Draw) (relief : Points) (shown_pixels pixels : List ℕ) → IsSized c → length pixels ≡ area d.rect → shown_pixels ≡ map (shown lossy_shows d.coding) pixels
      → LooksLike (Some (grid_of (placed_window d.rect shown_pixels c))) (applied lossy_shows (Some (grid_of c)) (Draws (record { sequence = d.sequence; capture = record { rect = d.rect; coding = d.coding; pixels = pixels }; relief = relief })))
  drawn_looks c d relief shown_pixels pixels sized full shows = same_numbers c.w c.h (placed c.w d.rect shown_pixels c.pixels) _ (λ x y within.
      some_same _ _ (sym (number_at_is c.w c.h (placed c.w d.rect shown_pixels c.pixels) x y (laws.sizes.placing c.w d.rect shown_pixels c.pixels ∙ sized) within)
      ∙ laws.placed c.w c.h d.rect shown_pixels c.pixels x y sized (ap length shows ∙ length-map pixels (shown lossy_shows d.coding) ∙ full) within
      ∙ go x y within (is_in d.rect x y) refl)
      ∙ sym (laws.numbers c.w c.h (after) x y within))
    where
      after : ℕ → ℕ → ℕ
      after x y = cond (is_in d.rect x y) (shown lossy_shows d.coding (number_in d.rect pixels x y)) (number (grid_of c) x y)

      drawn : (x y : ℕ) → is_in d.rect x y ≡ true → number_at d.rect.w d.rect.h shown_pixels (x - d.rect.x) (y - d.rect.y) ≡ Some (shown lossy_shows d.coding (number_in d.rect pixels x y))
      drawn x y in_rect =
          let inside : is_within d.rect.w d.rect.h (x - d.rect.x) (y - d.rect.y) ≡ true = grind (arith, nat_tests, in_rect) in
          let place = place_of d.rect.w (x - d.rect.x) (y - d.rect.y) in
          let low = place_below d.rect.w d.rect.h (x - d.rect.x) (y - d.rect.y) inside in
          cond-true (is_within d.rect.w d.rect.h (x - d.rect.x) (y - d.rect.y)) (slice_get shown_pixels place) None inside
          ∙ ap (λ (ns : List ℕ). slice_get ns place) shows ∙ slice_get-map (shown lossy_shows d.coding) pixels place
          ∙ ap (option_map (shown lossy_shows d.coding)) (slice_get-get_or pixels place 0 (omega (arith, low, full)))
          ∙ ap (λ n. Some (shown lossy_shows d.coding n)) (sym (number_in_is d.rect pixels x y))

      go : (x y : ℕ) → is_within c.w c.h x y ≡ true → (b : Bool) → is_in d.rect x y ≡ b
          → cond (is_in d.rect x y) (number_at d.rect.w d.rect.h shown_pixels (x - d.rect.x) (y - d.rect.y)) (number_at c.w c.h c.pixels x y) ≡ Some (after x y)
      go x y within true is = cond-true (is_in d.rect x y) _ _ is ∙ drawn x y is ∙ ap (λ n. Some n) (sym (cond-true (is_in d.rect x y) _ (number (grid_of c) x y) is))
      go x y within false is = cond-false (is_in d.rect x y) _ _ is ∙ number_at_is c.w c.h c.pixels x y sized within ∙ ap (λ n. Some n) (sym (cond-false (is_in d.rect x y) (shown lossy_shows d.coding (number_in d.rect pixels x y)) _ is))

  -- the first packet was written, and the client's window is what it makes of it
  one_written : (k : ℕ) (s : SourceSeen) (pixels : List ℕ) (client : Option Window) (w : Waiting) (m : ToClient) (rest : List Packet) → SizedWhere client → IsDraw w.packet.wid w.packet.draw w.pixels m → loses k m ≡ false
      → IsKept (window_of s pixels (option_map grid_of client) (says_to s.wide s.high k w m ++ rest)) → IsKept (window_of s pixels (option_map grid_of (effect_on k client m)) rest)
  one_written k s pixels None w (T.Hello caps) rest sized is stays kept = kept
  one_written k s pixels (Some c) w (T.Hello caps) rest sized is stays kept = kept
  one_written k s pixels None w (T.NewWindow wid x y w' h') rest sized is stays kept = go (eqb k wid) kept
    where
      go : (b : Bool) → IsKept (window_of s pixels None (cond b (NewWindow w' h' ∷ []) [] ++ rest)) → IsKept (window_of s pixels (option_map grid_of (cond b (Some (fresh_window wid x y w' h')) None)) rest)
      go true kept = looks_alike s pixels _ (Some (grid_of (fresh_window wid x y w' h'))) rest (fresh_looks wid x y w' h') (written_kept s pixels None (NewWindow w' h') rest kept)
      go false kept = kept
  one_written k s pixels (Some c) w (T.NewWindow wid x y w' h') rest sized is stays kept = go (eqb k wid) kept
    where
      go : (b : Bool) → IsKept (window_of s pixels (Some (grid_of c)) (cond b (NewWindow w' h' ∷ []) [] ++ rest)) → IsKept (window_of s pixels (Some (grid_of c)) rest)
      go true kept = written_kept s pixels (Some (grid_of c)) (NewWindow w' h') rest kept
      go false kept = kept
  one_written k s pixels None w (T.LostWindow wid) rest sized is stays kept = kept
  one_written k s pixels (Some c) w (T.LostWindow wid) rest sized is stays kept = rw stays kept
  one_written k s pixels None w (T.WindowResized wid w' h') rest sized is stays kept = go (eqb k wid) kept
    where
      go : (b : Bool) → IsKept (window_of s pixels None (cond b (WindowResized w' h' ∷ []) [] ++ rest)) → IsKept (window_of s pixels None rest)
      go true kept = written_kept s pixels None (WindowResized w' h') rest kept
      go false kept = kept
  one_written k s pixels (Some c) w (T.WindowResized wid w' h') rest sized is stays kept = go (eqb k wid) kept
    where
      go : (b : Bool) → IsKept (window_of s pixels (Some (grid_of c)) (cond b (WindowResized w' h' ∷ []) [] ++ rest)) → IsKept (window_of s pixels (Some (grid_of (cond b (resized_window w' h' c) c))) rest)
      go true kept = looks_alike s pixels _ (Some (grid_of (resized_window w' h' c))) rest (resized_looks c w' h' sized) (written_kept s pixels (Some (grid_of c)) (WindowResized w' h') rest kept)
      go false kept = kept
  one_written k s pixels None w (T.WindowMoveResize wid x y w' h') rest sized is stays kept = kept
  one_written k s pixels (Some c) w (T.WindowMoveResize wid x y w' h') rest sized is stays kept = go (eqb k wid)
    where
      go : (b : Bool) → IsKept (window_of s pixels (Some (grid_of (cond b (moved_window x y c) c))) rest)
      go true = kept
      go false = kept
  one_written k s pixels None w (T.RaiseWindow wid) rest sized is stays kept = kept
  one_written k s pixels (Some c) w (T.RaiseWindow wid) rest sized is stays kept = kept
  one_written k s pixels client w (T.Draw wid x y w' h' coding bytes sequence stride) rest sized is stays kept = go client w.packet.wid w.packet.draw sized is kept
    where
      m : ToClient
      m = T.Draw wid x y w' h' coding bytes sequence stride

      drawn : (b : Bool) (d : Draw) (c : Window) → IsSized c → d.rect ≡ record { x = x; y = y; w = w'; h = h' } → d.coding ≡ coding → length w.pixels ≡ area d.rect
          → decoded coding w' h' stride bytes ≡ map (shown lossy_shows coding) w.pixels
          → IsKept (window_of s pixels (Some (grid_of c)) (cond b (draws_as s.wide s.high (Some d) w) [] ++ rest))
          → IsKept (window_of s pixels (Some (grid_of (cond b (placed_window (record { x = x; y = y; w = w'; h = h' }) (decoded coding w' h' stride bytes) c) c))) rest)
      drawn true d c sized rect code full shows kept =
          looks_alike s pixels _ _ rest
          (subst (λ (r : Rectangle). LooksLike (Some (grid_of (placed_window r (decoded coding w' h' stride bytes) c))) (applied lossy_shows (Some (grid_of c)) (draw_of d))) rect
          (drawn_looks c d (points s.wide s.high (has_point w.packet.relief)) (decoded coding w' h' stride bytes) w.pixels sized full (shows ∙ ap (λ (e : Coding). map (shown lossy_shows e) w.pixels) (sym code))))
          (written_kept s pixels (Some (grid_of c)) (draw_of d) rest kept)
        where
          draw_of : Draw → Packet
          draw_of d = Draws (record { sequence = d.sequence; capture = record { rect = d.rect; coding = d.coding; pixels = w.pixels }; relief = points s.wide s.high (has_point w.packet.relief) })
      drawn false d c sized rect code full shows kept = kept

      none_drawn : (b : Bool) (d : Draw) → IsKept (window_of s pixels None (cond b (draws_as s.wide s.high (Some d) w) [] ++ rest)) → IsKept (window_of s pixels None rest)
      none_drawn true d kept = written_kept s pixels None _ rest kept
      none_drawn false d kept = kept

      go : (client : Option Window) (o : Option ℕ) (d : Option Draw) → SizedWhere client → IsDraw o d w.pixels m
          → IsKept (window_of s pixels (option_map grid_of client) (cond (eqb k wid) (draws_as s.wide s.high d w) [] ++ rest)) → IsKept (window_of s pixels (option_map grid_of (effect_on k client m)) rest)
      go client None None sized is kept = absurd is
      go client None (Some d) sized is kept = absurd is
      go client (Some j) None sized is kept = absurd is
      go None (Some j) (Some d) sized is kept = none_drawn (eqb k wid) d kept
      go (Some c) (Some j) (Some d) sized is kept = drawn (eqb k wid) d c sized is.1 is.2 is.4 is.6 kept
  one_written k s pixels None w (T.PingEcho t) rest sized is stays kept = kept
  one_written k s pixels (Some c) w (T.PingEcho t) rest sized is stays kept = kept
  one_written k s pixels None w (T.Disconnect reason) rest sized is stays kept = kept
  one_written k s pixels (Some c) w (T.Disconnect reason) rest sized is stays kept = kept
  one_written k s pixels None w T.Other rest sized is stays kept = kept
  one_written k s pixels (Some c) w T.Other rest sized is stays kept = kept

-- each message keeps windows with as many pixels as their sizes say
sized_opened : (xs ys : List Window) → AllByRecursion IsSized xs → AllByRecursion IsSized ys → AllByRecursion IsSized (xs ++ ys)
sized_opened = all_append IsSized

sized_changed : (f : Window → Window) → ((w : Window) → IsSized w → IsSized (f w)) → (xs : List Window) (k : ℕ) → AllByRecursion IsSized xs → AllByRecursion IsSized (changed_window xs k f)
sized_changed f keeps [] k all = tt
sized_changed f keeps (x ∷ xs) k all = (go (eqb x.wid k), sized_changed f keeps xs k all.1)
  where
    go : (b : Bool) → IsSized (cond b (f x) x)
    go true = keeps x all.0
    go false = all.0

sized_without : (xs : List Window) (k : ℕ) → AllByRecursion IsSized xs → AllByRecursion IsSized (without_window xs k)
sized_without [] k all = tt
sized_without (x ∷ xs) k all = go (eqb x.wid k) (sized_without xs k all.1)
  where
    go : (b : Bool) → AllByRecursion IsSized (without_window xs k) → AllByRecursion IsSized (cond (not b) (x ∷ without_window xs k) (without_window xs k))
    go true later = later
    go false later = (all.0, later)

pub sized_found : (xs : List Window) (k : ℕ) → AllByRecursion IsSized xs → SizedWhere (find_window xs k)
sized_found [] k all = tt
sized_found (x ∷ xs) k all = go (eqb x.wid k) (sized_found xs k all.1)
  where
    go : (b : Bool) → SizedWhere (find_window xs k) → SizedWhere (cond b (Some x) (find_window xs k))
    go true later = all.0
    go false later = later

sized_pushed : (xs : List Window) (o : Option Window) → AllByRecursion IsSized xs → SizedWhere o → AllByRecursion IsSized (keyed_push_some xs o)
sized_pushed xs None all one = all
sized_pushed xs (Some x) all one = sized_opened xs (x ∷ []) all (one, tt)

module _ (sizes : DrawnSizes) where
  effect_sized : (windows after : List Window) (m : ToClient) → AllByRecursion IsSized windows → effect windows m ≡ Some after → AllByRecursion IsSized after
  effect_sized windows after (T.Hello caps) all is = subst (AllByRecursion IsSized) (some_same _ _ is) all
  effect_sized windows after (T.NewWindow wid x y w h) all is = subst (AllByRecursion IsSized) (some_same _ _ is) (go (has_window windows wid))
    where
      go : (b : Bool) → AllByRecursion IsSized (cond b windows (windows ++ fresh_window wid x y w h ∷ []))
      go true = all
      go false = sized_opened windows (fresh_window wid x y w h ∷ []) all (sizes.fresh w h, tt)
  effect_sized windows after (T.LostWindow wid) all is = subst (AllByRecursion IsSized) (some_same _ _ is) (sized_without windows wid all)
  effect_sized windows after (T.WindowResized wid w h) all is =
      subst (AllByRecursion IsSized) (some_same _ _ is) (sized_changed (resized_window w h) (λ c sized. sizes.resizing c.w c.h w h c.pixels) windows wid all)
  effect_sized windows after (T.WindowMoveResize wid x y w h) all is = subst (AllByRecursion IsSized) (some_same _ _ is) (sized_changed (moved_window x y) (λ c sized. sized) windows wid all)
  effect_sized windows after (T.RaiseWindow wid) all is =
      subst (AllByRecursion IsSized) (some_same _ _ is) (sized_pushed (without_window windows wid) (find_window windows wid) (sized_without windows wid all) (sized_found windows wid all))
  effect_sized windows after (T.Draw wid x y w h coding bytes sequence stride) all is = go (holds_pixels coding w h stride bytes) is
    where
      drawn : List Window
      drawn = changed_window windows wid (placed_window (record { x = x; y = y; w = w; h = h }) (decoded coding w h stride bytes))

      go : (b : Bool) → cond b (Some drawn) None ≡ Some after → AllByRecursion IsSized after
      go true is = subst (AllByRecursion IsSized) (some_same _ _ is) (sized_changed _ (λ c sized. sizes.placing c.w (record { x = x; y = y; w = w; h = h }) (decoded coding w h stride bytes) c.pixels ∙ sized) windows wid all)
      go false is = absurd (cc is)
  effect_sized windows after (T.PingEcho t) all is = subst (AllByRecursion IsSized) (some_same _ _ is) all
  effect_sized windows after (T.Disconnect reason) all is = subst (AllByRecursion IsSized) (some_same _ _ is) all
  effect_sized windows after T.Other all is = subst (AllByRecursion IsSized) (some_same _ _ is) all

-- a window that is not there is not there still, where the message is not on it
still_absent : (k : ℕ) (o : Option Window) (m : ToClient) → o ≡ None → concerns k m ≡ false → effect_on k o m ≡ None
still_absent k None (T.Hello caps) none other = refl
still_absent k None (T.NewWindow wid x y w h) none other = cond-false (eqb k wid) _ None other
still_absent k None (T.LostWindow wid) none other = refl
still_absent k None (T.WindowResized wid w h) none other = refl
still_absent k None (T.WindowMoveResize wid x y w h) none other = refl
still_absent k None (T.RaiseWindow wid) none other = refl
still_absent k None (T.Draw wid x y w h coding bytes sequence stride) none other = refl
still_absent k None (T.PingEcho t) none other = refl
still_absent k None (T.Disconnect reason) none other = refl
still_absent k None T.Other none other = refl
still_absent k (Some c) m none other = absurd (cc none)

module _ (laws : Laws) (follows : MessageFollows) (one : OneWindowChanges) (some : MessageHasBytes) where
  begun_first : (ws : List Waiting) → AllByRecursion Carries ws → IsBegun (packets_of ws) 0
  begun_first [] carried = refl
  begun_first (w ∷ ws) carried = let long = some client_limit w.packet.bytes w.message carried.0.message in omega (arith, long)

  -- the first packet was written whole
  whole_written : (desk : List Window) (were_opened : ℕ → Bool) (a : AttachedSeen) (sent : List ℕ) (n : ℕ) (w : Waiting) (ws : List Waiting) (windows : List Window) → a.out.taken + n ≡ length w.packet.bytes
      → IsOnItsWay a.out sent windows (w ∷ ws) → IsDelivered desk were_opened a.sources windows (w ∷ ws)
      → IsTold desk were_opened (record a { out = record { packets = packets_of ws; taken = 0 } }) (sent ++ take n (rest_of a.out.packets a.out.taken))
  whole_written desk were_opened a sent n w ws windows all way d = record {
    windows = next;
    waiting = ws;
    bytes = record {
      done = way.done ++ w.packet.bytes;
      sent_is = ap (λ (bs : List ℕ). bs ++ take n (rest_of a.out.packets a.out.taken)) way.sent_is
          ∙ append_assoc way.done (take a.out.taken (front_bytes a.out.packets)) (take n (rest_of a.out.packets a.out.taken))
          ∙ ap (λ (bs : List ℕ). way.done ++ bs) (ap (λ (ps : List Queued). take a.out.taken (front_bytes ps) ++ take n (rest_of ps a.out.taken)) (sym way.packets)
          ∙ sym (take-add a.out.taken n w.packet.bytes) ∙ ap (λ k. take k w.packet.bytes) all ∙ take_all (length w.packet.bytes) w.packet.bytes (omega arith))
          ∙ sym (append-nil (way.done ++ w.packet.bytes));
      show = follows client_limit way.done w.packet.bytes w.message windows next way.show way.carried.0.message first.1;
      sized = effect_sized laws.sizes windows next w.message way.sized first.1;
      packets = refl;
      carried = way.carried.1;
      begun = begun_first ws way.carried.1;
    };
    delivered = record {
      laid = first.2;
      distinct = d.distinct;
      sized = d.sized;
      kept = λ j window s there found. subst (λ (o : Option Window). IsKept (window_of s window.pixels (option_map grid_of o) (waits_on s.wide s.high window.wid ws))) (sym (one windows next w.message window.wid first.1))
          (one_written laws window.wid s window.pixels (find_window windows window.wid) w w.message (waits_on s.wide s.high window.wid ws) (sized_found windows window.wid way.sized) way.carried.0.draw
          (d.stays window.wid (own_there j window there)).0 (d.kept j window s there found));
      lies = λ j s found. (d.lies j s found).1;
      absent = λ j none. let was = d.absent j none in (one windows next w.message j first.1 ∙ still_absent j (find_window windows j) w.message was.0 was.1.0, was.1.1);
      begun = d.begun;
      stays = λ j there. (d.stays j there).1;
    };
  }
    where
      first : (next : List Window) × (effect windows w.message ≡ Some next) × IsLaidOut desk next (messages_of ws)
      first = laid_first desk windows w.message (messages_of ws) d.laid

      next : List Window
      next = first.0

      own_there : (j : ℕ) (window : Window) → find_window desk j ≡ Some window → has_window desk window.wid ≡ true
      own_there j window there = some_there (find_window desk window.wid) window (ap (find_window desk) (window_number desk j window there) ∙ there)

  pub write_keeps : WriteKeeps
  write_keeps desk were_opened n a sent low desktop told = go told.waiting told.bytes told.delivered
    where
      go : (ws : List Waiting) → IsOnItsWay a.out sent told.windows ws → IsDelivered desk were_opened a.sources told.windows ws
          → IsTold desk were_opened (writes n a) (sent ++ take n (rest_of a.out.packets a.out.taken))
      go [] way d = subst (λ (ps : List Queued). IsTold desk were_opened (record a { out = moved_on ps a.out.taken n }) (sent ++ take n (rest_of ps a.out.taken))) way.packets
          (subst (λ (bs : List ℕ). IsTold desk were_opened (record a { out = record { packets = []; taken = a.out.taken } }) bs) (sym (ap (λ (bs : List ℕ). sent ++ bs) (take-nil n) ∙ append-nil sent))
          (subst (λ (ps : List Queued). IsTold desk were_opened (record a { out = record { packets = ps; taken = a.out.taken } }) sent) (sym way.packets) (record { windows = told.windows; waiting = []; bytes = way; delivered = d })))
      go (w ∷ ws) way d = elim (cases_lt (a.out.taken + n) (length w.packet.bytes)) [
        | inl short ↦
            subst (λ (o : Outgoing (List Rectangle)). IsTold desk were_opened (record a { out = o }) (sent ++ take n (rest_of a.out.packets a.out.taken))) (sym (moved_short short))
            (record { windows = told.windows; waiting = w ∷ ws; bytes = part_way a.out sent told.windows (w ∷ ws) n w.packet (packets_of ws) (sym way.packets) short way; delivered = d })
        | inr past ↦
            subst (λ (o : Outgoing (List Rectangle)). IsTold desk were_opened (record a { out = o }) (sent ++ take n (rest_of a.out.packets a.out.taken))) (sym (moved_past past))
            (whole_written desk were_opened a sent n w ws told.windows (all past) way d)
      ]
        where
          moved_short : a.out.taken + n < length w.packet.bytes → advanced a.out n ≡ record a.out { taken = a.out.taken + n }
          moved_short short =
              ap (λ (ps : List Queued). moved_on ps a.out.taken n) (sym way.packets)
              ∙ cond-true (ltb (a.out.taken + n) (length w.packet.bytes)) _ _ (grind (arith, nat_tests, short))
              ∙ ap (λ (ps : List Queued). let o : Outgoing (List Rectangle) = record { packets = ps; taken = a.out.taken + n } in o) way.packets

          moved_past : length w.packet.bytes ≤ a.out.taken + n → advanced a.out n ≡ record { packets = packets_of ws; taken = 0 }
          moved_past past =
              ap (λ (ps : List Queued). moved_on ps a.out.taken n) (sym way.packets)
              ∙ cond-false (ltb (a.out.taken + n) (length w.packet.bytes)) _ _ (grind (arith, nat_tests, past))

          all : length w.packet.bytes ≤ a.out.taken + n → a.out.taken + n ≡ length w.packet.bytes
          all past =
              let rest : rest_of a.out.packets a.out.taken ≡ drop a.out.taken w.packet.bytes = ap (λ (ps : List Queued). rest_of ps a.out.taken) (sym way.packets) in
              let size = ap length rest ∙ length-drop a.out.taken w.packet.bytes in
              let begun : a.out.taken < length w.packet.bytes = subst (λ (ps : List Queued). IsBegun ps a.out.taken) (sym way.packets) way.begun in
              omega (arith, size, begun, past, low)

-- once all that waits is sent
module _ (follows : MessageFollows) where
  shown_all : (ws : List Waiting) (done : List ℕ) (windows after : List Window) → AllByRecursion Carries ws → Show client_limit done windows → effects (messages_of ws) windows ≡ Some after
      → Show client_limit (done ++ all_bytes (packets_of ws)) after
  shown_all [] done windows after carried show is = subst (λ (bs : List ℕ). Show client_limit bs after) (sym (append-nil done)) (subst (Show client_limit done) (some_same _ _ is) show)
  shown_all (w ∷ ws) done windows after carried show is = go (effect windows w.message) refl is (λ next shows e. shown_all ws (done ++ w.packet.bytes) next after carried.1 shows e)
    where
      go : (o : Option (List Window)) → effect windows w.message ≡ o → option_and_then (effects (messages_of ws)) o ≡ Some after
          → ((next : List Window) → Show client_limit (done ++ w.packet.bytes) next → effects (messages_of ws) next ≡ Some after → Show client_limit ((done ++ w.packet.bytes) ++ all_bytes (packets_of ws)) after)
          → Show client_limit (done ++ all_bytes (packets_of (w ∷ ws))) after
      go None e is later = absurd (cc is)
      go (Some next) e is later =
          subst (λ (bs : List ℕ). Show client_limit bs after) (append_assoc done w.packet.bytes (all_bytes (packets_of ws)))
          (later next (follows client_limit done w.packet.bytes w.message windows next show carried.0.message e) is)

  pub told_lays_out : ToldLaysOut
  told_lays_out desk were_opened a sent told = (
    told.delivered.laid.after,
    subst (λ (bs : List ℕ). Show client_limit bs told.delivered.laid.after) (sym bytes) (shown_all told.waiting told.bytes.done told.windows told.delivered.laid.after told.bytes.carried told.bytes.show told.delivered.laid.shown),
    told.delivered.laid.laid,
  )
    where
      rest : (packets : List Queued) → IsBegun packets a.out.taken → take a.out.taken (front_bytes packets) ++ drop a.out.taken (all_bytes packets) ≡ all_bytes packets
      rest [] begun = ap (λ n. take n [] ++ drop n []) begun
      rest (p ∷ packets) begun =
          ap (λ (bs : List ℕ). take a.out.taken p.bytes ++ bs) (drop-append-le a.out.taken p.bytes (all_bytes packets) (omega (arith, begun)))
          ∙ sym (append_assoc (take a.out.taken p.bytes) (drop a.out.taken p.bytes) (all_bytes packets))
          ∙ ap (λ (bs : List ℕ). bs ++ all_bytes packets) (take-append-drop a.out.taken p.bytes)

      bytes : sent ++ unwritten a.out ≡ told.bytes.done ++ all_bytes (packets_of told.waiting)
      bytes =
          ap (λ (bs : List ℕ). bs ++ unwritten a.out) told.bytes.sent_is
          ∙ append_assoc told.bytes.done (take a.out.taken (front_bytes a.out.packets)) (unwritten a.out)
          ∙ ap (λ (bs : List ℕ). told.bytes.done ++ bs) (rest a.out.packets told.bytes.begun ∙ ap all_bytes (sym told.bytes.packets))
