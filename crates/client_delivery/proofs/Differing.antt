-- Each differing pixel is owed.
use Rattle.std.proofs.Common.{◌≡◌, ◌≢◌, ℕ, ◌<◌, ◌*◌, Bool, true, false, ◌&&◌, ◌||◌, List, [], ◌∷◌, ◌++◌, Option, Some, None, length, take, drop, cond, eqb, refl, sym, ap, ◌∙◌, subst, arith}
use Rattle.std.specs.Prelude.{All, is_some}
use Rattle.std.specs.Option.{option_map, option_and_then}
use Rattle.std.specs.List.{AllByRecursion}
use Rattle.std.proofs.lemmas.Bool.{cond-true, cond-false}
use Rattle.std.proofs.lemmas.List.{append-nil, length-drop, take-append-drop}
use Rattle.std.proofs.Math.Seq.{take-nil}
use Rattle.xp_base.specs.Points.{Rectangle, is_within}
use Rattle.xp_base.specs.Grid.{number_at}
use Rattle.xp_base.specs.KeyedLaws.{KeyedFinds}
use Rattle.rect_regions.specs.PointSets.{has as has_point}
use Rattle.window_model.specs.Desktop.{Window, IsDesktop, find_window, has_window}
use Rattle.delivery_model.specs.Grids.{has, shown_at, number}
use Rattle.delivery_model.specs.Events.{jobs_relieve}
use Rattle.delivery_model.specs.Owed.{is_owed}
use Rattle.delivery_model.specs.Kept.{IsKept}
use Rattle.delivery_model.specs.Laws.{FormGivesInvariant, PointsHave}
use Rattle.packet_kinds.specs.Picture.{Picture, picture}
use Rattle.packet_kinds.specs.Laws.{PartShowsNothing}
use Rattle.client_outbox.specs.Outgoing.{Outgoing, IsBegun}
use Rattle.client_outbox.specs.Reliefs.{relieve}
use Rattle.window_source.specs.Source.{SourceSeen}
use Rattle.window_source.specs.Waiting.{Queued, Waiting, Carries, client_limit, waits_on}
use Rattle.client_delivery.specs.Attached.{AttachedSeen, source_key, find_source, grid_of}
use Rattle.client_delivery.specs.Delivered.{packets_of, front_bytes, delivery, AreOfOneSize, IsSized, IsOnItsWay, IsTold}
use Rattle.client_delivery.specs.Owed.{source_owes, owes_in, owes, shows, number_on, Differs, OwesWhatDiffers}
use Rattle.client_delivery.specs.Keeping.{ToldShowsOpened}
use Rattle.client_delivery.specs.Owing.{ToldOwesWhatDiffers}
use Rattle.client_delivery.proofs.Grids.{some_same, pixels_grid, number_at_is}
use Rattle.client_delivery.proofs.Parts.{found_window}
use Rattle.client_delivery.proofs.Filing.{window_number}
use Rattle.client_delivery.proofs.Relieves.{relieves_same}
use Rattle.client_delivery.proofs.Writing.{SizedWhere, sized_found}

-- the bytes sent show the windows that are kept
pub shows_told : PartShowsNothing → (o : Outgoing (List Rectangle)) (sent : List ℕ) (windows : List Window) (ws : List Waiting) → IsOnItsWay o sent windows ws → shows sent ≡ windows
shows_told part o sent windows ws way = ap (λ (p : Picture). p.windows) (ap (picture client_limit) way.sent_is ∙ go ws way.carried (ap (λ (ps : List Queued). take o.taken (front_bytes ps)) (sym way.packets)) (subst (λ (ps : List Queued). IsBegun ps o.taken) (sym way.packets) way.begun))
  where
    go : (vs : List Waiting) → AllByRecursion Carries vs → take o.taken (front_bytes o.packets) ≡ take o.taken (front_bytes (packets_of vs)) → IsBegun (packets_of vs) o.taken
        → picture client_limit (way.done ++ take o.taken (front_bytes o.packets)) ≡ record { windows = windows; fault = None }
    go [] carried front begun = ap (λ (bs : List ℕ). picture client_limit (way.done ++ bs)) (front ∙ take-nil o.taken) ∙ ap (picture client_limit) (append-nil way.done) ∙ way.show.shown
    go (v ∷ vs) carried front begun =
        let some : drop o.taken v.packet.bytes ≢ [] = λ none. absurd (let size = ap length none in let long = length-drop o.taken v.packet.bytes in omega (arith, begun, size, long)) in
        ap (λ (bs : List ℕ). picture client_limit (way.done ++ bs)) front
        ∙ part client_limit way.done v.packet.bytes (take o.taken v.packet.bytes) (drop o.taken v.packet.bytes) v.message windows way.show carried.0.message (sym (take-append-drop o.taken v.packet.bytes)) some

-- the client shows no window that no line so far has opened
pub shows_opened : PartShowsNothing → ToldShowsOpened
shows_opened part desk were_opened a sent k told unopened =
    ap (λ (windows : List Window). has_window windows k) (shows_told part a.out sent told.windows told.waiting told.bytes)
    ∙ ap is_some (told.delivered.absent k unopened).0

-- what is owed of a source's window is what the model says
pub owed_same : PointsHave → (window : Window) (windows : List Window) (s : SourceSeen) (ws : List Waiting) (packets : List Queued) (x y : ℕ) → s.wid ≡ window.wid → packets_of ws ≡ packets → AllByRecursion Carries ws
    → is_within s.wide s.high x y ≡ true → is_owed (delivery window windows ws s) x y ≡ ((has s.pending x y || jobs_relieve s.jobs x y) || (relieve has_point s.wid packets x y || has s.lossy x y))
owed_same have window windows s ws packets x y number same carried within =
    ap (λ b. (has s.pending x y || jobs_relieve s.jobs x y) || (b || has s.lossy x y))
    (relieves_same have s.wide s.high window.wid x y within ws carried ∙ ap (λ (ps : List Queued). relieve has_point window.wid ps x y) same ∙ ap (λ k. relieve has_point k packets x y) (sym number))

module _ (finds : KeyedFinds SourceSeen) (form : FormGivesInvariant) (have : PointsHave) (part : PartShowsNothing) where
  -- a point that is not owed shows the desktop's number
  unowed_shown : (desk : List Window) (were_opened : ℕ → Bool) (a : AttachedSeen) (sent : List ℕ) → IsDesktop desk → IsTold desk were_opened a sent → (k x y n : ℕ) → number_on desk k x y ≡ Some n → owes a k x y ≡ false
      → number_on (shows sent) k x y ≡ Some n
  unowed_shown desk were_opened a sent desktop told k x y n is free =
      ap (λ (ws : List Window). number_on ws k x y) (shows_told part a.out sent told.windows told.waiting told.bytes)
      ∙ window (find_window desk k) refl (find_source a.sources k) refl (told.delivered.sized k)
    where
      window : (o : Option Window) → find_window desk k ≡ o → (s : Option SourceSeen) → find_source a.sources k ≡ s → AreOfOneSize o s → number_on told.windows k x y ≡ Some n
      window None there s found size = absurd (let e = sym (ap (option_and_then (λ (w : Window). number_at w.w w.h w.pixels x y)) there) ∙ is in cc e)
      window (Some w) there None found size = absurd size
      window (Some w) there (Some s) found size = inside (is_within w.w w.h x y) refl
        where
          here : number_at w.w w.h w.pixels x y ≡ Some n
          here = sym (ap (option_and_then (λ (u : Window). number_at u.w u.h u.pixels x y)) there) ∙ is

          full : length w.pixels ≡ w.w * w.h
          full = (found_window desk k w desktop.windows there).sized

          client : (o : Option Window) → find_window told.windows w.wid ≡ o → SizedWhere o → shown_at (option_map grid_of o) x y ≡ Some n → number_on told.windows w.wid x y ≡ Some n
          client None at sized shown = absurd (cc shown)
          client (Some c) at sized shown = ap (option_and_then (λ (u : Window). number_at u.w u.h u.pixels x y)) at ∙ point (is_within c.w c.h x y) refl
            where
              point : (b : Bool) → is_within c.w c.h x y ≡ b → number_at c.w c.h c.pixels x y ≡ Some n
              point true within = number_at_is c.w c.h c.pixels x y sized within ∙ sym (cond-true (is_within c.w c.h x y) (Some (number (grid_of c) x y)) None within) ∙ shown
              point false within = absurd (let e = sym (cond-false (is_within c.w c.h x y) (Some (number (grid_of c) x y)) None within) ∙ shown in cc e)

          number_wide : (v v' : ℕ) → v ≡ v' → number (pixels_grid v s.high w.pixels) x y ≡ number (pixels_grid v' w.h w.pixels) x y
          number_wide v v' same = ap (λ u. number (pixels_grid u s.high w.pixels) x y) same ∙ ap (λ h. number (pixels_grid v' h w.pixels) x y) size.1

          inside : (b : Bool) → is_within w.w w.h x y ≡ b → number_on told.windows k x y ≡ Some n
          inside false outside = absurd (let e = sym (cond-false (is_within w.w w.h x y) _ None outside) ∙ here in cc e)
          inside true within =
              let in_source : is_within s.wide s.high x y ≡ true = ap (λ v. is_within v s.high x y) size.0 ∙ ap (λ h. is_within w.w h x y) size.1 ∙ within in
              let number_is : w.wid ≡ k = window_number desk k w there in
              let source_is : s.wid ≡ k = finds.found source_key a.sources k s found in
              let none : is_owed (delivery w told.windows told.waiting s) x y ≡ false =
              owed_same have w told.windows s told.waiting a.out.packets x y (source_is ∙ sym number_is) told.bytes.packets told.bytes.carried in_source
              ∙ sym (ap (λ b. b && ((has s.pending x y || jobs_relieve s.jobs x y) || (relieve has_point s.wid a.out.packets x y || has s.lossy x y))) in_source)
              ∙ sym (ap (λ (o : Option SourceSeen). owes_in o a.out.packets x y) found) ∙ free in
              let shown = (form (delivery w told.windows told.waiting s) (told.delivered.kept k w s there found)).shown x y in_source none in
              let value : number (pixels_grid s.wide s.high w.pixels) x y ≡ n = number_wide s.wide w.w size.0 ∙ some_same _ n (sym (number_at_is w.w w.h w.pixels x y full within) ∙ here) in
              ap (λ i. number_on told.windows i x y) (sym number_is)
              ∙ client (find_window told.windows w.wid) refl (sized_found told.windows w.wid told.bytes.sized) (shown ∙ ap (λ m. Some m) value)

  pub owes_what_differs : ToldOwesWhatDiffers
  owes_what_differs desk were_opened a sent desktop told k x y differs = go (owes a k x y) refl
    where
      go : (b : Bool) → owes a k x y ≡ b → owes a k x y ≡ true
      go true is = is
      go false is = absurd (differs.2 (unowed_shown desk were_opened a sent desktop told k x y differs.0 differs.1 is))
