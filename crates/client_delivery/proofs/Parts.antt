-- The parts of what is kept of an attached client, as a step changes them.
use Rattle.std.proofs.Common.{◌≡◌, ◌⊎◌, inl, inr, ℕ, Bool, true, false, List, [], ◌∷◌, ◌++◌, Option, Some, None, map, cond, eqb, refl, sym, ap, ◌∙◌, subst, arith}
use Rattle.std.specs.Prelude.{is_some, All}
use Rattle.std.proofs.lemmas.List.Elements.{All-head, All-tail}
use Rattle.std.specs.Option.{option_map}
use Rattle.std.specs.List.{AllByRecursion}
use Rattle.std.proofs.lemmas.Bool.{cond-true, cond-false, eqb-true, false≢true}
use Rattle.std.proofs.lemmas.Bool.Decides.{nat_tests}
use Rattle.std.proofs.lemmas.List.{append-nil}
use Rattle.std.proofs.lemmas.Grind.{flat_map-append}
use Rattle.xp_base.specs.Keyed.{keyed_find, keyed_change, keyed_push, keyed_remove, HasDistinctKeys}
use Rattle.xp_base.specs.KeyedLaws.{KeyedFinds, KeyedKeeps}
use Rattle.window_model.specs.Desktop.{Window, IsWindow, find_window, has_window, changed_window}
use Rattle.window_model.specs.Geometry.{Geometry, geometry_of}
use Rattle.delivery_model.specs.Window.{Packet}
use Rattle.packet_kinds.specs.declared.to_client.ToClient.{ToClient}
use Rattle.packet_kinds.specs.declared.to_client.ToClient.TheVariants as T
use Rattle.window_source.specs.Source.{SourceSeen}
use Rattle.window_source.specs.Waiting.{Queued, Waiting, IsDraw, Carries, says_to, waits_on, ReliefLies}
use Rattle.client_delivery.specs.Attached.{source_key, find_source}
use Rattle.client_outbox.specs.declared.draw.Draw.{Draw}
use Rattle.client_delivery.specs.Delivered.{concerns, is_draw, loses, AreOfOneSize}
use Rattle.client_delivery.specs.Steps.{structure}
use Rattle.client_delivery.proofs.Queues.{all_append}

-- the packets on a window, of two lists
pub waits_append : (wide high k : ℕ) (xs ys : List Waiting) → waits_on wide high k (xs ++ ys) ≡ waits_on wide high k xs ++ waits_on wide high k ys
waits_append wide high k xs ys = flat_map-append (λ (w : Waiting). says_to wide high k w w.message) xs ys

-- a message on another window, or on none, is nothing to a window
pub says_nothing : (wide high k : ℕ) (w : Waiting) (m : ToClient) → concerns k m ≡ false → says_to wide high k w m ≡ []
says_nothing wide high k w (T.Hello caps) other = refl
says_nothing wide high k w (T.NewWindow wid x y w' h') other = cond-false (eqb k wid) _ [] other
says_nothing wide high k w (T.LostWindow wid) other = refl
says_nothing wide high k w (T.WindowResized wid w' h') other = cond-false (eqb k wid) _ [] other
says_nothing wide high k w (T.WindowMoveResize wid x y w' h') other = refl
says_nothing wide high k w (T.RaiseWindow wid) other = refl
says_nothing wide high k w (T.Draw wid x y w' h' coding bytes sequence stride) other = cond-false (eqb k wid) _ [] other
says_nothing wide high k w (T.PingEcho t) other = refl
says_nothing wide high k w (T.Disconnect reason) other = refl
says_nothing wide high k w T.Other other = refl

pub waits_for_nothing : (wide high k : ℕ) (ws : List Waiting) → AllByRecursion (λ (w : Waiting). concerns k w.message ≡ false) ws → waits_on wide high k ws ≡ []
waits_for_nothing wide high k [] none = refl
waits_for_nothing wide high k (w ∷ ws) none = ap (λ (ps : List Packet). ps ++ waits_on wide high k ws) (says_nothing wide high k w w.message none.0) ∙ waits_for_nothing wide high k ws none.1

-- a packet behind that is nothing to a window
pub waits_same : (wide high k : ℕ) (ws : List Waiting) (w : Waiting) → says_to wide high k w w.message ≡ [] → waits_on wide high k (ws ++ w ∷ []) ≡ waits_on wide high k ws
waits_same wide high k ws w none =
    waits_append wide high k ws (w ∷ [])
    ∙ ap (λ (ps : List Packet). waits_on wide high k ws ++ (ps ++ [])) none
    ∙ append-nil (waits_on wide high k ws)

-- an item of a list in which that with key k was changed: it was there, and was changed where it has the key
abbrev pub Was : {A : Type 0} → ℕ → (A → A) → ℕ → Option A → A → Type 0
Was {A = A} k f j o a = ((eqb j k ≡ true) × ((old : A) × (o ≡ Some old) × (f old ≡ a))) ⊎ ((eqb j k ≡ false) × (o ≡ Some a))

pub changed_cases : {A : Type 0} (f : A → A) (b : Bool) (o : Option A) (a : A) → cond b (option_map f o) o ≡ Some a
    → ((b ≡ true) × ((old : A) × (o ≡ Some old) × (f old ≡ a))) ⊎ ((b ≡ false) × (o ≡ Some a))
changed_cases f true None a is = absurd (cc is)
changed_cases f true (Some old) a is = inl (refl, (old, refl, cc is))
changed_cases f false o a is = inr (refl, is)

-- windows of one place and size have sources of one size
pub sized_alike : (o o' : Option Window) (s : Option SourceSeen) → option_map geometry_of o' ≡ option_map geometry_of o → AreOfOneSize o s → AreOfOneSize o' s
sized_alike None None s same sized = sized
sized_alike None (Some w) s same sized = absurd (cc same)
sized_alike (Some w) None s same sized = absurd (cc same)
sized_alike (Some w) (Some w') None same sized = sized
sized_alike (Some w) (Some w') (Some s) same sized =
    let geometry : geometry_of w' ≡ geometry_of w = cc same in
    (sized.0 ∙ sym (ap (λ (g : Geometry). g.w) geometry), sized.1 ∙ sym (ap (λ (g : Geometry). g.h) geometry))

-- a source that keeps its size
pub sized_changed : (f : SourceSeen → SourceSeen) → ((s : SourceSeen) → ((f s).wide ≡ s.wide) × ((f s).high ≡ s.high)) → (o : Option Window) (b : Bool) (s : Option SourceSeen)
    → AreOfOneSize o s → AreOfOneSize o (cond b (option_map f s) s)
sized_changed f same o false s sized = sized
sized_changed f same None true None sized = sized
sized_changed f same None true (Some s) sized = absurd sized
sized_changed f same (Some w) true None sized = absurd sized
sized_changed f same (Some w) true (Some s) sized = ((same s).0 ∙ sized.0, (same s).1 ∙ sized.1)

-- a window that is there has a source, and the other way round
pub source_there : (o : Option Window) (s : Option SourceSeen) → AreOfOneSize o s → is_some s ≡ is_some o
source_there None None sized = refl
source_there None (Some s) sized = absurd sized
source_there (Some w) None sized = absurd sized
source_there (Some w) (Some s) sized = refl

pub some_there : {A : Type 0} (o : Option A) (a : A) → o ≡ Some a → is_some o ≡ true
some_there o a is = ap is_some is

-- a number that was opened is not one that was not
pub other_number : (were_opened : ℕ → Bool) (j k : ℕ) → were_opened j ≡ false → were_opened k ≡ true → eqb j k ≡ false
other_number were_opened j k none some = go (eqb j k) refl
  where
    go : (b : Bool) → eqb j k ≡ b → eqb j k ≡ false
    go false is = is
    go true is = absurd (false≢true (sym none ∙ ap were_opened (eqb-true j k is) ∙ some))

pub own : (k : ℕ) → eqb k k ≡ true
own k = grind (arith, nat_tests)

-- what is no draw names no window
pub unnamed : (wid : Option ℕ) (draw : Option Draw) (pixels : List ℕ) (m : ToClient) → is_draw m ≡ false → IsDraw wid draw pixels m → wid ≡ None
unnamed None draw pixels m plain is = refl
unnamed (Some k) None pixels m plain is = absurd is
unnamed (Some k) (Some d) pixels (T.Hello caps) plain is = absurd is
unnamed (Some k) (Some d) pixels (T.NewWindow wid x y w h) plain is = absurd is
unnamed (Some k) (Some d) pixels (T.LostWindow wid) plain is = absurd is
unnamed (Some k) (Some d) pixels (T.WindowResized wid w h) plain is = absurd is
unnamed (Some k) (Some d) pixels (T.WindowMoveResize wid x y w h) plain is = absurd is
unnamed (Some k) (Some d) pixels (T.RaiseWindow wid) plain is = absurd is
unnamed (Some k) (Some d) pixels (T.Draw wid x y w h coding bytes sequence stride) plain is = absurd (cc plain)
unnamed (Some k) (Some d) pixels (T.PingEcho t) plain is = absurd is
unnamed (Some k) (Some d) pixels (T.Disconnect reason) plain is = absurd is
unnamed (Some k) (Some d) pixels T.Other plain is = absurd is

-- so it has no relief outside a window
pub structure_lies : (wide high k : ℕ) (p : Queued) (m : ToClient) → is_draw m ≡ false → Carries (structure p m) → ReliefLies wide high k (structure p m)
structure_lies wide high k p m plain carries = λ named. absurd (let none = sym named ∙ unnamed p.wid p.draw [] m plain carries.draw in cc none)

-- a draw is on the window that it names, and on no other
named_as : (j k : ℕ) (w : Waiting) → Carries w → w.packet.wid ≡ Some k → concerns j w.message ≡ eqb j k
named_as i k w carries named = go w.packet.wid w.packet.draw w.message named carries.draw
  where
    go : (wid : Option ℕ) (draw : Option Draw) (m : ToClient) → wid ≡ Some k → IsDraw wid draw w.pixels m → concerns i m ≡ eqb i k
    go None draw m named is = absurd (cc named)
    go (Some j) None m named is = absurd is
    go (Some j) (Some d) (T.Hello caps) named is = absurd is
    go (Some j) (Some d) (T.NewWindow wid x y w h) named is = absurd is
    go (Some j) (Some d) (T.LostWindow wid) named is = absurd is
    go (Some j) (Some d) (T.WindowResized wid w h) named is = absurd is
    go (Some j) (Some d) (T.WindowMoveResize wid x y w h) named is = absurd is
    go (Some j) (Some d) (T.RaiseWindow wid) named is = absurd is
    go (Some j) (Some d) (T.Draw wid x y w h coding bytes sequence stride) named is = ap (eqb i) (sym is.0 ∙ cc named)
    go (Some j) (Some d) (T.PingEcho t) named is = absurd is
    go (Some j) (Some d) (T.Disconnect reason) named is = absurd is
    go (Some j) (Some d) T.Other named is = absurd is

pub named_concerns : (k : ℕ) (w : Waiting) → Carries w → w.packet.wid ≡ Some k → concerns k w.message ≡ true
named_concerns k w carries named = named_as k k w carries named ∙ own k

pub named_elsewhere : (j k : ℕ) (w : Waiting) → Carries w → w.packet.wid ≡ Some k → eqb j k ≡ false → concerns j w.message ≡ false
named_elsewhere j k w carries named other = named_as j k w carries named ∙ other

pub loses_concerns : (k : ℕ) (m : ToClient) → concerns k m ≡ false → loses k m ≡ false
loses_concerns k (T.Hello caps) other = refl
loses_concerns k (T.NewWindow wid x y w h) other = refl
loses_concerns k (T.LostWindow wid) other = other
loses_concerns k (T.WindowResized wid w h) other = refl
loses_concerns k (T.WindowMoveResize wid x y w h) other = refl
loses_concerns k (T.RaiseWindow wid) other = refl
loses_concerns k (T.Draw wid x y w h coding bytes sequence stride) other = refl
loses_concerns k (T.PingEcho t) other = refl
loses_concerns k (T.Disconnect reason) other = refl
loses_concerns k T.Other other = refl

-- a window that is found is one of them
pub found_window : (desk : List Window) (k : ℕ) (window : Window) → All IsWindow desk → find_window desk k ≡ Some window → IsWindow window
found_window [] k window all found = absurd (cc found)
found_window (w ∷ desk) k window all found = go (eqb w.wid k) found (found_window desk k window (All-tail IsWindow w desk all))
  where
    go : (b : Bool) → cond b (Some w) (find_window desk k) ≡ Some window → (find_window desk k ≡ Some window → IsWindow window) → IsWindow window
    go true found later = subst IsWindow (cc found) (All-head IsWindow w desk all)
    go false found later = later found
