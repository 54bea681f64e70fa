-- Each step of a client keeps what is kept of it and of the bytes sent to it.
use Rattle.std.proofs.Common.{◌≡◌, ◌≢◌, ◌⊎◌, inl, inr, ℕ, ◌+◌, ◌<◌, ◌≤◌, ◌^◌, Bool, true, false, List, [], ◌++◌, length, take, Option, Some, None, refl, ap, ◌∙◌, sym, subst, arith, eqb}
use Rattle.std.specs.Prelude.{position, nat_lt}
use Rattle.std.proofs.lemmas.Bool.{cases_Bool}
use Rattle.std.proofs.lemmas.List.{append-nil}
use Rattle.xp_base.specs.Told.{told_append}
use Rattle.link_bay.specs.Connections.{ConnectionRecord}
use Rattle.window_model.specs.Desktop.{Window, IsWindow, IsDesktop, find_window}
use Rattle.first_script.specs.declared.paint.Paint.{Paint}
use Rattle.client_connection.specs.declared.source.Source.{Source}
use Rattle.client_connection.specs.declared.geometry.Geometry.{Geometry}
use Rattle.client_connection.specs.declared.answers.Sent.{Sent}
use Rattle.client_connection.specs.declared.answers.Sent.TheVariants as S
use Rattle.client_connection.specs.declared.answers.Captured.{Captured}
use Rattle.client_connection.specs.declared.answers.Captured.TheVariants as C
use Rattle.client_connection.specs.Clients.{ClientSeen, attached, taken_more, painted_client}
use Rattle.client_connection.specs.Hearing.{Hears, HearsAs, HearsMaps, HearsFirst, script_window, after_maps}
use Rattle.client_connection.specs.Sending.{Writes, offered}
use Rattle.client_connection.specs.Capturing.{CapturesWindow}
use Rattle.client_connection.specs.Told.{IsTold, IsToldFor}
use Rattle.first_script.specs.Painting.{painted, rectangle}
use Rattle.client_connection.proofs.Announced.{wrote_some}
use Rattle.first_script.specs.declared.paint.Paint.TheVariants.{Open, Fill}
use Rattle.first_script.specs.Validity.{IsPaintOn}
use Rattle.client_connection.proofs.Tellings.{told_captured, told_filled}
use Rattle.client_connection.proofs.Attachings.{told_attached, told_mapped, told_read, told_opened}

-- a write that took some
took_told : (desk : List Window) (most n : ℕ) (was now : Option (List ℕ)) (c : ClientSeen) → n ≤ length (offered most c) → c.packets ≢ [] → now ≡ told_append was (take n (offered most c)) → IsToldFor desk c was
    → IsToldFor desk (taken_more n c) now
took_told desk most n None now c low some is told =
    subst (IsToldFor desk (taken_more n c)) (sym is) (told.0 ++ take n (offered most c), wrote_some desk most n told.0 c c.packets refl some low told.1)
took_told desk most n (Some sent) now c low some is told = subst (IsToldFor desk (taken_more n c)) (sym is) (wrote_some desk most n sent c c.packets refl some low told)

-- a write that took nothing
nothing_told : (desk : List Window) (was now : Option (List ℕ)) (c : ClientSeen) → now ≡ told_append was [] → IsToldFor desk c was → IsToldFor desk c now
nothing_told desk None now c is told = subst (IsToldFor desk c) (sym is) told
nothing_told desk (Some sent) now c is told = subst (IsToldFor desk c) (sym (is ∙ ap (λ (bs : List ℕ). Some bs) (append-nil sent))) told

pub writes_told : (desk : List Window) (most : ℕ) (was now : ConnectionRecord) (c c' : ClientSeen) (answer : Sent) → Writes most was now c answer c' → IsToldFor desk c was.sent → IsToldFor desk c' now.sent
writes_told desk most was now c c' S.Closed writes told = absurd writes
writes_told desk most was now c c' S.Idle writes told = subst (λ (d : ClientSeen). IsToldFor desk d now.sent) (sym writes.2) (subst (IsToldFor desk c) (sym (ap (λ r. r.sent) writes.1)) told)
writes_told desk most was now c c' (S.Took n) writes told =
    subst (λ (d : ClientSeen). IsToldFor desk d now.sent) (sym writes.3)
    (took_told desk most n was.sent now.sent c writes.2.0 writes.1 (ap (λ r. r.sent) writes.2.2) told)
writes_told desk most was now c c' S.Again writes told =
    subst (λ (d : ClientSeen). IsToldFor desk d now.sent) (sym writes.3) (nothing_told desk was.sent now.sent c (ap (λ r. r.sent) writes.1.2) told)
writes_told desk most was now c c' (S.Ended ended) writes told = absurd writes
writes_told desk most was now c c' S.NoMemory writes told =
    subst (λ (d : ClientSeen). IsToldFor desk d now.sent) (sym writes.2) (subst (IsToldFor desk c) (sym (ap (λ r. r.sent) writes.1)) told)

-- a capture
pub captures_told : (desk : List Window) (window : Window) (sent : List ℕ) (c c' : ClientSeen) (answer : Captured) → IsWindow window → find_window desk window.wid ≡ Some window → CapturesWindow window c answer c'
    → IsTold desk c sent → IsTold desk c' sent
captures_told desk window sent c c' C.Closed is found captures told = subst (λ (d : ClientSeen). IsTold desk d sent) (sym captures.1) told
captures_told desk window sent c c' C.Unmapped is found captures told = subst (λ (d : ClientSeen). IsTold desk d sent) (sym captures.4) told
captures_told desk window sent c c' C.Clean is found captures told = subst (λ (d : ClientSeen). IsTold desk d sent) (sym captures.5) told
captures_told desk window sent c c' (C.Early moment) is found captures told = absurd captures
captures_told desk window sent c c' (C.Congested load) is found captures told = absurd captures
captures_told desk window sent c c' (C.Heavy weight) is found captures told = absurd captures
captures_told desk window sent c c' C.Spent is found captures told = subst (λ (d : ClientSeen). IsTold desk d sent) (sym captures.6) told
captures_told desk window sent c c' C.NoMemory is found captures told = subst (λ (d : ClientSeen). IsTold desk d sent) (sym captures.6) told
captures_told desk window sent c c' (C.Jobs n) is found captures told =
    let s = captures.1 in
    let low : s.next_sequence < 2 ^ 63 = omega (arith, captures.5) in
    subst (λ (d : ClientSeen). IsTold desk d sent) (sym captures.7)
    (told_captured desk c sent window captures.0 s (greeted c.greeted refl) is low found captures.2.0 captures.2.1 told)
  where
    greeted : (b : Bool) → c.greeted ≡ b → c.greeted ≡ true
    greeted true on = on
    greeted false off = absurd (cc (sym (ap (λ ss. position (λ (t : Source). eqb t.wid window.wid) ss) (told.unattached off)) ∙ captures.2.0))

pub captured_where : (desk : List Window) (window : Window) (sent : Option (List ℕ)) (c c' : ClientSeen) (answer : Captured) → IsWindow window → find_window desk window.wid ≡ Some window → CapturesWindow window c answer c'
    → IsToldFor desk c sent → IsToldFor desk c' sent
captured_where desk window None c c' answer is found captures told = (told.0, captures_told desk window told.0 c c' answer is found captures told.1)
captured_where desk window (Some sent) c c' answer is found captures told = captures_told desk window sent c c' answer is found captures told

-- so many maps
maps_told : (desk : List Window) (sent : List ℕ) (o : Option Geometry) (count : ℕ) (rest : List ℕ) (c : ClientSeen) → IsTold desk c sent → IsTold desk (after_maps o count rest c) sent
maps_told desk sent None count rest c told = told_read desk c sent (c.maps + count) rest told
maps_told desk sent (Some g) count rest c told = go (cases_Bool (nat_lt 0 count))
  where
    go : (nat_lt 0 count ≡ true) ⊎ (nat_lt 0 count ≡ false) → IsTold desk (after_maps (Some g) count rest c) sent
    go (inl some) = rw some (told_mapped desk c sent g.wid (c.maps + count) rest told)
    go (inr none) = rw none (told_read desk c sent (c.maps + count) rest told)

hears_maps : (lines : List Paint) (desk : List Window) (sent bytes : List ℕ) (c c' : ClientSeen) → HearsMaps lines c bytes c' → IsTold desk c sent → IsTold desk c' sent
hears_maps lines desk sent bytes c c' hears told = subst (λ (d : ClientSeen). IsTold desk d sent) (sym hears.4) (maps_told desk sent (script_window lines) hears.0 hears.1 c told)

hears_first : (lines : List Paint) (desk : List Window) (sent bytes : List ℕ) (c c' : ClientSeen) → IsDesktop desk → c.greeted ≡ false → HearsFirst lines desk c bytes c' → IsTold desk c sent → IsTold desk c' sent
hears_first lines desk sent bytes c c' is off (inl part) told = subst (λ (d : ClientSeen). IsTold desk d sent) (sym part.1) (told_read desk c sent c.maps bytes told)
hears_first lines desk sent bytes c c' is off (inr hello) told = hears_maps lines desk sent hello.0 (attached desk c) c' hello.2 (told_attached desk c sent c.maps c.unread is off told)

pub hears_told : (lines : List Paint) (desk : List Window) (sent bytes : List ℕ) (c c' : ClientSeen) → IsDesktop desk → Hears lines desk c bytes c' → IsTold desk c sent → IsTold desk c' sent
hears_told lines desk sent bytes c c' is hears told = go c.greeted refl hears
  where
    go : (b : Bool) → c.greeted ≡ b → HearsAs b lines desk c (c.unread ++ bytes) c' → IsTold desk c' sent
    go true on hears = hears_maps lines desk sent (c.unread ++ bytes) c c' hears told
    go false off hears = hears_first lines desk sent (c.unread ++ bytes) c c' is off hears told

pub heard_where : (lines : List Paint) (desk : List Window) (sent : Option (List ℕ)) (bytes : List ℕ) (c c' : ClientSeen) → IsDesktop desk → Hears lines desk c bytes c' → IsToldFor desk c sent → IsToldFor desk c' sent
heard_where lines desk None bytes c c' is hears told = (told.0, hears_told lines desk told.0 bytes c c' is hears told.1)
heard_where lines desk (Some sent) bytes c c' is hears told = hears_told lines desk sent bytes c c' is hears told

-- a paint line was applied to the desktop and for the client
pub line_told : (desk : List Window) (line : Paint) → IsDesktop desk → IsPaintOn desk line → (c : ClientSeen) (sent : List ℕ) → IsTold desk c sent → IsTold (painted desk line) (painted_client line c) sent
line_told desk (Open wid x y w h) is may c sent told = told_opened desk c sent (record { wid = wid; x = x; y = y; w = w; h = h }) (record {
  number = record { first = may.first; last = omega (arith, may.last) };
  across = may.across;
  down = may.down;
  wide = may.wide;
  high = may.high;
}) may.new told
line_told desk (Fill wid x y w h colour) is may c sent told = told_filled desk c sent wid (rectangle x y w h) colour is told

pub line_where : (desk : List Window) (line : Paint) → IsDesktop desk → IsPaintOn desk line → (c : ClientSeen) (sent : Option (List ℕ)) → IsToldFor desk c sent → IsToldFor (painted desk line) (painted_client line c) sent
line_where desk line is may c None told = (told.0, line_told desk line is may c told.0 told.1)
line_where desk line is may c (Some sent) told = line_told desk line is may c sent told
