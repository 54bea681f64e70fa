-- What a client heard, from how the bytes begin.
use Rattle.std.proofs.Common.{◌≡◌, inl, inr, ℕ, ◌+◌, ◌*◌, ◌<◌, ◌≤◌, true, false, Option, Some, List, [], ◌∷◌, zero, suc, ◌++◌, length, drop, ap, ◌∙◌, sym, subst, arith}
use Rattle.std.proofs.lemmas.List.{length-append, append_cancel_left}
use Rattle.std.specs.List.{concat}
use Rattle.std.specs.Prelude.{replicate, Result, Ok, Err, OnErr}
use Rattle.window_model.specs.Desktop.{Window}
use Rattle.first_script.specs.declared.paint.Paint.{Paint}
use Rattle.client_connection.specs.declared.geometry.Geometry.{Geometry}
use Rattle.client_connection.specs.Clients.{ClientSeen, attached}
use Rattle.client_connection.specs.Wire.{exact_hello, map_window}
use Rattle.client_connection.specs.Hearing.{IsNeither, Repeats, begun, AreMaps, Hears, HearsAs, HearsMaps, HearsFirst, IsUnbuilt, script_window, after_maps}
use Rattle.client_connection.proofs.Hearings.{part_shorter, repeats_behind, concat_size}

pub hears_on : (lines : List Paint) (desk : List Window) (c : ClientSeen) (bytes : List ℕ) (c' : ClientSeen) → c.greeted ≡ true → HearsMaps lines c (c.unread ++ bytes) c' → Hears lines desk c bytes c'
hears_on lines desk c bytes c' on hears = subst (λ b. HearsAs b lines desk c (c.unread ++ bytes) c') (sym on) hears

pub unhears_on : (lines : List Paint) (desk : List Window) (c : ClientSeen) (bytes : List ℕ) → c.greeted ≡ true → ((c' : ClientSeen) → HearsMaps lines c (c.unread ++ bytes) c' → ⊥) → IsUnbuilt lines desk c bytes
unhears_on lines desk c bytes on none = λ c' hears. none c' (subst (λ b. HearsAs b lines desk c (c.unread ++ bytes) c') on hears)

pub hears_first : (lines : List Paint) (desk : List Window) (c : ClientSeen) (bytes more : List ℕ) (c' : ClientSeen) → c.greeted ≡ false → c.unread ++ bytes ≡ exact_hello ++ more
    → HearsMaps lines (attached desk c) more c' → Hears lines desk c bytes c'
hears_first lines desk c bytes more c' off is hears = subst (λ b. HearsAs b lines desk c (c.unread ++ bytes) c') (sym off) (inr (more, is, hears))

unheard : (lines : List Paint) (desk : List Window) (c : ClientSeen) (bytes more : List ℕ) (c' : ClientSeen) → bytes ≡ exact_hello ++ more
    → ((d : ClientSeen) → HearsMaps lines (attached desk c) more d → ⊥) → HearsFirst lines desk c bytes c' → ⊥
unheard lines desk c bytes more c' is none (inl part) =
    let short = part_shorter bytes exact_hello part.0 in
    let sizes = ap length is ∙ length-append exact_hello more in
    omega (arith, short, sizes)
unheard lines desk c bytes more c' is none (inr hears) =
    let same : hears.0 ≡ more = append_cancel_left exact_hello hears.0 more (sym hears.1 ∙ is) in
    none c' (subst (λ (m : List ℕ). HearsMaps lines (attached desk c) m c') same hears.2)

pub unhears_first : (lines : List Paint) (desk : List Window) (c : ClientSeen) (bytes more : List ℕ) → c.greeted ≡ false → c.unread ++ bytes ≡ exact_hello ++ more
    → ((d : ClientSeen) → HearsMaps lines (attached desk c) more d → ⊥) → IsUnbuilt lines desk c bytes
unhears_first lines desk c bytes more off is none = λ c' hears. unheard lines desk c (c.unread ++ bytes) more c' is none (subst (λ b. HearsAs b lines desk c (c.unread ++ bytes) c') off hears)

neither : (lines : List Paint) (desk : List Window) (c : ClientSeen) (bytes : List ℕ) (c' : ClientSeen) → IsNeither bytes exact_hello → HearsFirst lines desk c bytes c' → ⊥
neither lines desk c bytes c' not (inl part) = not.part part.0
neither lines desk c bytes c' not (inr hears) = not.whole hears.0 hears.1

pub unhears_neither : (lines : List Paint) (desk : List Window) (c : ClientSeen) (bytes : List ℕ) → c.greeted ≡ false → IsNeither (c.unread ++ bytes) exact_hello → IsUnbuilt lines desk c bytes
unhears_neither lines desk c bytes off not = λ c' hears. neither lines desk c (c.unread ++ bytes) c' not (subst (λ b. HearsAs b lines desk c (c.unread ++ bytes) c') off hears)

-- no more bytes are packets than there are
pub repeats_size : (packet : List ℕ) (count : ℕ) (rest bytes : List ℕ) → Repeats packet count rest bytes → count * length packet ≤ length bytes
repeats_size packet count rest bytes repeats =
    let sizes = ap length repeats.0 ∙ length-append (concat (replicate count packet)) rest in
    let all = concat_size packet count in
    omega (arith, sizes, all)

pub repeats_as : (packet packet' bytes bytes' : List ℕ) (count : ℕ) → packet ≡ packet' → bytes ≡ bytes' → Repeats packet count (drop (count * length packet) bytes) bytes
    → Repeats packet' count (drop (count * length packet') bytes') bytes'
repeats_as packet packet' bytes bytes' count same also repeats =
    subst (λ (b : List ℕ). Repeats packet' count (drop (count * length packet') b) b) also (subst (λ (p : List ℕ). Repeats p count (drop (count * length p) bytes) bytes) same repeats)

pub map_window_some : (g : Geometry) → 0 < length (map_window g)
map_window_some g = omega arith

begun_most : (rest : List ℕ) → begun rest ≤ 1
begun_most [] = omega arith
begun_most (b ∷ rest) = omega arith

-- where something is left, there is a map more, or one has begun
begun_behind : (packet rest r : List ℕ) (m : ℕ) → Repeats packet m r rest → begun rest ≤ m + begun r
begun_behind packet rest r zero repeats = rw repeats.0 (omega arith)
begun_behind packet rest r (suc m) repeats = let most = begun_most rest in omega (arith, most)

-- too many maps
pub maps_over : (lines : List Paint) (g : Geometry) (c : ClientSeen) (bytes rest : List ℕ) (count : ℕ) → script_window lines ≡ Some g → 0 < length (map_window g) → Repeats (map_window g) count rest bytes
    → 1000 < c.maps + count + begun rest → (c' : ClientSeen) → HearsMaps lines c bytes c' → ⊥
maps_over lines g c bytes rest count is some repeats over c' hears =
    let other : Repeats (map_window g) hears.0 hears.1 bytes = subst (λ (o : Option Geometry). AreMaps o hears.0 hears.1 bytes) is hears.2 in
    let behind = repeats_behind (map_window g) some count hears.0 rest hears.1 bytes repeats.0 other in
    let small = hears.3 in
    let more = behind.1 in
    let left = begun_behind (map_window g) rest hears.1 behind.0 behind.2 in
    omega (arith, small, more, left, over)

-- as many maps as may be
pub maps_heard : (lines : List Paint) (g : Geometry) (c : ClientSeen) (bytes rest : List ℕ) (count : ℕ) (c' : ClientSeen) → script_window lines ≡ Some g → Repeats (map_window g) count rest bytes
    → c.maps + count + begun rest ≤ 1000 → c' ≡ after_maps (Some g) count rest c → HearsMaps lines c bytes c'
maps_heard lines g c bytes rest count c' is repeats small after = (
  count,
  rest,
  subst (λ (o : Option Geometry). AreMaps o count rest bytes) (sym is) repeats,
  small,
  after ∙ ap (λ (o : Option Geometry). after_maps o count rest c) (sym is),
)

-- what follows from what stands after an error stands after it, too
pub err_then : {A E : Type 0} (r : Result A E) {P Q : Type 0} → (P → Q) → OnErr r P → OnErr r Q
err_then (Ok a) f on = on
err_then (Err e) f on = f on
