-- What a client says, of the forms that are built: an exact client's hello, and then maps of the window that
-- the script opens, at most 1,000. This project's own.
use Rattle.std.specs.Prelude.{ℕ, ◌+◌, ◌≤◌, ◌≡◌, ◌≢◌, ◌⊎◌, Bool, true, false, if◌then◌else◌, nat_lt, Option, Some, None, List, [], ◌∷◌, ◌++◌, replicate, map}
use Rattle.std.specs.List.{concat}
use Rattle.window_model.specs.Desktop.{Window}
use Rattle.first_script.specs.declared.paint.Paint.{Paint}
use Rattle.first_script.specs.declared.paint.Paint.TheVariants.{Open, Fill}
use Rattle.client_connection.specs.declared.geometry.Geometry.{Geometry}
use Rattle.client_connection.specs.declared.source.Source.{Source}
use Rattle.client_connection.specs.Clients.{ClientSeen, attached, mapped_source}
use Rattle.client_connection.specs.Wire.{exact_hello, map_window}

-- the window that the script opens, where it opens one
abbrev pub script_window : List Paint → Option Geometry
script_window [] = None
script_window (Open wid x y w h ∷ lines) = Some (record { wid = wid; x = x; y = y; w = w; h = h })
script_window (Fill wid x y w h colour ∷ lines) = script_window lines

-- the bytes are a part of the packet, and not all of it
abbrev pub IsPartOf : List ℕ → List ℕ → Type 0
IsPartOf bytes packet = (more : List ℕ) × (more ≢ []) × (packet ≡ bytes ++ more)

-- the bytes are no part of the packet, and do not begin with it
pub record IsNeither (bytes packet : List ℕ) : Type 0 where
  pub part : IsPartOf bytes packet → ⊥
  pub whole : (more : List ℕ) → bytes ≡ packet ++ more → ⊥

-- the bytes are the packet so many times, and then a part of it
abbrev pub Repeats : List ℕ → ℕ → List ℕ → List ℕ → Type 0
Repeats packet count rest bytes = (bytes ≡ concat (replicate count packet) ++ rest) × IsPartOf rest packet

-- the bytes are so many maps of the script's window, and then a part of one; nothing where it opens none
abbrev pub AreMaps : Option Geometry → ℕ → List ℕ → List ℕ → Type 0
AreMaps None count rest bytes = (count ≡ 0) × (rest ≡ []) × (bytes ≡ [])
AreMaps (Some g) count rest bytes = Repeats (map_window g) count rest bytes

-- the sources after so many maps
abbrev pub mapped_sources : Option Geometry → ℕ → List Source → List Source
mapped_sources None count sources = sources
mapped_sources (Some g) count sources = if nat_lt 0 count then map (mapped_source g.wid) sources else sources

-- the client after so many maps
abbrev pub after_maps : Option Geometry → ℕ → List ℕ → ClientSeen → ClientSeen
after_maps window count rest c = record c { maps = c.maps + count; unread = rest; sources = mapped_sources window count c.sources }

-- 1 where a map has begun and is not whole
abbrev pub begun : List ℕ → ℕ
begun [] = 0
begun (b ∷ rest) = 1

-- a client whose hello was accepted, with these bytes that were not handled yet, before and after: at most 1,000 maps are
-- read or have begun
abbrev pub HearsMaps : List Paint → ClientSeen → List ℕ → ClientSeen → Type 0
HearsMaps lines c bytes c' = (count : ℕ) × (rest : List ℕ) × AreMaps (script_window lines) count rest bytes
    × (c.maps + count + begun rest ≤ 1000) × (c' ≡ after_maps (script_window lines) count rest c)

-- the bytes begin with the hello: it is accepted, and the rest is heard
abbrev pub HearsHello : List Paint → List Window → ClientSeen → List ℕ → ClientSeen → Type 0
HearsHello lines desk c bytes c' = (more : List ℕ) × (bytes ≡ exact_hello ++ more) × HearsMaps lines (attached desk c) more c'

-- a client before its hello was accepted
abbrev pub HearsFirst : List Paint → List Window → ClientSeen → List ℕ → ClientSeen → Type 0
HearsFirst lines desk c bytes c' = (IsPartOf bytes exact_hello × (c' ≡ record c { unread = bytes })) ⊎ HearsHello lines desk c bytes c'

abbrev pub HearsAs : Bool → List Paint → List Window → ClientSeen → List ℕ → ClientSeen → Type 0
HearsAs true lines desk c bytes c' = HearsMaps lines c bytes c'
HearsAs false lines desk c bytes c' = HearsFirst lines desk c bytes c'

-- a client that said these bytes more, which are of a form that is built
abbrev pub Hears : List Paint → List Window → ClientSeen → List ℕ → ClientSeen → Type 0
Hears lines desk c bytes c' = HearsAs c.greeted lines desk c (c.unread ++ bytes) c'

-- the bytes are of no form that is built
abbrev pub IsUnbuilt : List Paint → List Window → ClientSeen → List ℕ → Type 0
IsUnbuilt lines desk c bytes = (c' : ClientSeen) → Hears lines desk c bytes c' → ⊥
