-- Pictures that stop at a fault, and pictures without one.
use Rattle.std.proofs.Common.{◌≡◌, ◌≢◌, ℕ, List, [], ◌∷◌, ◌++◌, map, refl, sym, ap, subst, ◌∙◌}
use Rattle.std.specs.Prelude.{Option, Some, None, Result, Ok, Err}
use Rattle.std.specs.List.{fold}
use Rattle.std.proofs.lemmas.List.{append-nil}
use Rattle.std.proofs.lemmas.List.Folds.{fold_stays}
use Rattle.window_model.specs.Desktop.{Window}
use Rattle.packet_frames.specs.Stream.{Packet, Fault, Stream, from_place, read_on, packets_of}
use Rattle.packet_frames.specs.Following.{behind}
use Rattle.packet_frames.proofs.Streams.{read_on-append, read_on-fault, read_on-behind}
use Rattle.packet_kinds.specs.declared.to_client.ToClient.{ToClient}
use Rattle.packet_kinds.specs.ToShapes.{to_client}
use Rattle.packet_kinds.specs.Effects.{effect}
use Rattle.packet_kinds.specs.Picture.{Picture, ended, shown_or_data, shown_or_shape, shown, picture}
use Rattle.packet_kinds.specs.Laws.{PictureStops, PictureFolds, effect_after}
use Rattle.packet_kinds.proofs.Following.{clear, picture_is}

-- Reading on keeps the packets that were read.
pub read_on-packets : (limit : ℕ) (s : Stream) (bytes : List ℕ) → (more : List Packet) × ((read_on limit s bytes).packets ≡ s.packets ++ more)
read_on-packets limit s bytes =
    let none : Stream = record s { packets = [] } in
    let all : s ≡ behind s.packets none = ap (λ ps. let t : Stream = record s { packets = ps } in t) (sym (append-nil s.packets)) in
    ((read_on limit none bytes).packets, ap (λ t. (read_on limit t bytes).packets) all ∙ ap (λ (t : Stream). t.packets) (read_on-behind limit s.packets none bytes))

stopped_data : (place : ℕ) (windows : List Window) (o : Option (List Window)) (next more : List Window → Picture)
    → ((after : List Window) → (next after).fault ≢ None → more after ≡ next after) → (shown_or_data place windows o next).fault ≢ None
    → shown_or_data place windows o more ≡ shown_or_data place windows o next
stopped_data place windows None next more later stops = refl
stopped_data place windows (Some after) next more later stops = later after stops

stopped_shape : (place : ℕ) (windows : List Window) (r : Result ToClient ℕ) (next more : List Window → Picture)
    → ((after : List Window) → (next after).fault ≢ None → more after ≡ next after) → (shown_or_shape place windows r next).fault ≢ None
    → shown_or_shape place windows r more ≡ shown_or_shape place windows r next
stopped_shape place windows (Err i) next more later stops = refl
stopped_shape place windows (Ok m) next more later stops = stopped_data place windows (effect windows m) next more later stops

-- behind a packet that is not shown nothing is
shown-stopped : (fault : Option Fault) (packets more : List Packet) (windows : List Window) → (shown None packets windows).fault ≢ None
    → shown fault (packets ++ more) windows ≡ shown None packets windows
shown-stopped fault [] more windows stops = absurd (stops refl)
shown-stopped fault (p ∷ packets) more windows stops =
    stopped_shape p.place windows (to_client p.value) (shown None packets) (shown fault (packets ++ more)) (λ after here. shown-stopped fault packets more after here) stops

stops_by : (limit : ℕ) (bytes more : List ℕ) (fault : Option Fault) → (packets_of limit bytes).fault ≡ fault → (picture limit bytes).fault ≢ None
    → picture limit (bytes ++ more) ≡ picture limit bytes
stops_by limit bytes more (Some f) e stops =
    let s = packets_of limit bytes in
    picture_is limit (bytes ++ more) s (read_on-append limit (from_place 0) bytes more ∙ read_on-fault limit s f more e) ∙ sym (picture_is limit bytes s refl)
stops_by limit bytes more None e stops =
    let s = packets_of limit bytes in
    let t = read_on limit s more in
    let rest = read_on-packets limit s more in
    let known : picture limit bytes ≡ shown None s.packets [] = picture_is limit bytes s refl ∙ ap (λ f. shown f s.packets []) e in
    picture_is limit (bytes ++ more) t (read_on-append limit (from_place 0) bytes more)
    ∙ ap (λ ps. shown t.fault ps []) rest.1
    ∙ shown-stopped t.fault s.packets rest.0 [] (subst (λ (p : Picture). p.fault ≢ None) known stops)
    ∙ sym known

pub picture_stops : PictureStops
picture_stops limit bytes more stops = stops_by limit bytes more (packets_of limit bytes).fault refl stops

-- what the packets say, one by one
abbrev readings : List Packet → List (Result ToClient ℕ)
readings packets = map (λ (p : Packet). to_client p.value) packets

-- these packets are read as messages whose effects lead from these windows to those
abbrev LeadsFrom : List (Result ToClient ℕ) → List Window → List Window → Type 0
LeadsFrom rs windows goal = (messages : List ToClient) × (rs ≡ map Ok messages) × (fold effect_after (Some windows) messages ≡ Some goal)

leads_data : (place : ℕ) (windows goal : List Window) (m : ToClient) (rs : List (Result ToClient ℕ)) (next : List Window → Picture) (o : Option (List Window)) → effect windows m ≡ o
    → ((after : List Window) → next after ≡ clear goal → LeadsFrom rs after goal) → shown_or_data place windows o next ≡ clear goal → LeadsFrom (Ok m ∷ rs) windows goal
leads_data place windows goal m rs next None is later e = absurd (let f = ap (λ (q : Picture). q.fault) e in cc)
leads_data place windows goal m rs next (Some after) is later e =
    let rest = later after e in
    (m ∷ rest.0, ap (λ qs. Ok m ∷ qs) rest.1, ap (λ o. fold effect_after o rest.0) is ∙ rest.2)

leads_shape : (place : ℕ) (windows goal : List Window) (rs : List (Result ToClient ℕ)) (next : List Window → Picture) (r : Result ToClient ℕ)
    → ((after : List Window) → next after ≡ clear goal → LeadsFrom rs after goal) → shown_or_shape place windows r next ≡ clear goal → LeadsFrom (r ∷ rs) windows goal
leads_shape place windows goal rs next (Err i) later e = absurd (let f = ap (λ (q : Picture). q.fault) e in cc)
leads_shape place windows goal rs next (Ok m) later e = leads_data place windows goal m rs next (effect windows m) refl later e

-- a picture without a fault is where the effects lead
leads_from : (packets : List Packet) (windows goal : List Window) → shown None packets windows ≡ clear goal → LeadsFrom (readings packets) windows goal
leads_from [] windows goal e = ([], refl, ap Some (ap (λ (q : Picture). q.windows) e))
leads_from (p ∷ packets) windows goal e =
    leads_shape p.place windows goal (readings packets) (shown None packets) (to_client p.value) (λ after here. leads_from packets after goal here) e

no_windows_on : (messages : List ToClient) (goal : List Window) → fold effect_after None messages ≡ Some goal → ⊥
no_windows_on messages goal e = let none = fold_stays effect_after None (λ _. refl) messages in let f = sym none ∙ e in cc

led_data : (place : ℕ) (windows goal : List Window) (messages : List ToClient) (next : List Window → Picture) (o : Option (List Window))
    → ((after : List Window) → fold effect_after (Some after) messages ≡ Some goal → next after ≡ clear goal) → fold effect_after o messages ≡ Some goal
    → shown_or_data place windows o next ≡ clear goal
led_data place windows goal messages next None later e = absurd (no_windows_on messages goal e)
led_data place windows goal messages next (Some after) later e = later after e

-- and where the effects lead is the picture
led_from : (packets : List Packet) (messages : List ToClient) (windows goal : List Window) → readings packets ≡ map Ok messages
    → fold effect_after (Some windows) messages ≡ Some goal → shown None packets windows ≡ clear goal
led_from [] [] windows goal e does = ap clear (same_windows windows goal does) where
  same_windows : (a b : List Window) → Some a ≡ Some b → a ≡ b
  same_windows a b f = cc
led_from [] (m ∷ messages) windows goal e does = absurd (cc)
led_from (p ∷ packets) [] windows goal e does = absurd (cc)
led_from (p ∷ packets) (m ∷ messages) windows goal e does =
    let first : to_client p.value ≡ Ok m = cc in
    let rest : readings packets ≡ map Ok messages = cc in
    ap (λ r. shown_or_shape p.place windows r (shown None packets)) first
    ∙ led_data p.place windows goal messages (shown None packets) (effect windows m) (λ after here. led_from packets messages after goal rest here) does

clear_data : (place : ℕ) (windows goal : List Window) (o : Option (List Window)) (next : List Window → Picture) (P : Type 0)
    → ((after : List Window) → next after ≡ clear goal → P) → shown_or_data place windows o next ≡ clear goal → P
clear_data place windows goal None next P later e = absurd (let f = ap (λ (q : Picture). q.fault) e in cc)
clear_data place windows goal (Some after) next P later e = later after e

clear_shape : (place : ℕ) (windows goal : List Window) (r : Result ToClient ℕ) (next : List Window → Picture) (P : Type 0)
    → ((after : List Window) → next after ≡ clear goal → P) → shown_or_shape place windows r next ≡ clear goal → P
clear_shape place windows goal (Err i) next P later e = absurd (let f = ap (λ (q : Picture). q.fault) e in cc)
clear_shape place windows goal (Ok m) next P later e = clear_data place windows goal (effect windows m) next P later e

ended_clear : (fault : Option Fault) (windows goal : List Window) → ended windows fault ≡ clear goal → fault ≡ None
ended_clear None windows goal e = refl
ended_clear (Some f) windows goal e = absurd (let g = ap (λ (q : Picture). q.fault) e in cc)

-- a fault of the bytes is seen where all packets are shown
no_fault_of_bytes : (fault : Option Fault) (packets : List Packet) (windows goal : List Window) → shown fault packets windows ≡ clear goal → fault ≡ None
no_fault_of_bytes fault [] windows goal e = ended_clear fault windows goal e
no_fault_of_bytes fault (p ∷ packets) windows goal e =
    clear_shape p.place windows goal (to_client p.value) (shown fault packets) (fault ≡ None) (λ after here. no_fault_of_bytes fault packets after goal here) e

pub picture_folds : PictureFolds
picture_folds limit bytes windows =
    let s = packets_of limit bytes in (
      λ e.
          let all : shown s.fault s.packets [] ≡ clear windows = sym (picture_is limit bytes s refl) ∙ e in
          let none = no_fault_of_bytes s.fault s.packets [] windows all in
          let leads = leads_from s.packets [] windows (ap (λ f. shown f s.packets []) (sym none) ∙ all) in
          (leads.0, record { whole = none; read = leads.1; effects = leads.2 }),
      λ leads.
          picture_is limit bytes s refl ∙ ap (λ f. shown f s.packets []) leads.1.whole ∙ led_from s.packets leads.0 [] windows leads.1.read leads.1.effects,
    )
