-- What a client's bytes say, of the forms that are built: a hello, and maps of the script's window.
use Rattle.std.proofs.Common.{◌≡◌, ◌≢◌, ◌⊎◌, inl, inr, ℕ, zero, suc, ◌+◌, ◌-◌, ◌/◌, ◌%◌, ◌^◌, ◌<◌, ◌≤◌, Bool, true, false, List, [], ◌∷◌, ◌++◌, Option, Some, None, length, take, drop, replicate, refl, sym, ap, ◌∙◌, subst, arith}
use Rattle.std.specs.Prelude.{ℤ, pos, negsuc, nat_abs, codes, slice_get, slice_index, All}
use Rattle.std.specs.List.{concat}
use Rattle.std.specs.Fmt.{digits}
use Rattle.std.proofs.lemmas.Bool.{cases_lt}
use Rattle.std.proofs.lemmas.Bool.Decides.{nat_tests}
use Rattle.std.proofs.lemmas.Int.{ints}
use Rattle.std.proofs.lemmas.List.{append_assoc, append-nil, append_cancel_left, length-append, take-append-le}
use Rattle.std.proofs.lemmas.List.Elements.{All-nil, All-append, All-head, All-tail, All-weaker}
use Rattle.std.proofs.Math.Seq.{take-append-add, take-append_seam}
use Rattle.bencode_values.specs.declared.value.Key.TheVariants as K
use Rattle.bencode_values.specs.declared.value.Value.{Value}
use Rattle.bencode_values.specs.declared.value.Value.TheVariants as V
use Rattle.bencode_values.specs.Grammar.{spelled, spelled_bytes, is_in_range, Fits}
use Rattle.bencode_values.proofs.Values.{spelled-Int, spelled-Bytes, spelled-List, spelled-Dict, spelled_pair-record, fits-Bytes, fits-List, fits-Dict, fits-pair}
use Rattle.window_model.specs.Desktop.{Window, IsPlace}
use Rattle.packet_frames.specs.Stream.{Packet, Stream, read_on, packets_of}
use Rattle.packet_frames.specs.Written.{frame_bytes, packet_bytes, MayBeWritten, IsWithin, IsClean, with_packet}
use Rattle.packet_frames.proofs.Writing.{packet_bytes_are, written_follows}
use Rattle.packet_kinds.specs.declared.from_client.FromClient.{FromClient}
use Rattle.packet_kinds.specs.declared.from_client.FromClient.TheVariants as C
use Rattle.packet_kinds.specs.FromClients.{from_value}
use Rattle.packet_kinds.specs.FromFields.{IsSmallPacket}
use Rattle.packet_kinds.specs.FromWritten.{client_bytes, IsClientMessage}
use Rattle.packet_kinds.specs.Talk.{Said, Talk, talk_of, talk}
use Rattle.packet_kinds.proofs.FromSizes.{said_may_be_written, said_is_within}
use Rattle.packet_kinds.proofs.FromWritten.{is_client_message}
use Rattle.packet_kinds.proofs.Talks.{first_talk, continues, message_is_heard, part_is_unheard}
use Rattle.first_script.specs.declared.paint.Paint.{Paint}
use Rattle.first_script.specs.declared.paint.Paint.TheVariants.{Open, Fill}
use Rattle.first_script.specs.Painting.{desk_at}
use Rattle.first_script.specs.Validity.{IsOpenOn, ArePaints}
use Rattle.client_connection.specs.declared.geometry.Geometry.{Geometry}
use Rattle.client_connection.specs.declared.source.Source.{Source}
use Rattle.client_connection.specs.Wire.{packet, exact_hello, geometry_text, map_window}
use Rattle.client_connection.specs.Clients.{ClientSeen}
use Rattle.client_connection.specs.Hearing.{script_window, IsPartOf, Repeats, AreMaps}
use Rattle.client_connection.specs.Delivery.{find_source}
use Rattle.client_connection.specs.Given.{all_said, IsGivenAs, IsGiven, IsShownBy, IsUnmapped, IsHeard}
use Rattle.client_connection.specs.Mapped.{server_limit, SaysMapped, EndsMapped, Maps, MapsTheWindow, SaysMapsAlone, BuiltSaysMapsAlone}
use Rattle.client_connection.proofs.Hearings.{one_more, part_front, whole_front}
use Rattle.client_connection.proofs.Heard.{map_window_some}
use Rattle.client_connection.proofs.Sources.{some_same}
use Rattle.client_connection.proofs.Carried.{IsGeometry}

high_byte : (n : ℕ) → n < 2 ^ 32 → n / 16777216 % 256 ≡ n / 16777216
high_byte n small = omega arith

-- a packet has the bytes that are written
packet_as : (content : List ℕ) → length content < 2 ^ 32 → packet content ≡ frame_bytes 0 content
packet_as content small =
    ap (λ (b : ℕ). 80 ∷ 0 ∷ 0 ∷ 0 ∷ b ∷ length content / 65536 % 256 ∷ length content / 256 % 256 ∷ length content % 256 ∷ content) (high_byte (length content) small)

value_bytes : (v : Value) (content : List ℕ) → spelled v ≡ content → length content < 2 ^ 32 → packet content ≡ packet_bytes v None
value_bytes v content is small = packet_as content small ∙ ap (frame_bytes 0) (sym is) ∙ packet_bytes_are v None

-- nothing was read yet
nothing_clean : IsClean (packets_of server_limit [])
unfolding read_on
nothing_clean = record { fault = refl; rest = refl }

abbrev hello_caps : Value
hello_caps = V.Dict (record { key = K.Bytes (codes "encodings"); value = V.List (V.Bytes (codes "rgb32") ∷ []) } ∷ [])

abbrev hello : FromClient
hello = C.Hello (Some hello_caps)

hello_spelled : spelled (from_value hello) ≡ codes "l5:hellod9:encodingsl5:rgb32eee"
unfolding from_value digits
hello_spelled = simp (spelled-Bytes, spelled-List, spelled-Dict, spelled_pair-record) refl

hello_fits : Fits 32 (from_value hello)
unfolding from_value
hello_fits = fits-List 31 _ (fits-Bytes 31 _ refl, (fits-Dict 30 _ (fits-pair 30 _ _ refl (fits-List 29 _ (fits-Bytes 29 _ refl, tt)), tt), tt))

hello_written : MayBeWritten (from_value hello) None
hello_written = record { limits = hello_fits; sized = rw hello_spelled (omega arith); chunk_fits = tt }

hello_within : IsWithin server_limit (from_value hello) None
hello_within = record { content = rw hello_spelled (omega arith); chunk_content = tt }

hello_bytes : exact_hello ≡ client_bytes hello
hello_bytes = value_bytes (from_value hello) (codes "l5:hellod9:encodingsl5:rgb32eee") hello_spelled (omega arith)

hello_message : IsClientMessage server_limit exact_hello hello
hello_message = is_client_message hello exact_hello tt hello_written hello_bytes server_limit hello_within

-- a part of a hello says nothing
pub part_talk : (given : List ℕ) → IsPartOf given exact_hello → talk server_limit given ≡ record { first = None; said = []; fault = None }
part_talk given part = part_is_unheard server_limit [] exact_hello given part.0 hello nothing_clean hello_message part.2 part.1 ∙ first_talk server_limit

pub talk_of_part : (given : List ℕ) → IsPartOf given exact_hello → (talk server_limit given).said ≡ []
talk_of_part given part = ap (λ (t : Talk). t.said) (part_talk given part)

pub talk_of_part-fault : (given : List ℕ) → IsPartOf given exact_hello → (talk server_limit given).fault ≡ None
talk_of_part-fault given part = ap (λ (t : Talk). t.fault) (part_talk given part)

pub talk_of_part-first : (given : List ℕ) → IsPartOf given exact_hello → (talk server_limit given).first ≡ None
talk_of_part-first given part = ap (λ (t : Talk). t.first) (part_talk given part)

-- behind whole packets a message is one packet more
message_behind : (given bytes : List ℕ) (m : FromClient) → IsClean (packets_of server_limit given) → (is : IsClientMessage server_limit bytes m)
    → packets_of server_limit (given ++ bytes) ≡ with_packet (packets_of server_limit given) is.value None is.value
message_behind given bytes m clean is =
    ap (λ (bs : List ℕ). packets_of server_limit (given ++ bs)) is.bytes_are ∙ written_follows server_limit given is.value None is.value is.written is.within refl clean

-- and they stay whole
clean_behind : (given bytes : List ℕ) (m : FromClient) → IsClean (packets_of server_limit given) → IsClientMessage server_limit bytes m → IsClean (packets_of server_limit (given ++ bytes))
clean_behind given bytes m clean is =
    let behind = message_behind given bytes m clean is in
    record { fault = ap (λ (s : Stream). s.fault) behind; rest = ap (λ (s : Stream). s.rest) behind }

hello_clean : IsClean (packets_of server_limit exact_hello)
hello_clean = clean_behind [] exact_hello hello nothing_clean hello_message

abbrev hello_packet : Packet
hello_packet = record { place = 0; value = hello_message.value }

hello_talk : talk server_limit exact_hello ≡ record { first = Some hello_packet; said = []; fault = None }
unfolding talk read_on
hello_talk = ap (λ (s : Stream). talk_of s.fault s.packets) (message_behind [] exact_hello hello nothing_clean hello_message)

-- the map of a window as a message
abbrev pub further_of : Geometry → List Value
further_of g = V.Int g.x ∷ V.Int g.y ∷ V.Int (pos g.w) ∷ V.Int (pos g.h) ∷ []

abbrev pub map_message : Geometry → FromClient
map_message g = C.MapWindow (pos g.wid) (further_of g)

name_spelled : spelled_bytes (codes "map-window") ≡ codes "10:map-window"
unfolding digits
name_spelled = refl

map_spelled : (g : Geometry) → spelled (from_value (map_message g)) ≡ codes "l10:map-window" ++ geometry_text g ++ codes "e"
unfolding from_value
map_spelled g = simp (spelled-Int, spelled-Bytes, spelled-List, name_spelled, append_assoc) refl

in_range : (n : ℕ) → n < 2 ^ 63 → is_in_range (pos n) ≡ true
in_range n h = grind (arith, nat_tests)

place_in_range : (x : ℤ) → IsPlace x → is_in_range x ≡ true
place_in_range (pos n) is = in_range n (omega (arith, ints, is.most))
place_in_range (negsuc n) is = in_range n (omega (arith, ints, is.least))

map_small : (g : Geometry) → IsGeometry g → IsSmallPacket (map_message g)
map_small g is = (
  in_range g.wid (omega (arith, is.number.last)),
  record {
    integers = (
      (g.x, refl, place_in_range g.x is.across),
      (
        (g.y, refl, place_in_range g.y is.down),
        ((pos g.w, refl, in_range g.w (omega (arith, is.wide.most))), ((pos g.h, refl, in_range g.h (omega (arith, is.high.most))), tt)),
      ),
    );
    most = omega arith;
  },
)

map_is_message : (g : Geometry) → IsGeometry g → IsClientMessage server_limit (map_window g) (map_message g)
map_is_message g is =
    let may = said_may_be_written (map_message g) (map_small g is) in
    let within = said_is_within (map_message g) server_limit (map_small g is) (omega arith) in
    let small : length (codes "l10:map-window" ++ geometry_text g ++ codes "e") < 2 ^ 32 = subst (λ (bs : List ℕ). length bs < 2 ^ 32) (map_spelled g) may.sized in
    is_client_message (map_message g) (map_window g) tt may (value_bytes (from_value (map_message g)) _ (map_spelled g) small) server_limit within

-- a talk of a hello and so many maps
pub record IsMapTalk (g : Geometry) (count : ℕ) (t : Talk) : Type 0 where
  pub first : t.first ≢ None
  pub fault : t.fault ≡ None
  pub counted : length t.said ≡ count
  pub maps : All (λ (m : Said). m.message ≡ map_message g) t.said

-- one map more
map_said : (g : Geometry) (count place : ℕ) (t all : Talk) → IsMapTalk g count t → all ≡ record t { said = t.said ++ record { place = place; message = map_message g } ∷ [] } → IsMapTalk g (suc count) all
map_said g count place t all is e = subst (IsMapTalk g (suc count)) (sym e) (record {
  first = is.first;
  fault = is.fault;
  counted = let sizes = length-append t.said (record { place = place; message = map_message g } ∷ []) in let before = is.counted in omega (arith, sizes, before);
  maps = All-append (λ (m : Said). m.message ≡ map_message g) t.said _ is.maps one;
})
  where
    one : All (λ (m : Said). m.message ≡ map_message g) (record { place = place; message = map_message g } ∷ [])
    one zero d within = refl
    one (suc k) d within = absurd (omega arith)

-- whole packets, that are a hello and so many maps
record AreHandled (g : Geometry) (count : ℕ) (given : List ℕ) : Type 0 where
  pub clean : IsClean (packets_of server_limit given)
  pub talks : IsMapTalk g count (talk server_limit given)

next_handled : (g : Geometry) (count : ℕ) (given : List ℕ) → IsGeometry g → AreHandled g count given → AreHandled g (suc count) (given ++ map_window g)
next_handled g count given is handled =
    let m = map_is_message g is in
    record {
      clean = clean_behind given (map_window g) (map_message g) handled.clean m;
      talks = map_said g count _ (talk server_limit given) _ handled.talks (message_is_heard server_limit given (map_window g) (map_message g) handled.clean handled.talks.fault handled.talks.first m);
    }

maps_more : (packet : List ℕ) (count : ℕ) → concat (replicate (suc count) packet) ≡ concat (replicate count packet) ++ packet
maps_more packet count =
    sym (append-nil (concat (replicate (suc count) packet))) ∙ sym (one_more packet count []) ∙ ap (λ (bs : List ℕ). concat (replicate count packet) ++ bs) (append-nil packet)

-- a hello and so many maps
abbrev handled_bytes : Geometry → ℕ → List ℕ
handled_bytes g count = exact_hello ++ concat (replicate count (map_window g))

handled_next : (g : Geometry) (count : ℕ) → handled_bytes g (suc count) ≡ handled_bytes g count ++ map_window g
handled_next g count = ap (λ (bs : List ℕ). exact_hello ++ bs) (maps_more (map_window g) count) ∙ sym (append_assoc exact_hello (concat (replicate count (map_window g))) (map_window g))

are_handled : (g : Geometry) → IsGeometry g → (count : ℕ) → AreHandled g count (handled_bytes g count)
are_handled g is zero = subst (AreHandled g zero) (sym (append-nil exact_hello)) (record {
  clean = hello_clean;
  talks = subst (IsMapTalk g zero) (sym hello_talk) (record { first = λ none. cc; fault = refl; counted = refl; maps = All-nil _ });
})
are_handled g is (suc count) = subst (AreHandled g (suc count)) (sym (handled_next g count)) (next_handled g count (handled_bytes g count) is (are_handled g is count))

-- a part of a map more says nothing more
handled_part : (g : Geometry) (count : ℕ) (rest : List ℕ) → IsGeometry g → IsPartOf rest (map_window g) → talk server_limit (handled_bytes g count ++ rest) ≡ talk server_limit (handled_bytes g count)
handled_part g count rest is part =
    part_is_unheard server_limit (handled_bytes g count) (map_window g) rest part.0 (map_message g) (are_handled g is count).clean (map_is_message g is) part.2 part.1

given_as : (g : Geometry) (count : ℕ) (maps rest : List ℕ) → maps ≡ concat (replicate count (map_window g)) ++ rest → exact_hello ++ maps ≡ handled_bytes g count ++ rest
given_as g count maps rest is = ap (λ (bs : List ℕ). exact_hello ++ bs) is ∙ sym (append_assoc exact_hello (concat (replicate count (map_window g))) rest)

pub talk_of_maps : (g : Geometry) (count : ℕ) (maps rest : List ℕ) → IsGeometry g → Repeats (map_window g) count rest maps → IsMapTalk g count (talk server_limit (exact_hello ++ maps))
talk_of_maps g count maps rest is repeats =
    subst (IsMapTalk g count) (sym (ap (talk server_limit) (given_as g count maps rest repeats.0) ∙ handled_part g count rest is repeats.1)) (are_handled g is count).talks

-- where no window is opened a client says its hello alone
alone_talk : (maps : List ℕ) → maps ≡ [] → talk server_limit (exact_hello ++ maps) ≡ record { first = Some hello_packet; said = []; fault = None }
alone_talk maps none = ap (λ (bs : List ℕ). talk server_limit (exact_hello ++ bs)) none ∙ ap (talk server_limit) (append-nil exact_hello) ∙ hello_talk

pub talk_of_hello : (maps : List ℕ) → maps ≡ [] → (talk server_limit (exact_hello ++ maps)).said ≡ []
talk_of_hello maps none = ap (λ (t : Talk). t.said) (alone_talk maps none)

pub talk_of_hello-fault : (maps : List ℕ) → maps ≡ [] → (talk server_limit (exact_hello ++ maps)).fault ≡ None
talk_of_hello-fault maps none = ap (λ (t : Talk). t.fault) (alone_talk maps none)

pub talk_of_hello-first : (maps : List ℕ) → maps ≡ [] → (talk server_limit (exact_hello ++ maps)).first ≢ None
talk_of_hello-first maps none = λ first. no_first _ (sym (ap (λ (t : Talk). t.first) (alone_talk maps none)) ∙ first)
  where
    no_first : (p : Packet) → Some p ≡ None → ⊥
    no_first p is = cc is

-- a script's window is one that it opens
opens_at : (lines : List Paint) (g : Geometry) → script_window lines ≡ Some g → (place : ℕ) × (slice_get lines place ≡ Some (Open g.wid g.x g.y g.w g.h))
opens_at [] g is = absurd (cc is)
opens_at (Open wid x y w h ∷ lines) g is = (0, ap (λ (k : Geometry). Some (Open k.wid k.x k.y k.w k.h)) (some_same _ g is))
opens_at (Fill wid x y w h colour ∷ lines) g is = let later = opens_at lines g is in (suc later.0, later.1)

pub script_geometry : (lines : List Paint) (g : Geometry) → ArePaints lines → script_window lines ≡ Some g → IsGeometry g
script_geometry lines g paints is =
    let at = opens_at lines g is in
    let opens : IsOpenOn (desk_at lines at.0) g.wid g.x g.y g.w g.h = paints at.0 _ at.1 in
    record { number = record { first = opens.first; last = omega (arith, opens.last) }; across = opens.across; down = opens.down; wide = opens.wide; high = opens.high }

-- what holds of all holds of one
in_middle : (P : Said → Type 0) (before after : List Said) (m : Said) → All P (before ++ m ∷ after) → P m
in_middle P [] after m all = All-head P m after all
in_middle P (b ∷ before) after m all = in_middle P before after m (All-tail P b (before ++ m ∷ after) all)

-- a map that maps a window is one of it
maps_that : (wid : ℕ) (g : Geometry) (m : FromClient) → m ≡ map_message g → SaysMapped wid m → g.wid ≡ wid
maps_that wid g m is says = ap nat_abs (subst (SaysMapped wid) is says)

-- a talk of maps that ends with a window's map is one of that window, and has the map behind fewer than all
ends_with : (g : Geometry) (all wid count : ℕ) (t : Talk) → IsMapTalk g all t → EndsMapped wid count t.said → (g.wid ≡ wid) × (count < all)
ends_with g all wid count t is ends =
    let m = in_middle (λ (m : Said). m.message ≡ map_message g) ends.before ends.after ends.message (subst (All (λ (m : Said). m.message ≡ map_message g)) ends.said_is is.maps) in
    let sizes = ap length ends.said_is ∙ length-append ends.before (ends.message ∷ ends.after) in
    let counted = is.counted in
    let before = ends.count_is in
    (maps_that wid g ends.message.message m ends.maps, omega (arith, sizes, counted, before))

none_ends : (wid count : ℕ) (said : List Said) → said ≡ [] → EndsMapped wid count said → ⊥
none_ends wid count said none ends =
    let sizes = ap length (sym none ∙ ends.said_is) ∙ length-append ends.before (ends.message ∷ ends.after) in
    absurd (omega (arith, sizes))

-- so many bytes of a hello and its maps say all that they do
said_early : (g : Geometry) (count n : ℕ) (given rest : List ℕ) → IsGeometry g → given ≡ handled_bytes g count ++ rest → length given ≤ n + length rest → count ≤ length (talk server_limit (take n given)).said
said_early g count n given rest is parts long =
    let handled : List ℕ = handled_bytes g count in
    let sizes = ap length parts ∙ length-append handled rest in
    let enough : length handled + (n - length handled) ≡ n = omega (arith, sizes, long) in
    let front : take n given ≡ handled ++ take (n - length handled) rest =
    ap (take n) parts ∙ ap (λ k. take k (handled ++ rest)) (sym enough) ∙ take-append-add handled rest (n - length handled) in
    let on = continues server_limit handled (take (n - length handled) rest) in
    let said = ap length on.said ∙ length-append (talk server_limit handled).said on.more in
    let counted = (are_handled g is count).talks.counted in
    let same = ap (λ (bs : List ℕ). length (talk server_limit bs).said) front in
    omega (arith, said, counted, same)

nothing : (s : Source) → None ≡ Some s → ⊥
nothing s is = cc is

-- a source of the window is mapped, or all that there is of it is not
mapped_else : (sources : List Source) (wid : ℕ) (o : Option Source) → find_source sources wid ≡ o → (IsUnmapped sources wid → ⊥) → (s : Source) × (find_source sources wid ≡ Some s) × (s.mapped ≡ true)
mapped_else sources wid None found not = absurd (not (λ s here. absurd (nothing s (sym found ∙ here))))
mapped_else sources wid (Some s) found not = go s.mapped refl
  where
    go : (b : Bool) → s.mapped ≡ b → (t : Source) × (find_source sources wid ≡ Some t) × (t.mapped ≡ true)
    go true is = (s, found, is)
    go false is = absurd (not (λ t here. subst (λ (u : Source). u.mapped ≡ false) (some_same s t (sym found ∙ here)) is))

module _ (lines : List Paint) (desk : List Window) (c : ClientSeen) (sent given heard : List ℕ) (wid : ℕ) (kept : IsHeard lines desk c sent given heard) (maps : Maps wid sent given heard) where
  greeted_marked : (g : Geometry) → script_window lines ≡ Some g → IsGeometry g → (said : List ℕ) → given ≡ exact_hello ++ said → Repeats (map_window g) c.maps c.unread said → IsUnmapped c.sources wid → ⊥
  greeted_marked g is fits said whole repeats unmapped =
      let parts : given ≡ handled_bytes g c.maps ++ c.unread = whole ∙ given_as g c.maps said c.unread repeats.0 in
      let talks : IsMapTalk g c.maps (talk server_limit given) = subst (λ (bs : List ℕ). IsMapTalk g c.maps (talk server_limit bs)) (sym whole) (talk_of_maps g c.maps said c.unread fits repeats) in
      let ends = ends_with g c.maps wid maps.count (talk server_limit given) talks maps.mapped in
      let long = kept.marks g maps.place is (subst (IsUnmapped c.sources) (sym ends.0) unmapped) maps.within (subst (IsShownBy sent maps.place) (sym ends.0) maps.shown) in
      let early = said_early g c.maps (slice_index heard maps.place) given c.unread fits parts long in
      let later = maps.later in
      let fewer = ends.1 in
      absurd (omega (arith, early, later, fewer))

  given_marked : (o : Option Geometry) → script_window lines ≡ o → ((g : Geometry) → script_window lines ≡ Some g → IsGeometry g) → (said : List ℕ) → given ≡ exact_hello ++ said → AreMaps o c.maps c.unread said
      → IsUnmapped c.sources wid → ⊥
  given_marked None is fits said whole are unmapped =
      none_ends wid maps.count (talk server_limit given).said (ap (λ (bs : List ℕ). (talk server_limit bs).said) whole ∙ talk_of_hello said are.2) maps.mapped
  given_marked (Some g) is fits said whole are unmapped = greeted_marked g is (fits g is) said whole are unmapped

  unmapped_never : (b : Bool) → c.greeted ≡ b → ((g : Geometry) → script_window lines ≡ Some g → IsGeometry g) → IsGivenAs b lines c given → IsUnmapped c.sources wid → ⊥
  unmapped_never false off fits is unmapped = none_ends wid maps.count (talk server_limit given).said (talk_of_part given (subst (λ (bs : List ℕ). IsPartOf bs exact_hello) (sym is.1) is.2)) maps.mapped
  unmapped_never true on fits is unmapped = given_marked (script_window lines) refl fits is.0 is.1 is.2 unmapped

-- a window that the client mapped is marked
pub maps_marked : (lines : List Paint) (desk : List Window) (c : ClientSeen) (sent given heard : List ℕ) (wid : ℕ) → ((g : Geometry) → script_window lines ≡ Some g → IsGeometry g) → IsGiven lines c given
    → IsHeard lines desk c sent given heard → Maps wid sent given heard → (s : Source) × (find_source c.sources wid ≡ Some s) × (s.mapped ≡ true)
maps_marked lines desk c sent given heard wid fits is kept maps =
    mapped_else c.sources wid (find_source c.sources wid) refl (unmapped_never lines desk c sent given heard wid kept maps c.greeted refl fits is)

-- bytes that begin as others do are a part of their first packet, or it and what begins as the rest does
front_cases : (packet tail given more : List ℕ) → given ++ more ≡ packet ++ tail → IsPartOf given packet ⊎ ((later : List ℕ) × (given ≡ packet ++ later) × (later ++ more ≡ tail))
front_cases packet tail given more is = go (cases_lt (length given) (length packet))
  where
    go : (length given < length packet) ⊎ (length packet ≤ length given) → IsPartOf given packet ⊎ ((later : List ℕ) × (given ≡ packet ++ later) × (later ++ more ≡ tail))
    go (inl short) =
        let front : take (length given) packet ≡ given = sym (take-append-le (length given) packet tail (omega arith)) ∙ ap (take (length given)) (sym is) ∙ take-append_seam given more in
        inl (part_front given packet short front)
    go (inr long) =
        let front : take (length packet) given ≡ packet = sym (take-append-le (length packet) given more long) ∙ ap (take (length packet)) is ∙ take-append_seam packet tail in
        let whole = whole_front given packet front in
        let later : List ℕ = drop (length packet) given in
        inr (later, whole, append_cancel_left packet (later ++ more) tail (sym (append_assoc packet later more) ∙ ap (λ bs. bs ++ more) (sym whole) ∙ is))

no_bytes : (given more : List ℕ) → given ++ more ≡ [] → given ≡ []
no_bytes [] more none = refl
no_bytes (b ∷ given) more none = absurd (cc none)

-- the front of so many packets is some of them, and a part of one
front_repeats : (packet : List ℕ) → 0 < length packet → (n : ℕ) (given more : List ℕ) → given ++ more ≡ concat (replicate n packet) → (count : ℕ) × (rest : List ℕ) × Repeats packet count rest given
front_repeats packet some zero given more is = (0, [], (no_bytes given more is, (packet, (λ none. absurd (let size = ap length none in omega (arith, size, some))), refl)))
front_repeats packet some (suc n) given more is = go (front_repeats packet some n) (front_cases packet (concat (replicate n packet)) given more is)
  where
    go : ((given more : List ℕ) → given ++ more ≡ concat (replicate n packet) → (count : ℕ) × (rest : List ℕ) × Repeats packet count rest given)
        → IsPartOf given packet ⊎ ((later : List ℕ) × (given ≡ packet ++ later) × (later ++ more ≡ concat (replicate n packet))) → (count : ℕ) × (rest : List ℕ) × Repeats packet count rest given
    go fewer (inl part) = (0, given, (refl, part))
    go fewer (inr later) =
        let less = fewer later.0 more later.2 in
        (suc less.0, less.1, (later.1 ∙ ap (λ bs. packet ++ bs) less.2.0 ∙ sym (append_assoc packet (concat (replicate less.0 packet)) less.1), less.2.1))

-- a part of the hello says nothing, and so many maps say themselves
part_says : (lines : List Paint) (given : List ℕ) → IsPartOf given exact_hello → SaysMapsAlone lines (talk server_limit given)
part_says lines given part = subst (SaysMapsAlone lines) (sym (part_talk given part)) (record { fault = refl; maps = All-nil _ })

maps_say : (lines : List Paint) (g : Geometry) (count : ℕ) (t : Talk) → script_window lines ≡ Some g → IsMapTalk g count t → SaysMapsAlone lines t
maps_say lines g count t found is = record {
  fault = is.fault;
  maps = All-weaker (λ (m : Said). m.message ≡ map_message g) (λ (m : Said). MapsTheWindow (script_window lines) m.message)
      (λ m same. subst (λ (o : Option Geometry). MapsTheWindow o m.message) (sym found) (subst (SaysMapped g.wid) (sym same) refl)) t.said is.maps;
}

-- a front of a hello and so many maps
front_says : (lines : List Paint) (g : Geometry) (n : ℕ) (given more : List ℕ) → IsGeometry g → script_window lines ≡ Some g → given ++ more ≡ handled_bytes g n → SaysMapsAlone lines (talk server_limit given)
front_says lines g n given more fits found is = go (front_cases exact_hello (concat (replicate n (map_window g))) given more is)
  where
    go : IsPartOf given exact_hello ⊎ ((later : List ℕ) × (given ≡ exact_hello ++ later) × (later ++ more ≡ concat (replicate n (map_window g)))) → SaysMapsAlone lines (talk server_limit given)
    go (inl part) = part_says lines given part
    go (inr later) =
        let repeats = front_repeats (map_window g) (map_window_some g) n later.0 more later.2 in
        subst (λ (bs : List ℕ). SaysMapsAlone lines (talk server_limit bs)) (sym later.1) (maps_say lines g repeats.0 _ found (talk_of_maps g repeats.0 later.0 repeats.1 fits repeats.2))

hello_says : (lines : List Paint) (given more : List ℕ) → given ++ more ≡ exact_hello → SaysMapsAlone lines (talk server_limit given)
hello_says lines given more is = go (front_cases exact_hello [] given more (is ∙ sym (append-nil exact_hello)))
  where
    go : IsPartOf given exact_hello ⊎ ((later : List ℕ) × (given ≡ exact_hello ++ later) × (later ++ more ≡ [])) → SaysMapsAlone lines (talk server_limit given)
    go (inl part) = part_says lines given part
    go (inr later) =
        let none = no_bytes later.0 more later.2 in
        subst (λ (bs : List ℕ). SaysMapsAlone lines (talk server_limit bs)) (sym later.1) (record {
          fault = talk_of_hello-fault later.0 none;
          maps = subst (All (λ (m : Said). MapsTheWindow (script_window lines) m.message)) (sym (talk_of_hello later.0 none)) (All-nil _);
        })

-- bytes of a form that is built say maps of the script's window alone
pub built_says : BuiltSaysMapsAlone
built_says lines given paints is = go (script_window lines) refl is
  where
    go : (o : Option Geometry) → script_window lines ≡ o → (more : List ℕ) × (given ++ more ≡ all_said o) → SaysMapsAlone lines (talk server_limit given)
    go None found is = hello_says lines given is.0 is.1
    go (Some g) found is = front_says lines g 1000 given is.0 (script_geometry lines g paints found) found is.1
