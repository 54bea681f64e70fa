-- The bytes that a client gave, and what a session handled of them.
use Rattle.std.proofs.Common.{◌≡◌, ◌≢◌, ◌⊎◌, inl, inr, ℕ, zero, suc, ◌+◌, ◌-◌, ◌*◌, ◌^◌, ◌<◌, ◌≤◌, Bool, true, false, Option, Some, None, List, [], ◌∷◌, ◌++◌, length, replicate, drop, cond, refl, ap, ◌∙◌, sym, subst, arith}
use Rattle.std.specs.List.{concat}
use Rattle.std.specs.Prelude.{nat_lt, codes, ℤ, pos, negsuc}
use Rattle.std.specs.Fmt.{decimal, signed_decimal}
use lib.Signed.{mag}
use Rattle.std.proofs.lemmas.Bool.{cases_lt}
use Rattle.std.proofs.lemmas.Int.{ints}
use Rattle.std.proofs.lemmas.List.{length-append, append_cancel_left, append_assoc, append-nil}
use Rattle.window_model.specs.Desktop.{Window, IsPlace}
use Rattle.first_script.specs.declared.paint.Paint.{Paint}
use Rattle.first_script.specs.declared.paint.Paint.TheVariants.{Open, Fill}
use Rattle.client_connection.specs.declared.geometry.Geometry.{Geometry}
use Rattle.client_connection.specs.declared.packet.Packet.{Packet}
use Rattle.client_connection.specs.declared.answers.Captured.{Captured}
use Rattle.client_connection.specs.declared.answers.Captured.TheVariants as C
use Rattle.client_connection.specs.Clients.{ClientSeen, fresh_client, fresh_source, structure_packet, attached, captured, taken_more, front_size, painted_client}
use Rattle.client_connection.specs.Wire.{exact_hello, packet, map_window, new_window}
use Rattle.client_connection.specs.Hearing.{script_window, IsPartOf, Repeats, AreMaps, after_maps, begun, HearsFirst, HearsAs, Hears, IsUnbuilt}
use Rattle.client_connection.specs.Capturing.{CapturesWindow}
use Rattle.client_connection.specs.Given.{all_said, IsBuilt, HasHello, IsGivenAs, IsGiven}
use Rattle.client_connection.proofs.Hearings.{one_more, concat_size, part_shorter, repeats_behind}
use Rattle.client_connection.proofs.Heard.{hears_on, hears_first, map_window_some}
use Rattle.client_connection.proofs.Texts.{number_short, signed_short}
use Rattle.client_connection.proofs.Carried.{IsGeometry}

-- so many packets, and so many more
packets_sum : (packet : List ℕ) (m n : ℕ) → concat (replicate m packet) ++ concat (replicate n packet) ≡ concat (replicate (m + n) packet)
packets_sum packet zero n = ap (λ k. concat (replicate k packet)) (omega arith)
packets_sum packet (suc m) n =
    let sum : suc (m + n) ≡ suc m + n = omega arith in
    append_assoc packet (concat (replicate m packet)) (concat (replicate n packet)) ∙ ap (λ xs. packet ++ xs) (packets_sum packet m n) ∙ ap (λ k. concat (replicate k packet)) sum

-- packets more, behind those before
repeats_more : (packet : List ℕ) (count m : ℕ) (unread rest maps bytes : List ℕ) → maps ≡ concat (replicate count packet) ++ unread → Repeats packet m rest (unread ++ bytes) → Repeats packet (count + m) rest (maps ++ bytes)
repeats_more packet count m unread rest maps bytes is more = (
  ap (λ xs. xs ++ bytes) is ∙ append_assoc (concat (replicate count packet)) unread bytes ∙ ap (λ xs. concat (replicate count packet) ++ xs) more.0
      ∙ sym (append_assoc (concat (replicate count packet)) (concat (replicate m packet)) rest) ∙ ap (λ xs. xs ++ rest) (packets_sum packet count m),
  more.1,
)

-- the same of maps of the script's window
maps_more : (o : Option Geometry) (count m : ℕ) (unread rest maps bytes : List ℕ) → AreMaps o count unread maps → AreMaps o m rest (unread ++ bytes) → AreMaps o (count + m) rest (maps ++ bytes)
maps_more None count m unread rest maps bytes old new = (
  omega (arith, old.0, new.0),
  new.1,
  ap (λ xs. xs ++ bytes) (old.2 ∙ sym old.1) ∙ new.2,
)
maps_more (Some g) count m unread rest maps bytes old new = repeats_more (map_window g) count m unread rest maps bytes old.0 new

-- where the bytes begin alike, what is longer begins with what is shorter
front_of : (zs ws xs ys : List ℕ) → xs ++ ys ≡ zs ++ ws → length zs ≤ length xs → (t : List ℕ) × (xs ≡ zs ++ t) × (t ++ ys ≡ ws)
front_of [] ws xs ys is long = (xs, refl, is)
front_of (z ∷ zs) ws [] ys is long = absurd (omega (arith, long))
front_of (z ∷ zs) ws (x ∷ xs) ys is long =
    let head : x ≡ z = cc is in
    let tail : xs ++ ys ≡ zs ++ ws = cc is in
    let behind = front_of zs ws xs ys tail (omega (arith, long)) in
    (behind.0, ap (λ a. a ∷ xs) head ∙ ap (λ bs. z ∷ bs) behind.1, behind.2)

-- fewer bytes than the packet has, where both begin alike, are a part of it
part_of : (packet ws bytes ys : List ℕ) → bytes ++ ys ≡ packet ++ ws → length bytes < length packet → IsPartOf bytes packet
part_of packet ws bytes ys is short =
    let behind = front_of bytes ys packet ws (sym is) (omega (arith, short)) in
    (behind.0, λ none. absurd (longer behind.0 behind.1 none), behind.1)
  where
    longer : (t : List ℕ) → packet ≡ bytes ++ t → t ≡ [] → ⊥
    longer t are none = let sizes = ap length (are ∙ ap (λ xs. bytes ++ xs) none ∙ append-nil bytes) in omega (arith, sizes, short)

-- a front of nothing is nothing
nothing_front : (xs ys : List ℕ) → xs ++ ys ≡ [] → xs ≡ []
nothing_front [] ys is = refl
nothing_front (x ∷ xs) ys is = absurd (cc is)

-- at most one map has begun
begun_most : (rest : List ℕ) → begun rest ≤ 1
begun_most [] = omega arith
begun_most (b ∷ rest) = omega arith

-- a front of so many packets is as many or fewer, and then a part of one
front_repeats : (packet : List ℕ) → packet ≢ [] → (n : ℕ) (bytes more : List ℕ) → bytes ++ more ≡ concat (replicate n packet) → (count : ℕ) × (rest : List ℕ) × Repeats packet count rest bytes × (count + begun rest ≤ n)
front_repeats packet some zero bytes more is = (0, [], (nothing_front bytes more is, (packet, some, refl)), omega arith)
front_repeats packet some (suc n) bytes more is = go (cases_lt (length bytes) (length packet)) (λ tail are. front_repeats packet some n tail more are)
  where
    go : (length bytes < length packet) ⊎ (length packet ≤ length bytes)
        → ((tail : List ℕ) → tail ++ more ≡ concat (replicate n packet) → (count : ℕ) × (rest : List ℕ) × Repeats packet count rest tail × (count + begun rest ≤ n))
        → (count : ℕ) × (rest : List ℕ) × Repeats packet count rest bytes × (count + begun rest ≤ suc n)
    go (inl short) fewer = let most = begun_most bytes in (0, bytes, (refl, part_of packet (concat (replicate n packet)) bytes more is short), omega (arith, most))
    go (inr long) fewer =
        let behind = front_of packet (concat (replicate n packet)) bytes more is long in
        let less = fewer behind.0 behind.2 in
        let low = less.3 in (
          suc less.0,
          less.1,
          (
            behind.1 ∙ ap (λ xs. packet ++ xs) less.2.0 ∙ sym (append_assoc packet (concat (replicate less.0 packet)) less.1),
            less.2.1,
          ),
          omega (arith, low),
        )

-- the same behind a hello
said_front : (hello packet : List ℕ) → packet ≢ [] → (n : ℕ) (maps more : List ℕ) → (hello ++ maps) ++ more ≡ hello ++ concat (replicate n packet)
    → (count : ℕ) × (rest : List ℕ) × Repeats packet count rest maps × (count + begun rest ≤ n)
said_front hello packet some n maps more is = front_repeats packet some n maps more (append_cancel_left hello _ _ (sym (append_assoc hello maps more) ∙ is))

-- a map and a hello are not empty
some_map : (g : Geometry) → map_window g ≢ []
some_map g none = absurd (cc none)

-- the same of all that a client may say
maps_front : (o : Option Geometry) (maps more : List ℕ) → (exact_hello ++ maps) ++ more ≡ all_said o → (count : ℕ) × (rest : List ℕ) × AreMaps o count rest maps × (count + begun rest ≤ 1000)
maps_front None maps more is =
    let none : maps ++ more ≡ [] = append_cancel_left exact_hello _ _ (sym (append_assoc exact_hello maps more) ∙ is ∙ sym (append-nil exact_hello)) in
    (0, [], (refl, refl, nothing_front maps more none), omega arith)
maps_front (Some g) maps more is = said_front exact_hello (map_window g) (some_map g) 1000 maps more is

-- maps and a part of one, which begin with what was handled
maps_behind : (o : Option Geometry) (count n : ℕ) (unread rest maps bytes : List ℕ) → AreMaps o count unread maps → AreMaps o n rest (maps ++ bytes) → (m : ℕ) × (n ≡ count + m) × AreMaps o m rest (unread ++ bytes)
maps_behind None count n unread rest maps bytes old all = (0, omega (arith, old.0, all.0), (refl, all.1, ap (λ xs. xs ++ bytes) (old.1 ∙ sym old.2) ∙ all.2))
maps_behind (Some g) count n unread rest maps bytes old all =
    repeats_behind (map_window g) (map_window_some g) count n (unread ++ bytes) rest (maps ++ bytes)
    (ap (λ xs. xs ++ bytes) old.0 ∙ append_assoc (concat (replicate count (map_window g))) unread bytes) all

-- all that a client may say begins with a hello
said_is : (o : Option Geometry) → (tail : List ℕ) × (all_said o ≡ exact_hello ++ tail)
said_is None = ([], sym (append-nil exact_hello))
said_is (Some g) = (concat (replicate 1000 (map_window g)), refl)

some_hello : exact_hello ≢ []
some_hello none = absurd (cc none)

-- a connection that was just accepted gave nothing
pub given_fresh : (lines : List Paint) → IsGiven lines fresh_client []
given_fresh lines = (refl, refl, (exact_hello, some_hello, refl))

-- the hello and so many maps were given, and handled
given_after : (lines : List Paint) (c c' : ClientSeen) (given maps : List ℕ) (count : ℕ) (rest : List ℕ) → c.greeted ≡ true → given ≡ exact_hello ++ maps → AreMaps (script_window lines) (c.maps + count) rest maps
    → c.maps + count + begun rest ≤ 1000 → c' ≡ after_maps (script_window lines) count rest c → IsGiven lines c' given
given_after lines c c' given maps count rest on is are small after =
    subst (λ (d : ClientSeen). IsGiven lines d given) (sym after)
    (subst (λ b. IsGivenAs b lines (after_maps (script_window lines) count rest c) given) (sym on) (maps, is, are, small))

-- more was read
pub given_heard : (lines : List Paint) (desk : List Window) (c c' : ClientSeen) (given bytes : List ℕ) → Hears lines desk c bytes c' → IsGiven lines c given → IsGiven lines c' (given ++ bytes)
given_heard lines desk c c' given bytes hears is = go c.greeted refl hears is
  where
    first : c.greeted ≡ false → HearsFirst lines desk c (c.unread ++ bytes) c' → IsGivenAs false lines c given → IsGiven lines c' (given ++ bytes)
    first off (inl part) is =
        subst (λ (d : ClientSeen). IsGiven lines d (given ++ bytes)) (sym part.1)
        (subst (λ b. IsGivenAs b lines (record c { unread = c.unread ++ bytes }) (given ++ bytes)) (sym off) (is.0, ap (λ xs. xs ++ bytes) is.1, part.0))
    first off (inr hello) is =
        let maps = hello.2 in
        let sum : maps.0 ≡ c.maps + maps.0 = let none = is.0 in omega (arith, none) in
        given_after lines (attached desk c) c' (given ++ bytes) hello.0 maps.0 maps.1 refl (ap (λ xs. xs ++ bytes) is.1 ∙ hello.1)
        (subst (λ n. AreMaps (script_window lines) n maps.1 hello.0) sum maps.2) maps.3 maps.4

    go : (b : Bool) → c.greeted ≡ b → HearsAs b lines desk c (c.unread ++ bytes) c' → IsGivenAs b lines c given → IsGiven lines c' (given ++ bytes)
    go true on hears is =
        given_after lines c c' (given ++ bytes) (is.0 ++ bytes) hears.0 hears.1 on (ap (λ xs. xs ++ bytes) is.1 ∙ append_assoc exact_hello is.0 bytes)
        (maps_more (script_window lines) c.maps hears.0 c.unread hears.1 is.0 bytes is.2 hears.2) hears.3 hears.4
    go false off hears is = first off hears is

-- bytes more that are of a form that is built are heard
unbuilt_maps : (lines : List Paint) (desk : List Window) (c : ClientSeen) (given bytes more : List ℕ) → c.greeted ≡ true → IsUnbuilt lines desk c bytes → IsGivenAs true lines c given
    → (given ++ bytes) ++ more ≡ all_said (script_window lines) → ⊥
unbuilt_maps lines desk c given bytes more on unbuilt is all =
    let front = maps_front (script_window lines) (is.0 ++ bytes) more (ap (λ xs. xs ++ more) (sym (append_assoc exact_hello is.0 bytes)) ∙ ap (λ xs. (xs ++ bytes) ++ more) (sym is.1) ∙ all) in
    let behind = maps_behind (script_window lines) c.maps front.0 c.unread front.1 is.0 bytes is.2 front.2 in
    let small : c.maps + behind.0 + begun front.1 ≤ 1000 = let sum = behind.1 in let low = front.3 in omega (arith, sum, low) in
    unbuilt (after_maps (script_window lines) behind.0 front.1 c) (hears_on lines desk c bytes _ on (behind.0, front.1, behind.2, small, refl))

-- the same before its hello was accepted
unbuilt_first : (lines : List Paint) (desk : List Window) (c : ClientSeen) (bytes more : List ℕ) → c.greeted ≡ false → IsUnbuilt lines desk c bytes → c.maps ≡ 0
    → (c.unread ++ bytes) ++ more ≡ all_said (script_window lines) → ⊥
unbuilt_first lines desk c bytes more off unbuilt none all = go (said_is (script_window lines)) (cases_lt (length (c.unread ++ bytes)) (length exact_hello))
  where
    go : (tail : List ℕ) × (all_said (script_window lines) ≡ exact_hello ++ tail) → (length (c.unread ++ bytes) < length exact_hello) ⊎ (length exact_hello ≤ length (c.unread ++ bytes)) → ⊥
    go said (inl short) =
        let part = part_of exact_hello said.0 (c.unread ++ bytes) more (all ∙ said.1) short in
        unbuilt (record c { unread = c.unread ++ bytes }) (subst (λ b. HearsAs b lines desk c (c.unread ++ bytes) (record c { unread = c.unread ++ bytes })) (sym off) (inl (part, refl)))
    go said (inr long) =
        let behind = front_of exact_hello said.0 (c.unread ++ bytes) more (all ∙ said.1) long in
        let front = maps_front (script_window lines) behind.0 more (ap (λ xs. xs ++ more) (sym behind.1) ∙ all) in
        let small : c.maps + front.0 + begun front.1 ≤ 1000 = let low = front.3 in omega (arith, none, low) in
        unbuilt (after_maps (script_window lines) front.0 front.1 (attached desk c))
        (hears_first lines desk c bytes behind.0 _ off behind.1 (front.0, front.1, front.2, small, refl))

-- bytes that are not built do not go on as any form that is
pub unbuilt_given : (lines : List Paint) (desk : List Window) (c : ClientSeen) (given bytes : List ℕ) → IsUnbuilt lines desk c bytes → IsGiven lines c given → IsBuilt lines (given ++ bytes) → ⊥
unbuilt_given lines desk c given bytes unbuilt is built = go c.greeted refl is
  where
    go : (b : Bool) → c.greeted ≡ b → IsGivenAs b lines c given → ⊥
    go true on is = unbuilt_maps lines desk c given bytes built.0 on unbuilt is built.1
    go false off is = unbuilt_first lines desk c bytes built.0 off unbuilt is.0 (ap (λ xs. (xs ++ bytes) ++ built.0) (sym is.1) ∙ built.1)

-- before its hello was accepted a client gave no whole hello
pub no_hello : (lines : List Paint) (c : ClientSeen) (given : List ℕ) → IsGiven lines c given → c.greeted ≡ false → HasHello given → ⊥
no_hello lines c given is off has = go (subst (λ b. IsGivenAs b lines c given) off is)
  where
    go : IsGivenAs false lines c given → ⊥
    go first =
        let short = part_shorter c.unread exact_hello first.2 in
        let sizes = ap length (sym first.1 ∙ has.1) ∙ length-append exact_hello has.0 in
        omega (arith, short, sizes)

-- so many packets and a part of one, and what makes them n
repeats_front : (packet : List ℕ) (n count : ℕ) (unread maps : List ℕ) → Repeats packet count unread maps → count + begun unread ≤ n → (more : List ℕ) × (maps ++ more ≡ concat (replicate n packet))
repeats_front packet n count [] maps repeats low = (
  concat (replicate (n - count) packet),
  ap (λ xs. xs ++ concat (replicate (n - count) packet)) (repeats.0 ∙ append-nil (concat (replicate count packet))) ∙ packets_sum packet count (n - count)
      ∙ ap (λ k. concat (replicate k packet)) (omega (arith, low)),
)
repeats_front packet n count (u ∷ unread) maps repeats low = (
  repeats.1.0 ++ left,
  ap (λ xs. xs ++ (repeats.1.0 ++ left)) repeats.0 ∙ append_assoc (concat (replicate count packet)) (u ∷ unread) (repeats.1.0 ++ left)
      ∙ ap (λ xs. concat (replicate count packet) ++ xs) (sym (append_assoc (u ∷ unread) repeats.1.0 left) ∙ ap (λ xs. xs ++ left) (sym repeats.1.2))
      ∙ one_more packet count left ∙ packets_sum packet (suc count) (n - suc count) ∙ ap (λ k. concat (replicate k packet)) all,
)
  where
    left : List ℕ
    left = concat (replicate (n - suc count) packet)

    all : suc count + (n - suc count) ≡ n
    all = omega (arith, low)

-- the same behind a hello
said_more : (hello packet : List ℕ) (n count : ℕ) (unread maps : List ℕ) → Repeats packet count unread maps → count + begun unread ≤ n → (more : List ℕ) × ((hello ++ maps) ++ more ≡ hello ++ concat (replicate n packet))
said_more hello packet n count unread maps repeats low =
    let front = repeats_front packet n count unread maps repeats low in
    (front.0, append_assoc hello maps front.0 ∙ ap (λ xs. hello ++ xs) front.1)

-- the same of all that a client may say
maps_built : (o : Option Geometry) (count : ℕ) (unread maps : List ℕ) → AreMaps o count unread maps → count + begun unread ≤ 1000 → (more : List ℕ) × ((exact_hello ++ maps) ++ more ≡ all_said o)
maps_built None count unread maps are low = ([], append-nil (exact_hello ++ maps) ∙ ap (λ xs. exact_hello ++ xs) are.2 ∙ append-nil exact_hello)
maps_built (Some g) count unread maps are low = said_more exact_hello (map_window g) 1000 count unread maps are low

-- what a client gave that is heard is of a form that is built
pub given_built : (lines : List Paint) (c : ClientSeen) (given : List ℕ) → IsGiven lines c given → IsBuilt lines given
given_built lines c given is = go c.greeted is
  where
    first : (o : Option Geometry) → given ≡ c.unread → IsPartOf c.unread exact_hello → (more : List ℕ) × (given ++ more ≡ all_said o)
    first o same part =
        let said = said_is o in
        (part.0 ++ said.0, sym (append_assoc given part.0 said.0) ∙ ap (λ xs. xs ++ said.0) (ap (λ xs. xs ++ part.0) same ∙ sym part.2) ∙ sym said.1)

    go : (b : Bool) → IsGivenAs b lines c given → IsBuilt lines given
    go true is =
        let built = maps_built (script_window lines) c.maps c.unread is.0 is.2 is.3 in
        (built.0, ap (λ xs. xs ++ built.0) is.1 ∙ built.1)
    go false is = first (script_window lines) is.1 is.2

-- once its hello was accepted a client gave it whole
pub has_hello : (lines : List Paint) (c : ClientSeen) (given : List ℕ) → IsGiven lines c given → c.greeted ≡ true → HasHello given × IsBuilt lines given
has_hello lines c given is on =
    let as_maps : IsGivenAs true lines c given = subst (λ b. IsGivenAs b lines c given) on is in
    ((as_maps.0, as_maps.1), given_built lines c given is)

-- a place fits a number
place_small : (z : ℤ) → IsPlace z → mag z < 2 ^ 63
place_small (pos n) is = omega (arith, ints, is.most)
place_small (negsuc n) is = omega (arith, ints, is.least)

-- a map is short
texts_size : (a b c d e : List ℕ) → length a ≤ 20 → length b ≤ 21 → length c ≤ 21 → length d ≤ 20 → length e ≤ 20
    → length (packet (codes "l10:map-window" ++ (codes "i" ++ a ++ codes "ei" ++ b ++ codes "ei" ++ c ++ codes "ei" ++ d ++ codes "ei" ++ e ++ codes "e") ++ codes "e")) ≤ 300
texts_size a b c d e wid x y w h = simp length-append (omega arith)

map_size : (g : Geometry) → IsGeometry g → length (map_window g) ≤ 300
map_size g is = texts_size (decimal g.wid) (signed_decimal g.x) (signed_decimal g.y) (decimal g.w) (decimal g.h)
    (number_short g.wid (omega (arith, is.number.last))) (signed_short g.x (place_small g.x is.across)) (signed_short g.y (place_small g.y is.down))
    (number_short g.w (omega (arith, is.wide.most))) (number_short g.h (omega (arith, is.high.most)))

-- a hello and a thousand such maps are fewer than 4 MiB
size_below : (given size : ℕ) → given ≤ length exact_hello + 1000 * size → size ≤ 300 → given < 4194304
size_below given size most small = omega (arith, most, small)

-- a front of a hello and so many packets is no longer than they are
said_size : (hello packet : List ℕ) (n : ℕ) (given more : List ℕ) → given ++ more ≡ hello ++ concat (replicate n packet) → length given ≤ length hello + n * length packet
said_size hello packet n given more is =
    let sizes = sym (length-append given more) ∙ ap length is ∙ length-append hello (concat (replicate n packet)) in
    let all = concat_size packet n in
    omega (arith, sizes, all)

-- the most that a client may say is short
pub built_size : (lines : List Paint) (given : List ℕ) → ((g : Geometry) → script_window lines ≡ Some g → IsGeometry g) → IsBuilt lines given → length given < 4194304
built_size lines given is built = go (script_window lines) is built.1
  where
    go : (o : Option Geometry) → ((g : Geometry) → o ≡ Some g → IsGeometry g) → given ++ built.0 ≡ all_said o → length given < 4194304
    go None is all = let sizes = sym (length-append given built.0) ∙ ap length all in omega (arith, sizes)
    go (Some g) is all =
        let small = map_size g (is g refl) in
        let most = said_size exact_hello (map_window g) 1000 given built.0 all in
        size_below (length given) (length (map_window g)) most small

-- the client with other packets, or more of the first taken
pub taken_as : (n : ℕ) (c : ClientSeen) (P : ClientSeen → Type 0) → ((packets : List Packet) (taken : ℕ) → P (record c { packets = packets; taken = taken })) → P (taken_more n c)
taken_as n c P all = go (nat_lt (c.taken + n) (front_size c.packets))
  where
    go : (b : Bool) → P (cond b (record c { taken = c.taken + n }) (record c { packets = drop 1 c.packets; taken = 0 }))
    go true = all c.packets (c.taken + n)
    go false = all (drop 1 c.packets) 0

-- a client with the same maps handled, and the same bytes that are not
given_same : (lines : List Paint) (c d : ClientSeen) (given : List ℕ) → d.greeted ≡ c.greeted → d.maps ≡ c.maps → d.unread ≡ c.unread → IsGiven lines c given → IsGiven lines d given
given_same lines c d given greeted maps unread is = subst (λ b. IsGivenAs b lines d given) (sym greeted) (go c.greeted is)
  where
    go : (b : Bool) → IsGivenAs b lines c given → IsGivenAs b lines d given
    go true is = (
      is.0,
      is.1,
      subst (λ n. AreMaps (script_window lines) n d.unread is.0) (sym maps) (subst (λ (rest : List ℕ). AreMaps (script_window lines) c.maps rest is.0) (sym unread) is.2),
      subst (λ n. n + begun d.unread ≤ 1000) (sym maps) (subst (λ (rest : List ℕ). c.maps + begun rest ≤ 1000) (sym unread) is.3),
    )
    go false is = (maps ∙ is.0, is.1 ∙ sym unread, subst (λ (rest : List ℕ). IsPartOf rest exact_hello) (sym unread) is.2)

-- a write, a capture and a paint line keep what was handled of the bytes given
pub given_wrote : (lines : List Paint) (n : ℕ) (c : ClientSeen) (given : List ℕ) → IsGiven lines c given → IsGiven lines (taken_more n c) given
given_wrote lines n c given is = taken_as n c (λ (d : ClientSeen). IsGiven lines d given) (λ packets taken. given_same lines c (record c { packets = packets; taken = taken }) given refl refl refl is)

pub given_captured : (lines : List Paint) (window : Window) (c c' : ClientSeen) (answer : Captured) (given : List ℕ) → CapturesWindow window c answer c' → IsGiven lines c given → IsGiven lines c' given
given_captured lines window c c' C.Closed given captures is = subst (λ (d : ClientSeen). IsGiven lines d given) (sym captures.1) is
given_captured lines window c c' C.Unmapped given captures is = subst (λ (d : ClientSeen). IsGiven lines d given) (sym captures.4) is
given_captured lines window c c' C.Clean given captures is = subst (λ (d : ClientSeen). IsGiven lines d given) (sym captures.5) is
given_captured lines window c c' (C.Early moment) given captures is = absurd captures
given_captured lines window c c' (C.Congested load) given captures is = absurd captures
given_captured lines window c c' (C.Heavy weight) given captures is = absurd captures
given_captured lines window c c' C.Spent given captures is = subst (λ (d : ClientSeen). IsGiven lines d given) (sym captures.6) is
given_captured lines window c c' C.NoMemory given captures is = subst (λ (d : ClientSeen). IsGiven lines d given) (sym captures.6) is
given_captured lines window c c' (C.Jobs n) given captures is =
    subst (λ (d : ClientSeen). IsGiven lines d given) (sym captures.7) (given_same lines c (captured window captures.0 captures.1 c) given refl refl refl is)

pub given_painted : (lines : List Paint) (line : Paint) (c : ClientSeen) (given : List ℕ) → IsGiven lines c given → IsGiven lines (painted_client line c) given
given_painted lines (Open wid x y w h) c given is = go c.greeted
  where
    g : Geometry
    g = record { wid = wid; x = x; y = y; w = w; h = h }

    new : ClientSeen
    new = record c { sources = c.sources ++ fresh_source g ∷ []; packets = c.packets ++ structure_packet (new_window g) ∷ [] }

    go : (b : Bool) → IsGiven lines (cond b new c) given
    go true = given_same lines c new given refl refl refl is
    go false = is
given_painted lines (Fill wid x y w h colour) c given is = given_same lines c (painted_client (Fill wid x y w h colour) c) given refl refl refl is
