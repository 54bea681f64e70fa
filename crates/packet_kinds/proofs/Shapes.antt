-- The fields of packets that are read.
use Rattle.std.proofs.Common.{◌≡◌, ℕ, ◌+◌, ◌≤◌, ℤ, pos, negsuc, Bool, true, false, cond, leb, ◌&&◌, List, refl, subst, arith}
use Rattle.std.specs.Prelude.{Option, Some, None, Result, Ok, codes, bytes_eq, slice_get}
use Rattle.std.specs.Option.{option_and_then}
use Rattle.std.proofs.lemmas.Bool.Decides.{nat_tests}
use Rattle.std.proofs.lemmas.Int.{ints}
use Rattle.xp_base.specs.declared.coding.Coding.{Coding}
use Rattle.bencode_values.specs.declared.value.Value.{Value}
use Rattle.window_model.specs.Desktop.{IsPlace, IsSide}
use Rattle.packet_kinds.specs.declared.to_client.ToClient.{ToClient}
use Rattle.packet_kinds.specs.declared.to_client.ToClient.TheVariants as T
use Rattle.packet_kinds.specs.Items.{need, items_of, int_at, bytes_at, natural, place, place_at, wid_at, side_at, point_at, side_from, coding_at, stride_at}
use Rattle.packet_kinds.specs.ToShapes.{new_window_in, lost_window_in, window_resized_in, move_resize_in, raise_window_in, draw_data_in, draw_in, ping_echo_in, to_client_named, to_client}
use Rattle.packet_kinds.specs.Fields.{IsNumber, IsSpan, IsStride, IsInRange, IsNamed, HasFields}
use Rattle.packet_kinds.specs.Laws.{ReadIsInRange, ReadHasFields}

same_item : {A : Type 0} (a b : A) → Some a ≡ Some b → a ≡ b
same_item a b e = cc

same_read : (a b : ToClient) → (let r : Result ToClient ℕ = Ok a in r ≡ Ok b) → a ≡ b
same_read a b e = cc

-- a number that was let pass
let_pass : (b : Bool) (a n : ℕ) → cond b (Some a) None ≡ Some n → (b ≡ true) × (a ≡ n)
let_pass true a n e = (refl, same_item a n e)
let_pass false a n e = absurd (cc)

natural_passes : (least most : ℕ) (o : Option ℤ) (n : ℕ) → option_and_then (natural least most) o ≡ Some n → (least ≤ n) × (n ≤ most)
natural_passes least most None n e = absurd (cc)
natural_passes least most (Some (pos a)) n e =
    let passed = let_pass (leb least a && leb a most) a n e in
    let test = passed.0 in
    let same = passed.1 in
    grind (arith, nat_tests)
natural_passes least most (Some (negsuc a)) n e = absurd (cc)

place_passes : (o : Option ℤ) (n : ℤ) → option_and_then place o ≡ Some n → IsPlace n
place_passes None n e = absurd (cc)
place_passes (Some (pos a)) n e = pos_place (leb a 32767) refl e where
  pos_place : (b : Bool) → leb a 32767 ≡ b → cond b (Some (pos a)) None ≡ Some n → IsPlace n
  pos_place true test f = subst IsPlace (same_item (pos a) n f) (record { least = omega (arith, ints); most = grind (arith, nat_tests, ints) })
  pos_place false test f = absurd (cc)
place_passes (Some (negsuc a)) n e = neg_place (leb a 32767) refl e where
  neg_place : (b : Bool) → leb a 32767 ≡ b → cond b (Some (negsuc a)) None ≡ Some n → IsPlace n
  neg_place true test f = subst IsPlace (same_item (negsuc a) n f) (record { least = grind (arith, nat_tests, ints); most = omega (arith, ints) })
  neg_place false test f = absurd (cc)

-- what an item is, where it is there
abbrev Passes : {A : Type 0} → (A → Type 0) → Option A → Type 0
Passes {A} P o = (a : A) → o ≡ Some a → P a

number_passes : (items : List Value) (i : ℕ) → Passes IsNumber (wid_at items i)
number_passes items i n e = let bounds = natural_passes 1 65535 (int_at items i) n e in record { first = bounds.0; last = omega arith }

side_passes : (items : List Value) (i : ℕ) → Passes IsSide (side_at items i)
side_passes items i n e = let bounds = natural_passes 1 4096 (int_at items i) n e in record { some = bounds.0; most = bounds.1 }

stride_passes : (items : List Value) (i : ℕ) → Passes IsStride (stride_at items i)
stride_passes items i n e = let bounds = natural_passes 1 67108864 (int_at items i) n e in record { some = bounds.0; most = bounds.1 }

coordinate_passes : (items : List Value) (i : ℕ) → Passes IsPlace (place_at items i)
coordinate_passes items i n e = place_passes (int_at items i) n e

within_passes : (start : ℕ) (o : Option ℕ) → Passes IsSide o → Passes (IsSpan start) (option_and_then (λ side. cond (leb (start + side) 4096) (Some side) None) o)
within_passes start None is n e = absurd (cc)
within_passes start (Some side) is n e =
    let passed = let_pass (leb (start + side) 4096) side n e in
    let test = passed.0 in
    let same = passed.1 in
    let some = (is side refl).some in
    record { some = omega (arith, same, some); most = grind (arith, nat_tests) }

side_from_passes : (start : ℕ) (items : List Value) (i : ℕ) → Passes (IsSpan start) (side_from start items i)
side_from_passes start items i = within_passes start (side_at items i) (side_passes items i)

new_window_by : (m : ToClient) (wid : Option ℕ) (x y : Option ℤ) (w h : Option ℕ) → Passes IsNumber wid → Passes IsPlace x → Passes IsPlace y → Passes IsSide w → Passes IsSide h
    → need 1 wid (λ wid. need 2 x (λ x. need 3 y (λ y. need 4 w (λ w. need 5 h (λ h. Ok (T.NewWindow wid x y w h)))))) ≡ Ok m → IsInRange m
new_window_by m None x y w h a b c d f e = absurd (cc)
new_window_by m (Some wid) None y w h a b c d f e = absurd (cc)
new_window_by m (Some wid) (Some x) None w h a b c d f e = absurd (cc)
new_window_by m (Some wid) (Some x) (Some y) None h a b c d f e = absurd (cc)
new_window_by m (Some wid) (Some x) (Some y) (Some w) None a b c d f e = absurd (cc)
new_window_by m (Some wid) (Some x) (Some y) (Some w) (Some h) a b c d f e = subst IsInRange (same_read _ m e) (a wid refl, b x refl, c y refl, d w refl, f h refl)

move_resize_by : (m : ToClient) (wid : Option ℕ) (x y : Option ℤ) (w h : Option ℕ) → Passes IsNumber wid → Passes IsPlace x → Passes IsPlace y → Passes IsSide w → Passes IsSide h
    → need 1 wid (λ wid. need 2 x (λ x. need 3 y (λ y. need 4 w (λ w. need 5 h (λ h. Ok (T.WindowMoveResize wid x y w h)))))) ≡ Ok m → IsInRange m
move_resize_by m None x y w h a b c d f e = absurd (cc)
move_resize_by m (Some wid) None y w h a b c d f e = absurd (cc)
move_resize_by m (Some wid) (Some x) None w h a b c d f e = absurd (cc)
move_resize_by m (Some wid) (Some x) (Some y) None h a b c d f e = absurd (cc)
move_resize_by m (Some wid) (Some x) (Some y) (Some w) None a b c d f e = absurd (cc)
move_resize_by m (Some wid) (Some x) (Some y) (Some w) (Some h) a b c d f e = subst IsInRange (same_read _ m e) (a wid refl, b x refl, c y refl, d w refl, f h refl)

lost_window_by : (m : ToClient) (wid : Option ℕ) → Passes IsNumber wid → need 1 wid (λ wid. Ok (T.LostWindow wid)) ≡ Ok m → IsInRange m
lost_window_by m None a e = absurd (cc)
lost_window_by m (Some wid) a e = subst IsInRange (same_read _ m e) (a wid refl)

raise_window_by : (m : ToClient) (wid : Option ℕ) → Passes IsNumber wid → need 1 wid (λ wid. Ok (T.RaiseWindow wid)) ≡ Ok m → IsInRange m
raise_window_by m None a e = absurd (cc)
raise_window_by m (Some wid) a e = subst IsInRange (same_read _ m e) (a wid refl)

window_resized_by : (m : ToClient) (wid w h : Option ℕ) → Passes IsNumber wid → Passes IsSide w → Passes IsSide h
    → need 1 wid (λ wid. need 2 w (λ w. need 3 h (λ h. Ok (T.WindowResized wid w h)))) ≡ Ok m → IsInRange m
window_resized_by m None w h a b c e = absurd (cc)
window_resized_by m (Some wid) None h a b c e = absurd (cc)
window_resized_by m (Some wid) (Some w) None a b c e = absurd (cc)
window_resized_by m (Some wid) (Some w) (Some h) a b c e = subst IsInRange (same_read _ m e) (a wid refl, b w refl, c h refl)

draw_data_by : (m : ToClient) (items : List Value) (wid x y w h : ℕ) (coding : Option Coding) (bytes : Option (List ℕ)) (sequence : Option ℤ) (stride : Option ℕ)
    → IsNumber wid → IsSpan x w → IsSpan y h → Passes IsStride stride
    → need 6 coding (λ coding. need 7 bytes (λ bytes. need 8 sequence (λ sequence. need 9 stride (λ stride. Ok (T.Draw wid x y w h coding bytes sequence stride))))) ≡ Ok m → IsInRange m
draw_data_by m items wid x y w h None bytes sequence stride number across down is e = absurd (cc)
draw_data_by m items wid x y w h (Some coding) None sequence stride number across down is e = absurd (cc)
draw_data_by m items wid x y w h (Some coding) (Some bytes) None stride number across down is e = absurd (cc)
draw_data_by m items wid x y w h (Some coding) (Some bytes) (Some sequence) None number across down is e = absurd (cc)
draw_data_by m items wid x y w h (Some coding) (Some bytes) (Some sequence) (Some stride) number across down is e =
    subst IsInRange (same_read _ m e) (number, across, down, is stride refl)

draw_by : (items : List Value) (m : ToClient) (wid x y : Option ℕ) → Passes IsNumber wid
    → need 1 wid (λ wid. need 2 x (λ x. need 3 y (λ y. need 4 (side_from x items 4) (λ w. need 5 (side_from y items 5) (λ h. draw_data_in items wid x y w h))))) ≡ Ok m → IsInRange m
draw_by items m None x y a e = absurd (cc)
draw_by items m (Some wid) None y a e = absurd (cc)
draw_by items m (Some wid) (Some x) None a e = absurd (cc)
draw_by items m (Some wid) (Some x) (Some y) a e = sides (side_from x items 4) (side_from y items 5) (side_from_passes x items 4) (side_from_passes y items 5) e where
  sides : (w h : Option ℕ) → Passes (IsSpan x) w → Passes (IsSpan y) h → need 4 w (λ w. need 5 h (λ h. draw_data_in items wid x y w h)) ≡ Ok m → IsInRange m
  sides None h b c f = absurd (cc)
  sides (Some w) None b c f = absurd (cc)
  sides (Some w) (Some h) b c f =
      draw_data_by m items wid x y w h (coding_at items 6) (bytes_at items 7) (int_at items 8) (stride_at items 9) (a wid refl) (b w refl) (c h refl) (stride_passes items 9) f

ping_echo_by : (m : ToClient) (t : Option ℤ) → need 1 t (λ t. Ok (T.PingEcho t)) ≡ Ok m → IsInRange m
ping_echo_by m None e = absurd (cc)
ping_echo_by m (Some t) e = subst IsInRange (same_read _ m e) tt

-- of two readings one was taken
taken : (m : ToClient) (b : Bool) (first rest : Result ToClient ℕ) → (first ≡ Ok m → IsInRange m) → (rest ≡ Ok m → IsInRange m) → cond b first rest ≡ Ok m → IsInRange m
taken m true first rest one other e = one e
taken m false first rest one other e = other e

module _ (name : List ℕ) (items : List Value) (m : ToClient) where
  abbrev is : List ℕ → Bool
  is other = bytes_eq name other

  abbrev last : Result ToClient ℕ
  last = cond (is (codes "disconnect")) (Ok (T.Disconnect (slice_get items 1))) (Ok T.Other)

  abbrev fourth : Result ToClient ℕ
  fourth = cond (is (codes "draw")) (draw_in items) (cond (is (codes "ping_echo")) (ping_echo_in items) last)

  abbrev third : Result ToClient ℕ
  third = cond (is (codes "window-move-resize")) (move_resize_in items) (cond (is (codes "raise-window")) (raise_window_in items) fourth)

  abbrev second : Result ToClient ℕ
  second = cond (is (codes "lost-window")) (lost_window_in items) (cond (is (codes "window-resized")) (window_resized_in items) third)

  last_has : last ≡ Ok m → IsInRange m
  last_has = taken m (is (codes "disconnect")) (Ok (T.Disconnect (slice_get items 1))) (Ok T.Other) (λ e. subst IsInRange (same_read _ m e) tt) (λ e. subst IsInRange (same_read _ m e) tt)

  fourth_has : fourth ≡ Ok m → IsInRange m
  fourth_has = taken m (is (codes "draw")) (draw_in items) (cond (is (codes "ping_echo")) (ping_echo_in items) last)
      (draw_by items m (wid_at items 1) (point_at items 2) (point_at items 3) (number_passes items 1))
      (taken m (is (codes "ping_echo")) (ping_echo_in items) last (ping_echo_by m (int_at items 1)) last_has)

  third_has : third ≡ Ok m → IsInRange m
  third_has = taken m (is (codes "window-move-resize")) (move_resize_in items) (cond (is (codes "raise-window")) (raise_window_in items) fourth)
      (move_resize_by m (wid_at items 1) (place_at items 2) (place_at items 3) (side_at items 4) (side_at items 5)
      (number_passes items 1) (coordinate_passes items 2) (coordinate_passes items 3) (side_passes items 4) (side_passes items 5))
      (taken m (is (codes "raise-window")) (raise_window_in items) fourth (raise_window_by m (wid_at items 1) (number_passes items 1)) fourth_has)

  second_has : second ≡ Ok m → IsInRange m
  second_has = taken m (is (codes "lost-window")) (lost_window_in items) (cond (is (codes "window-resized")) (window_resized_in items) third)
      (lost_window_by m (wid_at items 1) (number_passes items 1))
      (taken m (is (codes "window-resized")) (window_resized_in items) third
      (window_resized_by m (wid_at items 1) (side_at items 2) (side_at items 3) (number_passes items 1) (side_passes items 2) (side_passes items 3)) third_has)

  named_has_fields : to_client_named name items ≡ Ok m → IsInRange m
  named_has_fields = taken m (is (codes "hello")) (Ok (T.Hello (slice_get items 1))) (cond (is (codes "new-window")) (new_window_in items) second)
      (λ e. subst IsInRange (same_read _ m e) tt)
      (taken m (is (codes "new-window")) (new_window_in items) second
      (new_window_by m (wid_at items 1) (place_at items 2) (place_at items 3) (side_at items 4) (side_at items 5)
      (number_passes items 1) (coordinate_passes items 2) (coordinate_passes items 3) (side_passes items 4) (side_passes items 5)) second_has)

read_by : (items : Option (List Value)) (m : ToClient) → need 0 items (λ items. need 0 (bytes_at items 0) (λ name. to_client_named name items)) ≡ Ok m → IsInRange m
read_by None m e = absurd (cc)
read_by (Some items) m e = named_by (bytes_at items 0) e where
  named_by : (name : Option (List ℕ)) → need 0 name (λ name. to_client_named name items) ≡ Ok m → IsInRange m
  named_by None f = absurd (cc)
  named_by (Some name) f = named_has_fields name items m f

pub read_in_range : ReadIsInRange
unfolding to_client
read_in_range v m e = read_by (items_of v) m e

-- in range, with a name and integers of 64 bits, it has what it needs to be written
writable : (m : ToClient) → IsInRange m → IsNamed m → HasFields m
writable (T.Hello caps) is named = tt
writable (T.NewWindow wid x y w h) is named = is
writable (T.LostWindow wid) is named = is
writable (T.WindowResized wid w h) is named = is
writable (T.WindowMoveResize wid x y w h) is named = is
writable (T.RaiseWindow wid) is named = is
writable (T.Draw wid x y w h coding bytes sequence stride) is named = (is.0, is.1, is.2, named, is.3)
writable (T.PingEcho t) is named = named
writable (T.Disconnect reason) is named = tt
writable T.Other is named = absurd named

pub read_has_fields : ReadHasFields
read_has_fields v m e named = writable m (read_in_range v m e) named
