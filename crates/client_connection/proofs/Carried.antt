-- The packets of the first path are messages that a client reads.
use Rattle.std.proofs.Common.{Some, ◌≡◌, ℕ, ◌*◌, ◌^◌, ◌<◌, ◌≤◌, true, false, List, [], ◌∷◌, None, length, map, refl, ap, ◌∙◌, arith}
use Rattle.std.proofs.lemmas.Bool.Decides.{nat_tests}
use Rattle.std.proofs.Math.Nat.{mul-le-mul}
use Rattle.xp_base.specs.declared.coding.Coding.TheVariants.{Exact}
use Rattle.window_model.specs.Desktop.{Window, IsWindow, IsSide, IsPlace}
use Rattle.rgb_encoders.specs.PixelBytes.{coded_bytes}
use Rattle.rgb_encoders.specs.Decoded.{decoded}
use Rattle.rgb_encoders.proofs.Lengths.{length-coded_bytes}
use Rattle.rgb_encoders.proofs.Shown.{decoded-coded_bytes}
use Rattle.hello_caps.specs.Replies.{server_hello_value, server_pairs}
use Rattle.hello_caps.proofs.Spellings.{exact_hello, hello_written}
use Rattle.packet_kinds.specs.declared.to_client.ToClient.{ToClient}
use Rattle.packet_kinds.specs.declared.to_client.ToClient.TheVariants as T
use Rattle.bencode_values.specs.declared.value.Value.TheVariants as V
use Rattle.packet_frames.specs.Written.{MayBeWritten}
use Rattle.packet_kinds.specs.ToClients.{to_value, to_chunk}
use Rattle.packet_kinds.specs.Fields.{HasFields, IsPlain, drawn_size, IsNumber}
use Rattle.packet_kinds.specs.Effects.{holds_pixels}
use Rattle.packet_kinds.specs.Written.{IsMessage, message_bytes}
use Rattle.packet_kinds.proofs.Sizes.{may_be_written, is_within}
use Rattle.packet_kinds.proofs.ToWritten.{read_back}
use Rattle.client_connection.specs.declared.geometry.Geometry.{Geometry}
use Rattle.client_connection.specs.Wire.{client_limit, announces, new_window, draws_whole, draw, server_hello, geometry_of}

-- a message without caps or reason
plain_message : (m : ToClient) → IsPlain m → HasFields m → drawn_size m ≤ client_limit → IsMessage client_limit (message_bytes m) m
plain_message m plain fields small =
    let back = read_back m fields in
    record {
      value = to_value m;
      chunk = to_chunk m;
      whole = back.0;
      written = may_be_written m plain fields (omega (arith, small));
      within = is_within m client_limit plain fields (omega arith) small;
      fits = back.1;
      bytes_are = refl;
      read = back.2;
    }

-- what a window's announcement may name
pub record IsGeometry (g : Geometry) : Type 0 where
  pub number : IsNumber g.wid
  pub across : IsPlace g.x
  pub down : IsPlace g.y
  pub wide : IsSide g.w
  pub high : IsSide g.h

pub geometry_is : (window : Window) → IsWindow window → IsGeometry (geometry_of window)
geometry_is window is = record {
  number = record { first = is.first; last = omega (arith, is.last) };
  across = is.across;
  down = is.down;
  wide = is.wide;
  high = is.high;
}

pub announces_message : (g : Geometry) → IsGeometry g → IsMessage client_limit (new_window g) (announces g)
announces_message g is = plain_message (announces g) tt (is.number, is.across, is.down, is.wide, is.high) (omega arith)

pub announces_written : (g : Geometry) → IsGeometry g → MayBeWritten (to_value (announces g)) (to_chunk (announces g))
announces_written g is = may_be_written (announces g) tt (is.number, is.across, is.down, is.wide, is.high) (omega arith)

-- how many bytes the pixels of a window are
draw_size : (window : Window) → IsWindow window → length (coded_bytes Exact window.pixels) ≤ client_limit
draw_size window is =
    let count : window.w * window.h ≤ 4096 * 4096 = mul-le-mul is.wide.most is.high.most in
    omega (arith, length-coded_bytes Exact window.pixels, is.sized, count)

pub draw_fields : (window : Window) (sequence : ℕ) → IsWindow window → sequence < 2 ^ 63 → HasFields (draws_whole window sequence)
draw_fields window sequence is low = (
  record { first = is.first; last = omega (arith, is.last) },
  record { some = is.wide.some; most = omega (arith, is.wide.most) },
  record { some = is.high.some; most = omega (arith, is.high.most) },
  grind (arith, nat_tests, low),
  record { some = omega (arith, is.wide.some); most = omega (arith, is.wide.most) },
)

pub draws_message : (window : Window) (sequence : ℕ) → IsWindow window → sequence < 2 ^ 63 → IsMessage client_limit (draw window sequence) (draws_whole window sequence)
draws_message window sequence is low = plain_message (draws_whole window sequence) tt (draw_fields window sequence is low) (draw_size window is)

pub draws_written : (window : Window) (sequence : ℕ) → IsWindow window → sequence < 2 ^ 63 → MayBeWritten (to_value (draws_whole window sequence)) (to_chunk (draws_whole window sequence))
draws_written window sequence is low = may_be_written (draws_whole window sequence) tt (draw_fields window sequence is low) (omega (arith, draw_size window is))

-- its bytes fit its size
pub draw_holds : (window : Window) → IsWindow window → holds_pixels Exact window.w window.h (window.w * 4) (coded_bytes Exact window.pixels) ≡ true
draw_holds window is =
    let count : length (coded_bytes Exact window.pixels) ≡ window.w * 4 * window.h = length-coded_bytes Exact window.pixels ∙ ap (λ n. n * 4) is.sized ∙ grind arith in
    grind (arith, nat_tests, count)

-- the draw's bytes show the window
pub draw_shows : (window : Window) → IsWindow window → decoded Exact window.w window.h (window.w * 4) (coded_bytes Exact window.pixels) ≡ window.pixels
draw_shows window is = decoded-coded_bytes Exact window.w window.h window.pixels is.sized ∙ map_same window.pixels
  where
    map_same : (numbers : List ℕ) → map (λ n. n) numbers ≡ numbers
    map_same [] = refl
    map_same (n ∷ numbers) = ap (λ ns. n ∷ ns) (map_same numbers)

-- the message that the server's hello is
abbrev pub greets : ToClient
greets = T.Hello (Some (V.Dict (server_pairs false)))

-- the server's hello
pub hello_message : IsMessage client_limit server_hello greets
unfolding server_hello_value to_value to_chunk
hello_message =
    let back = read_back greets tt in
    record {
      value = server_hello_value false;
      chunk = None;
      whole = back.0;
      written = hello_written false;
      within = record { content = omega (arith, ap length exact_hello); chunk_content = tt };
      fits = back.1;
      bytes_are = refl;
      read = back.2;
    }
