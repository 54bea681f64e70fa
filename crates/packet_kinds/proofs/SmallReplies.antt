-- Replies may be written.
use Rattle.std.proofs.Common.{◌≡◌, ℕ, ◌^◌, ◌<◌, ◌≤◌, true, List, [], ◌∷◌, refl, lit≤, arith}
use Rattle.std.specs.Prelude.{ℤ, pos, negsuc, nat_lt}
use Rattle.std.proofs.lemmas.Bool.Decides.{nat_tests}
use Rattle.std.proofs.lemmas.Int.{ints}
use Rattle.bencode_values.specs.declared.value.Value.TheVariants as V
use Rattle.window_model.specs.Desktop.{IsPlace}
use Rattle.packet_kinds.specs.declared.to_client.ToClient.{ToClient}
use Rattle.packet_kinds.specs.declared.to_client.ToClient.TheVariants as T
use Rattle.packet_kinds.specs.Fields.{IsInteger}
use Rattle.packet_kinds.specs.FromFields.{IsIntegerItem}
use Rattle.packet_kinds.specs.ReplyLaws.{AnswersAreSmall}

pub small_integer : (n : ℕ) → n < 2 ^ 63 → IsInteger (pos n)
small_integer n small = grind (arith, nat_tests)

pub place_integer : (x : ℤ) → IsPlace x → IsInteger x
place_integer (pos n) is = let small : n ≤ 32767 = omega (arith, ints, is.most) in grind (arith, nat_tests)
place_integer (negsuc n) is = let small : n ≤ 32767 = omega (arith, ints, is.least) in grind (arith, nat_tests)

item : (x : ℤ) → IsInteger x → IsIntegerItem (V.Int x)
item x is = (x, refl, is)

pub answers_are_small : AnswersAreSmall
answers_are_small (T.Hello caps) is named = tt
answers_are_small (T.NewWindow wid x y w h) is named = (
  (
    small_integer wid (omega (arith, is.0.last)),
    record {
      integers = (item x (place_integer x is.1), (item y (place_integer y is.2), (item (pos w) (small_integer w (omega (arith, is.3.most))), (item (pos h) (small_integer h (omega (arith, is.4.most))), tt))));
      most = lit≤ tt;
    },
  ),
  tt,
)
answers_are_small (T.LostWindow wid) is named = tt
answers_are_small (T.WindowResized wid w h) is named = tt
answers_are_small (T.WindowMoveResize wid x y w h) is named = tt
answers_are_small (T.RaiseWindow wid) is named = tt
answers_are_small (T.Draw wid x y w h coding bytes sequence stride) is named =
    ((named, small_integer wid (omega (arith, is.0.last)), small_integer w (omega (arith, is.1.most)), small_integer h (omega (arith, is.2.most)), small_integer 0 (omega arith), ([], refl, lit≤ tt, refl)), tt)
answers_are_small (T.PingEcho t) is named = tt
answers_are_small (T.Disconnect reason) is named = tt
answers_are_small T.Other is named = tt
