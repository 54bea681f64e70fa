use Rattle.std.proofs.Common.{◌≡◌, ℕ, ◌+◌, ◌-◌, subst, arith}
use Rattle.std.specs.List.{AllByRecursion}
use Rattle.bencode_values.specs.Grammar.{Fits, PairFits}
use Rattle.bencode_values.proofs.Values.{fits-Int, fits-Bytes, fits-List, fits-Dict, fits-pair, of_Int, of_Bytes, of_List, of_Dict, of_pair}
use Rattle.bencode_values.proofs.laws.limits_by_form.Goals as goal

less : (room : ℕ) → room + 1 - 1 ≡ room
less room = omega arith

pub returns : goal.returns
returns c = record {
  int = λ room n. (of_Int room n, fits-Int room n);
  bytes = λ room text. (of_Bytes room text, fits-Bytes room text);
  list = λ room vs. (λ fits. subst (λ r. AllByRecursion (Fits r) vs) (less room) (of_List (room + 1) vs fits).1, fits-List room vs);
  dict = λ room ps. (λ fits. subst (λ r. AllByRecursion (PairFits r) ps) (less room) (of_Dict (room + 1) ps fits).1, fits-Dict room ps);
  pair = λ room k v. (of_pair room k v, λ parts. fits-pair room k v parts.0 parts.1);
}
