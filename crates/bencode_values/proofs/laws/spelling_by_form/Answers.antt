use Rattle.bencode_values.proofs.Values.{spelled-Int, spelled-Bytes, spelled-List, spelled-Dict, spelled_pair-record}
use Rattle.bencode_values.proofs.laws.spelling_by_form.Goals as goal

pub returns : goal.returns
returns c = record {
  int = spelled-Int;
  bytes = spelled-Bytes;
  list = spelled-List;
  dict = spelled-Dict;
  pair = spelled_pair-record;
}
